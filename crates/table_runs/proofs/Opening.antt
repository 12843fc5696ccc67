-- A job opens: its legs, which are new, know their groups, given the results of the run's jobs, which do not change any more.
use Rattle.std.specs.Prelude.{◌≡◌, ◌+◌, ◌⊎◌, ℕ, zero, suc, List, [], ◌∷◌, length, map, nat_eq, Bool, true, false, Option, None, Some, is_some}
use Rattle.std.specs.Prelude.{option_and_then, option_map, slice_get, refl}
use Rattle.std.specs.Option.{option_map_or}
use Rattle.std.proofs.Common.{arith, ap, inl, inr, subst, sym, ◌∙◌}
use Rattle.std.proofs.lemmas.Bool.{and_parts, cases_eq, eqb-true, true≢false}
use Rattle.std.proofs.lemmas.List.{nil_from_length}
use Rattle.std.proofs.lemmas.Option.{same_Some}
use Rattle.group_book.specs.Books.{BookState, slot_in}
use Rattle.group_book.proofs.Exact.{exact_within}
use Rattle.table_model.specs.Runs.{changed_at, results_so_far, finished_result, job_at, leg_at, run_at, with_job}
use Rattle.table_model.specs.Groups.{group_at, holds, is_in, leg_holds, leg_waits, run_waits, waits}
use Rattle.table_model.specs.Holders.{run_of}
use Rattle.table_model.specs.inner.Resuming.{is_new_at}
use Rattle.table_model.specs.Runs.{JobState, LegState, RunState, is_blocked, is_live, is_new, opened}
use Rattle.table_model.specs.declared.holder.Holder.{Holder}
use Rattle.table_model.specs.declared.holder.Holder.TheVariants.{Run, Leg}
use Rattle.table_model.specs.declared.phases.JobPhase.{JobPhase}
use Rattle.table_model.specs.declared.phases.JobPhase.TheVariants as job
use Rattle.table_model.specs.declared.phases.LegPhase.{LegPhase}
use Rattle.table_model.specs.declared.phases.LegPhase.TheVariants as leg
use Rattle.table_model.specs.declared.sites.LegSite.{LegSite}
use Rattle.table_model.proofs.Changed.{at_another, at_changed, length-changed_at}
use Rattle.table_model.proofs.JobKeeps.{with_job_of}
use Rattle.table_model.proofs.RunFits.{RunsFit}
use Rattle.table_model.proofs.Settles.{StayFit}
use Rattle.table_bindings.specs.Bindings.{group_request_of}
use Rattle.table_bindings.specs.BoundGroups.{results_by_index}
use Rattle.table_bindings.specs.GroupKeys.{AreLater, decided, holder_key, key_in, requests_of, ticket_in}
use Rattle.table_bindings.specs.declared.bindings.JobBindings.{JobBindings}
use Rattle.table_bindings.specs.declared.bindings.RunBindings.{RunBindings}
use Rattle.table_bindings.specs.declared.group_keys.HolderKey.{HolderKey}
use Rattle.table_bindings.proofs.BoundSays.{SaysBoth}
use Rattle.table_runs.proofs.DecidedThere.{decided_elsewhere, decided_here, flags_decided_of, keys_decided_of, tickets_decided_of}
use Rattle.settling_laws.proofs.KeptBack.{RunsStillFor, runs_still}
use Rattle.settling_laws.proofs.HoldersFade.{by_run, job_passes, leg_passes, passes, run_passes}
use Rattle.settling_laws.proofs.OneEach.{groups_stay}
use Rattle.settling_laws.proofs.OneEachRules.{replicate_fails}
use Rattle.table_runs.specs.inner.GroupsKept.{AreExact, AreShaped, AreTold, GroupsAreKept, Knows, arrivals_to_come, is_blocked_at, is_there, is_unopened}
use Rattle.table_runs.specs.inner.HolderChanges.{StaysAs}
use Rattle.table_runs.specs.inner.RowsKept.{decided_in, holder_key_at, keys_decided}
use Rattle.table_runs.proofs.GroupsHeld.{Entries}
use Rattle.table_runs.proofs.HoldersThere.{one_of, tells, there_if_holds, there_if_new, there_if_waits}
use Rattle.table_runs.proofs.OneChange.{cancels_stay, some_is}
use Rattle.table_runs.proofs.Shaped.{shaped_changed}

-- ---- the requests of a job are those of its legs

request_there : (kept : RunBindings) (p : LegSite) → slice_get (requests_of kept.jobs p.job) p.leg ≡ group_request_of kept (Leg p)
request_there kept p = by (slice_get kept.jobs p.job)
  where
    by : (o : Option JobBindings)
        → slice_get (option_map_or (λ (job : JobBindings). job.groups) o []) p.leg
        ≡ option_and_then (λ (job : JobBindings). slice_get job.groups p.leg) o
    by None = refl
    by (Some job) = refl

abbrev read : Holder → Option RunBindings → Option HolderKey
read h = option_and_then (λ (b : RunBindings). holder_key b.keys h)

module _ (runs : List RunState) (bindings : List RunBindings) (r j : ℕ) (x : RunState) (there : run_at runs r ≡ Some x) where
  decided_bindings : keys_decided r j runs bindings ≡ changed_at r (decided_in j x) bindings
  decided_bindings = ap (λ o. option_map_or (λ (run : RunState). changed_at r (decided_in j run) bindings) o bindings) there

  another_row : (s : ℕ) → (s ≡ r → ⊥) → slice_get (keys_decided r j runs bindings) s ≡ slice_get bindings s
  another_row s other = ap (λ bs. slice_get bs s) decided_bindings ∙ at_another r (decided_in j x) bindings s other

  row_now : slice_get (keys_decided r j runs bindings) r ≡ option_map (decided_in j x) (slice_get bindings r)
  row_now = ap (λ bs. slice_get bs r) decided_bindings ∙ at_changed r (decided_in j x) bindings

  -- whoever is no leg of the job
  apart_in_row : (o : Option RunBindings) (h : Holder) → ((p : LegSite) → h ≡ Leg p → p.job ≡ j → ⊥)
      → read h (option_map (decided_in j x) o) ≡ read h o
  apart_in_row None h apart = refl
  apart_in_row (Some b) (Run s) apart = refl
  apart_in_row (Some b) (Leg p) apart =
      decided_elsewhere (results_by_index x) (requests_of b.jobs j) b.keys j p (apart p refl)

  pub key_apart : (h : Holder) → ((p : LegSite) → h ≡ Leg p → p.run ≡ r → p.job ≡ j → ⊥)
      → holder_key_at (keys_decided r j runs bindings) h ≡ holder_key_at bindings h
  key_apart h apart =
      elim (cases_eq (run_of h) r) [
        | inr other ↦ ap (read h) (another_row (run_of h) other)
        | inl same ↦
            ap (λ s. read h (slice_get (keys_decided r j runs bindings) s)) same
            ∙ ap (read h) row_now
            ∙ apart_in_row (slice_get bindings r) h (λ p is job. apart p is (sym (ap run_of is) ∙ same) job)
            ∙ ap (λ s. read h (slice_get bindings s)) (sym same)
      ]

  module _ (kept : RunBindings) (legs : List HolderKey) (at : slice_get bindings r ≡ Some kept) (its_legs : slice_get kept.keys.jobs j ≡ Some legs)
    where
      -- a leg of the job
      pub key_here : (p : LegSite) → p.run ≡ r → p.job ≡ j
          → holder_key_at (keys_decided r j runs bindings) (Leg p) ≡ option_map (decided (results_by_index x)) (group_request_of kept (Leg p))
      key_here p is_r is_j =
          ap (λ s. read (Leg p) (slice_get (keys_decided r j runs bindings) s)) is_r
          ∙ ap (read (Leg p)) (row_now ∙ ap (option_map (decided_in j x)) at)
          ∙ decided_here (results_by_index x) (requests_of kept.jobs j) kept.keys j p legs is_j its_legs
          ∙ ap (λ i. option_map (decided (results_by_index x)) (slice_get (requests_of kept.jobs i) p.leg)) (sym is_j)
          ∙ ap (option_map (decided (results_by_index x))) (request_there kept p)

      -- and what it says in a table, by the results of the run
      module _ (table : List RunState) (p : LegSite) (is_r : p.run ≡ r) (is_j : p.job ≡ j) (says : SaysBoth table (Leg p) x kept) where
        pub leg_knows : Knows table (keys_decided r j runs bindings) (Leg p)
        leg_knows = record {
          group = ap (option_and_then key_in) (key_here p is_r is_j)
              ∙ keys_decided_of (results_by_index x) (group_request_of kept (Leg p)) ∙ says.0;
          cancels = (λ known e.
              flags_decided_of (results_by_index x) (group_request_of kept (Leg p)) known (sym (key_here p is_r is_j) ∙ e) ∙ says.1);
        }

        pub leg_has_ticket : option_and_then ticket_in (holder_key_at (keys_decided r j runs bindings) (Leg p)) ≡ group_at table (Leg p)
        leg_has_ticket =
            ap (option_and_then ticket_in) (key_here p is_r is_j)
            ∙ tickets_decided_of (results_by_index x) (group_request_of kept (Leg p)) ∙ says.0

-- ---- who waits and holds is as before

same_reading_at : {X Y : Type 0} (test : X → Y) (d : Y) (f : X → X) (i : ℕ) (xs : List X)
    → ((x : X) → slice_get xs i ≡ Some x → test (f x) ≡ test x) → (k : ℕ)
    → option_map_or test (slice_get (changed_at i f xs) k) d ≡ option_map_or test (slice_get xs k) d
same_reading_at test d f i [] same k = refl
same_reading_at test d f zero (x ∷ xs) same zero = same x refl
same_reading_at test d f zero (x ∷ xs) same (suc k) = refl
same_reading_at test d f (suc i) (x ∷ xs) same zero = refl
same_reading_at test d f (suc i) (x ∷ xs) same (suc k) = same_reading_at test d f i xs same k

opened_passes : (test : LegPhase → Bool) → test leg.New ≡ false → (n l : ℕ) (y : JobState) → length y.legs ≡ 0
    → job_passes test l (opened n y) ≡ job_passes test l y
opened_passes test fails n l y none =
    replicate_fails test fails n l ∙ sym (ap (λ (legs : List LegState). passes (leg_passes test) (slice_get legs l)) (nil_from_length y.legs none))

module _ (runs : List RunState) (r j n : ℕ) (unopened : is_blocked_at runs r j ≡ true) where
  abbrev next : List RunState
  next = with_job r j (opened n) runs

  no_legs_there : (x : RunState) (y : JobState) → run_at runs r ≡ Some x → slice_get x.jobs j ≡ Some y → is_unopened y ≡ true
  no_legs_there x y at here =
      ap (λ o. option_map_or is_unopened o false)
      (sym (ap (option_and_then (λ (z : RunState). slice_get z.jobs j)) at ∙ here)) ∙ unopened

  legs_none : (y : JobState) → is_unopened y ≡ true → length y.legs ≡ 0
  legs_none y is = eqb-true (length y.legs) 0 (and_parts (is_blocked y.phase) (nat_eq (length y.legs) 0) is).1

  runs_pass : (test : LegPhase → Bool) → test leg.New ≡ false → (i l : ℕ) (x : RunState) → run_at runs r ≡ Some x
      → run_passes test i l (with_job_of j (opened n) x) ≡ run_passes test i l x
  runs_pass test fails i l x at =
      same_reading_at (job_passes test l) false (opened n) j x.jobs
      (λ y here. opened_passes test fails n l y (legs_none y (no_legs_there x y at here))) i

  legs_pass : (test : LegPhase → Bool) → test leg.New ≡ false → (q : LegSite)
      → passes (leg_passes test) (leg_at next q) ≡ passes (leg_passes test) (leg_at runs q)
  legs_pass test fails q =
      by_run test next q
      ∙ same_reading_at (run_passes test q.job q.leg) false (with_job_of j (opened n)) r runs (λ x at. runs_pass test fails q.job q.leg x at) q.run
      ∙ sym (by_run test runs q)

  pub opened_stays : (h : Holder) → StaysAs runs next h
  opened_stays (Run s) = record {
    waits = same_reading_at (λ (x : RunState). run_waits x.phase) false (with_job_of j (opened n)) r runs (λ x at. refl) s;
    holds = same_reading_at (λ (x : RunState). is_live x.phase) false (with_job_of j (opened n)) r runs (λ x at. refl) s;
  }
  opened_stays (Leg q) = record { waits = legs_pass leg_waits refl q; holds = legs_pass leg_holds refl q }

  -- ---- the results of the run do not change

  blocked_result : (phase : JobPhase) → is_blocked phase ≡ true → finished_result phase ≡ None
  blocked_result job.Blocked is = refl
  blocked_result job.Open is = cc
  blocked_result (job.Finished o) is = cc

  mapped_at : {X Y : Type 0} (g : X → Y) (f : X → X) (i : ℕ) (xs : List X) → ((x : X) → slice_get xs i ≡ Some x → g (f x) ≡ g x)
      → map g (changed_at i f xs) ≡ map g xs
  mapped_at g f i [] same = refl
  mapped_at g f zero (x ∷ xs) same = ap (λ y. y ∷ map g xs) (same x refl)
  mapped_at g f (suc i) (x ∷ xs) same = ap (λ ys. g x ∷ ys) (mapped_at g f i xs same)

  pub results_same : (x : RunState) → run_at runs r ≡ Some x → results_so_far (changed_at j (opened n) x.jobs) ≡ results_so_far x.jobs
  results_same x at =
      mapped_at (λ (y : JobState). finished_result y.phase) (opened n) j x.jobs
      (λ y here.
      sym (blocked_result y.phase (and_parts (is_blocked y.phase) (nat_eq (length y.legs) 0) (no_legs_there x y at here)).0))

  -- ---- the legs of all other jobs stay

  run_now : run_at next r ≡ option_map (with_job_of j (opened n)) (run_at runs r)
  run_now = at_changed r (with_job_of j (opened n)) runs

  job_elsewhere : (s i : ℕ) → (s ≡ r → i ≡ j → ⊥) → job_at next s i ≡ job_at runs s i
  job_elsewhere s i apart =
      let read_job : Option RunState → Option JobState = option_and_then (λ (x : RunState). slice_get x.jobs i) in
      elim (cases_eq s r) [
        | inr other ↦ ap read_job (at_another r (with_job_of j (opened n)) runs s other)
        | inl same ↦
            let kept : (o : Option RunState) → read_job (option_map (with_job_of j (opened n)) o) ≡ read_job o =
            λ o. elim o as (λ o. read_job (option_map (with_job_of j (opened n)) o) ≡ read_job o) [
              | None ↦ refl
              | Some x ↦ at_another j (opened n) x.jobs i (apart same)
            ] in
            ap (λ k. read_job (run_at next k)) same ∙ ap read_job run_now ∙ kept (run_at runs r) ∙ ap (λ k. read_job (run_at runs k)) (sym same)
      ]

  leg_elsewhere : (p : LegSite) → (p.run ≡ r → p.job ≡ j → ⊥) → leg_at next p ≡ leg_at runs p
  leg_elsewhere p apart = ap (option_and_then (λ (y : JobState). slice_get y.legs p.leg)) (job_elsewhere p.run p.job apart)

  abbrev IsApart : Holder → Type 0
  IsApart h = (p : LegSite) → h ≡ Leg p → p.run ≡ r → p.job ≡ j → ⊥

  was_there : (h : Holder) → IsApart h → is_there next h ≡ true → is_there runs h ≡ true
  was_there (Run s) apart e =
      some_is (run_at runs s)
      ∙ sym (same_reading_at (λ (x : RunState). true) false (with_job_of j (opened n)) r runs (λ x at. refl) s)
      ∙ sym (some_is (run_at next s)) ∙ e
  was_there (Leg p) apart e = ap (λ (o : Option LegState). is_some o) (sym (leg_elsewhere p (apart p refl))) ∙ e

  -- the job is open now
  not_unopened : is_blocked_at next r j ≡ true → ⊥
  not_unopened e = by (run_at runs r) (sym (ap open_in run_now) ∙ e)
    where
      open_in : Option RunState → Bool
      open_in o = option_map_or is_unopened (option_and_then (λ (x : RunState). slice_get x.jobs j) o) false

      by_job : (o : Option JobState) → option_map_or is_unopened (option_map (opened n) o) false ≡ true → ⊥
      by_job None is = true≢false (sym is)
      by_job (Some y) is = true≢false (sym is)

      by : (o : Option RunState) → open_in (option_map (with_job_of j (opened n)) o) ≡ true → ⊥
      by None is = true≢false (sym is)
      by (Some x) is =
          by_job (slice_get x.jobs j) (sym (ap (λ o. option_map_or is_unopened o false) (at_changed j (opened n) x.jobs)) ∙ is)

-- ---- a holder that is a leg of the job, or not

record IsOf (r j : ℕ) (h : Holder) : Type 0 where
  place : LegSite
  is : h ≡ Leg place
  run : place.run ≡ r
  job : place.job ≡ j

of_job : (r j : ℕ) (h : Holder) → IsOf r j h ⊎ ((p : LegSite) → h ≡ Leg p → p.run ≡ r → p.job ≡ j → ⊥)
of_job r j (Run s) = inr (λ p e. cc)
of_job r j (Leg q) =
    elim (cases_eq q.run r) [
      | inr other ↦ inr (λ p e run job. other (ap (λ (w : LegSite). w.run) (same_leg q p e) ∙ run))
      | inl run ↦ elim (cases_eq q.job j) [
        | inr other ↦ inr (λ p e _ job. other (ap (λ (w : LegSite). w.job) (same_leg q p e) ∙ job))
        | inl job ↦ inl (record { place = q; is = refl; run = run; job = job })
      ]
    ]
  where
    same_leg : (a b : LegSite) → Leg a ≡ Leg b → a ≡ b
    same_leg a b e = cc

-- ---- what is kept once the job is open

module _ (runs : List RunState) (bindings : List RunBindings) (r j n : ℕ) (x : RunState) (kept : RunBindings) (legs : List HolderKey)
    (unopened : is_blocked_at runs r j ≡ true) (there : run_at runs r ≡ Some x) (at : slice_get bindings r ≡ Some kept)
    (its_legs : slice_get kept.keys.jobs j ≡ Some legs) (fit : RunsFit runs) (stay : StayFit runs (with_job r j (opened n) runs))
    (says : (p : LegSite) → p.run ≡ r → SaysBoth (with_job r j (opened n) runs) (Leg p) x kept) where
  abbrev after : List RunState
  after = with_job r j (opened n) runs

  abbrev told_now : List RunBindings
  told_now = keys_decided r j runs bindings

  pub same_group_after : (h : Holder) → is_there runs h ≡ true → group_at after h ≡ group_at runs h
  same_group_after h was = groups_stay runs after fit stay h (one_of runs h was)

  knows_after : AreTold runs bindings → (h : Holder) → is_there after h ≡ true → Knows after told_now h
  knows_after told h is =
      elim (of_job r j h) [
        | inl one ↦
            subst (Knows after told_now) (sym one.is)
            (leg_knows runs bindings r j x there kept legs at its_legs after one.place one.run one.job (says one.place one.run))
        | inr apart ↦
            let was = was_there runs r j n unopened h apart is in
            let knew = told.groups h was in
            let key = key_apart runs bindings r j x there h apart in
            record {
              group = ap (option_and_then key_in) key ∙ knew.group ∙ sym (same_group_after h was);
              cancels = λ known e.
                  knew.cancels known (sym key ∙ e) ∙ sym (cancels_stay runs after fit stay h (one_of runs h was));
            }
      ]

  tickets_after : AreTold runs bindings → (p : LegSite) → is_new_at after p ≡ true
      → option_and_then ticket_in (holder_key_at told_now (Leg p)) ≡ group_at after (Leg p)
  tickets_after told p is =
      elim (of_job r j (Leg p)) [
        | inl one ↦
            subst (λ h. option_and_then ticket_in (holder_key_at told_now h) ≡ group_at after h) (sym one.is)
            (leg_has_ticket runs bindings r j x there kept legs at its_legs after one.place one.run one.job (says one.place one.run))
        | inr apart ↦
            let same = leg_elsewhere runs r j n unopened p (apart p refl) in
            let was : is_new_at runs p ≡ true = ap (λ o. option_map_or (λ (z : LegState). is_new z.phase) o false) (sym same) ∙ is in
            ap (option_and_then ticket_in) (key_apart runs bindings r j x there (Leg p) apart) ∙ told.tickets p was
            ∙ sym (same_group_after (Leg p) (there_if_new runs p was))
      ]

  room_in_row : AreTold runs bindings → (i : ℕ) → (i ≡ j → ⊥) → is_blocked_at runs r i ≡ true → (o : Option RunBindings)
      → slice_get bindings r ≡ o → (k : RunBindings) (ls : List HolderKey) → option_map (decided_in j x) o ≡ Some k
      → slice_get k.keys.jobs i ≡ Some ls → AreLater (requests_of k.jobs i) ls
  room_in_row told i other blocked None was k ls e here = cc
  room_in_row told i other blocked (Some b) was k ls e here =
      let is : decided_in j x b ≡ k = same_Some (decided_in j x b) k e in
      let before : slice_get b.keys.jobs i ≡ Some ls =
      sym (at_another j (λ (ks : List HolderKey). map (decided (results_by_index x)) (requests_of b.jobs j)) b.keys.jobs i other)
      ∙ ap (λ (w : RunBindings). slice_get w.keys.jobs i) is ∙ here in
      subst (λ (w : RunBindings). AreLater (requests_of w.jobs i) ls) is (told.room r i b ls blocked was before)

  room_after : AreTold runs bindings → (s i : ℕ) (k : RunBindings) (ls : List HolderKey) → is_blocked_at after s i ≡ true
      → slice_get told_now s ≡ Some k → slice_get k.keys.jobs i ≡ Some ls → AreLater (requests_of k.jobs i) ls
  room_after told s i k ls blocked row here =
      elim (cases_eq s r) [
        | inr other ↦
            let was : is_blocked_at runs s i ≡ true =
            ap (λ o. option_map_or is_unopened o false) (sym (job_elsewhere runs r j n unopened s i (λ e _. other e))) ∙ blocked in
            told.room s i k ls was (sym (another_row runs bindings r j x there s other) ∙ row) here
        | inl same ↦ elim (cases_eq i j) [
          | inl its ↦
              absurd (not_unopened runs r j n unopened
              (subst (λ m. is_blocked_at after r m ≡ true) its (subst (λ m. is_blocked_at after m i ≡ true) same blocked)))
          | inr other ↦
              let was : is_blocked_at runs r i ≡ true =
              ap (λ o. option_map_or is_unopened o false) (sym (job_elsewhere runs r j n unopened r i (λ _ e. other e)))
              ∙ subst (λ m. is_blocked_at after m i ≡ true) same blocked in
              room_in_row told i other was (slice_get bindings r) refl k ls
              (sym (row_now runs bindings r j x there) ∙ ap (slice_get told_now) (sym same) ∙ row) here
        ]
      ]

  pub told_after : AreTold runs bindings → AreTold after told_now
  told_after told = record {
    groups = knows_after told;
    tickets = tickets_after told;
    room = room_after told;
    shaped = subst AreShaped (sym (decided_bindings runs bindings r j x there))
        (shaped_changed (decided_in j x)
        (λ b is. length-changed_at j (λ (ks : List HolderKey). map (decided (results_by_index x)) (requests_of b.jobs j)) b.keys.jobs ∙ is) r bindings
        told.shaped);
  }

  pub exact_after : (entries : Entries) → AreExact runs entries → AreExact after entries
  exact_after entries exact = record {
    pending = exact_within tells (group_at runs) (group_at after) (waits runs) (waits after) (λ g. (slot_in entries g).pending)
        (λ h. ((opened_stays runs r j n unopened h).waits, λ is. same_group_after h (there_if_waits runs h is))) exact.pending;
    in_progress = exact_within tells (group_at runs) (group_at after) (holds runs) (holds after) (λ g. (slot_in entries g).in_progress)
        (λ h. ((opened_stays runs r j n unopened h).holds, λ is. same_group_after h (there_if_holds runs h is))) exact.in_progress;
  }

  pub kept_opened : (before later : BookState Holder) (without : ℕ) → arrivals_to_come told_now + without ≡ arrivals_to_come bindings
      → later.entries ≡ before.entries → later.expected + without ≡ before.expected → GroupsAreKept runs bindings before
      → GroupsAreKept after told_now later
  kept_opened before later without fewer same forgone was = record {
    exact = subst (AreExact after) (sym same) (exact_after before.entries was.exact);
    told = told_after was.told;
    expected = omega (arith, fewer, forgone, was.expected);
  }

  -- whoever holds a group still holds it
  pub still_opened : (s : ℕ) → RunsStillFor runs after s
  still_opened s h of_run waiting g group k e =
      let held = (and_parts (is_in runs g k) (holds runs k) e).1 in
      runs_still runs after g k (same_group_after k (there_if_holds runs k held))
      (λ now _ _. (opened_stays runs r j n unopened k).holds ∙ now) e
