-- A run is added, or begins its next attempt, and its groups are known or memory is taken for them: what its holders know, and that all others
-- know what they knew.
use Rattle.std.specs.Prelude.{◌≡◌, ◌&&◌, ◌++◌, ◌∷◌, ◌<◌, ℕ, List, [], length, map, nat_eq, nat_lt, Bool, true, false, Option, None, Some, is_some}
use Rattle.std.specs.Prelude.{option_and_then, option_map, slice_get, slice_set, refl}
use Rattle.std.specs.Option.{option_map_or}
use Rattle.std.proofs.Common.{arith, ap, inl, inr, subst, sym, ◌∙◌}
use Rattle.std.proofs.lemmas.Bool.{and_parts, cases_eq, eqb-true, le-ltb, true≢false}
use Rattle.std.proofs.lemmas.Option.{same_Some, slice_get-map}
use Rattle.run_plan.specs.PlanOf.{plan_of}
use Rattle.run_plan.specs.declared.planned.PlannedJob.{PlannedJob}
use Rattle.table_model.specs.Groups.{group_at}
use Rattle.table_model.specs.Holders.{run_of}
use Rattle.table_model.specs.Runs.{again, blocked_job, run_at, with_run, JobState, LegState, RunState, is_blocked, is_new}
use Rattle.table_model.specs.inner.Resuming.{is_new_at}
use Rattle.table_model.specs.declared.holder.Holder.{Holder}
use Rattle.table_model.specs.declared.holder.Holder.TheVariants.{Run, Leg}
use Rattle.table_model.specs.declared.sites.LegSite.{LegSite}
use Rattle.table_model.proofs.Changed.{at_another, at_changed}
use Rattle.table_model.proofs.Found.{at_the_end, before_the_end}
use Rattle.table_bindings.specs.BoundGroups.{results_by_index}
use Rattle.table_bindings.specs.Bindings.{AreBound}
use Rattle.table_bindings.specs.GroupKeys.{AllAreLater, AreLater, decided, holder_key, key_in, requests_of, ticket_in}
use Rattle.table_bindings.specs.declared.bindings.RunBindings.{RunBindings}
use Rattle.table_bindings.specs.declared.group_keys.HolderKey.{HolderKey}
use Rattle.table_bindings.specs.declared.group_keys.HolderKey.TheVariants.{NoGroup}
use Rattle.table_bindings.proofs.BoundSays.{SaysBoth, said_there}
use Rattle.settling_laws.proofs.GroupStays.{same_flag, same_group}
use Rattle.table_runs.specs.inner.Begun.{AreKnownIf, HaveTickets, IsBegun, IsBegunBelow, has_legs_at}
use Rattle.table_runs.specs.inner.GroupsKept.{AreTold, Knows, is_blocked_at, is_there, is_unopened}
use Rattle.table_runs.specs.inner.RowsKept.{holder_key_at}
use Rattle.table_runs.proofs.Begun.{begun_has_ticket, begun_knows}
use Rattle.table_runs.proofs.HoldersThere.{there_if_new}
use Rattle.table_runs.proofs.MarkedRuns.{set_other}
use Rattle.table_runs.proofs.NextAttempt.{NextOf, put}
use Rattle.table_runs.proofs.StillBound.{set_here}

-- ---- before the first job is decided

pub begun_first : (x : RunState) (kept : RunBindings) → kept.keys.own ≡ option_map_or (decided (results_by_index x)) kept.own NoGroup
    → length kept.keys.jobs ≡ length kept.jobs → AllAreLater kept.jobs kept.keys.jobs → IsBegunBelow 0 x kept
begun_first x kept own many later = record {
  own = own;
  as_many = many;
  jobs = (λ j legs at. subst (λ b. AreKnownIf b x kept j legs) (sym (none_below (has_legs_at x j) j)) (later j legs at));
}
  where
    none_below : (b : Bool) (j : ℕ) → (b && nat_lt j 0) ≡ false
    none_below true j = le-ltb j 0 (omega arith)
    none_below false j = refl

-- a run without legs has begun
pub begun_without_legs : (x : RunState) (kept : RunBindings) → ((j : ℕ) → has_legs_at x j ≡ false) → IsBegunBelow 0 x kept → IsBegun x kept
begun_without_legs x kept none begun = record {
  own = begun.own;
  as_many = begun.as_many;
  jobs = (λ j legs at.
      subst (λ b. AreKnownIf b x kept j legs) (ap (λ b. b && nat_lt j 0) (none j) ∙ sym (none j)) (begun.jobs j legs at));
}

pub again_has_none : (x : RunState) (j : ℕ) → has_legs_at (again x) j ≡ false
again_has_none x j =
    ap (λ o. option_map_or (λ (job : JobState). nat_lt 0 (length job.legs)) o false)
    (slice_get-map (λ (p : PlannedJob). blocked_job) (plan_of x.admitted.body) j)
    ∙ by (slice_get (plan_of x.admitted.body) j)
  where
    by : (o : Option PlannedJob)
        → option_map_or (λ (job : JobState). nat_lt 0 (length job.legs)) (option_map (λ (p : PlannedJob). blocked_job) o) false ≡ false
    by None = refl
    by (Some p) = refl

-- ---- a job that is blocked and has no legs yet

unopened_has_none : (x : RunState) (j : ℕ) → option_map_or is_unopened (slice_get x.jobs j) false ≡ true → has_legs_at x j ≡ false
unopened_has_none x j e = by (slice_get x.jobs j) e
  where
    by : (o : Option JobState) → option_map_or is_unopened o false ≡ true
        → option_map_or (λ (job : JobState). nat_lt 0 (length job.legs)) o false ≡ false
    by None e = cc
    by (Some y) e =
        let none : length y.legs ≡ 0 = eqb-true (length y.legs) 0 (and_parts (is_blocked y.phase) (nat_eq (length y.legs) 0) e).1 in
        le-ltb 0 (length y.legs) (omega (arith, none))

-- ---- what each holder knows

same_there : (runs next : List RunState) (h : Holder) → run_at next (run_of h) ≡ run_at runs (run_of h) → is_there next h ≡ is_there runs h
same_there runs next (Run r) at = ap (λ (o : Option RunState). is_some o) at
same_there runs next (Leg p) at =
    ap (λ (o : Option RunState). is_some (option_and_then (λ (y : JobState). slice_get y.legs p.leg) (option_and_then (λ (x : RunState). slice_get x.jobs p.job) o)))
    at

same_new : (runs next : List RunState) (p : LegSite) → run_at next p.run ≡ run_at runs p.run → is_new_at next p ≡ is_new_at runs p
same_new runs next p at =
    ap (λ (o : Option RunState). option_map_or (λ (z : LegState). is_new z.phase)
    (option_and_then (λ (y : JobState). slice_get y.legs p.leg) (option_and_then (λ (x : RunState). slice_get x.jobs p.job) o)) false) at

same_blocked : (runs next : List RunState) (r j : ℕ) → run_at next r ≡ run_at runs r → is_blocked_at next r j ≡ is_blocked_at runs r j
same_blocked runs next r j at =
    ap (λ (o : Option RunState). option_map_or is_unopened (option_and_then (λ (x : RunState). slice_get x.jobs j) o) false) at

module _ (runs next : List RunState) (kept now : List RunBindings) (r : ℕ) (x : RunState) (b : RunBindings) (there : run_at next r ≡ Some x)
    (row : slice_get now r ≡ Some b) (begun : IsBegun x b) (says : (h : Holder) → run_of h ≡ r → SaysBoth next h x b)
    (other_runs : (s : ℕ) → (s ≡ r → ⊥) → run_at next s ≡ run_at runs s)
    (other_rows : (s : ℕ) → (s ≡ r → ⊥) → slice_get now s ≡ slice_get kept s) where
  pub has_tickets : HaveTickets r next now
  has_tickets h of_run is =
      begun_has_ticket next now x b begun h (ap (run_at next) of_run ∙ there) (ap (slice_get now) of_run ∙ row) is (says h of_run)

  same_key : (h : Holder) → (run_of h ≡ r → ⊥) → holder_key_at now h ≡ holder_key_at kept h
  same_key h other = ap (option_and_then (λ (k : RunBindings). holder_key k.keys h)) (other_rows (run_of h) other)

  group_as_before : (h : Holder) → (run_of h ≡ r → ⊥) → group_at next h ≡ group_at runs h
  group_as_before h other = same_group runs next h (other_runs (run_of h) other)

  knew : (h : Holder) → (run_of h ≡ r → ⊥) → Knows runs kept h → Knows next now h
  knew h other knows =
      let key = same_key h other in
      record {
        group = ap (option_and_then key_in) key ∙ knows.group ∙ sym (group_as_before h other);
        cancels = (λ known e.
            knows.cancels known (sym key ∙ e) ∙ sym (same_flag runs next h (other_runs (run_of h) other)));
      }

  its_room : (s j : ℕ) (k : RunBindings) (legs : List HolderKey) → s ≡ r → is_blocked_at next s j ≡ true → slice_get now s ≡ Some k
      → slice_get k.keys.jobs j ≡ Some legs → AreLater (requests_of k.jobs j) legs
  its_room s j k legs here blocked at job =
      let is : b ≡ k = same_Some b k (sym row ∙ ap (slice_get now) (sym here) ∙ at) in
      let none : has_legs_at x j ≡ false =
      unopened_has_none x j
      (sym (ap (λ o. option_map_or is_unopened (option_and_then (λ (y : RunState). slice_get y.jobs j) o) false) (ap (run_at next) here ∙ there))
      ∙ blocked) in
      let known : AreKnownIf false x b j legs =
      subst (λ t. AreKnownIf t x b j legs) none (begun.jobs j legs (ap (λ (w : RunBindings). slice_get w.keys.jobs j) is ∙ job)) in
      subst (λ (w : RunBindings). AreLater (requests_of w.jobs j) legs) is known

  pub told_more : AreTold runs kept → AreTold next now
  told_more told = record {
    groups = (λ h is.
        elim (cases_eq (run_of h) r) [
          | inl here ↦
              begun_knows next now x b begun h (ap (run_at next) here ∙ there) (ap (slice_get now) here ∙ row) is (says h here)
          | inr other ↦
              let was : is_there runs h ≡ true = sym (same_there runs next h (other_runs (run_of h) other)) ∙ is in
              knew h other (told.groups h was)
        ]);
    tickets = (λ p is_new.
        elim (cases_eq p.run r) [
          | inl here ↦ has_tickets (Leg p) here (there_if_new next p is_new)
          | inr other ↦
              let was : is_new_at runs p ≡ true = sym (same_new runs next p (other_runs p.run other)) ∙ is_new in
              ap (option_and_then ticket_in) (same_key (Leg p) other) ∙ told.tickets p was
              ∙ sym (group_as_before (Leg p) other)
        ]);
    room = (λ s j k legs blocked at job.
        elim (cases_eq s r) [
          | inl here ↦ its_room s j k legs here blocked at job
          | inr other ↦
              told.room s j k legs (sym (same_blocked runs next s j (other_runs s other)) ∙ blocked) (sym (other_rows s other) ∙ at) job
        ]);
    shaped = (λ s k at.
        elim (cases_eq s r) [
          | inl here ↦
              subst (λ (w : RunBindings). length w.keys.jobs ≡ length w.jobs) (same_Some b k (sym row ∙ ap (slice_get now) (sym here) ∙ at))
              begun.as_many
          | inr other ↦ told.shaped s k (sym (other_rows s other) ∙ at)
        ]);
  }

-- ---- a run at the end

module _ (runs : List RunState) (x : RunState) (kept : List RunBindings) (b : RunBindings) (many : length kept ≡ length runs)
    (bound : AreBound (runs ++ x ∷ []) (kept ++ b ∷ [])) (begun : IsBegun x b) where
  its_row : slice_get (kept ++ b ∷ []) (length runs) ≡ Some b
  its_row = ap (slice_get (kept ++ b ∷ [])) (sym many) ∙ at_the_end kept b

  its_says : (h : Holder) → run_of h ≡ length runs → SaysBoth (runs ++ x ∷ []) h x b
  its_says h of_run =
      said_there (runs ++ x ∷ []) h x b (length runs) (sym of_run) (ap (run_at (runs ++ x ∷ [])) of_run ∙ at_the_end runs x)
      (λ facts is. bound.each (length runs) facts b is its_row)

  rows_before : (s : ℕ) → (s ≡ length runs → ⊥) → slice_get (kept ++ b ∷ []) s ≡ slice_get kept s
  rows_before s other = before_the_end kept b s (λ e. other (e ∙ many))

  pub told_added : AreTold runs kept → AreTold (runs ++ x ∷ []) (kept ++ b ∷ [])
  told_added =
      told_more runs (runs ++ x ∷ []) kept (kept ++ b ∷ []) (length runs) x b (at_the_end runs x) its_row begun its_says (before_the_end runs x) rows_before

  pub tickets_added : HaveTickets (length runs) (runs ++ x ∷ []) (kept ++ b ∷ [])
  tickets_added =
      has_tickets runs (runs ++ x ∷ []) kept (kept ++ b ∷ []) (length runs) x b (at_the_end runs x) its_row begun its_says (before_the_end runs x)
      rows_before

  pub older_added : (s : ℕ) → s < length runs → slice_get (kept ++ b ∷ []) s ≡ slice_get kept s
  older_added s less = rows_before s (λ e. absurd (omega (arith, less, e)))

-- ---- a run that begins its next attempt

module _ (runs : List RunState) (r : ℕ) (x : RunState) (kept : List RunBindings) (b : RunBindings) (there : run_at runs r ≡ Some x)
    (row : slice_get (slice_set kept r b) r ≡ Some b) (bound : AreBound (with_run r again runs) (slice_set kept r b))
    (begun : IsBegun (again x) b) where
  now_there : run_at (with_run r again runs) r ≡ Some (again x)
  now_there = at_changed r again runs ∙ ap (option_map again) there

  again_says : (h : Holder) → run_of h ≡ r → SaysBoth (with_run r again runs) h (again x) b
  again_says h of_run =
      said_there (with_run r again runs) h (again x) b r (sym of_run) (ap (run_at (with_run r again runs)) of_run ∙ now_there)
      (λ facts is. bound.each r facts b is row)

  pub told_again : AreTold runs kept → AreTold (with_run r again runs) (slice_set kept r b)
  told_again =
      told_more runs (with_run r again runs) kept (slice_set kept r b) r (again x) b now_there row begun again_says (at_another r again runs)
      (λ s other. set_other kept r s b other)

  pub tickets_again : HaveTickets r (with_run r again runs) (slice_set kept r b)
  tickets_again =
      has_tickets runs (with_run r again runs) kept (slice_set kept r b) r (again x) b now_there row begun again_says (at_another r again runs)
      (λ s other. set_other kept r s b other)

-- both, of the run as it is put in its place
pub next_told : (runs : List RunState) (r : ℕ) (kept : List RunBindings) (b : RunBindings) (next : RunState) → NextOf runs r next
    → length kept ≡ length runs → AreBound (slice_set runs r next) (slice_set kept r b) → IsBegunBelow 0 next b
    → (AreTold runs kept → AreTold (with_run r again runs) (slice_set kept r b)) × HaveTickets r (with_run r again runs) (slice_set kept r b)
next_told runs r kept b next from many bound begun =
    let row : slice_get (slice_set kept r b) r ≡ Some b = set_here kept r b (omega (arith, from.within, many)) in
    let its_bound : AreBound (with_run r again runs) (slice_set kept r b) =
    subst (λ (rs : List RunState). AreBound rs (slice_set kept r b)) (put runs r next from) bound in
    let all : IsBegun (again from.was) b =
    begun_without_legs (again from.was) b (again_has_none from.was) (subst (λ (y : RunState). IsBegunBelow 0 y b) from.is begun) in
    (told_again runs r from.was kept b from.there row its_bound all, tickets_again runs r from.was kept b from.there row its_bound all)

-- ---- a run that is not there

pub none_left : {X Y : Type 0} (f : X → Y) (o : Option X) → None ≡ option_map f o → o ≡ None
none_left f None e = refl
none_left f (Some x) e = let no : None ≡ Some (f x) = e in cc

nobody_there : (h : Holder) → is_there [] h ≡ false
nobody_there (Run r) = refl
nobody_there (Leg p) = refl

pub no_tickets : (runs : List RunState) (bindings : List RunBindings) (r : ℕ) → run_at runs r ≡ None → HaveTickets r runs bindings
no_tickets runs bindings r none h of_run there =
    absurd (true≢false (sym there ∙ same_there [] runs h (ap (run_at runs) of_run ∙ none) ∙ nobody_there h))
