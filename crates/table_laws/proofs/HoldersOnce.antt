-- Each run and each leg occurs once among all holders, so a test that only one of them passes keeps exactly that one.
use Rattle.std.specs.Prelude.{◌≡◌, ℕ, ◌≤◌, List, [], ◌∷◌, ◌++◌, filter, length, map, Bool, true, false, Option, Some}
use Rattle.std.specs.Prelude.{if◌then◌else◌, slice_get, refl}
use Rattle.std.specs.List.{AllByRecursion}
use Rattle.std.specs.Option.{option_map_or}
use Rattle.std.proofs.Common.{arith, ap, ap₂, sym, ◌∙◌}
use Rattle.std.proofs.lemmas.Bool.{and_parts, true≢false}
use Rattle.std.proofs.lemmas.List.Concat.{flat_map_single}
use Rattle.std.proofs.lemmas.List.Elements.{filter-append}
use Rattle.group_name.specs.Group.{Group}
use Rattle.table_model.specs.Runs.{placed, leg_at, leg_site, leg_sites, leg_sites_of_job, leg_sites_of_run, LegState, JobState, RunState}
use Rattle.table_model.specs.Groups.{HasOneEach, all_holders, holds, is_in, is_pending_in, is_in_progress_in, pending_in, in_progress_in, waits}
use Rattle.table_model.specs.declared.sites.LegSite.{LegSite}
use Rattle.table_model.proofs.JobKeeps.{leg_in}
use Rattle.settling_laws.proofs.OneEach.{IsOneOf, each_holder, one_that_holds, one_that_waits}
use Rattle.table_laws.proofs.PlacedOne.{filter_flat_map, filter_of_map, filter_to_none, none_of_all, one_of_placed}
use Rattle.table_model.specs.declared.holder.Holder.{Holder}
use Rattle.table_model.specs.declared.holder.Holder.TheVariants.{Run, Leg}

-- ---- a test that only one passes

-- all others fail
fails_else : {X : Type 0} (test : X → Bool) (h : X) → ((k : X) → test k ≡ true → k ≡ h) → (k : X) → (k ≡ h → ⊥) → test k ≡ false
fails_else test h only k other =
    elim (test k) as (λ b. test k ≡ b → b ≡ false) [
      | true ↦ λ is. absurd (other (only k is))
      | false ↦ λ is. refl
    ] refl

kept_alone : {X : Type 0} (test : X → Bool) (x : X) → test x ≡ true → filter test (x ∷ []) ≡ x ∷ []
kept_alone test x is = ap (λ b. if b then x ∷ [] else []) is

dropped_alone : {X : Type 0} (test : X → Bool) (x : X) → test x ≡ false → filter test (x ∷ []) ≡ []
dropped_alone test x is = ap (λ b. if b then x ∷ [] else []) is

-- the one index that passes, in a list with one element for each index
one_made : {X Y : Type 0} (test : Y → Bool) (make : ℕ → Y) (xs : List X) (i : ℕ) (x : X) → slice_get xs i ≡ Some x → test (make i) ≡ true
    → ((k : ℕ) → (k ≡ i → ⊥) → test (make k) ≡ false) → filter test (map (λ (e : ℕ × X). make e.0) (placed xs)) ≡ make i ∷ []
one_made {X} {Y} test make xs i x at is others =
    let single : ℕ × X → List Y = λ e. make e.0 ∷ [] in
    ap (filter test) (sym (flat_map_single (λ (e : ℕ × X). make e.0) (placed xs)))
    ∙ filter_flat_map test single (placed xs)
    ∙ one_of_placed (λ (e : ℕ × X). filter test (single e)) i xs (λ k y other. dropped_alone test (make k) (others k other))
    ∙ ap (λ (o : Option X). option_map_or (λ y. filter test (make i ∷ [])) o []) at
    ∙ kept_alone test (make i) is

-- ---- the place of a leg

module _ (runs : List RunState) (test : LegSite → Bool) (p : LegSite) (is : test p ≡ true) (others : (q : LegSite) → (q ≡ p → ⊥)
    → test q ≡ false)
  where
    none_of_job : (r : ℕ) (j : ℕ × JobState) → ((l : ℕ) → leg_site r j.0 l ≡ p → ⊥) → filter test (leg_sites_of_job r j) ≡ []
    none_of_job r j other =
        filter_of_map test (λ (l : ℕ × LegState). leg_site r j.0 l.0) (placed j.1.legs)
        ∙ ap (map (λ (l : ℕ × LegState). leg_site r j.0 l.0))
        (filter_to_none (λ (l : ℕ × LegState). test (leg_site r j.0 l.0)) (placed j.1.legs) (λ l. others (leg_site r j.0 l.0)
        (other l.0)))

    none_of_run : (r : ℕ × RunState) → (r.0 ≡ p.run → ⊥) → filter test (leg_sites_of_run r) ≡ []
    none_of_run r other =
        filter_flat_map test (leg_sites_of_job r.0) (placed r.1.jobs)
        ∙ none_of_all (λ (j : ℕ × JobState). filter test (leg_sites_of_job r.0 j)) (placed r.1.jobs)
        (λ j. none_of_job r.0 j (λ l e. other (ap (λ (q : LegSite). q.run) e)))

    one_of_job : (y : JobState) (z : LegState) → slice_get y.legs p.leg ≡ Some z → filter test (leg_sites_of_job p.run (p.job, y)) ≡ p ∷ []
    one_of_job y z at =
        one_made test (λ l. leg_site p.run p.job l) y.legs p.leg z at is
        (λ k other. others (leg_site p.run p.job k) (λ e. other (ap (λ (q : LegSite). q.leg) e)))

    one_of_run : (x : RunState) (y : JobState) (z : LegState) → slice_get x.jobs p.job ≡ Some y → slice_get y.legs p.leg ≡ Some z
        → filter test (leg_sites_of_run (p.run, x)) ≡ p ∷ []
    one_of_run x y z job_is leg_is =
        filter_flat_map test (leg_sites_of_job p.run) (placed x.jobs)
        ∙ one_of_placed (λ (j : ℕ × JobState). filter test (leg_sites_of_job p.run j)) p.job x.jobs
        (λ k w other. none_of_job p.run (k, w) (λ l e. other (ap (λ (q : LegSite). q.job) e)))
        ∙ ap (λ (o : Option JobState). option_map_or (λ w. filter test (leg_sites_of_job p.run (p.job, w))) o []) job_is
        ∙ one_of_job y z leg_is

    one_leg_place : (z : LegState) → leg_at runs p ≡ Some z → filter test (leg_sites runs) ≡ p ∷ []
    one_leg_place z at =
        let place = leg_in runs p z at in
        filter_flat_map test leg_sites_of_run (placed runs)
        ∙ one_of_placed (λ (r : ℕ × RunState). filter test (leg_sites_of_run r)) p.run runs (λ k w other. none_of_run (k, w) other)
        ∙ ap (λ (o : Option RunState). option_map_or (λ w. filter test (leg_sites_of_run (p.run, w))) o []) place.place.run_is
        ∙ one_of_run place.place.run place.job z place.place.job_is place.leg_is

-- ---- a holder

pub leg_is : (a b : LegSite) → Leg a ≡ Leg b → a ≡ b
leg_is a b e = cc

pub one_holder_kept : (runs : List RunState) (test : Holder → Bool) (h : Holder) → IsOneOf runs h → test h ≡ true
    → ((k : Holder) → test k ≡ true → k ≡ h) → filter test (all_holders runs) ≡ h ∷ []
one_holder_kept runs test (Run r) there is only =
    let runs_of = map (λ (x : ℕ × RunState). Run x.0) (placed runs) in
    let legs_of = map (λ p. Leg p) (leg_sites runs) in
    filter-append test runs_of legs_of
    ∙ ap₂ (λ a b. a ++ b)
    (one_made test (λ k. Run k) runs r there.0 there.1 is
    (λ k other. fails_else test (Run r) only (Run k) (λ e. other (run_is k r e))))
    (filter_of_map test (λ p. Leg p) (leg_sites runs)
    ∙ ap (map (λ p. Leg p))
    (filter_to_none (λ p. test (Leg p)) (leg_sites runs) (λ p. fails_else test (Run r) only (Leg p) (λ e. cc))))
  where
    run_is : (a b : ℕ) → Run a ≡ Run b → a ≡ b
    run_is a b e = cc
one_holder_kept runs test (Leg p) there is only =
    let runs_of = map (λ (x : ℕ × RunState). Run x.0) (placed runs) in
    let legs_of = map (λ q. Leg q) (leg_sites runs) in
    filter-append test runs_of legs_of
    ∙ ap₂ (λ a b. a ++ b)
    (filter_of_map test (λ (x : ℕ × RunState). Run x.0) (placed runs)
    ∙ ap (map (λ (x : ℕ × RunState). Run x.0))
    (filter_to_none (λ (x : ℕ × RunState). test (Run x.0)) (placed runs)
    (λ x. fails_else test (Leg p) only (Run x.0) (λ e. cc))))
    (filter_of_map test (λ q. Leg q) (leg_sites runs)
    ∙ ap (map (λ q. Leg q))
    (one_leg_place runs (λ q. test (Leg q)) p is
    (λ q other. fails_else test (Leg p) only (Leg q) (λ e. other (leg_is q p e))) there.0 there.1))

-- a holder that passes is kept
none_kept : {X : Type 0} (test : X → Bool) (xs : List X) → filter test xs ≡ [] → AllByRecursion (λ x. test x ≡ false) xs
none_kept test [] e = tt
none_kept test (x ∷ xs) e =
    elim (test x) as
    (λ b. test x ≡ b → (if b then x ∷ filter test xs else filter test xs) ≡ [] → AllByRecursion (λ y. test y ≡ false) (x ∷ xs)) [
      | true ↦ λ is now. cc
      | false ↦ λ is now. (is, none_kept test xs now)
    ] refl e

pub some_kept : (runs : List RunState) (test : Holder → Bool) (h : Holder) → IsOneOf runs h → test h ≡ true
    → filter test (all_holders runs) ≡ [] → ⊥
some_kept runs test h there is none =
    true≢false (sym is ∙ each_holder (λ k. test k ≡ false) runs h (none_kept test (all_holders runs) none) there)

-- ---- at most one in each group

some_first : {X : Type 0} (x y : X) (xs ys : List X) → x ∷ xs ≡ y ∷ ys → x ≡ y
some_first x y xs ys e = cc

at_most_one : (runs : List RunState) (test : Holder → Bool) → ((h : Holder) → test h ≡ true → IsOneOf runs h)
    → ((h k : Holder) → test h ≡ true → test k ≡ true → h ≡ k) → (hs : List Holder) → filter test (all_holders runs) ≡ hs
    → ((h : Holder) (rest : List Holder) → hs ≡ h ∷ rest → test h ≡ true) → length hs ≤ 1
at_most_one runs test there one [] is passes = omega arith
at_most_one runs test there one (h ∷ rest) is passes =
    let first = passes h rest refl in
    let alone = one_holder_kept runs test h (there h first) first (λ k too. one k h too first) in
    let size : length (h ∷ rest) ≡ 1 = ap length (sym is ∙ alone) in
    omega (arith, size)

first_passes : {X : Type 0} (test : X → Bool) (xs : List X) (x : X) (rest : List X) → filter test xs ≡ x ∷ rest → test x ≡ true
first_passes test [] x rest e = cc
first_passes test (y ∷ ys) x rest e =
    elim (test y) as (λ b. test y ≡ b → (if b then y ∷ filter test ys else filter test ys) ≡ x ∷ rest → test x ≡ true) [
      | true ↦ λ is now. ap test (sym (some_first y x (filter test ys) rest now)) ∙ is
      | false ↦ λ is now. first_passes test ys x rest now
    ] refl e

pub first_kept : (runs : List RunState) (test : Holder → Bool) (h : Holder) (rest : List Holder) → filter test (all_holders runs) ≡ h ∷ rest
    → test h ≡ true
first_kept runs test h rest is = first_passes test (all_holders runs) h rest is

pub one_pending : (runs : List RunState) (g : Group) → HasOneEach runs → length (pending_in runs g) ≤ 1
one_pending runs g each =
    at_most_one runs (is_pending_in runs g) (λ h is. one_that_waits runs h (and_parts (is_in runs g h) (waits runs h) is).1)
    (each.pending g) (pending_in runs g) refl (first_passes (is_pending_in runs g) (all_holders runs))

pub one_in_progress : (runs : List RunState) (g : Group) → HasOneEach runs → length (in_progress_in runs g) ≤ 1
one_in_progress runs g each =
    at_most_one runs (is_in_progress_in runs g) (λ h is. one_that_holds runs h (and_parts (is_in runs g h) (holds runs h) is).1)
    (each.in_progress g) (in_progress_in runs g) refl (first_passes (is_in_progress_in runs g) (all_holders runs))
