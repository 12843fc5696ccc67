-- The order in which holders take their places: run by run, the run itself and then its legs, job by job.
use Rattle.std.specs.Prelude.{◌≡◌, ◌⊎◌, ◌<◌, ◌&&◌, ◌||◌, ℕ, zero, suc, List, length, nat_eq, nat_lt, Bool, true, false, Some, option_and_then, slice_get, refl}
use Rattle.std.specs.Option.{option_map_or}
use Rattle.std.proofs.Common.{arith, ap, inl, inr, sym, subst, ◌∙◌}
use Rattle.std.proofs.lemmas.Bool.{and_parts, cases_eq, eq-eqb, eqb-true, false_from_ne_true, true≢false}
use Rattle.std.proofs.lemmas.Bool.Decides.{Decides-ltb}
use Rattle.std.proofs.lemmas.Option.{slice_get_within}
use Rattle.table_model.specs.GroupLaw.{same_holder}
use Rattle.table_model.specs.Holders.{run_of}
use Rattle.table_model.specs.Runs.{job_at, leg_at, run_at, JobState, RunState}
use Rattle.table_model.specs.declared.holder.Holder.{Holder}
use Rattle.table_model.specs.declared.holder.Holder.TheVariants.{Run, Leg}
use Rattle.table_model.proofs.JobKeeps.{leg_in}
use Rattle.table_model.proofs.Optional.{some_of}
use Rattle.settling_laws.proofs.ArrivalKeeps.{holder_tested}
use Rattle.table_runs.specs.inner.GroupsKept.{is_there}
use Rattle.table_runs.specs.inner.Seating.{in_job, is_of, jobs_below, legs_below, legs_of_run, runs_below}
use Rattle.table_runs.specs.declared.runs.of.GroupSlot.{GroupSlot}
use Rattle.table_runs.specs.declared.runs.of.GroupSlot.TheVariants.{InProgress, Pending}
use Rattle.table_runs.proofs.HoldersThere.{there_if_holds, there_if_waits, within_there}

-- ---- numbers

equal_tests : (a b : Bool) → (a ≡ true → b ≡ true) → (b ≡ true → a ≡ true) → a ≡ b
equal_tests true b if_so only_if = sym (if_so refl)
equal_tests false true if_so only_if = only_if refl
equal_tests false false if_so only_if = refl

or_right : (a b : Bool) → b ≡ true → (a || b) ≡ true
or_right true b e = refl
or_right false b e = e

or_left : (a b : Bool) → a ≡ true → (a || b) ≡ true
or_left true b e = refl
or_left false b e = absurd (true≢false (sym e))

or_cases : (a b : Bool) → (a || b) ≡ true → (a ≡ true) ⊎ (b ≡ true)
or_cases true b e = inl refl
or_cases false b e = inr e

below_next : (i n : ℕ) → nat_lt i (suc n) ≡ (nat_lt i n || nat_eq i n)
below_next i n =
    equal_tests (nat_lt i (suc n)) (nat_lt i n || nat_eq i n)
    (λ e.
    let lt : i < suc n = (Decides-ltb i (suc n)).0 e in
    elim (cases_eq i n) [
      | inl same ↦ or_right (nat_lt i n) (nat_eq i n) (eq-eqb i n same)
      | inr other ↦ or_left (nat_lt i n) (nat_eq i n) ((Decides-ltb i n).1 (omega (arith, lt, other)))
    ])
    (λ e.
    elim (or_cases (nat_lt i n) (nat_eq i n) e) [
      | inl below ↦ let lt : i < n = (Decides-ltb i n).0 below in (Decides-ltb i (suc n)).1 (omega (arith, lt))
      | inr same ↦ let is : i ≡ n = eqb-true i n same in (Decides-ltb i (suc n)).1 (omega (arith, is))
    ])

not_below_itself : (n : ℕ) → nat_lt n n ≡ false
not_below_itself n = false_from_ne_true (nat_lt n n) (λ e. let lt : n < n = (Decides-ltb n n).0 e in absurd (omega (arith, lt)))

and_or : (a b c : Bool) → (a && (b || c)) ≡ ((a && b) || (a && c))
and_or true b c = refl
and_or false b c = refl

and_false : (b : Bool) → (b && false) ≡ false
and_false true = refl
and_false false = refl

or_false : (b : Bool) → (b || false) ≡ b
or_false true = refl
or_false false = refl

pub none_is_below : (i : ℕ) → nat_lt i zero ≡ false
none_is_below i = false_from_ne_true (nat_lt i zero) (λ e. let lt : i < zero = (Decides-ltb i zero).0 e in absurd (omega (arith, lt)))

-- ---- one more

pub next_leg : (r j l : ℕ) (h : Holder)
    → (legs_below r j l h || same_holder h (Leg (record { run = r; job = j; leg = l }))) ≡ legs_below r j (suc l) h
next_leg r j l (Run s) = refl
next_leg r j l (Leg p) =
    sym (and_or (nat_eq p.run r) (nat_eq p.job j && nat_lt p.leg l) (nat_eq p.job j && nat_eq p.leg l))
    ∙ ap (λ b. nat_eq p.run r && b)
    (sym (and_or (nat_eq p.job j) (nat_lt p.leg l) (nat_eq p.leg l)) ∙ ap (λ b. nat_eq p.job j && b) (sym (below_next p.leg l)))

pub next_job : (r j : ℕ) (h : Holder) → (jobs_below r j h || in_job r j h) ≡ jobs_below r (suc j) h
next_job r j (Run s) = refl
next_job r j (Leg p) =
    sym (and_or (nat_eq p.run r) (nat_lt p.job j) (nat_eq p.job j)) ∙ ap (λ b. nat_eq p.run r && b) (sym (below_next p.job j))

pub next_run : (r : ℕ) (h : Holder) → (runs_below r h || (same_holder h (Run r) || legs_of_run r h)) ≡ runs_below (suc r) h
next_run r (Run s) = ap (λ b. nat_lt s r || b) (or_false (nat_eq s r)) ∙ sym (below_next s r)
next_run r (Leg p) = sym (below_next p.run r)

-- ---- none yet

pub no_leg_yet : (r j : ℕ) (h : Holder) → legs_below r j zero h ≡ false
no_leg_yet r j (Run s) = refl
no_leg_yet r j (Leg p) =
    ap (λ b. nat_eq p.run r && (nat_eq p.job j && b)) (none_is_below p.leg) ∙ ap (λ b. nat_eq p.run r && b) (and_false (nat_eq p.job j)) ∙ and_false (nat_eq p.run r)

pub no_job_yet : (r : ℕ) (h : Holder) → jobs_below r zero h ≡ false
no_job_yet r (Run s) = refl
no_job_yet r (Leg p) = ap (λ b. nat_eq p.run r && b) (none_is_below p.job) ∙ and_false (nat_eq p.run r)

-- ---- it was not among those before

pub leg_is_another : (r j l : ℕ) (h : Holder) → same_holder h (Leg (record { run = r; job = j; leg = l })) ≡ true → legs_below r j l h ≡ false
leg_is_another r j l h same =
    ap (legs_below r j l) (holder_tested h (Leg (record { run = r; job = j; leg = l })) same)
    ∙ ap (λ b. nat_eq r r && (nat_eq j j && b)) (not_below_itself l) ∙ ap (λ b. nat_eq r r && b) (and_false (nat_eq j j)) ∙ and_false (nat_eq r r)

pub job_is_another : (r j : ℕ) (h : Holder) → in_job r j h ≡ true → jobs_below r j h ≡ false
job_is_another r j (Run s) of_job = refl
job_is_another r j (Leg p) of_job =
    let parts = and_parts (nat_eq p.run r) (nat_eq p.job j) of_job in
    ap (λ k. nat_eq p.run r && nat_lt k j) (eqb-true p.job j parts.1) ∙ ap (λ b. nat_eq p.run r && b) (not_below_itself j) ∙ and_false (nat_eq p.run r)

pub run_is_another : (r : ℕ) (h : Holder) → (same_holder h (Run r) || legs_of_run r h) ≡ true → runs_below r h ≡ false
run_is_another r (Run s) of_run =
    ap (λ k. nat_lt k r) (eqb-true s r (sym (or_false (nat_eq s r)) ∙ of_run)) ∙ not_below_itself r
run_is_another r (Leg p) of_run = ap (λ k. nat_lt k r) (eqb-true p.run r of_run) ∙ not_below_itself r

-- the run itself is none of its legs
pub leg_is_no_run : (r : ℕ) (h : Holder) → legs_of_run r h ≡ true → same_holder h (Run r) ≡ false
leg_is_no_run r (Run s) of_run = absurd (true≢false (sym of_run))
leg_is_no_run r (Leg p) of_run = refl

-- ---- all of them

module _ (slot : GroupSlot) (runs : List RunState) where
  there : (h : Holder) → is_of slot runs h ≡ true → is_there runs h ≡ true
  there h has = by slot has
    where
      by : (at : GroupSlot) → is_of at runs h ≡ true → is_there runs h ≡ true
      by InProgress holding = there_if_holds runs h holding
      by Pending waiting = there_if_waits runs h waiting

  pub all_legs : (r j n : ℕ) → n ≡ option_map_or (λ (y : JobState). length y.legs) (job_at runs r j) 0 → (h : Holder) → is_of slot runs h ≡ true
      → legs_below r j n h ≡ in_job r j h
  all_legs r j n many (Run s) has = refl
  all_legs r j n many (Leg p) has = by (nat_eq p.run r) (nat_eq p.job j) refl refl
    where
      within : p.run ≡ r → p.job ≡ j → p.leg < n
      within run job =
          let z = some_of (leg_at runs p) (there (Leg p) has) in
          let here = leg_in runs p z.0 z.1 in
          let at : job_at runs r j ≡ Some here.job =
          subst (λ k. job_at runs k j ≡ Some here.job) run
          (subst (λ k. job_at runs p.run k ≡ Some here.job) job
          (ap (option_and_then (λ (x : RunState). slice_get x.jobs p.job)) here.place.run_is ∙ here.place.job_is)) in
          let room : n ≡ length here.job.legs = many ∙ ap (λ o. option_map_or (λ (y : JobState). length y.legs) o 0) at in
          omega (arith, room, slice_get_within here.job.legs p.leg z.0 here.leg_is)

      by : (b c : Bool) → nat_eq p.run r ≡ b → nat_eq p.job j ≡ c → (b && (c && nat_lt p.leg n)) ≡ (b && c)
      by true true run job = (Decides-ltb p.leg n).1 (within (eqb-true p.run r run) (eqb-true p.job j job))
      by true false run job = refl
      by false c run job = refl

  pub all_jobs : (r n : ℕ) → n ≡ option_map_or (λ (x : RunState). length x.jobs) (run_at runs r) 0 → (h : Holder) → is_of slot runs h ≡ true
      → jobs_below r n h ≡ legs_of_run r h
  all_jobs r n many (Run s) has = refl
  all_jobs r n many (Leg p) has = by (nat_eq p.run r) refl
    where
      within : p.run ≡ r → p.job < n
      within run =
          let z = some_of (leg_at runs p) (there (Leg p) has) in
          let here = leg_in runs p z.0 z.1 in
          let at : run_at runs r ≡ Some here.place.run = subst (λ k. run_at runs k ≡ Some here.place.run) run here.place.run_is in
          let room : n ≡ length here.place.run.jobs = many ∙ ap (λ o. option_map_or (λ (x : RunState). length x.jobs) o 0) at in
          omega (arith, room, slice_get_within here.place.run.jobs p.job here.job here.place.job_is)

      by : (b : Bool) → nat_eq p.run r ≡ b → (b && nat_lt p.job n) ≡ b
      by true run = (Decides-ltb p.job n).1 (within (eqb-true p.run r run))
      by false run = refl

  pub all_runs : (n : ℕ) → n ≡ length runs → (h : Holder) → is_of slot runs h ≡ true → runs_below n h ≡ true
  all_runs n many h has =
      let within = within_there runs h (there h has) in
      (Decides-ltb (run_of h) n).1 (omega (arith, many, within))
