-- How many legs of a job are at work follows from the leases read from them; and the bound on them is preserved.
use Rattle.std.specs.Prelude.{◌≡◌, ℕ, suc, ◌≤◌, List, [], ◌∷◌, count_by, Bool, true, false, Option, Some, None}
use Rattle.std.specs.Prelude.{option_and_then, slice_get, if◌then◌else◌, refl}
use Rattle.std.specs.Option.{option_map_or}
use Rattle.std.proofs.Common.{arith, ap, sym, ◌∙◌, cond}
use Rattle.std.proofs.lemmas.List.Sums.{sum_by-cons}
use Rattle.std.proofs.lemmas.Option.{none-some}
use Rattle.run_plan.specs.declared.planned.PlannedJob.{PlannedJob}
use Rattle.table_model.specs.Fitting.{is_at_work, legs_at_work, most_at_work}
use Rattle.table_model.specs.Runs.{job_at, leg_site, LegState, JobState, RunState}
use Rattle.table_model.specs.declared.sites.LegSite.{LegSite}
use Rattle.table_model.specs.Sound.{ParallelIsBounded, LeaseFits}
use Rattle.table_model.specs.declared.phases.LegPhase.{LegPhase}
use Rattle.table_model.specs.declared.phases.LegPhase.TheVariants as leg
use Rattle.table_model.proofs.LegReads.{work_of, works_at, works_is}
use Rattle.table_model.proofs.RunFits.{RunsFit, admitted_at, leases_fit, leg_in_job, plan_at_same}
use Rattle.table_model.proofs.Settles.{Settles, admitted_stays}

abbrev pub at_work : LegState → Bool
at_work l = is_at_work l.phase

abbrev pub one_where : Bool → ℕ
one_where b = cond b 1 0

abbrev pub one_at_work : LegState → ℕ
one_at_work l = one_where (at_work l)

-- the lease of work on the leg at an index of a list
abbrev work_at : List LegState → ℕ → Option ℕ
work_at legs l = option_and_then work_of (slice_get legs l)

-- ---- a leg at work has a lease

record WorksUnder (l : LegState) : Type 0 where
  lease : ℕ
  is : work_of l ≡ Some lease

leased : (phase : LegPhase) (lease : Option ℕ) → LeaseFits phase lease → is_at_work phase ≡ true
    → WorksUnder (record { phase = phase; lease = lease })
leased leg.New lease fits e = cc
leased leg.Waiting lease fits e = cc
leased leg.Ready lease fits e = cc
leased leg.Running (Some n) fits e = record { lease = n; is = refl }
leased leg.Running None fits e = cc
leased leg.Stopping (Some n) fits e = record { lease = n; is = refl }
leased leg.Stopping None fits e = cc
leased (leg.Ended r) lease fits e = cc

works : (l : LegState) (n : ℕ) → work_of l ≡ Some n → at_work l ≡ true
works l n e =
    elim (at_work l) as (λ b. (if b then l.lease else None) ≡ Some n → b ≡ true) [
      | true ↦ λ f. refl
      | false ↦ λ f. cc
    ] e

pub at_most_one : (b : Bool) → one_where b ≤ 1
at_most_one true = omega arith
at_most_one false = omega arith

-- ---- fewer legs are at work if each of them was at work before

abbrev HaveLeases : List LegState → Type 0
HaveLeases legs = (l : ℕ) (z : LegState) → slice_get legs l ≡ Some z → LeaseFits z.phase z.lease

-- for a leg that is at work only if another is
fewer_of : (y x : LegState) → LeaseFits y.phase y.lease → ((n : ℕ) → work_of y ≡ Some n → work_of x ≡ Some n)
    → one_at_work y ≤ one_at_work x
fewer_of y x fits still =
    elim (at_work y) as (λ b. at_work y ≡ b → one_where b ≤ one_at_work x) [
      | false ↦ λ is. omega arith
      | true ↦ λ is.
          let under = leased y.phase y.lease fits is in
          let works_too : at_work x ≡ true = works x under.lease (still under.lease under.is) in
          let one : one_at_work x ≡ 1 = ap one_where works_too in
          omega (arith, one)
    ] refl

-- for a leg that did not exist before
not_at_work : (y : LegState) → LeaseFits y.phase y.lease → ((n : ℕ) → work_of y ≡ Some n → None ≡ Some n) → one_at_work y ≡ 0
not_at_work y fits still =
    elim (at_work y) as (λ b. at_work y ≡ b → one_where b ≡ 0) [
      | false ↦ λ is. refl
      | true ↦ λ is. let under = leased y.phase y.lease fits is in absurd (none-some under.lease (still under.lease under.is))
    ] refl

pub fewer : (ys xs : List LegState) → HaveLeases ys → ((l n : ℕ) → work_at ys l ≡ Some n → work_at xs l ≡ Some n)
    → count_by at_work ys ≤ count_by at_work xs
fewer [] xs have still = omega arith
fewer (y ∷ ys) [] have still =
    let head = not_at_work y (have 0 y refl) (λ n e. still 0 n e) in
    let tail = fewer ys [] (λ l z e. have (suc l) z e) (λ l n e. still (suc l) n e) in
    let sum = sum_by-cons one_at_work y ys in
    omega (arith, head, tail, sum)
fewer (y ∷ ys) (x ∷ xs) have still =
    let head = fewer_of y x (have 0 y refl) (λ n e. still 0 n e) in
    let tail = fewer ys xs (λ l z e. have (suc l) z e) (λ l n e. still (suc l) n e) in
    let sum = sum_by-cons one_at_work y ys in
    let before = sum_by-cons one_at_work x xs in
    omega (arith, head, tail, sum, before)

-- ---- in a table

-- the legs of a job, or none if there is no job
abbrev legs_of : Option JobState → List LegState
legs_of o = option_map_or (λ job. job.legs) o []

read_of_job : (o : Option JobState) (l : ℕ) → option_and_then (λ (job : JobState). slice_get job.legs l) o ≡ slice_get (legs_of o) l
read_of_job None l = refl
read_of_job (Some job) l = refl

reads : (runs : List RunState) (r j l : ℕ) → works_at runs (leg_site r j l) ≡ work_at (legs_of (job_at runs r j)) l
reads runs r j l =
    sym (works_is runs (leg_site r j l)) ∙ ap (option_and_then work_of) (read_of_job (job_at runs r j) l)

bounded_of : (o : Option JobState) (most : ℕ) → ((x : JobState) → o ≡ Some x → legs_at_work x ≤ most) → count_by at_work (legs_of o) ≤ most
bounded_of None most b = omega arith
bounded_of (Some x) most b = b x refl

-- a job that is at work on no leg besides those before is bounded as before
pub fewer_in_job : (runs next : List RunState) → RunsFit next → (r j : ℕ) (y : JobState) (most : ℕ) → job_at next r j ≡ Some y
    → ((l n : ℕ) → works_at next (leg_site r j l) ≡ Some n → works_at runs (leg_site r j l) ≡ Some n)
    → ((x : JobState) → job_at runs r j ≡ Some x → legs_at_work x ≤ most)
    → legs_at_work y ≤ most
fewer_in_job runs next fit r j y most at still bounded =
    let now : (l : ℕ) → works_at next (leg_site r j l) ≡ work_at y.legs l = λ l. reads next r j l ∙ ap (λ o. work_at (legs_of o) l) at in
    let have : HaveLeases y.legs = λ l z e. leases_fit next fit (leg_site r j l) z (leg_in_job next (leg_site r j l) y at ∙ e) in
    let less = fewer y.legs (legs_of (job_at runs r j)) have (λ l n e. sym (reads runs r j l) ∙ still l n (now l ∙ e)) in
    let before = bounded_of (job_at runs r j) most bounded in
    omega (arith, less, before)

pub most_same : (runs next : List RunState) (r j : ℕ) → admitted_at next r ≡ admitted_at runs r
    → most_at_work next r j ≡ most_at_work runs r j
most_same runs next r j same = ap (option_and_then (λ (planned : PlannedJob). planned.max_parallel)) (plan_at_same runs next r j same)

-- if no leg is at work that was not before, the bounds still hold
pub fewer_at_work : (runs next : List RunState) → RunsFit next → ((r : ℕ) → admitted_at next r ≡ admitted_at runs r)
    → ((p : LegSite) (n : ℕ) → works_at next p ≡ Some n → works_at runs p ≡ Some n) → ParallelIsBounded runs → ParallelIsBounded next
fewer_at_work runs next fit same still bounded r j y most at is =
    fewer_in_job runs next fit r j y most at (λ l n e. still (leg_site r j l) n e)
    (λ x was. bounded r j x most was (sym (most_same runs next r j (same r)) ∙ is))

pub settling_bounded : (runs next : List RunState) → Settles runs next → ParallelIsBounded runs → ParallelIsBounded next
settling_bounded runs next settling bounded =
    fewer_at_work runs next settling.stay.fit (admitted_stays runs next settling.stay) (λ p n e. sym (settling.same_works p) ∙ e) bounded
