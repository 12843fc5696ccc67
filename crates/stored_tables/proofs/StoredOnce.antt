-- The parts of a table are those of at most one table: what is not stored follows from the rest.
use Rattle.std.specs.Prelude.{◌≡◌, ℕ, suc, ◌+◌, ◌<◌, ◌≤◌, ◌&&◌, List, [], ◌∷◌, length, Option, Some, None, option_and_then, slice_get, refl, true}
use Rattle.std.specs.Prelude.{IfOk, MatchOption, Result, Ok, Err}
use Rattle.std.specs.Cmp.Lexicographic.{slice_cmp}
use Rattle.std.specs.Option.{option_map_or}
use Rattle.std.specs.Ordering.{is_lt, nat_cmp}
use Rattle.std.proofs.Common.{arith, ap, ap₂, sym, subst, ◌∙◌, inl, inr}
use Rattle.std.proofs.lemmas.Option.{same_Some}
use Rattle.definitions.specs.Limits.{last_number}
use Rattle.definitions.specs.Rising.{rises_by}
use Rattle.std.proofs.lemmas.List.{length-map}
use Rattle.wf_value.specs.declared.outcome.JobResult.{JobResult}
use Rattle.run_plan.specs.PlanOf.{plan_of}
use Rattle.run_plan.specs.declared.last_command.ClaimReply.{ClaimReply}
use Rattle.run_plan.specs.declared.last_command.ClaimReply.TheVariants as given
use Rattle.run_plan.specs.declared.last_command.KeptLease.{KeptLease}
use Rattle.run_plan.specs.declared.last_command.LastCommand.{LastCommand}
use Rattle.run_plan.specs.declared.last_command.LastCommand.TheVariants as last
use Rattle.run_plan.specs.declared.planned.PlannedJob.{PlannedJob}
use Rattle.run_plan.specs.declared.reply.Lease.{Lease}
use Rattle.table_model.specs.Runs.{leg_at, plan_at, run_at, LegState, RunState}
use Rattle.table_model.specs.declared.sites.LegSite.{LegSite}
use Rattle.table_model.specs.LegContext.{id_at}
use Rattle.table_model.specs.Forgotten.{ForgottenRuns}
use Rattle.table_model.specs.Parts.{AreRunsOf, RunParts, stored_run}
use Rattle.table_model.specs.Sound.{ForgottenFit, IdsFollow, IsOfALeg, IsSound, LeasesDiffer, LegsFit}
use Rattle.table_model.specs.Step.{lease_at}
use Rattle.stored_tables.specs.Stored.{RunnerParts, TableParts, stored_site}
use Rattle.stored_tables.specs.TableOf.{AreRunnersAs, IsLastAs, IsLeaseAs, IsNoTable, IsPlacedAs, IsReplyAs, IsRunnerAs, IsStoredAs}
use Rattle.table_model.specs.AsPlanned.{AreAsPlanned, HasRoom}
use Rattle.table_model.specs.TableState.{RunnerState, TableState, names_rise}
use Rattle.table_model.specs.Groups.{HasOneEach}
use Rattle.stored_tables.specs.declared.parts.LastParts.{LastParts}
use Rattle.stored_tables.specs.declared.parts.LastParts.TheVariants as stored
use Rattle.stored_tables.specs.declared.parts.StoredLease.{StoredLease}
use Rattle.stored_tables.specs.declared.parts.StoredSite.{StoredSite}
use Rattle.table_model.specs.declared.phases.JobPhase.{JobPhase}
use Rattle.table_model.specs.declared.phases.JobPhase.TheVariants as job
use Rattle.table_model.proofs.Numbered.{same_runs}
use Rattle.table_model.proofs.RunFits.{job_in_run}

-- ---- a kept lease follows from the runs

-- the run at a place has the id that follows from it
pub id_follows : (forgotten : ForgottenRuns) (runs : List RunState) → IdsFollow forgotten runs → (r : ℕ) (x : RunState) → run_at runs r ≡ Some x → id_at runs r ≡ forgotten.through + r + 1
id_follows forgotten runs follow r x at = ap (λ o. option_map_or (λ (run : RunState). run.id) o 0) at ∙ follow r x at

-- a run that has an id is there
id_of : (forgotten : ForgottenRuns) (runs : List RunState) → IdsFollow forgotten runs → (r : ℕ) (o : Option RunState) → run_at runs r ≡ o
    → 1 ≤ option_map_or (λ (run : RunState). run.id) o 0 → option_map_or (λ (run : RunState). run.id) o 0 ≡ forgotten.through + r + 1
id_of forgotten runs follow r None at some = let no : 1 ≤ 0 = some in absurd (omega (arith, no))
id_of forgotten runs follow r (Some x) at some = follow r x at

pub id_there : (forgotten : ForgottenRuns) (runs : List RunState) → IdsFollow forgotten runs → (r : ℕ) → 1 ≤ id_at runs r → id_at runs r ≡ forgotten.through + r + 1
id_there forgotten runs follow r some = id_of forgotten runs follow r (run_at runs r) refl some

-- what a kept lease says of its place
pub run_told : (most : ℕ) (forgotten : ForgottenRuns) (runs : List RunState) → IdsFollow forgotten runs → (kept : KeptLease) (of : IsOfALeg most runs kept)
    → kept.lease_reply.run ≡ forgotten.through + of.place.run + 1
run_told most forgotten runs follow kept of = ap (λ (t : Lease). t.run) of.tells ∙ id_follows forgotten runs follow of.place.run of.run of.run_is

pub leg_told : (most : ℕ) (runs : List RunState) (kept : KeptLease) (of : IsOfALeg most runs kept) → kept.lease_reply.leg ≡ of.place.leg
leg_told most runs kept of = ap (λ (t : Lease). t.leg) of.tells

-- a leg has a lease of its run's current attempt
pub present_has_it : (most : ℕ) (runs : List RunState) (kept : KeptLease) (of : IsOfALeg most runs kept) → IsPlacedAs of.run None kept
    → (x : LegState) × (leg_at runs of.place ≡ Some x) × (x.lease ≡ Some kept.lease_reply.lease)
present_has_it most runs kept of present = of.has_it present

pub same_place : (p q : LegSite) → p.run ≡ q.run → p.job ≡ q.job → p.leg ≡ q.leg → p ≡ q
same_place p q run job leg = λ i. record { run = run i; job = job i; leg = leg i }

place_is : (most : ℕ) (forgotten : ForgottenRuns) (runs : List RunState) → IdsFollow forgotten runs → LeasesDiffer runs → (parts : StoredLease) (o : Option StoredSite) (a b : KeptLease)
    → (of_a : IsOfALeg most runs a) (of_b : IsOfALeg most runs b) → a.lease_reply.lease ≡ b.lease_reply.lease → IsPlacedAs of_a.run o a → IsPlacedAs of_b.run o b
    → (of_a.place ≡ of_b.place) × (a.attempt ≡ b.attempt)
place_is most forgotten runs follow differ parts None a b of_a of_b same at_a at_b =
    let (x, is_x, has_x) = present_has_it most runs a of_a at_a in
    let (y, is_y, has_y) = present_has_it most runs b of_b at_b in
    let place : of_a.place ≡ of_b.place = differ of_a.place of_b.place x y b.lease_reply.lease is_x is_y (has_x ∙ ap Some same) has_y in
    let one : of_a.run ≡ of_b.run =
    same_Some of_a.run of_b.run (sym of_a.run_is ∙ ap (λ (p : LegSite). run_at runs p.run) place ∙ of_b.run_is) in
    (place, at_a ∙ ap (λ (x : RunState). x.attempt) one ∙ sym at_b)
place_is most forgotten runs follow differ parts (Some stored) a b of_a of_b same at_a at_b =
    let one : stored_site a ≡ stored_site b = at_a ∙ sym at_b in
    let run : a.lease_reply.run ≡ b.lease_reply.run = ap (λ (p : StoredSite). p.run) one in
    let first = run_told most forgotten runs follow a of_a in
    let second = run_told most forgotten runs follow b of_b in (
      same_place of_a.place of_b.place (omega (arith, run, first, second))
          (sym of_a.job_is ∙ ap (λ (p : StoredSite). p.job) one ∙ of_b.job_is)
          (sym (leg_told most runs a of_a) ∙ ap (λ (p : StoredSite). p.leg) one ∙ leg_told most runs b of_b),
      ap (λ (p : StoredSite). p.attempt) one,
    )

same_lease : (most : ℕ) (forgotten : ForgottenRuns) (runs : List RunState) → IdsFollow forgotten runs → LeasesDiffer runs → (parts : StoredLease) (a b : KeptLease)
    → IsLeaseAs most runs parts a → IsLeaseAs most runs parts b → a ≡ b
same_lease most forgotten runs follow differ parts a b is_a is_b =
    let of_a = is_a.is_of_a_leg in
    let of_b = is_b.is_of_a_leg in
    let number : a.lease_reply.lease ≡ b.lease_reply.lease = is_a.lease ∙ sym is_b.lease in
    let both = place_is most forgotten runs follow differ parts parts.place a b of_a of_b number is_a.place is_b.place in
    let lease_reply : a.lease_reply ≡ b.lease_reply = of_a.tells ∙ ap₂ (lease_at runs) both.0 number ∙ sym of_b.tells in
    let attempt : a.attempt ≡ b.attempt = both.1 in
    let job : a.job ≡ b.job = of_a.job_is ∙ ap (λ (p : LegSite). p.job) both.0 ∙ sym of_b.job_is in
    λ i. record { lease_reply = lease_reply i; attempt = attempt i; job = job i }

same_reply : (most : ℕ) (forgotten : ForgottenRuns) (runs : List RunState) → IdsFollow forgotten runs → LeasesDiffer runs → (parts : Option StoredLease) (a b : ClaimReply)
    → IsReplyAs most runs parts a → IsReplyAs most runs parts b → a ≡ b
same_reply most forgotten runs follow differ None given.Nothing given.Nothing is_a is_b = refl
same_reply most forgotten runs follow differ None given.Nothing (given.Lease b) is_a is_b = absurd is_b
same_reply most forgotten runs follow differ None (given.Lease a) given.Nothing is_a is_b = absurd is_a
same_reply most forgotten runs follow differ None (given.Lease a) (given.Lease b) is_a is_b = absurd is_a
same_reply most forgotten runs follow differ (Some parts) given.Nothing given.Nothing is_a is_b = refl
same_reply most forgotten runs follow differ (Some parts) given.Nothing (given.Lease b) is_a is_b = absurd is_a
same_reply most forgotten runs follow differ (Some parts) (given.Lease a) given.Nothing is_a is_b = absurd is_b
same_reply most forgotten runs follow differ (Some parts) (given.Lease a) (given.Lease b) is_a is_b =
    ap given.Lease (same_lease most forgotten runs follow differ parts a b is_a is_b)

same_last : (most : ℕ) (forgotten : ForgottenRuns) (runs : List RunState) → IdsFollow forgotten runs → LeasesDiffer runs → (parts : LastParts) (a b : LastCommand)
    → IsLastAs most runs parts a → IsLastAs most runs parts b → a ≡ b
same_last most forgotten runs follow differ (stored.Claim claim parts) (last.Claim c r) (last.Claim d s) is_a is_b =
    ap₂ last.Claim (is_a.0 ∙ sym is_b.0) (same_reply most forgotten runs follow differ parts r s is_a.1 is_b.1)
same_last most forgotten runs follow differ (stored.Claim claim parts) (last.Claim c r) (last.Done d) is_a is_b = absurd is_b
same_last most forgotten runs follow differ (stored.Claim claim parts) (last.Done c) b is_a is_b = absurd is_a
same_last most forgotten runs follow differ (stored.Done report) (last.Claim c r) b is_a is_b = absurd is_a
same_last most forgotten runs follow differ (stored.Done report) (last.Done c) (last.Claim d s) is_a is_b = absurd is_b
same_last most forgotten runs follow differ (stored.Done report) (last.Done c) (last.Done d) is_a is_b = ap last.Done (is_a ∙ sym is_b)

same_runner : (most : ℕ) (forgotten : ForgottenRuns) (runs : List RunState) → IdsFollow forgotten runs → LeasesDiffer runs → (part : RunnerParts) (x y : RunnerState)
    → IsRunnerAs most runs part x → IsRunnerAs most runs part y → x ≡ y
same_runner most forgotten runs follow differ part x y is_x is_y =
    let name : x.name ≡ y.name = is_x.name ∙ sym is_y.name in
    let number : x.number ≡ y.number = is_x.number ∙ sym is_y.number in
    let holds : x.holds ≡ y.holds = is_x.holds ∙ sym is_y.holds in
    let the_last : x.last ≡ y.last = same_last most forgotten runs follow differ part.last x.last y.last is_x.last is_y.last in
    λ i. record { name = name i; number = number i; last = the_last i; holds = holds i }

-- those after the first
others : (most : ℕ) (runs : List RunState) (part : RunnerParts) (parts : List RunnerParts) (x : RunnerState) (xs : List RunnerState)
    → AreRunnersAs most runs (part ∷ parts) (x ∷ xs) → AreRunnersAs most runs parts xs
others most runs part parts x xs are = record {
  as_many = omega (arith, are.as_many);
  each = (λ k p y at_p at_y. are.each (suc k) p y at_p at_y);
}

pub same_runners : (most : ℕ) (forgotten : ForgottenRuns) (runs : List RunState) → IdsFollow forgotten runs → LeasesDiffer runs → (parts : List RunnerParts) (xs ys : List RunnerState)
    → AreRunnersAs most runs parts xs → AreRunnersAs most runs parts ys → xs ≡ ys
same_runners most forgotten runs follow differ [] [] [] are_x are_y = refl
same_runners most forgotten runs follow differ [] [] (y ∷ ys) are_x are_y = absurd (omega (arith, are_y.as_many))
same_runners most forgotten runs follow differ [] (x ∷ xs) ys are_x are_y = absurd (omega (arith, are_x.as_many))
same_runners most forgotten runs follow differ (part ∷ parts) [] ys are_x are_y = absurd (omega (arith, are_x.as_many))
same_runners most forgotten runs follow differ (part ∷ parts) (x ∷ xs) [] are_x are_y = absurd (omega (arith, are_y.as_many))
same_runners most forgotten runs follow differ (part ∷ parts) (x ∷ xs) (y ∷ ys) are_x are_y =
    ap₂ (λ z zs. z ∷ zs) (same_runner most forgotten runs follow differ part x y (are_x.each 0 part x refl refl) (are_y.each 0 part y refl refl))
    (same_runners most forgotten runs follow differ parts xs ys (others most runs part parts x xs are_x) (others most runs part parts y ys are_y))

-- ---- names

pub names_stored : (most : ℕ) (runs : List RunState) (parts : List RunnerParts) (xs : List RunnerState) → AreRunnersAs most runs parts xs
    → names_rise xs ≡ rises_by (λ (r : RunnerParts). r.name) parts
names_stored most runs [] [] are = refl
names_stored most runs [] (x ∷ xs) are = absurd (omega (arith, are.as_many))
names_stored most runs (part ∷ parts) [] are = absurd (omega (arith, are.as_many))
names_stored most runs (part ∷ []) (x ∷ []) are = refl
names_stored most runs (part ∷ []) (x ∷ y ∷ ys) are = absurd (omega (arith, are.as_many))
names_stored most runs (part ∷ other ∷ parts) (x ∷ []) are = absurd (omega (arith, are.as_many))
names_stored most runs (part ∷ other ∷ parts) (x ∷ y ∷ ys) are =
    ap₂ (λ a b. is_lt (slice_cmp nat_cmp a b) && names_rise (y ∷ ys)) (are.each 0 part x refl refl).name
    (are.each 1 other y refl refl).name
    ∙ ap (λ b. is_lt (slice_cmp nat_cmp part.name other.name) && b)
    (names_stored most runs (other ∷ parts) (y ∷ ys) (others most runs part (other ∷ parts) x (y ∷ ys) are))

-- whether runners are found or not, where the names of their parts rise
pub names_told : {V E : Type 0} (items : V → List RunnerState) (most : ℕ) (runs : List RunState) (parts : List RunnerParts)
    (r : Result (Option V) E) → rises_by (λ (p : RunnerParts). p.name) parts ≡ true
    → IfOk r (λ found. MatchOption found ((xs : List RunnerState) → AreRunnersAs most runs parts xs → ⊥)
    (λ v. AreRunnersAs most runs parts (items v)))
    → IfOk r (λ found. MatchOption found ((xs : List RunnerState) → AreRunnersAs most runs parts xs → names_rise xs ≡ true → ⊥)
    (λ v. AreRunnersAs most runs parts (items v) × (names_rise (items v) ≡ true)))
names_told items most runs parts (Err e) rise lease_reply = tt
names_told items most runs parts (Ok None) rise lease_reply = λ xs are its. lease_reply xs are
names_told items most runs parts (Ok (Some v)) rise lease_reply = (lease_reply, names_stored most runs parts (items v) lease_reply ∙ rise)

-- ---- the runs of a table are as planned

has_room : (planned : ℕ) (result : JobResult) (phase : JobPhase) (legs : List LegState) → LegsFit planned result phase legs
    → HasRoom planned legs
has_room planned result job.Blocked legs fits = inl fits
has_room planned result job.Open legs fits = inr fits
has_room planned result (job.Finished r) legs fits = elim fits [ inl none ↦ inl none.0 | inr all ↦ inr all.0 ]

pub as_planned : (t : TableState) → IsSound t → AreAsPlanned t.runs
as_planned t s = record {
  few = s.few_runs;
  each = (λ r x at. record {
    as_many = s.jobs_are_the_plans r x at;
    have_room = (λ j y at_j planned at_plan.
        let many = ap (λ (o : Option PlannedJob). option_map_or (λ (k : PlannedJob). length k.legs) o 0)
        (plan_in t.runs r j x at ∙ at_plan) in
        subst (λ n. HasRoom n y.legs) many (has_room _ _ y.phase y.legs (s.jobs_fit r j y (job_in_run t.runs r j x at ∙ at_j))));
  });
}
  where
    plan_in : (runs : List RunState) (r j : ℕ) (x : RunState) → run_at runs r ≡ Some x
        → plan_at runs r j ≡ slice_get (plan_of x.admitted.body) j
    plan_in runs r j x at = ap (λ o. option_and_then (λ (run : RunState). slice_get (plan_of run.admitted.body) j) o) at

-- ---- the table of the parts

-- a run for each of its parts
pub as_many_runs : (forgotten : ForgottenRuns) (parts : List RunParts) (runs : List RunState) → AreRunsOf forgotten parts runs
    → length runs ≡ length parts
as_many_runs forgotten parts runs are = sym (length-map runs stored_run) ∙ ap (λ (ps : List RunParts). length ps) are.as_stored

module _ (parts : TableParts) where
  -- the runs of a table of the parts
  pub runs_of : (t : TableState) → IsStoredAs parts t → AreRunsOf parts.forgotten parts.runs t.runs
  runs_of t is =
      subst (λ (f : ForgottenRuns). AreRunsOf f parts.runs t.runs) is.forgotten
      (record { as_stored = is.runs; ids = is.is_sound.ids_follow; numbers = is.is_sound.numbers_follow })

  -- there is none if what is kept of forgotten runs does not fit, or their last id is too high
  pub none_forgotten_so : (ForgottenFit parts.forgotten → parts.forgotten.through ≤ last_number → ⊥) → IsNoTable parts
  none_forgotten_so not_fit t is =
      not_fit (subst ForgottenFit is.forgotten is.is_sound.forgotten_fit)
      (let last : t.forgotten.through + length t.runs ≤ last_number = is.is_sound.last_id_in_range in
      let same : t.forgotten.through ≡ parts.forgotten.through = ap (λ (f : ForgottenRuns). f.through) is.forgotten in
      omega (arith, last, same))

  -- nor if there are too many runs for their ids
  pub none_numbered : last_number < parts.forgotten.through + length parts.runs → IsNoTable parts
  none_numbered past t is =
      let last : t.forgotten.through + length t.runs ≤ last_number = is.is_sound.last_id_in_range in
      let same : t.forgotten.through ≡ parts.forgotten.through = ap (λ (f : ForgottenRuns). f.through) is.forgotten in
      let as_many = as_many_runs parts.forgotten parts.runs t.runs (runs_of t is) in
      omega (arith, past, last, same, as_many)

  -- nor if the runs are not as planned, or two wait or are in progress in a group
  pub none_planned : ((runs : List RunState) → AreRunsOf parts.forgotten parts.runs runs → AreAsPlanned runs → HasOneEach runs → ⊥)
      → IsNoTable parts
  none_planned not_planned t is = not_planned t.runs (runs_of t is) (as_planned t is.is_sound) is.is_sound.one_of_each_group

  module _ (last : ℕ) (runs : List RunState) (last_is : last ≡ parts.last_lease) (runs_are : AreRunsOf parts.forgotten parts.runs runs) where
    -- they are the given runs
    the_runs : (t : TableState) → IsStoredAs parts t → t.runs ≡ runs
    the_runs t is = same_runs parts.forgotten parts.runs t.runs runs (runs_of t is) runs_are

    -- the runners of a table of the parts are those of its last lease and its runs
    runners_are : (t : TableState) → IsStoredAs parts t → AreRunnersAs last runs parts.runners t.runners
    runners_are t is =
        subst (λ (n : ℕ). AreRunnersAs n runs parts.runners t.runners) (is.last_lease ∙ sym last_is)
        (subst (λ (xs : List RunState). AreRunnersAs t.last_lease xs parts.runners t.runners) (the_runs t is) is.runners)

    -- the only table that there may be
    the_one : (runners : List RunnerState) → AreRunnersAs last runs parts.runners runners → (t : TableState) → IsStoredAs parts t
        → t ≡ record { last_lease = last; forgotten = parts.forgotten; runs = runs; runners = runners }
    the_one runners are t is =
        let lease : t.last_lease ≡ last = is.last_lease ∙ sym last_is in
        let all : t.runs ≡ runs = the_runs t is in
        let differ : LeasesDiffer runs = subst LeasesDiffer all is.is_sound.leases_differ in
        let each : t.runners ≡ runners =
        same_runners last parts.forgotten runs runs_are.ids differ parts.runners t.runners runners (runners_are t is) are in
        λ i. record { last_lease = lease i; forgotten = is.forgotten i; runs = all i; runners = each i }

    pub none_sound : (runners : List RunnerState) → AreRunnersAs last runs parts.runners runners
        → (IsSound (record { last_lease = last; forgotten = parts.forgotten; runs = runs; runners = runners }) → ⊥) → IsNoTable parts
    none_sound runners are not_sound t is = not_sound (subst IsSound (the_one runners are t is) is.is_sound)

    -- nor if no runners are stored so
    pub none_listed : ((runners : List RunnerState) → AreRunnersAs last runs parts.runners runners → names_rise runners ≡ true → ⊥)
        → IsNoTable parts
    none_listed none t is = none t.runners (runners_are t is) is.is_sound.runners_in_order

-- so tables of the same parts are equal
pub same_table : (parts : TableParts) (one two : TableState) → IsStoredAs parts one → IsStoredAs parts two → one ≡ two
same_table parts one two first second =
    let forgotten : parts.forgotten ≡ one.forgotten = sym first.forgotten in
    let other : two ≡ record { last_lease = one.last_lease; forgotten = parts.forgotten; runs = one.runs; runners = one.runners } =
    the_one parts one.last_lease one.runs first.last_lease (runs_of parts one first) one.runners first.runners two second in
    sym (other ∙ ap (λ (f : ForgottenRuns). record { last_lease = one.last_lease; forgotten = f; runs = one.runs; runners = one.runners }) forgotten)

-- ---- the table that is made

pub stored_as : (parts : TableParts) (last : ℕ) (runs next : List RunState) (runners seen : List RunnerState) (t : TableState)
    → t ≡ record { last_lease = last; forgotten = parts.forgotten; runs = next; runners = runners } → next ≡ runs → seen ≡ runners
    → IsSound (record { last_lease = last; forgotten = parts.forgotten; runs = runs; runners = seen }) → last ≡ parts.last_lease
    → AreRunsOf parts.forgotten parts.runs runs → AreRunnersAs last runs parts.runners runners → IsStoredAs parts t
stored_as parts last runs next runners seen t is all same_runners sound of_last runs_are its =
    let made : TableState = record { last_lease = last; forgotten = parts.forgotten; runs = runs; runners = runners } in
    let here : IsStoredAs parts made = record {
      is_sound = subst (λ (rs : List RunnerState). IsSound (record
          { last_lease = last; forgotten = parts.forgotten; runs = runs; runners = rs })) same_runners sound;
      last_lease = of_last;
      forgotten = refl;
      runs = runs_are.as_stored;
      runners = its;
    } in
    subst (IsStoredAs parts)
    (sym (is ∙ ap (λ (rs : List RunState). record { last_lease = last; forgotten = parts.forgotten; runs = rs; runners = runners }) all)) here
