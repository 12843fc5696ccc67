use Rattle.std.proofs.Common.{◌≡◌, ◌+◌, ℕ, Option, arith, ap, ap₂, rules, sym, take, ◌∙◌, subst}
use Rattle.std.specs.Prelude.{List, MatchOption, Some, length, min, option_map, slice_get}
use Rattle.std.proofs.lemmas.List.{length-map, length-take, take_all}
use Rattle.std.proofs.lemmas.Option.{slice_get-map}
use Rattle.run_plan.specs.PlanOf.{plan_of}
use Rattle.table_model.specs.AsPlanned.{AreAsPlanned, IsAsPlanned}
use Rattle.table_model.specs.Forgotten.{ForgottenRuns, forgotten_of, number_of_next}
use Rattle.table_model.specs.Parts.{AreRunsOf, RunParts, run_of_parts, stored_run}
use Rattle.table_model.specs.Runs.{RunState, run_at}
use Rattle.table_model.proofs.Numbered.{none_of, one_more_of}
use Rattle.table_model.proofs.OneAfterAnother.{all_passed, none_yet, one_passed, read_at}
use Rattle.table_model.proofs.Optional.{from_map}
use Rattle.table_runs.specs.inner.Counted.{number_among}
use Rattle.table_runs.proofs.Counting.{among_within, number_after}
use Rattle.table_runs.proofs.Stored.{one_more_stored}
use Rattle.table_runs.proofs.runs.of.rows_of.Goals as goal

abbrev IsPlanned : RunParts → Type 0
IsPlanned part = IsAsPlanned (plan_of part.admitted.body) part.jobs

-- the part of a run
part_there : (forgotten : ForgottenRuns) (parts : List RunParts) (runs : List RunState) (r : ℕ) (x : RunState) → AreRunsOf forgotten parts runs
    → run_at runs r ≡ Some x → slice_get parts r ≡ Some (stored_run x)
part_there forgotten parts runs r x are at =
    ap (λ (ps : List RunParts). slice_get ps r) (sym are.as_stored) ∙ slice_get-map stored_run runs r ∙ ap (option_map stored_run) at

planned_there : (forgotten : ForgottenRuns) (parts : List RunParts) (runs : List RunState) (r : ℕ) (part : RunParts)
    → AreRunsOf forgotten parts runs → AreAsPlanned runs → slice_get parts r ≡ Some part → IsPlanned part
planned_there forgotten parts runs r part are planned at =
    let its = from_map stored_run (run_at runs r) part
    (sym (slice_get-map stored_run runs r) ∙ ap (λ (ps : List RunParts). slice_get ps r) are.as_stored ∙ at) in
    subst IsPlanned its.gives (planned.each r its.value its.is)

-- the run of a part, if it has the jobs and legs of its plan
run_of_part : (part : RunParts) (id number : ℕ) (o : Option RunState) (run : RunState) → o ≡ Some run
    → MatchOption o (IsPlanned part → ⊥) (λ run. (run ≡ run_of_parts id number part) × IsPlanned part)
    → (run ≡ run_of_parts id number part) × IsPlanned part
run_of_part part id number o run is found =
    subst (λ (p : Option RunState). MatchOption p (IsPlanned part → ⊥) (λ run. (run ≡ run_of_parts id number part) × IsPlanned part)) is found

pub loop-r-init : goal.loop-r-init
loop-r-init c = record {
  runs = none_of c.args.forgotten.now c.new-rows.result.runs c.new-rows.ensures.runs;
  stored = search rules;
  planned = none_yet (λ (k : ℕ) (x : RunParts). IsPlanned x) c.args.parts.now;
  entries = c.requires.empty;
}

pub coming-requires : goal.coming-requires
coming-requires c =
    omega (
      arith,
      length-map c.loop-r.rows.runs stored_run,
      ap length c.loop-r.invariant.runs.as_stored,
      length-take c.loop-r.r c.args.parts.now,
    )

pub next_number-number-requires : goal.next_number-number-requires
next_number-number-requires c =
    let runs = c.loop-r.rows.runs in
    let parts = c.args.parts.now in
    let many = sym (length-map runs stored_run) ∙ ap length c.loop-r.invariant.runs.as_stored ∙ length-take c.loop-r.r parts in
    let among = c.in_ok-coming.ensures.number ∙ ap (λ (p : RunParts). number_among runs p.admitted) c.part.view_is in
    omega (arith, many, among_within runs c.index-parts-r.result.admitted, among, c.requires.ids)

pub returns-in_default-clause-planned : goal.returns-in_default-clause-planned
returns-in_default-clause-planned c = λ runs are planned.
    let parts = c.args.parts.now in
    let part = c.index-parts-r.result in
    let not : IsPlanned part → ⊥ =
    subst (λ (o : Option RunState). MatchOption o (IsPlanned part → ⊥)
    (λ run. (run ≡ run_of_parts c.next_id-id.result c.next_number-number.result part) × IsPlanned part)) c.in_default.is c.in_ok-run.ensures.of in
    not (planned_there c.args.forgotten.now parts runs c.loop-r.r part are planned (read_at parts c.loop-r.r part (omega arith) c.index-parts-r.is))

pub loop-r-preserved : goal.loop-r-preserved
loop-r-preserved c =
    let parts = c.args.parts.now in
    let r = c.loop-r.r in
    let runs = c.loop-r.rows.runs in
    let part = c.index-parts-r.result in
    let is = run_of_part part _ _ _ _ c.in-Some.is c.in_ok-run.ensures.of in
    let within : min r (length parts) ≡ r = omega arith in
    let id_is : c.next_id-id.result ≡ c.args.forgotten.now.through + length runs + 1 =
    c.next_id-id.ensures
    ∙ ap (λ n. c.args.forgotten.now.through + n + 1)
    (sym (sym (length-map runs stored_run) ∙ ap length c.loop-r.invariant.runs.as_stored ∙ length-take r parts ∙ within)) in
    let forgotten = c.args.forgotten.now in
    let among = c.in_ok-coming.coming.number in
    let number_is : c.next_number-number.result ≡ number_of_next forgotten runs part.admitted =
    number_after forgotten runs part.admitted c.next_number-number.result among
    (c.next_number-number.ensures ∙ ap (λ (p : RunParts). forgotten_of forgotten.counts p.admitted + among) c.part.view_is)
    (c.in_ok-coming.ensures.number ∙ ap (λ (p : RunParts). number_among runs p.admitted) c.part.view_is) in
    let run_is = is.0 ∙ ap₂ (λ id number. run_of_parts id number part) id_is number_is in
    let at = read_at parts r part (omega arith) c.index-parts-r.is in
    let adds = c.in_ok-add.ensures.adds in
    record {
      runs = subst (AreRunsOf c.args.forgotten.now (take (r + 1) parts)) (sym adds.runs)
          (one_more_of c.args.forgotten.now parts r part runs _ c.loop-r.invariant.runs at run_is);
      stored = one_more_stored _ c.loop-r.rows c.add.new.self c.loop-r.book c.add.new.book c.loop-r.invariant.stored adds.runs
          adds.told adds.tickets adds.older adds.expected;
      planned = one_passed (λ (k : ℕ) (x : RunParts). IsPlanned x) parts r part c.loop-r.invariant.planned (omega arith) c.index-parts-r.is is.1;
      entries = adds.entries ∙ c.loop-r.invariant.entries;
    }

pub add-requires-clause-workflow : goal.add-requires-clause-workflow
add-requires-clause-workflow c =
    let is = run_of_part c.index-parts-r.result _ _ _ _ c.in-Some.is c.in_ok-run.ensures.of in
    c.in_ok-coming.ensures.workflow ∙ ap (λ (p : RunParts). p.admitted) c.part.view_is ∙ ap (λ (x : RunState). x.admitted) (sym is.0)

pub add-requires-clause-number : goal.add-requires-clause-number
add-requires-clause-number c =
    let is = run_of_part c.index-parts-r.result _ _ _ _ c.in-Some.is c.in_ok-run.ensures.of in
    c.in_ok-coming.ensures.number ∙ ap (λ (p : RunParts). number_among c.loop-r.rows.runs p.admitted) c.part.view_is
    ∙ ap (λ (x : RunState). number_among c.loop-r.rows.runs x.admitted) (sym is.0)

pub returns-clause-runs : goal.returns-clause-runs
returns-clause-runs c =
    let parts = c.args.parts.now in
    subst (λ all. AreRunsOf c.args.forgotten.now all c.loop-r.rows.runs) (take_all c.loop-r.r parts (omega arith)) c.loop-r.invariant.runs

pub returns-clause-planned : goal.returns-clause-planned
returns-clause-planned c =
    let parts = c.args.parts.now in
    let runs = c.loop-r.rows.runs in
    let are = subst (λ all. AreRunsOf c.args.forgotten.now all runs) (take_all c.loop-r.r parts (omega arith)) c.loop-r.invariant.runs in
    let each = all_passed (λ (k : ℕ) (x : RunParts). IsPlanned x) parts c.loop-r.r c.loop-r.invariant.planned (omega arith) in
    record {
      few = omega (arith, length-map runs stored_run, ap length are.as_stored, c.requires.few);
      each = λ r x at. each r (stored_run x) (part_there c.args.forgotten.now parts runs r x are at);
    }
