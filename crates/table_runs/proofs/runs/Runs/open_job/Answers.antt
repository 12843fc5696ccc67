use Rattle.std.proofs.Common.{◌<◌, ◌+◌, List, length, arith, ap, refl, subst, sym, ◌∙◌}
use Rattle.run_marks.specs.Marked.{Covers}
use Rattle.table_model.specs.Changes.{changed}
use Rattle.table_model.specs.Runs.{with_job, with_run, RunState, opened}
use Rattle.table_model.specs.Settling.{may_run, first_site}
use Rattle.table_model.specs.Sound.{RunsAreSound}
use Rattle.table_model.specs.LegContext.{planned_legs}
use Rattle.table_model.specs.declared.change.Change.TheVariants as change
use Rattle.table_runs.specs.inner.GroupsKept.{arrivals_to_come}
use Rattle.table_runs.proofs.MarkedRuns.{put_adds, put_marks}
use Rattle.table_runs.proofs.OpenedJob.{due_open, job_is_undecided, kept_open, opened_is, opened_within}
use Rattle.table_runs.proofs.runs.Runs.open_job.Goals as goal

pub decide-without_group-requires : goal.decide-without_group-requires
decide-without_group-requires c =
    let sound = subst RunsAreSound (sym c.self.view_is) c.requires.sound in
    let first = ap first_site c.self.view_is ∙ c.requires.first in
    job_is_undecided c.self.inside.rows.runs c.self.inside.rows.bindings c.args.r c.args.j sound c.self.invariant.0.told first

pub forgo-requires : goal.forgo-requires
forgo-requires c = omega (arith, c.decide-without_group.ensures.without, c.self.invariant.0.expected)

pub mark-requires : goal.mark-requires
mark-requires c =
    let sound = subst RunsAreSound (sym c.self.view_is) c.requires.sound in
    let first = ap first_site c.self.view_is ∙ c.requires.first in
    let bound = c.decide-without_group.ensures.bound in
    let within : c.args.r < length c.self.inside.rows.runs =
    opened_within c.self.inside.rows.runs c.self.inside.rows.bindings c.args.r c.args.j sound bound c.self.invariant.0.told first in
    let covers : Covers c.self.inside.due (length c.self.inside.rows.runs) = c.self.invariant.1.covers in
    omega (arith, within, covers)

pub invariant_of-self : goal.invariant_of-self
invariant_of-self c =
    let runs = c.self.inside.rows.runs in
    let bindings = c.self.inside.rows.bindings in
    let r = c.args.r in
    let sound = subst RunsAreSound (sym c.self.view_is) c.requires.sound in
    let first = ap first_site c.self.view_is ∙ c.requires.first in
    let may = ap (λ (rs : List RunState). may_run rs r c.args.j) c.self.view_is ∙ c.requires.may in
    let bound = c.decide-without_group.ensures.bound in
    let told = c.self.invariant.0.told in
    let fewer = ap arrivals_to_come (sym c.decide-without_group.ensures.decided) in
    rw (c.change.ensures.runs, c.change.ensures.bindings, c.decide-without_group.ensures.runs, c.decide-without_group.ensures.decided) (
      kept_open runs bindings r c.args.j sound bound told first may c.self.inside.book c.forgo.new.self c.decide-without_group.result
          (ap (λ n. n + c.decide-without_group.result) fewer ∙ c.decide-without_group.ensures.without) c.forgo.ensures.entries
          c.forgo.ensures.expected c.self.invariant.0,
      due_open runs bindings r c.args.j sound bound told first may c.self.inside.due c.mark.new.self
          (λ i is. put_adds r i c.self.inside.due c.mark.new.self c.mark.ensures.puts is)
          (put_marks r r c.self.inside.due c.mark.new.self c.mark.ensures.puts refl) c.mark.ensures.keeps c.self.invariant.1,
    )

pub returns : goal.returns
returns c =
    c.change.ensures.runs ∙ ap (with_run c.args.r (changed (change.Open c.args.j))) c.decide-without_group.ensures.runs
    ∙ opened_is c.self.inside.rows.runs c.args.r c.args.j
    ∙ ap (λ (rs : List RunState). with_job c.args.r c.args.j (opened (planned_legs rs c.args.r c.args.j)) rs) c.self.view_is
