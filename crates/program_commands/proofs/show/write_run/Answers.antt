use Rattle.std.specs.Prelude.{ok_or, Option, option_map}
use Rattle.std.proofs.Common.{refl, subst}
use Rattle.wf_value.specs.declared.code.Code.TheVariants.{NoRun}
use Rattle.wf_value.specs.declared.refusal.Refusal.TheVariants.{Numbered}
use Rattle.table_model.specs.ViewText.{Seen}
use Rattle.table_views.specs.RunLines.{run_line}
use Rattle.program_commands.specs.Show.{WritesWhat}
use Rattle.program_commands.proofs.Showing.{missing}
use Rattle.program_commands.proofs.show.write_run.Goals as goal

pub returns-in-Some : goal.returns-in-Some
returns-in-Some g c =
    subst (λ (o : Option Seen). WritesWhat (g.W.Write.contents c.args.writer.now) (g.W.Write.contents c.write_view.new.writer)
    (ok_or (option_map (run_line c.args.form) o) (Numbered NoRun)) c.write_view.result) c.in-Some.ensures.seen c.write_view.ensures

pub returns-in-None : goal.returns-in-None
returns-in-None g c = missing (g.W.Write.contents c.args.writer.now) _ c.args.form _ c.in-None.ensures.seen refl
