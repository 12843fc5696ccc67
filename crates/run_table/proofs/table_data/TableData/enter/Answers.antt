use Rattle.std.proofs.Common.{◌≡◌, List, None, ap, subst, sym}
use Rattle.table_model.specs.Runs.{RunState}
use Rattle.table_model.specs.Settling.{first_site}
use Rattle.table_model.specs.TableState.{TableState}
use Rattle.run_table.proofs.BeforeSettling.{sound_as_they_are, sound_with_it}
use Rattle.run_table.proofs.table_data.TableData.enter.Goals as goal

pub admit-requires-clause-sound : goal.admit-requires-clause-sound
admit-requires-clause-sound c =
    sound_as_they_are c.args.self.now c.self.inside.runs c.requires.sound (ap (λ (t : TableState). t.runs) c.self.view_is)

pub admit-requires-clause-rests : goal.admit-requires-clause-rests
admit-requires-clause-rests c =
    subst (λ (runs : List RunState). first_site runs ≡ None) (sym (ap (λ (t : TableState). t.runs) c.self.view_is))
    c.requires.sound.no_rule_applies

-- the run comes after those of the table
pub admit-requires-clause-added : goal.admit-requires-clause-added
admit-requires-clause-added c =
    sound_with_it c.args.self.now c.args.prepared.now c.self.inside.forgotten c.self.inside.runs c.requires.sound (ap (λ (t : TableState). t.runs) c.self.view_is)
