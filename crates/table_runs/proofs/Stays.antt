-- A change of a run keeps what its templates use of the run itself.
use Rattle.std.specs.Prelude.{◌≡◌, refl}
use Rattle.table_model.specs.Changes.{changed}
use Rattle.table_model.specs.Groups.{run_facts}
use Rattle.table_model.specs.Runs.{RunState}
use Rattle.table_model.specs.declared.change.Change.{Change}
use Rattle.table_model.specs.declared.change.Change.TheVariants as change

pub changed_facts : (c : Change) (run : RunState) → run_facts (changed c run) ≡ run_facts run
changed_facts (change.Phase phase) run = refl
changed_facts (change.Open j) run = refl
changed_facts (change.Settle j settled) run = refl
changed_facts change.Cancel run = refl
changed_facts change.RequestStop run = refl
changed_facts (change.PutLeg j l leg) run = refl
