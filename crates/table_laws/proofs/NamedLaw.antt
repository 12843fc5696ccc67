-- Moves after others that satisfy the law, by the names of those.
use Rattle.std.specs.Prelude.{◌≡◌, List, ◌++◌, map, Bool, true}
use Rattle.table_model.specs.GroupLaw.{has_arrived, Move, KeepsLaw}
use Rattle.table_laws.proofs.Agrees.{Agrees, IsInjective}
use Rattle.table_laws.specs.Names.{renamed}
use Rattle.table_laws.proofs.GroupLawWalk.{Lawful, law_goes_on}
use Rattle.table_laws.proofs.ListWalk.{Walk}
use Rattle.table_laws.proofs.NamedMoves.{walk_named}
use Rattle.table_model.specs.declared.holder.Holder.{Holder}

pub named_law_goes_on : (name : Holder → Holder) (cancels requests : Holder → Bool) (now whole more : List Move) → IsInjective name
    → Agrees name now whole → ((k : Holder) → has_arrived k more ≡ true → requests (name k) ≡ true → cancels k ≡ true)
    → Walk (Lawful cancels) now more → KeepsLaw requests whole
    → KeepsLaw requests (whole ++ map (renamed name) more) × Agrees name (now ++ more) (whole ++ map (renamed name) more)
named_law_goes_on name cancels requests now whole more one agrees requested walk law =
    let both = walk_named name one cancels requests now whole more agrees requested walk in
    (law_goes_on requests whole (map (renamed name) more) law both.0, both.1)
