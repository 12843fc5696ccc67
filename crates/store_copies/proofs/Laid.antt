-- A table that is laid in the first area of an empty disk.
use Rattle.std.proofs.Common.{ℕ, ◌+◌, ◌≤◌, List, [], length, arith}
use Rattle.definitions.specs.Area.{Fits}
use Rattle.gated_journal.specs.Whole.{RecoversWhole}
use Rattle.gated_journal.specs.declared.gate.GateState.TheVariants.{Closed}
use Rattle.gated_journal.specs.declared.side.Side.TheVariants.{First}
use Rattle.table_model.specs.TableState.{TableState}
use Rattle.act_store.specs.Images.{IsAreaLength, RecoversTo}
use Rattle.act_store.specs.Layouts.{EncodesTable}
use Rattle.act_store.specs.declared.layout.Layout.TheVariants as layouts
use Rattle.store_copies.specs.Copies.{copy_head}
use Rattle.store_copies.proofs.Copies.{means_copy}

-- the generation and the length of the text fit their fields
pub fits_head : (area : ℕ) (text : List ℕ) → IsAreaLength area → length text + 19 ≤ area → Fits (copy_head text) []
fits_head area text size room =
    let most = size.most in
    record { generation = omega arith; text = omega (arith, room, most); each = _ }

pub laid_recovers : (area : ℕ) (images : List ℕ → Type 0) (t : TableState) (text : List ℕ) → EncodesTable layouts.Third t text → IsAreaLength area
    → ((c : List ℕ) → images c → RecoversWhole area First Closed c (copy_head text) []) → (c : List ℕ) → images c → RecoversTo t c
laid_recovers area images t text encodes size each c now =
    let laid = each c now in
    record {
      len = area;
      long = laid.whole;
      size = size;
      side = First;
      head = copy_head text;
      bodies = [];
      encodes = laid.recovers.encodes;
      means = means_copy t text encodes;
    }
