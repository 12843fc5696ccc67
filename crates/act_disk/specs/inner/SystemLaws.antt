-- The contents of a file are among the images that a crash may leave.
use Rattle.std.specs.Prelude.{ℕ, List, [], ◌∷◌, length, take, refl}
use Rattle.std.proofs.Common.{arith}
use Rattle.std.proofs.lemmas.List.{length-take}
use Rattle.act_disk.specs.inner.Laid.{torn_refl, torn_laid}
use Rattle.act_disk.specs.SystemCalls.{FileCall, Measured, Gave, Wrote, WriteFailed, Grew, GrowthFailed, Synced, SyncFailed, contents}
use Rattle.act_disk.specs.SystemCalls.{MayLeave}

pub contents_left : (left : List ℕ → Type 0) (held : List ℕ) → left held → (calls : List FileCall)
    → MayLeave left held calls (contents held calls)
contents_left left held here [] = here
contents_left left held here (Measured len ∷ earlier) = contents_left left held here earlier
contents_left left held here (Gave at bytes ∷ earlier) = contents_left left held here earlier
contents_left left held here (Wrote at bytes count ∷ earlier) = (
  contents held earlier,
  contents_left left held here earlier,
  torn_laid at (take count bytes) (contents held earlier) (length bytes) (omega (arith, length-take count bytes)),
)
contents_left left held here (WriteFailed at bytes ∷ earlier) =
    (contents held earlier, contents_left left held here earlier, torn_refl at (length bytes) (contents held earlier))
contents_left left held here (Grew len ∷ earlier) =
    (contents held earlier, contents_left left held here earlier, torn_laid len [] (contents held earlier) 0 (omega arith))
contents_left left held here (GrowthFailed len ∷ earlier) =
    (contents held earlier, contents_left left held here earlier, torn_refl len 0 (contents held earlier))
contents_left left held here (Synced ∷ earlier) = (contents_left left held here earlier, λ _. refl)
contents_left left held here (SyncFailed ∷ earlier) = contents_left left held here earlier
