-- What the bytes of an area encode.
use Rattle.std.specs.Prelude.{◌≡◌, ℕ, ◌+◌, List, length, Option, Some, None}
use Rattle.definitions.specs.Area.{Head, Reads, opened}
use Rattle.table_model.specs.TableState.{TableState}
use Rattle.act_store.specs.Images.{IsAreaLength, MeansTable}
use Rattle.act_store.specs.Layouts.{layout_of, EncodesTable}
use Rattle.act_store.specs.declared.decoded_area.DecodedArea.{DecodedArea}
use Rattle.act_store.specs.declared.layout.Layout.{Layout}

-- The area reads as a head of this generation and layout and as bodies, which recover to this table. Its first closed gate is at `used`.
pub record EncodesArea (area : List ℕ) (generation used : ℕ) (layout : Layout) (table : TableState) : Type 0 where
  pub head : Head
  pub bodies : List (List ℕ)
  pub reads : Reads area head bodies
  pub generation_is : generation ≡ head.generation
  pub used_is : used ≡ length (opened head bodies)
  pub layout_is : layout_of head.version ≡ Some layout
  pub means : MeansTable head bodies table

-- The area encodes this, or no table.
abbrev pub IsEncoded : List ℕ → Option DecodedArea → Type 0
IsEncoded area (Some found) = EncodesArea area found.generation found.used found.layout found.table
IsEncoded area None = (head : Head) (bodies : List (List ℕ)) (table : TableState) → Reads area head bodies
    → MeansTable head bodies table → ⊥

-- In this layout the text encodes this table, or none.
abbrev pub IsTextOf : Layout → List ℕ → Option TableState → Type 0
IsTextOf layout text (Some table) = EncodesTable layout table text
IsTextOf layout text None = (table : TableState) → EncodesTable layout table text → ⊥

-- half of a disk's length, if that is the length of an area
abbrev pub IsHalf : ℕ → Option ℕ → Type 0
IsHalf size (Some len) = (size ≡ len + len) × IsAreaLength len
IsHalf size None = (len : ℕ) → size ≡ len + len → IsAreaLength len → ⊥
