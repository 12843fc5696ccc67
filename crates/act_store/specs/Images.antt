-- To which table an image of the disk recovers.
use Rattle.std.specs.Prelude.{◌≡◌, ℕ, List, map, Some, ◌+◌, ◌≤◌, length, None}
use Rattle.std.specs.List.{AllByRecursion, flat_map}
use Rattle.definitions.specs.Area.{Head, opened}
use Rattle.run_plan.specs.declared.command.Command.{Command}
use Rattle.table_model.specs.Step.{after}
use Rattle.table_model.specs.TableState.{TableState}
use Rattle.act_store.specs.Layouts.{batch_format, layout_of, EncodesTable}
use Rattle.act_store.specs.declared.layout.Layout.{Layout}
use Rattle.definitions.specs.Limits.{max_area, min_area}
use Rattle.gated_journal.specs.TwoAreas.{active_side, Encodes}
use Rattle.gated_journal.specs.declared.side.Side.{Side}

-- ---- the table that an area recovers to: the table of its text, advanced by the commands in its records.

-- In this layout each body encodes a batch, and these are the commands of all batches, in order.
pub record EncodeCommands (layout : Layout) (bodies : List (List ℕ)) (commands : List Command) : Type 0 where
  pub batches : List (List Command)
  pub takes : AllByRecursion (batch_format layout).Takes batches
  pub encoded : bodies ≡ map (batch_format layout).encoding batches
  pub commands_are : commands ≡ flat_map (λ b. b) batches

-- An area with this head and these bodies recovers to this table, in the layout that the head names.
pub record MeansTable (head : Head) (bodies : List (List ℕ)) (table : TableState) : Type 0 where
  pub layout : Layout
  pub layout_is : layout_of head.version ≡ Some layout
  pub first : TableState
  pub text : EncodesTable layout first head.text
  pub commands : List Command
  pub batched : EncodeCommands layout bodies commands
  pub table_is : after first commands ≡ table

-- ---- the table that an image of a disk recovers to.

-- the possible lengths of an area
pub record IsAreaLength (len : ℕ) : Type 0 where
  pub least : min_area ≤ len
  pub most : len ≤ max_area

-- The image is two areas long, and the active one encodes this table.
pub record RecoversTo (table : TableState) (image : List ℕ) : Type 0 where
  pub len : ℕ
  pub long : length image ≡ len + len
  pub size : IsAreaLength len
  pub side : Side
  pub head : Head
  pub bodies : List (List ℕ)
  pub encodes : Encodes len side image head bodies
  pub means : MeansTable head bodies table

-- It recovers to this table from an area of this generation and this layout, whose first closed gate is at `used`.
pub record RecoversFrom (generation used : ℕ) (layout : Layout) (table : TableState) (image : List ℕ) : Type 0 where
  pub recovers : RecoversTo table image
  pub generation_is : generation ≡ recovers.head.generation
  pub used_is : used ≡ length (opened recovers.head recovers.bodies)
  pub layout_is : layout_of recovers.head.version ≡ Some layout

-- The image has no active area: its length is not that of two areas, or no area is open.
abbrev pub HasNoArea : List ℕ → Type 0
HasNoArea image = (len : ℕ) → length image ≡ len + len → IsAreaLength len → active_side len image ≡ None

-- The active area encodes no table.
pub record HasNoTable (image : List ℕ) : Type 0 where
  pub some : HasNoArea image → ⊥
  pub none : (table : TableState) → RecoversTo table image → ⊥
