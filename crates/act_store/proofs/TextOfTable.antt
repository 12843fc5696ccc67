-- Which texts encode a table, from what is read of them.
use Rattle.std.proofs.Common.{◌≡◌, ℕ, ◌<◌, ◌≤◌, List, [], ◌∷◌, length, refl, arith}
use Rattle.std.specs.Prelude.{None}
use Rattle.table_model.specs.Sound.{IsSound}
use Rattle.table_model.specs.Step.{empty}
use Rattle.stored_tables.specs.Stored.{stored_table}
use Rattle.table_model.specs.TableState.{TableState}
use Rattle.run_table.proofs.StepKeeps.{empty_is_sound}
use Rattle.definitions.specs.Format.{OpensWith, ReadsPrefix, word_bytes}
use Rattle.table_text.specs.Tables.{table, whole_table}
use Rattle.act_store.specs.Layouts.{table_format, EncodesTable}
use Rattle.act_store.specs.declared.layout.Layout.{Layout}
use Rattle.act_store.specs.declared.layout.Layout.TheVariants as layouts
use Rattle.act_store.proofs.InLayout.{tables_begin_none, takes_sound}
use Rattle.act_store.proofs.WholeTexts.{none_longer, none_whole, one_value, whole}

pub one_text : (layout : Layout) (one two : TableState) (text : List ℕ) → EncodesTable layout one text → EncodesTable layout two text → one ≡ two
unfolding EncodesTable
one_text layout one two text first second = one_value (table_format layout) (tables_begin_none layout) text one two first second

pub whole_text : (layout : Layout) (text rest : List ℕ) (found : TableState) → OpensWith (table_format layout) text found rest → length rest ≤ 0
    → EncodesTable layout found text
unfolding EncodesTable
whole_text layout text rest found opens none = whole (table_format layout) text rest found opens none

pub longer_text : (layout : Layout) (text rest : List ℕ) (found : TableState) → OpensWith (table_format layout) text found rest
    → 0 < length rest → (other : TableState) → EncodesTable layout other text → ⊥
unfolding EncodesTable
longer_text layout text rest found opens some other encodes =
    none_longer (table_format layout) (tables_begin_none layout) text rest found opens some other encodes

pub no_text : (layout : Layout) (text : List ℕ) → ReadsPrefix (table_format layout) text None → (other : TableState)
    → EncodesTable layout other text → ⊥
unfolding EncodesTable
no_text layout text none other encodes = none_whole (table_format layout) text none other encodes

-- only a sound table has a text
pub text_sound : (layout : Layout) (t : TableState) (text : List ℕ) → EncodesTable layout t text → IsSound t
unfolding EncodesTable
text_sound layout t text encodes = takes_sound layout t encodes.0

-- the encoding of a sound table that has one, in the layout that is written
pub table_encodes : (t : TableState) → IsSound t → table.Takes (stored_table t) → EncodesTable layouts.Third t (whole_table.encoding t)
unfolding EncodesTable
table_encodes t sound takes = ((sound, takes), refl)

-- ---- the empty table

-- its last lease, how many runs are forgotten, of how many workflows, its number of runs and its number of runners, each 0 in four bytes
abbrev pub empty_text : List ℕ
empty_text = 0 ∷ 0 ∷ 0 ∷ 0 ∷ 0 ∷ 0 ∷ 0 ∷ 0 ∷ 0 ∷ 0 ∷ 0 ∷ 0 ∷ 0 ∷ 0 ∷ 0 ∷ 0 ∷ 0 ∷ 0 ∷ 0 ∷ 0 ∷ []

empty_takes : table.Takes (stored_table empty)
empty_takes = (
  (omega arith, refl),
  (
    ((omega arith, refl), ((omega arith, omega arith, tt), (refl, tt))),
    ((omega arith, omega arith, tt), ((omega arith, omega arith, tt), refl)),
  ),
)

empty_encoded : empty_text ≡ table.encoding (stored_table empty)
unfolding word_bytes
empty_encoded = refl

pub empty_encodes : EncodesTable layouts.Third empty empty_text
unfolding EncodesTable
empty_encodes = ((empty_is_sound, empty_takes), empty_encoded)
