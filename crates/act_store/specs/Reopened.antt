-- What is known of an acknowledged entry, after any number of crashes and reopenings, and whatever commands come in between.
use Rattle.std.specs.Prelude.{◌≡◌, ◌⊎◌, ℕ, ◌<◌, ◌≤◌, List, [], ◌∷◌, ◌++◌, length, take}
use Rattle.run_plan.specs.declared.command.Command.{Command}
use Rattle.table_model.specs.TableState.{TableState}
use Rattle.act_store.specs.Entries.{IsLegal, commands_of, table_after}
use Rattle.act_store.specs.Images.{RecoversTo}
use Rattle.act_store.specs.declared.entry.Entry.{Entry}

-- One life of a store: the table at its start, its history, and how many entries are covered at its end.
pub record Life : Type 0 where
  pub base : TableState
  pub history : List Entry
  pub covered : ℕ

-- Either a crash left an image that recovers to `left`, and reopening it found `found`. Or there was no crash: the store turned over or
-- goes on.
abbrev pub FindsAgain : TableState → TableState → Type 0
FindsAgain left found = (found ≡ left) ⊎ ((image : List ℕ) × RecoversTo left image × RecoversTo found image)

-- At the end of this life a prefix of the history, with all covered entries, is recovered, and this table is found.
pub record EndsAt (life : Life) (table : TableState) : Type 0 where
  pub legal : IsLegal life.base life.history
  pub count : ℕ
  pub from : life.covered ≤ count
  pub within : count ≤ length life.history
  pub found : FindsAgain (table_after life.base (take count life.history)) table

-- Lives in a row: each begins at the table found at the end of the previous one, and the last one ends at this table.
abbrev pub LeadTo : Life → List Life → TableState → Type 0
LeadTo life [] table = EndsAt life table
LeadTo life (next ∷ lives) table = EndsAt life next.base × LeadTo next lives table

-- the recovered commands of these lives
abbrev pub requested_in : (life : Life) (lives : List Life) (table : TableState) → LeadTo life lives table → List Command
requested_in life [] table leads = commands_of (take leads.count life.history)
requested_in life (next ∷ lives) table leads = commands_of (take leads.0.count life.history) ++ requested_in next lives table leads.1

-- The entry is a covered one, after these.
pub record IsAcknowledged (life : Life) (before : List Entry) (entry : Entry) (suffix : List Entry) : Type 0 where
  pub is_at : life.history ≡ before ++ entry ∷ suffix
  pub covered : length before < life.covered
