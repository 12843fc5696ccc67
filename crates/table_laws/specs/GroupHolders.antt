-- A list of moves determines the holders of a concurrency group in a table: which are running, which are pending, and which are asked to
-- stop. GitHub Docs, "Control the concurrency of workflows and jobs".
use Rattle.std.specs.Prelude.{◌≡◌, ◌&&◌, Bool, true, List}
use Rattle.group_name.specs.Group.{Group}
use Rattle.table_model.specs.GroupLaw.{is_pending, is_in_progress, was_stopped, Move}
use Rattle.table_model.specs.Groups.{is_pending_in, is_in_progress_in, is_stop_requested}
use Rattle.table_model.specs.Runs.{RunState}
use Rattle.table_model.specs.TableState.{TableState}
use Rattle.table_laws.specs.Names.{Names, name_in}
use Rattle.table_model.specs.declared.holder.Holder.{Holder}

-- it has started, has not ended, and has been asked to stop
abbrev pub is_stopping : Holder → List Move → Bool
is_stopping h moves = is_in_progress h moves && was_stopped h moves

-- in a table: a holder of the group that is in progress and asked to stop
abbrev pub is_stopping_in : List RunState → Group → Holder → Bool
is_stopping_in runs g h = is_in_progress_in runs g h && is_stop_requested runs h

-- For each run and leg, by its name in the table, the moves agree with the tests that filter the table's runs and legs: those of
-- `in_progress_in`, of `pending_in` and of `stopping_in`. By the moves no other name runs or waits.
pub record SayWhoHolds (names : Names) (t : TableState) (g : Group) (moves : List Move) : Type 0 where
  pub in_progress : (h : Holder) → is_in_progress (name_in names t h) moves ≡ is_in_progress_in t.runs g h
  pub pending : (h : Holder) → is_pending (name_in names t h) moves ≡ is_pending_in t.runs g h
  pub stopping : (h : Holder) → is_stopping (name_in names t h) moves ≡ is_stopping_in t.runs g h
  pub who_runs : (n : Holder) → is_in_progress n moves ≡ true → (h : Holder) × (n ≡ name_in names t h)
  pub who_waits : (n : Holder) → is_pending n moves ≡ true → (h : Holder) × (n ≡ name_in names t h)
