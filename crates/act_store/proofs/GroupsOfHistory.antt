-- The law of concurrency groups over a store's history is that over the commands of its entries.
use Rattle.std.proofs.Common.{List}
use Rattle.table_model.specs.Sound.{IsSound}
use Rattle.table_model.specs.TableState.{TableState}
use Rattle.table_laws.proofs.HistoryLaw.{group_keeps_law}
use Rattle.table_laws.proofs.HistoryWords.{one_pending_after, one_in_progress_after}
use Rattle.act_store.specs.Entries.{commands_of}
use Rattle.act_store.specs.GroupsOfHistory.{KeepsGroups}
use Rattle.act_store.specs.declared.entry.Entry.{Entry}

pub keeps_groups : (base : TableState) (history : List Entry) → IsSound base → KeepsGroups base history
keeps_groups base history sound = record {
  one_pending = λ before suffix g is. one_pending_after base (commands_of before) g sound;
  one_in_progress = λ before suffix g is. one_in_progress_after base (commands_of before) g sound;
  law = λ names before suffix g is. group_keeps_law names base (commands_of before) g sound;
}
