-- Concurrency groups over the history of a store. GitHub Docs, "Control the concurrency of workflows and jobs": at most one run or job of
-- a group is in progress and at most one is pending.
use Rattle.std.specs.Prelude.{◌≡◌, ◌≤◌, List, ◌++◌, length}
use Rattle.group_name.specs.Group.{Group}
use Rattle.table_model.specs.Groups.{pending_in, in_progress_in}
use Rattle.table_model.specs.TableState.{TableState}
use Rattle.table_laws.specs.GroupHistories.{all_moves, requests_cancellation}
use Rattle.table_model.specs.GroupLaw.{KeepsLaw}
use Rattle.table_laws.specs.Names.{Names}
use Rattle.act_store.specs.Entries.{commands_of, table_after}
use Rattle.act_store.specs.declared.entry.Entry.{Entry}

-- After each prefix of the history, including the one that a crash leaves, every group has at most one holder of each kind among all runs
-- and legs of the table. The moves of every group over that prefix, after those that represent its holders at the base, keep the group
-- law. This holds for any names of the holders by the ids and attempts of their runs.
pub record KeepsGroups (base : TableState) (history : List Entry) : Type 0 where
  pub one_pending : (before suffix : List Entry) (g : Group) → history ≡ before ++ suffix
      → length (pending_in (table_after base before).runs g) ≤ 1
  pub one_in_progress : (before suffix : List Entry) (g : Group) → history ≡ before ++ suffix
      → length (in_progress_in (table_after base before).runs g) ≤ 1
  pub law : (names : Names) (before suffix : List Entry) (g : Group) → history ≡ before ++ suffix
      → KeepsLaw (requests_cancellation names g base (commands_of before)) (all_moves names g base (commands_of before))
