-- What a table keeps about its runs, apart from the holders of groups: their bindings, the indices of their deliveries, the counts of their
-- workflows, their marks as active, and their marks for lists of labels.
use Rattle.std.specs.Prelude.{◌≡◌, ◌≤◌, ℕ, List, length, map, Option, Some, option_and_then, slice_get}
use Rattle.std.specs.Option.{option_map_or}
use Rattle.definitions.specs.Limits.{max_runs}
use Rattle.group_name.specs.Group.{Group}
use Rattle.table_model.specs.inner.ActiveRuns.{is_active}
use Rattle.table_model.specs.Runs.{changed_at, RunState}
use Rattle.table_model.specs.Holders.{run_of}
use Rattle.table_model.specs.LegContext.{events}
use Rattle.table_model.specs.declared.holder.Holder.{Holder}
use Rattle.table_bindings.specs.Bindings.{AreBound}
use Rattle.table_bindings.specs.BoundGroups.{results_by_index}
use Rattle.table_bindings.specs.GroupKeys.{AreLater, decided, holder_key, key_in, requests_of, with_spent}
use Rattle.table_bindings.specs.inner.LabelNumbers.{LegsAreOffered}
use Rattle.table_bindings.specs.declared.bindings.RunBindings.{RunBindings}
use Rattle.table_bindings.specs.declared.group_keys.HolderKey.{HolderKey}
use Rattle.table_runs.specs.inner.Counted.{AreCounted}
use Rattle.table_runs.specs.inner.Delivered.{FindsFirst}
use Rattle.table_runs.specs.inner.MarkedRuns.{AreMarked}
use Rattle.table_runs.specs.declared.rows.index.Index.{Index}

pub record RowState : Type 0 where
  pub runs : List RunState
  pub bindings : List RunBindings

pub record RunsAreKept (runs : List RunState) (bindings : List RunBindings) (index : Index) (marks : List ℕ) : Type 0 where
  pub few : length runs ≤ max_runs
  pub bound : AreBound runs bindings
  pub found : FindsFirst (events runs) index.deliveries.indexes
  pub counted : AreCounted (events runs) index.counts.counts
  pub active : AreMarked (λ _ x. is_active x) runs marks
  pub offered : LegsAreOffered runs bindings index.lists

-- ---- the groups of runs and legs, as they are known

abbrev pub holder_key_at : List RunBindings → Holder → Option HolderKey
holder_key_at bindings h = option_and_then (λ kept. holder_key kept.keys h) (slice_get bindings (run_of h))

-- the key of its group, if that is known and there is one
abbrev pub key_at : List RunBindings → Holder → Option Group
key_at bindings h = option_and_then key_in (holder_key_at bindings h)

-- a run or a leg has brought its key to its group
abbrev pub keys_spent : Holder → List RunBindings → List RunBindings
keys_spent h bindings = changed_at (run_of h) (λ kept. record kept { keys = with_spent h kept.keys }) bindings

-- memory is taken for the groups of the legs of a job
abbrev pub IsUndecided : ℕ → RunBindings → Type 0
IsUndecided j kept = (legs : List HolderKey) → slice_get kept.keys.jobs j ≡ Some legs → AreLater (requests_of kept.jobs j) legs

-- the groups of the legs of a job are decided, given the results of the run's jobs
abbrev pub decided_in : ℕ → RunState → RunBindings → RunBindings
decided_in j run kept = record kept {
  keys = record {
    own = kept.keys.own;
    jobs = changed_at j (λ legs. map (decided (results_by_index run)) (requests_of kept.jobs j)) kept.keys.jobs;
  };
}

abbrev pub keys_decided : ℕ → ℕ → List RunState → List RunBindings → List RunBindings
keys_decided r j runs bindings = option_map_or (λ run. changed_at r (decided_in j run) bindings) (slice_get runs r) bindings
