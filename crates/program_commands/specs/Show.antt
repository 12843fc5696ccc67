-- The output of `acts show`, `acts runners` and `acts queue`, for the table that a disk recovers to. The format is
-- defined by this project.
use Rattle.std.specs.Prelude.{◌≡◌, ◌⊎◌, ℕ, List, [], ◌++◌, flat_map, ok_or, option_map, Result, Ok, Err}
use Rattle.std.specs.Prelude.{IsErrAnd, Option}
use Rattle.std.specs.Io.KnownBytes.{Appends}
use Rattle.wf_value.specs.Gives.{no_memory}
use Rattle.wf_value.specs.declared.code.Code.TheVariants.{NoRun}
use Rattle.wf_value.specs.declared.refusal.Refusal.{Refusal}
use Rattle.wf_value.specs.declared.refusal.Refusal.TheVariants.{Numbered}
use Rattle.act_disk.specs.Failed.{stream_failed}
use Rattle.table_model.specs.Runs.{RunState}
use Rattle.table_model.specs.Step.{seen}
use Rattle.table_model.specs.TableState.{TableState}
use Rattle.table_model.specs.ViewText.{seen_of}
use Rattle.table_views.specs.QueueLines.{queue_lines}
use Rattle.table_views.specs.RunLines.{run_line}
use Rattle.table_views.specs.RunnerLines.{runner_lines}
use Rattle.table_views.specs.declared.form.Form.{Form}
use Rattle.act_store.specs.Images.{HasNoArea, HasNoTable, RecoversTo}
use Rattle.act_store.specs.Plain.{RefusesOpening, no_area, no_table}
use Rattle.program_commands.specs.inner.Writes.{Writes}
use Rattle.program_commands.specs.declared.shown.Shown.{Shown}
use Rattle.program_commands.specs.declared.shown.Shown.TheVariants as what

-- ---- the runs

-- the lines of these runs
abbrev pub lines_of : Form → List RunState → List ℕ
lines_of form runs = flat_map (λ run. run_line form (seen_of run)) runs

-- the lines of all runs that are not forgotten
abbrev pub run_lines : Form → TableState → List ℕ
run_lines form t = lines_of form t.runs

-- ---- what is shown

-- the line of a run, if it exists
abbrev pub one_run : Form → TableState → ℕ → Result (List ℕ) Refusal
one_run form t id = ok_or (option_map (run_line form) (seen t id)) (Numbered NoRun)

abbrev pub shown : Form → Shown → TableState → Result (List ℕ) Refusal
shown form what.Runs t = Ok (run_lines form t)
shown form (what.Run id) t = one_run form t id
shown form what.Runners t = Ok (runner_lines form t)
shown form what.Queue t = Ok (queue_lines form t)

-- ---- how a call ends

-- all lines are written, or a prefix of them; nothing if there are none to write
abbrev pub WritesWhat : {U : Type 0} → Option (List ℕ) → Option (List ℕ) → Result (List ℕ) Refusal → Result U Refusal → Type 0
WritesWhat old new (Ok lines) result = Writes old new lines result
WritesWhat old new (Err e) result = Appends old new [] × IsErrAnd result (λ f. f ≡ e)

-- Nothing was shown. The disk has no open area, or its area encodes no table, or the device failed, or memory ran out.
abbrev pub IsRefusedWith : List ℕ → Refusal → Type 0
IsRefusedWith image e = RefusesOpening e × (e ≡ no_area → HasNoArea image) × (e ≡ no_table → HasNoTable image)

-- nothing was shown, since the table that an image recovers to has no such run
abbrev pub IsMissing : (TableState → Result (List ℕ) Refusal) → List ℕ → Refusal → Type 0
IsMissing lines image e = (t : TableState) × RecoversTo t image × (lines t ≡ Err e)

-- a prefix of what is shown of the table that an image recovers to
abbrev pub IsPrefixOf : (TableState → Result (List ℕ) Refusal) → List ℕ → List ℕ → Type 0
IsPrefixOf lines image out = (t : TableState) × RecoversTo t image × (rest : List ℕ) × (lines t ≡ Ok (out ++ rest))

-- how a call that shows such lines ends, and what it has written by then
abbrev pub Shows : {U : Type 0} → (TableState → Result (List ℕ) Refusal) → List ℕ → List ℕ → Result U Refusal → Type 0
Shows lines image out (Ok u) = (t : TableState) × RecoversTo t image × (lines t ≡ Ok out)
Shows lines image out (Err e) =
    ((out ≡ []) × IsRefusedWith image e)
    ⊎ (((out ≡ []) × IsMissing lines image e) ⊎ (((e ≡ stream_failed) ⊎ (e ≡ no_memory)) × IsPrefixOf lines image out))
