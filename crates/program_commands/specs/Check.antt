-- The output of `acts check`: a line for each leg of each job of a workflow, or the workflow's first fault. The format
-- is defined by this project.
use Rattle.std.specs.Prelude.{◌≡◌, ◌⊎◌, ℕ, ◌≤◌, ◌<◌, List, [], ◌∷◌, ◌++◌, length, map, flat_map, codes, Result, Ok, Err}
use Rattle.std.specs.Fmt.{decimal}
use Rattle.std.specs.List.{enumerate_from}
use Rattle.definitions.specs.Limits.{max_input}
use Rattle.wf_value.specs.Gives.{no_memory}
use Rattle.wf_value.specs.declared.code.Code.TheVariants.{InputTooLong}
use Rattle.wf_value.specs.declared.refusal.Refusal.{Refusal}
use Rattle.wf_value.specs.declared.refusal.Refusal.TheVariants.{Numbered}
use Rattle.wf_value.specs.declared.combo.Combo.{Combo}
use Rattle.wf_reader.specs.Faults.{unless_faulty}
use Rattle.wf_reader.specs.Workflow.{workflow_faults, workflow_of}
use Rattle.act_disk.specs.Failed.{stream_failed}
use Rattle.run_plan.specs.PlanOf.{plan_faults, workflow_plan}
use Rattle.run_plan.specs.ReplyText.{combo_text}
use Rattle.run_plan.specs.declared.planned.PlannedJob.{PlannedJob}

-- `JOB LEG COMBO` and a line feed
abbrev pub leg_text : List ℕ → ℕ → List ℕ → List ℕ
leg_text job number combo = job ++ codes " " ++ decimal number ++ codes " " ++ combo ++ 10 ∷ []

-- the job's id, the leg's number, and its combination as `lease` prints it
abbrev pub leg_line : List ℕ → ℕ → Combo → List ℕ
leg_line job number combination = leg_text job number (combo_text combination)

-- a line for each combination of a job's legs, which are numbered from 0
abbrev pub leg_lines : List ℕ → List Combo → List ℕ
leg_lines job combinations = flat_map (λ numbered. leg_line job numbered.0 numbered.1) (enumerate_from 0 combinations)

abbrev pub job_lines : PlannedJob → List ℕ
job_lines job = leg_lines job.id (map (λ leg. leg.combo) job.legs)

-- the lines of a plan: its jobs in order, and the legs of each
abbrev pub plan_lines : List PlannedJob → List ℕ
plan_lines jobs = flat_map job_lines jobs

-- the first fault of a workflow and its plan, or the lines if there is none
abbrev pub checked : List ℕ → Result (List ℕ) Refusal
checked text = unless_faulty (workflow_faults text ++ plan_faults (workflow_of text)) (plan_lines (workflow_plan (workflow_of text)))

-- nothing, or a prefix of the lines
abbrev pub IsPrefix : List ℕ → List ℕ → Type 0
IsPrefix text out = (out ≡ []) ⊎ ((rest : List ℕ) × (checked text ≡ Ok (out ++ rest)))

-- what a failed call on a text has written: nothing if the text is refused, and a prefix after a failed stream or out
-- of memory
abbrev pub Fails : List ℕ → List ℕ → Refusal → Type 0
Fails text out e = ((checked text ≡ Err e) × (out ≡ [])) ⊎ (((e ≡ stream_failed) ⊎ (e ≡ no_memory)) × IsPrefix text out)

-- what is written for a text: all lines, unless the call fails
abbrev pub Written : {U : Type 0} → List ℕ → List ℕ → Result U Refusal → Type 0
Written text out (Ok u) = checked text ≡ Ok out
Written text out (Err e) = Fails text out e

-- How a call on a text ends, and what it has written by then. If a text is too long, or cannot be read to its end
-- because the stream fails or memory runs out, nothing is written.
abbrev pub ChecksTo : {U : Type 0} → List ℕ → List ℕ → Result U Refusal → Type 0
ChecksTo text out (Ok u) = (length text ≤ max_input) × (checked text ≡ Ok out)
ChecksTo text out (Err e) =
    ((e ≡ Numbered InputTooLong) × (max_input < length text) × (out ≡ []))
    ⊎ (((length text ≤ max_input) × Fails text out e) ⊎ (((e ≡ stream_failed) ⊎ (e ≡ no_memory)) × (out ≡ [])))
