-- What the phase of a job says about its legs.
use Rattle.std.specs.Prelude.{◌≡◌, ℕ, List, [], length, true, refl}
use Rattle.wf_value.specs.declared.outcome.JobResult.{JobResult}
use Rattle.table_model.specs.Runs.{LegState, is_blocked, is_open}
use Rattle.table_model.specs.Sound.{LegsFit}
use Rattle.table_model.specs.declared.phases.JobPhase.{JobPhase}
use Rattle.table_model.specs.declared.phases.JobPhase.TheVariants as job

pub is_blocked_blocked : (phase : JobPhase) → is_blocked phase ≡ true → phase ≡ job.Blocked
is_blocked_blocked job.Blocked e = refl
is_blocked_blocked job.Open e = cc
is_blocked_blocked (job.Finished r) e = cc

pub no_legs : (planned : ℕ) (gathered : JobResult) (phase : JobPhase) (legs : List LegState) → LegsFit planned gathered phase legs
    → phase ≡ job.Blocked → legs ≡ []
no_legs planned gathered job.Blocked legs fits e = fits
no_legs planned gathered job.Open legs fits e = cc
no_legs planned gathered (job.Finished r) legs fits e = cc

pub is_open_open : (phase : JobPhase) → is_open phase ≡ true → phase ≡ job.Open
is_open_open job.Blocked e = cc
is_open_open job.Open e = refl
is_open_open (job.Finished r) e = cc

pub all_legs : (planned : ℕ) (gathered : JobResult) (phase : JobPhase) (legs : List LegState) → LegsFit planned gathered phase legs
    → phase ≡ job.Open → length legs ≡ planned
all_legs planned gathered job.Blocked legs fits e = cc
all_legs planned gathered job.Open legs fits e = fits
all_legs planned gathered (job.Finished r) legs fits e = cc
