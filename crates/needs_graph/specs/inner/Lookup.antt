-- Looking up a job by its id.
use Rattle.std.specs.Prelude.{◌≡◌, ◌≢◌, ◌<◌, ℕ, List, Option, MatchOption, All, length}
use Rattle.std.specs.List.{HoldsAt}
use Rattle.definitions.specs.Rising.{JobNeeds}

-- the index of a job with this id, or None if no job has it
abbrev pub Finds : List JobNeeds → List ℕ → Option ℕ → Type 0
Finds jobs id found =
    MatchOption found (All (λ job. job.id ≢ id) jobs) (λ index. (index < length jobs) × HoldsAt (λ job. job.id ≡ id) jobs index)
