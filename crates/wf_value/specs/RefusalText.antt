-- The number and the printed text of a refusal.
use Rattle.std.specs.Prelude.{ℕ, List, [], ◌++◌, codes}
use Rattle.std.specs.List.{flat_map}
use Rattle.std.specs.Fmt.{decimal}
use Rattle.wf_value.specs.SpacedText.{spaced}
use Rattle.wf_value.specs.declared.code.Code.{Code}
use Rattle.wf_value.specs.declared.code.Code.TheVariants.{NotJson, WrongKind, JobId, UnknownNeed, NoLabels, LeftOut, Expression}
use Rattle.wf_value.specs.declared.code.Code.TheVariants.{PlaceOfContext, MatrixValue, EmptyList, MatrixTooLarge, LegCount}
use Rattle.wf_value.specs.declared.code.Code.TheVariants.{TooManyJobs, TooLong, StrategyMember, Condition, NoRun, RunCompleted}
use Rattle.wf_value.specs.declared.code.Code.TheVariants.{HasLease, LeaseNotHeld, NoRunner, HistoryFull, AreaFull, LastCounter}
use Rattle.wf_value.specs.declared.code.Code.TheVariants.{RunNotCompleted, NoMemory, DeviceFailed, FailedEarlier, NoArea, NoTable, DiskNotEmpty}
use Rattle.wf_value.specs.declared.code.Code.TheVariants.{CheckpointTurn, OldLayout, Unsettled, StreamFailed, Head, ContentLength, Path}
use Rattle.wf_value.specs.declared.code.Code.TheVariants.{Method, EventHeader, Line, InputTooLong}
use Rattle.wf_value.specs.declared.refusal.Refusal.{Refusal}
use Rattle.wf_value.specs.declared.refusal.Refusal.TheVariants.{Numbered, Cycle, Turn}

abbrev pub code_number : Code → ℕ
code_number NotJson = 10
code_number WrongKind = 11
code_number JobId = 12
code_number UnknownNeed = 13
code_number NoLabels = 15
code_number LeftOut = 16
code_number Expression = 17
code_number PlaceOfContext = 18
code_number MatrixValue = 19
code_number EmptyList = 20
code_number MatrixTooLarge = 21
code_number LegCount = 22
code_number TooManyJobs = 23
code_number TooLong = 24
code_number StrategyMember = 25
code_number Condition = 26
code_number NoRun = 40
code_number RunCompleted = 41
code_number HasLease = 42
code_number LeaseNotHeld = 44
code_number NoRunner = 45
code_number HistoryFull = 46
code_number AreaFull = 47
code_number LastCounter = 48
code_number RunNotCompleted = 49
code_number NoMemory = 50
code_number DeviceFailed = 51
code_number FailedEarlier = 52
code_number NoArea = 53
code_number NoTable = 54
code_number DiskNotEmpty = 55
code_number CheckpointTurn = 56
code_number OldLayout = 57
code_number Unsettled = 60
code_number StreamFailed = 61
code_number Head = 70
code_number ContentLength = 71
code_number Path = 72
code_number Method = 73
code_number EventHeader = 74
code_number Line = 75
code_number InputTooLong = 76

abbrev pub refusal_number : Refusal → ℕ
refusal_number (Numbered c) = code_number c
refusal_number (Cycle ids) = 14
refusal_number (Turn last) = 43

-- the ids that a cycle carries
abbrev pub ids_of_cycle : Refusal → List (List ℕ)
ids_of_cycle (Numbered c) = []
ids_of_cycle (Cycle ids) = ids
ids_of_cycle (Turn last) = []

-- what follows the number: the ids of a cycle, or the last number or attempt
abbrev pub refusal_detail : Refusal → List ℕ
refusal_detail (Numbered c) = []
refusal_detail (Cycle ids) = flat_map spaced ids
refusal_detail (Turn last) = codes " " ++ decimal last

-- `refused N`, followed by what the refusal carries
abbrev pub refusal_text : Refusal → List ℕ
refusal_text r = codes "refused " ++ decimal (refusal_number r) ++ refusal_detail r
