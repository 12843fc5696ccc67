-- The parameters of a target. The first that has a fault is answered.
use Rattle.std.specs.Prelude.{ℕ, List, [], ◌∷◌, Bool, true, ◌||◌, not, is_some, Option, Some, None, option_map, option_and_then, ◌==◌, unwrap_or, Result, Ok, Err, if◌then◌else◌}
use Rattle.std.specs.List.{slice_split}
use Rattle.std.specs.Option.{option_map_or}
use Rattle.definitions.specs.SmallText.{number_of}
use Rattle.view_sessions.specs.Cursors.{cursor_of}
use Rattle.view_sessions.specs.Paths.{is_of, parameter_named}
use Rattle.view_sessions.specs.Values.{after_byte, before_byte, decoded, folded_text, is_conclusion, is_status, limit_of, small_number}
use Rattle.view_sessions.specs.declared.cursor.Cursor.{Cursor}
use Rattle.view_sessions.specs.declared.fault.ViewFault.{ViewFault}
use Rattle.view_sessions.specs.declared.fault.ViewFault.TheVariants.{BadParameter, UnknownParameter}
use Rattle.view_sessions.specs.declared.parameter.Parameter.{Parameter}
use Rattle.view_sessions.specs.declared.parameter.Parameter.TheVariants as parameter
use Rattle.view_sessions.specs.declared.path.Path.{Path}
use Rattle.view_sessions.specs.declared.path.Path.TheVariants as path
use Rattle.view_sessions.specs.declared.query.Query.{Query}

abbrev pub no_query : Query
no_query = record {
  status = None;
  conclusion = None;
  repository = None;
  path = None;
  event = None;
  reference = None;
  group = None;
  before = None;
  limit = None;
  from = None;
  name = None;
  after = None;
  wait = None;
}

-- the value of a parameter, if it is given
abbrev pub given : Query → Parameter → Option (List ℕ)
given q parameter.Status = q.status
given q parameter.Conclusion = q.conclusion
given q parameter.Repository = q.repository
given q parameter.Path = q.path
given q parameter.Event = q.event
given q parameter.Reference = q.reference
given q parameter.Group = q.group
given q parameter.Before = q.before
given q parameter.Limit = q.limit
given q parameter.From = q.from
given q parameter.Name = q.name
given q parameter.After = q.after
given q parameter.Wait = q.wait

abbrev pub with_value : Parameter → List ℕ → Query → Query
with_value parameter.Status value q = record q { status = Some value }
with_value parameter.Conclusion value q = record q { conclusion = Some value }
with_value parameter.Repository value q = record q { repository = Some value }
with_value parameter.Path value q = record q { path = Some value }
with_value parameter.Event value q = record q { event = Some value }
with_value parameter.Reference value q = record q { reference = Some value }
with_value parameter.Group value q = record q { group = Some value }
with_value parameter.Before value q = record q { before = Some value }
with_value parameter.Limit value q = record q { limit = Some value }
with_value parameter.From value q = record q { from = Some value }
with_value parameter.Name value q = record q { name = Some value }
with_value parameter.After value q = record q { after = Some value }
with_value parameter.Wait value q = record q { wait = Some value }

-- ---- the forms of values

abbrev pub is_first : Path → List ℕ → Bool
is_first (path.Run run) text = is_some (small_number 255 text)
is_first _ text = is_some (number_of text)

abbrev pub is_after : Path → List ℕ → Bool
is_after path.Changes text = is_some (cursor_of text)
is_after _ text = true

abbrev pub is_of_form : Path → Parameter → List ℕ → Bool
is_of_form at parameter.Status text = is_status text
is_of_form at parameter.Conclusion text = is_conclusion text
is_of_form at parameter.Repository text = true
is_of_form at parameter.Path text = true
is_of_form at parameter.Event text = true
is_of_form at parameter.Reference text = true
is_of_form at parameter.Group text = true
is_of_form at parameter.Before text = is_some (number_of text)
is_of_form at parameter.Limit text = is_some (limit_of text)
is_of_form at parameter.From text = is_first at text
is_of_form at parameter.Name text = true
is_of_form at parameter.After text = is_after at text
is_of_form at parameter.Wait text = is_some (small_number 60 text)

-- ---- adding parameters

-- a value that is decoded, unless it is given already or has another form
abbrev pub value_added : Path → Parameter → Query → List ℕ → Result Query ViewFault
value_added at p q text = if is_some (given q p) || not (is_of_form at p text) then Err BadParameter else Ok (with_value p text q)

-- what follows the name and `=`, if there is a `=`
abbrev pub text_added : Path → Parameter → Query → Option (List ℕ) → Result Query ViewFault
text_added at p q None = Err BadParameter
text_added at p q (Some text) = option_map_or (value_added at p q) (decoded text) (Err BadParameter)

abbrev pub named_added : Path → Query → Option (List ℕ) → Option Parameter → Result Query ViewFault
named_added at q text None = Err UnknownParameter
named_added at q text (Some p) = if is_of at p then text_added at p q text else Err UnknownParameter

-- a part `NAME=VALUE`
abbrev pub part_added : Path → Query → List ℕ → Result Query ViewFault
part_added at q part = named_added at q (after_byte 61 part) (parameter_named (before_byte 61 part))

abbrev pub after_part : Path → Result Query ViewFault → List ℕ → Result Query ViewFault
after_part at (Err fault) part = Err fault
after_part at (Ok q) part = part_added at q part

-- the parts one after the other, up to the first fault
abbrev pub all_added : Path → Result Query ViewFault → List (List ℕ) → Result Query ViewFault
all_added at so_far [] = so_far
all_added at so_far (part ∷ parts) = all_added at (after_part at so_far part) parts

abbrev pub parts_of : List ℕ → List (List ℕ)
parts_of [] = []
parts_of (b ∷ bytes) = slice_split (λ c. c == 38) (b ∷ bytes)

abbrev pub query_of : Path → List ℕ → Result Query ViewFault
query_of at text = all_added at (Ok no_query) (parts_of text)

-- ---- what is read of them

-- the name of a group is compared without its case, as groups are
abbrev pub with_folded_group : Query → Query
with_folded_group q = record q { group = option_map folded_text q.group }

abbrev pub number_in : Query → Parameter → Option ℕ
number_in q p = option_and_then number_of (given q p)

-- the run with whose id a page begins
abbrev pub first_run : Query → ℕ
first_run q = unwrap_or (number_in q parameter.From) 1

abbrev pub index_in : Query → ℕ
index_in q = unwrap_or (option_and_then (small_number 255) q.from) 0

abbrev pub limit_in : Query → ℕ
limit_in q = unwrap_or (option_and_then limit_of q.limit) 100

abbrev pub wait_in : Query → ℕ
wait_in q = unwrap_or (option_and_then (small_number 60) q.wait) 0

abbrev pub cursor_in : Query → Option Cursor
cursor_in q = option_and_then cursor_of q.after
