-- The pieces of the lines that an operator sees. A text as JSON: RFC 8259, section 7.
use Rattle.std.specs.Prelude.{ℕ, List, [], ◌∷◌, ◌++◌, codes, decimal}
use Rattle.std.specs.List.{join_with_byte}
pub use Rattle.json.specs.Print.{quoted}
use Rattle.table_model.specs.declared.sites.LegSite.{LegSite}
use Rattle.table_model.specs.Runs.{RunState}
use Rattle.table_model.specs.LegContext.{id_at, job_id}

-- a line, with its line feed
abbrev pub line : List ℕ → List ℕ
line text = text ++ 10 ∷ []

-- texts joined by commas, in brackets
abbrev pub listed : List (List ℕ) → List ℕ
listed items = codes "[" ++ join_with_byte 44 items ++ codes "]"

-- ---- a leg: its run's id, its job and its number in the job

abbrev pub leg_words : List RunState → LegSite → List ℕ
leg_words runs p = decimal (id_at runs p.run) ++ codes " " ++ job_id runs p.run p.job ++ codes " " ++ decimal p.leg

-- as members of a JSON object
abbrev pub leg_members : List RunState → LegSite → List ℕ
leg_members runs p =
    codes "\"run\":" ++ decimal (id_at runs p.run) ++ codes ",\"job\":" ++ quoted (job_id runs p.run p.job) ++ codes ",\"leg\":" ++ decimal p.leg
