-- The texts of conditions as a set: a word, bare or between `${{` and `}}`, with optional spaces around the word and around the
-- braces. That only U+0020 is a space, and that spaces are allowed nowhere else, is defined by this project.
-- GitHub Docs, "Workflow syntax for GitHub Actions": jobs.<job_id>.if; "Evaluate expressions in workflows and actions": Status
-- check functions.
use Rattle.std.specs.Prelude.{◌≡◌, ◌⊎◌, ℕ, List, ◌++◌, codes, Some}
use Rattle.wf_value.specs.declared.condition.Condition.{Condition}
use Rattle.wf_expr.specs.Grammar.{AreSpaces}
use Rattle.wf_reader.specs.Job.{condition_of_word}

-- a text with optional spaces around it
pub record IsSpaced (text inner : List ℕ) : Type 0 where
  pub prefix : List ℕ
  pub end : List ℕ
  pub spaces_first : AreSpaces prefix
  pub spaces_last : AreSpaces end
  pub whole : text ≡ prefix ++ (inner ++ end)

abbrev pub in_braces : List ℕ → List ℕ
in_braces inner = codes "${{" ++ (inner ++ codes "}}")

-- a word in braces, with optional spaces around both
pub record IsBraced (text word : List ℕ) : Type 0 where
  pub inner : List ℕ
  pub around_word : IsSpaced inner word
  pub around_braces : IsSpaced text (in_braces inner)

-- the text states the condition
pub record EncodesCondition (text : List ℕ) (condition : Condition) : Type 0 where
  pub word : List ℕ
  pub says : condition_of_word word ≡ Some condition
  pub bare_or_braced : IsSpaced text word ⊎ IsBraced text word
