-- Members of JSON objects. RFC 8259.
use Rattle.std.specs.Prelude.{ℕ, List, ◌++◌, codes, decimal, Option, Some, None}
use Rattle.table_views.specs.Texts.{quoted}

-- a member after others
unfoldable pub member : List ℕ → List ℕ → List ℕ
member name value = codes ",\"" ++ name ++ codes "\":" ++ value

abbrev pub text_or_null : Option (List ℕ) → List ℕ
text_or_null None = codes "null"
text_or_null (Some text) = quoted text

abbrev pub number_or_null : Option ℕ → List ℕ
number_or_null None = codes "null"
number_or_null (Some number) = decimal number
