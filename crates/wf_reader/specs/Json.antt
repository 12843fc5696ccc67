-- The contents of a value that `serde_json` reads, as lists. RFC 8259, sections 4, 5 and 7. An object has each name once, in byte
-- order of the names.
use Rattle.std.specs.Prelude.{ℕ, List, [], ◌∷◌, unwrap_or, Option, Some, None, option_map}
use Rattle.serde_json.specs.Data.{Data, null, boolean, number, string, array, object, Items, no_items, item, Members, no_members, member}
use Rattle.serde_json.specs.Find.{get, as_i64, as_str, as_object}
use Rattle.wf_value.specs.declared.scalar.Scalar.{Scalar}
use Rattle.wf_value.specs.declared.scalar.Scalar.TheVariants.{Null, Truth, Whole, Text}

abbrev pub item_list : Items → List Data
item_list no_items = []
item_list (item d ds) = d ∷ item_list ds

abbrev pub member_list : Members → List (List ℕ × Data)
member_list no_members = []
member_list (member k d ms) = (k, d) ∷ member_list ms

-- the text of a value; empty if it is not a text
abbrev pub text_in : Data → List ℕ
text_in d = unwrap_or (as_str d) []

-- the members of a value; empty if it is not an object
abbrev pub members_of : Data → List (List ℕ × Data)
members_of d = member_list (unwrap_or (as_object d) no_members)

-- the value of a member; null if it is missing
abbrev pub member_at : List ℕ → Data → Data
member_at name d = unwrap_or (get name d) null

-- the scalar that a value is: null, a boolean, a signed 64-bit integer or a text
abbrev pub scalar_in : Data → Option Scalar
scalar_in null = Some Null
scalar_in (boolean b) = Some (Truth b)
scalar_in (number n) = option_map Whole (as_i64 n)
scalar_in (string t) = Some (Text t)
scalar_in (array ds) = None
scalar_in (object ms) = None

-- the values of a list; a text on its own is a list of one
abbrev pub listed : Data → List Data
listed null = []
listed (boolean b) = []
listed (number n) = []
listed (string t) = string t ∷ []
listed (array ds) = item_list ds
listed (object ms) = []
