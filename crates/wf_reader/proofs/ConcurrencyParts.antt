-- The kind of a concurrency, and the names of its members.
use Rattle.std.proofs.Common.{◌≡◌, List, ◌++◌, true, Some, Result, sym, ap, ◌∙◌}
use Rattle.std.specs.List.{list_all}
use Rattle.std.proofs.lemmas.List.Folds.{list_all-map}
use Rattle.serde_json.specs.Data.{Data}
use Rattle.serde_json.specs.Find.{as_object}
use Rattle.serde_json.specs.View.{members_view}
use Rattle.serde_json.proofs.Views.{Entry}
use Rattle.wf_value.specs.declared.code.Code.TheVariants.{WrongKind}
use Rattle.wf_value.specs.declared.refusal.Refusal.{Refusal}
use Rattle.wf_reader.specs.Job.{has_its_names, is_concurrency, is_concurrency_name}
use Rattle.wf_reader.specs.Faults.{fault_unless, unless_faulty}
use Rattle.wf_reader.proofs.Contents.{named, members_here}

-- the names of an object, from the entries of its map
pub names_here : (d : Data) (es : List Entry) → Some (members_view es) ≡ as_object d
    → list_all (λ e. is_concurrency_name (named e).0) es ≡ has_its_names d
names_here d es is =
    sym (ap (λ ms. list_all (λ m. is_concurrency_name m.0) ms) (members_here d es is)
    ∙ list_all-map (λ m. is_concurrency_name m.0) named es)

-- for a value of the right kind, the faults are those of its templates
pub of_its_kind : {X : Type 0} (d : Data) (gs : List Refusal) (x : X) (r : Result X Refusal) → true ≡ is_concurrency d
    → unless_faulty gs x ≡ r → unless_faulty (fault_unless (is_concurrency d) WrongKind ++ gs) x ≡ r
of_its_kind d gs x r is later = ap (λ b. unless_faulty (fault_unless b WrongKind ++ gs) x) (sym is) ∙ later
