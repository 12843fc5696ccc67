-- How examples are stated, and what `refl` unfolds to compute the contents of a literal body.
use Rattle.std.proofs.Common.{◌≡◌, ℕ, List, map}
use Rattle.std.specs.Prelude.{⊤}
use Rattle.std.specs.Str.{is_utf8, chars}
use Rattle.serde_json.proofs.OnLiterals.{serde_json_on_literals}
use Rattle.wf_value.specs.declared.code.Code.{Code}
use Rattle.wf_value.specs.declared.refusal.Refusal.{Refusal}
use Rattle.wf_value.specs.declared.refusal.Refusal.TheVariants.{Numbered}
use lib.Utf8.{encode}
use Rattle.wf_expr.specs.Grammar.{begins_name, continues_name}
use Rattle.wf_expr.specs.inner.Parsing.{run}

-- with `unfolding wf_reader_on_literals`, `refl` computes the event of a body
unfoldable pub wf_reader_on_literals : ⊤
unfolding serde_json_on_literals is_utf8 chars encode run begins_name continues_name
wf_reader_on_literals = tt

-- each row is an argument and its value
abbrev pub ValuesAre : {X Y : Type 0} → (X → Y) → List (X × Y) → Type 0
ValuesAre value rows = map (λ row. value row.0) rows ≡ map (λ row. row.1) rows

-- each row is a text and all its faults, in the order of the checks
abbrev pub FaultsAre : (List ℕ → List Refusal) → List (List ℕ × List Code) → Type 0
FaultsAre faults rows = map (λ row. faults row.0) rows ≡ map (λ row. map (λ code. Numbered code) row.1) rows
