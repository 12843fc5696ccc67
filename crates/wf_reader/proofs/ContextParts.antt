-- Moving the contexts out of an envelope, one after another.
use Rattle.std.proofs.Common.{◌≡◌, ℕ, List, [], ◌∷◌, Bool, true, false, true≢false, cond, Option, Some, option_map, is_eq, nat_cmp}
use Rattle.std.proofs.Common.{bytes_eq}
use Rattle.std.proofs.Common.{String, Global, string_bytes, codes, refl, sym, ap, ◌∙◌}
use Rattle.std.proofs.lemmas.Map.Text.{is_eq-slice_cmp}
use Rattle.std.proofs.lemmas.Slice.Eq.{bytes_eq-Decides}
use Rattle.std.specs.BTreeMap.{is_at}
use Rattle.std.specs.Cmp.Lexicographic.{slice_cmp}
use Rattle.std.specs.Map.{lookup, remove_entry}
use Rattle.std.specs.Ordering.{match_ordering}
use Rattle.serde_json.specs.Data.{Data, object}
use Rattle.serde_json.specs.Find.{get_member}
use Rattle.serde_json.specs.View.{view, members_view}
use Rattle.serde_json.specs.declared.value.Value.{Value}
use Rattle.serde_json.proofs.Views.{Entry, view-lookup, member_later}
use Rattle.wf_reader.specs.Contexts.{ContextObjects, contexts_in}

-- whether a key is the name
abbrev pub is_name : List ℕ → String Global → Bool
is_name name = is_at (λ k. slice_cmp nat_cmp name (string_bytes k))

pub taken : (name : List ℕ) (es : List Entry) (o : Option Value) → o ≡ lookup (is_name name) es
    → option_map view o ≡ get_member name (members_view es)
taken name es o is = ap (option_map view) is ∙ view-lookup name es

one_less : (b : Bool) (q name : List ℕ) (e : Entry) (es : List Entry) → (q ≡ name → ⊥)
    → is_eq (slice_cmp nat_cmp name (string_bytes e.0)) ≡ b
    → get_member q (members_view (remove_entry (is_name name) es)) ≡ get_member q (members_view es)
    → get_member q (members_view (cond b es (e ∷ remove_entry (is_name name) es))) ≡ get_member q (members_view (e ∷ es))
one_less true q name e es other is later =
    let same : name ≡ string_bytes e.0 = (bytes_eq-Decides name (string_bytes e.0)).0
    (sym (is_eq-slice_cmp name (string_bytes e.0)) ∙ is) in
    sym (member_later q e es (λ h. other (h ∙ sym same)))
one_less false q name e es other is later =
    ap (λ r. match_ordering (slice_cmp nat_cmp q (string_bytes e.0)) r (Some (view e.1)) r) later

-- the other names keep their values
others_stay : (q name : List ℕ) (es : List Entry) → (q ≡ name → ⊥)
    → get_member q (members_view (remove_entry (is_name name) es)) ≡ get_member q (members_view es)
others_stay q name [] other = refl
others_stay q name (e ∷ es) other = one_less _ q name e es other refl (others_stay q name es other)

apart : (q name : List ℕ) → bytes_eq q name ≡ false → q ≡ name → ⊥
apart q name differ same = true≢false (sym ((bytes_eq-Decides q name).1 same) ∙ differ)

abbrev objects : Option Data → Option Data → Option Data → ContextObjects
objects github inputs vars = record { github = github; inputs = inputs; vars = vars }

pub taken_in_order : (es fs gs : List Entry) (github inputs vars : Option Value)
    → github ≡ lookup (is_name (codes "github")) es → fs ≡ remove_entry (is_name (codes "github")) es
    → inputs ≡ lookup (is_name (codes "inputs")) fs → gs ≡ remove_entry (is_name (codes "inputs")) fs
    → vars ≡ lookup (is_name (codes "vars")) gs
    → objects (option_map view github) (option_map view inputs) (option_map view vars) ≡ contexts_in (object (members_view es))
taken_in_order es fs gs github inputs vars g without_github i without_inputs v =
    let inputs_stay = λ (q : List ℕ) (other : q ≡ codes "github" → ⊥).
    ap (λ x. get_member q (members_view x)) without_github ∙ others_stay q (codes "github") es other in
    let vars_stay = ap (λ x. get_member (codes "vars") (members_view x)) without_inputs
    ∙ others_stay (codes "vars") (codes "inputs") fs (apart (codes "vars") (codes "inputs") refl) in
    ap (λ x. objects x (option_map view inputs) (option_map view vars)) (taken (codes "github") es github g)
    ∙ ap (λ x. objects (get_member (codes "github") (members_view es)) x (option_map view vars)) (taken (codes "inputs") fs inputs i
    ∙ inputs_stay (codes "inputs") (apart (codes "inputs") (codes "github") refl))
    ∙ ap (objects (get_member (codes "github") (members_view es)) (get_member (codes "inputs") (members_view es))) (
    taken (codes "vars") gs vars v ∙ vars_stay ∙ inputs_stay (codes "vars") (apart (codes "vars") (codes "github") refl))

-- the workflow, after the three contexts are removed
pub taken_after : (es fs gs hs : List Entry) (workflow : Option Value)
    → fs ≡ remove_entry (is_name (codes "github")) es → gs ≡ remove_entry (is_name (codes "inputs")) fs
    → hs ≡ remove_entry (is_name (codes "vars")) gs → workflow ≡ lookup (is_name (codes "workflow")) hs
    → option_map view workflow ≡ get_member (codes "workflow") (members_view es)
taken_after es fs gs hs workflow without_github without_inputs without_vars w =
    let stays = λ (name : List ℕ) (ks ls : List Entry) (differ : bytes_eq (codes "workflow") name ≡ false)
    (without : ls ≡ remove_entry (is_name name) ks).
    ap (λ x. get_member (codes "workflow") (members_view x)) without
    ∙ others_stay (codes "workflow") name ks (apart (codes "workflow") name differ) in
    taken (codes "workflow") hs workflow w
    ∙ stays (codes "vars") gs hs refl without_vars
    ∙ stays (codes "inputs") fs gs refl without_inputs
    ∙ stays (codes "github") es fs refl without_github
