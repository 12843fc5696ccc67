-- A strategy from its parts.
use Rattle.std.proofs.Common.{◌≡◌, ℕ, List, ◌++◌, Bool, true, false, is_some, Option, Some}
use Rattle.std.proofs.Common.{Result, Err, sym, ap, ◌∙◌}
use Rattle.std.specs.List.{list_all}
use Rattle.std.proofs.lemmas.List.Folds.{list_all-map}
use Rattle.serde_json.specs.Data.{Data}
use Rattle.serde_json.specs.Find.{as_object}
use Rattle.serde_json.specs.View.{members_view}
use Rattle.serde_json.proofs.Views.{Entry}
use Rattle.wf_value.specs.ScalarValue.{MatrixLists}
use Rattle.wf_value.specs.declared.code.Code.TheVariants.{StrategyMember}
use Rattle.wf_value.specs.declared.refusal.Refusal.{Refusal}
use Rattle.wf_value.specs.declared.refusal.Refusal.TheVariants.{Numbered}
use Rattle.wf_reader.specs.Faults.{unless_faulty, fault, fault_unless}
use Rattle.wf_reader.specs.Strategy.{is_strategy_name, names_faults, inside_strategy, strategy_faults}
use Rattle.wf_reader.specs.declared.strategy.Strategy.{Strategy}
use Rattle.wf_reader.proofs.Contents.{named, members_here, where_so, is_of-Some}

names_named : (d : Data) (es : List Entry) → Some (members_view es) ≡ as_object d
    → names_faults d ≡ fault_unless (list_all (λ e. is_strategy_name (named e).0) es) StrategyMember
names_named d es is =
    ap (λ ms. fault_unless (list_all (λ m. is_strategy_name m.0) ms) StrategyMember) (members_here d es is)
    ∙ ap (λ b. fault_unless b StrategyMember) (list_all-map (λ m. is_strategy_name m.0) named es)

pub in_strategy : {X : Type 0} (d : Data) (es : List Entry) (x : X) (r : Result X Refusal) → Some (members_view es) ≡ as_object d
    → unless_faulty (inside_strategy d) x ≡ r → unless_faulty (strategy_faults d) x ≡ r
in_strategy d es x r is h = where_so (is_some (as_object d)) (inside_strategy d) (fault StrategyMember) x r (is_of-Some _ _ is) h

-- a member with another name
pub other_name : {X : Type 0} (d : Data) (es : List Entry) (gs : List Refusal) (x : X) → Some (members_view es) ≡ as_object d
    → false ≡ list_all (λ e. is_strategy_name (named e).0) es → unless_faulty (names_faults d ++ gs) x ≡ Err (Numbered StrategyMember)
other_name d es gs x is other =
    ap (λ fs. unless_faulty (fs ++ gs) x) (names_named d es is ∙ ap (λ b. fault_unless b StrategyMember) (sym other))

-- only known members
pub its_names : {X : Type 0} (d : Data) (es : List Entry) (gs : List Refusal) (x : X) (r : Result X Refusal)
    → Some (members_view es) ≡ as_object d → true ≡ list_all (λ e. is_strategy_name (named e).0) es → unless_faulty gs x ≡ r
    → unless_faulty (names_faults d ++ gs) x ≡ r
its_names d es gs x r is own h =
    ap (λ fs. unless_faulty (fs ++ gs) x) (names_named d es is ∙ ap (λ b. fault_unless b StrategyMember) (sym own)) ∙ h

abbrev strategy_with : Option MatrixLists → Bool → Option ℕ → Strategy
strategy_with m f p = record { matrix = m; fail_fast = f; max_parallel = p }

pub strategy_made : (m n : Option MatrixLists) (f g : Bool) (p q : Option ℕ) → m ≡ n → f ≡ g → p ≡ q
    → strategy_with m f p ≡ strategy_with n g q
strategy_made m n f g p q a b c =
    ap (λ x. strategy_with x f p) a ∙ ap (λ x. strategy_with n x p) b ∙ ap (strategy_with n g) c
