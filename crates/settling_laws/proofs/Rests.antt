-- Settling terminates, and then no rule applies.
use Rattle.std.specs.Prelude.{◌≡◌, ℕ, zero, suc, ◌≤◌, ◌++◌, List, Bool, true, is_some, Option, Some, None, option_and_then, refl}
use Rattle.std.specs.Option.{option_map_or}
use Rattle.std.proofs.Common.{arith, ap, sym, ◌∙◌}
use Rattle.table_model.specs.GroupLaw.{Transition, and_then, without_moves}
use Rattle.table_model.specs.Settling.{rule_at, applies, first_site, first_rule, remaining_phases, settled_within, settled, settling}
use Rattle.table_model.specs.Runs.{RunState}
use Rattle.settling_laws.proofs.LivePlaces.{first_place_applies}
use Rattle.settling_laws.proofs.Lowered.{first_rule_lowers}

-- if no phase remains, no rule applies
nothing_left : (runs : List RunState) → remaining_phases runs ≤ 0 → first_rule runs ≡ None
nothing_left runs h =
    elim (first_rule runs) as (λ o. first_rule runs ≡ o → o ≡ None) [
      | None ↦ λ is. refl
      | Some m ↦ λ is. absurd (omega (arith, first_rule_lowers runs m is))
    ] refl

-- the result of a rule and of the settling after it
abbrev going_on : ℕ → List RunState → Option Transition → Transition
going_on n runs o = option_map_or (λ m. and_then m (settled_within n)) o (without_moves runs)

at_rest_already : (n : ℕ) (runs : List RunState) → first_rule runs ≡ None → settled_within n runs ≡ without_moves runs
at_rest_already zero runs h = refl
at_rest_already (suc n) runs h = ap (going_on n runs) h

abbrev suffix : Transition → Transition → Transition
suffix m rest = record { runs = rest.runs; moves = m.moves ++ rest.moves }

-- two bounds that are large enough give the same
pub settled_enough : (n m : ℕ) (runs : List RunState) → remaining_phases runs ≤ n → remaining_phases runs ≤ m → settled_within n runs ≡ settled_within m runs
settled_enough zero m runs hn hm = sym (at_rest_already m runs (nothing_left runs hn))
settled_enough (suc n) zero runs hn hm = at_rest_already (suc n) runs (nothing_left runs hm)
settled_enough (suc n) (suc k) runs hn hm =
    elim (first_rule runs) as (λ o. first_rule runs ≡ o → going_on n runs o ≡ going_on k runs o) [
      | None ↦ λ is. refl
      | Some m ↦ λ is.
          let lower = first_rule_lowers runs m is in
          ap (suffix m) (settled_enough n k m.runs (omega (arith, lower)) (omega (arith, lower)))
    ] refl

-- the first rule, followed by settling what it makes
pub settling_by_rule : (runs : List RunState) (m : Transition) → first_rule runs ≡ Some m → settling runs ≡ and_then m settling
settling_by_rule runs m is =
    let lower = first_rule_lowers runs m is in
    settled_enough (remaining_phases runs) (suc (remaining_phases runs)) runs (omega arith) (omega arith)
    ∙ ap (going_on (remaining_phases runs) runs) is
    ∙ ap (suffix m) (settled_enough (remaining_phases runs) (remaining_phases m.runs) m.runs (omega (arith, lower)) (omega arith))

-- one rule more or less makes no difference
pub settled_after_rule : (runs : List RunState) (m : Transition) → first_rule runs ≡ Some m → settled runs ≡ settled m.runs
settled_after_rule runs m is = ap (λ (s : Transition). s.runs) (settling_by_rule runs m is)

-- if no rule applies, nothing changes
pub settling_at_rest : (runs : List RunState) → first_rule runs ≡ None → settling runs ≡ without_moves runs
settling_at_rest runs h = at_rest_already (remaining_phases runs) runs h

pub settled_at_rest : (runs : List RunState) → first_rule runs ≡ None → settled runs ≡ runs
settled_at_rest runs h = ap (λ (s : Transition). s.runs) (settling_at_rest runs h)

rests_within : (n : ℕ) (runs : List RunState) → remaining_phases runs ≤ n → first_rule (settled_within n runs).runs ≡ None
rests_within zero runs h = nothing_left runs h
rests_within (suc n) runs h =
    elim (first_rule runs) as (λ o. first_rule runs ≡ o → first_rule (going_on n runs o).runs ≡ None) [
      | None ↦ λ is. is
      | Some m ↦ λ is. rests_within n m.runs (omega (arith, first_rule_lowers runs m is))
    ] refl

-- after settling no rule applies
pub settled_rests : (runs : List RunState) → first_rule (settled runs) ≡ None
settled_rests runs = rests_within (remaining_phases runs) runs (omega arith)

-- ---- at no site

some_rule : (b : Bool) → b ≡ true → (X : Type 0) (o : Option X) → is_some o ≡ b → o ≡ None → ⊥
some_rule b e X None is none = cc
some_rule b e X (Some x) is none = cc

pub no_place : (runs : List RunState) → first_rule runs ≡ None → first_site runs ≡ None
no_place runs h =
    elim (first_site runs) as (λ o. first_site runs ≡ o → o ≡ None) [
      | None ↦ λ is. refl
      | Some site ↦ λ is.
          absurd (some_rule (applies runs site) (first_place_applies runs site is) Transition (rule_at runs site) refl
          (sym (ap (option_and_then (rule_at runs)) is) ∙ h))
    ] refl

pub settled_has_no_place : (runs : List RunState) → first_site (settled runs) ≡ None
settled_has_no_place runs = no_place (settled runs) (settled_rests runs)
