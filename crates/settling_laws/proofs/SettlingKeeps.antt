-- Settling keeps what each rule keeps.
use Rattle.std.specs.Prelude.{◌≡◌, ℕ, zero, suc, List, Some, None, refl}
use Rattle.std.specs.Option.{option_map_or}
use Rattle.table_model.specs.GroupLaw.{Transition, and_then, without_moves}
use Rattle.table_model.specs.Settling.{rule_at, first_site, first_rule, remaining_phases, settled_within, settled}
use Rattle.table_model.specs.Runs.{RunState}
use Rattle.table_model.specs.declared.sites.RuleSite.{RuleSite}
use Rattle.table_model.proofs.Optional.{from_and_then}
use Rattle.table_model.proofs.RunFits.{RunsFit}
use Rattle.table_model.proofs.Settles.{Settles, settles_nothing, settles_on}
use Rattle.settling_laws.proofs.LivePlaces.{LivePlace, first_place_is_live}
use Rattle.settling_laws.proofs.RuleKeeps.{rule_settles}

pub first_rule_settles : (runs : List RunState) (m : Transition) → RunsFit runs → first_rule runs ≡ Some m → Settles runs m.runs
first_rule_settles runs m fit h =
    let made = from_and_then (rule_at runs) (first_site runs) m h in
    rule_settles runs m made.value fit (first_place_is_live runs made.value made.is) made.gives

pub settles_within : (n : ℕ) (runs : List RunState) → RunsFit runs → Settles runs (settled_within n runs).runs
settles_within zero runs fit = settles_nothing runs fit
settles_within (suc n) runs fit =
    elim (first_rule runs) as
    (λ o. first_rule runs ≡ o → Settles runs (option_map_or (λ m. and_then m (settled_within n)) o (without_moves runs)).runs) [
      | None ↦ λ is. settles_nothing runs fit
      | Some m ↦ λ is.
          let one = first_rule_settles runs m fit is in
          settles_on runs m.runs (settled_within n m.runs).runs one (settles_within n m.runs one.stay.fit)
    ] refl

pub settling_settles : (runs : List RunState) → RunsFit runs → Settles runs (settled runs)
settling_settles runs fit = settles_within (remaining_phases runs) runs fit

-- ---- what each rule keeps

-- A rule that applies at a live place preserves the property.
abbrev pub RulesKeep : (List RunState → Type 0) → Type 0
RulesKeep Keeps = (runs : List RunState) (m : Transition) (site : RuleSite) → RunsFit runs → LivePlace runs site → rule_at runs site ≡ Some m
    → Keeps runs → Keeps m.runs

pub first_rule_keeps : (Keeps : List RunState → Type 0) → RulesKeep Keeps → (runs : List RunState) (m : Transition) → RunsFit runs
    → first_rule runs ≡ Some m
    → Keeps runs → Keeps m.runs
first_rule_keeps Keeps each_rule runs m fit h kept =
    let made = from_and_then (rule_at runs) (first_site runs) m h in
    each_rule runs m made.value fit (first_place_is_live runs made.value made.is) made.gives kept

keeps_within : (Keeps : List RunState → Type 0) → RulesKeep Keeps → (n : ℕ) (runs : List RunState) → RunsFit runs → Keeps runs
    → Keeps (settled_within n runs).runs
keeps_within Keeps each_rule zero runs fit kept = kept
keeps_within Keeps each_rule (suc n) runs fit kept =
    elim (first_rule runs) as
    (λ o. first_rule runs ≡ o → Keeps (option_map_or (λ m. and_then m (settled_within n)) o (without_moves runs)).runs) [
      | None ↦ λ is. kept
      | Some m ↦ λ is.
          keeps_within Keeps each_rule n m.runs (first_rule_settles runs m fit is).stay.fit
          (first_rule_keeps Keeps each_rule runs m fit is kept)
    ] refl

pub settling_keeps : (Keeps : List RunState → Type 0) → RulesKeep Keeps → (runs : List RunState) → RunsFit runs → Keeps runs
    → Keeps (settled runs)
settling_keeps Keeps each_rule runs fit kept = keeps_within Keeps each_rule (remaining_phases runs) runs fit kept
