-- A runner that was discharged is unknown.
use Rattle.std.specs.Prelude.{◌≡◌, ◌⊎◌, ℕ, List, not, is_some, Option, Some, None, if◌then◌else◌, refl}
use Rattle.std.specs.Option.{option_map_or}
use Rattle.std.proofs.Common.{ap, inl, inr, sym, subst}
use Rattle.wf_value.specs.declared.code.Code.TheVariants.{HasLease, NoRunner}
use Rattle.wf_value.specs.declared.refusal.Refusal.{Refusal}
use Rattle.wf_value.specs.declared.refusal.Refusal.TheVariants.{Numbered}
use Rattle.run_plan.specs.declared.command.Command.TheVariants as command
use Rattle.run_plan.specs.declared.reply.Reply.{Reply}
use Rattle.run_plan.specs.declared.reply.Reply.TheVariants as reply
use Rattle.table_model.specs.Step.{discharging, refused, stepped, unchanged}
use Rattle.table_model.specs.TableState.{RunnerState, Step, TableState, is_named, runner_named}
use Rattle.table_model.proofs.Filters.{find_gone}

-- an answer from the table as it is is a refusal
abbrev IsRefusal : Option Reply → Type 0
IsRefusal o = (e : Refusal) × (o ≡ Some (reply.Refused e))

answer_for : (o : Option RunnerState)
    → (option_map_or (λ (r : RunnerState). if is_some r.holds then Some (refused HasLease) else None) o (Some (refused NoRunner)) ≡ None)
    ⊎ IsRefusal (option_map_or (λ (r : RunnerState). if is_some r.holds then Some (refused HasLease) else None) o (Some (refused NoRunner)))
answer_for None = inr (Numbered NoRunner, refl)
answer_for (Some runner) =
    elim (runner.holds) as
    (λ h. ((if is_some h then Some (refused HasLease) else None) ≡ None) ⊎ IsRefusal (if is_some h then Some (refused HasLease) else None))
    [ None ↦ inl refl | Some lease ↦ inr (Numbered HasLease, refl) ]

module _ (t : TableState) (name : List ℕ) where
  abbrev answered : Option Reply → Step
  answered o = option_map_or (unchanged t) o (discharging t name)

  abbrev IsUnknown : Option Reply → Type 0
  IsUnknown o = (answered o).reply ≡ reply.Ok → runner_named (answered o).table.runners name ≡ None

  pub discharged_is_unknown : (stepped t (command.Discharge name)).reply ≡ reply.Ok
      → runner_named (stepped t (command.Discharge name)).table.runners name ≡ None
  discharged_is_unknown =
      elim (answer_for (runner_named t.runners name)) [
        | inl none ↦
            subst IsUnknown (sym none)
            (λ ok. find_gone (is_named name) (λ x. not (is_named name x)) (λ x is. ap not is) t.runners)
        | inr refusal ↦ subst IsUnknown (sym refusal.1) (λ ok. cc)
      ]
