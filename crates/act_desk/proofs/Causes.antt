-- Why a command is not entered, by refusal number.
use Rattle.std.proofs.Common.{◌≡◌, ◌⊎◌, inl, inr, [], ◌∷◌, ◌++◌, length, Bool, true, false, Some, None, Result, Ok, Err, sym, subst}
use Rattle.std.specs.Prelude.{IfErr, IsErrAnd, nat_le, nat_lt, if◌then◌else◌}
use Rattle.wf_value.specs.Gives.{no_memory}
use Rattle.wf_value.specs.declared.refusal.Refusal.{Refusal}
use Rattle.run_plan.specs.declared.command.Command.{Command}
use Rattle.act_store.specs.Layouts.{has_command}
use Rattle.act_store.specs.StoreState.{StoreState, pending_commands}
use Rattle.act_store.specs.Plain.{area_full, failed_earlier, history_full, old_layout, record_end, refusal_of_apply}

refusals : (failed full has wide : Bool) (e : Refusal)
    → (if failed then Some failed_earlier
    else (if full then Some history_full else (if has then (if wide then Some area_full else None) else Some old_layout))) ≡ Some e
    → (e ≡ history_full) ⊎ (e ≡ old_layout) ⊎ (e ≡ area_full) ⊎ (e ≡ failed_earlier)
refusals true full has wide e is = inr (inr (inr (cc is)))
refusals false true has wide e is = inl (cc is)
refusals false false false wide e is = inr (inl (cc is))
refusals false false true true e is = inr (inr (inl (cc is)))
refusals false false true false e is = absurd (cc is)

pub causes : {D : Type 0} (s : StoreState D) (command : Command) (e : Refusal) → (e ≡ no_memory) ⊎ (refusal_of_apply s command ≡ Some e)
    → (e ≡ no_memory) ⊎ (e ≡ history_full) ⊎ (e ≡ old_layout) ⊎ (e ≡ area_full) ⊎ (e ≡ failed_earlier)
causes s command e (inl memory) = inl memory
causes s command e (inr is) =
    inr (refusals s.failed (nat_le 100000 (length s.history)) (has_command s.layout command)
    (nat_lt s.area (record_end s (pending_commands s ++ command ∷ []))) e is)

-- the same for a refusal that is passed on
pub passed_causes : {T D : Type 0} (s : StoreState D) (command : Command) (r : Result T Refusal) (e : Refusal) → IsErrAnd r (λ f. f ≡ e)
    → (e ≡ no_memory) ⊎ (refusal_of_apply s command ≡ Some e)
    → IfErr r (λ f. (f ≡ no_memory) ⊎ (f ≡ history_full) ⊎ (f ≡ old_layout) ⊎ (f ≡ area_full) ⊎ (f ≡ failed_earlier))
passed_causes s command (Ok x) e is cause = absurd is
passed_causes s command (Err f) e is cause =
    subst (λ (g : Refusal). (g ≡ no_memory) ⊎ (g ≡ history_full) ⊎ (g ≡ old_layout) ⊎ (g ≡ area_full) ⊎ (g ≡ failed_earlier)) (sym is)
    (causes s command e cause)
