-- The effect of a finish that is refused.
use Rattle.std.proofs.Common.{◌≡◌, refl}
use Rattle.wf_value.specs.declared.code.Code.TheVariants.{AreaFull}
use Rattle.wf_value.specs.declared.refusal.Refusal.{Refusal}
use Rattle.wf_value.specs.declared.refusal.Refusal.TheVariants.{Numbered}
use Rattle.act_store.specs.Checkpoints.{dropped}
use Rattle.act_store.specs.Plain.{area_full}
use Rattle.act_store.specs.Steps.{left_by}
use Rattle.act_store.specs.StoreState.{StoreState}
use Rattle.act_store.specs.declared.step.Step.TheVariants as asked

-- only lack of space drops a checkpoint
pub finish_left : {D : Type 0} (s t : StoreState D) (e : Refusal) → (e ≡ area_full → t ≡ dropped s) → ((e ≡ area_full → ⊥) → t ≡ s)
    → t ≡ left_by s asked.Finish e
finish_left s t (Numbered AreaFull) drops same = drops refl
finish_left s t e drops same = same (λ clash. cc)
