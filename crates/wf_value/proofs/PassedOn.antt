-- The result of a call, and a refusal that `?` passes on.
use Rattle.std.proofs.Common.{◌≡◌, ◌⊎◌, inl, inr, Result, Ok, Err, sym, ap, ◌∙◌}
use Rattle.std.specs.Prelude.{IsErrAnd}
use Rattle.wf_value.specs.Gives.{Gives, no_memory}
use Rattle.wf_value.specs.declared.refusal.Refusal.{Refusal}

pub same_Ok : {X : Type 0} (x y : X) → ◌≡◌ {A = Result X Refusal} (Ok x) (Ok y) → x ≡ y
same_Ok x y same = cc

-- a refusal that `?` passes on satisfies the caller's definition where that has the same refusal
pub passed_on : {X Y W : Type 0} (view : X → Y) (r : Result X Refusal) (defined : Result Y Refusal) (callee : Result W Refusal)
    (e : Refusal)
    → IsErrAnd r (λ f. f ≡ e) → (e ≡ no_memory) ⊎ (callee ≡ Err e) → (callee ≡ Err e → defined ≡ Err e) → Gives view r defined
passed_on view (Ok x) defined callee e is given carries = absurd is
passed_on view (Err f) defined callee e is (inl memory) carries = inl (is ∙ memory)
passed_on view (Err f) defined callee e is (inr refused) carries = inr (carries refused ∙ ap Err (sym is))
