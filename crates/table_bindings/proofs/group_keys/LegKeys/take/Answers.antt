use Rattle.std.specs.Prelude.{◌≡◌, ◌<◌, ℕ, Some, length, slice_get, refl}
use Rattle.std.proofs.Common.{arith, subst, sym, ◌∙◌}
use Rattle.std.proofs.lemmas.Option.{same_Some, slice_get_read}
use Rattle.table_bindings.specs.GroupKeys.{IsLater}
use Rattle.table_bindings.specs.declared.group_keys.HolderKey.{HolderKey}
use Rattle.table_bindings.specs.declared.groups.GroupRequest.{GroupRequest}
use Rattle.table_bindings.proofs.Binding.{one_pushed}
use Rattle.table_bindings.proofs.group_keys.LegKeys.take.Goals as goal

pub loop-l-preserved : goal.loop-l-preserved
loop-l-preserved c =
    let requests = c.args.requests.now in
    let l = c.loop-l.l in
    let said : ℕ → HolderKey → Type 0 = λ k key. (request : GroupRequest) → slice_get requests k ≡ Some request → IsLater request key in
    let within : l < length requests = omega arith in
    let at : slice_get requests l ≡ Some c.index-requests-l.result =
    slice_get_read requests (length requests) l c.index-requests-l.result refl within c.index-requests-l.is in
    one_pushed said c.loop-l.legs.items c.push.new.self.items c.in_ok-key.key l c.in_ok-push.ensures.items c.loop-l.invariant.0
    c.loop-l.invariant.1
    (λ request is.
    subst (λ (r : GroupRequest). IsLater r c.in_ok-key.key) (same_Some c.index-requests-l.result request (sym at ∙ is))
    c.in_ok-key.ensures.later)
