use Rattle.std.specs.Prelude.{◌≡◌, ◌+◌, ◌++◌, ◌∷◌, ℕ, [], List, if◌then◌else◌, string_bytes, Some, unwrap_or}
use Rattle.std.specs.Str.{bytes_eq}
use Rattle.std.proofs.Common.{arith, ap, length, subst, sym, take, ◌∙◌}
use Rattle.std.proofs.lemmas.List.{length-take, take_more}
use Rattle.indexmap.specs.IndexMap.{get_by_text}
use Rattle.wf_value.proofs.PassedOn.{same_Ok}
use Rattle.forgotten_runs.specs.inner.Delivered.{FindsKept}
use Rattle.forgotten_runs.proofs.KeptDeliveries.{one_more_kept}
use Rattle.forgotten_runs.proofs.kept_deliveries.indexes_of.Goals as goal

pub loop-i-preserved : goal.loop-i-preserved
loop-i-preserved c =
    let all = c.args.deliveries.now in
    let i = c.loop-i.i in
    let d = c.index-deliveries-i.result in
    let text : string_bytes c.in_ok-delivery.delivery ≡ d = sym (same_Ok _ _ c.in_ok-delivery.ensures) ∙ c.as_str.ensures.text in
    let more : take (i + 1) all ≡ take i all ++ d ∷ [] =
    take_more all i d (omega arith) ∙ ap (λ (x : List ℕ). take i all ++ x ∷ []) (sym c.index-deliveries-i.is) in
    let end : i ≡ length (take i all) = omega (arith, length-take i all) in
    subst (λ (ds : List (List ℕ)). FindsKept ds c.keep.new.self.indexes) (sym more)
    (one_more_kept (take i all) d c.make_room.new.self.indexes c.keep.new.self.indexes i end
    (λ other. c.keep.ensures other
    ∙ ap (λ (t : List ℕ). if bytes_eq t other then Some (unwrap_or (get_by_text c.make_room.new.self.indexes other) i)
    else get_by_text c.make_room.new.self.indexes other) text)
    (λ delivery. c.make_room.ensures.same delivery ∙ c.loop-i.invariant delivery))
