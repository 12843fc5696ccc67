use Rattle.std.specs.Prelude.{◌≡◌, ◌<◌, ℕ, List, Option, Some, length, option_and_then, slice_get, refl}
use Rattle.std.proofs.Common.{arith, ap, subst, sym, ◌∙◌}
use Rattle.std.proofs.lemmas.Option.{slice_get_read}
use Rattle.table_bindings.specs.LabelNumbers.{IsListOf, kept_texts}
use Rattle.table_bindings.proofs.Binding.{one_pushed}
use Rattle.table_bindings.proofs.LabelNumbers.{grown_list, grows_more}
use Rattle.table_bindings.proofs.label_numbers.enter_legs.Goals as goal

pub enter_list-requires : goal.enter_list-requires
enter_list-requires c = c.loop-l.invariant.2.places 0 c.args.r c.requires

pub loop-l-preserved : goal.loop-l-preserved
loop-l-preserved c =
    let old = c.loop-l.lists in
    let new = c.enter_list.new.lists in
    let labels = c.args.labels.now in
    let r = c.args.r in
    let l = c.loop-l.l in
    let grows = c.enter_list.ensures.grows in
    let said : ℕ → ℕ → Type 0 = λ k n. IsListOf new r (option_and_then kept_texts (slice_get labels k)) n in
    let within : l < length labels = omega arith in
    let at : slice_get labels l ≡ Some c.index-labels-l.result =
    slice_get_read labels (length labels) l c.index-labels-l.result refl within c.index-labels-l.is in
    let here : said l c.in_ok-number.number =
    subst (λ (o : Option (List (List ℕ))). IsListOf new r o c.in_ok-number.number)
    (c.kept_texts.ensures ∙ ap (option_and_then kept_texts) (sym at)) c.in_ok-number.ensures.number in
    let pushed = one_pushed said c.loop-l.legs.items c.push.new.self.items c.in_ok-number.number l c.in_ok-push.ensures.items
    c.loop-l.invariant.0
    (λ k n is. grown_list old new grows r (option_and_then kept_texts (slice_get labels k)) n (c.loop-l.invariant.1 k n is)) here in
    (pushed.0, pushed.1, grows_more c.args.lists.now old new c.loop-l.invariant.2 grows)
