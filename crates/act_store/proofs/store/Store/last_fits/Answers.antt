use Rattle.std.proofs.Common.{rules, arith, ◌≡◌, ◌<◌, ◌≤◌, ◌+◌, ◌-◌, drop, length, not, ap, subst, sym, ◌∙◌}
use Rattle.std.specs.Prelude.{flat_map, nat_lt}
use Rattle.std.proofs.lemmas.List.{length-drop}
use Rattle.command_encodings.specs.Commands.{command_bytes}
use Rattle.act_store.specs.Checkpoints.{has_no_room}
use Rattle.act_store.specs.Entries.{commands_of}
use Rattle.act_store.specs.StoreState.{StoreState}
use Rattle.act_store.specs.inner.StoreSeen.{as_checkpoint}
use Rattle.act_store.proofs.Finishing.{fits_is}
use Rattle.act_store.proofs.store.Store.last_fits.Goals as goal

pub returns : goal.returns
returns g c =
    let s = c.self.inside in
    let b = c.args.begun.now in
    let prefix : c.len-2.result ≡ length b.head_and_text.items = search rules in
    let later = drop b.place s.history.items in
    let encoded : c.encoded_len.result ≡ length (flat_map command_bytes (commands_of later)) =
    c.encoded_len.ensures.length ∙ ap length (subst (λ (v : StoreState g.row.D.Denot). b.last.encoded ≡ flat_map command_bytes (commands_of (drop b.place v.history)))
    (sym c.self.view_is) c.requires.later) in
    let place : b.place ≤ length s.history.items =
    subst (λ (v : StoreState g.row.D.Denot). b.place ≤ length v.history) (sym c.self.view_is) c.requires.place in
    let len : c.len.result ≡ length s.history.items = search rules in
    let some : 0 < length later = omega (arith, length-drop b.place s.history.items, place, len, c.if-len-begun.false) in
    let same : c.len-2.result + (9 + c.encoded_len.result + 1) ≡ c.len-2.result + 10 + c.encoded_len.result = omega arith in
    ap (λ n. nat_lt n s.areas.len) same
    ∙ subst (λ (v : StoreState g.row.D.Denot). nat_lt (c.len-2.result + 10 + c.encoded_len.result) s.areas.len ≡ not (has_no_room v (as_checkpoint b)))
    c.self.view_is
    (fits_is c.len-2.result (length b.head_and_text.items) c.encoded_len.result s.areas.len later some c.requires.head prefix
    encoded)

-- the record is short, and ends not far behind the area
pub overflow_add-record-3 : goal.overflow_add-record-3
overflow_add-record-3 g c = omega (arith, c.encoded_len.ensures.most)

pub overflow_add-record-4 : goal.overflow_add-record-4
overflow_add-record-4 g c = omega (arith, c.encoded_len.ensures.most)

pub overflow_add-result : goal.overflow_add-result
overflow_add-result g c =
    let prefix : c.len-2.result ≡ length c.args.begun.now.head_and_text.items = search rules in
    let area : c.args.self.now.area ≡ c.self.inside.areas.len = sym (ap (λ (v : StoreState g.row.D.Denot). v.area) c.self.view_is) in
    omega (arith, prefix, area, c.requires.fits, c.self.invariant.0.size.most, c.encoded_len.ensures.most)
