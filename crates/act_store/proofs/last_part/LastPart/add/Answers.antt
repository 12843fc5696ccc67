use Rattle.std.proofs.Common.{rules, arith, ◌≡◌, ◌+◌, ◌-◌, ◌≤◌, ◌∙◌, ◌++◌, List, ℕ, ap, length, take, OnErr, OnOk}
use Rattle.std.specs.Prelude.{vec_len}
use Rattle.std.proofs.lemmas.Result.{on_ok_weaker, on_err_weaker}
use Rattle.act_store.specs.inner.LastPart.{IsLastPart, LastState, last_state}
use Rattle.act_store.proofs.LastPart.{at_most, encoded_of, grown}
use Rattle.act_store.proofs.last_part.LastPart.add.Goals as goal

pub push_reserved-requires : goal.push_reserved-requires
push_reserved-requires c =
    let most : vec_len c.extend_from_slice-added.new.self ≤ vec_len c.truncate.new.self + length c.args.encoded.now =
    at_most c.extend_from_slice-added.result (vec_len c.extend_from_slice-added.new.self) (vec_len c.truncate.new.self)
    (length c.args.encoded.now) c.extend_from_slice-added.ensures.len in
    let size : vec_len c.self.inside.bytes ≡ length c.self.inside.bytes.items = search rules in
    let long : 10 ≤ length c.self.inside.bytes.items = c.self.invariant.long in
    let len : c.len.result ≡ vec_len c.reserve.new.self = search rules in
    omega (
      arith,
      most,
      size,
      long,
      len,
      c.reserve.ensures.len,
      c.in_ok-reserve.ensures.ok,
      c.truncate.ensures.len,
      c.truncate.ensures.capacity,
      c.extend_from_slice-added.ensures.capacity,
    )

grows : (c : goal.After-push_reserved) → IsLastPart c.push_reserved.new.self.items
    × OnOk c.extend_from_slice-added.result (last_state c.push_reserved.new.self.items
    ≡ record { front = take 9 c.self.inside.bytes.items; encoded = encoded_of c.self.inside.bytes.items ++ c.args.encoded.now })
    × OnErr c.extend_from_slice-added.result (last_state c.push_reserved.new.self.items ≡ last_state c.self.inside.bytes.items)
grows c =
    let old = c.self.inside.bytes.items in
    let cut = c.truncate.new.self.items in
    let len : c.len.result ≡ length old = search rules in
    let is_cut : cut ≡ take (length old - 1) old =
    c.truncate.ensures.items ∙ ap (λ (l : List ℕ). take (c.len.result - 1) l) c.reserve.ensures.items ∙ ap (λ (n : ℕ). take (n - 1) old) len in
    grown old c.self.invariant c.extend_from_slice-added.result cut c.extend_from_slice-added.new.self.items c.push_reserved.new.self.items
    c.args.encoded.now is_cut c.extend_from_slice-added.ensures.items c.push_reserved.ensures.items

pub invariant_of-self-2 : goal.invariant_of-self-2
invariant_of-self-2 c = (grows c).0

pub returns-clause-added : goal.returns-clause-added
returns-clause-added c =
    on_ok_weaker c.extend_from_slice-added.result
    (λ is. is ∙ ap (λ (part : LastState). record part { encoded = part.encoded ++ c.args.encoded.now }) c.self.view_is)
    (grows c).1

pub returns-clause-unchanged : goal.returns-clause-unchanged
returns-clause-unchanged c = on_err_weaker c.extend_from_slice-added.result (λ is. is ∙ c.self.view_is) (grows c).2
