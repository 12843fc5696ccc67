use Rattle.std.proofs.Common.{rules, arith, ◌≡◌, ◌+◌, ◌-◌, ◌≤◌, ◌∙◌, ◌∷◌, [], ◌++◌, List, ℕ, ap, drop, length, set, subst, sym, take}
use Rattle.std.proofs.lemmas.List.{length-set, length-take, take_at}
use Rattle.act_store.specs.inner.LastPart.{LastState}
use Rattle.act_store.proofs.LastPart.{encoded_of, is_part, long_front, some_taken_off, state_is}
use Rattle.act_store.proofs.last_part.LastPart.take_off.Goals as goal

abbrev bytes_of : goal.After-self-1 → List ℕ
bytes_of c = take c.truncate.new.self.len (c.shut_last.new.bytes ++ drop (length c.shut_last.new.bytes) c.truncate.new.self.items)

left_of : (c : goal.After-self-1) → bytes_of c
    ≡ take 9 c.self.inside.bytes.items
    ++ (take (length (encoded_of c.self.inside.bytes.items) - c.args.count) (encoded_of c.self.inside.bytes.items) ++ 0 ∷ [])
left_of c =
    let old = c.self.inside.bytes.items in
    let cut = c.truncate.new.self.items in
    let written = c.shut_last.new.bytes in
    let len = c.len.result - c.args.count in
    let all : c.len.result ≡ length old = search rules in
    let within : c.args.count ≤ length (encoded_of old) =
    subst (λ (part : LastState). c.args.count ≤ length part.encoded) (sym c.self.view_is) c.requires in
    let size : length cut ≡ len = omega (arith, ap (λ (l : List ℕ). length l) c.truncate.ensures.items, length-take len old, all) in
    let is : written ≡ set cut (len - 1) 0 =
    c.shut_last.ensures ∙ ap (λ (l : List ℕ). set l (length l - 1) 0) c.as_mut_slice.ensures.value ∙ ap (λ (n : ℕ). set cut (n - 1) 0) size in
    let room : c.truncate.new.self.len ≡ length cut = search rules in
    let same : length written ≡ c.truncate.new.self.len =
    omega (arith, room, ap (λ (l : List ℕ). length l) is, length-set cut (len - 1) 0) in
    take_at written (drop (length written) cut) c.truncate.new.self.len same
    ∙ some_taken_off old c.self.invariant cut written c.args.count len within (omega (arith, all)) c.truncate.ensures.items is

pub invariant_of-self : goal.invariant_of-self
invariant_of-self c =
    let old = c.self.inside.bytes.items in
    let e = encoded_of old in
    is_part (bytes_of c) (take 9 old) (take (length e - c.args.count) e) (long_front old c.self.invariant) (left_of c)

pub returns : goal.returns
returns c =
    let old = c.self.inside.bytes.items in
    let e = encoded_of old in
    state_is (bytes_of c) (take 9 old) (take (length e - c.args.count) e) (long_front old c.self.invariant) (left_of c)
    ∙ ap (λ (part : LastState). record { front = part.front; encoded = take (length part.encoded - c.args.count) part.encoded }) c.self.view_is
