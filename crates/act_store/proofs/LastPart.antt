-- The bytes of the last part of a checkpoint.
use Rattle.std.proofs.Common.{◌≡◌, ℕ, ◌+◌, ◌-◌, ◌≤◌, ◌<◌, List, [], ◌∷◌, ◌++◌, length, take, drop, set, refl, sym, ◌∙◌, ap, subst, arith}
use Rattle.std.proofs.Common.{append_assoc, length-append, take-append-drop}
use Rattle.std.specs.Prelude.{Err, Ok, OnErr, OnOk, Result, flat_map, if◌then◌else◌, is_ok}
use Rattle.std.specs.Int.{to_be_bytes, w32}
use Rattle.std.proofs.lemmas.List.{append-nil, drop_at, length-set, length-take, nil_from_length}
use Rattle.std.proofs.lemmas.List.{take-take, take_all, take_at, take_more_set}
use Rattle.gated_journal.specs.Appends.{record_of}
use Rattle.definitions.specs.Area.{framed}
use Rattle.run_plan.specs.declared.command.Command.{Command}
use Rattle.command_encodings.specs.Commands.{batch, command_bytes}
use Rattle.act_store.specs.inner.LastPart.{IsLastPart, LastState, front_bytes, front_of, last_part, last_state, written_part, written_with}
use Rattle.act_store.specs.PendingBatch.{body_of, batch_state_of}
use Rattle.act_store.proofs.Records.{batch_body}

-- ---- the parts of the bytes

abbrev pub encoded_of : List ℕ → List ℕ
encoded_of bytes = take (length bytes - 10) (drop 9 bytes)

module _ (bytes front encoded : List ℕ) (nine : length front ≡ 9) (is : bytes ≡ front ++ (encoded ++ 0 ∷ [])) where
  front_is : take 9 bytes ≡ front
  front_is = ap (λ (l : List ℕ). take 9 l) is ∙ take_at front (encoded ++ 0 ∷ []) 9 nine

  size : length bytes ≡ 10 + length encoded
  size =
      omega (
        arith,
        nine,
        ap (λ (l : List ℕ). length l) is,
        length-append front (encoded ++ 0 ∷ []),
        length-append encoded (0 ∷ []),
      )

  encoded_is : encoded_of bytes ≡ encoded
  encoded_is =
      ap (λ (l : List ℕ). take (length bytes - 10) l) (ap (λ (l : List ℕ). drop 9 l) is ∙ drop_at front (encoded ++ 0 ∷ []) 9 nine)
      ∙ take_at encoded (0 ∷ []) (length bytes - 10) (omega (arith, size))

  pub state_is : last_state bytes ≡ record { front = front; encoded = encoded }
  state_is =
      ap (λ (l : List ℕ). record { front = l; encoded = encoded_of bytes }) front_is
      ∙ ap (λ (l : List ℕ). record { front = front; encoded = l }) encoded_is

  pub is_part : IsLastPart bytes
  is_part = record {
    long = omega (arith, size);
    is = is ∙ ap (λ (l : List ℕ). l ++ (encoded ++ 0 ∷ [])) (sym front_is)
        ∙ ap (λ (l : List ℕ). take 9 bytes ++ (l ++ 0 ∷ [])) (sym encoded_is);
  }

-- at most as many more
pub at_most : {T E : Type 0} (r : Result T E) (a b n : ℕ) → a ≡ (if is_ok r then b + n else b) → a ≤ b + n
at_most (Ok x) a b n is = omega (arith, is)
at_most (Err e) a b n is = omega (arith, is)

-- ---- one that changes

module _ (old : List ℕ) (part : IsLastPart old) where
  abbrev front : List ℕ
  front = take 9 old

  abbrev encoded : List ℕ
  encoded = encoded_of old

  pub long_front : length front ≡ 9
  long_front = omega (arith, length-take 9 old, part.long)

  pub long_encoded : length encoded ≡ length old - 10
  long_encoded =
      omega (
        arith,
        long_front,
        part.long,
        ap (λ (l : List ℕ). length l) part.is,
        length-append front (encoded ++ 0 ∷ []),
        length-append encoded (0 ∷ []),
      )

  before_gate : old ≡ (front ++ encoded) ++ 0 ∷ []
  before_gate = part.is ∙ sym (append_assoc front encoded (0 ∷ []))

  long_before : length (front ++ encoded) ≡ length old - 1
  long_before = omega (arith, length-append front encoded, long_front, long_encoded, part.long)

  whole_cut : (cut : List ℕ) → cut ≡ take (length old - 1) old → cut ≡ front ++ encoded
  whole_cut cut is =
      is ∙ ap (λ (l : List ℕ). take (length old - 1) l) before_gate ∙ take_at (front ++ encoded) (0 ∷ []) (length old - 1) long_before

  -- after the gate was taken off, bytes come, unless memory runs out, and a gate
  pub grown : {T E : Type 0} (r : Result T E) (cut out new more : List ℕ) → cut ≡ take (length old - 1) old
      → out ≡ (if is_ok r then cut ++ more else cut) → new ≡ out ++ 0 ∷ []
      → IsLastPart new × OnOk r (last_state new ≡ record { front = front; encoded = encoded ++ more }) × OnErr r (last_state new ≡ last_state old)
  grown (Ok x) cut out new more is_cut is_out is_new =
      let whole : new ≡ front ++ ((encoded ++ more) ++ 0 ∷ []) =
      is_new ∙ ap (λ (l : List ℕ). l ++ 0 ∷ []) (is_out ∙ ap (λ (l : List ℕ). l ++ more) (whole_cut cut is_cut))
      ∙ ap (λ (l : List ℕ). l ++ 0 ∷ []) (append_assoc front encoded more)
      ∙ append_assoc front (encoded ++ more) (0 ∷ []) in
      (is_part new front (encoded ++ more) long_front whole, state_is new front (encoded ++ more) long_front whole, tt)
  grown (Err e) cut out new more is_cut is_out is_new =
      let same : new ≡ old = is_new ∙ ap (λ (l : List ℕ). l ++ 0 ∷ []) (is_out ∙ whole_cut cut is_cut) ∙ sym before_gate in
      (subst (λ (l : List ℕ). IsLastPart l) (sym same) part, tt, ap (λ (l : List ℕ). last_state l) same)

  -- the last bytes of the encodings are cut off, and a gate stands there
  pub some_taken_off : (cut new : List ℕ) (count len : ℕ) → count ≤ length encoded → len ≡ length old - count → cut ≡ take len old
      → new ≡ set cut (len - 1) 0 → new ≡ front ++ (take (length encoded - count) encoded ++ 0 ∷ [])
  some_taken_off cut new count len within is_len is_cut is_new =
      let k = length encoded - count in
      let i = len - 1 in
      let long : len ≡ 10 + k = omega (arith, is_len, within, long_encoded, part.long) in
      let size : length cut ≡ len = omega (arith, ap (λ (l : List ℕ). length l) is_cut, length-take len old, is_len) in
      let some : length (front ++ take k encoded) ≡ i =
      omega (arith, length-append front (take k encoded), long_front, length-take k encoded, long) in
      let is : old ≡ (front ++ take k encoded) ++ (drop k encoded ++ 0 ∷ []) =
      part.is ∙ ap (λ (l : List ℕ). front ++ (l ++ 0 ∷ [])) (sym (take-append-drop k encoded))
      ∙ ap (λ (l : List ℕ). front ++ l) (append_assoc (take k encoded) (drop k encoded) (0 ∷ []))
      ∙ sym (append_assoc front (take k encoded) (drop k encoded ++ 0 ∷ [])) in
      let one : i + 1 ≡ len = omega (arith, long) in
      let first : take i cut ≡ front ++ take k encoded =
      ap (λ (l : List ℕ). take i l) is_cut ∙ take-take i len old (omega (arith, one))
      ∙ ap (λ (l : List ℕ). take i l) is ∙ take_at (front ++ take k encoded) (drop k encoded ++ 0 ∷ []) i some in
      is_new ∙ sym (take_all (i + 1) (set cut i 0) (omega (arith, length-set cut i 0, size, one)))
      ∙ take_more_set cut i 0 (omega (arith, size, long)) ∙ ap (λ (l : List ℕ). l ++ 0 ∷ []) first
      ∙ append_assoc front (take k encoded) (0 ∷ [])

  -- other bytes before the commands
  pub other_front : (new before : List ℕ) → new ≡ before ++ drop 9 old → new ≡ before ++ (encoded ++ 0 ∷ [])
  other_front new before is =
      is ∙ ap (λ (l : List ℕ). before ++ l)
      (ap (λ (l : List ℕ). drop 9 l) part.is ∙ drop_at front (encoded ++ 0 ∷ []) 9 long_front)

  -- ---- what is written

  pub gate_alone : length old ≡ 10 → take (length old - 9) (drop 9 old) ≡ written_part (last_state old)
  gate_alone short =
      let none : encoded ≡ [] = nil_from_length encoded (omega (arith, long_encoded, short)) in
      let behind : drop 9 old ≡ encoded ++ 0 ∷ [] = ap (λ (l : List ℕ). drop 9 l) part.is ∙ drop_at front (encoded ++ 0 ∷ []) 9 long_front in
      ap (λ (l : List ℕ). take (length old - 9) l) (behind ∙ ap (λ (l : List ℕ). l ++ 0 ∷ []) none)
      ∙ take_all (length old - 9) (0 ∷ []) (omega (arith, short))
      ∙ ap (λ (l : List ℕ). written_with front l) (sym none)

  all_of : (e : List ℕ) → 0 < length e → front ++ (e ++ 0 ∷ []) ≡ written_with front e
  all_of [] some = absurd (omega (arith, some))
  all_of (x ∷ xs) some = refl

  pub all_written : (length old ≡ 10 → ⊥) → old ≡ written_part (last_state old)
  all_written longer = part.is ∙ all_of encoded (omega (arith, longer, long_encoded, part.long))

-- ---- of commands

-- with the bytes before them filled in, it is the last part of its commands
pub last_is : (commands : List Command) (part : LastState) → part.encoded ≡ flat_map command_bytes commands
    → part.front ≡ front_of (length commands) part.encoded → written_part part ≡ last_part commands
last_is [] part encoded front = ap (λ (l : List ℕ). written_with part.front l) encoded
last_is (c ∷ cs) part encoded front =
    let n = length (c ∷ cs) in
    let e = flat_map command_bytes (c ∷ cs) in
    let body = body_of (batch_state_of (c ∷ cs)) in
    let long : 4 + length e ≡ length body = omega (arith, length-append (to_be_bytes w32 n) e, four n) in
    let whole : front_of n e ++ (e ++ 0 ∷ []) ≡ 0xA5 ∷ record_of body =
    ap (λ (k : ℕ). front_bytes k n ++ (e ++ 0 ∷ [])) long
    ∙ ap (λ (l : List ℕ). 0xA5 ∷ l) (append_assoc (to_be_bytes w32 (length body)) (to_be_bytes w32 n) (e ++ 0 ∷ [])
    ∙ ap (λ (l : List ℕ). to_be_bytes w32 (length body) ++ l) (sym (append_assoc (to_be_bytes w32 n) e (0 ∷ [])))
    ∙ sym (append_assoc (to_be_bytes w32 (length body)) body (0 ∷ []))) in
    ap (λ (l : List ℕ). written_with part.front l) encoded
    ∙ ap (λ (l : List ℕ). written_with l e) (front ∙ ap (λ (l : List ℕ). front_of n l) encoded)
    ∙ whole
    ∙ ap (λ (b : List ℕ). 0xA5 ∷ (framed b ++ 0 ∷ [])) (batch_body (c ∷ cs))
    ∙ ap (λ (l : List ℕ). 0xA5 ∷ (l ++ 0 ∷ [])) (sym (append-nil (framed (batch.encoding (c ∷ cs)))))
  where
    four : (k : ℕ) → length (to_be_bytes w32 k) ≡ 4
    four k = refl
