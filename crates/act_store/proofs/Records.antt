-- The bytes of a record of commands.
use Rattle.std.proofs.Common.{◌≡◌, ℕ, ◌+◌, ◌-◌, ◌<◌, ◌≤◌, List, [], ◌∷◌, ◌++◌, length, take, drop, Option, Some, None, refl, sym, subst, ◌∙◌, ap, arith}
use Rattle.std.proofs.Common.{length-append, length-drop, length-take-le}
use Rattle.std.specs.Prelude.{flat_map}
use Rattle.std.specs.Int.{to_be_bytes, w32}
use Rattle.std.proofs.lemmas.List.{append-nil, drop-append-le, drop-take, drop_at, take_at}
use Rattle.std.proofs.lemmas.List.Concat.{flat_map-append}
use Rattle.gated_journal.specs.Appends.{body_in, record_of}
use Rattle.run_plan.specs.declared.command.Command.{Command}
use Rattle.command_encodings.specs.Commands.{batch, command_bytes}
use Rattle.definitions.specs.Format.{word_bytes}
use Rattle.command_encodings.proofs.LengthLaws.{length_word}
use Rattle.act_store.specs.Plain.{batch_length}
use Rattle.act_store.specs.PendingBatch.{batch_state_of, body_of, with_command}
use Rattle.act_store.specs.inner.PendingRecord.{CountsFew, IsRecordOf, IsWithCommand, body_held, encoded_in}

pub word_is : (n : ℕ) → word_bytes n ≡ to_be_bytes w32 n
unfolding word_bytes
word_is n = refl

pub length_batch : (commands : List Command) → batch_length commands ≡ 4 + length (flat_map command_bytes commands)
length_batch commands =
    omega (arith, length-append (word_bytes (length commands)) (flat_map command_bytes commands), length_word (length commands))

pub length_record : (body : List ℕ) → length (record_of body) ≡ 5 + length body
length_record body =
    let number = to_be_bytes w32 (length body) in
    let four : length number ≡ 4 = refl in
    omega (arith, length-append (number ++ body) (0 ∷ []), length-append number body, four)

-- the body stands before the last byte
pub body_before_gate : (bytes : List ℕ) → 5 ≤ length bytes → body_in bytes ≡ drop 4 (take (length bytes - 1) bytes)
body_before_gate bytes long =
    let some : length bytes - 1 ≡ 4 + (length bytes - 5) = omega (arith, long) in
    sym (ap (λ (n : ℕ). drop 4 (take n bytes)) some ∙ drop-take 4 (length bytes - 5) bytes)

-- with one byte more, it is all that stood after the length
pub body_with_gate : (bytes : List ℕ) (gate : ℕ) → 4 ≤ length bytes → body_in (bytes ++ gate ∷ []) ≡ drop 4 bytes
body_with_gate bytes gate long =
    let size : length (bytes ++ gate ∷ []) ≡ length bytes + 1 = length-append bytes (gate ∷ []) in
    let rest : length (drop 4 bytes) ≡ length (bytes ++ gate ∷ []) - 5 = omega (arith, length-drop 4 bytes, size, long) in
    ap (λ (l : List ℕ). take (length (bytes ++ gate ∷ []) - 5) l) (drop-append-le 4 bytes (gate ∷ []) long)
    ∙ take_at (drop 4 bytes) (gate ∷ []) (length (bytes ++ gate ∷ []) - 5) rest

-- What extending the batch in these bytes says of the bytes after their length.
abbrev pub Counts : List ℕ → List ℕ → List ℕ → Type 0
Counts cut longer more = (count : ℕ) (rest : List ℕ) → count < 4294967295 → drop 4 cut ≡ word_bytes count ++ rest
    → drop 4 longer ≡ word_bytes (count + 1) ++ (rest ++ more)

-- a body with its count, as the bytes before the gate
framed_count : (bytes cut : List ℕ) (count : ℕ) → 5 ≤ length bytes → cut ≡ take (length bytes - 1) bytes
    → body_in bytes ≡ to_be_bytes w32 count ++ drop 4 (body_in bytes) → drop 4 cut ≡ word_bytes count ++ drop 4 (body_in bytes)
framed_count bytes cut count long is_cut counted =
    ap (λ (l : List ℕ). drop 4 l) is_cut ∙ sym (body_before_gate bytes long) ∙ counted
    ∙ ap (λ (l : List ℕ). l ++ drop 4 (body_in bytes)) (sym (word_is count))

-- how long they are after one more command
pub longer_by : (bytes cut longer more : List ℕ) → 9 ≤ length bytes → cut ≡ take (length bytes - 1) bytes → CountsFew (body_in bytes)
    → Counts cut longer more → length longer ≡ length cut + length more
longer_by bytes cut longer more long is_cut few counts =
    let count = few.0 in
    let rest = drop 4 (body_in bytes) in
    let was : drop 4 cut ≡ word_bytes count ++ rest = framed_count bytes cut count (omega (arith, long)) is_cut few.2 in
    let is : drop 4 longer ≡ word_bytes (count + 1) ++ (rest ++ more) = counts count rest few.1 was in
    let before : length cut ≡ length bytes - 1 = ap (λ (l : List ℕ). length l) is_cut ∙ length-take-le (length bytes - 1) bytes (omega arith) in
    omega (
      arith,
      long,
      before,
      ap (λ (l : List ℕ). length l) was,
      ap (λ (l : List ℕ). length l) is,
      length-drop 4 cut,
      length-drop 4 longer,
      length-append (word_bytes count) rest,
      length-append (word_bytes (count + 1)) (rest ++ more),
      length-append rest more,
      length_word count,
      length_word (count + 1),
    )

-- the body with one more command
pub body_longer : (bytes cut longer : List ℕ) (added : Command) (gate : ℕ) → 5 ≤ length bytes → cut ≡ take (length bytes - 1) bytes
    → Counts cut longer (command_bytes added) → IsWithCommand (body_in bytes) added (body_in (longer ++ gate ∷ []))
body_longer bytes cut longer added gate long is_cut counts = λ count few counted.
    let more = command_bytes added in
    let rest = drop 4 (body_in bytes) in
    let is : drop 4 longer ≡ word_bytes (count + 1) ++ (rest ++ more) = counts count rest few (framed_count bytes cut count long is_cut counted) in
    let after : 4 ≤ length longer =
    omega (
      arith,
      ap (λ (l : List ℕ). length l) is,
      length-drop 4 longer,
      length-append (word_bytes (count + 1)) (rest ++ more),
      length_word (count + 1),
    )
    in
    body_with_gate longer gate after ∙ is ∙ ap (λ (l : List ℕ). l ++ (rest ++ more)) (word_is (count + 1))

-- the count before the commands of a record, or of one without commands
counted_held : (held : Option (List ℕ)) (count : ℕ) (body : List ℕ) → IsRecordOf count held → body ≡ body_held held
    → (body ≡ to_be_bytes w32 count ++ drop 4 body) × (drop 4 body ≡ encoded_in held)
counted_held None count body none is =
    let first : to_be_bytes w32 0 ≡ to_be_bytes w32 count ++ drop 4 (to_be_bytes w32 0) =
    subst (λ (n : ℕ). to_be_bytes w32 0 ≡ to_be_bytes w32 n ++ drop 4 (to_be_bytes w32 0)) (sym none) refl in
    (subst (λ (l : List ℕ). l ≡ to_be_bytes w32 count ++ drop 4 l) (sym is) first, ap (λ (l : List ℕ). drop 4 l) is)
counted_held (Some was) count body counted is =
    (is ∙ counted ∙ ap (λ (l : List ℕ). to_be_bytes w32 count ++ drop 4 l) (sym is), ap (λ (l : List ℕ). drop 4 l) is)

-- the encodings after one more command
pub encoded_longer : (held : Option (List ℕ)) (count : ℕ) (added : Command) (body longer : List ℕ) → IsRecordOf count held → body ≡ body_held held
    → count < 4294967295 → IsWithCommand body added longer → drop 4 longer ≡ encoded_in held ++ command_bytes added
encoded_longer held count added body longer counted is few grows =
    let was = counted_held held count body counted is in
    ap (λ (l : List ℕ). drop 4 l) (grows count few was.0)
    ∙ drop_at (to_be_bytes w32 (count + 1)) (drop 4 body ++ command_bytes added) 4 refl
    ∙ ap (λ (l : List ℕ). l ++ command_bytes added) was.1

-- the pending commands and one more
pub commands_with : (commands : List Command) (more : Command)
    → flat_map command_bytes (commands ++ more ∷ []) ≡ flat_map command_bytes commands ++ command_bytes more
commands_with commands more =
    flat_map-append command_bytes commands (more ∷ [])
    ∙ ap (λ (l : List ℕ). flat_map command_bytes commands ++ l) (append-nil (command_bytes more))

pub length_with : (commands : List Command) (more : Command)
    → batch_length (commands ++ more ∷ []) ≡ (4 + length (flat_map command_bytes commands)) + length (command_bytes more)
length_with commands more =
    omega (
      arith,
      length_batch (commands ++ more ∷ []),
      ap (λ (l : List ℕ). length l) (commands_with commands more),
      length-append (flat_map command_bytes commands) (command_bytes more),
    )

-- the body of a record of commands is the encoding of their batch
pub batch_body : (commands : List Command) → body_of (batch_state_of commands) ≡ batch.encoding commands
batch_body commands = ap (λ (l : List ℕ). l ++ flat_map command_bytes commands) (sym (word_is (length commands)))

-- the pending commands with one more
pub waits_more : (commands : List Command) (more : Command) → with_command (batch_state_of commands) more ≡ batch_state_of (commands ++ more ∷ [])
waits_more commands more =
    ap (λ (n : ℕ). record { count = n; encoded = flat_map command_bytes commands ++ command_bytes more })
    (sym (length-append commands (more ∷ [])))
    ∙ ap (λ (l : List ℕ). record { count = length (commands ++ more ∷ []); encoded = l }) (sym (commands_with commands more))
