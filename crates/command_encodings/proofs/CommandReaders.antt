-- Reading of commands and batches finds exactly what is encoded.
use Rattle.std.proofs.Common.{◌≡◌, inl, inr, ℕ, List, [], ◌∷◌, ◌++◌, refl, sym, ◌∙◌, ap, subst, arith}
use Rattle.std.specs.Prelude.{◌==◌, ◌⊎◌, Bool, true, false, Option, Some, None, if◌then◌else◌}
use Rattle.std.proofs.lemmas.Bool.{eqb-true}
use Rattle.std.proofs.lemmas.Option.{same_Some, none-some}
use Rattle.wf_value.specs.declared.outcome.Outcome.{Outcome}
use Rattle.wf_value.specs.declared.outcome.Outcome.TheVariants as ended
use Rattle.definitions.specs.SmallText.{Admitted, is_short, is_delivery_byte, is_event_byte, is_runner_byte, is_label_byte}
use Rattle.run_plan.specs.declared.command.Attempt.{Attempt}
use Rattle.run_plan.specs.declared.command.Beat.{Beat}
use Rattle.run_plan.specs.declared.command.Claim.{Claim}
use Rattle.run_plan.specs.declared.command.Done.{Done}
use Rattle.run_plan.specs.declared.command.Command.{Command}
use Rattle.run_plan.specs.declared.command.Command.TheVariants as requested
use Rattle.definitions.specs.Format.{Format, word, text, pair}
use Rattle.command_encodings.specs.Commands.{is_numbered, number, small_text, labels, is_faultless, body, outcome_byte, outcome, admit, claim}
use Rattle.command_encodings.specs.Commands.{done, beat, rerun, IsEncoded, command_bytes, command, batch}
use Rattle.command_encodings.specs.inner.Reading.{Reader, word_at, text_at, pair_at, parts_at}
use Rattle.command_encodings.specs.inner.ReadingCommands.{number_at, small_text_at, labels_at, body_at, result_of, result_at, admit_at, claim_at}
use Rattle.command_encodings.specs.inner.ReadingCommands.{done_at, beat_at, rerun_at, command_of, command_at, batch_at}
use Rattle.wf_value.proofs.Bytes.{AreBytes, AreBytes-drop}
use Rattle.command_encodings.proofs.Readers.{Prefixes, Reads, bind_some, some_bind, word_reads, text_reads, only_reads, pair_reads, parts_reads}
use Rattle.command_encodings.proofs.Readers.{counted_reads}

pub number_reads : Reads number number_at
unfolding number_at
number_reads = only_reads is_numbered word word_at word_reads

pub small_text_reads : (kind : ℕ → Bool) → Reads (small_text kind) (small_text_at kind)
unfolding small_text_at
small_text_reads kind = only_reads (is_short kind) text text_at text_reads

pub labels_reads : Reads labels labels_at
unfolding labels_at
labels_reads = counted_reads 1 16 (small_text is_label_byte) (small_text_at is_label_byte) (omega arith) (small_text_reads is_label_byte)

pub body_reads : Reads body body_at
unfolding body_at
body_reads = only_reads is_faultless text text_at text_reads

-- one of two cases
pub chosen : {A : Type 0} (b : Bool) (x y z : A) → (if b then x else y) ≡ z → ((b ≡ true) × (x ≡ z)) ⊎ ((b ≡ false) × (y ≡ z))
chosen true x y z h = inl (refl, h)
chosen false x y z h = inr (refl, h)

result_sound : (byte : ℕ) (r : Outcome) → result_of byte ≡ Some r → byte ≡ outcome_byte r
result_sound byte r h =
    elim (chosen (byte == 1) (Some ended.Success)
    (if byte == 2 then Some ended.Failure else (if byte == 3 then Some ended.Cancelled else None)) (Some r) h) [
      | inl one ↦ subst (λ (q : Outcome). byte ≡ outcome_byte q) (same_Some ended.Success r one.1) (eqb-true byte 1 one.0)
      | inr other ↦ elim (chosen (byte == 2) (Some ended.Failure) (if byte == 3 then Some ended.Cancelled else None) (Some r) other.1) [
        | inl two ↦ subst (λ (q : Outcome). byte ≡ outcome_byte q) (same_Some ended.Failure r two.1) (eqb-true byte 2 two.0)
        | inr third ↦ elim (chosen (byte == 3) (Some ended.Cancelled) None (Some r) third.1) [
          | inl three ↦ subst (λ (q : Outcome). byte ≡ outcome_byte q) (same_Some ended.Cancelled r three.1) (eqb-true byte 3 three.0)
          | inr none ↦ absurd (none-some r none.1)
        ]
      ]
    ]

result_finds : (bytes : List ℕ) (found : Outcome × List ℕ) → AreBytes bytes → result_at bytes ≡ Some found → Prefixes outcome bytes found
unfolding result_at
result_finds [] found are h = absurd (none-some found h)
result_finds (byte ∷ rest) found are h =
    let step = bind_some (result_of byte) (λ r. Some (r, rest)) found h in
    subst (λ (q : Outcome × List ℕ). Prefixes outcome (byte ∷ rest) q) (same_Some (step.0, rest) found step.2) (record {
      takes = tt;
      split = ap (λ (b : ℕ). b ∷ rest) (result_sound byte step.0 step.1);
      rest = AreBytes-drop 1 (byte ∷ rest) are;
    })

result_found : (r : Outcome) (rest : List ℕ) → result_at (outcome_byte r ∷ rest) ≡ Some (r, rest)
unfolding result_at
result_found ended.Success rest = refl
result_found ended.Failure rest = refl
result_found ended.Cancelled rest = refl

pub result_reads : Reads outcome result_at
result_reads = record { sound = result_finds; complete = λ r rest fits. result_found r rest }

pub admit_reads : Reads admit admit_at
unfolding admit_at
admit_reads =
    parts_reads (λ (a : Admitted). (a.delivery, (a.event, a.body)))
    (λ (p : List ℕ × (List ℕ × List ℕ)). record { delivery = p.0; event = p.1.0; body = p.1.1 })
    (pair (small_text is_delivery_byte) (pair (small_text is_event_byte) body))
    (pair_at (small_text_at is_delivery_byte) (pair_at (small_text_at is_event_byte) body_at))
    (λ _. refl) (λ _. refl)
    (pair_reads (small_text is_delivery_byte) (pair (small_text is_event_byte) body) (small_text_at is_delivery_byte)
    (pair_at (small_text_at is_event_byte) body_at)
    (small_text_reads is_delivery_byte) (pair_reads (small_text is_event_byte) body (small_text_at is_event_byte) body_at
    (small_text_reads is_event_byte) body_reads))

pub claim_reads : Reads claim claim_at
unfolding claim_at
claim_reads =
    parts_reads (λ (c : Claim). (c.runner, (c.number, c.labels)))
    (λ (p : List ℕ × (ℕ × List (List ℕ))). record { runner = p.0; number = p.1.0; labels = p.1.1 })
    (pair (small_text is_runner_byte) (pair number labels))
    (pair_at (small_text_at is_runner_byte) (pair_at number_at labels_at))
    (λ _. refl) (λ _. refl)
    (pair_reads (small_text is_runner_byte) (pair number labels) (small_text_at is_runner_byte) (pair_at number_at labels_at)
    (small_text_reads is_runner_byte) (pair_reads number labels number_at labels_at number_reads labels_reads))

pub done_reads : Reads done done_at
unfolding done_at
done_reads =
    parts_reads (λ (d : Done). (d.runner, (d.number, (d.lease, d.result))))
    (λ (p : List ℕ × (ℕ × (ℕ × Outcome))). record { runner = p.0; number = p.1.0; lease = p.1.1.0; result = p.1.1.1 })
    (pair (small_text is_runner_byte) (pair number (pair number outcome)))
    (pair_at (small_text_at is_runner_byte) (pair_at number_at (pair_at number_at result_at)))
    (λ _. refl) (λ _. refl)
    (pair_reads (small_text is_runner_byte) (pair number (pair number outcome)) (small_text_at is_runner_byte)
    (pair_at number_at (pair_at number_at result_at))
    (small_text_reads is_runner_byte)
    (pair_reads number (pair number outcome) number_at (pair_at number_at result_at) number_reads
    (pair_reads number outcome number_at result_at number_reads result_reads)))

pub beat_reads : Reads beat beat_at
unfolding beat_at
beat_reads =
    parts_reads (λ (b : Beat). (b.runner, b.lease)) (λ (p : List ℕ × ℕ). record { runner = p.0; lease = p.1 })
    (pair (small_text is_runner_byte) number) (pair_at (small_text_at is_runner_byte) number_at) (λ _. refl) (λ _. refl)
    (pair_reads (small_text is_runner_byte) number (small_text_at is_runner_byte) number_at (small_text_reads is_runner_byte) number_reads)

pub rerun_reads : Reads rerun rerun_at
unfolding rerun_at
rerun_reads =
    parts_reads (λ (a : Attempt). (a.run, a.attempt)) (λ (p : ℕ × ℕ). record { run = p.0; attempt = p.1 })
    (pair number number) (pair_at number_at number_at) (λ _. refl) (λ _. refl)
    (pair_reads number number number_at number_at number_reads number_reads)

-- reading a command of a kind, after its byte
kind_sound : {A : Type 0} (kind : ℕ) (format : Format A) (at : Reader A) (made : A → Command) → Reads format at
    → ((x : A) → format.Takes x → IsEncoded (made x)) → ((x : A) → command_bytes (made x) ≡ kind ∷ format.encoding x)
    → (rest : List ℕ) (found : Command × List ℕ) → AreBytes rest → parts_at made at rest ≡ Some found → Prefixes command (kind ∷ rest) found
kind_sound kind format at made reads takes encoded rest found are h =
    let step = bind_some (at rest) (λ x. Some (made x.0, x.1)) found h in
    let x = step.0 in
    let prefix = reads.sound rest x are step.1 in
    subst (λ (q : Command × List ℕ). Prefixes command (kind ∷ rest) q) (same_Some (made x.0, x.1) found step.2) (record {
      takes = takes x.0 prefix.takes;
      split = ap (λ (l : List ℕ). kind ∷ l) prefix.split ∙ ap (λ (l : List ℕ). l ++ x.1) (sym (encoded x.0));
      rest = prefix.rest;
    })

kind_complete : {A : Type 0} (format : Format A) (at : Reader A) (made : A → Command) → Reads format at → (x : A) (rest : List ℕ)
    → format.Takes x
    → parts_at made at (format.encoding x ++ rest) ≡ Some (made x, rest)
kind_complete format at made reads x rest fits =
    some_bind (at (format.encoding x ++ rest)) (λ y. Some (made y.0, y.1)) (x, rest) (reads.complete x rest fits)

-- reading a command if the byte is of this kind, and otherwise as the other kinds read it
kind_or : {A : Type 0} (this : ℕ) (format : Format A) (at : Reader A) (made : A → Command) → Reads format at
    → ((x : A) → format.Takes x → IsEncoded (made x)) → ((x : A) → command_bytes (made x) ≡ this ∷ format.encoding x)
    → (kind : ℕ) (rest : List ℕ) (found : Command × List ℕ) (others : Option (Command × List ℕ)) → AreBytes rest
    → (if kind == this then parts_at made at rest else others) ≡ Some found
    → (others ≡ Some found → Prefixes command (kind ∷ rest) found) → Prefixes command (kind ∷ rest) found
kind_or this format at made reads takes encoded kind rest found others are h left =
    elim (chosen (kind == this) (parts_at made at rest) others (Some found) h) [
      | inl is ↦ subst (λ (k : ℕ). Prefixes command (k ∷ rest) found) (sym (eqb-true kind this is.0))
          (kind_sound this format at made reads takes encoded rest found are is.1)
      | inr isnt ↦ left isnt.1
    ]

kinds_sound : (kind : ℕ) (rest : List ℕ) (found : Command × List ℕ) → AreBytes rest → command_of kind rest ≡ Some found
    → Prefixes command (kind ∷ rest) found
unfolding command_of
kinds_sound kind rest found are h =
    kind_or 1 admit admit_at (λ (a : Admitted). requested.Admit a) admit_reads (λ x t. t) (λ _. refl) kind rest found _ are h (λ h2.
    kind_or 2 claim claim_at (λ (c : Claim). requested.Claim c) claim_reads (λ x t. t) (λ _. refl) kind rest found _ are h2 (λ h3.
    kind_or 3 done done_at (λ (d : Done). requested.Done d) done_reads (λ x t. t) (λ _. refl) kind rest found _ are h3 (λ h4.
    kind_or 4 beat beat_at (λ (b : Beat). requested.Beat b) beat_reads (λ x t. t) (λ _. refl) kind rest found _ are h4 (λ h5.
    kind_or 5 number number_at (λ (n : ℕ). requested.Cancel n) number_reads (λ x t. t) (λ _. refl) kind rest found _ are h5 (λ h6.
    kind_or 6 (small_text is_runner_byte) (small_text_at is_runner_byte) (λ (r : List ℕ). requested.Lost r)
    (small_text_reads is_runner_byte) (λ x t. t) (λ _. refl) kind rest found _ are h6 (λ h7.
    kind_or 7 number number_at (λ (n : ℕ). requested.Look n) number_reads (λ x t. t) (λ _. refl) kind rest found _ are h7 (λ h8.
    kind_or 8 number number_at (λ (n : ℕ). requested.Fetch n) number_reads (λ x t. t) (λ _. refl) kind rest found _ are h8 (λ h9.
    kind_or 9 rerun rerun_at (λ (a : Attempt). requested.Rerun a) rerun_reads (λ x t. t) (λ _. refl) kind rest found _ are h9 (λ h12.
    kind_or 12 number number_at (λ (n : ℕ). requested.Forget n) number_reads (λ x t. t) (λ _. refl) kind rest found _ are h12 (λ h13.
    kind_or 13 (small_text is_runner_byte) (small_text_at is_runner_byte) (λ (r : List ℕ). requested.Discharge r)
    (small_text_reads is_runner_byte) (λ x t. t) (λ _. refl) kind rest found _ are h13
    (λ none. absurd (none-some found none))))))))))))

command_finds : (bytes : List ℕ) (found : Command × List ℕ) → AreBytes bytes → command_at bytes ≡ Some found → Prefixes command bytes found
unfolding command_at
command_finds [] found are h = absurd (none-some found h)
command_finds (kind ∷ rest) found are h = kinds_sound kind rest found (AreBytes-drop 1 (kind ∷ rest) are) h

command_found : (c : Command) (rest : List ℕ) → IsEncoded c → command_at (command_bytes c ++ rest) ≡ Some (c, rest)
unfolding command_at command_of
command_found (requested.Admit event) rest fits = kind_complete admit admit_at (λ (a : Admitted). requested.Admit a) admit_reads event rest fits
command_found (requested.Claim requests) rest fits = kind_complete claim claim_at (λ (c : Claim). requested.Claim c) claim_reads requests rest fits
command_found (requested.Done report) rest fits = kind_complete done done_at (λ (d : Done). requested.Done d) done_reads report rest fits
command_found (requested.Beat requests) rest fits = kind_complete beat beat_at (λ (b : Beat). requested.Beat b) beat_reads requests rest fits
command_found (requested.Cancel run) rest fits = kind_complete number number_at (λ (n : ℕ). requested.Cancel n) number_reads run rest fits
command_found (requested.Lost runner) rest fits =
    kind_complete (small_text is_runner_byte) (small_text_at is_runner_byte) (λ (r : List ℕ). requested.Lost r)
    (small_text_reads is_runner_byte) runner rest fits
command_found (requested.Fetch run) rest fits = kind_complete number number_at (λ (n : ℕ). requested.Fetch n) number_reads run rest fits
command_found (requested.Rerun requests) rest fits = kind_complete rerun rerun_at (λ (a : Attempt). requested.Rerun a) rerun_reads requests rest fits
command_found (requested.Look run) rest fits = kind_complete number number_at (λ (n : ℕ). requested.Look n) number_reads run rest fits
command_found (requested.Forget run) rest fits = kind_complete number number_at (λ (n : ℕ). requested.Forget n) number_reads run rest fits
command_found (requested.Discharge runner) rest fits =
    kind_complete (small_text is_runner_byte) (small_text_at is_runner_byte) (λ (r : List ℕ). requested.Discharge r)
    (small_text_reads is_runner_byte) runner rest fits

pub command_reads : Reads command command_at
command_reads = record { sound = command_finds; complete = command_found }

pub batch_reads : Reads batch batch_at
unfolding batch_at
batch_reads = counted_reads 1 4294967295 command command_at (omega arith) command_reads
