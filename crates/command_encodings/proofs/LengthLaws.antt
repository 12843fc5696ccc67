-- The length of an encoding is the sum over its fields.
use Rattle.std.proofs.Common.{◌≡◌, ℕ, suc, ◌+◌, List, [], ◌∷◌, ◌++◌, length, refl, sym, ◌∙◌, ap, arith}
use Rattle.std.proofs.Common.{length-append}
use Rattle.std.specs.Prelude.{flat_map, sum_by}
use Rattle.std.proofs.lemmas.List.Concat.{length-flat_map}
use Rattle.std.proofs.lemmas.List.Sums.{sum_by-cons}
use Rattle.wf_value.specs.declared.outcome.Outcome.{Outcome}
use Rattle.definitions.specs.SmallText.{Admitted}
use Rattle.run_plan.specs.declared.command.Command.{Command}
use Rattle.run_plan.specs.declared.command.Command.TheVariants as requested
use Rattle.command_encodings.specs.Commands.{admit, batch, command, command_bytes, labels, outcome_byte}
use Rattle.definitions.specs.Format.{text_bytes, word_bytes}
use Rattle.command_encodings.specs.Lengths.{batch_length, command_length, fields_length, length_of, text_length, texts_length}

pub length_word : (n : ℕ) → length (word_bytes n) ≡ 4
unfolding word_bytes
length_word n = refl

pub length_text : (t : List ℕ) → length (text_bytes t) ≡ text_length t
unfolding text_bytes
length_text t = length-append (word_bytes (length t)) t ∙ ap (λ n. n + length t) (length_word (length t))

-- two parts, one after the other
pub length_two : (a b : List ℕ) (m n : ℕ) → length a ≡ m → length b ≡ n → length (a ++ b) ≡ m + n
length_two a b m n one two = length-append a b ∙ ap (λ k. k + length b) one ∙ ap (λ k. m + k) two

pub sum_same : {X : Type 0} (f g : X → ℕ) (xs : List X) → ((x : X) → f x ≡ g x) → sum_by f xs ≡ sum_by g xs
sum_same f g [] same = refl
sum_same f g (x ∷ xs) same =
    sum_by-cons f x xs ∙ ap (λ k. k + sum_by f xs) (same x) ∙ ap (λ k. g x + k) (sum_same f g xs same) ∙ sym (sum_by-cons g x xs)

-- values of one format after their count
pub length_counted : {X : Type 0} (f : X → List ℕ) (g : X → ℕ) (xs : List X) → ((x : X) → length (f x) ≡ g x)
    → length (word_bytes (length xs) ++ flat_map f xs) ≡ 4 + sum_by g xs
length_counted f g xs same =
    length_two (word_bytes (length xs)) (flat_map f xs) 4 (sum_by g xs) (length_word (length xs))
    (length-flat_map f xs ∙ sum_same (λ x. length (f x)) g xs same)

pub length_labels : (texts : List (List ℕ)) → length (labels.encoding texts) ≡ texts_length texts
length_labels texts = length_counted text_bytes text_length texts length_text

-- the byte before others
pub after_one : (bytes : List ℕ) {n : ℕ} → length bytes ≡ n → suc (length bytes) ≡ 1 + n
after_one bytes h = omega (arith, h)

length_outcome : (r : Outcome) → length (outcome_byte r ∷ []) ≡ 1
length_outcome r = refl

-- the bytes after the kind byte of an admission
pub length_admit : (event : Admitted) → length (admit.encoding event) ≡ fields_length (requested.Admit event)
length_admit event =
    length_two (text_bytes event.delivery) (text_bytes event.event ++ text_bytes event.body) (text_length event.delivery)
    (text_length event.event + text_length event.body) (length_text event.delivery)
    (length_two (text_bytes event.event) (text_bytes event.body) (text_length event.event) (text_length event.body)
    (length_text event.event) (length_text event.body))
    ∙ omega arith

pub length_command : (c : Command) → length_of command c ≡ command_length c
length_command (requested.Admit event) = after_one _ (length_admit event)
length_command (requested.Claim requests) =
    after_one _
    (length_two (text_bytes requests.runner) (word_bytes requests.number ++ labels.encoding requests.labels) (text_length requests.runner)
    (4 + texts_length requests.labels) (length_text requests.runner)
    (length_two (word_bytes requests.number) (labels.encoding requests.labels) 4 (texts_length requests.labels) (length_word requests.number)
    (length_labels requests.labels))
    ∙ omega arith)
length_command (requested.Done report) =
    after_one _
    (length_two (text_bytes report.runner) (word_bytes report.number ++ (word_bytes report.lease ++ outcome_byte report.result ∷ []))
    (text_length report.runner)
    (4 + (4 + 1)) (length_text report.runner)
    (length_two (word_bytes report.number) (word_bytes report.lease ++ outcome_byte report.result ∷ []) 4 (4 + 1)
    (length_word report.number)
    (length_two (word_bytes report.lease) (outcome_byte report.result ∷ []) 4 1 (length_word report.lease) (length_outcome report.result)))
    ∙ omega arith)
length_command (requested.Beat requests) =
    after_one _ (length_two (text_bytes requests.runner) (word_bytes requests.lease) (text_length requests.runner) 4 (length_text requests.runner)
    (length_word requests.lease))
length_command (requested.Cancel run) = after_one _ (length_word run)
length_command (requested.Lost runner) = after_one _ (length_text runner)
length_command (requested.Look run) = after_one _ (length_word run)
length_command (requested.Fetch run) = after_one _ (length_word run)
length_command (requested.Rerun requests) =
    after_one _ (length_two (word_bytes requests.run) (word_bytes requests.attempt) 4 4 (length_word requests.run) (length_word requests.attempt))
length_command (requested.Forget run) = after_one _ (length_word run)
length_command (requested.Discharge runner) = after_one _ (length_text runner)

pub length_batch : (commands : List Command) → length_of batch commands ≡ batch_length commands
length_batch commands = length_counted command_bytes command_length commands length_command
