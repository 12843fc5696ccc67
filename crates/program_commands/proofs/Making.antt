-- What the making of a store has written.
use Rattle.std.proofs.Common.{◌≡◌, ◌∙◌, inl, inr, ℕ, List, take, drop, take-append-drop, Option}
use Rattle.std.proofs.Common.{Result, Ok, Err, IfErr, OnOk, refl, sym, arith}
use Rattle.std.specs.Io.KnownBytes.{Appends}
use Rattle.std.proofs.Math.Nat.{eq-zero-or-pos}
use Rattle.wf_value.specs.declared.refusal.Refusal.{Refusal}
use Rattle.act_disk.specs.Failed.{stream_failed}
use Rattle.program_commands.specs.Made.{Makes, made_line}

-- a disk on which a store was made was empty
pub was_empty : {T E : Type 0} (size : ℕ) (r : Result T E) (x : T) (e : E) → ((size ≡ 0 → ⊥) → r ≡ Err e) → r ≡ Ok x → size ≡ 0
was_empty size r x e occupied made = elim (eq-zero-or-pos size) [
  | inl zero ↦ zero
  | inr some ↦ absurd (let clash : Err e ≡ Ok x = sym (occupied (λ zero. absurd (omega (arith, zero, some)))) ∙ made in cc)
]

-- what is written once the store is made: all, or a prefix if the stream failed
pub made_of : {U : Type 0} (size : ℕ) (old new : Option (List ℕ)) (r : Result U Refusal) → size ≡ 0 → OnOk r (Appends old new made_line)
    → ((n : ℕ) × Appends old new (take n made_line)) → IfErr r (λ e. e ≡ stream_failed)
    → (out : List ℕ) × Appends old new out × Makes size out r
made_of size old new (Ok u) zero all prefix why = (made_line, all, (zero, refl))
made_of size old new (Err e) zero all prefix why = (
  take prefix.0 made_line,
  prefix.1,
  inr (inr (zero, why, drop prefix.0 made_line, take-append-drop prefix.0 made_line)),
)
