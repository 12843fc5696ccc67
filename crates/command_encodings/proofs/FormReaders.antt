-- Readers of one byte, of a value that is there, of values whose format depends on those before, and of a row of
-- values.
use Rattle.std.proofs.Common.{◌≡◌, ℕ, List, [], ◌∷◌, ◌++◌, refl, sym, ◌∙◌, ap, subst, append_assoc}
use Rattle.std.specs.Prelude.{Option, None, Some}
use Rattle.std.proofs.lemmas.Option.{same_Some, none-some}
use Rattle.definitions.specs.Format.{Format, byte, follow, present, row}
use Rattle.command_encodings.specs.inner.Reading.{◌>>=◌, Reader, byte_at, follow_at, items_at, present_at}
use Rattle.wf_value.proofs.Bytes.{AreBytes, AreBytes-drop}
use Rattle.command_encodings.proofs.Readers.{Prefixes, Reads, bind_some, some_bind, items_sound, items_complete}

byte_sound : (bytes : List ℕ) (found : ℕ × List ℕ) → AreBytes bytes → byte_at bytes ≡ Some found → Prefixes byte bytes found
unfolding byte_at
byte_sound [] found are h = absurd (none-some found h)
byte_sound (b ∷ rest) found are h =
    subst (λ (q : ℕ × List ℕ). Prefixes byte (b ∷ rest) q) (same_Some (b, rest) found h) (record {
      takes = are 0;
      split = refl;
      rest = AreBytes-drop 1 (b ∷ rest) are;
    })

pub byte_reads : Reads byte byte_at
unfolding byte_at
byte_reads = record { sound = byte_sound; complete = λ b rest fits. refl }

present_found : {A : Type 0} (format : Format A) (at : Reader A) → Reads format at → (o : Option A) (rest : List ℕ)
    → (present format).Takes o → present_at at ((present format).encoding o ++ rest) ≡ Some (o, rest)
present_found format at reads None rest takes = absurd takes
present_found format at reads (Some x) rest takes =
    some_bind (at (format.encoding x ++ rest)) (λ a. Some (Some a.0, a.1)) (x, rest) (reads.complete x rest takes)

pub present_reads : {A : Type 0} (format : Format A) (at : Reader A) → Reads format at → Reads (present format) (present_at at)
present_reads {A} format at reads = record {
  sound = λ bytes found are h.
      let step = bind_some (at bytes) (λ a. Some (Some a.0, a.1)) found h in
      let a = step.0 in
      let prefix = reads.sound bytes a are step.1 in
      subst (λ (q : Option A × List ℕ). Prefixes (present format) bytes q) (same_Some (Some a.0, a.1) found step.2) (record {
        takes = prefix.takes;
        split = prefix.split;
        rest = prefix.rest;
      });
  complete = λ o rest takes. present_found format at reads o rest takes;
}

pub follow_reads : {A B : Type 0} (first : Format A) (second : A → Format B) (first_at : Reader A) (second_at : A → Reader B)
    → Reads first first_at
    → ((a : A) → Reads (second a) (second_at a)) → Reads (follow first second) (follow_at first_at second_at)
follow_reads {A} {B} first second first_at second_at one other = record {
  sound = λ bytes found are h.
      let step = bind_some (first_at bytes) (λ a. second_at a.0 a.1 >>= (λ b. Some ((a.0, b.0), b.1))) found h in
      let a = step.0 in
      let prefix = one.sound bytes a are step.1 in
      let next = bind_some (second_at a.0 a.1) (λ b. Some ((a.0, b.0), b.1)) found step.2 in
      let b = next.0 in
      let suffix = (other a.0).sound a.1 b prefix.rest next.1 in
      subst (λ (q : (A × B) × List ℕ). Prefixes (follow first second) bytes q) (same_Some ((a.0, b.0), b.1) found next.2) (record {
        takes = (prefix.takes, suffix.takes);
        split = prefix.split
            ∙ ap (λ (l : List ℕ). first.encoding a.0 ++ l) suffix.split
            ∙ sym (append_assoc (first.encoding a.0) ((second a.0).encoding b.0) b.1);
        rest = suffix.rest;
      });
  complete = λ p rest fits.
      let suffix : List ℕ = (second p.0).encoding p.1 ++ rest in
      ap (follow_at first_at second_at) (append_assoc (first.encoding p.0) ((second p.0).encoding p.1) rest)
      ∙ some_bind (first_at (first.encoding p.0 ++ suffix)) (λ a. second_at a.0 a.1 >>= (λ b. Some ((a.0, b.0), b.1))) (p.0, suffix)
      (one.complete p.0 suffix fits.0)
      ∙ some_bind (second_at p.0 suffix) (λ b. Some ((p.0, b.0), b.1)) (p.1, rest) ((other p.0).complete p.1 rest fits.1);
}

pub row_reads : {A : Type 0} (n : ℕ) (format : Format A) (at : Reader A) → Reads format at → Reads (row n format) (items_at at n)
row_reads {A} n format at reads = record {
  sound = λ bytes found are h.
      let items = items_sound format at reads n bytes found are h in
      record {
        takes = (items.many, items.takes);
        split = items.split;
        rest = items.rest;
      };
  complete = λ xs rest fits.
      ap (λ k. items_at at k ((row n format).encoding xs ++ rest)) (sym fits.0) ∙ items_complete format at reads xs rest fits.1;
}
