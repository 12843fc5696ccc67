-- One more call in the record of an in-memory disk.
use Rattle.std.proofs.Common.{◌≡◌, ℕ, List, [], ◌∷◌, ◌++◌, length, reverse, sym, ◌∙◌, ap, subst, arith, Result, Ok, Err, OnOk, OnErr, is_ok}
use Rattle.std.proofs.lemmas.List.{reverse-append, length-append}
use Rattle.definitions.specs.Disk.{Torn, IsWritten, Follows, LeavesAny, Elapses}
use Rattle.act_disk.specs.inner.Laid.{torn_refl, written_laid}
use Rattle.act_disk.specs.Past.{LeftSince}
use Rattle.act_disk.specs.inner.Past.{elapses_same, elapses_push}
use Rattle.act_disk.specs.Record.{Record, seen_after, LeftAfter, bytes_of, MayLeave, MayHaveLeft}
use Rattle.act_disk.specs.declared.call.Call.{Call}
use Rattle.act_disk.specs.declared.call.Call.TheVariants.{Write}

-- a consequence that holds for `Ok` and for `Err`
either : {T E R P Q : Type 0} (r : Result T E) → OnOk r P → OnErr r Q → (P → R) → (Q → R) → R
either (Ok x) p q f g = f p
either (Err e) p q f g = g q

-- a consequence at `Ok`, carried to another result of the same case
pub carried : {T E T' E' P R : Type 0} (r : Result T E) (s : Result T' E') → is_ok s ≡ is_ok r → OnOk r P → (P → R) → OnOk s R
carried (Ok x) (Ok y) same p f = f p
carried (Ok x) (Err d) same p f = absurd (cc same)
carried (Err e) (Ok y) same p f = absurd (cc same)
carried (Err e) (Err d) same p f = tt

pub reverse_push : (calls : List Call) (call : Call) → reverse (calls ++ call ∷ []) ≡ call ∷ reverse calls
reverse_push calls call = reverse-append calls (call ∷ [])

-- The calls come newest first.
module _ (first : List ℕ) (calls : List Call) where
  follows_same : (at n : ℕ) → Follows (Torn at n) (LeftAfter first calls) (LeftAfter first calls)
  follows_same at n = record { each = λ c left. (c, left, torn_refl at n c); keeps = λ c left. left }

  follows_write : (at : ℕ) (bytes : List ℕ)
      → Follows (Torn at (length bytes)) (LeftAfter first calls) (LeftAfter first (Write at bytes ∷ calls))
  follows_write at bytes = record { each = λ c left. left; keeps = λ c left. (c, left, torn_refl at (length bytes) c) }

  any_write : (at : ℕ) (bytes : List ℕ)
      → LeavesAny (Torn at (length bytes)) (LeftAfter first calls) (LeftAfter first (Write at bytes ∷ calls))
  any_write at bytes = λ d c left torn. (d, left, torn)

-- The calls come oldest first.
module _ (m n : Record) (first : n.first ≡ m.first) where
  abbrev Grown : Call → Type 0
  Grown call = n.calls ≡ m.calls ++ call ∷ []

  newest : (call : Call) → Grown call → reverse n.calls ≡ call ∷ reverse m.calls
  newest call grown = ap (λ (l : List Call). reverse l) grown ∙ reverse_push m.calls call

  -- moves a statement from the old first bytes and calls to those of the new disk
  at_new : (P : List ℕ → List Call → Type 0) (call : Call) → Grown call → P m.first (call ∷ reverse m.calls) → P n.first (reverse n.calls)
  at_new P call grown holds =
      subst (λ (f : List ℕ). P f (reverse n.calls)) (sym first) (subst (λ (l : List Call). P m.first l) (sym (newest call grown)) holds)

  at_same : (P : List ℕ → List Call → Type 0) → n.calls ≡ m.calls → P m.first (reverse m.calls) → P n.first (reverse n.calls)
  at_same P same holds =
      subst (λ (f : List ℕ). P f (reverse n.calls)) (sym first) (subst (λ (l : List Call). P m.first (reverse l)) (sym same) holds)

  pub written : (at : ℕ) (bytes : List ℕ) → Grown (Write at bytes) → IsWritten at bytes (bytes_of m) (bytes_of n)
  written at bytes grown =
      at_new (λ f calls. IsWritten at bytes (bytes_of m) (seen_after f calls)) (Write at bytes) grown (written_laid at bytes (bytes_of m))

  pub any : (at : ℕ) (bytes : List ℕ) → Grown (Write at bytes) → LeavesAny (Torn at (length bytes)) (MayLeave m) (MayLeave n)
  any at bytes grown =
      at_new (λ f calls. LeavesAny (Torn at (length bytes)) (MayLeave m) (LeftAfter f calls)) (Write at bytes) grown
      (any_write m.first (reverse m.calls) at bytes)

  module _ {T E : Type 0} (r : Result T E) where
    pub follows : (at : ℕ) (bytes : List ℕ) → OnOk r (Grown (Write at bytes)) → OnErr r (n.calls ≡ m.calls)
        → Follows (Torn at (length bytes)) (MayLeave m) (MayLeave n)
    follows at bytes ok err =
        let P : List ℕ → List Call → Type 0 = λ f calls. Follows (Torn at (length bytes)) (MayLeave m) (LeftAfter f calls) in
        either r ok err (λ grown. at_new P (Write at bytes) grown (follows_write m.first (reverse m.calls) at bytes))
        (λ same. at_same P same (follows_same m.first (reverse m.calls) at (length bytes)))

    pub elapses : (call : Call) → OnOk r (Grown call) → OnErr r (n.calls ≡ m.calls)
        → Elapses (length m.calls) (length n.calls) (MayHaveLeft m) (MayHaveLeft n) (MayLeave n)
    elapses call ok err = either r ok err pushed kept
      where
        pushed : Grown call → Elapses (length m.calls) (length n.calls) (MayHaveLeft m) (MayHaveLeft n) (MayLeave n)
        pushed grown =
            at_new (λ f calls. Elapses (length m.calls) (length n.calls) (MayHaveLeft m) (LeftSince (LeftAfter f) calls)
            (LeftAfter f calls)) call grown
            (elapses_push (LeftAfter m.first) call (reverse m.calls) (length m.calls) (length n.calls)
            (omega (arith, ap length grown, length-append m.calls (call ∷ []))))

        kept : n.calls ≡ m.calls → Elapses (length m.calls) (length n.calls) (MayHaveLeft m) (MayHaveLeft n) (MayLeave n)
        kept same =
            at_same (λ f calls. Elapses (length m.calls) (length n.calls) (MayHaveLeft m) (LeftSince (LeftAfter f) calls)
            (LeftAfter f calls)) same
            (subst (λ (k : ℕ). Elapses (length m.calls) k (MayHaveLeft m) (MayHaveLeft m) (MayLeave m)) (sym (ap length same))
            (elapses_same (LeftAfter m.first) (length m.calls) (reverse m.calls)))
