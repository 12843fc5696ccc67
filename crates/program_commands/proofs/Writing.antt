-- What a call has written, part by part.
use Rattle.std.proofs.Common.{◌≡◌, ◌⊎◌, inl, inr, ℕ, List, [], ◌++◌, take, drop, take-append-drop, Option, Result, Ok, Err, IfErr, OnOk}
use Rattle.std.proofs.Common.{refl, sym, ap, subst, ◌∙◌, append_assoc, append-nil}
use Rattle.std.specs.Io.KnownBytes.{Appends, Keeps}
use Rattle.std.specs.Prelude.{IsErrAnd}
use Rattle.std.proofs.KnownBytes.{Appends-nil, Appends-kept, Appends-trans}
use Rattle.wf_value.specs.Gives.{no_memory}
use Rattle.wf_value.specs.declared.refusal.Refusal.{Refusal}
use Rattle.act_disk.specs.Failed.{device_failed, stream_failed}
use Rattle.act_store.specs.FaultCauses.{TellsFault}
use Rattle.program_commands.specs.inner.Writes.{PrefixWritten, Writes}

-- one more part has been fully written
pub past_part : (out part more all : List ℕ) → out ++ (part ++ more) ≡ all → (out ++ part) ++ more ≡ all
past_part out part more all h = append_assoc out part more ∙ h

-- a prefix of one more part
within_part : (out prefix back part more all : List ℕ) → out ++ (part ++ more) ≡ all → prefix ++ back ≡ part
    → (out ++ prefix) ++ (back ++ more) ≡ all
within_part out prefix back part more all h joined =
    append_assoc out prefix (back ++ more)
    ∙ ap (λ x. out ++ x) (sym (append_assoc prefix back more) ∙ ap (λ x. x ++ more) joined)
    ∙ h

pub none_written : (old : Option (List ℕ)) (lines : List ℕ) → PrefixWritten old old lines
none_written old lines = ([], lines, Appends-nil old, refl)

-- after what has been written, a prefix of the next part
pub more_written : (old mid new : Option (List ℕ)) (out part more all : List ℕ) → Appends old mid out → out ++ (part ++ more) ≡ all
    → PrefixWritten mid new part → PrefixWritten old new all
more_written old mid new out part more all so_far h prefix = (
  out ++ prefix.0,
  prefix.1 ++ more,
  Appends-trans old mid new out prefix.0 so_far prefix.2,
  within_part out prefix.0 prefix.1 part more all h prefix.3,
)

-- a call that ends early
pub stopped : {U : Type 0} (old new : Option (List ℕ)) (lines : List ℕ) (r : Result U Refusal) (e : Refusal) → IsErrAnd r (λ f. f ≡ e)
    → (e ≡ stream_failed) ⊎ (e ≡ no_memory) → PrefixWritten old new lines → Writes old new lines r
stopped old new lines (Ok u) e is why prefix = absurd is
stopped old new lines (Err f) e is why prefix = (subst (λ x. (x ≡ stream_failed) ⊎ (x ≡ no_memory)) (sym is) why, prefix)

-- a text that was written by one call
pub whole_written : {U : Type 0} (old new : Option (List ℕ)) (bytes lines : List ℕ) (r : Result U Refusal) → bytes ≡ lines
    → OnOk r (Appends old new bytes) → ((n : ℕ) × Appends old new (take n bytes)) → IfErr r (λ e. e ≡ stream_failed)
    → Writes old new lines r
whole_written old new bytes lines (Ok u) same all prefix why = subst (Appends old new) same all
whole_written old new bytes lines (Err e) same all prefix why =
    (inl why, (take prefix.0 bytes, drop prefix.0 bytes, prefix.1, take-append-drop prefix.0 bytes ∙ same))

-- all is written, and the writer is flushed
pub flushed : {U : Type 0} (old mid new : Option (List ℕ)) (lines : List ℕ) (r : Result U Refusal) → Appends old mid lines
    → Keeps mid new → IfErr r (λ e. e ≡ stream_failed) → Writes old new lines r
flushed old mid new lines (Ok u) all kept why = Appends-kept old mid new lines all kept
flushed old mid new lines (Err e) all kept why = (inl why, (lines, [], Appends-kept old mid new lines all kept, append-nil lines))

-- a failed stream and out of memory are no failures of the device
pub no_fault : (e : Refusal) → (e ≡ stream_failed) ⊎ (e ≡ no_memory) → e ≡ device_failed → ⊥
no_fault e (inl stream) device = let clash : stream_failed ≡ device_failed = sym stream ∙ device in cc
no_fault e (inr memory) device = let clash : no_memory ≡ device_failed = sym memory ∙ device in cc

pub written_faults : {U : Type 0} (old new : Option (List ℕ)) (lines : List ℕ) (r : Result U Refusal) (before after : ℕ)
    → Writes old new lines r → after ≡ before → TellsFault r before after
written_faults old new lines (Ok u) before after writes same = same
written_faults old new lines (Err e) before after writes same = inr (no_fault e writes.0, same)

-- memory alone refuses what has no other reason to be refused
pub memory_alone : {X : Type 0} (e : Refusal) (x : X) → (e ≡ no_memory) ⊎ (◌≡◌ {A = Result X Refusal} (Ok x) (Err e))
    → (e ≡ stream_failed) ⊎ (e ≡ no_memory)
memory_alone e x (inl memory) = inr memory
memory_alone e x (inr refused) = absurd cc
