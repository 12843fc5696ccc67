-- Several system reads in a row, as one read.
use Rattle.std.proofs.Common.{◌≡◌, ◌+◌, ◌-◌, ◌≤◌, ℕ, List, ◌∷◌, ◌++◌, length, take, drop, IsTrue, sym, ◌∙◌, ap, arith}
use Rattle.std.proofs.lemmas.List.{length-take-le, drop-drop, take-append-le, drop_at, take_at}
use Rattle.std.proofs.Math.Seq.{take-add}
use borrow.Rule.Slice.PartMut.{put_mid}
use Rattle.act_disk.specs.inner.Past.{elapses_push, elapses_then}
use Rattle.act_disk.specs.SystemCalls.{FileCall, Gave, is_sound, contents, MayLeave, MayHaveLeft, IsHonest}
use Rattle.act_disk.specs.inner.FileCalls.{Reads}

module _ (left : List ℕ → Type 0) (held : List ℕ) where
  pub read_more : (at : ℕ) (bytes : List ℕ) (old mid : List FileCall) → Reads left held old mid → Reads left held old (Gave at bytes ∷ mid)
  read_more at bytes old mid so_far =
      let new = Gave at bytes ∷ mid in record {
        same = so_far.same;
        images = so_far.images;
        passed =
            elapses_then (length old) (length mid) (length new) (MayHaveLeft left held old) (MayHaveLeft left held mid)
            (MayHaveLeft left held new) (MayLeave left held mid) (MayLeave left held new)
            so_far.passed (elapses_push (MayLeave left held) (Gave at bytes) mid (length mid) (length new) (omega arith)) (λ c now. now);
        honest = λ h. so_far.honest h.0;
        sound = so_far.sound;
      }

  -- what an honest read implies about the bytes that it returned
  pub gave_bytes : (at : ℕ) (bytes : List ℕ) (old mid : List FileCall) → Reads left held old mid → IsTrue (is_sound old)
      → IsHonest held (Gave at bytes ∷ mid)
      → bytes ≡ take (length bytes) (drop at (contents held old))
  gave_bytes at bytes old mid so_far sound honest =
      honest.1 (so_far.sound ∙ sound) ∙ ap (λ (l : List ℕ). take (length bytes) (drop at l)) so_far.same

-- the filled start of a buffer after one more read
pub filled_more : (at count k : ℕ) (buf new file : List ℕ) → count ≤ length buf → k ≤ length new
    → take count buf ≡ take count (drop at file) → take k new ≡ take (length (take k new)) (drop (at + count) file)
    → take (count + k) (put_mid count (length buf - count) buf new) ≡ take (count + k) (drop at file)
filled_more at count k buf new file within short first second =
    let n = length buf - count in
    let after = drop n (drop count buf) in
    let whole = take count buf ++ (new ++ after) in
    let size : length (take count buf) ≡ count = length-take-le count buf within in
    let begin : take count whole ≡ take count buf = take_at (take count buf) (new ++ after) count size in
    let suffix : drop count whole ≡ new ++ after = drop_at (take count buf) (new ++ after) count size in
    take-add count k whole
    ∙ ap (λ (l : List ℕ). l ++ take k (drop count whole)) (begin ∙ first)
    ∙ ap (λ (l : List ℕ). take count (drop at file) ++ take k l) suffix
    ∙ ap (λ (l : List ℕ). take count (drop at file) ++ l) (
    take-append-le k new after short ∙ second
    ∙ ap (λ (m : ℕ). take m (drop (at + count) file)) (length-take-le k new short)
    ∙ ap (λ (l : List ℕ). take k l) (sym (drop-drop count at file)))
    ∙ sym (take-add count k (drop at file))
