-- Zeros written after zeros.
use Rattle.std.proofs.Common.{◌≡◌, ◌+◌, ◌≤◌, ℕ, List, [], ◌++◌, length, drop, replicate, ◌∙◌, ap, arith, append_assoc}
use Rattle.std.proofs.lemmas.List.{append-nil, take_all, drop_all, replicate-append-replicate}
use Rattle.definitions.specs.Disk.{Torn, IsWritten, From, Follows, Elapses, EachSince}
use Rattle.act_disk.proofs.Kept.{written_is}
use Rattle.act_disk.proofs.Moments.{goes_on}
use Rattle.act_disk.proofs.WriteLemmas.{torn_within}

-- a write of zeros at the end appends them
pub zeros_more : (old mid new bytes : List ℕ) (at k count : ℕ) → mid ≡ old ++ replicate k 0 → at ≡ length mid → bytes ≡ replicate count 0
    → IsWritten at bytes mid new → new ≡ old ++ replicate (k + count) 0
zeros_more old mid new bytes at k count so_far end zeros written =
    let tail : drop (at + length bytes) mid ≡ [] = drop_all (at + length bytes) mid (omega (arith, end)) in
    written_is at bytes mid new (omega (arith, end)) written
    ∙ ap (λ (l : List ℕ). l ++ (bytes ++ drop (at + length bytes) mid)) (take_all at mid (omega (arith, end)))
    ∙ ap (λ (l : List ℕ). mid ++ (bytes ++ l)) tail
    ∙ ap (λ (l : List ℕ). mid ++ l) (append-nil bytes ∙ zeros)
    ∙ ap (λ (l : List ℕ). l ++ replicate count 0) so_far
    ∙ append_assoc old (replicate k 0) (replicate count 0)
    ∙ ap (λ (l : List ℕ). old ++ l) (replicate-append-replicate k count 0)

-- A disk that is extended: each image results from an earlier one by one write of n bytes past the old end.
module _ {D : Type 0} (moment : D → ℕ) (images_since : D → ℕ → List ℕ → Type 0) (images : D → List ℕ → Type 0) (end n : ℕ) (old : D) where
  abbrev Grown : List ℕ → Type 0
  Grown = From (Torn end n) (images old)

  -- all images since the start, and those at this moment
  pub record Grows (mid : D) : Type 0 where
    pub since : EachSince moment images_since old mid Grown
    pub now : (c : List ℕ) → images mid c → Grown c

  -- one more write, of a range past the old end
  pub grows_on : (mid new : D) (at count : ℕ) → end ≤ at → at + count ≤ end + n → Grows mid
      → Follows (Torn at count) (images mid) (images new)
      → Elapses (moment mid) (moment new) (images_since mid) (images_since new) (images new)
      → Grows new
  grows_on mid new at count from to so_far follows time =
      let here : (c : List ℕ) → images new c → Grown c =
      λ c left.
      let second = follows.each c left in
      let first = so_far.now second.0 second.1 in
      (first.0, first.1, torn_within end n at count first.0 second.0 c from to first.2 second.2) in
      record { since = goes_on moment images_since old mid new Grown (images new) so_far.since time here; now = here }
