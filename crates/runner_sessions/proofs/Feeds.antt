-- The position of the first line feed in a session's bytes.
use Rattle.std.proofs.Common.{◌≡◌, ◌≢◌, ℕ, ◌+◌, ◌<◌, ◌≤◌, List, [], ◌∷◌, ◌++◌, length, take, drop, Bool, true, false, cond, Option, Some, None, refl, sym, ap, subst, ◌∙◌, ◌==◌, append_assoc, take-append-drop, length-take, length-drop, arith}
use Rattle.std.specs.Prelude.{min, nat_lt, not, option_map, slice_index_or}
use Rattle.std.proofs.Math.Dec.{ltb}
use Rattle.std.specs.List.{position, position_or_len}
use Rattle.std.proofs.lemmas.Bool.Decides.{nat_tests}
use Rattle.std.proofs.lemmas.List.{get_or-take, take-take, take_more}
use Rattle.std.proofs.lemmas.List.Elements.{All-tail}
use Rattle.std.proofs.lemmas.List.Quantifiers.{position-Some}
use Rattle.std.proofs.lemmas.List.Sums.{fails_before_first}
use Rattle.act_sessions.specs.declared.request.Progress.{Progress}
use Rattle.runner_sessions.specs.Line.{HasNoFeed, LineKnown}

abbrev pub is_feed : ℕ → Bool
is_feed b = b == 10

no_feed : (b : ℕ) → is_feed b ≡ false → b ≢ 10
no_feed b absent e = let yes = ap is_feed e in cc

-- the first line feed is at i
pub record FirstAt (bytes : List ℕ) (i : ℕ) : Type 0 where
  pub within : i < length bytes
  pub short : i < 512
  pub none : HasNoFeed (take i bytes)
  pub cut : bytes ≡ take i bytes ++ 10 ∷ drop (i + 1) bytes

pub first_at : (bytes : List ℕ) (m i : ℕ) → m ≤ 512 → m ≤ length bytes → position is_feed (take m bytes) ≡ Some i → FirstAt bytes i
first_at bytes m i most fits e =
    let found = position-Some is_feed (take m bytes) i 0 e in
    let less : i < m = let l = length-take m bytes in let f = found.0 in omega arith in
    let feed : slice_index_or bytes i 0 ≡ 10 = let is = found.1 in let same = get_or-take m bytes i 0 less in grind (arith, nat_tests) in
    record {
      within = omega arith;
      short = omega arith;
      none = λ k d h.
          let below : k < i = let l = length-take i bytes in omega arith in
          no_feed (slice_index_or (take i bytes) k d)
          (ap is_feed (get_or-take i bytes k d below ∙ sym (get_or-take m bytes k d (omega arith))) ∙ (position-Some is_feed (take m bytes) i d e).2 k below);
      cut = sym (take-append-drop (i + 1) bytes) ∙ ap (λ l. l ++ drop (i + 1) bytes) (take_more bytes i 0 (omega arith))
          ∙ append_assoc (take i bytes) (slice_index_or bytes i 0 ∷ []) (drop (i + 1) bytes) ∙ ap (λ b. take i bytes ++ b ∷ drop (i + 1) bytes) feed;
    }

not_found : (b : Bool) (i : ℕ) → cond b (Some i) None ≡ None → b ≡ false
not_found true i e = cc
not_found false i e = refl

pub nowhere : (bytes : List ℕ) → position is_feed bytes ≡ None → HasNoFeed bytes
nowhere bytes e k d h =
    let past : length bytes ≤ position_or_len is_feed bytes =
    let t : ltb (position_or_len is_feed bytes) (length bytes) ≡ false = not_found _ _ e in grind (arith, nat_tests) in
    no_feed (slice_index_or bytes k d) (fails_before_first is_feed bytes k d (omega arith))

-- ---- bytes whose start contains no line feed

not_feed : (b : ℕ) → b ≢ 10 → is_feed b ≡ false
not_feed b other = grind (arith, nat_tests)

feeds_after : (a b : List ℕ) → HasNoFeed a → position_or_len is_feed (a ++ b) ≡ length a + position_or_len is_feed b
feeds_after [] b none = omega arith
feeds_after (c ∷ a) b none =
    let other : is_feed c ≡ false = not_feed c (none 0 0 (omega arith)) in
    let rest = feeds_after a b (All-tail (λ x. x ≢ 10) c a none) in
    ap (λ t. cond (not t) (1 + position_or_len is_feed (a ++ b)) 0) other ∙ omega (arith, rest)

position_by : (bytes : List ℕ) (n : ℕ) (within : Bool) → position_or_len is_feed bytes ≡ n → nat_lt n (length bytes) ≡ within
    → position is_feed bytes ≡ cond within (Some n) None
position_by bytes n within e w = ap (λ k. cond (nat_lt k (length bytes)) (Some k) None) e ∙ ap (λ c. cond c (Some n) None) w

shifted : (n k m all : ℕ) (within : Bool) → nat_lt k m ≡ within → all ≡ n + m → nat_lt (n + k) all ≡ within
shifted n k m all true w e = grind (arith, nat_tests)
shifted n k m all false w e = grind (arith, nat_tests)

pushed : (n k : ℕ) (within : Bool) → cond within (Some (n + k)) None ≡ option_map (λ j. n + j) (cond within (Some k) None)
pushed n k true = refl
pushed n k false = refl

-- the first line feed is the first one behind these bytes
pub position_after : (bytes : List ℕ) (n : ℕ) (found : Option ℕ) → n ≤ length bytes → HasNoFeed (take n bytes) → position is_feed (drop n bytes) ≡ found
    → position is_feed bytes ≡ option_map (λ k. n + k) found
position_after bytes n found fits none is =
    let b = drop n bytes in
    let k = position_or_len is_feed b in
    let l = length-take n bytes in
    let m = length-drop n bytes in
    let after = feeds_after (take n bytes) b none in
    let first : position_or_len is_feed bytes ≡ n + k = ap (position_or_len is_feed) (sym (take-append-drop n bytes)) ∙ after ∙ omega arith in
    position_by bytes (n + k) (nat_lt k (length b)) first (shifted n k (length b) (length bytes) (nat_lt k (length b)) refl (omega arith))
    ∙ pushed n k (nat_lt k (length b)) ∙ ap (option_map (λ j. n + j)) is

-- the first bytes of a prefix
pub read_within : (bytes : List ℕ) (m : ℕ) (p : Progress) → m ≡ min (length bytes) 512 → LineKnown bytes p
    → (p.read ≤ length (take m bytes)) × HasNoFeed (take p.read (take m bytes))
read_within bytes m p least (within, few, none) =
    let l = length-take m bytes in
    (omega arith, subst HasNoFeed (sym (take-take p.read m bytes (omega arith))) none)
