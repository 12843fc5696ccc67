-- Several system writes in a row, as one write.
use Rattle.std.proofs.Common.{◌≡◌, ◌↔◌, ⊎_elim, ℕ, zero, suc, ◌+◌, ◌-◌, ◌^◌, ◌<◌, ◌≤◌, min, List, [], ◌∷◌, ◌++◌, length, take, drop}
use Rattle.std.proofs.Common.{replicate, refl, sym, ◌∙◌, ap, subst, arith, append_assoc}
use Rattle.std.proofs.lemmas.List.{length-append, length-take-le, length-drop, length-replicate, take_at, drop_at, drop-drop}
use Rattle.std.proofs.Math.Seq.{take-add}
use Rattle.definitions.specs.Disk.{Torn, From, Follows}
use Rattle.act_disk.proofs.Kept.{prefix_kept, rest_kept}
use Rattle.act_disk.specs.Laid.{laid}
use Rattle.act_disk.specs.inner.Laid.{torn_refl}
use Rattle.act_disk.specs.inner.Past.{elapses_same, elapses_push, elapses_then}
use Rattle.act_disk.specs.SystemCalls.{FileCall, Wrote, WriteFailed, Grew, GrowthFailed, contents, MayLeave, MayHaveLeft}
use Rattle.act_disk.specs.inner.FileCalls.{Puts, Breaks, MayHaveFailed, Passed, partly}

-- a write inside a range, after a write of that range, is a write of that range
pub torn_within : (at n at' n' : ℕ) (a b c : List ℕ) → at ≤ at' → at' + n' ≤ at + n → Torn at n a b → Torn at' n' b c → Torn at n a c
torn_within at n at' n' a b c from to first second = record {
  no_shorter = omega (arith, first.no_shorter, second.no_shorter);
  no_longer = omega (arith, first.no_longer, second.no_longer);
  before =
      let m = min at (length a) in
      prefix_kept at' n' b c second m (omega (arith, first.no_shorter)) (omega arith) ∙ first.before;
  after = rest_kept at' n' b c second (at + n) to ∙ first.after;
}

-- two adjacent writes are one write of both texts
pub laid_past : (at : ℕ) (a b file : List ℕ) → laid (at + length a) b (laid at a file) ≡ laid at (a ++ b) file
laid_past at a b file =
    let zeros = replicate at 0 in
    let prefix = take at (file ++ zeros) in
    let rest = drop (at + length a) file in
    let was = prefix ++ a ++ rest in
    let more = replicate (at + length a) 0 in
    let size-prefix : length prefix ≡ at =
    length-take-le at (file ++ zeros) (omega (arith, length-append file zeros, length-replicate {A = ℕ} at 0)) in
    let size : length (prefix ++ a) ≡ at + length a = omega (arith, length-append prefix a, size-prefix) in
    let end : at + length a + length b ≡ at + length (a ++ b) = omega (arith, length-append a b) in
    let first : take (at + length a) (was ++ more) ≡ prefix ++ a =
    ap (λ (l : List ℕ). take (at + length a) l) (append_assoc (prefix ++ a) rest more)
    ∙ take_at (prefix ++ a) (rest ++ more) (at + length a) size in
    let last : drop (at + length a + length b) was ≡ drop (at + length (a ++ b)) file =
    sym (drop-drop (length b) (at + length a) was) ∙ ap (λ (l : List ℕ). drop (length b) l) (drop_at (prefix ++ a) rest (at + length a) size)
    ∙ drop-drop (length b) (at + length a) file ∙ ap (λ (k : ℕ). drop k file) end in
    ap (λ (l : List ℕ). l ++ b ++ drop (at + length a + length b) was) first
    ∙ ap (λ (l : List ℕ). (prefix ++ a) ++ b ++ l) last
    ∙ ap (λ (l : List ℕ). l ++ drop (at + length (a ++ b)) file) (append_assoc prefix a b)

module _ (left : List ℕ → Type 0) (held : List ℕ) where
  abbrev Images : List FileCall → List ℕ → Type 0
  Images = MayLeave left held

  -- no call was made
  pub passed_none : (calls : List FileCall) → Passed left held calls calls
  passed_none calls = elapses_same Images (length calls) calls

  pub passed_one : (call : FileCall) (calls : List FileCall) → Passed left held calls (call ∷ calls)
  passed_one call calls = elapses_push Images call calls (length calls) (length (call ∷ calls)) (omega arith)

  pub follows_none : (at n : ℕ) (calls : List FileCall) → Follows (Torn at n) (Images calls) (Images calls)
  follows_none at n calls = record { each = λ c now. (c, now, torn_refl at n c); keeps = λ c now. now }

  follows_one : (at n : ℕ) (call : FileCall) (calls : List FileCall)
      → ((c : List ℕ) → Images (call ∷ calls) c → From (Torn at n) (Images calls) c)
      → ((c : List ℕ) → From (Torn at n) (Images calls) c → Images (call ∷ calls) c)
      → Follows (Torn at n) (Images calls) (Images (call ∷ calls))
  follows_one at n call calls to from = record { each = to; keeps = λ c now. from c (c, now, torn_refl at n c) }

  same_both : {P : Type 0} → P ↔ P
  same_both = ((λ p. p), (λ p. p))

  pub put_one : (at : ℕ) (bytes : List ℕ) (count : ℕ) (old : List FileCall) → Puts left held at bytes count old (Wrote at bytes count ∷ old)
  put_one at bytes count old = record {
    put = refl;
    follows = follows_one at (length bytes) (Wrote at bytes count) old (λ c now. now) (λ c now. now);
    any = λ d c now torn. (d, now, torn);
    passed = passed_one (Wrote at bytes count) old;
    honest = same_both;
    sound = refl;
  }

  grown : (len : ℕ) (old : List FileCall) → Puts left held len [] 0 old (Grew len ∷ old)
  grown len old = record {
    put = refl;
    follows = follows_one len 0 (Grew len) old (λ c now. now) (λ c now. now);
    any = λ d c now torn. (d, now, torn);
    passed = passed_one (Grew len) old;
    honest = same_both;
    sound = refl;
  }

  pub broke_none : (at : ℕ) (bytes : List ℕ) (old : List FileCall) → Breaks left held at bytes 0 old old
  broke_none at bytes old = record {
    within = omega arith;
    fits = λ impossible. absurd (omega (arith, impossible));
    put = refl;
    follows = follows_none at (length bytes) old;
    passed = passed_none old;
    honest = same_both;
  }

  broke_one : (at : ℕ) (bytes : List ℕ) (old : List FileCall) → Breaks left held at bytes 0 old (WriteFailed at bytes ∷ old)
  broke_one at bytes old = record {
    within = omega arith;
    fits = λ impossible. absurd (omega (arith, impossible));
    put = refl;
    follows = follows_one at (length bytes) (WriteFailed at bytes) old (λ c now. now) (λ c now. now);
    passed = passed_one (WriteFailed at bytes) old;
    honest = same_both;
  }

  pub broke_first : (at : ℕ) (bytes : List ℕ) (old new : List FileCall) → MayHaveFailed (WriteFailed at bytes) old new
      → Breaks left held at bytes 0 old new
  broke_first at bytes old new failed =
      ⊎_elim (λ none. subst (λ (l : List FileCall). Breaks left held at bytes 0 old l) (sym none) (broke_none at bytes old))
      (λ one. subst (λ (l : List FileCall). Breaks left held at bytes 0 old l) (sym one) (broke_one at bytes old)) failed

  growth_broke : (len : ℕ) (old : List FileCall) → Breaks left held len [] 0 old (GrowthFailed len ∷ old)
  growth_broke len old = record {
    within = omega arith;
    fits = λ impossible. absurd (omega (arith, impossible));
    put = refl;
    follows = follows_one len 0 (GrowthFailed len) old (λ c now. now) (λ c now. now);
    passed = passed_one (GrowthFailed len) old;
    honest = same_both;
  }

  broke_growing : (len : ℕ) (old new : List FileCall) → MayHaveFailed (GrowthFailed len) old new → Breaks left held len [] 0 old new
  broke_growing len old new failed =
      ⊎_elim (λ none. subst (λ (l : List FileCall). Breaks left held len [] 0 old l) (sym none) (broke_none len [] old))
      (λ one. subst (λ (l : List FileCall). Breaks left held len [] 0 old l) (sym one) (growth_broke len old)) failed

  passed_then : (a b c : List FileCall) → Passed left held a b → Passed left held b c → ((x : List ℕ) → Images b x → Images c x)
      → Passed left held a c
  passed_then a b c first second keeps =
      elapses_then (length a) (length b) (length c) (MayHaveLeft left held a) (MayHaveLeft left held b) (MayHaveLeft left held c) (Images b)
      (Images c) first second keeps

  module _ (at : ℕ) (bytes : List ℕ) (count : ℕ) (within : count ≤ length bytes) (old mid : List FileCall)
      (so_far : Puts left held at bytes count old mid) where
    abbrev rest : List ℕ
    rest = drop count bytes

    size-rest : length rest ≡ length bytes - count
    size-rest = length-drop count bytes

    size-prefix : length (take count bytes) ≡ count
    size-prefix = length-take-le count bytes within

    follows_more : (new : List FileCall) → Follows (Torn (at + count) (length rest)) (Images mid) (Images new)
        → Follows (Torn at (length bytes)) (Images old) (Images new)
    follows_more new more = record {
      each = λ c now.
          let second = more.each c now in
          let first = so_far.follows.each second.0 second.1 in (
            first.0,
            first.1,
            torn_within at (length bytes) (at + count) (length rest) first.0 second.0 c (omega arith)
                (omega (arith, size-rest)) first.2 second.2,
          );
      keeps = λ c now. more.keeps c (so_far.follows.keeps c now);
    }

    contents_more : (n : ℕ) → laid (at + count) (take n rest) (contents held mid) ≡ laid at (take (count + n) bytes) (contents held old)
    contents_more n =
        ap (λ (file : List ℕ). laid (at + count) (take n rest) file) so_far.put
        ∙ ap (λ (k : ℕ). laid (at + k) (take n rest) (laid at (take count bytes) (contents held old))) (sym size-prefix)
        ∙ laid_past at (take count bytes) (take n rest) (contents held old)
        ∙ ap (λ (l : List ℕ). laid at l (contents held old)) (sym (take-add count n bytes))

    module _ (n : ℕ) (new : List FileCall) (second : Puts left held (at + count) rest n mid new) where
      pub put_more : Puts left held at bytes (count + n) old new
      put_more = record {
        put = second.put ∙ contents_more n;
        follows = follows_more new second.follows;
        any = λ d c now torn. second.follows.keeps c (so_far.any d c now torn);
        passed = passed_then old mid new so_far.passed second.passed second.follows.keeps;
        honest = ((λ h. so_far.honest.0 (second.honest.0 h)), (λ h. second.honest.1 (so_far.honest.1 h)));
        sound = second.sound ∙ so_far.sound;
      }

    partly_is : (k : ℕ) (file : List ℕ) → 0 < k → laid at (take k bytes) file ≡ partly at bytes k file
    partly_is zero file some = absurd (omega (arith, some))
    partly_is (suc k) file some = refl

    pub broke_later : (new : List FileCall) → 0 < count → at + length bytes < 2 ^ 64 → Breaks left held (at + count) rest 0 mid new
        → Breaks left held at bytes count old new
    broke_later new some fits broke = record {
      within = within;
      fits = λ _. omega (arith, fits, within);
      put = broke.put ∙ so_far.put ∙ partly_is count (contents held old) some;
      follows = follows_more new broke.follows;
      passed = passed_then old mid new so_far.passed broke.passed broke.follows.keeps;
      honest = ((λ h. so_far.honest.0 (broke.honest.0 h)), (λ h. broke.honest.1 (so_far.honest.1 h)));
    }

  -- extending a file is a write of no bytes
  module _ (len : ℕ) (bytes : List ℕ) (none : bytes ≡ []) (old new : List FileCall) where
    pub grown_puts : new ≡ Grew len ∷ old → Puts left held len bytes (length bytes) old new
    grown_puts noted =
        subst (λ (b : List ℕ). Puts left held len b (length b) old new) (sym none)
        (subst (λ (l : List FileCall). Puts left held len [] 0 old l) (sym noted) (grown len old))

    pub growth_breaks : MayHaveFailed (GrowthFailed len) old new → Breaks left held len bytes 0 old new
    growth_breaks failed = subst (λ (b : List ℕ). Breaks left held len b 0 old new) (sym none) (broke_growing len old new failed)
