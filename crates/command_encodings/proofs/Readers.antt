-- The building blocks of readers find exactly what those of formats encode.
use Rattle.std.proofs.Common.{◌≡◌, ℕ, zero, suc, ◌<◌, ◌≤◌, ◌^◌, List, [], ◌∷◌, ◌++◌, length, take, drop, refl, sym, ◌∙◌, ap, subst, arith}
use Rattle.std.proofs.Common.{append_assoc, append-nil, length-append, take-append-drop}
use Rattle.std.specs.Prelude.{Bool, IsTrue, true, false, ◌&&◌, Option, Some, None, flat_map, nat_lt, nat_le, if◌then◌else◌}
use Rattle.std.specs.List.{AllByRecursion}
use Rattle.std.specs.Int.{from_be_bytes, to_be_bytes, w32}
use Rattle.std.proofs.lemmas.Bool.{and_parts, le-leb, le-ltb, leb-true, ltb-false}
use Rattle.std.proofs.lemmas.List.{take_at, drop_at, length-take}
use Rattle.std.proofs.lemmas.Nat.{from_be_bytes-to_be_bytes_4}
use Rattle.std.proofs.lemmas.Option.{same_Some, none-some, cond_some, some_pair_parts}
use Rattle.definitions.specs.Format.{Format, NoneBeginsAnother, HasOneEncoding, ReadsPrefix, word, word_bytes, text, text_bytes, only}
use Rattle.definitions.specs.Format.{pair, parts, counted}
use Rattle.command_encodings.specs.inner.Reading.{◌>>=◌, Reader, word_at, bytes_at, text_at, kept, only_at, pair_at, parts_at, items_at, with_prefix}
use Rattle.command_encodings.specs.inner.Reading.{counted_at, some_at}
use Rattle.wf_value.proofs.Bytes.{AreBytes, AreBytes-drop, spell_number, number_below}

given_if : {X : Type 0} (b : Bool) (o : Option X) (x : X) → (if b then o else None) ≡ Some x → (b ≡ true) × (o ≡ Some x)
given_if true o x e = (refl, e)
given_if false o x e = cc

-- The bytes are an encoding of what was found, followed by the remaining bytes.
pub record Prefixes {A : Type 0} (format : Format A) (bytes : List ℕ) (found : A × List ℕ) : Type 0 where
  pub takes : format.Takes found.0
  pub split : bytes ≡ format.encoding found.0 ++ found.1
  pub rest : AreBytes found.1

-- What is found is encoded there, and what is encoded is found.
pub record Reads {A : Type 0} (format : Format A) (at : Reader A) : Type 0 where
  pub sound : (bytes : List ℕ) (found : A × List ℕ) → AreBytes bytes → at bytes ≡ Some found → Prefixes format bytes found
  pub complete : (x : A) (rest : List ℕ) → format.Takes x → at (format.encoding x ++ rest) ≡ Some (x, rest)

pub bind_some : {A B : Type 0} (o : Option A) (f : A → Option B) (y : B) → (o >>= f) ≡ Some y → (x : A) × (o ≡ Some x) × (f x ≡ Some y)
bind_some None f y h = absurd (none-some y h)
bind_some (Some x) f y h = (x, refl, h)

pub some_bind : {A B : Type 0} (o : Option A) (f : A → Option B) (x : A) → o ≡ Some x → (o >>= f) ≡ f x
some_bind o f x h = ap (λ p. p >>= f) h

-- a guard that was passed
pub passed : {A : Type 0} (b : Bool) (x y : A) → (if b then None else Some x) ≡ Some y → (b ≡ false) × (x ≡ y)
passed true x y h = absurd (none-some y h)
passed false x y h = (refl, same_Some x y h)

pub word_reads : Reads word word_at
unfolding word_bytes word_at
word_reads = record {
  sound = λ bytes found are h.
      let by = passed (nat_lt (length bytes) 4) (from_be_bytes w32 (take 4 bytes), drop 4 bytes) found h in
      subst (λ (q : ℕ × List ℕ). Prefixes word bytes q) by.1 (record {
        takes = number_below bytes are;
        split = spell_number bytes are (ltb-false (length bytes) 4 by.0);
        rest = AreBytes-drop 4 bytes are;
      });
  complete = λ n rest fits.
      let four : length (to_be_bytes w32 n) ≡ 4 = refl in
      let long : nat_lt (length (to_be_bytes w32 n ++ rest)) 4 ≡ false =
      le-ltb (length (to_be_bytes w32 n ++ rest)) 4 (omega (arith, length-append (to_be_bytes w32 n) rest, four)) in
      let number : from_be_bytes w32 (take 4 (to_be_bytes w32 n ++ rest)) ≡ n =
      ap (from_be_bytes w32) (take_at (to_be_bytes w32 n) rest 4 refl) ∙ from_be_bytes-to_be_bytes_4 n fits in
      let suffix : drop 4 (to_be_bytes w32 n ++ rest) ≡ rest = drop_at (to_be_bytes w32 n) rest 4 refl in
      ap (λ b. if b then None else Some (from_be_bytes w32 (take 4 (to_be_bytes w32 n ++ rest)), drop 4 (to_be_bytes w32 n ++ rest))) long
      ∙ ap (λ m. Some (m, drop 4 (to_be_bytes w32 n ++ rest))) number
      ∙ ap (λ (l : List ℕ). Some (n, l)) suffix;
}

-- exactly `n` bytes, of any value
pub bytes_sound : (n : ℕ) (bytes : List ℕ) (found : List ℕ × List ℕ) → bytes_at n bytes ≡ Some found → (length found.0 ≡ n)
    × (bytes ≡ found.0 ++ found.1) × (found.1 ≡ drop n bytes)
bytes_sound n bytes found h =
    let by = passed (nat_lt (length bytes) n) (take n bytes, drop n bytes) found h in
    let long : n ≤ length bytes = ltb-false (length bytes) n by.0 in
    subst (λ (q : List ℕ × List ℕ). (length q.0 ≡ n) × (bytes ≡ q.0 ++ q.1) × (q.1 ≡ drop n bytes)) by.1
    (omega (arith, length-take n bytes, long), sym (take-append-drop n bytes), refl)

pub bytes_complete : (t rest : List ℕ) → bytes_at (length t) (t ++ rest) ≡ Some (t, rest)
bytes_complete t rest =
    let long : nat_lt (length (t ++ rest)) (length t) ≡ false =
    le-ltb (length (t ++ rest)) (length t) (omega (arith, length-append t rest)) in
    ap (λ b. if b then None else Some (take (length t) (t ++ rest), drop (length t) (t ++ rest))) long
    ∙ ap (λ (l : List ℕ). Some (l, drop (length t) (t ++ rest))) (take_at t rest (length t) refl)
    ∙ ap (λ (l : List ℕ). Some (t, l)) (drop_at t rest (length t) refl)

pub text_reads : Reads text text_at
unfolding text_bytes text_at
text_reads = record {
  sound = λ bytes found are h.
      let step = bind_some (word_at bytes) (λ n. bytes_at n.0 n.1) found h in
      let n = step.0 in
      let prefix = word_reads.sound bytes n are step.1 in
      let body = bytes_sound n.0 n.1 found step.2 in
      record {
        takes = subst (λ (k : ℕ). k < 2 ^ 32) (sym body.0) prefix.takes;
        split = prefix.split
            ∙ ap (λ (l : List ℕ). word_bytes n.0 ++ l) body.1
            ∙ sym (append_assoc (word_bytes n.0) found.0 found.1)
            ∙ ap (λ (k : ℕ). (word_bytes k ++ found.0) ++ found.1) (sym body.0);
        rest = subst AreBytes (sym body.2) (AreBytes-drop n.0 n.1 prefix.rest);
      };
  complete = λ t rest fits.
      ap text_at (append_assoc (word_bytes (length t)) t rest)
      ∙ some_bind (word_at (word_bytes (length t) ++ (t ++ rest))) (λ n. bytes_at n.0 n.1) (length t, t ++ rest)
      (word_reads.complete (length t) (t ++ rest) fits)
      ∙ bytes_complete t rest;
}

-- these values, encoded as their parts in a format
abbrev pub these : {A B : Type 0} → (B → Type 0) → (B → A) → Format A → Format B
these Takes parts_of format = record { Takes = Takes; encoding = λ b. format.encoding (parts_of b) }

-- if each of these values is found from its parts, and no other value has them
pub these_read : {A B : Type 0} (Takes : B → Type 0) (parts_of : B → A) (whole_of : A → Option B) (format : Format A) (at : Reader A)
    → ((b : B) → Takes b → format.Takes (parts_of b) × (whole_of (parts_of b) ≡ Some b))
    → ((a : A) (b : B) → format.Takes a → whole_of a ≡ Some b → Takes b × (parts_of b ≡ a)) → Reads format at
    → Reads (these Takes parts_of format) (some_at whole_of at)
these_read {A} {B} Takes parts_of whole_of format at there back reads = record {
  sound = λ bytes found are h.
      let step = bind_some (at bytes) (λ a. whole_of a.0 >>= (λ b. Some (b, a.1))) found h in
      let a = step.0 in
      let prefix = reads.sound bytes a are step.1 in
      let next = bind_some (whole_of a.0) (λ b. Some (b, a.1)) found step.2 in
      let b = next.0 in
      let is = back a.0 b prefix.takes next.1 in
      subst (λ (q : B × List ℕ). Prefixes (these Takes parts_of format) bytes q) (same_Some (b, a.1) found next.2) (record {
        takes = is.0;
        split = prefix.split ∙ ap (λ x. format.encoding x ++ a.1) (sym is.1);
        rest = prefix.rest;
      });
  complete = λ b rest takes.
      let fits = there b takes in
      some_bind (at (format.encoding (parts_of b) ++ rest)) (λ a. whole_of a.0 >>= (λ c. Some (c, a.1))) (parts_of b, rest)
      (reads.complete (parts_of b) rest fits.0)
      ∙ some_bind (whole_of (parts_of b)) (λ c. Some (c, rest)) b fits.1;
}

-- if each value is found from its parts
pub some_reads : {A B : Type 0} (parts_of : B → A) (whole_of : A → Option B) (format : Format A) (at : Reader A)
    → ((b : B) → whole_of (parts_of b) ≡ Some b)
    → ((a : A) (b : B) → whole_of a ≡ Some b → parts_of b ≡ a) → Reads format at → Reads (parts parts_of format) (some_at whole_of at)
some_reads {A} {B} parts_of whole_of format at there back =
    these_read (λ (b : B). format.Takes (parts_of b)) parts_of whole_of format at (λ b takes. (takes, there b))
    (λ a b takes h. (subst format.Takes (sym (back a b h)) takes, back a b h))

pub parts_reads : {A B : Type 0} (parts_of : B → A) (whole_of : A → B) (format : Format A) (at : Reader A)
    → ((a : A) → parts_of (whole_of a) ≡ a) → ((b : B) → whole_of (parts_of b) ≡ b)
    → Reads format at → Reads (parts parts_of format) (parts_at whole_of at)
parts_reads parts_of whole_of format at there back =
    some_reads parts_of (λ a. Some (whole_of a)) format at (λ b. ap Some (back b))
    (λ a b h. ap parts_of (sym (same_Some (whole_of a) b h)) ∙ there a)

pub only_reads : {A : Type 0} (test : A → Bool) (format : Format A) (at : Reader A) → Reads format at
    → Reads (only test format) (only_at test at)
only_reads {A} test format at =
    these_read (λ (x : A). format.Takes x × IsTrue (test x)) (λ x. x) (kept test) format at
    (λ x fits. (fits.0, ap (λ b. if b then Some x else None) fits.1))
    (λ x y takes h.
    let by = cond_some (test x) x y h in
    subst (λ (z : A). (format.Takes z × IsTrue (test z)) × (z ≡ x)) by.1 ((takes, by.0), refl))

pub pair_reads : {A B : Type 0} (first : Format A) (second : Format B) (first_at : Reader A) (second_at : Reader B) → Reads first first_at
    → Reads second second_at
    → Reads (pair first second) (pair_at first_at second_at)
pair_reads {A} {B} first second first_at second_at one other = record {
  sound = λ bytes found are h.
      let step = bind_some (first_at bytes) (λ a. second_at a.1 >>= (λ b. Some ((a.0, b.0), b.1))) found h in
      let a = step.0 in
      let prefix = one.sound bytes a are step.1 in
      let next = bind_some (second_at a.1) (λ b. Some ((a.0, b.0), b.1)) found step.2 in
      let b = next.0 in
      let suffix = other.sound a.1 b prefix.rest next.1 in
      subst (λ (q : (A × B) × List ℕ). Prefixes (pair first second) bytes q) (same_Some ((a.0, b.0), b.1) found next.2) (record {
        takes = (prefix.takes, suffix.takes);
        split = prefix.split
            ∙ ap (λ (l : List ℕ). first.encoding a.0 ++ l) suffix.split
            ∙ sym (append_assoc (first.encoding a.0) (second.encoding b.0) b.1);
        rest = suffix.rest;
      });
  complete = λ p rest fits.
      ap (pair_at first_at second_at) (append_assoc (first.encoding p.0) (second.encoding p.1) rest)
      ∙ some_bind (first_at (first.encoding p.0 ++ (second.encoding p.1 ++ rest))) (λ a. second_at a.1 >>= (λ b. Some ((a.0, b.0), b.1)))
      (p.0, second.encoding p.1 ++ rest)
      (one.complete p.0 (second.encoding p.1 ++ rest) fits.0)
      ∙ some_bind (second_at (second.encoding p.1 ++ rest)) (λ b. Some ((p.0, b.0), b.1)) (p.1, rest) (other.complete p.1 rest fits.1);
}

-- exactly `n` values, one after another
pub record Items {A : Type 0} (format : Format A) (n : ℕ) (bytes : List ℕ) (found : List A × List ℕ) : Type 0 where
  pub many : length found.0 ≡ n
  pub takes : AllByRecursion format.Takes found.0
  pub split : bytes ≡ flat_map format.encoding found.0 ++ found.1
  pub rest : AreBytes found.1

pub items_sound : {A : Type 0} (format : Format A) (at : Reader A) → Reads format at → (n : ℕ) (bytes : List ℕ) (found : List A × List ℕ)
    → AreBytes bytes
    → items_at at n bytes ≡ Some found → Items format n bytes found
items_sound {A} format at reads zero bytes found are h =
    subst (λ (q : List A × List ℕ). Items format zero bytes q) (same_Some ([], bytes) found h) (record {
      many = refl;
      takes = tt;
      split = refl;
      rest = are;
    })
items_sound {A} format at reads (suc n) bytes found are h =
    let step = bind_some (at bytes) (λ x. items_at at n x.1 >>= (λ xs. Some (x.0 ∷ xs.0, xs.1))) found h in
    let x = step.0 in
    let prefix = reads.sound bytes x are step.1 in
    let next = bind_some (items_at at n x.1) (λ xs. Some (x.0 ∷ xs.0, xs.1)) found step.2 in
    let xs = next.0 in
    let suffix = items_sound format at reads n x.1 xs prefix.rest next.1 in
    subst (λ (q : List A × List ℕ). Items format (suc n) bytes q) (same_Some (x.0 ∷ xs.0, xs.1) found next.2) (record {
      many = ap suc suffix.many;
      takes = (prefix.takes, suffix.takes);
      split = prefix.split
          ∙ ap (λ (l : List ℕ). format.encoding x.0 ++ l) suffix.split
          ∙ sym (append_assoc (format.encoding x.0) (flat_map format.encoding xs.0) xs.1);
      rest = suffix.rest;
    })

pub items_complete : {A : Type 0} (format : Format A) (at : Reader A) → Reads format at → (xs : List A) (rest : List ℕ)
    → AllByRecursion format.Takes xs
    → items_at at (length xs) (flat_map format.encoding xs ++ rest) ≡ Some (xs, rest)
items_complete format at reads [] rest fits = refl
items_complete format at reads (x ∷ xs) rest fits =
    ap (items_at at (suc (length xs))) (append_assoc (format.encoding x) (flat_map format.encoding xs) rest)
    ∙ some_bind (at (format.encoding x ++ (flat_map format.encoding xs ++ rest)))
    (λ y. items_at at (length xs) y.1 >>= (λ ys. Some (y.0 ∷ ys.0, ys.1)))
    (x, flat_map format.encoding xs ++ rest) (reads.complete x (flat_map format.encoding xs ++ rest) fits.0)
    ∙ some_bind (items_at at (length xs) (flat_map format.encoding xs ++ rest)) (λ ys. Some (x ∷ ys.0, ys.1)) (xs, rest)
    (items_complete format at reads xs rest fits.1)

-- a test that was passed

pub counted_reads : {A : Type 0} (least most : ℕ) (format : Format A) (at : Reader A) → most < 2 ^ 32 → Reads format at
    → Reads (counted least most format) (counted_at least most at)
counted_reads least most format at small reads = record {
  sound = λ bytes found are h.
      let step = bind_some (word_at bytes) (λ n. if nat_le least n.0 && nat_le n.0 most then items_at at n.0 n.1 else None) found h in
      let n = step.0 in
      let prefix = word_reads.sound bytes n are step.1 in
      let by = given_if (nat_le least n.0 && nat_le n.0 most) (items_at at n.0 n.1) found step.2 in
      let range = and_parts (nat_le least n.0) (nat_le n.0 most) by.0 in
      let items = items_sound format at reads n.0 n.1 found prefix.rest by.1 in
      let low : least ≤ n.0 = leb-true least n.0 range.0 in
      let high : n.0 ≤ most = leb-true n.0 most range.1 in
      record {
        takes = (subst (λ (k : ℕ). least ≤ k) (sym items.many) low, subst (λ (k : ℕ). k ≤ most) (sym items.many) high, items.takes);
        split = prefix.split
            ∙ ap (λ (l : List ℕ). word_bytes n.0 ++ l) items.split
            ∙ sym (append_assoc (word_bytes n.0) (flat_map format.encoding found.0) found.1)
            ∙ ap (λ (k : ℕ). (word_bytes k ++ flat_map format.encoding found.0) ++ found.1) (sym items.many);
        rest = items.rest;
      };
  complete = λ xs rest fits.
      let n : ℕ = length xs in
      let suffix : List ℕ = flat_map format.encoding xs ++ rest in
      let short : length xs < 2 ^ 32 = omega (arith, fits.1) in
      let passes : (nat_le least (length xs) && nat_le (length xs) most) ≡ true =
      ap (λ b. b && nat_le (length xs) most) (le-leb least (length xs) fits.0) ∙ le-leb (length xs) most fits.1 in
      ap (counted_at least most at) (append_assoc (word_bytes (length xs)) (flat_map format.encoding xs) rest)
      ∙ some_bind (word_at (word_bytes (length xs) ++ (flat_map format.encoding xs ++ rest)))
      (λ n. if nat_le least n.0 && nat_le n.0 most then items_at at n.0 n.1 else None) (length xs, flat_map format.encoding xs ++ rest)
      (word_reads.complete (length xs) (flat_map format.encoding xs ++ rest) short)
      ∙ ap (λ b. if b then items_at at (length xs) (flat_map format.encoding xs ++ rest) else None) passes
      ∙ items_complete format at reads xs rest fits.2;
}

-- ---- a loop over a count

pub prefix_all : {A : Type 0} (at : Reader A) (prefix : List A) (n : ℕ) (rest : List ℕ) → n ≡ 0
    → with_prefix prefix (items_at at n rest) ≡ Some (prefix, rest)
prefix_all {A} at prefix n rest none =
    ap (λ (k : ℕ). with_prefix prefix (items_at at k rest)) none ∙ ap (λ (l : List A). Some (l, rest)) (append-nil prefix)

pub prefix_none : {A : Type 0} (at : Reader A) (prefix : List A) (n k : ℕ) (bytes : List ℕ) → n ≡ suc k → at bytes ≡ None
    → with_prefix prefix (items_at at n bytes) ≡ None
prefix_none {A} at prefix n k bytes is h =
    ap (λ (m : ℕ). with_prefix prefix (items_at at m bytes)) is
    ∙ ap (λ (p : Option (A × List ℕ)). with_prefix prefix (p >>= (λ x. items_at at k x.1 >>= (λ xs. Some (x.0 ∷ xs.0, xs.1))))) h

joined : {A : Type 0} (prefix : List A) (x : A) (o : Option (List A × List ℕ))
    → with_prefix prefix (o >>= (λ xs. Some (x ∷ xs.0, xs.1))) ≡ with_prefix (prefix ++ x ∷ []) o
joined prefix x None = refl
joined {A} prefix x (Some xs) = ap (λ (l : List A). Some (l, xs.1)) (sym (append_assoc prefix (x ∷ []) xs.0))

pub prefix_more : {A : Type 0} (at : Reader A) (prefix : List A) (n k : ℕ) (bytes : List ℕ) (x : A) (suffix : List ℕ) → n ≡ suc k
    → at bytes ≡ Some (x, suffix)
    → with_prefix prefix (items_at at n bytes) ≡ with_prefix (prefix ++ x ∷ []) (items_at at k suffix)
prefix_more {A} at prefix n k bytes x suffix is h =
    ap (λ (m : ℕ). with_prefix prefix (items_at at m bytes)) is
    ∙ ap (λ (p : Option (A × List ℕ)). with_prefix prefix (p >>= (λ y. items_at at k y.1 >>= (λ xs. Some (y.0 ∷ xs.0, xs.1))))) h
    ∙ joined prefix x (items_at at k suffix)

-- ---- laws of formats

-- no encoding is a proper prefix of another if a reader finds what is encoded
pub none_begins : {A : Type 0} (format : Format A) (at : Reader A) → Reads format at → NoneBeginsAnother format
none_begins {A} format at reads a b more other x y one two same =
    let found : at (a ++ more) ≡ Some (x, more) = ap (λ (l : List ℕ). at (l ++ more)) one.1 ∙ reads.complete x more one.0 in
    let again : at (b ++ other) ≡ Some (y, other) = ap (λ (l : List ℕ). at (l ++ other)) two.1 ∙ reads.complete y other two.0 in
    let parts = some_pair_parts x y more other (sym found ∙ ap at same ∙ again) in
    (one.1 ∙ ap format.encoding parts.0 ∙ sym two.1, parts.0)

pub one_encoding : {A : Type 0} (format : Format A) → HasOneEncoding format
one_encoding format x takes = (format.encoding x, (takes, refl), λ other encoded. encoded.1)

-- what was found is at the front
pub found_as_prefix : {A : Type 0} (format : Format A) (at : Reader A) → Reads format at → (bytes : List ℕ) (found : A × List ℕ)
    → AreBytes bytes → at bytes ≡ Some found
    → ReadsPrefix format bytes (Some found)
found_as_prefix format at reads bytes found are h =
    let prefix = reads.sound bytes found are h in
    (prefix.takes, prefix.split)

-- and if nothing was found, nothing is
pub none_as_prefix : {A : Type 0} (format : Format A) (at : Reader A) → Reads format at → (bytes : List ℕ) → at bytes ≡ None
    → ReadsPrefix format bytes None
none_as_prefix format at reads bytes h x rest opens =
    none-some (x, rest) (sym h ∙ ap at opens.1 ∙ reads.complete x rest opens.0)
