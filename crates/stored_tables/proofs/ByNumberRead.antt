-- Look-ups by a number.
use Rattle.std.specs.Prelude.{◌≡◌, ◌⊎◌, ℕ, ◌+◌, ◌<◌, true, is_some}
use Rattle.std.specs.Prelude.{Option, Some, None, refl}
use Rattle.std.proofs.Common.{arith, ap, sym, subst, ◌∙◌, inl, inr}
use Rattle.std.proofs.lemmas.Bool.{cases_eq, true≢false}
use Rattle.std.proofs.lemmas.Option.{none-some}
use Rattle.stored_tables.specs.inner.ByNumber.{Adds, Finds}

pub found_is : {P : Type 0} (number_of : P → Option ℕ) (n : ℕ) (o : Option P) (p : P) → Finds number_of n o → number_of p ≡ Some n
    → ((q : P) → number_of q ≡ Some n → q ≡ p) → o ≡ Some p
found_is number_of n None p finds is only = absurd (finds p is)
found_is number_of n (Some q) p finds is only = ap Some (only q finds)

pub found_some : {P : Type 0} (number_of : P → Option ℕ) (n : ℕ) (o : Option P) (p : P) → Finds number_of n o → number_of p ≡ Some n
    → is_some o ≡ true
found_some number_of n None p finds is = absurd (finds p is)
found_some number_of n (Some q) p finds is = refl

pub found_has : {P : Type 0} (number_of : P → Option ℕ) (n : ℕ) (o : Option P) (p : P) → Finds number_of n o → o ≡ Some p
    → number_of p ≡ Some n
found_has number_of n None p finds is = cc
found_has number_of n (Some q) p finds is = let same : q ≡ p = cc in subst (λ x. number_of x ≡ Some n) same finds

pub record IsThere {P : Type 0} (o : Option P) : Type 0 where
  pub value : P
  pub is : o ≡ Some value

pub there : {P : Type 0} (o : Option P) → is_some o ≡ true → IsThere o
there None e = cc
there (Some p) e = record { value = p; is = refl }

-- ---- what was inserted

pub nothing_added : {P : Type 0} (a : ℕ → Option P) (new : P → ℕ → Type 0) → ((p : P) (n : ℕ) → new p n → ⊥) → Adds a a new
nothing_added a new none = record {
  old_or_new = (λ n p e. inl e);
  keeps = (λ n e. e);
  finds_new = (λ n p h. absurd (none p n h));
}

-- one insertion after another
pub adds_on : {P : Type 0} (a b c : ℕ → Option P) (first second both : P → ℕ → Type 0) → Adds a b first → Adds b c second
    → ((p : P) (n : ℕ) → first p n → both p n) → ((p : P) (n : ℕ) → second p n → both p n)
    → ((p : P) (n : ℕ) → both p n → first p n ⊎ second p n) → Adds a c both
adds_on a b c first second both one two of_first of_second parts = record {
  old_or_new = (λ n p e. elim (two.old_or_new n p e) [
    | inr h ↦ inr (of_second p n h)
    | inl before ↦ elim (one.old_or_new n p before) [
      | inr h ↦ inr (of_first p n h)
      | inl old ↦ inl old
    ]
  ]);
  keeps = (λ n e. two.keeps n (one.keeps n e));
  finds_new = (λ n p h. elim (parts p n h) [
    | inl f ↦ two.keeps n (one.finds_new n p f)
    | inr s ↦ two.finds_new n p s
  ]);
}

pub adds_same : {P : Type 0} (a b : ℕ → Option P) (new other : P → ℕ → Type 0) → Adds a b new → ((p : P) (n : ℕ) → new p n → other p n)
    → ((p : P) (n : ℕ) → other p n → new p n) → Adds a b other
adds_same a b new other adds to from = record {
  old_or_new = (λ n p e. elim (adds.old_or_new n p e) [ inl old ↦ inl old | inr h ↦ inr (to p n h) ]);
  keeps = adds.keeps;
  finds_new = (λ n p h. adds.finds_new n p (from p n h));
}

-- what was inserted into an empty map is found there
pub all_found : {P : Type 0} (empty full : ℕ → Option P) (number_of : P → Option ℕ) → ((n : ℕ) → empty n ≡ None)
    → Adds empty full (λ p n. number_of p ≡ Some n) → (n : ℕ) → Finds number_of n (full n)
all_found {P} empty full number_of nothing adds n =
    elim (full n) as (λ o. full n ≡ o → Finds number_of n o) [
      | None ↦ λ is p e. true≢false (sym (adds.finds_new n p e) ∙ ap is_some is)
      | Some p ↦ λ is. elim (adds.old_or_new n p is) [
        | inl old ↦ absurd (none-some p (sym (nothing n) ∙ old))
        | inr new ↦ new
      ]
    ] refl

-- those at the next index were added
pub adds_next : {P : Type 0} (place : P → ℕ) (has : P → ℕ → Type 0) (i : ℕ) (a b c : ℕ → Option P) (new : P → ℕ → Type 0)
    → Adds a b (λ p n. has p n × (place p < i)) → Adds b c new → ((p : P) (n : ℕ) → new p n → has p n × (place p ≡ i))
    → ((p : P) (n : ℕ) → has p n → place p ≡ i → new p n) → Adds a c (λ p n. has p n × (place p < i + 1))
adds_next place has i a b c new before more of_new to_new =
    adds_on a b c (λ p n. has p n × (place p < i)) new (λ p n. has p n × (place p < i + 1)) before more
    (λ p n h. (h.0, let lt = h.1 in omega arith))
    (λ p n h. let both = of_new p n h in (both.0, omega (arith, both.1)))
    (λ p n h. elim (cases_eq (place p) i) [
      | inl same ↦ inr (to_new p n h.0 same)
      | inr other ↦ inl (h.0, let lt = h.1 in omega arith)
    ])

pub none_added : {P : Type 0} (place : P → ℕ) (has : P → ℕ → Type 0) (a : ℕ → Option P) → Adds a a (λ p n. has p n × (place p < 0))
none_added place has a = nothing_added a (λ p n. has p n × (place p < 0)) (λ p n h. let lt = h.1 in absurd (omega arith))

-- all indices were visited
pub all_added : {P : Type 0} (place : P → ℕ) (has : P → ℕ → Type 0) (i : ℕ) (a b : ℕ → Option P)
    → Adds a b (λ p n. has p n × (place p < i)) → ((p : P) (n : ℕ) → has p n → place p < i) → Adds a b has
all_added place has i a b adds within =
    adds_same a b (λ p n. has p n × (place p < i)) has adds (λ p n h. h.0) (λ p n h. (h, within p n h))
