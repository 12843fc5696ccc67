-- The indices of the elements that pass a test.
use Rattle.std.proofs.Common.{◌≡◌, ℕ, zero, suc, ◌+◌, ◌<◌, List, [], ◌∷◌, Bool, true, false, cond, eqb, length, get_or, map, sym, refl, ap}
use Rattle.std.proofs.Common.{◌∙◌, ⊎_elim, arith, add-zero, zero-add}
use Rattle.std.proofs.lemmas.Bool.{true≢false, false≢true, or_cases, or_left, or_right, eqb-true, eq-eqb, cond_both}
use Rattle.std.proofs.lemmas.List.Folds.{list_any_at}
use Rattle.std.proofs.lemmas.List.FromFn.{length-range_with_len, get_or-range_with_len}
use Rattle.std.proofs.lemmas.List.{get_or_default}
use Rattle.std.specs.List.{range_with_len, enumerate_from, filter}
use Rattle.needs_graph.specs.Needs.{indexes}
use Rattle.needs_graph.specs.inner.JobBitmap.{is_marked, marked}
use Rattle.needs_graph.proofs.Members.{Has}

kept : {X : Type 0} (b c : Bool) (a : ℕ) (x : X) (es : List (ℕ × X)) (ns : List ℕ) → b ≡ c → map (λ e. e.0) es ≡ ns
    → map (λ e. e.0) (cond b ((a, x) ∷ es) es) ≡ cond c (a ∷ ns) ns
kept true true a x es ns same h = ap (λ l. a ∷ l) h
kept true false a x es ns same h = absurd (true≢false same)
kept false true a x es ns same h = absurd (false≢true same)
kept false false a x es ns same h = h

-- the indices are all indices filtered by any test that agrees
indexes_from : {X : Type 0} (test : X → Bool) (xs : List X) (a : ℕ) (t : ℕ → Bool)
    → ((k : ℕ) (d : X) → k < length xs → test (get_or xs k d) ≡ t (a + k))
    → map (λ e. e.0) (filter (λ e. test e.1) (enumerate_from a xs)) ≡ filter t (range_with_len a (length xs))
indexes_from test [] a t agree = refl
indexes_from test (x ∷ xs) a t agree =
    kept (test x) (t a) a x _ _ (agree zero x (omega arith)
    ∙ ap t (add-zero a)) (indexes_from test xs (a + 1) t (λ k d below. agree (suc k) d (omega arith) ∙ ap t (omega arith)))

pub indexes_by : {X : Type 0} (test : X → Bool) (xs : List X) (t : ℕ → Bool) → ((k : ℕ) (d : X) → k < length xs → test (get_or xs k d) ≡ t k)
    → indexes test xs ≡ filter t (range_with_len 0 (length xs))
indexes_by test xs t agree = indexes_from test xs 0 t (λ k d below. agree k d below ∙ ap t (sym (zero-add k)))

pub marked_by : (marks : List Bool) (t : ℕ → Bool) → ((k : ℕ) → k < length marks → is_marked marks k ≡ t k)
    → marked marks ≡ filter t (range_with_len 0 (length marks))
marked_by marks t agree = indexes_by (λ mark. mark) marks t (λ k d below. get_or_default marks k d false below ∙ agree k below)

Has-filter : (t : ℕ → Bool) (xs : List ℕ) (i : ℕ) → Has (filter t xs) i → Has xs i × (t i ≡ true)
Has-filter t [] i h = absurd (false≢true h)
Has-filter t (x ∷ xs) i h =
    elim (t x)
    as (λ v. t x ≡ v → Has (cond v (x ∷ filter t xs) (filter t xs)) i → Has (x ∷ xs) i × (t i ≡ true)) [
      | true ↦
          λ e g.
          ⊎_elim (λ same. (or_left _ _ same, ap t (eqb-true i x same) ∙ e))
          (λ later. let rest = Has-filter t xs i later in (or_right _ _ rest.0, rest.1)) (or_cases _ _ g)
      | false ↦ λ e g. let rest = Has-filter t xs i g in (or_right _ _ rest.0, rest.1)
    ]
    refl
    h

Has-filter_from : (t : ℕ → Bool) (xs : List ℕ) (i : ℕ) → Has xs i → t i ≡ true → Has (filter t xs) i
Has-filter_from t [] i h passes = absurd (false≢true h)
Has-filter_from t (x ∷ xs) i h passes =
    cond_both (t x) (x ∷ filter t xs) (filter t xs) (λ ys. Has ys i)
    (λ e. ⊎_elim (λ same. or_left _ _ same) (λ later. or_right _ _ (Has-filter_from t xs i later passes)) (or_cases _ _ h))
    (λ e. ⊎_elim (λ same. absurd (false≢true (sym e ∙ (ap t (sym (eqb-true i x same)) ∙ passes))))
    (λ later. Has-filter_from t xs i later passes) (or_cases _ _ h))

Has-range : (a n i : ℕ) → Has (range_with_len a n) i → i < a + n
Has-range a zero i h = absurd (false≢true h)
Has-range a (suc n) i h =
    ⊎_elim (λ same. let e = eqb-true i a same in omega arith) (λ later. let r = Has-range (a + 1) n i later in omega arith) (or_cases _ _ h)

-- the elements of filtered indices
pub Has-filter_range : (t : ℕ → Bool) (n i : ℕ) → Has (filter t (range_with_len 0 n)) i → (i < n) × (t i ≡ true)
Has-filter_range t n i h =
    let parts = Has-filter t (range_with_len 0 n) i h in
    (omega (arith, Has-range 0 n i parts.0), parts.1)

pub Has-filter_range_from : (t : ℕ → Bool) (n i : ℕ) → i < n → t i ≡ true → Has (filter t (range_with_len 0 n)) i
Has-filter_range_from t n i below passes =
    let at = get_or-range_with_len 0 n i 0 below ∙ zero-add i in
    Has-filter_from t (range_with_len 0 n) i
    (list_any_at (eqb i) (range_with_len 0 n) i 0 (rw length-range_with_len below) (eq-eqb i _ (sym at))) passes
