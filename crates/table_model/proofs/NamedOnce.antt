-- A plan names each need of a job once, so the number of times that a job is listed as a dependent of another is the number of times that
-- the other is listed among its needs.
use Rattle.std.specs.Prelude.{◌≡◌, ℕ, zero, suc, ◌+◌, ◌<◌, ◌≤◌, ◌||◌, List, [], ◌∷◌, Bool, true, false, cond}
use Rattle.std.specs.Prelude.{count_by, filter, length, map, nat_eq, refl}
use Rattle.std.specs.List.{enumerate_from, list_any, range_with_len, slice_index_or}
use Rattle.std.proofs.Common.{arith, ap, sym, ◌∙◌, ⊎_elim}
use Rattle.std.proofs.lemmas.Bool.{cases_lt, eqb-true, eq-eqb, false_from_ne_true}
use Rattle.std.proofs.lemmas.List.{get_or_past}
use Rattle.std.proofs.lemmas.List.Sums.{sum_by-cons}
use Rattle.needs_graph.specs.Needs.{dependents_of, needs_at, indexes, is_listed, needs_of}
use Rattle.definitions.specs.Rising.{JobNeeds}
use Rattle.table_model.specs.inner.NeedsLeft.{NamedOnce}

-- ---- counts of numbers

pub count_cons : {X : Type 0} (p : X → Bool) (x : X) (xs : List X) → count_by p (x ∷ xs) ≡ cond (p x) 1 0 + count_by p xs
count_cons p x xs = sum_by-cons (λ y. cond (p y) 1 0) x xs

pub count_yes : {X : Type 0} (p : X → Bool) (x : X) (xs : List X) → p x ≡ true → count_by p (x ∷ xs) ≡ 1 + count_by p xs
count_yes p x xs is = count_cons p x xs ∙ ap (λ b. cond b 1 0 + count_by p xs) is

pub count_no : {X : Type 0} (p : X → Bool) (x : X) (xs : List X) → p x ≡ false → count_by p (x ∷ xs) ≡ count_by p xs
count_no p x xs is = count_cons p x xs ∙ ap (λ b. cond b 1 0 + count_by p xs) is ∙ omega arith

pub not_same : (a b : ℕ) → (a ≡ b → ⊥) → nat_eq a b ≡ false
not_same a b differ = false_from_ne_true (nat_eq a b) (λ h. absurd (differ (eqb-true a b h)))

pub itself : (a : ℕ) → nat_eq a a ≡ true
itself a = eq-eqb a a refl

-- a job that is listed at most once is listed once or not at all
count_of_any : (j : ℕ) (ns : List ℕ) → count_by (nat_eq j) ns ≤ 1 → count_by (nat_eq j) ns ≡ cond (list_any (nat_eq j) ns) 1 0
count_of_any j [] few = refl
count_of_any j (n ∷ ns) few =
    elim (nat_eq j n) as (λ b. nat_eq j n ≡ b → count_by (nat_eq j) (n ∷ ns) ≡ cond (b || list_any (nat_eq j) ns) 1 0) [
      | true ↦ λ is. let more = count_yes (nat_eq j) n ns is in omega (arith, more, few)
      | false ↦
          λ is.
          let same = count_no (nat_eq j) n ns is in
          let less : count_by (nat_eq j) ns ≤ 1 = omega (arith, same, few) in
          same ∙ count_of_any j ns less
    ]
    refl

-- ---- the needs of a plan

-- the indices listed from `a` on contain none before `a`
none_before : {X : Type 0} (test : X → Bool) (xs : List X) (a j : ℕ) → j < a
    → count_by (nat_eq j) (map (λ e. e.0) (filter (λ e. test e.1) (enumerate_from a xs))) ≡ 0
none_before test [] a j lt = refl
none_before {X} test (x ∷ xs) a j lt =
    let later : List (ℕ × X) = filter (λ e. test e.1) (enumerate_from (a + 1) xs) in
    let rest = none_before test xs (a + 1) j (omega arith) in
    elim (test x) as (λ b. count_by (nat_eq j) (map (λ e. e.0) (cond b ((a, x) ∷ later) later)) ≡ 0) [
      | true ↦ count_no (nat_eq j) a (map (λ e. e.0) later) (not_same j a (λ e. absurd (omega (arith, e, lt)))) ∙ rest
      | false ↦ rest
    ]

-- and each of them at most once
once_each : {X : Type 0} (test : X → Bool) (xs : List X) (a j : ℕ)
    → count_by (nat_eq j) (map (λ e. e.0) (filter (λ e. test e.1) (enumerate_from a xs))) ≤ 1
once_each test [] a j = omega arith
once_each {X} test (x ∷ xs) a j =
    let later : List (ℕ × X) = filter (λ e. test e.1) (enumerate_from (a + 1) xs) in
    let ns : List ℕ = map (λ e. e.0) later in
    let rest = once_each test xs (a + 1) j in
    elim (test x) as (λ b. count_by (nat_eq j) (map (λ e. e.0) (cond b ((a, x) ∷ later) later)) ≤ 1) [
      | true ↦
          elim (nat_eq j a) as (λ b. nat_eq j a ≡ b → count_by (nat_eq j) (a ∷ ns) ≤ 1) [
            | true ↦
                λ is.
                let same = eqb-true j a is in
                let more = count_yes (nat_eq j) a ns is in
                let none = none_before test xs (a + 1) j (omega (arith, same)) in
                omega (arith, more, none)
            | false ↦ λ is. let same = count_no (nat_eq j) a ns is in omega (arith, same, rest)
          ]
          refl
      | false ↦ rest
    ]

each_once : {X : Type 0} (f : X → List ℕ) (other : ℕ) → ((x : X) → count_by (nat_eq other) (f x) ≤ 1) → (xs : List X) (j : ℕ)
    → count_by (nat_eq other) (slice_index_or (map f xs) j []) ≤ 1
each_once f other each [] j = omega arith
each_once f other each (x ∷ xs) zero = each x
each_once f other each (x ∷ xs) (suc j) = each_once f other each xs j

pub named_once : (jobs : List JobNeeds) → NamedOnce (needs_of jobs)
named_once jobs j other =
    each_once (λ (job : JobNeeds). indexes (λ (o : JobNeeds). is_listed job.needs o.id) jobs) other
    (λ job. once_each (λ (o : JobNeeds). is_listed job.needs o.id) jobs 0 other) jobs j

-- ---- the dependents of a job

none_in_range : (t : ℕ → Bool) (n a d : ℕ) → d < a → count_by (nat_eq d) (filter t (range_with_len a n)) ≡ 0
none_in_range t zero a d lt = refl
none_in_range t (suc n) a d lt =
    let rest = none_in_range t n (a + 1) d (omega arith) in
    elim (t a) as (λ b. count_by (nat_eq d) (cond b (a ∷ filter t (range_with_len (a + 1) n)) (filter t (range_with_len (a + 1) n))) ≡ 0) [
      | true ↦
          count_no (nat_eq d) a (filter t (range_with_len (a + 1) n)) (not_same d a (λ e. absurd (omega (arith, e, lt)))) ∙ rest
      | false ↦ rest
    ]

none_past_range : (t : ℕ → Bool) (n a d : ℕ) → a + n ≤ d → count_by (nat_eq d) (filter t (range_with_len a n)) ≡ 0
none_past_range t zero a d le = refl
none_past_range t (suc n) a d le =
    let rest = none_past_range t n (a + 1) d (omega arith) in
    elim (t a) as (λ b. count_by (nat_eq d) (cond b (a ∷ filter t (range_with_len (a + 1) n)) (filter t (range_with_len (a + 1) n))) ≡ 0) [
      | true ↦
          count_no (nat_eq d) a (filter t (range_with_len (a + 1) n)) (not_same d a (λ e. absurd (omega (arith, e, le)))) ∙ rest
      | false ↦ rest
    ]

first_in_range : (t : ℕ → Bool) (n a : ℕ) → count_by (nat_eq a) (filter t (range_with_len a (suc n))) ≡ cond (t a) 1 0
first_in_range t n a =
    let none = none_in_range t n (a + 1) a (omega arith) in
    elim (t a)
    as (λ b. count_by (nat_eq a) (cond b (a ∷ filter t (range_with_len (a + 1) n)) (filter t (range_with_len (a + 1) n))) ≡ cond b 1 0) [
      | true ↦ let more = count_yes (nat_eq a) a (filter t (range_with_len (a + 1) n)) (itself a) in omega (arith, more, none)
      | false ↦ none
    ]

once_in_range : (t : ℕ → Bool) (n a i : ℕ) → i < n → count_by (nat_eq (a + i)) (filter t (range_with_len a n)) ≡ cond (t (a + i)) 1 0
once_in_range t zero a i lt = absurd (omega arith)
once_in_range t (suc n) a zero lt =
    let at : a ≡ a + 0 = omega arith in
    ap (λ d. count_by (nat_eq d) (filter t (range_with_len a (suc n)))) (sym at) ∙ first_in_range t n a ∙ ap (λ d. cond (t d) 1 0) at
once_in_range t (suc n) a (suc i) lt =
    let at : (a + 1) + i ≡ a + suc i = omega arith in
    let later = filter t (range_with_len (a + 1) n) in
    let d = a + suc i in
    let rest : count_by (nat_eq d) later ≡ cond (t d) 1 0 =
    ap (λ m. count_by (nat_eq m) later) (sym at) ∙ once_in_range t n (a + 1) i (omega arith) ∙ ap (λ m. cond (t m) 1 0) at in
    elim (t a) as (λ b. count_by (nat_eq d) (cond b (a ∷ later) later) ≡ cond (t d) 1 0) [
      | true ↦ count_no (nat_eq d) a later (not_same d a (λ e. absurd (omega (arith, e)))) ∙ rest
      | false ↦ rest
    ]

pub as_often : (needs : List (List ℕ)) → NamedOnce needs → (j d : ℕ)
    → count_by (nat_eq d) (dependents_of needs j) ≡ count_by (nat_eq j) (needs_at needs d)
as_often needs once j d =
    let t : ℕ → Bool = λ other. list_any (nat_eq j) (needs_at needs other) in
    ⊎_elim
    (λ below.
    let at : 0 + d ≡ d = omega arith in
    ap (λ m. count_by (nat_eq m) (dependents_of needs j)) (sym at)
    ∙ once_in_range t (length needs) 0 d below ∙ ap (λ m. cond (t m) 1 0) at ∙ sym (count_of_any j (needs_at needs d) (once d j)))
    (λ past.
    none_past_range t (length needs) 0 d (omega (arith, past)) ∙ ap (count_by (nat_eq j)) (sym (get_or_past needs d [] past)))
    (cases_lt d (length needs))
