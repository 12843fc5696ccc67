-- Whether a ready leg of a run has a number, and which numbers its ready legs have, leg by leg and job by job.
use Rattle.std.specs.Prelude.{◌≡◌, ℕ, zero, suc, ◌+◌, ◌<◌, ◌&&◌, ◌||◌, List, [], ◌∷◌, length, Bool, true, false, nat_eq, Option, Some, None}
use Rattle.std.specs.Prelude.{slice_get, refl}
use Rattle.std.specs.List.{enumerate_from, list_any}
use Rattle.std.specs.Option.{option_map_or}
use Rattle.std.proofs.Common.{arith, ap, subst, sym, ◌∙◌, inl, inr}
use Rattle.std.proofs.lemmas.Bool.{cases_eq, or_parts, true≢false}
use Rattle.std.proofs.lemmas.Option.{same_Some, slice_get_within}
use Rattle.label_lists.specs.Lists.{ListsState, may_offer}
use Rattle.table_model.specs.inner.ActiveRuns.{has_ready_leg}
use Rattle.table_model.specs.Runs.{placed, JobState, LegState, RunState}
use Rattle.table_model.specs.Fitting.{is_ready}
use Rattle.table_bindings.specs.inner.LabelNumbers.{LegsOffer, is_ready_in, is_ready_leg, job_offers, leg_offers}
use Rattle.table_bindings.specs.LabelNumbers.{list_number}
use Rattle.table_bindings.specs.inner.LabelNumbers.{offers_list}
use Rattle.table_bindings.specs.declared.label_numbers.ListNumbers.{ListNumbers}
use Rattle.table_runs.proofs.NoneActive.{none_of}

-- ---- a test of the elements of a list with their indices

or_left : (a b : Bool) → a ≡ true → (a || b) ≡ true
or_left true b e = refl
or_left false b e = cc

or_right : (a b : Bool) → b ≡ true → (a || b) ≡ true
or_right true b e = refl
or_right false b e = e

or_none : (a b : Bool) → a ≡ false → b ≡ false → (a || b) ≡ false
or_none true b e f = cc
or_none false b e f = f

one_from : {X : Type 0} (f : ℕ × X → Bool) (xs : List X) (n i : ℕ) (x : X) → slice_get xs i ≡ Some x → f (n + i, x) ≡ true
    → list_any f (enumerate_from n xs) ≡ true
one_from f [] n i x at is = cc
one_from {X} f (y ∷ xs) n zero x at is =
    let here : n + 0 ≡ n = omega arith in
    let same : x ≡ y = sym (same_Some y x at) in
    or_left (f (n, y)) (list_any f (enumerate_from (n + 1) xs))
    (subst (λ (z : X). f (n, z) ≡ true) same (subst (λ (m : ℕ). f (m, x) ≡ true) here is))
one_from f (y ∷ xs) n (suc i) x at is =
    let later : n + suc i ≡ (n + 1) + i = omega arith in
    or_right (f (n, y)) (list_any f (enumerate_from (n + 1) xs))
    (one_from f xs (n + 1) i x at (subst (λ (m : ℕ). f (m, x) ≡ true) later is))

-- one that passes is enough
pub one_passes : {X : Type 0} (f : ℕ × X → Bool) (xs : List X) (i : ℕ) (x : X) → slice_get xs i ≡ Some x → f (i, x) ≡ true
    → list_any f (placed xs) ≡ true
one_passes {X} f xs i x at is =
    let here : i ≡ 0 + i = omega arith in
    one_from f xs 0 i x at (subst (λ (m : ℕ). f (m, x) ≡ true) here is)

none_from : {X : Type 0} (f : ℕ × X → Bool) (xs : List X) (n : ℕ) → ((i : ℕ) (x : X) → slice_get xs i ≡ Some x → f (n + i, x) ≡ false)
    → list_any f (enumerate_from n xs) ≡ false
none_from f [] n each = refl
none_from {X} f (y ∷ xs) n each =
    let here : n + 0 ≡ n = omega arith in
    let later : (i : ℕ) → n + suc i ≡ (n + 1) + i = λ i. omega arith in
    or_none (f (n, y)) (list_any f (enumerate_from (n + 1) xs)) (subst (λ (m : ℕ). f (m, y) ≡ false) here (each 0 y refl))
    (none_from f xs (n + 1) (λ i x at. subst (λ (m : ℕ). f (m, x) ≡ false) (later i) (each (suc i) x at)))

-- no element before an index passes
abbrev pub NonePasses : {X : Type 0} → (ℕ × X → Bool) → List X → ℕ → Type 0
NonePasses {X} f xs n = (i : ℕ) (x : X) → i < n → slice_get xs i ≡ Some x → f (i, x) ≡ false

pub one_more_fails : {X : Type 0} (f : ℕ × X → Bool) (xs : List X) (n : ℕ) (x : X) → slice_get xs n ≡ Some x → f (n, x) ≡ false
    → NonePasses f xs n → NonePasses f xs (n + 1)
one_more_fails {X} f xs n x at fails before i y lt is =
    elim (cases_eq i n) [
      | inl same ↦
          let it : x ≡ y = same_Some x y (sym at ∙ ap (slice_get xs) (sym same) ∙ is) in
          subst (λ (k : ℕ). f (k, y) ≡ false) (sym same) (subst (λ (z : X). f (n, z) ≡ false) it fails)
      | inr other ↦ before i y (omega (arith, lt, other)) is
    ]

pub none_passes : {X : Type 0} (f : ℕ × X → Bool) (xs : List X) → NonePasses f xs (length xs) → list_any f (placed xs) ≡ false
none_passes {X} f xs each =
    let here : (i : ℕ) → i ≡ 0 + i = λ i. omega arith in
    none_from f xs 0 (λ i x at. subst (λ (m : ℕ). f (m, x) ≡ false) (here i) (each i x (slice_get_within xs i x at) at))

pub fails_there : {X : Type 0} (f : ℕ × X → Bool) (xs : List X) (i : ℕ) (x : X) → list_any f (placed xs) ≡ false → slice_get xs i ≡ Some x
    → f (i, x) ≡ false
fails_there f xs i x none at = by (f (i, x)) refl
  where
    by : (b : Bool) → f (i, x) ≡ b → f (i, x) ≡ false
    by true is = absurd (true≢false (sym (one_passes f xs i x at is) ∙ none))
    by false is = is

-- ---- a job without a ready leg, and one whose legs have one number

pub and_false : (a b : Bool) → a ≡ false → (a && b) ≡ false
and_false true b e = cc
and_false false b e = refl

pub and_then_false : (a b : Bool) → b ≡ false → (a && b) ≡ false
and_then_false true b e = e
and_then_false false b e = refl

pub and_true : (a b : Bool) → a ≡ true → b ≡ true → (a && b) ≡ true
and_true true b e f = f
and_true false b e f = cc

pub no_leg_offers : (numbers : List ListNumbers) (number j : ℕ) (y : JobState) → has_ready_leg y ≡ false
    → job_offers numbers number (j, y) ≡ false
no_leg_offers numbers number j y none = from y.legs 0 none
  where
    from : (legs : List LegState) (n : ℕ) → list_any (λ (z : LegState). is_ready z.phase) legs ≡ false
        → list_any (leg_offers numbers number j) (enumerate_from n legs) ≡ false
    from [] n e = refl
    from (z ∷ legs) n e =
        let parts = or_parts (is_ready z.phase) (list_any (λ (x : LegState). is_ready x.phase) legs) e in
        or_none (leg_offers numbers number j (n, z)) (list_any (leg_offers numbers number j) (enumerate_from (n + 1) legs))
        (and_false (is_ready z.phase) (nat_eq (list_number numbers j n) number) parts.0) (from legs (n + 1) parts.1)

both_or : (a b c : Bool) → ((a && c) || (b && c)) ≡ ((a || b) && c)
both_or true true true = refl
both_or true true false = refl
both_or true false true = refl
both_or true false false = refl
both_or false b c = refl

pub all_offer_alike : (numbers : List ListNumbers) (number j all : ℕ) (y : JobState) → ((l : ℕ) → list_number numbers j l ≡ all)
    → has_ready_leg y ≡ true → job_offers numbers number (j, y) ≡ nat_eq all number
all_offer_alike numbers number j all y same some = from y.legs 0 ∙ ap (λ b. b && nat_eq all number) some
  where
    from : (legs : List LegState) (n : ℕ)
        → list_any (leg_offers numbers number j) (enumerate_from n legs)
        ≡ (list_any (λ (z : LegState). is_ready z.phase) legs && nat_eq all number)
    from [] n = refl
    from (z ∷ legs) n =
        ap (λ (k : ℕ). (is_ready z.phase && nat_eq k number) || list_any (leg_offers numbers number j) (enumerate_from (n + 1) legs)) (same n)
        ∙ ap (λ b. (is_ready z.phase && nat_eq all number) || b) (from legs (n + 1))
        ∙ both_or (is_ready z.phase) (list_any (λ (x : LegState). is_ready x.phase) legs) (nat_eq all number)

-- ---- the ready legs of a run in which no ready leg has the number

and_then_none : (a b : Bool) → (a && b) ≡ false → a ≡ true → b ≡ false
and_then_none true b e is = e
and_then_none false b e is = cc

pub other_number : (x : RunState) (numbers : List ListNumbers) (number : ℕ) → offers_list x numbers number ≡ false → (j l : ℕ)
    → is_ready_in x.jobs j l ≡ true → nat_eq (list_number numbers j l) number ≡ false
other_number x numbers number none j l ready = by_job (slice_get x.jobs j) refl ready
  where
    by_leg : (y : JobState) → job_offers numbers number (j, y) ≡ false → (o : Option LegState) → slice_get y.legs l ≡ o
        → option_map_or (λ (z : LegState). is_ready z.phase) o false ≡ true → nat_eq (list_number numbers j l) number ≡ false
    by_leg y fails None at is = absurd (true≢false (sym is))
    by_leg y fails (Some z) at is =
        and_then_none (is_ready z.phase) (nat_eq (list_number numbers j l) number)
        (fails_there (leg_offers numbers number j) y.legs l z fails at) is

    by_job : (o : Option JobState) → slice_get x.jobs j ≡ o
        → option_map_or (λ (y : JobState). option_map_or (λ (z : LegState). is_ready z.phase) (slice_get y.legs l) false) o false ≡ true
        → nat_eq (list_number numbers j l) number ≡ false
    by_job None at is = absurd (true≢false (sym is))
    by_job (Some y) at is = by_leg y (fails_there (job_offers numbers number) x.jobs j y none at) (slice_get y.legs l) refl is

-- ---- a run is marked for the lists of its ready legs

module _ (lists : ListsState) (numbers : List ListNumbers) (r : ℕ) where
  -- of a job, up to a leg
  abbrev pub LegsOfferUpTo : ℕ → List LegState → ℕ → Type 0
  LegsOfferUpTo j legs n =
      (l : ℕ) → l < n → is_ready_leg legs l ≡ true → may_offer lists (list_number numbers j l) r ≡ true

  -- of the jobs before `n`
  abbrev pub JobsOfferUpTo : List JobState → ℕ → Type 0
  JobsOfferUpTo jobs n =
      (j l : ℕ) → j < n → is_ready_in jobs j l ≡ true → may_offer lists (list_number numbers j l) r ≡ true

-- a job without a ready leg needs no mark
pub none_to_offer : (lists : ListsState) (numbers : List ListNumbers) (r j : ℕ) (y : JobState) → has_ready_leg y ≡ false
    → LegsOffer lists numbers r j y.legs
none_to_offer lists numbers r j y none l ready = by (slice_get y.legs l) refl ready
  where
    by : (o : Option LegState) → slice_get y.legs l ≡ o → option_map_or (λ (z : LegState). is_ready z.phase) o false ≡ true
        → may_offer lists (list_number numbers j l) r ≡ true
    by None at is = absurd (true≢false (sym is))
    by (Some z) at is = absurd (true≢false (sym is ∙ none_of (λ (x : LegState). is_ready x.phase) y.legs l z none at))
