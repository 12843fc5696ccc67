-- The numbers of lists of labels stay valid while others are entered and while runs are marked for them.
use Rattle.std.specs.Prelude.{◌≡◌, ◌⊎◌, ℕ, suc, zero, ◌<◌, List, [], ◌∷◌, length, MatchOption, Bool, Option, Some, None, option_and_then}
use Rattle.std.specs.Prelude.{◌+◌, ◌≤◌, ◌&&◌, nat_eq, true, false, slice_get, unwrap_or, if◌then◌else◌, refl}
use Rattle.std.specs.Option.{option_map_or}
use Rattle.std.proofs.Common.{arith, ap, subst, sym, ◌∙◌, inl, inr}
use Rattle.std.proofs.lemmas.Bool.{cases_eq}
use Rattle.std.proofs.lemmas.Option.{same_Some, slice_get_past}
use Rattle.label_lists.specs.Lists.{HasPlace, ListsState, OnlyGrows, PutsOffer, labels_of, may_offer}
use Rattle.table_model.proofs.NamedOnce.{not_same}
use Rattle.table_bindings.specs.LabelNumbers.{AreListsOf, IsListOf, kept_texts, list_number, number_in, texts_in, texts_of}
use Rattle.table_bindings.specs.inner.LabelNumbers.{OnlyPuts}
use Rattle.table_bindings.specs.declared.bindings.JobBindings.{JobBindings}
use Rattle.table_bindings.specs.declared.label_numbers.ListNumbers.{ListNumbers}
use Rattle.table_bindings.specs.declared.resolved_labels.ResolvedLabels.{ResolvedLabels}

-- ---- what stays

module _ (old new : ListsState) (labels : (n : ℕ) (texts : List (List ℕ)) → labels_of old n ≡ Some texts → labels_of new n ≡ Some texts)
    (places : (n r : ℕ) → HasPlace old n r → HasPlace new n r) where
  pub still_list : (r : ℕ) (texts : Option (List (List ℕ))) (n : ℕ) → IsListOf old r texts n → IsListOf new r texts n
  still_list r texts n is = record { place = places n r is.place; says = by texts is.says }
    where
      by : (o : Option (List (List ℕ))) → (n ≡ 0) ⊎ MatchOption o ⊥ (λ ts. labels_of old n ≡ Some ts)
          → (n ≡ 0) ⊎ MatchOption o ⊥ (λ ts. labels_of new n ≡ Some ts)
      by None says = says
      by (Some ts) says =
          elim (says) [
            | inl none ↦ inl none
            | inr at ↦ inr (labels n ts at)
          ]

  pub still_lists : (r : ℕ) (jobs : List JobBindings) (numbers : List ListNumbers) → AreListsOf old r jobs numbers
      → AreListsOf new r jobs numbers
  still_lists r jobs numbers are j l = still_list r (texts_of jobs j l) (list_number numbers j l) (are j l)

pub grown_list : (old new : ListsState) → OnlyGrows old new → (r : ℕ) (texts : Option (List (List ℕ))) (n : ℕ) → IsListOf old r texts n
    → IsListOf new r texts n
grown_list old new grows = still_list old new grows.labels grows.places

pub grows_more : (old between new : ListsState) → OnlyGrows old between → OnlyGrows between new → OnlyGrows old new
grows_more old between new first next = record {
  labels = (λ n ts at. next.labels n ts (first.labels n ts at));
  places = (λ n r has. next.places n r (first.places n r has));
  offers = (λ n r. next.offers n r ∙ first.offers n r);
}

pub puts_more : (r : ℕ) (to : Bool) (old between new : ListsState) → OnlyPuts r to old between → OnlyPuts r to between new
    → OnlyPuts r to old new
puts_more r to old between new first next = record {
  labels = (λ n. next.labels n ∙ first.labels n);
  places = (λ n s has. next.places n s (first.places n s has));
  stays = (λ n is. next.stays n (first.stays n is));
  others = (λ n s other. next.others n s other ∙ first.others n s other);
}

-- ---- the numbers of the legs of a job

pub as_long : {X Y : Type 0} (xs : List X) (ys : List Y) (l : ℕ) → length xs ≡ length ys → slice_get xs l ≡ None → slice_get ys l ≡ None
as_long [] [] l same none = refl
as_long [] (y ∷ ys) l same none = absurd (omega (arith, same))
as_long (x ∷ xs) [] l same none = refl
as_long (x ∷ xs) (y ∷ ys) zero same none = cc
as_long (x ∷ xs) (y ∷ ys) (suc l) same none = as_long xs ys l (omega (arith, same)) none

pub job_numbers : (lists : ListsState) (r : ℕ) (job : JobBindings) (numbers : ListNumbers) → length numbers.legs ≡ length job.labels
    → IsListOf lists r job.plain numbers.whole
    → ((l n : ℕ) → slice_get numbers.legs l ≡ Some n → IsListOf lists r (option_and_then kept_texts (slice_get job.labels l)) n)
    → (l : ℕ) → IsListOf lists r (texts_in job l) (number_in numbers l)
job_numbers lists r job numbers many whole each l = by (slice_get numbers.legs l) refl (slice_get job.labels l) refl
  where
    by : (o : Option ℕ) → slice_get numbers.legs l ≡ o → (k : Option ResolvedLabels) → slice_get job.labels l ≡ k
        → IsListOf lists r (texts_in job l) (number_in numbers l)
    by None none None no_labels =
        subst (λ (k : Option ResolvedLabels). IsListOf lists r (option_map_or kept_texts k job.plain) (number_in numbers l)) (sym no_labels)
        (subst (λ (o : Option ℕ). IsListOf lists r job.plain (unwrap_or o numbers.whole)) (sym none) whole)
    by None none (Some w) at =
        let gone : slice_get job.labels l ≡ None = as_long numbers.legs job.labels l many none in
        let bad : Some w ≡ None = sym at ∙ gone in
        cc
    by (Some n) at None no_labels =
        let gone : slice_get numbers.legs l ≡ None = as_long job.labels numbers.legs l (sym many) no_labels in
        let bad : Some n ≡ None = sym at ∙ gone in
        cc
    by (Some n) at (Some w) kept =
        subst (λ (k : Option ResolvedLabels). IsListOf lists r (option_map_or kept_texts k job.plain) (number_in numbers l)) (sym kept)
        (subst (λ (o : Option ℕ). IsListOf lists r (kept_texts w) (unwrap_or o numbers.whole)) (sym at)
        (subst (λ (k : Option ResolvedLabels). IsListOf lists r (option_and_then kept_texts k) n) kept (each l n at)))

-- ---- a run is marked for a list, or unmarked

put_taken : (b to m : Bool) → m ≡ to → (if b then to else m) ≡ to
put_taken true to m is = refl
put_taken false to m is = is

not_both : (b : Bool) → (b && false) ≡ false
not_both true = refl
not_both false = refl

pub puts_one : (to : Bool) (number r : ℕ) (old new : ListsState) → PutsOffer to number r old new → OnlyPuts r to old new
puts_one to number r old new puts = record {
  labels = puts.labels;
  places = puts.places;
  stays = (λ n is. puts.offers n r ∙ put_taken (nat_eq n number && nat_eq r r) to (may_offer old n r) is);
  others = (λ n s other.
      puts.offers n s
      ∙ ap (λ b. if nat_eq n number && b then to else may_offer old n s) (not_same s r other)
      ∙ ap (λ b. if b then to else may_offer old n s) (not_both (nat_eq n number)));
}

pub one_more_put : (r : ℕ) (to : Bool) (old new : ListsState) → OnlyPuts r to old new → (numbers : List ℕ) (l n : ℕ)
    → slice_get numbers l ≡ Some n → may_offer new n r ≡ to
    → ((k m : ℕ) → k < l → slice_get numbers k ≡ Some m → may_offer old m r ≡ to)
    → (k m : ℕ) → k < l + 1 → slice_get numbers k ≡ Some m → may_offer new m r ≡ to
one_more_put r to old new puts numbers l n at here before k m lt is =
    elim (cases_eq k l) [
      | inl same ↦
          subst (λ (i : ℕ). may_offer new i r ≡ to) (same_Some n m (sym at ∙ ap (slice_get numbers) (sym same) ∙ is)) here
      | inr other ↦ puts.stays m (before k m (omega (arith, lt, other)) is)
    ]

-- the number of a leg, if it has one of its own, and if it has none
pub own_number : (job : ListNumbers) (l n : ℕ) → slice_get job.legs l ≡ Some n → number_in job l ≡ n
own_number job l n at = ap (λ o. unwrap_or o job.whole) at

pub whole_number : (job : ListNumbers) (l : ℕ) → slice_get job.legs l ≡ None → number_in job l ≡ job.whole
whole_number job l none = ap (λ o. unwrap_or o job.whole) none

pub past_number : (job : ListNumbers) → number_in job (length job.legs) ≡ job.whole
past_number job = whole_number job (length job.legs) (slice_get_past job.legs (length job.legs) (omega arith))

pub of_job : (numbers : List ListNumbers) (j l : ℕ) (job : ListNumbers) → slice_get numbers j ≡ Some job
    → list_number numbers j l ≡ number_in job l
of_job numbers j l job at = ap (λ o. option_map_or (λ (x : ListNumbers). number_in x l) o 0) at

pub of_none : (numbers : List ListNumbers) (j l : ℕ) → length numbers ≤ j → list_number numbers j l ≡ 0
of_none numbers j l past = ap (λ o. option_map_or (λ (x : ListNumbers). number_in x l) o 0) (slice_get_past numbers j past)

pub one_more_job : (r : ℕ) (to : Bool) (old new : ListsState) → OnlyPuts r to old new → (numbers : List ListNumbers) (j : ℕ)
    (job : ListNumbers) → slice_get numbers j ≡ Some job → ((l : ℕ) → may_offer new (number_in job l) r ≡ to)
    → ((k l : ℕ) → k < j → may_offer old (list_number numbers k l) r ≡ to)
    → (k l : ℕ) → k < j + 1 → may_offer new (list_number numbers k l) r ≡ to
one_more_job r to old new puts numbers j job at here before k l lt =
    elim (cases_eq k j) [
      | inl same ↦
          ap (λ (i : ℕ). may_offer new i r) (ap (λ (i : ℕ). list_number numbers i l) same ∙ of_job numbers j l job at) ∙ here l
      | inr other ↦ puts.stays (list_number numbers k l) (before k l (omega (arith, lt, other)))
    ]
