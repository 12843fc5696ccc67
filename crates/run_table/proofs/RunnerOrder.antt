-- Runners in the order of their names: the index of the runner with a name, or the index where it would be inserted.
use Rattle.std.specs.Prelude.{◌≡◌, ◌⊎◌, ℕ, zero, suc, ◌<◌, ◌≤◌, List, [], ◌∷◌, ◌++◌, length, filter, find, not, Bool, true, false}
use Rattle.std.specs.Prelude.{cond, if◌then◌else◌, is_some, Option, Some, None, option_and_then, slice_get, slice_set, OnErr, Result, Ok}
use Rattle.std.specs.Prelude.{Err, refl}
use Rattle.std.specs.List.{AllByRecursion, insert, remove}
use Rattle.std.specs.List.Sorted.{IsPartitionedBy}
use Rattle.std.specs.Cmp.Lexicographic.{nat_list_cmp_total}
use Rattle.std.specs.Ordering.{is_lt, is_eq, ordering_reverse}
use Rattle.std.specs.declared.cmp.Ordering.TheVariants.{Less, Equal, Greater}
use Rattle.std.proofs.Common.{arith, ap, sym, ◌∙◌, subst, inl, inr, get_or, length-append}
use Rattle.std.proofs.lemmas.Bool.{and_from, cases_lt, true≢false}
use Rattle.std.proofs.lemmas.List.Elements.{filter-append}
use Rattle.std.proofs.lemmas.Map.Lookups.{exact_bytes}
use Rattle.std.proofs.lemmas.Map.Text.{is_eq-slice_cmp}
use Rattle.wf_value.specs.Gives.{Gives}
use Rattle.wf_value.specs.declared.refusal.Refusal.{Refusal}
use Rattle.wf_value.proofs.Rising.{Equal-from_same, Less-from_is_lt, after_less, earlier_below, name_cmp, rises_next, rises_rest}
use Rattle.wf_value.proofs.PassedOn.{same_Ok}
use Rattle.table_model.specs.TableState.{RunnerState, is_named, is_below, is_above, kept_named, names_rise, runner_named, with_runner, without_runner}
use Rattle.table_model.proofs.Filters.{all_filter, all_pass, filter_all, filter_drops, filter_keeps, filter_none}
use Rattle.table_model.proofs.Found.{all_weaken, all_append, each_at}

-- ---- two names

pub after_greater : (x y : List ℕ) → name_cmp x y ≡ Greater → name_cmp y x ≡ Less
after_greater x y h = nat_list_cmp_total.antisymm y x ∙ ap ordering_reverse h

-- whether it is a runner's name, by the order of names
pub named_by_order : (name : List ℕ) (x : RunnerState) → is_named name x ≡ is_eq (name_cmp x.name name)
named_by_order name x = sym (is_eq-slice_cmp x.name name)

-- ---- runners above a name

abbrev pub AreAbove : List ℕ → List RunnerState → Type 0
AreAbove name runners = AllByRecursion (λ r. name_cmp name r.name ≡ Less) runners

pub all_above : (name : List ℕ) (x : RunnerState) (xs : List RunnerState) → name_cmp name x.name ≡ Less → AreAbove x.name xs
    → AreAbove name xs
all_above name x xs lt =
    all_weaken (λ (r : RunnerState). name_cmp x.name r.name ≡ Less) (λ (r : RunnerState). name_cmp name r.name ≡ Less)
    (λ r more. nat_list_cmp_total.trans name x.name r.name lt more) xs

pub above_the_first : (x : RunnerState) (xs : List RunnerState) → names_rise (x ∷ xs) ≡ true → AreAbove x.name xs
above_the_first x [] h = tt
above_the_first x (y ∷ ys) h =
    let name = λ (r : RunnerState). r.name in
    let next = rises_next name x y ys h in
    (next, all_above x.name y ys next (above_the_first y ys (rises_rest name x (y ∷ ys) h)))

pub rise_from : (x : RunnerState) (xs : List RunnerState) → AreAbove x.name xs → names_rise xs ≡ true → names_rise (x ∷ xs) ≡ true
rise_from x [] above h = refl
rise_from x (y ∷ ys) above h = and_from _ _ (ap is_lt above.0) h

above_is_above : (name : List ℕ) (x : RunnerState) → name_cmp name x.name ≡ Less → is_above name x ≡ true
above_is_above name x h = ap is_lt h

above_not_below : (name : List ℕ) (x : RunnerState) → name_cmp name x.name ≡ Less → is_below name x ≡ false
above_not_below name x h = ap is_lt (after_less name x.name h)

above_not_named : (name : List ℕ) (x : RunnerState) → name_cmp name x.name ≡ Less → is_named name x ≡ false
above_not_named name x h = named_by_order name x ∙ ap is_eq (after_less name x.name h)

none_named : (name : List ℕ) (xs : List RunnerState) → AreAbove name xs → runner_named xs name ≡ None
none_named name [] h = refl
none_named name (x ∷ xs) h = ap (λ b. cond b (Some x) (find (is_named name) xs)) (above_not_named name x h.0) ∙ none_named name xs h.1

-- ---- the runners around a name

-- the runner of the name, or none, before those above it
pub record IsThere (runners : List RunnerState) (name : List ℕ) (back : List RunnerState) : Type 0 where
  pub runner : RunnerState
  pub is : back ≡ runner ∷ filter (is_above name) runners
  pub found : runner_named runners name ≡ Some runner
  pub named : is_named name runner ≡ true

pub record IsAbsent (runners : List RunnerState) (name : List ℕ) (back : List RunnerState) : Type 0 where
  pub is : back ≡ filter (is_above name) runners
  pub found : runner_named runners name ≡ None

pub record Around (runners : List RunnerState) (name : List ℕ) : Type 0 where
  pub back : List RunnerState
  pub whole : runners ≡ filter (is_below name) runners ++ back
  pub ends : IsThere runners name back ⊎ IsAbsent runners name back

first_below : (x : RunnerState) (xs : List RunnerState) (name : List ℕ) → name_cmp x.name name ≡ Less → Around xs name
    → Around (x ∷ xs) name
first_below x xs name lt a =
    let below : is_below name x ≡ true = ap is_lt lt in
    let not_above : is_above name x ≡ false = ap is_lt (after_less x.name name lt) in
    let other : is_named name x ≡ false = named_by_order name x ∙ ap is_eq lt in
    let above = filter_drops (is_above name) x xs not_above in
    let finds : runner_named (x ∷ xs) name ≡ runner_named xs name = ap (λ b. cond b (Some x) (find (is_named name) xs)) other in
    record {
      back = a.back;
      whole = ap (λ ys. x ∷ ys) a.whole ∙ ap (λ ys. ys ++ a.back) (sym (filter_keeps (is_below name) x xs below));
      ends = elim a.ends [
        | inl there ↦ inl (record {
          runner = there.runner;
          is = there.is ∙ ap (λ ys. there.runner ∷ ys) (sym above);
          found = finds ∙ there.found;
          named = there.named;
        })
        | inr absent ↦ inr (record { is = absent.is ∙ sym above; found = finds ∙ absent.found })
      ];
    }

module _ (xs : List RunnerState) (name : List ℕ) (above : AreAbove name xs) where
  none_below : filter (is_below name) xs ≡ []
  none_below = filter_none (is_below name) xs
      (all_weaken (λ (r : RunnerState). name_cmp name r.name ≡ Less) (λ r. is_below name r ≡ false) (above_not_below name) xs above)

  all_are_above : filter (is_above name) xs ≡ xs
  all_are_above = filter_all (is_above name) xs
      (all_weaken (λ (r : RunnerState). name_cmp name r.name ≡ Less) (λ r. is_above name r ≡ true) (above_is_above name) xs above)

all_after : (xs : List RunnerState) (name : List ℕ) → AreAbove name xs → Around xs name
all_after xs name above = record {
  back = xs;
  whole = ap (λ ys. ys ++ xs) (sym (none_below xs name above));
  ends = inr (record { is = sym (all_are_above xs name above); found = none_named name xs above });
}

first_is_it : (x : RunnerState) (xs : List RunnerState) (name : List ℕ) → name_cmp x.name name ≡ Equal → AreAbove name xs
    → Around (x ∷ xs) name
first_is_it x xs name eq above =
    let same : x.name ≡ name = exact_bytes x.name name eq in
    let back_equal : name_cmp name x.name ≡ Equal = Equal-from_same name x.name (sym same) in
    let not_below : is_below name x ≡ false = ap is_lt eq in
    let not_above : is_above name x ≡ false = ap is_lt back_equal in
    let named : is_named name x ≡ true = named_by_order name x ∙ ap is_eq eq in
    record {
      back = x ∷ xs;
      whole = ap (λ ys. ys ++ (x ∷ xs)) (sym (filter_drops (is_below name) x xs not_below ∙ none_below xs name above));
      ends = inl (record {
        runner = x;
        is = ap (λ ys. x ∷ ys) (sym (filter_drops (is_above name) x xs not_above ∙ all_are_above xs name above));
        found = ap (λ b. cond b (Some x) (find (is_named name) xs)) named;
        named = named;
      });
    }

pub around : (runners : List RunnerState) (name : List ℕ) → names_rise runners ≡ true → Around runners name
around [] name h = record { back = []; whole = refl; ends = inr (record { is = refl; found = refl }) }
around (x ∷ xs) name h =
    let later = above_the_first x xs h in
    elim (name_cmp x.name name) as (λ o. name_cmp x.name name ≡ o → Around (x ∷ xs) name) [
      | Less ↦ λ lt. first_below x xs name lt (around xs name (rises_rest (λ (r : RunnerState). r.name) x xs h))
      | Equal ↦ λ eq. first_is_it x xs name eq (subst (λ (n : List ℕ). AreAbove n xs) (exact_bytes x.name name eq) later)
      | Greater ↦ λ gt.
          let above = after_greater x.name name gt in
          all_after (x ∷ xs) name (above, all_above name x xs above later)
    ] refl

-- ---- a search for the name

-- a runner before one that is below the name is below it too
pub parted_by_name : (runners : List RunnerState) (name : List ℕ) → names_rise runners ≡ true → IsPartitionedBy (is_below name) runners
parted_by_name runners name h i j d le within below =
    elim (cases_lt i j) [
      | inl before ↦
          ap is_lt (nat_list_cmp_total.trans (get_or runners i d).name (get_or runners j d).name name
          (earlier_below (λ (r : RunnerState). r.name) runners i j d h before within) (Less-from_is_lt _ below))
      | inr not_before ↦
          let same : i ≡ j = omega (arith, le, not_before) in
          subst (λ (k : ℕ). is_below name (get_or runners k d) ≡ true) (sym same) below
    ]

at_the_seam : {X : Type 0} (prefix back : List X) → slice_get (prefix ++ back) (length prefix) ≡ slice_get back 0
at_the_seam [] back = refl
at_the_seam (x ∷ prefix) back = at_the_seam prefix back

set_at_the_seam : {X : Type 0} (prefix back : List X) (x y : X) → slice_set (prefix ++ x ∷ back) (length prefix) y ≡ prefix ++ y ∷ back
set_at_the_seam [] back x y = refl
set_at_the_seam (z ∷ prefix) back x y = ap (λ ys. z ∷ ys) (set_at_the_seam prefix back x y)

removed_at_the_seam : {X : Type 0} (prefix back : List X) (x : X) → remove (prefix ++ x ∷ back) (length prefix) ≡ prefix ++ back
removed_at_the_seam [] back x = refl
removed_at_the_seam (z ∷ prefix) back x = ap (λ ys. z ∷ ys) (removed_at_the_seam prefix back x)

-- a runner of another name
abbrev is_another : List ℕ → RunnerState → Bool
is_another name runner = not (is_named name runner)

inserted_at_the_seam : {X : Type 0} (prefix back : List X) (y : X) → insert (prefix ++ back) (length prefix) y ≡ prefix ++ y ∷ back
inserted_at_the_seam [] back y = refl
inserted_at_the_seam (z ∷ prefix) back y = ap (λ ys. z ∷ ys) (inserted_at_the_seam prefix back y)

module _ (runners : List RunnerState) (name : List ℕ) (h : names_rise runners ≡ true) (index : ℕ)
    (at : index ≡ length (filter (is_below name) runners)) where
  stands : slice_get runners index ≡ slice_get (around runners name h).back 0
  stands =
      let a = around runners name h in
      ap (slice_get runners) at ∙ ap (λ xs. slice_get xs (length (filter (is_below name) runners))) a.whole
      ∙ at_the_seam (filter (is_below name) runners) a.back

  not_above : (back : List RunnerState) → back ≡ filter (is_above name) runners → (x : RunnerState) → slice_get back 0 ≡ Some x
      → is_named name x ≡ false
  not_above back is x e =
      let passes = each_at (λ (r : RunnerState). is_above name r ≡ true) (filter (is_above name) runners) 0 x
      (all_pass (is_above name) runners) (ap (λ xs. slice_get xs 0) (sym is) ∙ e) in
      above_not_named name x (Less-from_is_lt _ passes)

  nothing_kept : (o : Option RunnerState) → ((x : RunnerState) → o ≡ Some x → is_named name x ≡ false)
      → option_and_then (kept_named name) o ≡ None
  nothing_kept None h = refl
  nothing_kept (Some x) h = ap (λ b. if b then Some x else None) (h x refl)

  -- the runner of the name is at the index, or no runner has the name
  pub found_there : option_and_then (kept_named name) (slice_get runners index) ≡ runner_named runners name
  found_there =
      let a = around runners name h in
      ap (option_and_then (kept_named name)) stands ∙ elim a.ends [
        | inl there ↦
            ap (λ xs. option_and_then (kept_named name) (slice_get xs 0)) there.is
            ∙ ap (λ b. if b then Some there.runner else None) there.named ∙ sym there.found
        | inr absent ↦ nothing_kept (slice_get a.back 0) (not_above a.back absent.is) ∙ sym absent.found
      ]

  absent_is_unknown : (o : Option RunnerState) → o ≡ None → is_some o ≡ true → ⊥
  absent_is_unknown o none known = true≢false (sym known ∙ ap is_some none)

  there_is_known : (o : Option RunnerState) (x : RunnerState) → o ≡ Some x → is_some o ≡ false → ⊥
  there_is_known o x found unknown = true≢false (sym (ap is_some found) ∙ unknown)

  -- the index is within the list if a runner has the name
  pub place_within : is_some (runner_named runners name) ≡ true → index < length runners
  place_within known =
      let a = around runners name h in
      elim a.ends [
        | inl there ↦
            let long = ap length a.whole ∙ length-append (filter (is_below name) runners) a.back in
            let more = ap length there.is in
            omega (arith, at, long, more)
        | inr absent ↦ absurd (absent_is_unknown (runner_named runners name) absent.found known)
      ]

  pub place_in_range : index ≤ length runners
  place_in_range =
      let a = around runners name h in
      let long = ap length a.whole ∙ length-append (filter (is_below name) runners) a.back in
      omega (arith, at, long)

  pub put_over : (new : RunnerState) → is_some (runner_named runners name) ≡ true → new.name ≡ name
      → slice_set runners index new ≡ with_runner runners new
  put_over new known same =
      let a = around runners name h in
      let prefix = filter (is_below name) runners in
      elim a.ends [
        | inl there ↦
            ap (λ n. slice_set runners n new) at
            ∙ ap (λ xs. slice_set xs (length prefix) new) (a.whole ∙ ap (λ back. prefix ++ back) there.is)
            ∙ set_at_the_seam prefix (filter (is_above name) runners) there.runner new
            ∙ ap (λ n. filter (is_below n) runners ++ new ∷ filter (is_above n) runners) (sym same)
        | inr absent ↦ absurd (absent_is_unknown (runner_named runners name) absent.found known)
      ]

  pub put_between : (new : RunnerState) → is_some (runner_named runners name) ≡ false → new.name ≡ name
      → insert runners index new ≡ with_runner runners new
  put_between new unknown same =
      let a = around runners name h in
      let prefix = filter (is_below name) runners in
      elim a.ends [
        | inl there ↦ absurd (there_is_known (runner_named runners name) there.runner there.found unknown)
        | inr absent ↦
            ap (λ n. insert runners n new) at
            ∙ ap (λ xs. insert xs (length prefix) new) (a.whole ∙ ap (λ back. prefix ++ back) absent.is)
            ∙ inserted_at_the_seam prefix (filter (is_above name) runners) new
            ∙ ap (λ n. filter (is_below n) runners ++ new ∷ filter (is_above n) runners) (sym same)
      ]

  -- the runner of the name is removed
  pub taken_out : is_some (runner_named runners name) ≡ true → remove runners index ≡ without_runner runners name
  taken_out known =
      let a = around runners name h in
      let prefix = filter (is_below name) runners in
      let later = filter (is_above name) runners in
      elim a.ends [
        | inl there ↦
            let whole : runners ≡ prefix ++ there.runner ∷ later = a.whole ∙ ap (λ back. prefix ++ back) there.is in
            ap (remove runners) at ∙ ap (λ xs. remove xs (length prefix)) whole ∙ removed_at_the_seam prefix later there.runner
            ∙ sym (ap (λ xs. without_runner xs name) whole ∙ filter-append (is_another name) prefix (there.runner ∷ later)
            ∙ ap (λ xs. xs ++ filter (is_another name) (there.runner ∷ later))
            (filter_all (is_another name) prefix (all_weaken (λ r. is_below name r ≡ true) (λ r. is_another name r ≡ true)
            (λ r e. ap not (named_by_order name r ∙ ap is_eq (Less-from_is_lt _ e))) prefix (all_pass (is_below name) runners)))
            ∙ ap (λ xs. prefix ++ xs) (filter_drops (is_another name) there.runner later (ap not there.named)
            ∙ filter_all (is_another name) later (all_weaken (λ r. is_above name r ≡ true) (λ r. is_another name r ≡ true)
            (λ r e. ap not (above_not_named name r (Less-from_is_lt _ e))) later (all_pass (is_above name) runners))))
        | inr absent ↦ absurd (absent_is_unknown (runner_named runners name) absent.found known)
      ]

-- ---- the order is kept

pub rise_filtered : (test : RunnerState → Bool) (xs : List RunnerState) → names_rise xs ≡ true → names_rise (filter test xs) ≡ true
rise_filtered test [] h = refl
rise_filtered test (x ∷ xs) h =
    let rest = rise_filtered test xs (rises_rest (λ (r : RunnerState). r.name) x xs h) in
    elim (test x) as (λ b. names_rise (cond b (x ∷ filter test xs) (filter test xs)) ≡ true) [
      | true ↦
          rise_from x (filter test xs)
          (all_filter test (λ (r : RunnerState). name_cmp x.name r.name ≡ Less) xs (above_the_first x xs h)) rest
      | false ↦ rest
    ]

rise_around : (prefix back : List RunnerState) (new : RunnerState) → names_rise prefix ≡ true
    → AllByRecursion (λ r. is_below new.name r ≡ true) prefix → names_rise back ≡ true → AreAbove new.name back
    → names_rise (prefix ++ new ∷ back) ≡ true
rise_around [] back new h below k above = rise_from new back above k
rise_around (x ∷ prefix) back new h below k above =
    let lt : name_cmp x.name new.name ≡ Less = Less-from_is_lt _ below.0 in
    rise_from x (prefix ++ new ∷ back)
    (all_append (λ (r : RunnerState). name_cmp x.name r.name ≡ Less) prefix (new ∷ back) (above_the_first x prefix h)
    (lt, all_above x.name new back lt above))
    (rise_around prefix back new (rises_rest (λ (r : RunnerState). r.name) x prefix h) below.1 k above)

pub names_still_rise : (runners : List RunnerState) (new : RunnerState) → names_rise runners ≡ true
    → names_rise (with_runner runners new) ≡ true
names_still_rise runners new h =
    rise_around (filter (is_below new.name) runners) (filter (is_above new.name) runners) new
    (rise_filtered (is_below new.name) runners h) (all_pass (is_below new.name) runners) (rise_filtered (is_above new.name) runners h)
    (all_weaken (λ r. is_above new.name r ≡ true) (λ (r : RunnerState). name_cmp new.name r.name ≡ Less) (λ r e. Less-from_is_lt _ e)
    (filter (is_above new.name) runners) (all_pass (is_above new.name) runners))

-- a call that inserted a runner, or left the runners unchanged
pub put_keeps_order : (old new : List RunnerState) (x : RunnerState) (r : Result (Unit {0}) Refusal) → names_rise old ≡ true
    → Gives (λ (_ : Unit {0}). new) r (Ok (with_runner old x)) → OnErr r (new ≡ old) → names_rise new ≡ true
put_keeps_order old new x (Ok done) rise gave kept =
    ap names_rise (sym (same_Ok (with_runner old x) new gave)) ∙ names_still_rise old x rise
put_keeps_order old new x (Err e) rise gave kept = ap names_rise kept ∙ rise
