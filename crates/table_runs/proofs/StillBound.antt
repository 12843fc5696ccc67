-- A run that changes keeps its bindings.
use Rattle.std.specs.Prelude.{◌≡◌, ℕ, zero, suc, ◌<◌, ◌≤◌, List, [], ◌∷◌, ◌++◌, length, true, Some, option_map, slice_get, slice_set, refl}
use Rattle.std.proofs.Common.{arith, ap, inl, inr, sym, subst, ◌∙◌, get_or}
use Rattle.std.proofs.lemmas.Bool.{cases_eq}
use Rattle.std.proofs.lemmas.List.{length-append, length-set}
use Rattle.std.proofs.lemmas.Option.{same_Some, slice_get_within}
use Rattle.definitions.specs.SmallText.{Admitted}
use Rattle.label_lists.specs.Lists.{ListsState, OnlyGrows}
use Rattle.run_marks.specs.Marked.{Puts, SameMarks}
use Rattle.table_model.specs.inner.ActiveRuns.{is_active}
use Rattle.table_model.specs.Runs.{changed_at, RunState}
use Rattle.table_model.specs.Groups.{RunFacts, run_facts, run_facts_at}
use Rattle.table_model.specs.LegContext.{events}
use Rattle.table_model.proofs.Changed.{at_another, at_changed}
use Rattle.table_model.proofs.Optional.{from_map}
use Rattle.table_bindings.specs.Bindings.{AreBound, RunSays}
use Rattle.table_bindings.specs.LabelNumbers.{AreListsOf}
use Rattle.table_bindings.specs.inner.LabelNumbers.{IsOffered, JobsOffer, LegsAreOffered, OnlyPuts}
use Rattle.table_bindings.specs.declared.bindings.RunBindings.{RunBindings}
use Rattle.table_bindings.proofs.Binding.{one_more as one_more_bound}
use Rattle.table_bindings.proofs.BoundSays.{run_told}
use Rattle.settling_laws.proofs.GroupStays.{same_run_facts}
use Rattle.indexmap.specs.IndexMap.{get_by_text}
use Rattle.table_runs.specs.inner.Counted.{AreCounted, count_of}
use Rattle.table_runs.specs.inner.Delivered.{FindsFirst}
use Rattle.table_runs.specs.inner.RowsKept.{RunsAreKept}
use Rattle.table_runs.specs.declared.rows.index.Index.{Index}
use Rattle.table_runs.proofs.Indexed.{finds_the_same}
use Rattle.table_runs.proofs.LegsOffered.{offered_grown, offered_with}
use Rattle.table_runs.proofs.MarkedRuns.{roomier, set_other, written}

-- ---- one run changed

events_kept : (xs : List RunState) (r : ℕ) (x y : RunState) → r < length xs → x ≡ get_or xs r x → y.admitted ≡ x.admitted
    → events (slice_set xs r y) ≡ events xs
events_kept [] r x y lt is same = absurd (omega arith)
events_kept (z ∷ xs) zero x y lt is same = ap (λ e. e ∷ events xs) (same ∙ ap (λ w. w.admitted) is)
events_kept (z ∷ xs) (suc r) x y lt is same = ap (λ es. z.admitted ∷ es) (events_kept xs r x y (omega arith) is same)

length_kept : (xs : List RunState) (r : ℕ) (y : RunState) → length (slice_set xs r y) ≡ length xs
length_kept xs r y = length-set xs r y

read_kept : {X : Type 0} (f : RunState → X) (xs : List RunState) (r k : ℕ) (x y : RunState) → r < length xs → x ≡ get_or xs r x → f y ≡ f x
    → option_map f (slice_get (slice_set xs r y) k) ≡ option_map f (slice_get xs k)
read_kept f [] r k x y lt is same = absurd (omega arith)
read_kept f (z ∷ xs) zero zero x y lt is same = ap (λ v. Some v) (same ∙ ap f is)
read_kept f (z ∷ xs) zero (suc k) x y lt is same = refl
read_kept f (z ∷ xs) (suc r) zero x y lt is same = refl
read_kept f (z ∷ xs) (suc r) (suc k) x y lt is same = read_kept f xs r k x y (omega arith) is same

facts_kept : (xs : List RunState) (r k : ℕ) (x y : RunState) → r < length xs → x ≡ get_or xs r x → run_facts y ≡ run_facts x
    → run_facts_at (slice_set xs r y) k ≡ run_facts_at xs k
unfolding run_facts_at
facts_kept xs r k x y lt is same = read_kept run_facts xs r k x y lt is same

still_bound : (xs : List RunState) (kept : List RunBindings) (r : ℕ) (x y : RunState) → r < length xs → x ≡ get_or xs r x
    → run_facts y ≡ run_facts x → AreBound xs kept → AreBound (slice_set xs r y) kept
still_bound xs kept r x y lt is same are = record {
  as_many = omega (arith, length_kept xs r y, are.as_many);
  each = (λ k run groups of_run is_kept. are.each k run groups (sym (facts_kept xs r k x y lt is same) ∙ of_run) is_kept);
}

-- a run is replaced by one with the same facts
pub still_kept : (xs : List RunState) (kept : List RunBindings) (index : Index) (lists : ListsState) (active active' : List ℕ) (r : ℕ)
    (x y : RunState) → LegsAreOffered (slice_set xs r y) kept lists → r < length xs → x ≡ get_or xs r x → run_facts y ≡ run_facts x
    → length active' ≡ length active → Puts true r active active' → RunsAreKept xs kept index active
    → RunsAreKept (slice_set xs r y) kept (record index { lists = lists }) active'
still_kept xs kept index lists active active' r x y offered lt is same as_long puts are =
    let stay : events (slice_set xs r y) ≡ events xs = events_kept xs r x y lt is (ap (λ (f : RunFacts). f.event) same) in
    record {
      few = omega (arith, length_kept xs r y, are.few);
      bound = still_bound xs kept r x y lt is same are.bound;
      found = subst (λ (es : List Admitted). FindsFirst es index.deliveries.indexes) (sym stay) are.found;
      counted = subst (λ (es : List Admitted). AreCounted es index.counts.counts) (sym stay) are.counted;
      active = written is_active xs active active' r y as_long puts are.active;
      offered = offered;
    }

-- the same runs, with another index that finds and counts the same
pub kept_in : (xs : List RunState) (kept : List RunBindings) (old new : Index) (active : List ℕ)
    → ((d : List ℕ) → get_by_text new.deliveries.indexes d ≡ get_by_text old.deliveries.indexes d)
    → ((event : Admitted) → count_of new.counts.counts event ≡ count_of old.counts.counts event) → new.lists ≡ old.lists
    → RunsAreKept xs kept old active → RunsAreKept xs kept new active
kept_in xs kept old new active found counted lists are = record {
  few = are.few;
  bound = are.bound;
  found = finds_the_same (events xs) old.deliveries.indexes new.deliveries.indexes found are.found;
  counted = (λ event. counted event ∙ are.counted event);
  active = are.active;
  offered = subst (LegsAreOffered xs kept) (sym lists) are.offered;
}

-- the same runs, with more room for marks
pub kept_roomier : (xs : List RunState) (kept : List RunBindings) (index : Index) (active active' : List ℕ)
    → SameMarks active active' → length active ≤ length active' → RunsAreKept xs kept index active
    → RunsAreKept xs kept index active'
kept_roomier xs kept index active active' same longer are = record {
  few = are.few;
  bound = are.bound;
  found = are.found;
  counted = are.counted;
  active = roomier (λ _ x. is_active x) xs active active' same longer are.active;
  offered = are.offered;
}

-- and after lists of labels are entered
pub kept_grown : (xs : List RunState) (kept : List RunBindings) (index : Index) (active : List ℕ) (lists : ListsState)
    → OnlyGrows index.lists lists → RunsAreKept xs kept index active
    → RunsAreKept xs kept (record index { lists = lists }) active
kept_grown xs kept index active lists grows are = record {
  few = are.few;
  bound = are.bound;
  found = are.found;
  counted = are.counted;
  active = are.active;
  offered = offered_grown xs kept index.lists lists grows are.offered;
}

-- ---- keys of groups are decided, or brought to their groups

-- the same bindings with other keys
pub record SameButKeys (was now : RunBindings) : Type 0 where
  pub own : now.own ≡ was.own
  pub jobs : now.jobs ≡ was.jobs
  pub lists : now.lists ≡ was.lists

with_keys : (was now : RunBindings) → SameButKeys was now → record was { keys = now.keys } ≡ now
with_keys was now same =
    ap (λ o. record was { own = o; keys = now.keys }) (sym same.own)
    ∙ ap (λ js. record was { own = now.own; jobs = js; keys = now.keys }) (sym same.jobs)
    ∙ ap (λ ls. record was { own = now.own; jobs = now.jobs; lists = ls; keys = now.keys }) (sym same.lists)

pub says_still : (run : RunFacts) (was now : RunBindings) → SameButKeys was now → RunSays run was → RunSays run now
says_still run was now same says =
    subst (RunSays run) (with_keys was now same) (record { own = says.own; as_many = says.as_many; jobs = says.jobs })

pub lists_still : (lists : ListsState) (r : ℕ) (was now : RunBindings) → SameButKeys was now → AreListsOf lists r was.jobs was.lists
    → AreListsOf lists r now.jobs now.lists
lists_still lists r was now same are = subst (λ (k : RunBindings). AreListsOf lists r k.jobs k.lists) (with_keys was now same) are

module _ (xs : List RunState) (kept now : List RunBindings) (index : Index) (active : List ℕ) (many : length now ≡ length kept)
    (same : (r : ℕ) (b : RunBindings) → slice_get now r ≡ Some b → (was : RunBindings) × (slice_get kept r ≡ Some was) × SameButKeys was b)
    (are : RunsAreKept xs kept index active) where
  pub kept_rekeyed : RunsAreKept xs now index active
  kept_rekeyed = record {
    few = are.few;
    bound = record {
      as_many = many ∙ are.bound.as_many;
      each = (λ r run b of_run at.
          let was = same r b at in says_still run was.0 b was.2 (are.bound.each r run was.0 of_run was.1));
    };
    found = are.found;
    counted = are.counted;
    active = are.active;
    offered = record {
      numbers = (λ r b at.
          let was = same r b at in lists_still index.lists r was.0 b was.2 (are.offered.numbers r was.0 was.1));
      offered = (λ p b ready at.
          let was = same p.run b at in
          subst (λ (k : RunBindings). IsOffered index.lists k p) (with_keys was.0 b was.2) (are.offered.offered p was.0 ready was.1));
    };
  }

-- one run's
pub one_rekeyed : (r : ℕ) (f : RunBindings → RunBindings) (kept : List RunBindings) → ((b : RunBindings) → SameButKeys b (f b)) → (s : ℕ)
    (b : RunBindings) → slice_get (changed_at r f kept) s ≡ Some b → (was : RunBindings) × (slice_get kept s ≡ Some was) × SameButKeys was b
one_rekeyed r f kept same s b at =
    elim (cases_eq s r) [
      | inl here ↦
          let from = from_map f (slice_get kept r) b (sym (at_changed r f kept) ∙ ap (slice_get (changed_at r f kept)) (sym here) ∙ at) in
          (from.value, ap (slice_get kept) here ∙ from.is, subst (SameButKeys from.value) from.gives (same from.value))
      | inr other ↦ (b, sym (at_another r f kept s other) ∙ at, record { own = refl; jobs = refl; lists = refl })
    ]

-- ---- one more run

prefix_same : {X : Type 0} (xs : List X) (x : X) (s : ℕ) → s < length xs → slice_get (xs ++ x ∷ []) s ≡ slice_get xs s
prefix_same [] x s lt = absurd (omega arith)
prefix_same (y ∷ xs) x zero lt = refl
prefix_same (y ∷ xs) x (suc s) lt = prefix_same xs x s (omega arith)

at_end : {X : Type 0} (xs : List X) (x : X) (n : ℕ) → n ≡ length xs → slice_get (xs ++ x ∷ []) n ≡ Some x
at_end [] x zero is = refl
at_end [] x (suc n) is = absurd (omega (arith, is))
at_end (y ∷ xs) x zero is = absurd (omega (arith, is))
at_end (y ∷ xs) x (suc n) is = at_end xs x n (omega (arith, is))

pub added_bound : (runs : List RunState) (run : RunState) (kept : List RunBindings) (requested : RunBindings) → AreBound runs kept
    → RunSays (run_facts run) requested → AreBound (runs ++ run ∷ []) (kept ++ requested ∷ [])
added_bound runs run kept requested bound says =
    let next = runs ++ run ∷ [] in
    let many = bound.as_many in
    let its_facts : run_facts_at next (length runs) ≡ Some (run_facts run) = run_told next (length runs) run (at_end runs run (length runs) refl) in
    record {
      as_many = omega (arith, length-append runs (run ∷ []), length-append kept (requested ∷ []), many);
      each = (λ r facts groups of_run is.
          one_more_bound (λ k g. (f : RunFacts) → run_facts_at next k ≡ Some f → RunSays f g) kept requested
          (λ k g at f known.
          let within : k < length kept = slice_get_within kept k g at in
          bound.each k f g (sym (same_run_facts runs next k (prefix_same runs run k (omega (arith, many, within)))) ∙ known) at)
          (λ f known.
          let same = same_Some (run_facts run) f (sym its_facts ∙ sym (ap (run_facts_at next) many) ∙ known) in
          subst (λ (v : RunFacts). RunSays v requested) same says) r groups is facts of_run);
    }

beside_end : {X : Type 0} (xs : List X) (x : X) (s : ℕ) → (s ≡ length xs → ⊥) → slice_get (xs ++ x ∷ []) s ≡ slice_get xs s
beside_end [] x zero other = absurd (other refl)
beside_end [] x (suc s) other = refl
beside_end (y ∷ xs) x zero other = refl
beside_end (y ∷ xs) x (suc s) other = beside_end xs x s (λ e. other (ap (λ n. suc n) e))

-- and it is marked for each of its ready legs
pub offered_added : (runs : List RunState) (run : RunState) (kept : List RunBindings) (requested : RunBindings) (old new : ListsState) (r : ℕ)
    → r ≡ length runs → length kept ≡ length runs → AreListsOf old r requested.jobs requested.lists
    → JobsOffer new requested.lists r run.jobs → OnlyPuts r true old new
    → LegsAreOffered runs kept old → LegsAreOffered (runs ++ run ∷ []) (kept ++ requested ∷ []) new
offered_added runs run kept requested old new r end many itself all puts are =
    offered_with runs (runs ++ run ∷ []) kept (kept ++ requested ∷ []) old new r run requested (at_end runs run r end)
    (at_end kept requested r (end ∙ sym many)) (λ s other. beside_end runs run s (λ e. other (e ∙ sym end)))
    (λ s other. beside_end kept requested s (λ e. other (e ∙ many ∙ sym end))) itself all puts are

-- ---- a run in its next attempt

pub set_here : {X : Type 0} (xs : List X) (r : ℕ) (y : X) → r < length xs → slice_get (slice_set xs r y) r ≡ Some y
set_here [] r y lt = absurd (omega arith)
set_here (z ∷ xs) zero y lt = refl
set_here (z ∷ xs) (suc r) y lt = set_here xs r y (omega arith)

-- its bindings replace those of the attempt before
pub bound_again : (xs : List RunState) (kept : List RunBindings) (r : ℕ) (y : RunState) (requested : RunBindings) → r < length xs
    → RunSays (run_facts y) requested → AreBound xs kept → AreBound (slice_set xs r y) (slice_set kept r requested)
bound_again xs kept r y requested lt says are =
    let next = slice_set xs r y in
    record {
      as_many = omega (arith, length-set kept r requested, length_kept xs r y, are.as_many);
      each = (λ k run groups of_run is_kept.
          elim (cases_eq k r) [
            | inl here ↦
                let facts = same_Some (run_facts y) run (sym (run_told next r y (set_here xs r y lt)) ∙ ap (run_facts_at next) (sym here) ∙ of_run) in
                let group = same_Some requested groups
                (sym (set_here kept r requested (omega (arith, lt, are.as_many))) ∙ ap (slice_get (slice_set kept r requested)) (sym here) ∙ is_kept) in
                subst (λ (f : RunFacts). RunSays f groups) facts (subst (RunSays (run_facts y)) group says)
            | inr other ↦
                are.each k run groups (sym (same_run_facts xs next k (set_other xs r k y other)) ∙ of_run)
                (sym (set_other kept r k requested other) ∙ is_kept)
          ]);
    }

pub offered_again : (xs : List RunState) (kept : List RunBindings) (old new : ListsState) (r : ℕ) (y : RunState) (requested : RunBindings)
    → r < length xs → length kept ≡ length xs → AreListsOf old r requested.jobs requested.lists
    → JobsOffer new requested.lists r y.jobs → OnlyPuts r true old new
    → LegsAreOffered xs kept old → LegsAreOffered (slice_set xs r y) (slice_set kept r requested) new
offered_again xs kept old new r y requested within many itself all puts are =
    offered_with xs (slice_set xs r y) kept (slice_set kept r requested) old new r y requested (set_here xs r y within)
    (set_here kept r requested (omega (arith, within, many))) (λ s other. set_other xs r s y other)
    (λ s other. set_other kept r s requested other) itself all puts are

pub kept_again : (xs : List RunState) (kept : List RunBindings) (index : Index) (lists : ListsState) (active active' : List ℕ) (r : ℕ)
    (x y : RunState) (requested : RunBindings) → LegsAreOffered (slice_set xs r y) (slice_set kept r requested) lists → r < length xs
    → x ≡ get_or xs r x → y.admitted ≡ x.admitted → RunSays (run_facts y) requested → length active' ≡ length active
    → Puts true r active active' → RunsAreKept xs kept index active
    → RunsAreKept (slice_set xs r y) (slice_set kept r requested) (record index { lists = lists }) active'
kept_again xs kept index lists active active' r x y requested offered lt is same says as_long puts are =
    let stay : events (slice_set xs r y) ≡ events xs = events_kept xs r x y lt is same in
    record {
      few = omega (arith, length_kept xs r y, are.few);
      bound = bound_again xs kept r y requested lt says are.bound;
      found = subst (λ (es : List Admitted). FindsFirst es index.deliveries.indexes) (sym stay) are.found;
      counted = subst (λ (es : List Admitted). AreCounted es index.counts.counts) (sym stay) are.counted;
      active = written is_active xs active active' r y as_long puts are.active;
      offered = offered;
    }
