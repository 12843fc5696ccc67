-- Runs whose ids and numbers follow from their places: with one more run, with the same identities, and as the runs of their parts.
use Rattle.std.specs.Prelude.{◌≡◌, ℕ, zero, suc, ◌+◌, ◌&&◌, List, [], ◌∷◌, ◌++◌, map, length, take, count_by, cond, Bool, true}
use Rattle.std.specs.Prelude.{Option, Some, None, option_map, slice_get, refl}
use Rattle.std.specs.List.{fold}
use Rattle.std.specs.Str.{bytes_eq}
use Rattle.std.proofs.Common.{arith, ap, ap₂, inl, inr, subst, sym, ◌∙◌, length-append}
use Rattle.std.proofs.lemmas.Bool.{cases_eq}
use Rattle.std.proofs.lemmas.List.{take_all, take-append-le}
use Rattle.std.proofs.lemmas.List.Sums.{sum_by-append}
use Rattle.std.proofs.lemmas.Option.{same_Some, slice_get-map, slice_get_within}
use Rattle.std.proofs.lemmas.Slice.Eq.{bytes_eq-Decides}
use Rattle.definitions.specs.SmallText.{Admitted}
use Rattle.wf_reader.specs.Event.{event_of}
use Rattle.table_model.specs.Forgotten.{ForgottenRuns, forgotten_of, number_of_next}
use Rattle.table_model.specs.LegContext.{events, runs_of_workflow, same_workflow}
use Rattle.table_model.specs.Parts.{AreRunsOf, RunParts, run_of_parts, stored_run}
use Rattle.table_model.specs.Runs.{run_at, RunState}
use Rattle.table_model.specs.Sound.{IdsFollow, NumbersFollow}
use Rattle.table_model.proofs.Found.{at_the_end, before_the_end}
use Rattle.table_model.proofs.Identity.{Identity, identity_at, identity_in, identity_of, same_admitted}
use Rattle.table_model.proofs.OneAfterAnother.{grown}
use Rattle.table_model.proofs.Optional.{from_map}
use Rattle.table_model.proofs.RunFits.{admitted_at}

-- ---- counting

pub count_end : {X : Type 0} (test : X → Bool) (xs : List X) (y : X) → test y ≡ true → count_by test (xs ++ y ∷ []) ≡ count_by test xs + 1
count_end test xs y is =
    sum_by-append (λ x. cond (test x) 1 0) xs (y ∷ []) ∙ ap (λ b. count_by test xs + (0 + cond b 1 0)) is

pub same_as_itself : (e : Admitted) → same_workflow e e ≡ true
same_as_itself e =
    let repo = (bytes_eq-Decides (event_of e.body).repo (event_of e.body).repo).1 refl in
    let path = (bytes_eq-Decides (event_of e.body).path (event_of e.body).path).1 refl in
    ap (λ b. b && bytes_eq (event_of e.body).path (event_of e.body).path) repo ∙ path

fold_of_map : {X Y : Type 0} (g : ℕ → Y → ℕ) (f : X → Y) (a : ℕ) (xs : List X) → fold (λ b x. g b (f x)) a xs ≡ fold g a (map f xs)
fold_of_map g f a [] = refl
fold_of_map g f a (x ∷ xs) = fold_of_map g f (g a (f x)) xs

pub count_of_map : {X Y : Type 0} (test : Y → Bool) (f : X → Y) (xs : List X) → count_by (λ x. test (f x)) xs ≡ count_by test (map f xs)
count_of_map test f xs = fold_of_map (λ a y. a + cond (test y) 1 0) f 0 xs

-- ---- one more run

pub ids_more : (forgotten : ForgottenRuns) (runs : List RunState) (run : RunState) → run.id ≡ forgotten.through + length runs + 1
    → IdsFollow forgotten runs → IdsFollow forgotten (runs ++ run ∷ [])
ids_more forgotten runs run is follow r x at =
    elim (cases_eq r (length runs)) [
      | inl here ↦
          let same = same_Some run x (sym (at_the_end runs run) ∙ ap (slice_get (runs ++ run ∷ [])) (sym here) ∙ at) in
          ap (λ (y : RunState). y.id) (sym same) ∙ is ∙ ap (λ n. forgotten.through + n + 1) (sym here)
      | inr other ↦ follow r x (sym (before_the_end runs run r other) ∙ at)
    ]

pub numbers_more : (forgotten : ForgottenRuns) (runs : List RunState) (run : RunState)
    → run.number ≡ number_of_next forgotten runs run.admitted → NumbersFollow forgotten runs → NumbersFollow forgotten (runs ++ run ∷ [])
numbers_more forgotten runs run is follow r x at =
    let next = runs ++ run ∷ [] in
    let before = forgotten_of forgotten.counts in
    elim (cases_eq r (length runs)) [
      | inl here ↦
          let same = same_Some run x (sym (at_the_end runs run) ∙ ap (slice_get next) (sym here) ∙ at) in
          let all : take (r + 1) next ≡ next = take_all (r + 1) next (omega (arith, length-append runs (run ∷ []), here)) in
          let one_more = count_end (λ (y : RunState). same_workflow run.admitted y.admitted) runs run (same_as_itself run.admitted) in
          let its : run.number ≡ before run.admitted + runs_of_workflow run.admitted next = omega (arith, is, one_more) in
          subst (λ (y : RunState). y.number ≡ before y.admitted + runs_of_workflow y.admitted (take (r + 1) next)) same
          (its ∙ ap (λ xs. before run.admitted + runs_of_workflow run.admitted xs) (sym all))
      | inr other ↦
          let was = sym (before_the_end runs run r other) ∙ at in
          let within = slice_get_within runs r x was in
          follow r x was
          ∙ ap (λ xs. before x.admitted + runs_of_workflow x.admitted xs) (sym (take-append-le (r + 1) runs (run ∷ []) (omega (arith, within))))
    ]

-- ---- runs of the same events

no_event : (x : Admitted) → Some x ≡ None → ⊥
no_event x e = cc

events_same : (n : ℕ) (runs next : List RunState) → ((s : ℕ) → admitted_at next s ≡ admitted_at runs s)
    → events (take n next) ≡ events (take n runs)
events_same zero runs next same = refl
events_same (suc n) [] [] same = refl
events_same (suc n) [] (y ∷ next) same = absurd (no_event y.admitted (same 0))
events_same (suc n) (x ∷ runs) [] same = absurd (no_event x.admitted (sym (same 0)))
events_same (suc n) (x ∷ runs) (y ∷ next) same =
    ap₂ (λ e es. e ∷ es) (same_Some y.admitted x.admitted (same 0)) (events_same n runs next (λ s. same (suc s)))

workflow_same : (event : Admitted) (n : ℕ) (runs next : List RunState) → ((s : ℕ) → admitted_at next s ≡ admitted_at runs s)
    → runs_of_workflow event (take n next) ≡ runs_of_workflow event (take n runs)
workflow_same event n runs next same =
    let admitted : RunState → Admitted = λ run. run.admitted in
    count_of_map (same_workflow event) admitted (take n next)
    ∙ ap (count_by (same_workflow event)) (events_same n runs next same)
    ∙ sym (count_of_map (same_workflow event) admitted (take n runs))

-- ---- the same identities

pub ids_stay : (forgotten : ForgottenRuns) (runs next : List RunState) → ((r : ℕ) → identity_at next r ≡ identity_at runs r)
    → IdsFollow forgotten runs → IdsFollow forgotten next
ids_stay forgotten runs next same follow r x at =
    let was = from_map identity_of (run_at runs r) (identity_of x) (sym (same r) ∙ ap identity_in at) in
    ap (λ (i : Identity). i.id) (sym was.gives) ∙ follow r was.value was.is

pub numbers_stay : (forgotten : ForgottenRuns) (runs next : List RunState) → ((r : ℕ) → identity_at next r ≡ identity_at runs r)
    → NumbersFollow forgotten runs → NumbersFollow forgotten next
numbers_stay forgotten runs next same follow r x at =
    let before = forgotten_of forgotten.counts in
    let was = from_map identity_of (run_at runs r) (identity_of x) (sym (same r) ∙ ap identity_in at) in
    ap (λ (i : Identity). i.number) (sym was.gives) ∙ follow r was.value was.is
    ∙ ap (λ (i : Identity). before i.admitted + runs_of_workflow i.admitted (take (r + 1) runs)) was.gives
    ∙ ap (λ n. before x.admitted + n) (sym (workflow_same x.admitted (r + 1) runs next (λ s. same_admitted runs next s (same s))))

-- ---- runs and their parts

no_run : (r : ℕ) (x : RunState) → run_at [] r ≡ Some x → ⊥
no_run r x at = cc

pub none_of : (forgotten : ForgottenRuns) (runs : List RunState) → runs ≡ [] → AreRunsOf forgotten [] runs
none_of forgotten runs none = subst (AreRunsOf forgotten []) (sym none) (record {
  as_stored = refl;
  ids = (λ r x at. absurd (no_run r x at));
  numbers = (λ r x at. absurd (no_run r x at));
})

pub one_more_of : (forgotten : ForgottenRuns) (parts : List RunParts) (r : ℕ) (part : RunParts) (runs : List RunState) (run : RunState)
    → AreRunsOf forgotten (take r parts) runs → slice_get parts r ≡ Some part
    → run ≡ run_of_parts (forgotten.through + length runs + 1) (number_of_next forgotten runs part.admitted) part
    → AreRunsOf forgotten (take (r + 1) parts) (runs ++ run ∷ [])
one_more_of forgotten parts r part runs run are at is = record {
  as_stored = grown stored_run runs run parts r part are.as_stored (ap stored_run is) at;
  ids = ids_more forgotten runs run (ap (λ (x : RunState). x.id) is) are.ids;
  numbers = numbers_more forgotten runs run
      (ap (λ (x : RunState). x.number) is ∙ ap (λ (x : RunState). number_of_next forgotten runs x.admitted) (sym is)) are.numbers;
}

lists_same : {X : Type 0} (xs ys : List X) → ((k : ℕ) → slice_get xs k ≡ slice_get ys k) → xs ≡ ys
lists_same [] [] same = refl
lists_same [] (y ∷ ys) same = let nothing : None ≡ Some y = same 0 in cc
lists_same (x ∷ xs) [] same = let nothing : Some x ≡ None = same 0 in cc
lists_same (x ∷ xs) (y ∷ ys) same = ap₂ (λ z zs. z ∷ zs) (same_Some x y (same 0)) (lists_same xs ys (λ k. same (suc k)))

its_event : (o : Option RunState)
    → option_map (λ (part : RunParts). part.admitted) (option_map stored_run o) ≡ option_map (λ (run : RunState). run.admitted) o
its_event None = refl
its_event (Some x) = refl

-- the runs of given parts are unique
module _ (forgotten : ForgottenRuns) (parts : List RunParts) (runs others : List RunState) (are : AreRunsOf forgotten parts runs)
    (they : AreRunsOf forgotten parts others) where
  parts_alike : (r : ℕ) → option_map stored_run (run_at runs r) ≡ option_map stored_run (run_at others r)
  parts_alike r =
      sym (slice_get-map stored_run runs r) ∙ ap (λ (ps : List RunParts). slice_get ps r) (are.as_stored ∙ sym they.as_stored)
      ∙ slice_get-map stored_run others r

  events_alike : (r : ℕ) → admitted_at runs r ≡ admitted_at others r
  events_alike r =
      sym (its_event (run_at runs r)) ∙ ap (option_map (λ (part : RunParts). part.admitted)) (parts_alike r) ∙ its_event (run_at others r)

  alike : (r : ℕ) (x y : RunState) → run_at runs r ≡ Some x → run_at others r ≡ Some y → stored_run x ≡ stored_run y → x ≡ y
  alike r x y at there same =
      let id : x.id ≡ y.id = are.ids r x at ∙ sym (they.ids r y there) in
      let number : x.number ≡ y.number =
      are.numbers r x at
      ∙ ap (λ (part : RunParts). forgotten_of forgotten.counts part.admitted + runs_of_workflow part.admitted (take (r + 1) runs)) same
      ∙ ap (λ n. forgotten_of forgotten.counts y.admitted + n) (workflow_same y.admitted (r + 1) others runs events_alike)
      ∙ sym (they.numbers r y there) in
      ap (λ i. run_of_parts i x.number (stored_run x)) id
      ∙ ap (λ n. run_of_parts y.id n (stored_run x)) number
      ∙ ap (run_of_parts y.id y.number) same

  each_alike : (r : ℕ) (o u : Option RunState) → run_at runs r ≡ o → run_at others r ≡ u → option_map stored_run o ≡ option_map stored_run u
      → o ≡ u
  each_alike r None None at there same = refl
  each_alike r None (Some y) at there same = cc
  each_alike r (Some x) None at there same = cc
  each_alike r (Some x) (Some y) at there same = ap Some (alike r x y at there (same_Some (stored_run x) (stored_run y) same))

  pub same_runs : runs ≡ others
  same_runs = lists_same runs others (λ r. each_alike r (run_at runs r) (run_at others r) refl refl (parts_alike r))
