-- The marks of runs stay valid after each change.
use Rattle.std.specs.Prelude.{◌≡◌, ℕ, zero, suc, ◌+◌, ◌<◌, ◌≤◌, List, [], ◌∷◌, ◌++◌, length, Bool, true, false, Option, Some, None, nat_eq}
use Rattle.std.specs.Prelude.{IfNone, IfSome, is_some, option_and_then, slice_get, slice_set, if◌then◌else◌, refl}
use Rattle.std.specs.Option.{option_map_or}
use Rattle.std.proofs.Common.{arith, ap, sym, subst, ◌∙◌, inl, inr, length-append, length-set}
use Rattle.std.proofs.lemmas.Bool.{and_parts, cases_Bool, cases_eq, true≢false}
use Rattle.std.proofs.lemmas.Bool.Decides.{Decides-eqb}
use Rattle.std.proofs.lemmas.Option.{slice_get_past}
use Rattle.run_marks.specs.Marked.{Covers, Puts, SameMarks, is_marked}
use Rattle.table_model.specs.Groups.{holds, is_in}
use Rattle.table_model.specs.Holders.{run_of}
use Rattle.table_model.specs.inner.Resuming.{apply_at}
use Rattle.table_model.specs.Runs.{run_at, RunState}
use Rattle.table_model.specs.inner.WithinRun.{first_in_run}
use Rattle.table_model.specs.declared.sites.RuleSite.{RuleSite}
use Rattle.table_model.proofs.Found.{before_the_end}
use Rattle.settling_laws.specs.inner.Releases.{ReleasesNone}
use Rattle.table_runs.specs.inner.MarkedRuns.{AreMarked, is_due}
use Rattle.settling_laws.specs.inner.RunFacts.{is_so_at}
use Rattle.settling_laws.proofs.GroupStays.{same_group}
use Rattle.settling_laws.proofs.KeptBack.{KeepsBackIn, RunsStillFor, back_still, runs_still}
use Rattle.table_runs.proofs.HoldersOfRuns.{holder_within, same_holds}
use Rattle.settling_laws.proofs.Resumed.{run_rests}
use Rattle.settling_laws.proofs.OneEach.{one_that_holds}

-- ---- one mark

put_stays : (b m : Bool) → m ≡ true → (if b then true else m) ≡ true
put_stays true m e = refl
put_stays false m e = e

pub put_adds : (r i : ℕ) (old new : List ℕ) → Puts true r old new → is_marked old i ≡ true → is_marked new i ≡ true
put_adds r i old new puts e = puts i ∙ put_stays (nat_eq i r) (is_marked old i) e

pub put_marks : (r i : ℕ) (old new : List ℕ) → Puts true r old new → i ≡ r → is_marked new i ≡ true
put_marks r i old new puts same = puts i ∙ ap (λ b. if b then true else is_marked old i) ((Decides-eqb i r).1 same)

pub set_other : {X : Type 0} (xs : List X) (i j : ℕ) (y : X) → (j ≡ i → ⊥) → slice_get (slice_set xs i y) j ≡ slice_get xs j
set_other [] i j y other = refl
set_other (x ∷ xs) zero zero y other = absurd (other refl)
set_other (x ∷ xs) zero (suc j) y other = refl
set_other (x ∷ xs) (suc i) zero y other = refl
set_other (x ∷ xs) (suc i) (suc j) y other = set_other xs i j y (λ e. other (ap suc e))

-- ---- the result of a search

pub if_some : (o : Option ℕ) (P Q : ℕ → Type 0) → ((r : ℕ) → P r → Q r) → IfSome o P → IfSome o Q
if_some None P Q follows is = is
if_some (Some r) P Q follows is = follows r is

pub if_none : (o : Option ℕ) (P Q : Type 0) → (P → Q) → IfNone o P → IfNone o Q
if_none None P Q follows is = follows is
if_none (Some r) P Q follows is = is

-- ---- what follows for an unmarked run

pub not_so : (b m : Bool) → (b ≡ true → m ≡ true) → m ≡ false → b ≡ false
not_so true m says none = absurd (true≢false (sym (says refl) ∙ none))
not_so false m says none = refl

none_unmarked : (fact : ℕ → RunState → Bool) (xs : List RunState) (marks : List ℕ) → AreMarked fact xs marks → (i : ℕ) (x : RunState)
    → is_marked marks i ≡ false → slice_get xs i ≡ Some x → fact i x ≡ false
none_unmarked fact xs marks are i x none at = not_so (fact i x) (is_marked marks i) (are.marked i x at) none

pub unmarked_is_not_so : (fact : RunState → Bool) (xs : List RunState) (marks : List ℕ) → AreMarked (λ _ x. fact x) xs marks → (i : ℕ)
    → is_marked marks i ≡ false → is_so_at fact xs i ≡ false
unmarked_is_not_so fact xs marks are i none =
    elim (slice_get xs i) as (λ o. slice_get xs i ≡ o → option_map_or fact o false ≡ false) [
      | None ↦ λ at. refl
      | Some x ↦ λ at. none_unmarked (λ _ x. fact x) xs marks are i x none at
    ] refl

pub past_is_not_so : (fact : RunState → Bool) (xs : List RunState) (i : ℕ) → length xs ≤ i → is_so_at fact xs i ≡ false
past_is_not_so fact xs i past = ap (λ o. option_map_or fact o false) (slice_get_past xs i past)

no_place : (o : Option RuleSite) → is_some o ≡ false → o ≡ None
no_place None e = refl
no_place (Some p) e = absurd (true≢false e)

pub unmarked_rests : (runs : List RunState) (marks : List ℕ) → AreMarked (is_due runs) runs marks → (i : ℕ) → is_marked marks i ≡ false
    → apply_at (first_in_run runs) runs i ≡ None
unmarked_rests runs marks are i none =
    elim (slice_get runs i) as (λ o. slice_get runs i ≡ o → option_and_then (first_in_run runs i) o ≡ None) [
      | None ↦ λ at. refl
      | Some x ↦ λ at. no_place (first_in_run runs i x) (none_unmarked (is_due runs) runs marks are i x none at)
    ] refl

pub past_rests : (runs : List RunState) (i : ℕ) → length runs ≤ i → apply_at (first_in_run runs) runs i ≡ None
past_rests runs i past = ap (option_and_then (first_in_run runs i)) (slice_get_past runs i past)

-- ---- a property of one run alone: the run changes, is added, or is found not to have it

pub written : (fact : RunState → Bool) (xs : List RunState) (marks marks' : List ℕ) (r : ℕ) (y : RunState) → length marks' ≡ length marks
    → Puts true r marks marks' → AreMarked (λ _ x. fact x) xs marks → AreMarked (λ _ x. fact x) (slice_set xs r y) marks'
written fact xs marks marks' r y as_long puts are = record {
  covers = omega (arith, are.covers, as_long, length-set xs r y);
  marked = (λ s x at has.
      elim (cases_eq s r) [
        | inl same ↦ put_marks r s marks marks' puts same
        | inr other ↦ put_adds r s marks marks' puts (are.marked s x (sym (set_other xs r s y other) ∙ at) has)
      ]);
}

pub one_more : (fact : RunState → Bool) (xs : List RunState) (y : RunState) (marks marks' : List ℕ) (r : ℕ) → r ≡ length xs
    → Covers marks (r + 1) → length marks' ≡ length marks → Puts true r marks marks' → AreMarked (λ _ x. fact x) xs marks
    → AreMarked (λ _ x. fact x) (xs ++ y ∷ []) marks'
one_more fact xs y marks marks' r end room as_long puts are = record {
  covers = omega (arith, room, as_long, end, length-append xs (y ∷ []));
  marked = (λ s x at has.
      elim (cases_eq s r) [
        | inl here ↦ put_marks r s marks marks' puts here
        | inr other ↦
            put_adds r s marks marks' puts (are.marked s x (sym (before_the_end xs y s (λ e. other (e ∙ sym end))) ∙ at) has)
      ]);
}

pub roomier : (fact : ℕ → RunState → Bool) (xs : List RunState) (marks marks' : List ℕ) → SameMarks marks marks' → length marks ≤ length marks'
    → AreMarked fact xs marks → AreMarked fact xs marks'
roomier fact xs marks marks' same longer are = record {
  covers = omega (arith, are.covers, longer);
  marked = (λ s x at has. same s ∙ are.marked s x at has);
}

-- ---- which runs are due

-- An unchanged run in which a rule applies after the change is due. Either a rule applied in it before, or the change marked it as due,
-- since it is the run of a holder that the change lets begin.
module _ (runs next : List RunState) (old new : List ℕ) (r : ℕ) (kept : (i : ℕ) → is_marked old i ≡ true → is_marked new i ≡ true)
    (itself : is_marked new r ≡ true) (are : AreMarked (is_due runs) runs old)
    (stay : (s : ℕ) → (s ≡ r → ⊥) → is_marked new s ≡ false → RunsStillFor runs next s) where
  kept_back_due : (s : ℕ) (x : RunState) → RunsStillFor runs next s → slice_get runs s ≡ Some x → slice_get next s ≡ slice_get runs s
      → is_due next s x ≡ true → is_marked new s ≡ true
  kept_back_due s x still was same due =
      let back : KeepsBackIn runs next s =
      λ h of_run waiting e. back_still runs next h (still h of_run waiting)
      (same_group runs next h (subst (λ k. slice_get next k ≡ slice_get runs k) (sym of_run) same)) e in
      elim (first_in_run runs s x) as (λ o. first_in_run runs s x ≡ o → is_marked new s ≡ true) [
        | None ↦ λ is. absurd (true≢false (sym due ∙ ap is_some (run_rests runs next s back x was is)))
        | Some p ↦ λ is. kept s (are.marked s x was (ap is_some is))
      ] refl

  still_due : (s : ℕ) (x : RunState) → (s ≡ r → ⊥) → slice_get runs s ≡ Some x → slice_get next s ≡ slice_get runs s
      → is_due next s x ≡ true → is_marked new s ≡ true
  still_due s x other was same due =
      elim (cases_Bool (is_marked new s)) [
        | inl marked ↦ marked
        | inr none ↦ kept_back_due s x (stay s other none) was same due
      ]

  pub due_unless : (s : ℕ) (x : RunState) → ((s ≡ r → ⊥) → slice_get next s ≡ slice_get runs s) → slice_get next s ≡ Some x
      → is_due next s x ≡ true → is_marked new s ≡ true
  due_unless s x same at due =
      elim (cases_eq s r) [
        | inl here ↦ subst (λ i. is_marked new i ≡ true) (sym here) itself
        | inr other ↦ still_due s x other (sym (same other) ∙ at) (same other) due
      ]

-- one more run releases no holder
one_more_stays : (runs : List RunState) (y : RunState) → ReleasesNone runs (runs ++ y ∷ [])
one_more_stays runs y g h e =
    let next = runs ++ y ∷ [] in
    let there = one_that_holds runs h (and_parts (is_in runs g h) (holds runs h) e).1 in
    let within = holder_within runs h there in
    let at : run_at next (run_of h) ≡ run_at runs (run_of h) =
    before_the_end runs y (run_of h) (λ e. absurd (omega (arith, within, e))) in
    runs_still runs next g h (same_group runs next h at)
    (λ held k group. same_holds runs next h at ∙ held) e

-- one more run
pub due_more : (runs : List RunState) (y : RunState) (old new : List ℕ) (r : ℕ) → r ≡ length runs → Covers new (r + 1)
    → ((i : ℕ) → is_marked old i ≡ true → is_marked new i ≡ true) → is_marked new r ≡ true
    → AreMarked (is_due runs) runs old → AreMarked (is_due (runs ++ y ∷ [])) (runs ++ y ∷ []) new
due_more runs y old new r end room kept itself are = record {
  covers = omega (arith, room, end, length-append runs (y ∷ []));
  marked = (λ s x at due.
      due_unless runs (runs ++ y ∷ []) old new r kept itself are (λ k other none h of_run waiting g group. one_more_stays runs y g) s x
      (λ other. before_the_end runs y s (λ e. other (e ∙ sym end))) at due);
}
