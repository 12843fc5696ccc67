-- Each run stays marked for the lists of its ready legs, whatever changes.
use Rattle.std.specs.Prelude.{◌≡◌, ◌&&◌, ℕ, List, [], Bool, true, false, nat_eq, IfSome, Option, Some, None, slice_get, if◌then◌else◌}
use Rattle.std.proofs.Common.{ap, subst, sym, ◌∙◌, inl, inr}
use Rattle.std.proofs.lemmas.Bool.{cases_eq}
use Rattle.std.proofs.lemmas.Option.{same_Some}
use Rattle.label_lists.specs.Lists.{HasPlace, ListsState, OnlyGrows, PutsOffer, may_offer}
use Rattle.table_model.specs.Changes.{offered_by}
use Rattle.table_model.specs.Fitting.{is_ready}
use Rattle.table_model.specs.Runs.{leg_site, run_at, RunState}
use Rattle.table_model.specs.declared.sites.LegSite.{LegSite}
use Rattle.table_model.specs.declared.change.Change.{Change}
use Rattle.table_model.specs.declared.change.Change.TheVariants as change
use Rattle.table_bindings.specs.LabelNumbers.{AreListsOf}
use Rattle.table_bindings.specs.inner.LabelNumbers.{IsOffered, IsReadyAt, JobsOffer, LegsAreOffered, OnlyMarks, OnlyPuts, is_ready_in}
use Rattle.table_bindings.specs.LabelNumbers.{list_number}
use Rattle.table_bindings.specs.inner.LabelNumbers.{offers_list}
use Rattle.table_bindings.specs.declared.bindings.RunBindings.{RunBindings}
use Rattle.table_bindings.proofs.LabelNumbers.{puts_one, still_lists}
use Rattle.settling_laws.proofs.HoldersFade.{by_run, passes, run_passes}
use Rattle.table_runs.proofs.OffersList.{other_number}
use Rattle.table_runs.proofs.ReadyBefore.{WasReady}

pub none_offered : (lists : ListsState) → LegsAreOffered [] [] lists
none_offered lists = record { numbers = (λ r kept at. cc); offered = (λ p kept ready at. cc) }

-- lists are entered, or room is made
pub offered_grown : (runs : List RunState) (bindings : List RunBindings) (old new : ListsState) → OnlyGrows old new
    → LegsAreOffered runs bindings old → LegsAreOffered runs bindings new
offered_grown runs bindings old new grows are = record {
  numbers = (λ r kept at. still_lists old new grows.labels grows.places r kept.jobs kept.lists (are.numbers r kept at));
  offered = (λ p kept ready at. grows.offers (list_number kept.lists p.job p.leg) p.run ∙ are.offered p kept ready at);
}

-- ---- after a change of one run

offered_here : (r : ℕ) (c : Change) (p : LegSite) → offered_by r c ≡ Some p → p.run ≡ r
offered_here r (change.Phase phase) p is = cc
offered_here r (change.Open j) p is = cc
offered_here r (change.Settle j settled) p is = cc
offered_here r change.Cancel p is = cc
offered_here r change.RequestStop p is = cc
offered_here r (change.PutLeg j l z) p is = by (is_ready z.phase) is
  where
    by : (b : Bool) → (if b then Some (leg_site r j l) else None) ≡ Some p → p.run ≡ r
    by true e = sym (ap (λ (q : LegSite). q.run) (same_Some (leg_site r j l) p e))
    by false e = cc

if_it : (one : Option LegSite) (P : LegSite → Type 0) → IfSome one P → (p : LegSite) → one ≡ Some p → P p
if_it None P says p is = cc
if_it (Some q) P says p is = subst P (same_Some q p is) says

-- the run of the leg that becomes ready can be marked for its list
pub has_place : (lists : ListsState) (r : ℕ) (c : Change) (requested : RunBindings) → AreListsOf lists r requested.jobs requested.lists
    → (one : Option LegSite) → one ≡ offered_by r c → IfSome one (λ p. HasPlace lists (list_number requested.lists p.job p.leg) p.run)
has_place lists r c requested are None is = tt
has_place lists r c requested are (Some p) is =
    subst (λ (s : ℕ). HasPlace lists (list_number requested.lists p.job p.leg) s) (sym (offered_here r c p (sym is))) (are p.job p.leg).place

pub offered_after : (runs next : List RunState) (bindings : List RunBindings) (old new : ListsState) (r : ℕ) (c : Change) (requested : RunBindings)
    → slice_get bindings r ≡ Some requested → ((p : LegSite) → IsReadyAt next p → WasReady runs (offered_by r c) p)
    → IfSome (offered_by r c) (IsOffered new requested) → OnlyMarks old new → LegsAreOffered runs bindings old → LegsAreOffered next bindings new
offered_after runs next bindings old new r c requested requested_at before itself marks are = record {
  numbers = (λ s kept at.
      still_lists old new (λ n texts is. marks.labels n ∙ is) marks.places s kept.jobs kept.lists (are.numbers s kept at));
  offered = (λ p kept ready at.
      elim (before p ready) [
        | inl it ↦
            let here : slice_get bindings r ≡ Some kept = ap (slice_get bindings) (sym (offered_here r c p it)) ∙ at in
            subst (λ (k : RunBindings). IsOffered new k p) (same_Some requested kept (sym requested_at ∙ here))
            (if_it (offered_by r c) (IsOffered new requested) itself p it)
        | inr was ↦ marks.offers (list_number kept.lists p.job p.leg) p.run (are.offered p kept was at)
      ]);
}

-- ---- a run in which no ready leg has a number

ready_there_in : (runs : List RunState) (p : LegSite) (x : RunState) → run_at runs p.run ≡ Some x → IsReadyAt runs p
    → is_ready_in x.jobs p.job p.leg ≡ true
ready_there_in runs p x here ready = sym (ap (passes (run_passes is_ready p.job p.leg)) here) ∙ sym (by_run is_ready runs p) ∙ ready

-- it may be unmarked, and marked again for its ready legs
pub offered_anew : (runs : List RunState) (bindings : List RunBindings) (old cleared new : ListsState) (r : ℕ) (x : RunState)
    (requested : RunBindings) → run_at runs r ≡ Some x → slice_get bindings r ≡ Some requested → OnlyPuts r false old cleared
    → JobsOffer new requested.lists r x.jobs → OnlyPuts r true cleared new → LegsAreOffered runs bindings old → LegsAreOffered runs bindings new
offered_anew runs bindings old cleared new r x requested run_there requested_there clears all puts are = record {
  numbers = (λ s kept at.
      still_lists old new (λ n texts is. puts.labels n ∙ clears.labels n ∙ is) (λ n s there. puts.places n s (clears.places n s there)) s
      kept.jobs kept.lists (are.numbers s kept at));
  offered = (λ p kept ready at.
      let n = list_number kept.lists p.job p.leg in
      elim (cases_eq p.run r) [
        | inl here ↦
            let same : requested ≡ kept = same_Some requested kept (sym requested_there ∙ ap (slice_get bindings) (sym here) ∙ at) in
            subst (λ (k : RunBindings). IsOffered new k p) same
            (ap (may_offer new (list_number requested.lists p.job p.leg)) here
            ∙ all p.job p.leg (ready_there_in runs p x (ap (run_at runs) here ∙ run_there) ready))
        | inr other ↦ puts.others n p.run other ∙ clears.others n p.run other ∙ are.offered p kept ready at
      ]);
}

-- it may be unmarked for that number
pub number_unmarked : (runs : List RunState) (bindings : List RunBindings) (old new : ListsState) (r number : ℕ) (x : RunState)
    (requested : RunBindings) → run_at runs r ≡ Some x → slice_get bindings r ≡ Some requested → offers_list x requested.lists number ≡ false
    → PutsOffer false number r old new → LegsAreOffered runs bindings old → LegsAreOffered runs bindings new
number_unmarked runs bindings old new r number x requested run_there requested_there rests puts are = record {
  numbers = (λ s kept at.
      still_lists old new (λ n texts is. puts.labels n ∙ is) puts.places s kept.jobs kept.lists (are.numbers s kept at));
  offered = (λ p kept ready at.
      let n = list_number kept.lists p.job p.leg in
      let marked : may_offer old n p.run ≡ true = are.offered p kept ready at in
      elim (cases_eq p.run r) [
        | inl here ↦
            let same : requested ≡ kept = same_Some requested kept (sym requested_there ∙ ap (slice_get bindings) (sym here) ∙ at) in
            let another : nat_eq n number ≡ false =
            subst (λ (k : RunBindings). nat_eq (list_number k.lists p.job p.leg) number ≡ false) same
            (other_number x requested.lists number rests p.job p.leg (ready_there_in runs p x (ap (run_at runs) here ∙ run_there) ready)) in
            puts.offers n p.run ∙ ap (λ b. if b && nat_eq p.run r then false else may_offer old n p.run) another ∙ marked
        | inr other ↦ (puts_one false number r old new puts).others n p.run other ∙ marked
      ]);
}

-- ---- a run replaces another, or is added at the end

module _ (runs next : List RunState) (bindings bindings' : List RunBindings) (old new : ListsState) (r : ℕ) (x : RunState) (requested : RunBindings)
    (run_there : run_at next r ≡ Some x) (requested_there : slice_get bindings' r ≡ Some requested)
    (other_runs : (s : ℕ) → (s ≡ r → ⊥) → run_at next s ≡ run_at runs s)
    (other_requests : (s : ℕ) → (s ≡ r → ⊥) → slice_get bindings' s ≡ slice_get bindings s)
    (itself : AreListsOf old r requested.jobs requested.lists)
    (all : JobsOffer new requested.lists r x.jobs) (puts : OnlyPuts r true old new)
    (are : LegsAreOffered runs bindings old) where
  listed : (s : ℕ) (kept : RunBindings) → slice_get bindings' s ≡ Some kept → AreListsOf old s kept.jobs kept.lists
  listed s kept at =
      elim (cases_eq s r) [
        | inl here ↦
            let same = same_Some requested kept (sym requested_there ∙ ap (slice_get bindings') (sym here) ∙ at) in
            subst (λ (k : RunBindings). AreListsOf old s k.jobs k.lists) same
            (subst (λ (n : ℕ). AreListsOf old n requested.jobs requested.lists) (sym here) itself)
        | inr other ↦ are.numbers s kept (sym (other_requests s other) ∙ at)
      ]

  ready_in_it : (p : LegSite) → p.run ≡ r → IsReadyAt next p → is_ready_in x.jobs p.job p.leg ≡ true
  ready_in_it p here ready = ready_there_in next p x (ap (run_at next) here ∙ run_there) ready

  still_ready : (p : LegSite) → (p.run ≡ r → ⊥) → IsReadyAt next p → IsReadyAt runs p
  still_ready p other ready =
      by_run is_ready runs p
      ∙ ap (passes (run_passes is_ready p.job p.leg)) (sym (other_runs p.run other))
      ∙ sym (by_run is_ready next p) ∙ ready

  pub offered_with : LegsAreOffered next bindings' new
  offered_with = record {
    numbers = (λ s kept at.
        still_lists old new (λ n texts is. puts.labels n ∙ is) puts.places s kept.jobs kept.lists (listed s kept at));
    offered = (λ p kept ready at.
        elim (cases_eq p.run r) [
          | inl here ↦
              let same = same_Some requested kept (sym requested_there ∙ ap (slice_get bindings') (sym here) ∙ at) in
              subst (λ (k : RunBindings). IsOffered new k p) same
              (ap (may_offer new (list_number requested.lists p.job p.leg)) here
              ∙ all p.job p.leg (ready_in_it p here ready))
          | inr other ↦
              puts.others (list_number kept.lists p.job p.leg) p.run other
              ∙ are.offered p kept (still_ready p other ready) (sym (other_requests p.run other) ∙ at)
        ]);
  }
