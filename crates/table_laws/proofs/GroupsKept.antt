-- The group of a holder, and whether its arrival cancels what is in progress, are the same in every later table.
use Rattle.std.specs.Prelude.{◌≡◌, ℕ, List, [], ◌∷◌, ◌++◌, length, false, Option, Some, None}
use Rattle.std.specs.Prelude.{option_map, option_and_then, refl}
use Rattle.std.specs.Option.{option_map_or, unwrap_or}
use Rattle.std.proofs.Common.{arith, ap, inl, inr, sym, ◌∙◌}
use Rattle.std.proofs.lemmas.Bool.{cases_eq}
use Rattle.std.proofs.lemmas.Option.{slice_get_past}
use Rattle.group_name.specs.Group.{Group, same_group}
use Rattle.definitions.specs.SmallText.{Admitted}
use Rattle.table_model.specs.Groups.{cancels_in_progress, group_at, leg_cancels, run_cancels, run_facts_at, is_in}
use Rattle.table_model.specs.Holders.{run_of}
use Rattle.table_model.specs.Forgotten.{ForgottenRuns, next_run}
use Rattle.table_model.specs.LegContext.{facts_at}
use Rattle.table_model.specs.Runs.{leg_at, run_at, LegState, RunState}
use Rattle.table_model.specs.declared.sites.LegSite.{LegSite}
use Rattle.table_model.proofs.Found.{at_the_end, before_the_end}
use Rattle.table_model.proofs.Identity.{Identity, identity_at, identity_in, identity_of}
use Rattle.table_model.proofs.JobKeeps.{leg_in}
use Rattle.table_model.proofs.LegFacts.{attempt_at, facts_stay}
use Rattle.table_model.proofs.NeedsSettled.{KeepsResults, result_in, result_so_far}
use Rattle.table_model.proofs.RunFits.{RunsFit}
use Rattle.table_model.proofs.Settles.{StayFit}
use Rattle.settling_laws.proofs.GroupStays.{leg_group_same, leg_needs_finished, run_facts_stay, run_group_stays}
use Rattle.settling_laws.proofs.OneEach.{IsOneOf}
use Rattle.table_laws.specs.Names.{attempt_of}
use Rattle.table_model.specs.declared.holder.Holder.{Holder}
use Rattle.table_model.specs.declared.holder.Holder.TheVariants.{Run, Leg}

-- The earlier runs keep their indices, their identities and their attempts, and finished jobs keep their results. The added runs are at their
-- first attempt, as they were before they were added.
pub record Grows (runs later : List RunState) : Type 0 where
  pub same_identity : (r : ℕ) (i : Identity) → identity_at runs r ≡ Some i → identity_at later r ≡ Some i
  pub same_attempt : (r n : ℕ) → attempt_at runs r ≡ Some n → attempt_at later r ≡ Some n
  pub keeps_results : (r : ℕ) → KeepsResults runs later r
  pub same_attempts : (h : Holder) → attempt_of later h ≡ attempt_of runs h

pub grows_not : (runs : List RunState) → Grows runs runs
grows_not runs = record { same_identity = (λ r i e. e); same_attempt = (λ r n e. e); keeps_results = (λ r j a e. e); same_attempts = (λ h. refl) }

pub grows_on : (a b c : List RunState) → Grows a b → Grows b c → Grows a c
grows_on a b c f g = record {
  same_identity = (λ r i e. g.same_identity r i (f.same_identity r i e));
  same_attempt = (λ r n e. g.same_attempt r n (f.same_attempt r n e));
  keeps_results = (λ r j x e. g.keeps_results r j x (f.keeps_results r j x e));
  same_attempts = (λ h. g.same_attempts h ∙ f.same_attempts h);
}

first_or : (o : Option RunState) → option_map_or (λ x. x.attempt) o 1 ≡ unwrap_or (option_map (λ (x : RunState). x.attempt) o) 1
first_or None = refl
first_or (Some x) = refl

pub stays_grows : (runs next : List RunState) → StayFit runs next → Grows runs next
stays_grows runs next stay = record {
  same_identity = (λ r i e. stay.same_identity r ∙ e);
  same_attempt = (λ r n e. stay.same_attempt r ∙ e);
  keeps_results = stay.keeps_results;
  same_attempts = (λ h. first_or (run_at next (run_of h)) ∙ ap (λ o. unwrap_or o 1) (stay.same_attempt (run_of h)) ∙ sym (first_or (run_at runs (run_of h))));
}

pub past_the_end : (runs : List RunState) (r : ℕ) → r ≡ length runs → run_at runs r ≡ None
past_the_end runs r same = slice_get_past runs r (omega (arith, same))

none_is_none : {X : Type 0} (o : Option X) (x : X) → o ≡ None → o ≡ Some x → ⊥
none_is_none o x none some = cc

pub new_run_grows : (forgotten : ForgottenRuns) (runs : List RunState) (event : Admitted) → Grows runs (runs ++ next_run forgotten runs event ∷ [])
new_run_grows forgotten runs event = record {
  same_identity = (λ r i e. elim (cases_eq r (length runs)) [
    | inl same ↦ absurd (none_is_none (identity_at runs r) i (ap identity_in (past_the_end runs r same)) e)
    | inr other ↦ ap identity_in (before_the_end runs (next_run forgotten runs event) r other) ∙ e
  ]);
  same_attempt = (λ r n e. elim (cases_eq r (length runs)) [
    | inl same ↦ absurd (none_is_none (attempt_at runs r) n (ap (option_map (λ (x : RunState). x.attempt)) (past_the_end runs r same)) e)
    | inr other ↦ ap (option_map (λ (x : RunState). x.attempt)) (before_the_end runs (next_run forgotten runs event) r other) ∙ e
  ]);
  keeps_results = (λ r j a e. elim (cases_eq r (length runs)) [
    | inl same ↦
        absurd (none_is_none (result_so_far runs r j) a (ap (option_and_then (λ (x : RunState). result_in x j))
        (past_the_end runs r same)) e)
    | inr other ↦ ap (option_and_then (λ (x : RunState). result_in x j)) (before_the_end runs (next_run forgotten runs event) r other) ∙ e
  ]);
  same_attempts = (λ h. elim (cases_eq (run_of h) (length runs)) [
    | inl same ↦
        ap (λ (k : ℕ). option_map_or (λ x. x.attempt) (run_at (runs ++ next_run forgotten runs event ∷ []) k) 1) same
        ∙ ap (λ o. option_map_or (λ x. x.attempt) o 1) (at_the_end runs (next_run forgotten runs event))
        ∙ sym (ap (λ o. option_map_or (λ x. x.attempt) o 1) (past_the_end runs (run_of h) same))
    | inr other ↦ ap (λ o. option_map_or (λ x. x.attempt) o 1) (before_the_end runs (next_run forgotten runs event) (run_of h) other)
  ]);
}

-- ---- a holder that exists

leg_cancels_same : (runs later : List RunState) (p : LegSite) → facts_at later p ≡ facts_at runs p
    → cancels_in_progress later (Leg p) ≡ cancels_in_progress runs (Leg p)
unfolding cancels_in_progress
leg_cancels_same runs later p same = ap (λ o. option_map_or leg_cancels o false) same

run_cancels_same : (runs later : List RunState) (r : ℕ) → run_facts_at later r ≡ run_facts_at runs r
    → cancels_in_progress later (Run r) ≡ cancels_in_progress runs (Run r)
unfolding cancels_in_progress
run_cancels_same runs later r same = ap (λ o. option_map_or run_cancels o false) same

module _ (runs later : List RunState) (fit : RunsFit runs) (grows : Grows runs later) where
  identity_kept : (r : ℕ) (x : RunState) → run_at runs r ≡ Some x → identity_at later r ≡ identity_at runs r
  identity_kept r x at =
      let is : identity_at runs r ≡ Some (identity_of x) = ap identity_in at in
      grows.same_identity r (identity_of x) is ∙ sym is

  attempt_kept : (r : ℕ) (x : RunState) → run_at runs r ≡ Some x → attempt_at later r ≡ attempt_at runs r
  attempt_kept r x at =
      let is : attempt_at runs r ≡ Some x.attempt = ap (option_map (λ (y : RunState). y.attempt)) at in
      grows.same_attempt r x.attempt is ∙ sym is

  leg_facts_kept : (p : LegSite) (z : LegState) → leg_at runs p ≡ Some z → facts_at later p ≡ facts_at runs p
  leg_facts_kept p z at =
      let place = leg_in runs p z at in
      facts_stay runs later p (identity_kept p.run place.place.run place.place.run_is)
      (attempt_kept p.run place.place.run place.place.run_is)
      (leg_needs_finished runs fit p z at) (grows.keeps_results p.run)

  pub group_kept : (h : Holder) → IsOneOf runs h → group_at later h ≡ group_at runs h
  group_kept (Run r) there = run_group_stays runs later r (identity_kept r there.0 there.1) (attempt_kept r there.0 there.1)
  group_kept (Leg p) there = leg_group_same runs later p (leg_facts_kept p there.0 there.1)

  pub cancels_kept : (h : Holder) → IsOneOf runs h → cancels_in_progress later h ≡ cancels_in_progress runs h
  cancels_kept (Run r) there =
      run_cancels_same runs later r (run_facts_stay runs later r (identity_kept r there.0 there.1) (attempt_kept r there.0 there.1))
  cancels_kept (Leg p) there = leg_cancels_same runs later p (leg_facts_kept p there.0 there.1)

  pub is_in_kept : (g : Group) (h : Holder) → IsOneOf runs h → is_in later g h ≡ is_in runs g h
  is_in_kept g h there = ap (λ o. option_map_or (same_group g) o false) (group_kept h there)
