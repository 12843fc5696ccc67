-- The counts of a job's legs: what they say, and how a change of the legs changes them.
use Rattle.std.specs.Prelude.{◌≡◌, ◌+◌, ◌&&◌, ◌||◌, ℕ, zero, suc, List, [], ◌∷◌, replicate, Bool, true, false}
use Rattle.std.specs.Prelude.{Option, Some, None, nat_lt, not, if◌then◌else◌, cond, refl, is_some}
use Rattle.std.specs.List.{list_all, list_any, enumerate_from}
use Rattle.std.specs.Option.{option_or}
use Rattle.std.proofs.Common.{arith, ap, sym, ◌∙◌}
use Rattle.std.proofs.lemmas.Bool.{or_parts, true≢false}
use Rattle.std.proofs.lemmas.Bool.Decides.{nat_tests}
use Rattle.std.proofs.lemmas.List.Sums.{sum_by-cons}
use Rattle.table_model.specs.inner.ActiveRuns.{is_active_leg}
use Rattle.table_model.specs.Runs.{first_some, leg_site, LegState, RunState, is_new, leg_has_ended, new_leg, outcome_of}
use Rattle.table_model.specs.Fitting.{is_ready, is_at_work}
use Rattle.table_model.specs.Groups.{leg_holds, leg_waits}
use Rattle.table_model.specs.inner.LegCounts.{AreCounted, is_unready_leg, legs_in}
use Rattle.table_model.specs.inner.WithinRun.{first_of_legs, goes_on, goes_on_in}
use Rattle.table_model.specs.declared.leg_counts.LegCounts.{LegCounts}
use Rattle.table_model.specs.declared.phases.LegPhase.{LegPhase}
use Rattle.table_model.specs.declared.phases.LegPhase.TheVariants as leg
use Rattle.table_model.specs.declared.sites.RuleSite.{RuleSite}
use Rattle.table_model.specs.declared.sites.RuleSite.TheVariants.{AtLeg}

-- ---- whether there is a leg, by the count

-- what one leg adds to the count
abbrev counted_one : Bool → ℕ
counted_one b = cond b 1 0

counted_cons : (test : LegPhase → Bool) (l : LegState) (legs : List LegState)
    → legs_in test (l ∷ legs) ≡ counted_one (test l.phase) + legs_in test legs
counted_cons test l legs = sum_by-cons (λ (z : LegState). counted_one (test z.phase)) l legs

some_counted : (b : Bool) (n : ℕ) → nat_lt 0 (counted_one b + n) ≡ (b || nat_lt 0 n)
some_counted true n = let some : nat_lt 0 (1 + n) ≡ true = grind (arith, nat_tests) in some
some_counted false n = let none : 0 + n ≡ n = omega arith in ap (nat_lt 0) none

pub any_counted : (test : LegPhase → Bool) (legs : List LegState) → nat_lt 0 (legs_in test legs) ≡ list_any (λ l. test l.phase) legs
any_counted test [] = refl
any_counted test (l ∷ legs) =
    ap (nat_lt 0) (counted_cons test l legs) ∙ some_counted (test l.phase) (legs_in test legs)
    ∙ ap (λ b. test l.phase || b) (any_counted test legs)

four_ways : (a b c d : Bool) → ((a || b) || (c || d)) ≡ ((a || c) || (b || d))
four_ways true b c d = refl
four_ways false true true d = refl
four_ways false true false d = refl
four_ways false false c d = refl

pub any_either : {X : Type 0} (p q : X → Bool) (xs : List X) → (list_any p xs || list_any q xs) ≡ list_any (λ x. p x || q x) xs
any_either p q [] = refl
any_either p q (x ∷ xs) =
    four_ways (p x) (list_any p xs) (q x) (list_any q xs) ∙ ap (λ b. (p x || q x) || b) (any_either p q xs)

any_same : {X : Type 0} (p q : X → Bool) (xs : List X) → ((x : X) → p x ≡ q x) → list_any p xs ≡ list_any q xs
any_same p q [] same = refl
any_same p q (x ∷ xs) same = ap (λ b. b || list_any p xs) (same x) ∙ ap (λ b. q x || b) (any_same p q xs same)

-- a leg that holds its group is ready or has a runner at work
holds_either : (phase : LegPhase) → (is_ready phase || is_at_work phase) ≡ leg_holds phase
holds_either leg.New = refl
holds_either leg.Waiting = refl
holds_either leg.Ready = refl
holds_either leg.Running = refl
holds_either leg.Stopping = refl
holds_either (leg.Ended o) = refl

pub any_holds : (legs : List LegState) → (list_any (λ l. is_ready l.phase) legs || list_any (λ l. is_at_work l.phase) legs)
    ≡ list_any (λ l. leg_holds l.phase) legs
any_holds legs =
    any_either (λ l. is_ready l.phase) (λ l. is_at_work l.phase) legs
    ∙ any_same (λ l. is_ready l.phase || is_at_work l.phase) (λ l. leg_holds l.phase) legs (λ l. holds_either l.phase)

pub any_active : (legs : List LegState) → (list_any (λ l. leg_waits l.phase) legs || list_any (λ l. leg_holds l.phase) legs)
    ≡ list_any is_active_leg legs
any_active legs = any_either (λ l. leg_waits l.phase) (λ l. leg_holds l.phase) legs

pub any_unready : (legs : List LegState) → (list_any (λ l. is_new l.phase) legs || list_any (λ l. leg_waits l.phase) legs)
    ≡ list_any is_unready_leg legs
any_unready legs = any_either (λ l. is_new l.phase) (λ l. leg_waits l.phase) legs

-- a leg that has ended is neither new nor active
ended_neither : (phase : LegPhase) (e : LegState) → e.phase ≡ phase
    → (not (is_new phase) && not (leg_waits phase || leg_holds phase)) ≡ leg_has_ended e
ended_neither leg.New e is = ap (λ p. is_some (outcome_of p)) (sym is)
ended_neither leg.Waiting e is = ap (λ p. is_some (outcome_of p)) (sym is)
ended_neither leg.Ready e is = ap (λ p. is_some (outcome_of p)) (sym is)
ended_neither leg.Running e is = ap (λ p. is_some (outcome_of p)) (sym is)
ended_neither leg.Stopping e is = ap (λ p. is_some (outcome_of p)) (sym is)
ended_neither (leg.Ended o) e is = ap (λ p. is_some (outcome_of p)) (sym is)

not_either : (a b : Bool) → not (a || b) ≡ (not a && not b)
not_either true b = refl
not_either false b = refl

neither : (a b c d : Bool) → (not (a || b) && not (c || d)) ≡ ((not a && not c) && (not b && not d))
neither true b c d = refl
neither false true true d = refl
neither false false true d = refl
neither false b false d = refl

pub all_ended : (legs : List LegState)
    → (not (list_any (λ l. is_new l.phase) legs) && not (list_any is_active_leg legs)) ≡ list_all leg_has_ended legs
all_ended [] = refl
all_ended (l ∷ legs) =
    neither (is_new l.phase) (list_any (λ z. is_new z.phase) legs) (is_active_leg l) (list_any is_active_leg legs)
    ∙ ap (λ b. b && (not (list_any (λ z. is_new z.phase) legs) && not (list_any is_active_leg legs))) (ended_neither l.phase l refl)
    ∙ ap (λ b. leg_has_ended l && b) (all_ended legs)

-- ---- what the counts say

module _ (legs : List LegState) (counts : LegCounts) (are : AreCounted legs counts) where
  pub ready_counted : nat_lt 0 counts.ready ≡ list_any (λ l. is_ready l.phase) legs
  ready_counted = ap (nat_lt 0) are.ready ∙ any_counted is_ready legs

  pub waiting_counted : nat_lt 0 counts.waiting ≡ list_any (λ l. leg_waits l.phase) legs
  waiting_counted = ap (nat_lt 0) are.waiting ∙ any_counted leg_waits legs

  new_counted : nat_lt 0 counts.newcomers ≡ list_any (λ l. is_new l.phase) legs
  new_counted = ap (nat_lt 0) are.newcomers ∙ any_counted is_new legs

  pub holding_counted : (nat_lt 0 counts.ready || nat_lt 0 counts.at_work) ≡ list_any (λ l. leg_holds l.phase) legs
  holding_counted =
      ap (λ b. b || nat_lt 0 counts.at_work) ready_counted
      ∙ ap (λ b. list_any (λ l. is_ready l.phase) legs || b) (ap (nat_lt 0) are.at_work ∙ any_counted is_at_work legs)
      ∙ any_holds legs

  pub active_counted : (nat_lt 0 counts.waiting || (nat_lt 0 counts.ready || nat_lt 0 counts.at_work)) ≡ list_any is_active_leg legs
  active_counted =
      ap (λ b. b || (nat_lt 0 counts.ready || nat_lt 0 counts.at_work)) waiting_counted
      ∙ ap (λ b. list_any (λ l. leg_waits l.phase) legs || b) holding_counted ∙ any_active legs

  pub unready_counted : (nat_lt 0 counts.newcomers || nat_lt 0 counts.waiting) ≡ list_any is_unready_leg legs
  unready_counted =
      ap (λ b. b || nat_lt 0 counts.waiting) new_counted
      ∙ ap (λ b. list_any (λ l. is_new l.phase) legs || b) waiting_counted ∙ any_unready legs

  pub ended_counted :
      not (nat_lt 0 counts.newcomers || (nat_lt 0 counts.waiting || (nat_lt 0 counts.ready || nat_lt 0 counts.at_work)))
      ≡ list_all leg_has_ended legs
  ended_counted =
      ap (λ b. not (b || (nat_lt 0 counts.waiting || (nat_lt 0 counts.ready || nat_lt 0 counts.at_work)))) new_counted
      ∙ ap (λ b. not (list_any (λ l. is_new l.phase) legs || b)) active_counted
      ∙ not_either (list_any (λ l. is_new l.phase) legs) (list_any is_active_leg legs) ∙ all_ended legs

-- ---- after a change

counted_new : (test : LegPhase → Bool) (n : ℕ) → legs_in test (replicate n new_leg) ≡ (if test leg.New then n else 0)
counted_new test zero =
    elim (test leg.New) as (λ b. ◌≡◌ {A = ℕ} 0 (if b then 0 else 0)) [
      | true ↦ refl
      | false ↦ refl
    ]
counted_new test (suc n) =
    counted_cons test new_leg (replicate n new_leg)
    ∙ ap (λ m. counted_one (test leg.New) + m) (counted_new test n)
    ∙ elim (test leg.New) as (λ b. counted_one b + (if b then n else 0) ≡ (if b then suc n else 0)) [
      | true ↦ omega arith
      | false ↦ omega arith
    ]

pub all_new_counted : (n : ℕ) (counts : LegCounts) → counts.newcomers ≡ n → counts.waiting ≡ 0 → counts.ready ≡ 0 → counts.at_work ≡ 0
    → AreCounted (replicate n new_leg) counts
all_new_counted n counts newcomers waiting ready at_work = record {
  newcomers = newcomers ∙ sym (counted_new is_new n);
  waiting = waiting ∙ sym (counted_new leg_waits n);
  ready = ready ∙ sym (counted_new is_ready n);
  at_work = at_work ∙ sym (counted_new is_at_work n);
}

module _ (runs : List RunState) (r j : ℕ) where
  no_rule : (phase : LegPhase) (n : ℕ) (l : LegState) → l.phase ≡ phase → is_new phase ≡ false → leg_waits phase ≡ false
      → goes_on runs (leg_site r j n) l ≡ false
  no_rule leg.New n l is new waits = absurd (true≢false new)
  no_rule leg.Waiting n l is new waits = absurd (true≢false waits)
  no_rule leg.Ready n l is new waits = ap (λ p. goes_on_in p runs (leg_site r j n)) is
  no_rule leg.Running n l is new waits = ap (λ p. goes_on_in p runs (leg_site r j n)) is
  no_rule leg.Stopping n l is new waits = ap (λ p. goes_on_in p runs (leg_site r j n)) is
  no_rule (leg.Ended o) n l is new waits = ap (λ p. goes_on_in p runs (leg_site r j n)) is

  abbrev of_leg : ℕ × LegState → Option RuleSite
  of_leg l = if goes_on runs (leg_site r j l.0) l.1 then Some (AtLeg (leg_site r j l.0)) else None

  none_from : (n : ℕ) (legs : List LegState) → list_any is_unready_leg legs ≡ false → first_some of_leg (enumerate_from n legs) ≡ None
  none_from n [] none = refl
  none_from n (l ∷ legs) none =
      let parts = or_parts (is_unready_leg l) (list_any is_unready_leg legs) none in
      let leg = or_parts (is_new l.phase) (leg_waits l.phase) parts.0 in
      ap (λ b. option_or (if b then Some (AtLeg (leg_site r j n)) else None) (first_some of_leg (enumerate_from (n + 1) legs)))
      (no_rule l.phase n l refl leg.0 leg.1)
      ∙ none_from (n + 1) legs parts.1

  pub no_leg_moves : (legs : List LegState) → list_any is_unready_leg legs ≡ false → None ≡ first_of_legs runs r j legs
  no_leg_moves legs none = sym (none_from 0 legs none)
