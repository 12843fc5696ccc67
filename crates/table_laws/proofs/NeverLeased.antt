-- No leg of a displaced holder is ever leased, as long as its run is at that attempt.
use Rattle.std.specs.Prelude.{◌≡◌, ◌⊎◌, ℕ, ◌-◌, ◌<◌, ◌≤◌, nat_le, List, [], ◌∷◌, ◌++◌, ◌||◌, true, false, Option, Some, None, refl}
use Rattle.std.specs.Option.{option_map_or}
use Rattle.std.proofs.Common.{arith, ap, ap₂, inl, inr, sym, ◌∙◌, subst, append_assoc}
use Rattle.std.proofs.lemmas.Bool.{cases_eq, false≢true, leb-false, leb-true, or_parts, true≢false}
use Rattle.std.proofs.lemmas.List.{append-nil}
use Rattle.std.proofs.lemmas.Option.{none-some}
use Rattle.group_name.specs.Group.{Group}
use Rattle.run_plan.specs.declared.command.Command.{Command}
use Rattle.table_model.specs.GroupLaw.{has_arrived, has_started, next_displaced, Move}
use Rattle.table_model.specs.Runs.{leg_at, run_at, LegState, RunState}
use Rattle.table_model.specs.declared.sites.LegSite.{LegSite}
use Rattle.table_model.proofs.JobKeeps.{leg_in, no_leg}
use Rattle.table_model.proofs.LegReads.{had_at, had_from_leg, leg_from_had}
use Rattle.table_model.specs.Forgotten.{ForgottenRuns}
use Rattle.table_model.specs.Holders.{run_of}
use Rattle.table_model.specs.Step.{after, forgettable, forgot, stepped}
use Rattle.table_model.specs.Sound.{IsSound}
use Rattle.table_model.specs.TableState.{TableState}
use Rattle.run_table.proofs.StepKeeps.{stepped_is_sound}
use Rattle.settling_laws.specs.Moved.{moved}
use Rattle.settling_laws.proofs.MovedHolders.{leg_down, leg_moved_back, moved_back, moved_down}
use Rattle.table_laws.specs.GroupHistories.{IsOf, all_moves, first_moves, group_moves, moves_in, step_moves}
use Rattle.table_laws.specs.Names.{Names, attempt_of, by_id, name_in}
use Rattle.table_laws.proofs.ForgetSteps.{Dropped, IsNoForget, attempt_then, forget_or_not, forgot_drops, same_by_id_then}
use Rattle.table_laws.proofs.Requesting.{somebody_comes}
use Rattle.table_laws.proofs.GroupSaid.{arrived_on, started_on}
use Rattle.table_laws.proofs.HistoryLaw.{attempts_rise, history_goes_on, told_so_far}
use Rattle.table_laws.proofs.HistoryStep.{SoFar, arrived_in_it}
use Rattle.table_laws.proofs.HistoryWords.{one_displaced}
use Rattle.table_laws.proofs.HolderIds.{by_id_apart, same_by_id}
use Rattle.table_laws.proofs.HoldersMoved.{moved_stays}
use Rattle.table_laws.proofs.LeasesStay.{dropped_had, step_had}
use Rattle.table_laws.proofs.ReachedTables.{after_is_sound}
use Rattle.table_laws.proofs.StepsStay.{forgotten_stays}
use Rattle.table_laws.proofs.Unbegun.{Unbegun}
use Rattle.table_model.specs.declared.holder.Holder.{Holder}
use Rattle.table_model.specs.declared.holder.Holder.TheVariants.{Run, Leg}

-- ---- a holder that has not begun has no lease

unbegun_had_none : (runs : List RunState) (h : Holder) → Unbegun runs h → (p : LegSite) → IsOf h p → (n : ℕ) → had_at runs p ≡ Some n → ⊥
unbegun_had_none runs (Run r) un p of_it n e =
    let from = leg_from_had runs p n e in
    let place = leg_in runs p from.value from.is in
    let no_legs = (un place.place.run (sym (ap (run_at runs) of_it) ∙ place.place.run_is)).no_legs p.job place.job place.place.job_is in
    no_leg place.job.legs p.leg from.value no_legs place.leg_is
unbegun_had_none runs (Leg q) un p of_it n e =
    let from = leg_from_had runs p n e in
    let none = (un from.value (sym (ap (leg_at runs) of_it) ∙ from.is)).no_lease in
    none-some n (sym none ∙ from.gives)

-- ---- the attempt of a leg is the attempt of its holder

same_attempt : (runs : List RunState) (h : Holder) (p : LegSite) → IsOf h p → attempt_of runs (Leg p) ≡ attempt_of runs h
same_attempt runs (Run r) p of_it = ap (λ (k : ℕ). option_map_or (λ x. x.attempt) (run_at runs k) 1) of_it
same_attempt runs (Leg q) p of_it = ap (λ (k : LegSite). option_map_or (λ x. x.attempt) (run_at runs k.run) 1) of_it

module _ (names : Names) (g : Group) (a : ℕ) (m : Holder) where
  abbrev name : Holder
  name = names.name a m

  -- ---- a past attempt makes no more moves

  -- in the table the holder with this id is at a later attempt
  abbrev IsPast : TableState → Type 0
  IsPast t = (h : Holder) → m ≡ by_id t h → a < attempt_of t.runs h

  past_then : (t : TableState) (c : Command) → IsSound t → IsPast t → IsPast (stepped t c).table
  past_then t c s past h is =
      let earlier = attempts_rise g t c s h in
      let before : a < attempt_of t.runs earlier.was = past earlier.was (is ∙ earlier.same_id) in
      let rises : attempt_of t.runs earlier.was ≤ attempt_of (stepped t c).table.runs h = earlier.no_later in
      omega (arith, before, rises)

  not_in_step : (t : TableState) (c : Command) → IsPast (stepped t c).table → has_arrived name (step_moves names g (stepped t c)) ≡ false
  not_in_step t c past =
      let made = stepped t c in
      elim (has_arrived name (step_moves names g made)) as (λ b. has_arrived name (step_moves names g made) ≡ b → b ≡ false) [
        | true ↦ λ arrives.
            let from = somebody_comes (name_in names made.table) name (moves_in made.table.runs g made.moves) arrives in
            let k = from.0 in
            let same = names.differ a (attempt_of made.table.runs k) m (by_id made.table k) from.2 in
            let is : a ≡ attempt_of made.table.runs k = same.0 in
            let later : a < attempt_of made.table.runs k = past k same.1 in
            absurd (omega (arith, is, later))
        | false ↦ λ none. refl
      ] refl

  not_in_rest : (t : TableState) (cs : List Command) → IsSound t → IsPast t → has_arrived name (group_moves names g t cs) ≡ false
  not_in_rest t [] s past = refl
  not_in_rest t (c ∷ cs) s past =
      let next = (stepped t c).table in
      let past_next = past_then t c s past in
      arrived_on name (step_moves names g (stepped t c)) (group_moves names g next cs)
      ∙ ap₂ (λ x y. x || y) (not_in_step t c past_next) (not_in_rest next cs (stepped_is_sound t c s) past_next)

  one_step : (t : TableState) (c : Command) (whole : List Move) → IsSound t → SoFar names g (λ k. false) t whole
      → SoFar names g (λ k. false) (stepped t c).table (whole ++ step_moves names g (stepped t c))
  one_step t c whole s so_far =
      subst (λ ms. SoFar names g (λ k. false) (stepped t c).table (whole ++ ms)) (append-nil (step_moves names g (stepped t c)))
      (history_goes_on names g (λ k. false) t (c ∷ []) whole s (λ k new requested. absurd (false≢true requested)) so_far)

  -- ---- a holder with a leased leg that has not started has not arrived

  unstarted_before : (whole more : List Move) → has_started name (whole ++ more) ≡ false → has_started name whole ≡ false
  unstarted_before whole more unstarted =
      (or_parts (has_started name whole) (has_started name more) (sym (started_on name whole more) ∙ unstarted)).0

  -- in the table a holder has this name, and one of its legs a lease
  record IsLeased (t : TableState) : Type 0 where
    pub holder : Holder
    pub site : LegSite
    pub lease : ℕ
    pub of_it : IsOf holder site
    pub id_is : m ≡ by_id t holder
    pub attempt_is : attempt_of t.runs holder ≡ a
    pub had : had_at t.runs site ≡ Some lease

  has_not_come : (t : TableState) (whole : List Move) → SoFar names g (λ k. false) t whole → IsLeased t → has_started name whole ≡ false
      → has_arrived name whole ≡ false
  has_not_come t whole so_far leased unstarted =
      let h = leased.holder in
      let named : name_in names t h ≡ name = ap₂ names.name leased.attempt_is (sym leased.id_is) in
      elim (has_arrived name whole) as (λ b. has_arrived name whole ≡ b → b ≡ false) [
        | true ↦ λ arrived.
            let came : has_arrived h so_far.now ≡ true = sym (so_far.agrees.arrived h) ∙ ap (λ k. has_arrived k whole) named ∙ arrived in
            let waits : has_started h so_far.now ≡ false = sym (so_far.agrees.started h) ∙ ap (λ k. has_started k whole) named ∙ unstarted in
            absurd (unbegun_had_none t.runs h
            (so_far.unbegun h (arrived_in_it names g (λ k. false) t whole so_far h came) came waits) leased.site leased.of_it leased.lease
            leased.had)
        | false ↦ λ none. refl
      ] refl

  -- a step that forgets no run
  module _ (t : TableState) (c : Command) (keeps : IsNoForget c) (s : IsSound t) (leased : IsLeased t) where
    abbrev h : Holder
    h = leased.holder

    abbrev next : TableState
    next = (stepped t c).table

    next_sound : IsSound next
    next_sound = stepped_is_sound t c s

    same_id : by_id next h ≡ by_id t h
    same_id = same_by_id t next s next_sound (ap (λ (f : ForgottenRuns). f.through) (forgotten_stays t c keeps)) h

    same_leg : attempt_of next.runs h ≡ a → attempt_of next.runs (Leg leased.site) ≡ attempt_of t.runs (Leg leased.site)
    same_leg same =
        same_attempt next.runs h leased.site leased.of_it ∙ same ∙ sym leased.attempt_is
        ∙ sym (same_attempt t.runs h leased.site leased.of_it)

    past_after : (attempt_of next.runs h ≡ a → ⊥) → IsPast next
    past_after other k is =
        let it : h ≡ k = by_id_apart next next_sound h k (same_id ∙ sym leased.id_is ∙ is) in
        let earlier = attempts_rise g t c s h in
        let before : h ≡ earlier.was = by_id_apart t s h earlier.was (sym same_id ∙ earlier.same_id) in
        let was : attempt_of t.runs earlier.was ≡ a = ap (attempt_of t.runs) (sym before) ∙ leased.attempt_is in
        let rises : attempt_of t.runs earlier.was ≤ attempt_of next.runs h = earlier.no_later in
        let later : a < attempt_of next.runs h = omega (arith, rises, other, was) in
        subst (λ (i : Holder). a < attempt_of next.runs i) it later

    -- it has the lease as long as its run stays at the attempt, and then is past
    kept_or_past : IsLeased next ⊎ IsPast next
    kept_or_past =
        elim (cases_eq (attempt_of next.runs h) a) [
          | inl same ↦ inl (record {
            holder = h;
            site = leased.site;
            lease = leased.lease;
            of_it = leased.of_it;
            id_is = leased.id_is ∙ sym same_id;
            attempt_is = same;
            had = step_had t c keeps s leased.site leased.lease (same_leg same) leased.had;
          })
          | inr other ↦ inr (past_after other)
        ]

  -- where the first runs are dropped
  module _ (k : ℕ) (t next : TableState) (s : IsSound t) (dropped : Dropped k t next) (leased : IsLeased t) where
    of_it_down : (h : Holder) (p : LegSite) → IsOf h p → IsOf (moved_down k h) (leg_down k p)
    of_it_down (Run r) p of_it = ap (λ n. n - k) of_it
    of_it_down (Leg q) p of_it = ap (leg_down k) of_it

    run_of_it : (h : Holder) (p : LegSite) → IsOf h p → run_of h ≡ p.run
    run_of_it (Run r) p of_it = sym of_it
    run_of_it (Leg q) p of_it = ap (λ (x : LegSite). x.run) (sym of_it)

    -- it has the lease if its run is not dropped
    stays_leased : k ≤ run_of leased.holder → IsLeased next
    stays_leased le =
        let h = leased.holder in
        let back = moved_back k h le in
        let its_run = run_of_it h leased.site leased.of_it in
        record {
          holder = moved_down k h;
          site = leg_down k leased.site;
          lease = leased.lease;
          of_it = of_it_down h leased.site leased.of_it;
          id_is = leased.id_is ∙ sym (same_by_id_then k t next dropped (moved_down k h) ∙ ap (by_id t) back);
          attempt_is = attempt_then k t next dropped (moved_down k h) ∙ ap (attempt_of t.runs) back ∙ leased.attempt_is;
          had = dropped_had k t next dropped (leg_down k leased.site)
              ∙ ap (had_at t.runs) (leg_moved_back k leased.site (omega (arith, le, its_run))) ∙ leased.had;
        }

    -- else no holder has its id any more
    gone_is_past : run_of leased.holder < k → IsPast next
    gone_is_past lt i is =
        let it : leased.holder ≡ moved k i =
        by_id_apart t s leased.holder (moved k i) (sym leased.id_is ∙ is ∙ same_by_id_then k t next dropped i) in
        let there = leb-true k (run_of (moved k i)) (moved_stays k i) in
        let same : run_of leased.holder ≡ run_of (moved k i) = ap run_of it in
        absurd (omega (arith, lt, there, same))

    dropped_or_past : IsLeased next ⊎ IsPast next
    dropped_or_past =
        elim (nat_le k (run_of leased.holder)) as (λ b. nat_le k (run_of leased.holder) ≡ b → IsLeased next ⊎ IsPast next) [
          | true ↦ λ le. inl (stays_leased (leb-true k (run_of leased.holder) le))
          | false ↦ λ lt. inr (gone_is_past (leb-false k (run_of leased.holder) lt))
        ] refl

  leased_then : (t : TableState) (c : Command) → IsSound t → IsLeased t → IsLeased (stepped t c).table ⊎ IsPast (stepped t c).table
  leased_then t c s leased =
      elim (forget_or_not c) [
        | inl forgets ↦
            subst (λ (d : Command). IsLeased (stepped t d).table ⊎ IsPast (stepped t d).table) (sym forgets.1)
            (dropped_or_past (forgettable t forgets.0) t (forgot t forgets.0).table s (forgot_drops t forgets.0) leased)
        | inr keeps ↦ kept_or_past t c keeps s leased
      ]

  -- nor does it arrive later
  never_comes : (t : TableState) (cs : List Command) (whole : List Move) → IsSound t → SoFar names g (λ k. false) t whole → IsLeased t
      → has_started name (whole ++ group_moves names g t cs) ≡ false → has_arrived name (whole ++ group_moves names g t cs) ≡ false
  never_comes t [] whole s so_far leased unstarted =
      ap (has_arrived name) (append-nil whole)
      ∙ has_not_come t whole so_far leased (ap (has_started name) (sym (append-nil whole)) ∙ unstarted)
  never_comes t (c ∷ cs) whole s so_far leased unstarted =
      let next = (stepped t c).table in
      let next_sound = stepped_is_sound t c s in
      let made = step_moves names g (stepped t c) in
      let rest = group_moves names g next cs in
      elim (leased_then t c s leased) [
        | inl still ↦
            ap (has_arrived name) (sym (append_assoc whole made rest))
            ∙ never_comes next cs (whole ++ made) next_sound (one_step t c whole s so_far) still
            (ap (has_started name) (append_assoc whole made rest) ∙ unstarted)
        | inr past ↦
            arrived_on name whole (made ++ rest)
            ∙ ap₂ (λ x y. x || y) (has_not_come t whole so_far leased (unstarted_before whole (made ++ rest) unstarted))
            (arrived_on name made rest ∙ ap₂ (λ x y. x || y) (not_in_step t c past) (not_in_rest next cs next_sound past))
      ]

-- ---- all commands

moves_of_both : (names : Names) (g : Group) (t : TableState) (first second : List Command)
    → group_moves names g t (first ++ second) ≡ group_moves names g t first ++ group_moves names g (after t first) second
moves_of_both names g t [] second = refl
moves_of_both names g t (c ∷ first) second =
    let next = (stepped t c).table in
    let made = step_moves names g (stepped t c) in
    ap (λ ms. made ++ ms) (moves_of_both names g next first second)
    ∙ sym (append_assoc made (group_moves names g next first) (group_moves names g (after next first) second))

no_lease_then : (o : Option ℕ) → ((n : ℕ) → o ≡ Some n → ⊥) → o ≡ None
no_lease_then None never = refl
no_lease_then (Some n) never = absurd (never n refl)

pub displaced_never_leased : (names : Names) (t : TableState) (first second : List Command) (g : Group) (before after_it : List Move)
    (newcomer h : Holder) → IsSound t → all_moves names g t (first ++ second) ≡ before ++ Move.arrive newcomer ∷ after_it
    → next_displaced before ≡ Some (name_in names (after t first) h)
    → (p : LegSite) (z : LegState) → IsOf h p → leg_at (after t first).runs p ≡ Some z → z.lease ≡ None
displaced_never_leased names t first second g before after_it newcomer h s e is p z of_it there =
    let whole = all_moves names g t first in
    let middle = after t first in
    let name = name_in names middle h in
    let gone = one_displaced names t (first ++ second) g before after_it newcomer name s e is in
    let parts : all_moves names g t (first ++ second) ≡ whole ++ group_moves names g middle second =
    ap (λ ms. first_moves names g t ++ ms) (moves_of_both names g t first second)
    ∙ sym (append_assoc (first_moves names g t) (group_moves names g t first) (group_moves names g middle second)) in
    no_lease_then z.lease (λ n has.
    true≢false (sym gone.arrived ∙ ap (has_arrived name) parts
    ∙ never_comes names g (attempt_of middle.runs h) (by_id middle h) middle second whole (after_is_sound t first s)
    (told_so_far names t first g s) (record {
      holder = h;
      site = p;
      lease = n;
      of_it = of_it;
      id_is = refl;
      attempt_is = refl;
      had = had_from_leg middle.runs p z there ∙ has;
    })
    (ap (has_started name) (sym parts) ∙ gone.unstarted)))
