-- The effect of several steps in a row.
use Rattle.std.proofs.Common.{◌≡◌, ⊎_elim, ◌↔◌, ℕ, ◌+◌, ◌<◌, ◌≤◌, List, [], ◌∷◌, ◌++◌, length, take, refl, sym, ◌∙◌, ap, subst, arith}
use Rattle.std.proofs.Common.{append_assoc, drop, get_or, length-append, take-append-drop, Bool, true, false}
use Rattle.std.specs.Prelude.{Option, Some, None, IfOk, IsSomeAnd, OnErr, Result, Ok, Err, option_map, if◌then◌else◌}
use Rattle.std.proofs.Math.Nat.{eq-or-lt_of_le}
use Rattle.std.proofs.lemmas.List.{append-nil, take_all, take-append-le, take_more}
use Rattle.wf_value.specs.declared.refusal.Refusal.{Refusal}
use Rattle.definitions.specs.Disk.{EachSince}
use Rattle.act_disk.proofs.Moments.{started, weakened, joined}
use Rattle.run_plan.specs.declared.command.Command.{Command}
use Rattle.run_plan.specs.declared.reply.Reply.{Reply}
use Rattle.table_model.specs.TableState.{TableState}
use Rattle.act_store.specs.Checkpoints.{dropped, finished, taken, with_slice}
use Rattle.act_store.specs.Entries.{table_after}
use Rattle.act_store.specs.Images.{RecoversTo}
use Rattle.act_store.specs.StoreState.{Checkpoint, StoreState, RecoversToEither, RecoversToSome}
use Rattle.act_store.specs.Plain.{broken, committed, entered, entry_of}
use Rattle.act_store.specs.Steps.{Counts, Covers, Grows, IsRefused, PlayEnds, Plays, PlaysSome, Replies, Survives, Takes, is_area_full, left_by}
use Rattle.act_store.specs.declared.entry.Entry.{Entry}
use Rattle.act_store.specs.declared.step.Played.{Played}
use Rattle.act_store.specs.declared.step.Played.TheVariants as told
use Rattle.act_store.specs.declared.step.Step.{Step}
use Rattle.act_store.specs.declared.step.Step.TheVariants as requested

-- ---- one more step

pub plays_more : {D : Type 0} (during : StoreState D → Played → StoreState D → Type 0) (old mid new : StoreState D) (steps : List Step)
    (answers : List Played)
    (step : Step) (answer : Played) → Plays during old steps answers mid → Takes mid step answer new → during mid answer new
    → Plays during old (steps ++ step ∷ []) (answers ++ answer ∷ []) new
plays_more {D} during old mid new [] [] step answer plays takes so =
    let here : mid ≡ old = plays in
    (new, subst (λ (k : StoreState D). Takes k step answer new) here takes, subst (λ (k : StoreState D). during k answer new) here so, refl)
plays_more during old mid new [] (p ∷ ps) step answer plays takes so = absurd plays
plays_more during old mid new (s ∷ ss) [] step answer plays takes so = absurd plays
plays_more during old mid new (s ∷ ss) (p ∷ ps) step answer plays takes so =
    (plays.0, plays.1, plays.2, plays_more during plays.0 mid new ss ps step answer plays.3 takes so)

module _ {D : Type 0} (during : StoreState D → Played → StoreState D → Type 0) (old : StoreState D) (steps : List Step) where
  -- the next step of a list
  pub plays_next : (mid new : StoreState D) (i : ℕ) (answers all : List Played) (step : Step) (answer : Played) → i < length steps
      → step ≡ get_or steps i step → all ≡ answers ++ answer ∷ [] → Plays during old (take i steps) answers mid → Takes mid step answer new
      → during mid answer new → Plays during old (take (i + 1) steps) all new
  plays_next mid new i answers all step answer below is all_is plays takes so =
      let prefix : take (i + 1) steps ≡ take i steps ++ step ∷ [] =
      take_more steps i step below ∙ ap (λ (s : Step). take i steps ++ s ∷ []) (sym is) in
      subst (λ (l : List Step). Plays during old l all new) (sym prefix)
      (subst (λ (l : List Played). Plays during old (take i steps ++ step ∷ []) l new) (sym all_is)
      (plays_more during old mid new (take i steps) answers step answer plays takes so))

  -- when no further step is played
  pub first_played : {T E : Type 0} (r : Result T E) (new : StoreState D) (i : ℕ) (answers : List Played)
      → Plays during old (take i steps) answers new → OnErr r (PlaysSome during old steps new)
  first_played (Ok x) new i answers plays = tt
  first_played (Err e) new i answers plays =
      record { first = take i steps; others = drop i steps; split = sym (take-append-drop i steps); answers = answers; plays = plays }

-- ---- what one step preserves

module _ {D : Type 0} where
  same_grows : (old new : StoreState D) → old.covered ≤ length old.history → new ≡ old → Grows old new
  same_grows old new within same = subst (λ (k : StoreState D). Grows old k) (sym same)
      (record { base = refl; more = []; history = sym (append-nil old.history); covers = omega arith; within = within })

  committed_grows : (old new : StoreState D) (disk : D) → old.covered ≤ length old.history → new ≡ committed old disk → Grows old new
  committed_grows old new disk within same = subst (λ (k : StoreState D). Grows old k) (sym same)
      (record { base = refl; more = []; history = sym (append-nil old.history); covers = within; within = omega arith })

  broken_grows : (old new : StoreState D) (disk : D) → old.covered ≤ length old.history → new ≡ broken old disk → Grows old new
  broken_grows old new disk within same = subst (λ (k : StoreState D). Grows old k) (sym same)
      (record { base = refl; more = []; history = sym (append-nil old.history); covers = omega arith; within = within })

  entered_grows : (old new : StoreState D) (command : Command) → old.covered ≤ length old.history → new ≡ entered old 0 command → Grows old new
  entered_grows old new command within same = subst (λ (k : StoreState D). Grows old k) (sym same)
      (record {
        base = refl;
        more = entry_of old 0 command ∷ [];
        history = refl;
        covers = omega arith;
        within = omega (arith, within, length-append old.history (entry_of old 0 command ∷ []));
      })

  covers_grows : (old new : StoreState D) (count : ℕ) → old.covered ≤ length old.history → Covers old count new → Grows old new
  covers_grows old new count within covers = ⊎_elim (λ all. same_grows old new within (covers.none (omega (arith, all))))
      (λ less. committed_grows old new new.disk within (covers.some less)) (eq-or-lt_of_le within)

  -- a different disk or checkpoint makes no difference to it
  checkpoint_grows : (old new : StoreState D) (disk : D) (checkpoint : Option Checkpoint) (failed : Bool) → old.covered ≤ length old.history
      → new ≡ record old { disk = disk; begun = checkpoint; failed = failed } → Grows old new
  checkpoint_grows old new disk checkpoint failed within same = subst (λ (k : StoreState D). Grows old k) (sym same)
      (record { base = refl; more = []; history = sym (append-nil old.history); covers = omega arith; within = within })

  finished_grows : (old new : StoreState D) (o : Option Checkpoint) → old.covered ≤ length old.history
      → IsSomeAnd o (λ checkpoint. new ≡ finished old checkpoint new.disk) → Grows old new
  finished_grows old new None within done = absurd done
  finished_grows old new (Some checkpoint) within done = subst (λ (k : StoreState D). Grows old k) (sym done)
      (record { base = refl; more = []; history = sym (append-nil old.history); covers = within; within = omega arith })

  left_grows : (old new : StoreState D) (step : Step) (e : Refusal) → new ≡ left_by old step e → old.covered ≤ length old.history → Grows old new
  left_grows old new (requested.Apply command) e left within = same_grows old new within left
  left_grows old new requested.Commit e left within = same_grows old new within left
  left_grows old new requested.Begin e left within = same_grows old new within left
  left_grows old new requested.Slice e left within = same_grows old new within left
  left_grows old new requested.Finish e left within = by_test (is_area_full e) left
    where
      by_test : (b : Bool) → new ≡ (if b then dropped old else old) → Grows old new
      by_test true drops = checkpoint_grows old new old.disk None old.failed within drops
      by_test false same = same_grows old new within same

  refused_grows : (old new : StoreState D) (step : Step) (e : Refusal) → IsRefused old step e new → old.covered ≤ length old.history
      → Grows old new
  refused_grows old new step e refused within =
      ⊎_elim (λ cause. left_grows old new step e cause.1 within)
      (λ rest. ⊎_elim (λ memory. same_grows old new within memory.3) (λ fault. broken_grows old new new.disk within fault.3) rest) refused

  replied_grows : (old new : StoreState D) (step : Step) (reply : Reply) → Replies old step reply new → old.covered ≤ length old.history
      → Grows old new
  replied_grows old new (requested.Apply command) reply replies within = entered_grows old new command within replies.0
  replied_grows old new requested.Commit reply replies within = absurd replies
  replied_grows old new requested.Begin reply replies within = absurd replies
  replied_grows old new requested.Slice reply replies within = absurd replies
  replied_grows old new requested.Finish reply replies within = absurd replies

  counted_grows : (old new : StoreState D) (step : Step) (count : ℕ) → Counts old step count new → old.covered ≤ length old.history
      → Grows old new
  counted_grows old new (requested.Apply command) count counts within = absurd counts
  counted_grows old new requested.Commit count counts within = covers_grows old new count within counts
  counted_grows old new requested.Begin count counts within =
      checkpoint_grows old new new.disk (Some (taken old)) old.failed within counts.0
  counted_grows old new requested.Slice count counts within =
      checkpoint_grows old new new.disk (option_map with_slice old.begun) old.failed within counts.0
  counted_grows old new requested.Finish count counts within = finished_grows old new old.begun within counts.0

  pub takes_grows : (old new : StoreState D) (step : Step) (answer : Played) → Takes old step answer new → old.covered ≤ length old.history
      → Grows old new
  takes_grows old new step (told.Replied reply) takes within = replied_grows old new step reply takes.1 within
  takes_grows old new step (told.Count count) takes within = counted_grows old new step count takes.1 within
  takes_grows old new step (told.Refused e) takes within = refused_grows old new step e takes within

  grows_on : (old mid new : StoreState D) → Grows old mid → Grows mid new → Grows old new
  grows_on old mid new first second = record {
    base = second.base ∙ first.base;
    more = first.more ++ second.more;
    history =
        second.history ∙ ap (λ (l : List Entry). l ++ second.more) first.history ∙ append_assoc old.history first.more second.more;
    covers = omega (arith, first.covers, second.covers);
    within = second.within;
  }

  pub plays_grows : (during : StoreState D → Played → StoreState D → Type 0) (old new : StoreState D) (steps : List Step) (answers : List Played)
      → Plays during old steps answers new → old.covered ≤ length old.history → Grows old new
  plays_grows during old new [] [] plays within = same_grows old new within plays
  plays_grows during old new [] (p ∷ ps) plays within = absurd plays
  plays_grows during old new (s ∷ ss) [] plays within = absurd plays
  plays_grows during old new (s ∷ ss) (p ∷ ps) plays within =
      let first = takes_grows old plays.0 s p plays.1 within in
      grows_on old plays.0 new first (plays_grows during plays.0 new ss ps plays.3 first.within)

  -- ---- what images recover to, as entries are added

  prefix_same : (old new : StoreState D) → Grows old new → (count : ℕ) → count ≤ length old.history
      → table_after old.base (take count old.history) ≡ table_after new.base (take count new.history)
  prefix_same old new grows count least =
      ap (λ (l : List Entry). table_after old.base l)
      (sym (ap (λ (l : List Entry). take count l) grows.history ∙ take-append-le count old.history grows.more least))
      ∙ ap (λ (t : TableState). table_after t (take count new.history)) (sym grows.base)

  length_grows : (old new : StoreState D) → Grows old new → length old.history ≤ length new.history
  length_grows old new grows =
      omega (arith, ap (λ (l : List Entry). length l) grows.history, length-append old.history grows.more)

  pub either_grown : (old new : StoreState D) → Grows old new → old.covered ≤ length old.history → (c : List ℕ) → RecoversToEither old c
      → RecoversToSome new.base new.history old.covered c
  either_grown old new grows within c either = ⊎_elim
      (λ covered. record {
        count = old.covered;
        from = omega arith;
        within = omega (arith, within, length_grows old new grows);
        recovers = subst (λ (t : TableState). RecoversTo t c) (prefix_same old new grows old.covered within) covered;
      })
      (λ all. record {
        count = length old.history;
        from = within;
        within = length_grows old new grows;
        recovers = subst (λ (t : TableState). RecoversTo t c)
            (ap (λ (l : List Entry). table_after old.base l) (sym (take_all (length old.history) old.history (omega arith)))
            ∙ prefix_same old new grows (length old.history) (omega arith)) all;
      }) either

  -- the store as it is
  pub either_now : (s : StoreState D) → s.covered ≤ length s.history → (c : List ℕ) → RecoversToEither s c
      → RecoversToSome s.base s.history s.covered c
  either_now s within c either = either_grown s s (same_grows s s within refl) within c either

  -- ---- whatever the result of the steps

  some_played : (during : StoreState D → Played → StoreState D → Type 0) {V E : Type 0} (items : V → List Played) (result : Result V E)
      (old new : StoreState D)
      (steps : List Step) → IfOk result (λ v. Plays during old steps (items v) new) → OnErr result (PlaysSome during old steps new)
      → PlaysSome during old steps new
  some_played during items (Ok v) old new steps all part =
      record { first = steps; others = []; split = sym (append-nil steps); answers = items v; plays = all }
  some_played during items (Err e) old new steps all part = part

  module _ (honest : D → Type 0) (moment fault_count : D → ℕ) (images_since : D → ℕ → List ℕ → Type 0) where
    abbrev pub during : StoreState D → Played → StoreState D → Type 0
    during = Survives honest moment fault_count images_since

    pub honest_of : (old new : StoreState D) (steps : List Step) (answers : List Played) → Plays during old steps answers new
        → honest new.disk ↔ honest old.disk
    honest_of old new [] [] plays = let P : StoreState D → Type 0 = λ k. honest k.disk ↔ honest old.disk in
        subst P (sym plays) ((λ h. h), (λ h. h))
    honest_of old new [] (p ∷ ps) plays = absurd plays
    honest_of old new (s ∷ ss) [] plays = absurd plays
    honest_of old new (s ∷ ss) (p ∷ ps) plays =
        let later = honest_of plays.0 new ss ps plays.3 in
        let first = plays.2.stays_honest in
        ((λ h. first.0 (later.0 h)), (λ h. later.1 (first.1 h)))

    pub moments_of : (old new : StoreState D) (steps : List Step) (answers : List Played) → Plays during old steps answers new
        → old.covered ≤ length old.history → honest old.disk
        → ((c : List ℕ) → images_since new.disk (moment new.disk) c → RecoversToEither new c)
        → EachSince moment images_since old.disk new.disk (RecoversToSome new.base new.history old.covered)
    moments_of old new [] [] plays within is_honest here =
        let P : StoreState D → Type 0 = λ k. ((c : List ℕ) → images_since k.disk (moment k.disk) c → RecoversToEither k c)
        → EachSince moment images_since old.disk k.disk (RecoversToSome k.base k.history old.covered) in
        subst P (sym plays)
        (λ now. started moment images_since old.disk (RecoversToSome old.base old.history old.covered)
        (λ c left. either_now old within c (now c left))) here
    moments_of old new [] (p ∷ ps) plays within is_honest here = absurd plays
    moments_of old new (s ∷ ss) [] plays within is_honest here = absurd plays
    moments_of old new (s ∷ ss) (p ∷ ps) plays within is_honest here =
        let mid = plays.0 in
        let so = plays.2 in
        let first = takes_grows old mid s p plays.1 within in
        let second = plays_grows during mid new ss ps plays.3 first.within in
        joined moment images_since old.disk mid.disk new.disk (RecoversToSome new.base new.history old.covered)
        (RecoversToSome new.base new.history mid.covered)
        (weakened moment images_since old.disk mid.disk (RecoversToEither old) (RecoversToSome new.base new.history old.covered)
        (so.any_moment is_honest) (either_grown old new (grows_on old mid new first second) within))
        (moments_of mid new ss ps plays.3 first.within (so.stays_honest.1 is_honest) here)
        (λ c some. record {
          count = some.count;
          from = omega (arith, some.from, first.covers);
          within = some.within;
          recovers = some.recovers;
        })

    -- ---- the effect of a play, whatever its result

    pub record PlayLeaves (images : D → List ℕ → Type 0) (old new : StoreState D) : Type 0 where
      pub grows : Grows old new
      pub stays_honest : honest new.disk ↔ honest old.disk
      pub any_moment : honest old.disk → EachSince moment images_since old.disk new.disk (RecoversToSome new.base new.history old.covered)
      pub recovers : honest new.disk → (c : List ℕ) → images new.disk c → RecoversToSome new.base new.history new.covered c

    pub play_leaves : (images : D → List ℕ → Type 0) → ((disk : D) → honest disk → (c : List ℕ) → images_since disk (moment disk) c
        → images disk c) → {V : Type 0} (items : V → List Played) (result : Result V Refusal) (old new : StoreState D) (steps : List Step)
        → PlayEnds during items old steps result new → old.covered ≤ length old.history
        → (honest new.disk → (c : List ℕ) → images new.disk c → RecoversToEither new c)
        → PlayLeaves images old new
    play_leaves images only items result old new steps ends within promise =
        let some = some_played during items result old new steps ends.played ends.part in
        let grows = plays_grows during old new some.first some.answers some.plays within in
        let stays = honest_of old new some.first some.answers some.plays in
        record {
          grows = grows;
          stays_honest = stays;
          any_moment = λ is_honest.
              let still = stays.1 is_honest in
              moments_of old new some.first some.answers some.plays within is_honest
              (λ c left. promise still c (only new.disk still c left));
          recovers = λ still c now. either_now new grows.within c (promise still c now);
        }
