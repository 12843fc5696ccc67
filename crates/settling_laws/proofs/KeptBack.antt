-- A holder that is held back by one that is in progress in its group is still held back after a change that releases no group.
use Rattle.std.specs.Prelude.{◌≡◌, ℕ, zero, suc, List, [], ◌∷◌, ◌||◌, not, Bool, true, false, Option, Some, None, slice_get, refl}
use Rattle.std.specs.List.{list_any}
use Rattle.std.specs.Option.{option_map_or}
use Rattle.std.proofs.Common.{ap, sym, ◌∙◌}
use Rattle.std.proofs.lemmas.Bool.{and_from, and_parts, both_ways, not-false}
use Rattle.std.proofs.lemmas.Option.{same_Some}
use Rattle.group_name.specs.Group.{Group, same_group}
use Rattle.table_model.specs.Runs.{changed_at, job_at, leg_at, run_at, with_job, with_leg, with_run, LegState, JobState, RunState, is_live}
use Rattle.table_model.specs.Groups.{group_at, all_holders, holds, is_in, is_in_progress_in, is_taken, leg_holds, may_start, waits}
use Rattle.table_model.specs.Holders.{run_of}
use Rattle.table_model.specs.declared.sites.LegSite.{LegSite}
use Rattle.table_model.proofs.JobKeeps.{with_job_of, with_leg_of}
use Rattle.table_model.proofs.RunFits.{job_in_run, leg_in_job}
use Rattle.settling_laws.specs.inner.Releases.{ReleasesNone}
use Rattle.settling_laws.proofs.HoldersFade.{by_run, job_passes, leg_passes, passes, run_passes}
use Rattle.settling_laws.proofs.OneEach.{GroupsStay, IsOneOf, not_taken, one_that_holds}
use Rattle.table_model.specs.declared.holder.Holder.{Holder}
use Rattle.table_model.specs.declared.holder.Holder.TheVariants.{Run, Leg}

-- ---- which holders hold a group

-- each run and leg that holds a group still holds it
abbrev pub StillHold : List RunState → List RunState → Type 0
StillHold runs next = (h : Holder) (g : Group) → group_at runs h ≡ Some g → holds runs h ≡ true → holds next h ≡ true

-- a holder that may not start may still not start
abbrev pub KeepsBack : List RunState → List RunState → Type 0
KeepsBack runs next = (h : Holder) → IsOneOf runs h → may_start runs h ≡ false → may_start next h ≡ false

-- a waiting holder of run `r` that may not start may still not start
abbrev pub KeepsBackIn : List RunState → List RunState → ℕ → Type 0
KeepsBackIn runs next r = (h : Holder) → run_of h ≡ r → waits runs h ≡ true → may_start runs h ≡ false → may_start next h ≡ false

-- each holder that is in progress in the group still is
abbrev pub RunsStill : List RunState → List RunState → Group → Type 0
RunsStill runs next g = (h : Holder) → is_in_progress_in runs g h ≡ true → is_in_progress_in next g h ≡ true

-- in the group of each waiting holder of run `r`, each holder in progress still is
abbrev pub RunsStillFor : List RunState → List RunState → ℕ → Type 0
RunsStillFor runs next r =
    (h : Holder) → run_of h ≡ r → waits runs h ≡ true → (g : Group) → group_at runs h ≡ Some g → RunsStill runs next g

record AnyOf {X : Type 0} (test : X → Bool) : Type 0 where
  one : X
  passed : test one ≡ true

any_of : {X : Type 0} (test : X → Bool) (xs : List X) → list_any test xs ≡ true → AnyOf test
any_of test [] e = cc
any_of test (x ∷ xs) e =
    elim (test x) as (λ b. test x ≡ b → (b || list_any test xs) ≡ true → AnyOf test) [
      | true ↦ λ is e. record { one = x; passed = is }
      | false ↦ λ is e. any_of test xs e
    ] refl e

in_group : (g : Group) (o : Option Group) → option_map_or (same_group g) o false ≡ true → (k : Group) × (o ≡ Some k)
in_group g None e = cc
in_group g (Some k) e = (k, refl)

-- a holder whose group does not change, and that still holds it, is still in progress in it
pub runs_still : (runs next : List RunState) (g : Group) (h : Holder) → group_at next h ≡ group_at runs h
    → (holds runs h ≡ true → (k : Group) → group_at runs h ≡ Some k → holds next h ≡ true)
    → is_in_progress_in runs g h ≡ true → is_in_progress_in next g h ≡ true
runs_still runs next g h same still e =
    let parts = and_parts (is_in runs g h) (holds runs h) e in
    let group = in_group g (group_at runs h) parts.0 in
    and_from (is_in next g h) (holds next h) (ap (λ o. option_map_or (same_group g) o false) same ∙ parts.0) (still parts.1 group.0 group.1)

-- a group that no holder releases still holds back each holder that is in it
module _ (runs next : List RunState) where
  still_taken : (g : Group) → RunsStill runs next g → is_taken runs g ≡ true → is_taken next g ≡ true
  still_taken g stay e =
      let any = any_of (is_in_progress_in runs g) (all_holders runs) e in
      elim (is_taken next g) as (λ b. is_taken next g ≡ b → b ≡ true) [
        | true ↦ λ is. refl
        | false ↦ λ is. absurd (not_taken next g any.one is (stay any.one any.passed))
      ] refl

  back_from : (o : Option Group) → ((g : Group) → o ≡ Some g → RunsStill runs next g)
      → option_map_or (λ g. not (is_taken runs g)) o true ≡ false → option_map_or (λ g. not (is_taken next g)) o true ≡ false
  back_from None stay e = cc
  back_from (Some g) stay e = ap not (still_taken g (stay g refl) (not-false (is_taken runs g) e))

  pub back_still : (h : Holder) → ((g : Group) → group_at runs h ≡ Some g → RunsStill runs next g) → group_at next h ≡ group_at runs h
      → may_start runs h ≡ false → may_start next h ≡ false
  back_still h stay same e = ap (λ o. option_map_or (λ g. not (is_taken next g)) o true) same ∙ back_from (group_at runs h) stay e

module _ (runs next : List RunState) (stays : GroupsStay runs next) (still : StillHold runs next) where
  still_run : ReleasesNone runs next
  still_run g h e =
      let there = one_that_holds runs h (and_parts (is_in runs g h) (holds runs h) e).1 in
      runs_still runs next g h (stays h there) (λ held k group. still h k group held) e

  pub kept_back : KeepsBack runs next
  kept_back h there e = back_still runs next h (λ g group. still_run g) (stays h there) e

-- ---- a test that passes at each index still passes after a change at one of them

pub passed_on : {X : Type 0} (test : X → Bool) (f : X → X) (i : ℕ) (xs : List X)
    → ((x : X) → slice_get xs i ≡ Some x → test x ≡ true → test (f x) ≡ true) → (k : ℕ)
    → passes test (slice_get xs k) ≡ true → passes test (slice_get (changed_at i f xs) k) ≡ true
passed_on test f i [] strong k e = e
passed_on test f zero (x ∷ xs) strong zero e = strong x refl e
passed_on test f zero (x ∷ xs) strong (suc k) e = e
passed_on test f (suc i) (x ∷ xs) strong zero e = e
passed_on test f (suc i) (x ∷ xs) strong (suc k) e = passed_on test f i xs strong k e

-- ---- a change of one run, of one job and of one leg

pub legs_still_hold : (f : RunState → RunState) (r : ℕ) (runs : List RunState) (p : LegSite)
    → ((x : RunState) → run_at runs r ≡ Some x → run_passes leg_holds p.job p.leg x ≡ true → run_passes leg_holds p.job p.leg (f x) ≡ true)
    → holds runs (Leg p) ≡ true → holds (with_run r f runs) (Leg p) ≡ true
legs_still_hold f r runs p strong e =
    by_run leg_holds (with_run r f runs) p
    ∙ passed_on (run_passes leg_holds p.job p.leg) f r runs strong p.run (sym (by_run leg_holds runs p) ∙ e)

module _ (runs : List RunState) (r j : ℕ) (f : JobState → JobState)
    (strong : (y : JobState) → job_at runs r j ≡ Some y → (l : ℕ) → job_passes leg_holds l y ≡ true → job_passes leg_holds l (f y) ≡ true)
  where
    in_run : (i l : ℕ) (x : RunState) → run_at runs r ≡ Some x → run_passes leg_holds i l x ≡ true
        → run_passes leg_holds i l (with_job_of j f x) ≡ true
    in_run i l x at e =
        passed_on (job_passes leg_holds l) f j x.jobs (λ y was now. strong y (job_in_run runs r j x at ∙ was) l now) i e

    pub job_still_holds : (h : Holder) → holds runs h ≡ true → holds (with_job r j f runs) h ≡ true
    job_still_holds (Run s) e =
        passed_on (λ (x : RunState). is_live x.phase) (with_job_of j f) r runs (λ x at now. now) s e
    job_still_holds (Leg p) e =
        legs_still_hold (with_job_of j f) r runs p (λ x at now. in_run p.job p.leg x at now) e

-- a leg that does not hold its group enters any phase
pub leg_still_holds : (runs : List RunState) (p : LegSite) (z : LegState) (f : LegState → LegState) → leg_at runs p ≡ Some z
    → leg_holds z.phase ≡ false → (h : Holder) → holds runs h ≡ true → holds (with_leg p f runs) h ≡ true
leg_still_holds runs p z f was held_not =
    job_still_holds runs p.run p.job (with_leg_of p.leg f)
    (λ y at l now. passed_on (leg_passes leg_holds) f p.leg y.legs
    (λ v is holding. absurd (both_ways (leg_holds z.phase) held_not
    (subst_held v z (same_Some z v (sym was ∙ leg_in_job runs p y at ∙ is)) holding))) l now)
  where
    subst_held : (v z : LegState) → z ≡ v → leg_holds v.phase ≡ true → leg_holds z.phase ≡ true
    subst_held v z e h = ap (λ (x : LegState). leg_holds x.phase) e ∙ h
