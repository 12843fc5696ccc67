-- Once a new run has arrived, no rule applies before the site from which settling begins: all sites, or if it has no group, its own run, since
-- the runs before it stay at a fixpoint.
use Rattle.std.specs.Prelude.{◌≡◌, ℕ, List, [], ◌∷◌, ◌++◌, length, is_some, Option, Some, None, if◌then◌else◌, refl}
use Rattle.std.specs.Option.{option_map_or}
use Rattle.std.proofs.Common.{arith, ap, sym, subst, ◌∙◌}
use Rattle.group_name.specs.Group.{Group}
use Rattle.table_model.specs.GroupLaw.{without_moves}
use Rattle.table_model.specs.Groups.{cancels_in_progress, group_at}
use Rattle.table_model.specs.Runs.{RunState}
use Rattle.table_model.specs.Settling.{arrived, first_site, room_made}
use Rattle.table_model.specs.Sound.{RunsAreSound}
use Rattle.table_model.specs.declared.holder.Holder.{Holder}
use Rattle.table_model.specs.declared.holder.Holder.TheVariants.{Run}
use Rattle.table_model.specs.declared.sites.JobSite.{JobSite}
use Rattle.table_model.specs.inner.Resuming.{NoneBefore, RestBefore, resume_at_arrival}
use Rattle.table_model.specs.inner.WithinRun.{first_in_run}
use Rattle.table_model.proofs.Found.{before_the_end}
use Rattle.settling_laws.proofs.AddedRun.{groups_before, still_hold}
use Rattle.settling_laws.proofs.HoldersKeep.{arrival_settles}
use Rattle.settling_laws.proofs.KeptBack.{kept_back}
use Rattle.settling_laws.proofs.Resumed.{rest_before_all, runs_rest}
use Rattle.settling_laws.proofs.SoundRuns.{runs_that_fit, sound_runs}
use Rattle.settling_laws.proofs.Walks.{first_place_by_run}
use Rattle.table_runs.proofs.NoAnswer.{each_none, requested_none}

pub arrival_sound : (newcomer : Holder) (runs new : List RunState) → RunsAreSound runs → new ≡ (arrived newcomer runs).runs → RunsAreSound new
arrival_sound newcomer runs new sound is =
    subst RunsAreSound (sym is)
    (sound_runs (arrived newcomer runs).runs (arrival_settles newcomer runs (runs_that_fit runs sound)).stay.fit)

rested : (runs : List RunState) → first_site runs ≡ None → (n : ℕ) → NoneBefore (first_in_run runs) runs n
rested runs rests n k lt = requested_none (first_in_run runs) runs
    (each_none (first_in_run runs) runs (sym (first_place_by_run runs) ∙ rests)) k _ refl

-- a run that changes nothing in its arrival
alone : (runs : List RunState) (run : RunState) → first_site runs ≡ None
    → RestBefore (runs ++ run ∷ []) (record { run = length runs; job = 0 })
alone runs run rests =
    let next = runs ++ run ∷ [] in
    let keeps = kept_back runs next (groups_before runs run) (still_hold runs run) in (
      runs_rest runs next keeps (length runs) (λ k lt. before_the_end runs run k (λ is. absurd (omega (arith, lt, is))))
          (rested runs rests (length runs)),
      λ x at live k lt. absurd (omega (arith, lt)),
    )

pub arriving_rests : (runs : List RunState) (run : RunState) → RunsAreSound runs → first_site runs ≡ None → (new : List RunState) (from : JobSite)
    → new ≡ (arrived (Run (length runs)) (runs ++ run ∷ [])).runs → from ≡ resume_at_arrival (runs ++ run ∷ []) (length runs)
    → RestBefore new from
arriving_rests runs run sound rests new from new_is from_is =
    let n = length runs in
    let h = Run n in
    let added = runs ++ run ∷ [] in
    elim (group_at added h) as (λ o. group_at added h ≡ o → RestBefore new from) [
      | Some g ↦ λ is.
          let start : from ≡ record { run = 0; job = 0 } =
          from_is ∙ ap (λ (o : Option Group). record { run = if is_some o then 0 else n; job = 0 }) is in
          subst (RestBefore new) (sym start) (rest_before_all new)
      | None ↦ λ is.
          let start : from ≡ record { run = n; job = 0 } =
          from_is ∙ ap (λ (o : Option Group). record { run = if is_some o then 0 else n; job = 0 }) is in
          let stay : new ≡ added = new_is
          ∙ ap (λ (o : Option Group). (option_map_or (room_made (cancels_in_progress added h) h added) o (without_moves added)).runs) is in
          subst (RestBefore new) (sym start)
          (subst (λ (xs : List RunState). RestBefore xs (record { run = n; job = 0 })) (sym stay) (alone runs run rests))
    ] refl
