-- A sound table is sound without its first runs, once these have ended.
use Rattle.std.specs.Prelude.{◌≡◌, ◌+◌, ◌<◌, ◌≤◌, ℕ, List, drop, take, length, map, nat_le, Bool, true, false, Some, if◌then◌else◌, refl}
use Rattle.std.specs.List.{prefix_len}
use Rattle.std.specs.Option.{option_map_or}
use Rattle.std.proofs.Common.{arith, ap, subst, sym, ◌∙◌}
use Rattle.std.proofs.lemmas.Bool.{leb-false}
use Rattle.std.proofs.lemmas.List.{length-drop, length-take-le}
use Rattle.std.proofs.lemmas.List.Sums.{prefix_len-le-length}
use Rattle.run_plan.specs.declared.last_command.ClaimReply.{ClaimReply}
use Rattle.run_plan.specs.declared.last_command.ClaimReply.TheVariants as given
use Rattle.run_plan.specs.declared.last_command.KeptLease.{KeptLease}
use Rattle.run_plan.specs.declared.last_command.LastCommand.{LastCommand}
use Rattle.run_plan.specs.declared.last_command.LastCommand.TheVariants as last
use Rattle.run_plan.specs.declared.command.Claim.{Claim}
use Rattle.run_plan.specs.declared.reply.Lease.{Lease as Leased}
use Rattle.table_model.specs.Forgotten.{with_forgotten}
use Rattle.table_model.specs.LegContext.{id_at, planned_legs}
use Rattle.table_model.specs.Runs.{JobState, LegState, RunState, job_at, leg_at, run_at}
use Rattle.table_model.specs.Settling.{result_at}
use Rattle.table_model.specs.Sound.{HeldIsAtWork, IsAtWork, IsOfALeg, IsSound, JobsFit, KeptIsOfALeg, KeptLeasesAreOfLegs, LegsFit}
use Rattle.table_model.specs.Step.{forgettable, is_forgettable, last_through, lease_at, reply_through, runner_through, without}
use Rattle.table_model.specs.TableState.{RunnerState, TableState}
use Rattle.table_model.specs.declared.sites.LegSite.{LegSite}
use Rattle.settling_laws.specs.Moved.{moved_leg}
use Rattle.settling_laws.proofs.Dropped.{job_dropped, lease_dropped, leg_dropped, most_dropped, needs_dropped, one_each_dropped, planned_dropped}
use Rattle.settling_laws.proofs.Dropped.{result_dropped, run_dropped}
use Rattle.table_model.proofs.ForgottenMore.{more_fit}
use Rattle.settling_laws.proofs.ForgottenMore.{deliveries_dropped, ids_dropped, numbers_dropped}
use Rattle.settling_laws.proofs.HaveEnded.{HaveEnded, first_have_ended, work_stays}
use Rattle.settling_laws.proofs.MovedHolders.{leg_down, leg_moved_back, legs_apart}
use Rattle.settling_laws.proofs.RestsDropped.{rests_dropped}
use Rattle.settling_laws.proofs.RunnersThrough.{held_once_through, held_through, lasts_through, names_through, runner_was}

module _ (k : ℕ) (t : TableState) (sound : IsSound t) (ended : HaveEnded k t.runs) (within : k ≤ length t.runs) where
  abbrev through : ℕ
  through = (with_forgotten t.forgotten (take k t.runs)).through

  through_is : through ≡ t.forgotten.through + k
  through_is = ap (λ n. t.forgotten.through + n) (length-take-le k t.runs within)

  -- ---- what is there then was there

  run_was : (r : ℕ) (x : RunState) → run_at (drop k t.runs) r ≡ Some x → run_at t.runs (k + r) ≡ Some x
  run_was r x at = sym (run_dropped k t.runs r) ∙ at

  job_was : (r j : ℕ) (y : JobState) → job_at (drop k t.runs) r j ≡ Some y → job_at t.runs (k + r) j ≡ Some y
  job_was r j y at = sym (job_dropped k t.runs r j) ∙ at

  leg_was : (p : LegSite) (z : LegState) → leg_at (drop k t.runs) p ≡ Some z → leg_at t.runs (moved_leg k p) ≡ Some z
  leg_was p z at = sym (leg_dropped k t.runs p) ∙ at

  leg_stays : (p : LegSite) (z : LegState) → k ≤ p.run → leg_at t.runs p ≡ Some z → leg_at (drop k t.runs) (leg_down k p) ≡ Some z
  leg_stays p z le at = leg_dropped k t.runs (leg_down k p) ∙ ap (leg_at t.runs) (leg_moved_back k p le) ∙ at

  -- ---- leases

  work_goes_on : (n : ℕ) → IsAtWork t.runs n → IsAtWork (drop k t.runs) n
  work_goes_on n (p, z, at, has, work) = (leg_down k p, z, leg_stays p z (work_stays k t.runs ended p z at work) at, has, work)

  held_still : HeldIsAtWork (drop k t.runs) (map (runner_through through) t.runners)
  held_still i x n at holds =
      let was = runner_was through t.runners i x at in
      work_goes_on n (sound.held_is_at_work i was.value n was.is (ap (λ (w : RunnerState). w.holds) was.gives ∙ holds))

  -- the run of a kept lease that is not over stays
  its_run_stays : (kept : KeptLease) (of : IsOfALeg t.last_lease t.runs kept) → through < kept.lease_reply.run → k ≤ of.place.run
  its_run_stays kept of above =
      let told : kept.lease_reply.run ≡ of.run.id
      = ap (λ (l : Leased). l.run) of.tells ∙ ap (λ o. option_map_or (λ (x : RunState). x.id) o 0) of.run_is in
      let id = sound.ids_follow of.place.run of.run of.run_is in
      let is = through_is in
      omega (arith, told, id, above, is)

  lease_still : (kept : KeptLease) → through < kept.lease_reply.run → IsOfALeg t.last_lease t.runs kept
      → IsOfALeg t.last_lease (drop k t.runs) kept
  lease_still kept above of =
      let le = its_run_stays kept of above in
      let place = leg_down k of.place in
      let same = leg_moved_back k of.place le in
      record {
        place = place;
        run = of.run;
        run_is = run_dropped k t.runs place.run ∙ ap (λ (s : LegSite). run_at t.runs s.run) same ∙ of.run_is;
        job_is = of.job_is;
        planned = subst (λ n. of.place.leg < n)
            (sym (planned_dropped k t.runs place.run of.place.job ∙ ap (λ (s : LegSite). planned_legs t.runs s.run of.place.job) same)) of.planned;
        tells = of.tells ∙ sym (lease_dropped k t.runs place kept.lease_reply.lease ∙ ap (λ s. lease_at t.runs s kept.lease_reply.lease) same);
        given = of.given;
        attempt = of.attempt;
        has_it = (λ present. let (z, at, has) = of.has_it present in (z, leg_stays of.place z le at, has));
      }

  reply_still : (claim : Claim) (reply : ClaimReply) → KeptIsOfALeg t.last_lease t.runs (last.Claim claim reply)
      → KeptIsOfALeg t.last_lease (drop k t.runs) (last.Claim claim (reply_through through reply))
  reply_still claim given.Nothing is = tt
  reply_still claim (given.Lease kept) is =
      elim (nat_le kept.lease_reply.run through) as
      (λ b. nat_le kept.lease_reply.run through ≡ b
      → KeptIsOfALeg t.last_lease (drop k t.runs) (last.Claim claim (if b then given.Nothing else given.Lease kept))) [
        | true ↦ λ low. tt
        | false ↦ λ high. lease_still kept (leb-false kept.lease_reply.run through high) is
      ] refl

  kept_still : (kept : LastCommand) → KeptIsOfALeg t.last_lease t.runs kept
      → KeptIsOfALeg t.last_lease (drop k t.runs) (last_through through kept)
  kept_still (last.Claim claim reply) is = reply_still claim reply is
  kept_still (last.Done report) is = tt

  kept_leases_still : KeptLeasesAreOfLegs t.last_lease (drop k t.runs) (map (runner_through through) t.runners)
  kept_leases_still i x at =
      let was = runner_was through t.runners i x at in
      subst (λ (w : RunnerState). KeptIsOfALeg t.last_lease (drop k t.runs) w.last) was.gives
      (kept_still was.value.last (sound.kept_leases_are_of_legs i was.value was.is))

  -- ---- jobs

  jobs_still : JobsFit (drop k t.runs)
  jobs_still r j y at =
      subst (λ n. LegsFit n (result_at (drop k t.runs) r j y) y.phase y.legs) (sym (planned_dropped k t.runs r j))
      (subst (λ g. LegsFit (planned_legs t.runs (k + r) j) g y.phase y.legs) (sym (result_dropped k t.runs r j y))
      (sound.jobs_fit (k + r) j y (job_was r j y at)))

  -- ---- all rules

  pub dropped_is_sound : IsSound (without k t)
  dropped_is_sound =
      let fewer = length-drop k t.runs in
      let is = through_is in
      let few = sound.few_runs in
      let range = sound.last_id_in_range in
      record {
        few_runs = omega (arith, fewer, few);
        last_id_in_range = omega (arith, fewer, within, range, is);
        forgotten_fit = more_fit t.forgotten (take k t.runs) sound.forgotten_fit;
        ids_follow = ids_dropped k t.forgotten t.runs sound.forgotten_fit within sound.ids_follow;
        numbers_follow = numbers_dropped k t.forgotten t.runs sound.forgotten_fit sound.numbers_follow;
        deliveries_differ = deliveries_dropped k t within sound.deliveries_differ;
        attempts_are_given = (λ r x at. sound.attempts_are_given (k + r) x (run_was r x at));
        jobs_are_the_plans = (λ r x at. sound.jobs_are_the_plans (k + r) x (run_was r x at));
        run_phases_fit = (λ r x at. sound.run_phases_fit (k + r) x (run_was r x at));
        jobs_fit = jobs_still;
        needs_finished_first = (λ r j y at some.
            needs_dropped k t.runs r j ∙ sound.needs_finished_first (k + r) j y (job_was r j y at) some);
        parallel_bounded = (λ r j y most at most_is.
            sound.parallel_bounded (k + r) j y most (job_was r j y at) (sym (most_dropped k t.runs r j) ∙ most_is));
        one_of_each_group = one_each_dropped k t.runs sound.one_of_each_group;
        leases_fit = (λ p z at. sound.leases_fit (moved_leg k p) z (leg_was p z at));
        leases_are_given = (λ p z n at has. sound.leases_are_given (moved_leg k p) z n (leg_was p z at) has);
        leases_differ = (λ p q x y n at_p at_q has_p has_q.
            legs_apart k p q
            (sound.leases_differ (moved_leg k p) (moved_leg k q) x y n (leg_was p x at_p) (leg_was q y at_q) has_p has_q));
        last_lease_in_range = sound.last_lease_in_range;
        runners_in_order = names_through through t.runners ∙ sound.runners_in_order;
        work_is_held = (λ p z n at work has.
            held_through through t.runners n (sound.work_is_held (moved_leg k p) z n (leg_was p z at) work has));
        held_is_at_work = held_still;
        held_once = held_once_through through t.runners sound.held_once;
        no_rule_applies = rests_dropped k t.runs ended sound.no_rule_applies;
        lasts_are_own = lasts_through through t.runners sound.lasts_are_own;
        kept_leases_are_of_legs = kept_leases_still;
      }

pub first_ended : (t : TableState) (id : ℕ) → IsSound t → HaveEnded (forgettable t id) t.runs
first_ended t id sound = first_have_ended id t.runs sound.run_phases_fit sound.jobs_fit

pub first_within : (t : TableState) (id : ℕ) → forgettable t id ≤ length t.runs
first_within t id = prefix_len-le-length (is_forgettable id) t.runs

pub forgetting_is_sound : (t : TableState) (id : ℕ) → IsSound t → IsSound (without (forgettable t id) t)
forgetting_is_sound t id sound = dropped_is_sound (forgettable t id) t sound (first_ended t id sound) (first_within t id)
