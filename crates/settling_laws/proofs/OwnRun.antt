-- A rule changes only the run of its site, unless a leg arrives.
use Rattle.std.specs.Prelude.{◌≡◌, ℕ, List, Some}
use Rattle.table_model.specs.GroupLaw.{Transition}
use Rattle.table_model.specs.Runs.{run_at, RunState, leg_in_phase, run_in_phase, finished_as}
use Rattle.table_model.specs.Settling.{rule_at, run_of_site, IsNoArrival, decided, result_at}
use Rattle.table_model.specs.declared.phases.LegPhase.TheVariants as leg
use Rattle.table_model.specs.declared.phases.RunPhase.TheVariants as run
use Rattle.table_model.specs.declared.sites.RuleSite.{RuleSite}
use Rattle.table_model.proofs.Changed.{at_another}
use Rattle.table_model.proofs.JobKeeps.{with_job_of, with_leg_of}
use Rattle.settling_laws.proofs.EachRule.{by_rule}

pub own_run_alone : (runs : List RunState) (m : Transition) (site : RuleSite) (r : ℕ) → rule_at runs site ≡ Some m → IsNoArrival runs site
    → (r ≡ run_of_site site → ⊥) → run_at m.runs r ≡ run_at runs r
own_run_alone runs m site r =
    by_rule runs (λ at made. IsNoArrival runs at → (r ≡ run_of_site at → ⊥) → run_at made.runs r ≡ run_at runs r)
    (record {
      job_opens = (λ i j y was blocked needs plain. at_another i (with_job_of j (decided runs i j)) runs r);
      leg_is_cancelled = (λ p z was is plain. absurd (plain z was is));
      leg_arrives = (λ p z was is plain. absurd (plain z was is));
      leg_starts = (λ p z was is may plain. at_another p.run (with_job_of p.job (with_leg_of p.leg (leg_in_phase leg.Ready))) runs r);
      job_settles = (λ i j y was done plain. at_another i (with_job_of j (finished_as (result_at runs i j y))) runs r);
      run_starts = (λ i x was is may plain. at_another i (run_in_phase run.Live) runs r);
      run_ends = (λ i x was is settled plain. at_another i (run_in_phase run.Ended) runs r);
    }) m site
