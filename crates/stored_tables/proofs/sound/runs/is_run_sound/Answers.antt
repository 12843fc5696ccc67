use Rattle.std.proofs.Common.{◌≡◌, List, subst, true, rules}
use Rattle.std.specs.Bool.{Decides}
use Rattle.table_model.specs.Runs.{JobState}
use Rattle.table_model.proofs.OneAfterAnother.{no, not_so}
use Rattle.stored_tables.specs.inner.OneByOne.{EachJobIsSound}
use Rattle.stored_tables.proofs.sound.runs.is_run_sound.Goals as goal

pub returns-then-not-attempt_is_given : goal.returns-then-not-attempt_is_given
returns-then-not-attempt_is_given c =
    no (λ s. not_so c.attempt_is_given.result c.attempt_is_given.ensures (search rules) s.attempt_is_given)

pub returns-then-not-phase_fits : goal.returns-then-not-phase_fits
returns-then-not-phase_fits c = no (λ s. not_so c.phase_fits.result c.phase_fits.ensures (search rules) s.phase_fits)

pub returns : goal.returns
returns c =
    let begun : c.attempt_is_given.result ≡ true = search rules in
    let fits : c.phase_fits.result ≡ true = search rules in
    let jobs = subst (λ (jobs : List JobState). Decides c.are_jobs_sound.result (EachJobIsSound c.args.runs.now c.args.r jobs))
    c.jobs.ensures c.are_jobs_sound.ensures in (
      (λ e. record {
        attempt_is_given = c.attempt_is_given.ensures.0 begun;
        phase_fits = c.phase_fits.ensures.0 fits;
        each_job = jobs.0 e;
      }),
      (λ s. jobs.1 s.each_job),
    )
