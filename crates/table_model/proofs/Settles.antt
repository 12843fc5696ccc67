-- A change of one run that keeps what the run satisfies on its own keeps it for all runs, and so does a sequence of such changes.
use Rattle.std.specs.Prelude.{◌≡◌, ℕ, List, length, Option, Some, None, option_map, option_and_then, refl}
use Rattle.std.proofs.Common.{ap, sym, ◌∙◌, subst}
use Rattle.wf_value.specs.declared.outcome.JobResult.{JobResult}
use Rattle.table_model.specs.Runs.{changed_at, run_at, RunState}
use Rattle.table_model.specs.declared.sites.LegSite.{LegSite}
use Rattle.table_model.specs.Settling.{result_at}
use Rattle.table_model.specs.LegContext.{planned_legs}
use Rattle.table_model.proofs.Changed.{reads_same, reads_stay, holds_of_each, length-changed_at}
use Rattle.table_model.proofs.Identity.{identity_at, identity_of, same_admitted}
use Rattle.table_model.proofs.LegFacts.{attempt_at, result_stays}
use Rattle.table_model.proofs.LegReads.{had_in, works_in, had_at, works_at}
use Rattle.table_model.proofs.NeedsSettled.{KeepsResults, needs_stay_settled, result_in}
use Rattle.table_model.proofs.RunFits.{JobFits, RunFits, RunsFit, admitted_at, planned_legs_same}

-- the changed run still fits, has the same identity and attempt, and its finished jobs keep their results
pub record StaysFit (runs : List RunState) (r : ℕ) (x y : RunState) : Type 0 where
  pub same_identity : identity_of y ≡ identity_of x
  pub same_attempt : y.attempt ≡ x.attempt
  pub keeps_results : (j : ℕ) (a : JobResult) → result_in x j ≡ Some a → result_in y j ≡ Some a
  pub fits : RunFits runs r y

-- and all leases stay the same
pub record Keeps (runs : List RunState) (r : ℕ) (x y : RunState) : Type 0 where
  pub stays : StaysFit runs r x y
  pub same_had : (j l : ℕ) → had_in y j l ≡ had_in x j l
  pub same_works : (j l : ℕ) → works_in y j l ≡ works_in x j l

-- the changed runs still fit, have the same identities and attempts, and their finished jobs keep their results
pub record StayFit (runs next : List RunState) : Type 0 where
  pub same_length : length next ≡ length runs
  pub same_identity : (r : ℕ) → identity_at next r ≡ identity_at runs r
  pub same_attempt : (r : ℕ) → attempt_at next r ≡ attempt_at runs r
  pub keeps_results : (r : ℕ) → KeepsResults runs next r
  pub fit : RunsFit next

-- and all leases stay the same, as after each settling rule
pub record Settles (runs next : List RunState) : Type 0 where
  pub stay : StayFit runs next
  pub same_had : (p : LegSite) → had_at next p ≡ had_at runs p
  pub same_works : (p : LegSite) → works_at next p ≡ works_at runs p

pub settles_nothing : (runs : List RunState) → RunsFit runs → Settles runs runs
settles_nothing runs fit =
    record {
      stay = record {
        same_length = refl;
        same_identity = (λ r. refl);
        same_attempt = (λ r. refl);
        keeps_results = (λ r j a e. e);
        fit = fit;
      };
      same_had = (λ p. refl);
      same_works =
          (λ p. refl);
    }

pub stay_on : (a b c : List RunState) → StayFit a b → StayFit b c → StayFit a c
stay_on a b c f g = record {
  same_length = g.same_length ∙ f.same_length;
  same_identity = (λ r. g.same_identity r ∙ f.same_identity r);
  same_attempt = (λ r. g.same_attempt r ∙ f.same_attempt r);
  keeps_results = (λ r j o e. g.keeps_results r j o (f.keeps_results r j o e));
  fit = g.fit;
}

pub settles_on : (a b c : List RunState) → Settles a b → Settles b c → Settles a c
settles_on a b c f g = record {
  stay = stay_on a b c f.stay g.stay;
  same_had = (λ p. g.same_had p ∙ f.same_had p);
  same_works = (λ p. g.same_works p ∙ f.same_works p);
}

pub admitted_stays : (runs next : List RunState) → StayFit runs next → (r : ℕ) → admitted_at next r ≡ admitted_at runs r
admitted_stays runs next stay r = same_admitted runs next r (stay.same_identity r)

-- a run that fits in one table fits in another with the same identity, the same attempt and the results kept
pub fits_beside : (runs next : List RunState) (r : ℕ) (x : RunState) → identity_at next r ≡ identity_at runs r
    → attempt_at next r ≡ attempt_at runs r → KeepsResults runs next r → RunFits runs r x → RunFits next r x
fits_beside runs next r x same attempt keeps fits =
    let event = same_admitted runs next r same in
    record {
      has_its_jobs = fits.has_its_jobs;
      phase_fits = fits.phase_fits;
      jobs_fit = (λ j y e.
          subst (λ (n : ℕ). JobFits n (result_at next r j y) y) (sym (planned_legs_same runs next r j event))
          (subst (λ (o : JobResult). JobFits (planned_legs runs r j) o y)
          (sym (result_stays runs next r j y same attempt (fits.needs_first j y e) keeps))
          (fits.jobs_fit j y e)));
      needs_first = (λ j y e some. needs_stay_settled runs next r j event keeps (fits.needs_first j y e some));
    }

some_again : {X : Type 0} (f : RunState → X) (o : Option RunState) → option_and_then (λ (run : RunState). Some (f run)) o ≡ option_map f o
some_again f None = refl
some_again f (Some y) = refl

module _ (runs : List RunState) (fit : RunsFit runs) (r : ℕ) (x : RunState) (g : RunState → RunState) (was : run_at runs r ≡ Some x) where
  same_read : {X : Type 0} (f : RunState → X) → f (g x) ≡ f x → (s : ℕ)
      → option_map f (run_at (changed_at r g runs) s) ≡ option_map f (run_at runs s)
  same_read f same s =
      sym (some_again f (run_at (changed_at r g runs) s))
      ∙ reads_same r g runs x (λ (run : RunState). Some (f run)) was (ap Some same) s
      ∙ some_again f (run_at runs s)

  results_kept : StaysFit runs r x (g x) → (s : ℕ) → KeepsResults runs (changed_at r g runs) s
  results_kept stays s j a e = reads_stay r g runs x (λ (run : RunState). result_in run j) a was (stays.keeps_results j a) s e

  pub one_stays : StaysFit runs r x (g x) → StayFit runs (changed_at r g runs)
  one_stays stays =
      let next = changed_at r g runs in
      let same : (s : ℕ) → identity_at next s ≡ identity_at runs s = same_read identity_of stays.same_identity in
      let attempt : (s : ℕ) → attempt_at next s ≡ attempt_at runs s = same_read (λ (run : RunState). run.attempt) stays.same_attempt in
      record {
        same_length = length-changed_at r g runs;
        same_identity = same;
        same_attempt = attempt;
        keeps_results = results_kept stays;
        fit = holds_of_each r g runs x (RunFits next) was
            (fits_beside runs next r (g x) (same r) (attempt r) (results_kept stays r) stays.fits)
            (λ s y e. fits_beside runs next s y (same s) (attempt s) (results_kept stays s) (fit s y e));
      }

  pub one_settles : Keeps runs r x (g x) → Settles runs (changed_at r g runs)
  one_settles keeps = record {
    stay = one_stays keeps.stays;
    same_had = (λ p. reads_same r g runs x (λ (run : RunState). had_in run p.job p.leg) was (keeps.same_had p.job p.leg) p.run);
    same_works = (λ p. reads_same r g runs x (λ (run : RunState). works_in run p.job p.leg) was (keeps.same_works p.job p.leg) p.run);
  }
