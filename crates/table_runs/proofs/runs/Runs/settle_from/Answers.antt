use Rattle.std.specs.Prelude.{◌≡◌, ◌<◌, List, Option, Some, None, IfSome, is_some, option_map, if◌then◌else◌}
use Rattle.std.proofs.Common.{ap, subst, sym, refl, ◌∙◌}
use Rattle.table_model.specs.inner.Resuming.{RestBefore}
use Rattle.table_model.specs.GroupLaw.{Transition}
use Rattle.table_model.specs.Runs.{RunState}
use Rattle.table_model.specs.Settling.{first_rule, remaining_phases, settled}
use Rattle.table_model.specs.Sound.{RunsAreSound}
use Rattle.table_model.specs.declared.sites.JobSite.{JobSite}
use Rattle.table_model.proofs.Optional.{from_map}
use Rattle.settling_laws.proofs.Lowered.{first_rule_lowers}
use Rattle.settling_laws.proofs.Rests.{settled_after_rule, settled_at_rest}
use Rattle.settling_laws.proofs.SettlingKeeps.{first_rule_settles}
use Rattle.settling_laws.proofs.SoundRuns.{runs_that_fit, sound_runs}
use Rattle.table_runs.proofs.runs.Runs.settle_from.Goals as goal
use Rattle.table_runs.proofs.runs.Runs.settle_from.Invariants.{Settling}

taken_lowers : (runs new : List RunState) → option_map (λ (m : Transition). m.runs) (first_rule runs) ≡ Some new → remaining_phases new < remaining_phases runs
taken_lowers runs new took =
    let rule = from_map (λ (m : Transition). m.runs) (first_rule runs) new took in
    subst (λ (xs : List RunState). remaining_phases xs < remaining_phases runs) rule.gives (first_rule_lowers runs rule.value rule.is)

taken_goes_on : (start runs new : List RunState) (from again : JobSite) → Settling start runs from
    → option_map (λ (m : Transition). m.runs) (first_rule runs) ≡ Some new → RestBefore new again → Settling start new again
taken_goes_on start runs new from again so_far took rest =
    let rule = from_map (λ (m : Transition). m.runs) (first_rule runs) new took in
    let fit = runs_that_fit runs so_far.sound in
    record {
      same_end = ap settled (sym rule.gives) ∙ sym (settled_after_rule runs rule.value rule.is) ∙ so_far.same_end;
      sound = subst RunsAreSound rule.gives (sound_runs rule.value.runs (first_rule_settles runs rule.value fit rule.is).stay.fit);
      rest = rest;
    }

no_rule_left : (o : Option Transition) → option_map (λ (m : Transition). m.runs) o ≡ None → o ≡ None
no_rule_left None e = refl
no_rule_left (Some m) e = cc

none_ends : (start runs new : List RunState) (from : JobSite) → Settling start runs from
    → option_map (λ (m : Transition). m.runs) (first_rule runs) ≡ None → new ≡ runs → new ≡ settled start
none_ends start runs new from so_far none same = same ∙ sym (settled_at_rest runs (no_rule_left (first_rule runs) none)) ∙ so_far.same_end

pub loop-next-init : goal.loop-next-init
loop-next-init c = record {
  same_end = refl;
  sound = c.requires.sound;
  rest = c.requires.rest;
}

pub loop-next-smaller : goal.loop-next-smaller
loop-next-smaller c =
    let took = c.take_first_rule.ensures.took ∙ ap (λ o. if is_some o then Some c.take_first_rule.new.self else None) c.in-Some.is in
    taken_lowers c.loop-next.self c.take_first_rule.new.self took

pub loop-next-preserved : goal.loop-next-preserved
loop-next-preserved c =
    let took = c.take_first_rule.ensures.took ∙ ap (λ o. if is_some o then Some c.take_first_rule.new.self else None) c.in-Some.is in
    let rest = subst (λ o. IfSome o (λ next. RestBefore c.take_first_rule.new.self next)) c.in-Some.is c.take_first_rule.ensures.rest in
    taken_goes_on c.args.self.now c.loop-next.self c.take_first_rule.new.self c.loop-next.from c.in-Some.next
    c.loop-next.invariant took rest

pub returns : goal.returns
returns c =
    none_ends c.args.self.now c.loop-next.self c.take_first_rule.new.self c.loop-next.from c.loop-next.invariant c.in_default.ensures.took
    (c.in_default.ensures.kept refl)
