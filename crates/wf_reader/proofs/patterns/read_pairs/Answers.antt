use Rattle.std.proofs.Common.{IsTrue, refl, sym, subst}
use Rattle.definitions.specs.Rising.{names_rise}
use Rattle.wf_value.proofs.PassedOn.{passed_on}
use Rattle.wf_reader.specs.Strategy.{pair_faults, pair_of}
use Rattle.wf_reader.proofs.Entries.{check_fails, check_left, check_done, all_done, rises-sorted}
use Rattle.wf_reader.proofs.patterns.read_pairs.Goals as goal

pub returns-in_err-read_pair : goal.returns-in_err-read_pair
returns-in_err-read_pair c =
    passed_on _ _ _ _ c.in_err-read_pair.field-0.0 c.from_residual-in_err-read_pair.ensures.1 c.in_err-read_pair.ensures (λ refused.
    check_fails pair_faults pair_of c.args.members.now.entries c.loop-name.name-iterator c.next.new.self
    (c.in-Some.name.now, c.in-Some.value.now) c.as_str.result.now _ _ c.loop-name.invariant.left c.in-Some.ensures.steps
    c.as_str.ensures.value refused)

pub loop-name-preserved : goal.loop-name-preserved
loop-name-preserved c =
    record {
      left = check_left pair_faults pair_of c.args.members.now.entries c.loop-name.name-iterator c.next.new.self
          (c.in-Some.name.now, c.in-Some.value.now) c.as_str.result.now _ c.loop-name.invariant.left c.in-Some.ensures.steps
          c.as_str.ensures.value c.in_ok-read_pair.ensures;
      done = check_done pair_faults pair_of c.args.members.now.entries c.loop-name.name-iterator c.next.new.self c.loop-name.pairs.items _
          (c.in-Some.name.now, c.in-Some.value.now) c.as_str.result.now _ c.loop-name.invariant.done c.in_ok-push.ensures.items
          c.in-Some.ensures.steps c.as_str.ensures.value c.in_ok-read_pair.ensures;
    }

pub from_pairs-requires : goal.from_pairs-requires
from_pairs-requires c =
    subst (λ ps. IsTrue (names_rise ps)) (sym
    (all_done pair_faults pair_of c.args.members.now.entries c.loop-name.name-iterator c.loop-name.pairs.items c.loop-name.invariant.done
    c.in-None.ensures.steps.0))
    (rises-sorted (λ p. p.0) _ (λ e. refl) c.args.members.now.entries c.into_iter-name-iterator.ensures.into_iter_gives.5)
