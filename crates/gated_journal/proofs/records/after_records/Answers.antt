use Rattle.std.proofs.Common.{rules, ◌∷◌, ◌++◌, [], List, ℕ, sym, ap, ◌∙◌}
use Rattle.std.specs.Option.{option_copied}
use Rattle.gated_journal.specs.Scanned.{OpensWith}
use Rattle.gated_journal.proofs.Parting.{parts_more, rest_closed, shut_first, none_first}
use Rattle.gated_journal.proofs.records.after_records.Goals as goal
use Rattle.gated_journal.proofs.records.after_records.Goals.{in_default-first-via-in-Some-first+else-gate as shut}
use Rattle.gated_journal.proofs.records.after_records.Goals.{in_default-first-via-in_default-first as none_left}

pub loop-body-preserved : goal.loop-body-preserved
loop-body-preserved c =
    let so_far = c.loop-body.invariant in
    let body = c.in-Some._body.now in
    let more = parts_more c.args.bytes.now so_far.0 c.loop-body.rest.now body c.in-Some.suffix.now so_far.1 c.in-Some.ensures.some in
    (so_far.0 ++ body ∷ [], more)

pub returns-in_default-first-clause-none : goal.returns-in_default-first-clause-none
returns-in_default-first-clause-none c = λ _ bodies end parts ends.
    let rest = c.loop-body.rest.now in
    let so_far = c.loop-body.invariant in
    let last : (body past : List ℕ) → OpensWith rest body past → ⊥ = c.record_at.ensures.none (search rules) in
    let closed = rest_closed c.args.bytes.now rest end so_far.0 bodies so_far.1 last parts ends in
    elim c.in_default-first.branch [
      | shut w ↦ shut_first rest w.in-Some-first.gate.now closed w.in-Some-first.ensures.value w.if-gate.false
      | none_left w ↦ none_first rest closed (ap option_copied (sym w.in_default-first.is) ∙ c.first.ensures.value)
    ]

pub returns-in_default-first-clause-cut : goal.returns-in_default-first-clause-cut
returns-in_default-first-clause-cut c = λ _.
    let rest = c.loop-body.rest.now in
    let so_far = c.loop-body.invariant in
    record {
      bodies = so_far.0;
      rest = rest;
      parts = so_far.1;
      no_record = c.record_at.ensures.cut (search rules);
      no_gate = λ closed.
          elim c.in_default-first.branch [
            | shut w ↦ shut_first rest w.in-Some-first.gate.now closed w.in-Some-first.ensures.value w.if-gate.false
            | none_left w ↦ none_first rest closed (ap option_copied (sym w.in_default-first.is) ∙ c.first.ensures.value)
          ];
    }
