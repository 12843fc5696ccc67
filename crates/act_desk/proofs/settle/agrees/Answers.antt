use Rattle.std.proofs.Common.{◌≡◌, ◌∙◌, ◌<◌, ◌≤◌, ◌==◌, List, ap, arith, false, length, rules, take}
use Rattle.std.proofs.lemmas.List.{take_all}
use Rattle.act_sessions.specs.Exchange.{exchanges_in}
use Rattle.act_store.specs.declared.entry.Entry.{Entry}
use Rattle.act_desk.specs.Settled.{MayBegin, Progress, entries_of, part_of}
use Rattle.act_desk.proofs.Following.{agrees_begins, agrees_long, shorter, some_one, still_less}
use Rattle.act_desk.proofs.Prefixes.{prefix_length}
use Rattle.act_desk.proofs.settle.agrees.Goals as goal

pub returns-in_default-clause-other : goal.returns-in_default-clause-other
returns-in_default-clause-other g c =
    let seat = c.args.seat in
    let exchanges = exchanges_in c.args.asked.now in
    let history = c.args.store.now.history in
    let none : MayBegin seat exchanges (part_of seat (take c.args.covered history)) → ⊥ = search rules in
    λ no agree covers. none (agrees_begins seat c.args.covered exchanges history agree)

pub returns-then-skip-asked-clause-other : goal.returns-then-skip-asked-clause-other
returns-then-skip-asked-clause-other g c =
    let seat = c.args.seat in
    let asked = c.args.asked.now in
    let at = c.skip.result in
    let first = c.in-Some.first in
    let part = part_of seat (take c.args.covered c.args.store.now.history) in
    let other : (at == length asked) ≡ false = search rules in
    let less : at < length asked = still_less at (length asked) c.skip.ensures.within other in
    let one = some_one asked at less in
    let none : entries_of seat (exchanges_in (take at asked)) ≡ entries_of seat (exchanges_in (take first.asked asked)) =
    c.skip.ensures.none seat ∙ ap (λ (p : Progress). entries_of seat (exchanges_in (take p.asked asked))) c.first-2.view_is in
    λ no agree covers. omega (
      arith,
      prefix_length (entries_of seat (exchanges_in asked)) part covers,
      shorter seat first.asked at asked one first.over part c.in-Some.ensures.part c.in-Some.ensures.all none less
          (c.skip.ensures.reply less one),
    )

pub returns-in-Some-follow-clause-other : goal.returns-in-Some-follow-clause-other
returns-in-Some-follow-clause-other g c =
    let seat = c.args.seat in
    let asked = c.args.asked.now in
    let history = c.args.store.now.history in
    let at = c.skip-in-Some-follow.result in
    let found = c.in-Some-follow.found in
    let part = part_of seat (take c.entries.result history) in
    let whole : length history ≤ c.entries.result = omega (arith, c.entries.ensures) in
    λ other agree covers.
    let less : at < length asked = still_less at (length asked) c.skip-in-Some-follow.ensures.within other in
    let one = some_one asked at less in
    let none : entries_of seat (exchanges_in (take at asked)) ≡ entries_of seat (exchanges_in (take found.asked asked)) =
    c.skip-in-Some-follow.ensures.none seat ∙ ap (λ (p : Progress). entries_of seat (exchanges_in (take p.asked asked))) c.found.view_is in
    omega (
      arith,
      agrees_long seat (exchanges_in asked) history agree,
      ap (λ (l : List Entry). length (part_of seat l)) (take_all c.entries.result history whole),
      shorter seat found.asked at asked one found.over part c.in-Some-follow.ensures.part c.in-Some-follow.ensures.all none less
          (c.skip-in-Some-follow.ensures.reply less one),
    )
