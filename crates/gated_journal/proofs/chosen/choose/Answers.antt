use Rattle.std.proofs.Common.{◌∙◌, ap, arith}
use Rattle.gated_journal.specs.Choice.{open_generation, part}
use Rattle.gated_journal.specs.Lengths.{prefix_length}
use Rattle.gated_journal.proofs.Prefixes.{same_generation, chosen_told}
use Rattle.gated_journal.proofs.chosen.choose.Goals as goal

pub returns-clause-found : goal.returns-clause-found
returns-clause-found g c = λ honest3.
    let disk = g.D.Disk in
    let len = c.args.len in
    let honest2 = c.read-2.ensures.only_read.was_honest honest3 in
    let honest1 = c.read.ensures.only_read.was_honest honest2 in
    let honest0 = c.sync.ensures.honest.0 honest1 in
    let file = disk.seen c.args.disk.now in
    let synced = c.sync.ensures.seen honest0 in
    chosen_told len file (omega (arith, c.requires.long))
    (omega (arith, c.requires.within, g.met.D.Disk.seen_length c.args.disk.now honest0))
    c.generation_of-first.result c.generation_of-second.result c.chosen_of.result
    (c.generation_of-first.ensures
    ∙ ap open_generation (c.in_ok-read.ensures.bytes honest2 ∙ ap (part 0 prefix_length) synced)
    ∙ same_generation 0 len file c.requires.long)
    (c.generation_of-second.ensures
    ∙ ap open_generation (c.in_ok-read-2.ensures.bytes honest3 ∙ ap (part len prefix_length) (c.read.ensures.only_read.same_seen honest2 ∙ synced))
    ∙ same_generation len len file c.requires.long)
    c.chosen_of.ensures
