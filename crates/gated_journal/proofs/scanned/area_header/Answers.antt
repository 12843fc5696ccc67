use Rattle.std.proofs.Common.{◌-◌, length, take, drop}
use Rattle.std.proofs.lemmas.List.{take_rest}
use Rattle.gated_journal.proofs.CutOff.{no_head}
use Rattle.gated_journal.proofs.Heads.{no_prefix}
use Rattle.gated_journal.proofs.scanned.area_header.Goals as goal

pub returns-in-165-clause-none : goal.returns-in-165-clause-none
returns-in-165-clause-none c = λ none.
    let area = c.args.area.now in
    no_prefix area (take (length area - 1) (drop 1 area)) (take_rest area 1) (c.head_at.ensures.none none)

pub returns-in-165-clause-cut : goal.returns-in-165-clause-cut
returns-in-165-clause-cut c = λ none.
    let area = c.args.area.now in
    no_head area (take (length area - 1) (drop 1 area)) (take_rest area 1) (c.head_at.ensures.cut none)
