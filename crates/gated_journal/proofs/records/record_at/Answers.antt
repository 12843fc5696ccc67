use Rattle.std.proofs.Common.{◌-◌, length, take, drop}
use Rattle.std.proofs.lemmas.List.{take_rest}
use Rattle.gated_journal.proofs.CutOff.{no_record}
use Rattle.gated_journal.proofs.records.record_at.Goals as goal

pub returns-in-165-clause-cut : goal.returns-in-165-clause-cut
returns-in-165-clause-cut c = λ none.
    let bytes = c.args.bytes.now in
    no_record bytes (take (length bytes - 1) (drop 1 bytes)) (take_rest bytes 1) (c.frame_at.ensures.cut none)
