use Rattle.table_runs.proofs.NoneOffered.{lacks_one, no_list_serves}
use Rattle.table_runs.proofs.rows.offers.first_served.Goals as goal

pub returns-in_err-wanted-clause-passed : goal.returns-in_err-wanted-clause-passed
returns-in_err-wanted-clause-passed c = λ s le before serves. absurd (no_list_serves c.args.lists.now c.args.labels.now c.args.number c.in_err-wanted.ensures.none serves)

pub returns-else-has_texts-clause-passed : goal.returns-else-has_texts-clause-passed
returns-else-has_texts-clause-passed c = λ s le before serves.
    absurd (lacks_one c.args.lists.now c.args.labels.now c.args.number c.in_ok-wanted.wanted.now c.has_texts.result c.in_ok-wanted.ensures.some c.has_texts.ensures
    c.if-has_texts.false serves)
