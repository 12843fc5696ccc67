use Rattle.act_desk.proofs.serve.serve_all.Given as goal

abbrev pub ghosts-hold_named-E-Ledger : goal.ghosts-hold_named-E-Ledger
ghosts-hold_named-E-Ledger g a = record { name = a.ledgers.entries.name; parts = a.ledgers.entries.parts }

abbrev pub ghosts-hold_named-E-Named : goal.ghosts-hold_named-E-Named
ghosts-hold_named-E-Named g a = record { book = a.ledgers.history.seen.book; first = a.ledgers.history.token.nib.key; base = a.store.base }

abbrev pub ghosts-hold_named-T-Ledger : goal.ghosts-hold_named-T-Ledger
ghosts-hold_named-T-Ledger g a = record { name = a.ledgers.replies.name; parts = a.ledgers.replies.parts }
