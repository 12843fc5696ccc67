use Rattle.std.specs.Prelude.{◌≡◌, None}
use Rattle.std.proofs.Common.{ap, sym, ◌∙◌, rules}
use Rattle.table_model.specs.Holders.{run_of}
use Rattle.table_model.specs.Runs.{run_at}
use Rattle.table_bindings.proofs.BoundSays.{SaysBoth, group_by, no_group, said_there}
use Rattle.table_runs.proofs.runs.Runs.requested.Goals as goal
use Rattle.table_runs.proofs.runs.Runs.requested.Goals.{In_ok-run}

pub returns-in_err-run : goal.returns-in_err-run
returns-in_err-run c =
    let h = c.args.holder.now in
    let nothing : run_at c.args.self.now (run_of h) ≡ None = search rules in
    let gone : c.from_residual.result ≡ None = search rules in
    record { group = rw gone (sym (no_group c.args.self.now h nothing)) }

-- the bindings there give the group and the flag
said : (c : In_ok-run) → SaysBoth c.args.self.now c.args.holder.now c.in_ok-run.run'.now c.in_ok-run.bindings.now
said c =
    said_there c.args.self.now c.args.holder.now c.in_ok-run.run'.now c.in_ok-run.bindings.now c.run.result c.run.ensures
    (search rules) c.in_ok-run.ensures.says

pub returns-in_err-requested : goal.returns-in_err-requested
returns-in_err-requested c =
    let x = c.in_ok-run.run'.now in
    let both = said (goal.at.returns-in_err-requested c).In_ok-run in
    let gone : c.from_residual-in_err-requested.result ≡ None = search rules in
    record { group = rw gone (ap (group_by x) c.in_err-requested.ensures ∙ both.0) }

pub returns : goal.returns
returns c =
    let x = c.in_ok-run.run'.now in
    let both = said (goal.at.returns c).In_ok-run in
    record { group = ap (group_by x) c.in_ok-requested.ensures ∙ both.0 }
