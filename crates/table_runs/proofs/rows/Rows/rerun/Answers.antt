use Rattle.std.proofs.Common.{◌≡◌, Ok, ap}
use Rattle.std.specs.Prelude.{None, option_map, refl}
use Rattle.table_model.specs.Runs.{again, run_at}
use Rattle.table_runs.proofs.NextAttempt.{not_there}
use Rattle.table_runs.proofs.ToldMore.{no_tickets, none_left}
use Rattle.table_runs.proofs.rows.Rows.rerun.Goals as goal

pub returns-in_default : goal.returns-in_default
returns-in_default c =
    let runs = c.args.self.now.runs in
    let r = c.args.r in
    let none : None ≡ option_map again (run_at runs r) = ap (option_map again) c.in_default.ensures.run in
    record {
      again = ap Ok (not_there again runs r none);
      err = tt;
      entries = refl;
      told = (λ told. told);
      tickets = no_tickets runs c.args.self.now.bindings r (none_left again (run_at runs r) none);
      expected = c.requires.expected;
    }
