use Rattle.std.proofs.Common.{◌≡◌, None, Some, rules}
use Rattle.std.specs.List.{position}
use Rattle.table_model.specs.Runs.{is_delivered_as}
use Rattle.stored_tables.proofs.DeliveriesFound.{found_second, is_it, is_no_place, is_place, kept_first}
use Rattle.stored_tables.proofs.sound.deliveries.is_found.Goals as goal

pub returns-then-is_some : goal.returns-then-is_some
returns-then-is_some c =
    let d = c.args.run.now.admitted.delivery in
    kept_first (position (is_it d) c.args.forgotten.now.deliveries) (position (is_delivered_as d) c.args.runs.now) c.args.r (search rules)

pub returns-in-Some : goal.returns-in-Some
returns-in-Some c =
    let d = c.args.run.now.admitted.delivery in
    let is : Some c.in-Some.index ≡ position (is_delivered_as d) c.args.runs.now = search rules in
    let none : position (is_it d) c.args.forgotten.now.deliveries ≡ None = search rules in
    found_second (position (is_it d) c.args.forgotten.now.deliveries) (position (is_delivered_as d) c.args.runs.now) c.args.r _ none
    (is_place (position (is_delivered_as d) c.args.runs.now) c.in-Some.index c.args.r is)

pub returns-in-None : goal.returns-in-None
returns-in-None c =
    let d = c.args.run.now.admitted.delivery in
    let is : None ≡ position (is_delivered_as d) c.args.runs.now = search rules in
    let none : position (is_it d) c.args.forgotten.now.deliveries ≡ None = search rules in
    found_second (position (is_it d) c.args.forgotten.now.deliveries) (position (is_delivered_as d) c.args.runs.now) c.args.r _ none
    (is_no_place (position (is_delivered_as d) c.args.runs.now) c.args.r is)
