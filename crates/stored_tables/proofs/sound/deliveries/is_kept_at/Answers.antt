use Rattle.std.proofs.Common.{◌≡◌, None, Some, rules}
use Rattle.std.specs.List.{position}
use Rattle.stored_tables.proofs.DeliveriesFound.{is_it, is_no_place, is_place}
use Rattle.stored_tables.proofs.sound.deliveries.is_kept_at.Goals as goal

pub returns-in-Some : goal.returns-in-Some
returns-in-Some c =
    let is : Some c.in-Some.index ≡ position (is_it c.args.delivery.now) c.args.forgotten.now.deliveries = search rules in
    is_place (position (is_it c.args.delivery.now) c.args.forgotten.now.deliveries) c.in-Some.index c.args.k is

pub returns-in-None : goal.returns-in-None
returns-in-None c =
    let is : None ≡ position (is_it c.args.delivery.now) c.args.forgotten.now.deliveries = search rules in
    is_no_place (position (is_it c.args.delivery.now) c.args.forgotten.now.deliveries) c.args.k is
