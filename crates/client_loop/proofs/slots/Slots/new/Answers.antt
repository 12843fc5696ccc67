use Rattle.client_loop.proofs.PortSlots.{both_free}
use Rattle.client_loop.proofs.slots.Slots.new.Goals as goal

pub returns-clause-free : goal.returns-clause-free
returns-clause-free g c =
    both_free c.in_ok-hooks.hooks.items c.in_ok-runners.runners.items c.args.hooks c.args.runners c.in_ok-hooks.ensures c.in_ok-runners.ensures
