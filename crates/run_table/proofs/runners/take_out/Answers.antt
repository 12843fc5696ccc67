use Rattle.std.proofs.Common.{arith, ◌∙◌}
use Rattle.run_table.proofs.RunnerOrder.{place_within, taken_out}
use Rattle.run_table.proofs.runners.take_out.Goals as goal

pub remove-requires : goal.remove-requires
remove-requires c =
    let v = c.args.runners.now in
    omega (
      arith,
      place_within v.items c.args.name.now c.requires.rise c.args.index c.requires.index c.requires.known,
      v.ok.0,
      v.ok.1,
      v.small,
    )

pub returns : goal.returns
returns c =
    c.remove.ensures.items
    ∙ taken_out c.args.runners.now.items c.args.name.now c.requires.rise c.args.index c.requires.index c.requires.known
