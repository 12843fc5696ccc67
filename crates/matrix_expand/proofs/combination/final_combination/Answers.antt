use Rattle.matrix_expand.proofs.Firsts.{names_ascend-final}
use Rattle.matrix_expand.proofs.combination.final_combination.Goals as goal
use Rattle.wf_value.proofs.PassedOn.{same_Ok}

pub firsts-requires : goal.firsts-requires
firsts-requires c =
    let original = same_Ok _ _ c.in_ok-original.ensures in
    let all = same_Ok _ _ c.in_ok-all.ensures in
    rw (c.as_slice-2.ensures.value, ← all, c.as_slice.ensures.value, ← original)
    (names_ascend-final c.args.axes.now c.args.number _ c.args.entries.now c.requires.entries c.requires.axes)
