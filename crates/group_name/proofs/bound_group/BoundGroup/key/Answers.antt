use Rattle.group_name.proofs.bound_group.BoundGroup.key.Goals as goal

pub of_folded-requires : goal.of_folded-requires
of_folded-requires g c = c.in_ok-text.ensures.utf8
