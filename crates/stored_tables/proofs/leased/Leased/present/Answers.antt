use Rattle.std.proofs.Common.{◌≡◌, None, Some, ap, sym, ◌∙◌, rules}
use Rattle.std.specs.BTreeMap.{get}
use Rattle.std.specs.Ordering.{nat_cmp}
use Rattle.stored_tables.specs.inner.ByLease.{lease_of_leg}
use Rattle.stored_tables.proofs.ByNumberRead.{found_has}
use Rattle.stored_tables.proofs.PartsRead.{no_present, present_lease, run_in_range, run_is_there}
use Rattle.stored_tables.proofs.leased.Leased.present.Goals as goal
use Rattle.stored_tables.proofs.leased.Leased.present.Goals.{In-Some}
use Rattle.wf_value.proofs.PassedOn.{same_Ok}

-- the leg that is found has the lease
has_lease : (c : In-Some) → lease_of_leg c.args.self.now.runs.now c.in-Some.site.now ≡ Some c.args.lease
has_lease c =
    let find = get nat_cmp c.args.self.now.legs.now in
    let found : find c.args.lease ≡ Some c.in-Some.site.now =
    ap find (sym c.get.ensures.value) ∙ sym c.in-Some.ensures.value in
    found_has (lease_of_leg c.args.self.now.runs.now) c.args.lease (find c.args.lease) c.in-Some.site.now
    (c.requires.legs c.args.lease) found

pub returns-in_default-clause-of : goal.returns-in_default-clause-of
returns-in_default-clause-of c =
    let find = get nat_cmp c.args.self.now.legs.now in
    let nothing : find c.args.lease ≡ None = search rules in
    no_present c.args.self.now.last c.args.lease c.args.self.now.runs.now (find c.args.lease) (c.requires.legs c.args.lease) nothing

pub kept_lease-requires : goal.kept_lease-requires
kept_lease-requires c =
    run_in_range c.args.self.now.runs.now c.in-Some.site.now c.args.lease
    (has_lease (goal.at.kept_lease-requires c).In-Some)

pub returns-clause-of : goal.returns-clause-of
returns-clause-of c =
    present_lease c.args.self.now.last c.args.lease c.in-Some-attempt_of.attempt c.args.self.now.runs.now c.in-Some.site.now c.in_ok-kept.kept
    c.requires.planned (search rules) c.requires.last (search rules) (has_lease (goal.at.returns-clause-of c).In-Some) c.in-Some-attempt_of.ensures
    (same_Ok _ _ c.in_ok-kept.ensures)

pub returns-in_default-attempt_of-clause-of : goal.returns-in_default-attempt_of-clause-of
returns-in_default-attempt_of-clause-of c =
    λ kept is. run_is_there c.args.self.now.runs.now c.in-Some.site.now c.args.lease
    (has_lease (goal.at.returns-in_default-attempt_of-clause-of c).In-Some) (sym c.in_default-attempt_of.is ∙ c.attempt_of.ensures)
