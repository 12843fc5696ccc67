use Rattle.std.proofs.Common.{◌/◌, ◌∷◌, [], length, arith}
use Rattle.matrix_expand.specs.inner.Entries.{SortsEntries, object_entries, merged}
use Rattle.matrix_expand.proofs.Merging.{SortsEntries-one, SortsEntries-merged, ok_gives, only_one}
use Rattle.matrix_expand.proofs.entry.+entries.Goals as goal

pub returns-in-len1-clause-sorted : goal.returns-in-len1-clause-sorted
returns-in-len1-clause-sorted t c =
    let item = c.object-item.result in
    rw (only_one c.args.objects.now item c.in-len1.len_at_least c.in-len1.len_below c.object-item.is)
    (ok_gives (λ v. v.items) c.entries_of.result (object_entries c.args.first item) (SortsEntries c.args.first (item ∷ []))
    c.entries_of.ensures.entries (SortsEntries-one c.args.first item c.entries_of.ensures.in_order))

pub returns-in_ok-right-in_default-clause-sorted : goal.returns-in_ok-right-in_default-clause-sorted
returns-in_ok-right-in_default-clause-sorted t c =
    let objects = c.args.objects.now in
    let left = c.in_ok-left-in_default.left.items in
    let right = c.in_ok-right-in_default.right.items in
    let is_left = rw c.split_at.ensures.front at c.in_ok-left-in_default.ensures.sorted in
    let is_right = rw (c.split_at.ensures.front_len, c.split_at.ensures.back) at c.in_ok-right-in_default.ensures.sorted in
    ok_gives (λ v. v.items) c.merge.result (merged c.as_slice.result.now c.as_slice-in_default.result.now)
    (SortsEntries c.args.first objects) c.merge.ensures
    (rw (c.as_slice.ensures.value, c.as_slice-in_default.ensures.value)
    (SortsEntries-merged c.args.first (length objects / 2) objects left right (omega arith) is_left is_right))
