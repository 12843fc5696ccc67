use Rattle.std.proofs.Common.{◌≡◌, ◌≤◌, ℕ, List, length, take, drop, reverse}
use Rattle.act_disk.specs.Image.{filled_after, laid_by}
use Rattle.act_disk.specs.declared.call.Fill.{Fill}
use Rattle.act_disk.proofs.image.stable_count.Given as goal

abbrev pub invariant-loop-count : goal.invariant-loop-count
invariant-loop-count l =
    (l.count ≤ length l.calls)
    × ((fill : Fill) (first : List ℕ)
    → filled_after fill first (reverse l.calls)
    ≡ laid_by fill (drop l.count l.calls) (filled_after fill first (reverse (take l.count l.calls))))

abbrev pub decreases-loop-count : goal.decreases-loop-count
decreases-loop-count l = l.count
