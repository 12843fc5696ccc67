use Rattle.std.proofs.Common.{◌≡◌, drop}
use Rattle.act_disk.specs.Image.{laid_by}
use Rattle.act_disk.proofs.image.lay_calls.Given as goal

abbrev pub invariant-loop-call : goal.invariant-loop-call
invariant-loop-call l = laid_by l.fill (drop l.call-index l.calls) l.file.items ≡ laid_by l.fill l.calls l.initial.file.items
