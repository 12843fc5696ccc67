use Rattle.std.proofs.Common.{◌≡◌, ◌==◌, ℕ, true, List, [], ◌∷◌, length, refl, rules}
use Rattle.act_disk.proofs.WriteLemmas.{grown_puts, growth_breaks}
use Rattle.act_disk.proofs.file_calls.put.Goals as goal
use Rattle.act_disk.proofs.file_calls.put.Goals.{in-Ok, in-Err}

no_bytes : (bytes : List ℕ) → true ≡ (length bytes == 0) → bytes ≡ []
no_bytes [] is = refl
no_bytes (x ∷ bytes) is = search (rules, is)

pub returns-then-at-len-clause-ok : goal.returns-then-at-len-clause-ok
returns-then-at-len-clause-ok g c =
    let file = g.F.SystemFile in
    elim c.match-grow.branch [
      | in-Ok w ↦ rw w.result-is
          (grown_puts file.left file.held c.args.at c.args.bytes.now (no_bytes c.args.bytes.now c.if-is_empty.ensures)
          (file.calls c.args.file.now) (file.calls c.grow.new.file) w.in-Ok.ensures)
      | in-Err w ↦ rw w.result-is tt
    ]

pub returns-then-at-len-clause-err : goal.returns-then-at-len-clause-err
returns-then-at-len-clause-err g c =
    let file = g.F.SystemFile in
    elim c.match-grow.branch [
      | in-Ok w ↦ rw w.result-is tt
      | in-Err w ↦ rw w.result-is
          (growth_breaks file.left file.held c.args.at c.args.bytes.now (no_bytes c.args.bytes.now c.if-is_empty.ensures)
          (file.calls c.args.file.now) (file.calls c.grow.new.file) w.in-Err.ensures)
    ]
