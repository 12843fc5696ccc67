use Rattle.std.proofs.Common.{◌≡◌, ◌++◌, ◌∷◌, [], true, take, arith}
use Rattle.std.proofs.KnownBytes.{Appends-trans}
use Rattle.std.proofs.lemmas.Bool.Decides.{nat_tests}
use Rattle.program_commands.specs.Answers.{has_bytes}
use Rattle.program_commands.specs.PlainStore.{without_disk}
use Rattle.program_commands.proofs.Plays.{leads_past_line, leads_to_end, leads_on, leads_on_within}
use Rattle.program_commands.proofs.play.play.Goals as goal

pub returns-in_err-play_line-clause-prefix : goal.returns-in_err-play_line-clause-prefix
returns-in_err-play_line-clause-prefix g c =
    let so_far = c.loop-line.invariant in
    let answered = c.in_err-play_line.ensures.prefix in
    let line = answered.0 ++ 10 ∷ [] in
    let filled : has_bytes c.in-Some.line.now ≡ true = grind (arith, nat_tests) in
    let first = without_disk c.args.store.now in
    let before = g.D.Disk.fault_count c.args.store.now.disk in
    let then = without_disk c.play_line.new.store in
    let more = g.D.Disk.fault_count c.play_line.new.store.disk in
    let past = leads_past_line first before c.args.script.now (without_disk c.loop-line.store) then
    (g.D.Disk.fault_count c.loop-line.store.disk) more c.loop-line.rest.now so_far.0 c.in-Some.line.now
    c.in-Some.after.now answered.0 so_far.2 c.in-Some.ensures.lines filled answered.2 in
    let on = leads_on_within first before c.args.script.now then more c.in-Some.after.now so_far.0 line answered.1 past in
    (so_far.0 ++ take answered.1 line, on.0, Appends-trans _ _ _ so_far.0 (take answered.1 line) so_far.1 answered.3, on.1)

pub loop-line-preserved-in_ok-play_line : goal.loop-line-preserved-in_ok-play_line
loop-line-preserved-in_ok-play_line g c =
    let so_far = c.loop-line.invariant in
    let answered = c.in_ok-play_line.ensures.all in
    let line = answered.0 ++ 10 ∷ [] in
    let filled : has_bytes c.in-Some.line.now ≡ true = grind (arith, nat_tests) in
    let past = leads_past_line (without_disk c.args.store.now) (g.D.Disk.fault_count c.args.store.now.disk) c.args.script.now
    (without_disk c.loop-line.store) (without_disk c.play_line.new.store) (g.D.Disk.fault_count c.loop-line.store.disk)
    (g.D.Disk.fault_count c.play_line.new.store.disk) c.loop-line.rest.now so_far.0 c.in-Some.line.now
    c.in-Some.after.now answered.0 so_far.2 c.in-Some.ensures.lines filled answered.1 in
    (so_far.0 ++ line, Appends-trans _ _ _ so_far.0 line so_far.1 answered.2, past)

pub returns-clause-all : goal.returns-clause-all
returns-clause-all g c =
    let so_far = c.loop-line.invariant in (
      so_far.0,
      so_far.1,
      leads_to_end (without_disk c.args.store.now) (g.D.Disk.fault_count c.args.store.now.disk) c.args.script.now
          (without_disk c.loop-line.store) (g.D.Disk.fault_count c.loop-line.store.disk)
          c.loop-line.rest.now so_far.0 so_far.2 c.in_default.ensures.lines,
    )

pub returns-clause-prefix : goal.returns-clause-prefix
returns-clause-prefix g c =
    let so_far = c.loop-line.invariant in
    let on = leads_on (without_disk c.args.store.now) (g.D.Disk.fault_count c.args.store.now.disk) c.args.script.now
    (without_disk c.loop-line.store) (g.D.Disk.fault_count c.loop-line.store.disk) c.loop-line.rest.now so_far.0 so_far.2 in
    (so_far.0, on.0, so_far.1, on.1)
