use Rattle.std.proofs.Common.{◌++◌, ℕ, List, subst, Err}
use Rattle.std.specs.Io.KnownBytes.{Appends}
use Rattle.std.proofs.KnownBytes.{Appends-kept}
use Rattle.program_commands.specs.Input.{IsReadAs}
use Rattle.program_commands.specs.PlainStore.{PlainStore, without_disk}
use Rattle.program_commands.specs.Play.{PlaysFrom, Plays, Ends}
use Rattle.program_commands.proofs.Inputs.{from_each, nothing_written}
use Rattle.program_commands.proofs.Plays.{ends_within, ends_after, unread_ends}
use Rattle.program_commands.proofs.play.play_input.Goals as goal

pub returns-in_err-script-clause-written : goal.returns-in_err-script-clause-written
returns-in_err-script-clause-written g c =
    let e = c.in_err-script.field-0.0 in
    let ended = c.from_residual.result in
    let faults = g.D.Disk.fault_count c.args.store.now.disk in
    nothing_written (λ script out. Ends faults script out faults ended) (g.R.Read.remaining c.args.reader.now)
    (g.W.Write.contents c.args.writer.now) e c.in_err-script.ensures.refused
    (λ script. unread_ends faults script ended e c.from_residual.ensures.1)

pub returns-in-Ok-clause-written : goal.returns-in-Ok-clause-written
returns-in-Ok-clause-written g c =
    let script = c.in_ok-script.script.items in
    let played = c.in-Ok.ensures.all in
    let store = without_disk c.args.store.now in
    let faults = g.D.Disk.fault_count c.args.store.now.disk in
    let end = g.D.Disk.fault_count c.play.new.store.disk in
    let over : PlaysFrom store faults script played.0 end = subst (λ s. PlaysFrom store faults s played.0 end) c.deref.ensures.value played.2 in
    let whole : Plays faults script played.0 end = subst (λ (k : PlainStore). PlaysFrom k faults script played.0 end) c.requires over in
    let ended : (input : List ℕ) → IsReadAs script input → (out : List ℕ)
    × Appends (g.W.Write.contents c.args.writer.now) (g.W.Write.contents c.flush.new.writer) out × Ends faults input out end c.flush.result =
    λ input is. (
      played.0,
      Appends-kept _ _ _ played.0 played.1 c.flush.ensures.kept,
      ends_after faults input played.0 end c.flush.result is.1 (subst (λ s. Plays faults s played.0 end) is.0 whole) c.flush.ensures.err,
    ) in
    from_each (g.R.Read.remaining c.args.reader.now) c.in_ok-script.ensures.whole ended

pub returns-clause-written : goal.returns-clause-written
returns-clause-written g c =
    let script = c.in_ok-script.script.items in
    let played = c.in-Err.ensures.prefix in
    let store = without_disk c.args.store.now in
    let out = played.0 ++ played.1 in
    let faults = g.D.Disk.fault_count c.args.store.now.disk in
    let end = g.D.Disk.fault_count c.play.new.store.disk in
    let over : PlaysFrom store faults script out end = subst (λ s. PlaysFrom store faults s out end) c.deref.ensures.value played.3 in
    let whole : Plays faults script out end = subst (λ (k : PlainStore). PlaysFrom k faults script out end) c.requires over in
    let ended : (input : List ℕ) → IsReadAs script input → (out : List ℕ)
    × Appends (g.W.Write.contents c.args.writer.now) (g.W.Write.contents c.play.new.writer) out
    × Ends {U = Unit {0}} faults input out end (Err c.in-Err.refusal) = λ input is. (
      played.0,
      played.2,
      ends_within (Unit {0}) faults input played.0 played.1 end c.in-Err.refusal is.1
          (subst (λ s. Plays faults s out end) is.0 whole) c.in-Err.ensures.err,
    ) in
    from_each (g.R.Read.remaining c.args.reader.now) c.in_ok-script.ensures.whole ended
