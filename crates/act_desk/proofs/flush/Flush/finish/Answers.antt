use Rattle.std.proofs.Common.{◌≡◌, Some, ⊎_elim, refl}
use Rattle.act_store.specs.Checkpoints.{refusal_of_finish}
use Rattle.act_desk.proofs.Flushes.{finish_left}
use Rattle.act_desk.proofs.flush.Flush.finish.Goals as goal

pub returns-in_ok-lacks_memory-in-Err-clause-finishes : goal.returns-in_ok-lacks_memory-in-Err-clause-finishes
returns-in_ok-lacks_memory-in-Err-clause-finishes g c =
    let passed = c.in_ok-lacks_memory-in-Err.ensures.passed in
    let e = c.in-Err.refusal in
    let s = c.args.locked.now.store in
    let due : refusal_of_finish s ≡ Some e = ⊎_elim (λ device. absurd (passed.0 device)) (λ is. is) c.in-Err.ensures.cause in
    let left = finish_left s c.check_finish.new.self.store e (λ full. c.in-Err.ensures.dropped (cc)) (λ other. rw (c.in-Err.ensures.unchanged passed.0 other) refl) in
    (e, due, left, rw (← c.self.view_is) refl)
