use Rattle.std.proofs.Common.{◌≡◌, ◌+◌, ◌-◌, ◌≤◌, ◌++◌, ℕ, List, length, take, replicate, sym, ◌∙◌, ap, arith}
use Rattle.std.proofs.lemmas.List.{length-replicate, take-replicate}
use Rattle.act_disk.proofs.ZeroLemmas.{zeros_more, grows_on}
use Rattle.act_disk.proofs.zeros.grow_to.Goals as goal

pub loop-zeros-preserved : goal.loop-zeros-preserved
loop-zeros-preserved g c =
    let disk = g.D.Disk in
    let before = c.args.disk.now in
    let mid = c.loop-zeros.disk in
    let new = c.write_at.new.self in
    let inv = c.loop-zeros.invariant in
    let done = c.in_ok-write_at.ensures in
    let at = c.len-at.result in
    let count = c.min-count.result in
    let end : at ≡ disk.size mid = c.len-at.ensures in
    let begun : disk.size mid ≡ c.len.result = sym c.len.ensures in
    let few : count ≤ 4096 = omega (arith, c.min-count.ensures) in
    let within : count ≤ c.args.len - at = omega (arith, c.min-count.ensures) in
    let zeros : take count (replicate 4096 0) ≡ replicate count 0 = take-replicate count 4096 0 few in
    let many : length (take count (replicate {A = ℕ} 4096 0)) ≡ count =
    ap (λ (l : List ℕ). length l) zeros ∙ length-replicate {A = ℕ} count 0 in
    let size : disk.size new ≡ disk.size mid + count = omega (arith, done.size, end, many) in record {
      low = omega (arith, inv.low, size);
      high = omega (arith, inv.high, size, end, begun, within, c.loop-zeros-test.true);
      faults = done.faults ∙ inv.faults;
      honest = ((λ h. inv.honest.0 (done.honest.0 h)), (λ h. done.honest.1 (inv.honest.1 h)));
      grows = λ honest.
          let h = inv.honest.1 honest in
          grows_on disk.moment disk.images_since disk.images (disk.size before) (c.args.len - disk.size before) before mid new at
          (length (take count (replicate {A = ℕ} 4096 0)))
          (omega (arith, end, inv.low)) (omega (arith, end, inv.low, many, within)) (inv.grows honest) (done.images h) (done.time h);
      zeros = λ honest.
          let h = inv.honest.1 honest in
          let more : (disk.size mid - disk.size before) + count ≡ disk.size new - disk.size before = omega (arith, inv.low, size) in
          zeros_more (disk.seen before) (disk.seen mid) (disk.seen new) (take count (replicate 4096 0)) at
          (disk.size mid - disk.size before) count
          (inv.zeros honest) (end ∙ sym (g.met.D.Disk.seen_length mid h)) zeros (done.written h)
          ∙ ap (λ (n : ℕ). disk.seen before ++ replicate n 0) more;
    }

pub returns-in_err-write_at-clause-any_moment : goal.returns-in_err-write_at-clause-any_moment
returns-in_err-write_at-clause-any_moment g c honest =
    let disk = g.D.Disk in
    let before = c.args.disk.now in
    let mid = c.loop-zeros.disk in
    let inv = c.loop-zeros.invariant in
    let failed = c.in_err-write_at.ensures in
    let h = inv.honest.1 honest in
    let end : c.len-at.result ≡ disk.size mid = c.len-at.ensures in
    let begun : disk.size mid ≡ c.len.result = sym c.len.ensures in
    let count = c.min-count.result in
    let few : count ≤ 4096 = omega (arith, c.min-count.ensures) in
    let within : count ≤ c.args.len - c.len-at.result = omega (arith, c.min-count.ensures) in
    let many : length (take count (replicate {A = ℕ} 4096 0)) ≡ count =
    ap (λ (l : List ℕ). length l) (take-replicate count 4096 0 few) ∙ length-replicate {A = ℕ} count 0 in
    (grows_on disk.moment disk.images_since disk.images (disk.size before) (c.args.len - disk.size before) before mid c.write_at.new.self
    c.len-at.result (length (take count (replicate {A = ℕ} 4096 0)))
    (omega (arith, end, inv.low)) (omega (arith, end, begun, inv.low, many, within, c.loop-zeros-test.true)) (inv.grows honest)
    (failed.images h) (failed.time h)).since
