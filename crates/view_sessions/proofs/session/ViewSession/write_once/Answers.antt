use Rattle.std.proofs.Common.{rules, ◌≡◌, ◌∙◌, ◌≤◌, ◌++◌, ℕ, List, length, take, drop, ap, arith, subst, sym}
use Rattle.std.proofs.lemmas.List.{length-replicate, take-replicate}
use Rattle.std.specs.Io.KnownBytes.{Appends}
use Rattle.std.specs.Prelude.{replicate}
use Rattle.view_sessions.specs.Sessions.{SessionState}
use Rattle.view_sessions.proofs.Sending.{after_zeros, zeros_fit, zeros_owed}
use Rattle.view_sessions.proofs.session.ViewSession.write_once.Goals as goal

pub returns : goal.returns
returns g c =
    let out = c.self.inside.out.items in
    let sent = c.self.inside.sent in
    let zeros = c.self.inside.zeros in
    let most = c.min-most.result in
    let n = c.in_ok-count-2.count in
    let all : length out ≤ sent = search (rules, c.len.ensures, c.if-self-len.false) in
    let within : n ≤ length c.zeros.result.now = c.in_ok-count-2.ensures.bound in
    let fits : n ≤ most = subst (λ (k : ℕ). n ≤ k) (ap (λ (l : List ℕ). length l) c.zeros.ensures ∙ length-replicate {A = ℕ} most 0) within in
    let few : n ≤ zeros = omega (arith, fits, c.min-most.ensures) in
    let bytes : take n c.zeros.result.now ≡ take n (drop sent out ++ replicate zeros 0) =
    ap (take n) c.zeros.ensures ∙ take-replicate n most 0 fits ∙ sym (zeros_owed out sent zeros n all few) in
    let owing : List ℕ → SessionState = λ l.
    record { held = c.self.inside.held.items; requests = c.self.inside.requests; owed = l; over = c.self.inside.over } in
    rw (← c.self.view_is) (
      zeros_fit out sent zeros n few,
      subst (λ (l : List ℕ). Appends (g.W.Write.contents c.args.writer.now) (g.W.Write.contents c.write-2.new.self) l) bytes c.in_ok-count-2.ensures.bytes,
      ap owing (after_zeros out sent zeros n all),
    )
