use Rattle.std.proofs.Common.{◌≤◌, ap, subst, arith, length, List}
use mathlib.Core.List.{IsPrefix}
use Rattle.act_desk.specs.inner.Lines.{line}
use Rattle.act_desk.specs.declared.event.Note.{Note}
use Rattle.act_desk.proofs.Lines.{line_prefix}
use Rattle.act_desk.proofs.Prefixes.{prefix_shorter}
use Rattle.act_desk.proofs.prefix.HistoryPrefix.longer.Goals as goal

pub returns-then-self-other-clause-this : goal.returns-then-self-other-clause-this
returns-then-self-other-clause-this g c =
    let key = g.E.Named.first in
    let xs : List Note = c.self.inside.seen.log in
    let ys : List Note = c.other.inside.seen.log in
    let both = c.learn.new.self.log in
    let this : IsPrefix xs both = subst (λ (l : List Note). IsPrefix l both) (ap (λ s. s.log) c.again-both.ensures) c.learn.ensures.2 in
    let less : length (line key xs) ≤ length (line key ys) = omega (arith, c.self.invariant.0, c.other.invariant.0) in
    rw (c.again.ensures, ← c.self.view_is, ← c.other.view_is)
    (prefix_shorter (line key xs) (line key ys) (line key both) (line_prefix key xs both this) (line_prefix key ys both c.learn.ensures.3) less)

pub returns-clause-that : goal.returns-clause-that
returns-clause-that g c =
    let key = g.E.Named.first in
    let xs : List Note = c.self.inside.seen.log in
    let ys : List Note = c.other.inside.seen.log in
    let both = c.learn.new.self.log in
    let this : IsPrefix xs both = subst (λ (l : List Note). IsPrefix l both) (ap (λ s. s.log) c.again-both.ensures) c.learn.ensures.2 in
    let less : length (line key ys) ≤ length (line key xs) = omega (arith, c.self.invariant.0, c.other.invariant.0) in
    rw (c.again-else-self-other.ensures, ← c.self.view_is, ← c.other.view_is)
    (prefix_shorter (line key ys) (line key xs) (line key both) (line_prefix key ys both c.learn.ensures.3) (line_prefix key xs both this) less)
