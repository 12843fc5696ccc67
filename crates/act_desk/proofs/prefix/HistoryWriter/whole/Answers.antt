use Rattle.std.proofs.Common.{◌≡◌, ◌∙◌, List, length, ap, subst, sym}
use mathlib.Core.List.{IsPrefix}
use Rattle.logbook.specs.Pages.{Nib}
use Rattle.act_desk.specs.Events.{entries_in}
use Rattle.act_desk.specs.inner.Lines.{IsUnused, line, next_of}
use Rattle.act_desk.specs.declared.event.Event.{Event}
use Rattle.act_desk.proofs.Lines.{line_prefix, same_line, same_next}
use Rattle.act_desk.proofs.Prefixes.{prefix_trans}
use Rattle.act_desk.proofs.prefix.HistoryWriter.whole.Goals as goal

pub invariant_of-self : goal.invariant_of-self
invariant_of-self g c =
    let first = g.E.Named.first in
    let xs = c.self.inside.seen.log in
    let read = c.learn.new.self.log in
    let all = c.look.new.seen.log in
    let is = c.self.invariant in
    let pre : IsPrefix xs all = prefix_trans xs read all c.learn.ensures.2 c.look.ensures.seen.1 in
    let unused : IsUnused (next_of first xs) all = subst (λ k. IsUnused k all) (sym is.6) c.look.ensures.unused in
    let same : line first all ≡ line first xs = same_line first xs all pre unused in
    let token = c.look.ensures.token in (
      is.0 ∙ sym (ap (λ (l : List Event). length l) same),
      is.1 ∙ sym (ap (λ (l : List Event). length (entries_in l)) same),
      c.look.ensures.seen.0 ∙ (c.learn.ensures.0 ∙ is.2),
      is.3,
      token.0 ∙ is.4,
      ap (λ (n : Nib). n.right) token.1 ∙ is.5,
      same_next first xs all pre unused ∙ (is.6 ∙ sym (ap (λ (n : Nib). n.key) token.1)),
    )

pub returns-clause-whole : goal.returns-clause-whole
returns-clause-whole g c =
    let first = g.E.Named.first in
    let xs = c.self.inside.seen.log in
    let read = c.learn.new.self.log in
    let all = c.look.new.seen.log in
    let is = c.self.invariant in
    let pre : IsPrefix xs all = prefix_trans xs read all c.learn.ensures.2 c.look.ensures.seen.1 in
    let unused : IsUnused (next_of first xs) all = subst (λ k. IsUnused k all) (sym is.6) c.look.ensures.unused in
    let same : line first all ≡ line first xs = same_line first xs all pre unused in
    c.so_far.ensures ∙ (same ∙ c.self.view_is)

pub returns-clause-same : goal.returns-clause-same
returns-clause-same g c =
    let first = g.E.Named.first in
    let xs = c.self.inside.seen.log in
    let read = c.learn.new.self.log in
    let all = c.look.new.seen.log in
    let is = c.self.invariant in
    let pre : IsPrefix xs all = prefix_trans xs read all c.learn.ensures.2 c.look.ensures.seen.1 in
    let unused : IsUnused (next_of first xs) all = subst (λ k. IsUnused k all) (sym is.6) c.look.ensures.unused in
    let same : line first all ≡ line first xs = same_line first xs all pre unused in
    same ∙ c.self.view_is

pub returns-clause-prefix : goal.returns-clause-prefix
returns-clause-prefix g c =
    let first = g.E.Named.first in
    let xs = c.self.inside.seen.log in
    let read = c.learn.new.self.log in
    let all = c.look.new.seen.log in
    let is = c.self.invariant in
    let pre : IsPrefix xs all = prefix_trans xs read all c.learn.ensures.2 c.look.ensures.seen.1 in
    let unused : IsUnused (next_of first xs) all = subst (λ k. IsUnused k all) (sym is.6) c.look.ensures.unused in
    let same : line first all ≡ line first xs = same_line first xs all pre unused in
    let other = c.seen.inside.seen.log in
    subst (λ (l : List Event). IsPrefix l c.args.self.now) c.seen.view_is
    (subst (λ (l : List Event). IsPrefix (line first other) l) (same ∙ c.self.view_is)
    (line_prefix first other all (prefix_trans other read all c.learn.ensures.3 c.look.ensures.seen.1)))
