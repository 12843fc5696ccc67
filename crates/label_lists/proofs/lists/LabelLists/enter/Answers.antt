use Rattle.std.proofs.Common.{◌≡◌, ◌↔◌, ℕ, ◌+◌, Option, None, IfOk, sym, subst}
use Rattle.label_lists.specs.inner.Known.{IsPassedFor}
use Rattle.label_lists.specs.Lists.{IsPassedUnder, ListsState}
use Rattle.label_lists.proofs.Passed.{number_where_some, zero_where_none}
use Rattle.label_lists.proofs.lists.LabelLists.enter.Goals as goal
use Rattle.label_lists.proofs.lists.LabelLists.enter.Goals.{in-Some, in-None}

pub returns-clause-zero : goal.returns-clause-zero
returns-clause-zero c = elim c.match-found.branch [
  | in-Some w ↦
      let l : ListsState = record { lists = c.self.inside.known.lists; requesting = c.self.inside.known.requesting; unknown = c.self.inside.unknown } in
      let is = subst (λ (o : Option ℕ). (o ≡ None) ↔ IsPassedFor c.self.inside.known c.args.labels.now c.args.run) w.in-Some.is c.in_ok-found.ensures.none in
      subst (λ o. IfOk o (λ n. (n ≡ 0) ↔ IsPassedUnder c.args.self.now c.args.labels.now c.args.run)) (sym w.result-is)
      (subst (λ (s : ListsState). (w.in-Some.k + 1 ≡ 0) ↔ IsPassedUnder s c.args.labels.now c.args.run) c.self.view_is
      (number_where_some l c.args.labels.now c.args.run w.in-Some.k is))
  | in-None w ↦
      let l : ListsState = record { lists = c.self.inside.known.lists; requesting = c.self.inside.known.requesting; unknown = c.self.inside.unknown } in
      let is = subst (λ (o : Option ℕ). (o ≡ None) ↔ IsPassedFor c.self.inside.known c.args.labels.now c.args.run) w.in-None.is c.in_ok-found.ensures.none in
      subst (λ o. IfOk o (λ n. (n ≡ 0) ↔ IsPassedUnder c.args.self.now c.args.labels.now c.args.run)) (sym w.result-is)
      (subst (λ (s : ListsState). (◌≡◌ {A = ℕ} 0 0) ↔ IsPassedUnder s c.args.labels.now c.args.run) c.self.view_is
      (zero_where_none l c.args.labels.now c.args.run is))
]
