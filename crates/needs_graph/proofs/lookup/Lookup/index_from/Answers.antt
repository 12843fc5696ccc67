use Rattle.std.proofs.Common.{◌≡◌, ◌∙◌, ℕ, List, Option, sym, subst, ap}
use Rattle.std.specs.Str.{bytes_eq}
use Rattle.std.specs.HashMap.{get_by}
use Rattle.needs_graph.specs.inner.Lookup.{Finds}
use Rattle.definitions.specs.Rising.{JobNeeds}
use Rattle.needs_graph.proofs.lookup.Lookup.index_from.Goals as goal

pub returns : goal.returns
returns c =
    let indexes = c.self.inside.indexes in
    let requested : get_by (λ k. bytes_eq c.args.id.now k.now) indexes ≡ c.copied.result = ap (λ id. get_by (λ k. bytes_eq id k.now) indexes)
    (sym c.as_str.ensures) ∙ cc (c.get.ensures.value, c.copied.ensures) in
    let found = c.self.invariant c.args.id.now in
    let P : Option ℕ → Type 0 = λ o. Finds c.self.inside.jobs.now c.args.id.now o in
    let Q : List JobNeeds → Type 0 = λ jobs. Finds jobs c.args.id.now c.copied.result in
    subst Q c.self.view_is (subst P requested found)
