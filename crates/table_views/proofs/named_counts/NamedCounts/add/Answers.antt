use Rattle.std.proofs.Common.{◌≡◌, ◌∙◌, ℕ, List, refl, rules, set, sym, ap, arith}
use Rattle.std.specs.Prelude.{None, Some, string_bytes}
use Rattle.std.specs.List.{position}
use Rattle.std.specs.Str.{bytes_eq}
use Rattle.table_views.proofs.OneMoreName.{counted_as, name_first, name_found, name_unnamed}
use Rattle.table_views.proofs.named_counts.NamedCounts.add.Goals as goal

pub returns-in-Some : goal.returns-in-Some
returns-in-Some c = λ names are.
    let old = c.args.self.now.named.items in
    let at : position (λ n. bytes_eq c.as_str.result.now n.name) old ≡ Some c.in-Some.index = sym c.in-Some.ensures.first in
    name_found names (string_bytes c.args.name) c.args.self.now _ are c.in-Some.index c.index_mut.result.now
    (ap (λ (bs : List ℕ). position (λ n. bytes_eq bs n.name) old) (sym c.as_str.ensures.value) ∙ at)
    (search rules) (ap (λ k. set old c.in-Some.index (counted_as c.index_mut.result.now.name k)) c.one_more.ensures) refl

pub returns-in_ok-push : goal.returns-in_ok-push
returns-in_ok-push c = λ names are.
    let old = c.args.self.now.named.items in
    let none : position (λ n. bytes_eq c.as_str.result.now n.name) old ≡ None = search rules in
    name_first names (string_bytes c.args.name) c.args.self.now _ are
    (ap (λ (bs : List ℕ). position (λ n. bytes_eq bs n.name) old) (sym c.as_str.ensures.value) ∙ none)
    (omega (arith, c.if-len-lt-NAMED.true, c.len.ensures)) (search rules) refl

pub returns-else-len-lt-NAMED : goal.returns-else-len-lt-NAMED
returns-else-len-lt-NAMED c = λ names are.
    let old = c.args.self.now.named.items in
    let none : position (λ n. bytes_eq c.as_str.result.now n.name) old ≡ None = search rules in
    name_unnamed names (string_bytes c.args.name) c.args.self.now _ are
    (ap (λ (bs : List ℕ). position (λ n. bytes_eq bs n.name) old) (sym c.as_str.ensures.value) ∙ none)
    (omega (arith, c.if-len-lt-NAMED.false, c.len.ensures)) refl (search rules)
