use Rattle.std.proofs.Common.{ℕ, List, Option, Some, cond, take, sym, subst, ◌+◌, ◌∙◌, arith}
use Rattle.std.specs.Str.{bytes_eq}
use Rattle.std.specs.HashMap.{get_by}
use Rattle.std.proofs.lemmas.Map.Text.{hash_map_updates_str}
use Rattle.needs_graph.specs.inner.Lookup.{Finds}
use Rattle.needs_graph.proofs.LookupSteps.{finds_more}
use Rattle.needs_graph.proofs.lookup.indexes_by_id.Goals as goal

pub loop-index-preserved : goal.loop-index-preserved
loop-index-preserved c = λ id.
    let jobs = c.args.jobs.now in
    let index = c.loop-index.index in
    let job = c.index-jobs-index.result in
    let before = get_by (λ k. bytes_eq id k.now) c.loop-index.indexes in
    let P : List ℕ → Type 0 = λ bytes. Finds (take (index + 1) jobs) id (cond (bytes_eq bytes id) (Some index) before) in
    let more = finds_more jobs index job id before (omega arith) c.index-jobs-index.is (c.loop-index.invariant id) in
    let Q : Option ℕ → Type 0 = λ found. Finds (take (index + 1) jobs) id found in
    let updated = hash_map_updates_str c.as_str.result.now c.loop-index.indexes c.insert.new.self (Some index) c.in_ok-insert.ensures.updates
    id in
    subst Q (sym updated) (subst P (sym (c.as_str.ensures ∙ c.id.ensures)) more)
