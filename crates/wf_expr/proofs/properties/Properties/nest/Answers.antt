use Rattle.std.proofs.Common.{refl, ◌∙◌}
use Rattle.std.proofs.lemmas.Result.{err_from_is_err_and}
use Rattle.wf_expr.specs.declared.properties.Properties.TheViews.{out-Properties}
use Rattle.wf_expr.proofs.PropertyLemmas.{changed, hit, suffix-others, kept}
use Rattle.wf_expr.proofs.properties.Properties.nest.Goals as goal

pub returns-in_err-insert-clause-err : goal.returns-in_err-insert-clause-err
returns-in_err-insert-clause-err c =
    let p = err_from_is_err_and c.from_residual-in_err-insert.result c.from_residual-in_err-insert.ensures.1 in
    rw p.1 (kept (record (out-Properties c.args.self.now) { inner = c.insert.new.self }) c.args.self.now refl c.in_err-insert.ensures.err)

pub returns-clause-within : goal.returns-clause-within
returns-clause-within c =
    hit _ _ _ _ (changed
    (record (out-Properties c.args.self.now) {
      inner = c.insert.new.self;
    }) c.args.self.now c.args.inner _ c.args.name.now refl c.in_ok-insert.ensures.updates
    (c.in_ok-name.ensures.ok ∙ c.as_str.ensures))

pub returns-clause-others : goal.returns-clause-others
returns-clause-others c =
    suffix-others _ _ _ _
    (changed
    (record (out-Properties c.args.self.now) {
      inner = c.insert.new.self;
    }) c.args.self.now c.args.inner _ c.args.name.now refl c.in_ok-insert.ensures.updates
    (c.in_ok-name.ensures.ok ∙ c.as_str.ensures))
