use Rattle.std.proofs.Common.{◌≡◌, Bool, List, ap, arith, length, refl, slice_get, sym, ◌∙◌, Ok}
use Rattle.std.specs.Prelude.{Option, Some, None, option_and_then, option_map}
use Rattle.std.specs.Option.{is_some}
use Rattle.run_table.specs.inner.IndexNamed.{index_named}
use Rattle.table_model.specs.TableState.{kept_named, runner_named, RunnerState}
use Rattle.run_table.proofs.RunnerOrder.{found_there, place_in_range, place_within, put_between, put_over}
use Rattle.run_table.proofs.runners.put_in.Goals as goal

mapped : {X : Type 0} (now : X → RunnerState) (o : Option X) → is_some (option_map now o) ≡ is_some o
mapped now None = refl
mapped now (Some x) = refl

-- the runner at the index has the name exactly if some runner has it
known_by : {X : Type 0} (now : X → RunnerState) (o : Option X) (found : Option RunnerState) (b : Bool) → option_map now o ≡ found
    → b ≡ is_some o → is_some found ≡ b
known_by now o found b there is = ap (λ (r : Option RunnerState). is_some r) (sym there) ∙ mapped now o ∙ sym is

pub replace-requires : goal.replace-requires
replace-requires c =
    let items = c.args.runners.now.items in
    let name = c.runner.inside.name in
    let index = c.args.index in
    let at = c.requires.index ∙ ap (λ (r : RunnerState). index_named c.args.runners.now.items r.name) (sym c.runner.view_is) in
    let there = c.named_at.ensures ∙ ap (λ (xs : List RunnerState). option_and_then (kept_named name) (slice_get xs index)) c.deref.ensures.value
    ∙ found_there items name c.requires.rise index at in
    place_within items name c.requires.rise index at
    (known_by (λ r. r.now) c.named_at.result (runner_named items name) c.is_some.result there c.is_some.ensures ∙ c.if-is_some.true)

pub insert-requires : goal.insert-requires
insert-requires c =
    let name = c.runner.inside.name in
    let at = c.requires.index ∙ ap (λ (r : RunnerState). index_named c.args.runners.now.items r.name) (sym c.runner.view_is) in
    omega (
      arith,
      place_in_range c.args.runners.now.items name c.requires.rise c.args.index at,
      c.deref.ensures.len,
      ap length c.deref.ensures.value,
    )

pub returns-then-is_some-clause-put : goal.returns-then-is_some-clause-put
returns-then-is_some-clause-put c =
    let items = c.args.runners.now.items in
    let name = c.runner.inside.name in
    let index = c.args.index in
    let at = c.requires.index ∙ ap (λ (r : RunnerState). index_named c.args.runners.now.items r.name) (sym c.runner.view_is) in
    let there = c.named_at.ensures ∙ ap (λ (xs : List RunnerState). option_and_then (kept_named name) (slice_get xs index)) c.deref.ensures.value
    ∙ found_there items name c.requires.rise index at in
    let known = known_by (λ r. r.now) c.named_at.result (runner_named items name) c.is_some.result there c.is_some.ensures ∙ c.if-is_some.true in
    ap Ok (sym (c.replace.ensures
    ∙ put_over items name c.requires.rise index at c.args.runner known (sym (ap (λ (r : RunnerState). r.name) c.runner.view_is))))

pub returns-clause-put : goal.returns-clause-put
returns-clause-put c =
    let items = c.args.runners.now.items in
    let name = c.runner.inside.name in
    let index = c.args.index in
    let at = c.requires.index ∙ ap (λ (r : RunnerState). index_named c.args.runners.now.items r.name) (sym c.runner.view_is) in
    let there = c.named_at.ensures ∙ ap (λ (xs : List RunnerState). option_and_then (kept_named name) (slice_get xs index)) c.deref.ensures.value
    ∙ found_there items name c.requires.rise index at in
    let unknown = known_by (λ r. r.now) c.named_at.result (runner_named items name) c.is_some.result there c.is_some.ensures ∙ c.if-is_some.false in
    ap Ok (sym (c.in_ok-insert.ensures.items
    ∙ put_between items name c.requires.rise index at c.args.runner unknown (sym (ap (λ (r : RunnerState). r.name) c.runner.view_is))))
