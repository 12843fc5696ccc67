use Rattle.std.specs.Prelude.{◌≡◌, ◌<◌, ◌≤◌, ℕ, List, Option, Some, length, option_and_then, slice_get, slice_set, refl}
use Rattle.std.proofs.lemmas.Option.{slice_get_past, slice_get_read}
use Rattle.std.proofs.Common.{ap, rules, subst, sym, ◌∙◌}
use Rattle.table_model.specs.Runs.{changed_at, RunState}
use Rattle.table_model.specs.Holders.{run_of}
use Rattle.table_model.proofs.Changed.{length-changed_at}
use Rattle.table_model.proofs.Doors.{changed_past, changed_within}
use Rattle.table_bindings.specs.GroupKeys.{KeyState, holder_key, ticket_in, with_spent}
use Rattle.table_bindings.specs.declared.bindings.RunBindings.{RunBindings}
use Rattle.table_runs.specs.inner.RowsKept.{RowState, RunsAreKept, keys_spent}
use Rattle.table_runs.proofs.StillBound.{kept_rekeyed, one_rekeyed}
use Rattle.table_runs.proofs.rows.Rows.spend.Goals as goal

pub invariant_of-self : goal.invariant_of-self
invariant_of-self c =
    let bindings = c.self.inside.bindings.items in
    let h = c.args.holder.now in
    let r = c.run-r.result in
    let old = c.index_mut-bindings.result.now in
    let change : RunBindings → RunBindings = λ kept. record kept { keys = with_spent h kept.keys } in
    let new : RunBindings = record old { keys = c.spend.new.self } in
    let within : r < length bindings = search rules in
    let is : slice_set bindings r new ≡ keys_spent h bindings =
    changed_within change bindings r old new within c.index_mut-bindings.ensures.value
    (ap (λ (k : KeyState). record old { keys = k }) c.spend.ensures.spent)
    ∙ ap (λ n. changed_at n change bindings) c.run-r.ensures in (
      subst (λ (bs : List RunBindings). RunsAreKept c.self.inside.runs.items bs c.self.inside.index c.self.inside.active)
          (sym is)
          (kept_rekeyed c.self.inside.runs.items bindings (keys_spent h bindings) c.self.inside.index c.self.inside.active
          (length-changed_at (run_of h) change bindings)
          (one_rekeyed (run_of h) change bindings (λ b. record { own = refl; jobs = refl; lists = refl })) c.self.invariant.0),
      c.self.invariant.1,
    )

pub returns-then-r-len-clause-ticket : goal.returns-then-r-len-clause-ticket
returns-then-r-len-clause-ticket c =
    let bindings = c.self.inside.bindings.items in
    let h = c.args.holder.now in
    let r = c.run-r.result in
    let old = c.index_mut-bindings.result.now in
    let within : r < length bindings = search rules in
    let at : slice_get bindings (run_of h) ≡ Some old =
    ap (slice_get bindings) (sym c.run-r.ensures) ∙ slice_get_read bindings (length bindings) r old refl within c.index_mut-bindings.ensures.value in
    c.spend.ensures.ticket
    ∙ ap (λ (o : Option RunBindings). option_and_then ticket_in (option_and_then (λ (kept : RunBindings). holder_key kept.keys h) o))
    (sym at ∙ ap (λ (rows : RowState). slice_get rows.bindings (run_of h)) c.self.view_is)

pub returns-then-r-len-clause-spent : goal.returns-then-r-len-clause-spent
returns-then-r-len-clause-spent c =
    let bindings = c.self.inside.bindings.items in
    let h = c.args.holder.now in
    let r = c.run-r.result in
    let old = c.index_mut-bindings.result.now in
    let change : RunBindings → RunBindings = λ kept. record kept { keys = with_spent h kept.keys } in
    let new : RunBindings = record old { keys = c.spend.new.self } in
    let within : r < length bindings = search rules in
    changed_within change bindings r old new within c.index_mut-bindings.ensures.value
    (ap (λ (k : KeyState). record old { keys = k }) c.spend.ensures.spent)
    ∙ ap (λ n. changed_at n change bindings) c.run-r.ensures ∙ ap (λ (rows : RowState). keys_spent h rows.bindings) c.self.view_is

past_there : (rows : RowState) (bindings : List RunBindings) (runs : List RunState) (r n : ℕ) → record { runs = runs; bindings = bindings } ≡ rows
    → length bindings ≤ r → r ≡ n → length rows.bindings ≤ n
past_there rows bindings runs r n is past same =
    subst (λ (s : RowState). length s.bindings ≤ n) is (subst (λ k. length bindings ≤ k) same past)

pub returns-else-r-len-clause-ticket : goal.returns-else-r-len-clause-ticket
returns-else-r-len-clause-ticket c =
    let rows = c.args.self.now in
    let h = c.args.holder.now in
    let past : length rows.bindings ≤ run_of h =
    past_there rows c.self.inside.bindings.items c.self.inside.runs.items c.run-r.result (run_of h) c.self.view_is (search rules) c.run-r.ensures in
    ap (λ (o : Option RunBindings). option_and_then ticket_in (option_and_then (λ (kept : RunBindings). holder_key kept.keys h) o))
    (sym (slice_get_past rows.bindings (run_of h) past))

pub returns-else-r-len-clause-spent : goal.returns-else-r-len-clause-spent
returns-else-r-len-clause-spent c =
    let rows = c.args.self.now in
    let h = c.args.holder.now in
    let past : length rows.bindings ≤ run_of h =
    past_there rows c.self.inside.bindings.items c.self.inside.runs.items c.run-r.result (run_of h) c.self.view_is (search rules) c.run-r.ensures in
    changed_past (λ (kept : RunBindings). record kept { keys = with_spent h kept.keys }) rows.bindings (run_of h) past
