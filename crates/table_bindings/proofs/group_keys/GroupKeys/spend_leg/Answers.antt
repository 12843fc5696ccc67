use Rattle.std.specs.Prelude.{◌≡◌, ◌<◌, ◌≤◌, List, Option, Some, length, option_and_then, slice_get, refl}
use Rattle.std.proofs.Common.{ap, rules, subst, sym, ◌∙◌}
use Rattle.std.proofs.lemmas.Option.{slice_get_past, slice_get_read}
use Rattle.table_model.specs.Runs.{changed_at}
use Rattle.table_model.proofs.Doors.{changed_past, changed_within}
use Rattle.table_bindings.specs.GroupKeys.{KeyState, spent, ticket_in}
use Rattle.table_bindings.specs.declared.group_keys.HolderKey.{HolderKey}
use Rattle.table_bindings.proofs.group_keys.GroupKeys.spend_leg.Goals as goal

pub returns-then-j-len-clause-ticket : goal.returns-then-j-len-clause-ticket
returns-then-j-len-clause-ticket c =
    let jobs = c.self.inside.jobs.items in
    let j = c.args.j in
    let old = c.index_mut-legs.result.now in
    let within : j < length jobs = search rules in
    let at : slice_get jobs j ≡ Some old = slice_get_read jobs (length jobs) j old refl within c.index_mut-legs.ensures.value in
    c.spend.ensures.ticket
    ∙ ap (λ (o : Option (List HolderKey)). option_and_then ticket_in (option_and_then (λ (legs : List HolderKey). slice_get legs c.args.l) o))
    (sym at ∙ ap (λ (keys : KeyState). slice_get keys.jobs j) c.self.view_is)

pub returns-then-j-len-clause-spent : goal.returns-then-j-len-clause-spent
returns-then-j-len-clause-spent c =
    changed_within (λ (legs : List HolderKey). changed_at c.args.l spent legs) c.self.inside.jobs.items c.args.j c.index_mut-legs.result.now
    c.spend.new.self (search rules) c.index_mut-legs.ensures.value c.spend.ensures.spent
    ∙ ap (λ (keys : KeyState). changed_at c.args.j (λ (legs : List HolderKey). changed_at c.args.l spent legs) keys.jobs) c.self.view_is

pub returns-else-j-len-clause-ticket : goal.returns-else-j-len-clause-ticket
returns-else-j-len-clause-ticket c =
    let past : length c.args.self.now.jobs ≤ c.args.j =
    subst (λ (keys : KeyState). length keys.jobs ≤ c.args.j) c.self.view_is (search rules) in
    ap (λ (o : Option (List HolderKey)). option_and_then ticket_in (option_and_then (λ (legs : List HolderKey). slice_get legs c.args.l) o))
    (sym (slice_get_past c.args.self.now.jobs c.args.j past))

pub returns-else-j-len-clause-spent : goal.returns-else-j-len-clause-spent
returns-else-j-len-clause-spent c =
    let past : length c.args.self.now.jobs ≤ c.args.j =
    subst (λ (keys : KeyState). length keys.jobs ≤ c.args.j) c.self.view_is (search rules) in
    changed_past (λ (legs : List HolderKey). changed_at c.args.l spent legs) c.args.self.now.jobs c.args.j past
