use Rattle.std.proofs.Common.{◌≡◌, ◌∙◌, ◌-◌, ◌==◌, ◌++◌, ◌∷◌, [], None, Some, ap, rules, slice_get, sym}
use Rattle.std.specs.Prelude.{if◌then◌else◌}
use Rattle.std.proofs.lemmas.Option.{same_Some}
use Rattle.act_store.specs.declared.entry.Entry.{Entry}
use Rattle.act_desk.specs.Events.{entries_in}
use Rattle.act_desk.specs.declared.event.Event.TheVariants.{Entered}
use Rattle.act_desk.proofs.EnteredAt.{last_entry}
use Rattle.act_desk.proofs.Eventful.{entries_more}
use Rattle.act_desk.proofs.locked.note_last.Goals as goal

pub returns-in-Some-clause-entries : goal.returns-in-Some-clause-entries
returns-in-Some-clause-entries g c =
    let old = c.args.history.now in
    let history = c.args.store.now.history in
    let last = c.requires.last in
    let entry = c.in-Some.entry.now in
    let n = c.entries.result in
    let given : Some entry ≡ (if n == 0 then None else slice_get history (n - 1)) = search rules in
    let same : entry ≡ last.0 =
    same_Some entry last.0 (last_entry history (entries_in old) last.0 n (Some entry) last.1 c.entries.ensures given) in
    let value : c.of.result.value ≡ entry = search rules in
    ap entries_in c.add.ensures ∙ entries_more old (Entered c.of.result)
    ∙ ap (λ (e : Entry). entries_in old ++ e ∷ []) (value ∙ same) ∙ sym last.1

pub returns-in_default-clause-entries : goal.returns-in_default-clause-entries
returns-in_default-clause-entries g c =
    let history = c.args.store.now.history in
    let last = c.requires.last in
    let n = c.entries.result in
    let given : None ≡ (if n == 0 then None else slice_get history (n - 1)) = search rules in
    absurd (cc (last_entry history (entries_in c.args.history.now) last.0 n None last.1 c.entries.ensures given))

pub returns-in_default-clause-len : goal.returns-in_default-clause-len
returns-in_default-clause-len g c =
    let history = c.args.store.now.history in
    let last = c.requires.last in
    let n = c.entries.result in
    let given : None ≡ (if n == 0 then None else slice_get history (n - 1)) = search rules in
    absurd (cc (last_entry history (entries_in c.args.history.now) last.0 n None last.1 c.entries.ensures given))
