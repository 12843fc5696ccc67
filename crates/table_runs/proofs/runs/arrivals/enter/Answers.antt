use Rattle.std.proofs.Common.{◌≡◌, List, None, Some, length, ap, rules, subst, sym, ◌∙◌}
use Rattle.run_marks.specs.Marked.{Covers}
use Rattle.table_model.specs.Groups.{group_at, waits}
use Rattle.table_model.specs.Runs.{RunState}
use Rattle.table_model.specs.Sound.{RunsAreSound}
use Rattle.table_runs.specs.inner.Arriving.{stopped_if}
use Rattle.table_runs.specs.inner.MarkedRuns.{AreMarked, is_due}
use Rattle.table_runs.proofs.ArrivalEnds.{displaced_waits, its_flag, may_arrive}
use Rattle.table_runs.proofs.Displaced.{due_displaced}
use Rattle.table_runs.proofs.Entered.{entered_alone, entered_in_group, entered_rows}
use Rattle.table_runs.proofs.HoldersThere.{there_if_waits}
use Rattle.table_runs.proofs.runs.arrivals.enter.Goals as goal

pub arrive-arrival-requires : goal.arrive-arrival-requires
arrive-arrival-requires c =
    may_arrive c.args.rows.now.runs c.args.rows.now.bindings c.args.book.now c.args.newcomer.now c.in_ok-group.group c.requires.beside
    (sym (c.in_ok-group.ensures.ticket ∙ c.requires.beside.ticket))

pub displace-requires-clause-sound : goal.displace-requires-clause-sound
displace-requires-clause-sound c = subst (λ (rs : List RunState). RunsAreSound rs) (sym c.spend.ensures.runs) c.requires.sound

pub displace-requires-clause-waits : goal.displace-requires-clause-waits
displace-requires-clause-waits c = λ h at.
    ap (λ (rs : List RunState). waits rs h) c.spend.ensures.runs
    ∙ displaced_waits c.args.rows.now.runs c.args.rows.now.bindings c.args.book.now c.args.newcomer.now c.in_ok-group.group h c.requires.beside
    (sym c.arrive-arrival.ensures.displaced ∙ at)

pub displace-requires-clause-covers : goal.displace-requires-clause-covers
displace-requires-clause-covers c =
    subst (λ (rs : List RunState). Covers c.args.due.now (length rs)) (sym c.spend.ensures.runs) c.requires.due.covers

-- without a group
pub returns-in_err-group : goal.returns-in_err-group
returns-in_err-group c =
    let runs = c.args.rows.now.runs in
    let bindings = c.args.rows.now.bindings in
    let one = c.args.newcomer.now in
    let gone : c.from_residual.result ≡ None = search rules in
    let none : group_at runs one ≡ None = sym (c.in_err-group.ensures.ticket ∙ c.requires.beside.ticket) in
    let all = entered_rows one runs runs _ c.args.book.now None c.spend.new.self c.spend.ensures.runs c.spend.ensures.spent
    (entered_alone runs bindings c.args.book.now one c.requires.sound c.requires.waits none c.requires.beside) in
    record {
      displaced = all.displaced;
      to_stop = gone ∙ all.stops;
      kept = all.kept;
      due = subst (λ (rs : List RunState). AreMarked (is_due rs) rs c.args.due.now) (sym c.spend.ensures.runs) c.requires.due;
      sound = all.sound;
      group = all.group;
      len = all.len;
    }

-- in a group
pub returns : goal.returns
returns c =
    let runs = c.args.rows.now.runs in
    let bindings = c.args.rows.now.bindings in
    let one = c.args.newcomer.now in
    let g = c.in_ok-group.group in
    let its : group_at runs one ≡ Some g = sym (c.in_ok-group.ensures.ticket ∙ c.requires.beside.ticket) in
    let arrival = c.arrive-arrival in
    let displaced = arrival.result.displaced in
    let flag = its_flag runs bindings one g c.cancels-cancels.result (c.requires.beside.told.groups one (there_if_waits runs one c.requires.waits)) its
    c.cancels-cancels.ensures in
    let is_next : c.displace.new.rows.runs ≡ stopped_if displaced runs =
    c.displace.ensures.runs ∙ ap (λ (rs : List RunState). stopped_if displaced rs) c.spend.ensures.runs in
    let all = entered_rows one runs (stopped_if displaced runs) _ arrival.new.self arrival.result.to_stop c.displace.new.rows is_next
    (c.displace.ensures.bindings ∙ c.spend.ensures.spent)
    (entered_in_group runs bindings c.args.book.now arrival.new.self one g c.requires.sound c.requires.waits its c.requires.beside
    arrival.ensures.slots arrival.ensures.expected displaced arrival.ensures.displaced c.cancels-cancels.result flag arrival.result.to_stop
    arrival.ensures.to_stop) in
    let due = due_displaced runs displaced c.args.due.now c.displace.new.due c.requires.sound
    (λ h at. displaced_waits runs bindings c.args.book.now one g h c.requires.beside (sym arrival.ensures.displaced ∙ at)) c.displace.ensures.marks
    c.displace.ensures.marked c.displace.ensures.len c.requires.due in
    record {
      displaced = all.displaced;
      to_stop = all.stops;
      kept = all.kept;
      due = subst (λ (rs : List RunState). AreMarked (is_due rs) rs c.displace.new.due) (sym is_next) due;
      sound = all.sound;
      group = all.group;
      len = all.len;
    }
