use Rattle.std.proofs.Common.{◌≤◌, arith, rules}
use Rattle.std.proofs.lemmas.Bool.Decides.{Decides-like}
use Rattle.table_model.proofs.OneAfterAnother.{no, not_so}
use Rattle.stored_tables.proofs.SoundOneByOne.{each_leg, each_run, each_runner, to_sound}
use Rattle.stored_tables.proofs.sound.is_sound.Goals as goal

pub returns-then-leases-gt-LAST_NUMBER-clause-sound : goal.returns-then-leases-gt-LAST_NUMBER-clause-sound
returns-then-leases-gt-LAST_NUMBER-clause-sound c = no (λ s. let le = s.last_lease_in_range in omega arith)

pub returns-then-not-are_legs_sound-clause-sound : goal.returns-then-not-are_legs_sound-clause-sound
returns-then-not-are_legs_sound-clause-sound c =
    no (λ s. not_so c.are_legs_sound.result c.are_legs_sound.ensures (search rules)
    (each_leg c.args.leases.now c.args.forgotten.now c.args.runs.now c.args.runners.now c.requires.legs c.requires.held s))

pub returns-then-not-are_runs_sound-clause-sound : goal.returns-then-not-are_runs_sound-clause-sound
returns-then-not-are_runs_sound-clause-sound c =
    no (λ s. not_so c.are_runs_sound.result c.are_runs_sound.ensures (search rules)
    (each_run c.args.leases.now c.args.forgotten.now c.args.runs.now c.args.runners.now c.requires.legs c.requires.held s))

pub returns-then-not-are_runners_sound-clause-sound : goal.returns-then-not-are_runners_sound-clause-sound
returns-then-not-are_runners_sound-clause-sound c =
    no (λ s. not_so c.are_runners_sound.result c.are_runners_sound.ensures (search rules)
    (each_runner c.args.leases.now c.args.forgotten.now c.args.runs.now c.args.runners.now c.requires.legs c.requires.held s))

pub returns-then-not-do_deliveries_differ-clause-sound : goal.returns-then-not-do_deliveries_differ-clause-sound
returns-then-not-do_deliveries_differ-clause-sound c =
    no (λ s. not_so c.do_deliveries_differ.result c.do_deliveries_differ.ensures (search rules) s.deliveries_differ)

pub returns-clause-sound : goal.returns-clause-sound
returns-clause-sound c =
    let leases = c.args.leases.now in
    let runs = c.args.runs.now in
    let runners = c.args.runners.now in
    let last : leases.last ≤ 999999999 = omega arith in
    let legs = c.are_legs_sound.ensures.0 (search rules) in
    let each = c.are_runs_sound.ensures.0 (search rules) in
    let each_of_runners = c.are_runners_sound.ensures.0 (search rules) in
    let differ = c.do_deliveries_differ.ensures.0 (search rules) in
    Decides-like c.are_at_rest.result
    (λ rests. to_sound leases c.args.forgotten.now runs runners c.requires.legs c.requires.held legs each each_of_runners c.requires.fit c.requires.last c.requires.planned c.requires.ids
    c.requires.numbers c.requires.rise c.requires.kept last c.requires.groups rests differ)
    (λ s. s.no_rule_applies) c.are_at_rest.ensures.rest
