use Rattle.std.proofs.Common.{◌≡◌, arith, false, true, ap, sym, ◌∙◌, rules}
use Rattle.std.specs.Prelude.{option_map}
use Rattle.std.proofs.lemmas.Bool.{ltb-false, ltb-true}
use Rattle.std.proofs.lemmas.Option.{none-some}
use Rattle.table_model.specs.Runs.{RunState}
use Rattle.table_model.specs.LegContext.{planned_legs}
use Rattle.table_model.proofs.OneAfterAnother.{no}
use Rattle.stored_tables.proofs.PartsRead.{may_have, present_decides}
use Rattle.stored_tables.proofs.leased.Leased.is_of_a_leg.Goals as goal

pub returns-in_default : goal.returns-in_default
returns-in_default c = no (λ of.
    let may = may_have c.args.self.now.last c.args.self.now.forgotten.now c.args.self.now.runs.now c.requires.ids c.args.attempt c.args.site c.args.lease of in
    none-some may.run.attempt (sym c.in_default.is ∙ c.attempt_of.ensures ∙ ap (option_map (λ (x : RunState). x.attempt)) may.run_is))

pub returns-then-not-is_planned : goal.returns-then-not-is_planned
returns-then-not-is_planned c =
    let most = planned_legs c.args.self.now.runs.now c.args.site.run c.args.site.job in
    let fails : c.is_planned.result ≡ false = search rules in
    let past = ltb-false c.args.site.leg most (sym c.is_planned.ensures ∙ fails) in
    no (λ of.
    let may = may_have c.args.self.now.last c.args.self.now.forgotten.now c.args.self.now.runs.now c.requires.ids c.args.attempt c.args.site c.args.lease of in
    let within = may.planned in
    omega (arith, past, within))

pub returns : goal.returns
returns c =
    let most = planned_legs c.args.self.now.runs.now c.args.site.run c.args.site.job in
    let holds : c.is_planned.result ≡ true = search rules in
    let within = ltb-true c.args.site.leg most (sym c.is_planned.ensures ∙ holds) in
    present_decides c.args.self.now.last c.args.self.now.forgotten.now c.args.self.now.runs.now c.requires.ids c.args.attempt c.args.site c.args.lease c.in-Some.present
    c.leg_has_lease.result c.in-Some.ensures within (search rules) c.requires.last (search rules)
    (sym c.get.ensures.value ∙ c.if-get.false ∙ c.get-2.ensures.value) c.leg_has_lease.ensures
