-- The table after one more command.
use Rattle.std.proofs.Common.{◌≡◌, ℕ, zero, suc, ◌+◌, ◌<◌, List, [], ◌∷◌, length, take, get_or, refl, ap, ◌∙◌, sym, arith}
use Rattle.std.specs.Prelude.{Result, Ok, Err}
use Rattle.wf_value.specs.Gives.{Gives}
use Rattle.wf_value.specs.declared.refusal.Refusal.{Refusal}
use Rattle.run_plan.specs.declared.command.Command.{Command}
use Rattle.run_plan.specs.declared.reply.Reply.{Reply}
use Rattle.table_model.specs.Step.{after, step, stepped}
use Rattle.table_model.specs.TableState.{TableState}

after_next : (t : TableState) (cs : List Command) (i : ℕ) (d : Command) → i < length cs
    → after t (take (suc i) cs) ≡ (stepped (after t (take i cs)) (get_or cs i d)).table
after_next t [] i d below = absurd (omega (arith, below))
after_next t (c ∷ cs) zero d below = refl
after_next t (c ∷ cs) (suc i) d below = after_next (stepped t c).table cs i d (omega (arith, below))

after_one_more : (t : TableState) (cs : List Command) (i : ℕ) (d : Command) → i < length cs
    → after t (take (i + 1) cs) ≡ (stepped (after t (take i cs)) (get_or cs i d)).table
after_one_more t cs i d below =
    let next : i + 1 ≡ suc i = omega arith in ap (λ (n : ℕ). after t (take n cs)) next ∙ after_next t cs i d below

-- the table of a step that was given
abbrev table_in : Result (TableState × Reply) Refusal → TableState → TableState
table_in (Ok given) other = given.0
table_in (Err e) other = other

pub after_step : (first old new : TableState) (cs : List Command) (i : ℕ) (d c : Command) (r : Reply) → i < length cs
    → old ≡ after first (take i cs) → c ≡ get_or cs i d → Gives (λ (x : Reply). (new, x)) (Ok r) (Ok (step old c))
    → new ≡ after first (take (i + 1) cs)
after_step first old new cs i d c r below so_far is given =
    sym (ap (λ (x : Result (TableState × Reply) Refusal). table_in x new) given)
    ∙ ap (λ (t : TableState). (stepped t c).table) so_far
    ∙ ap (λ (x : Command). (stepped (after first (take i cs)) x).table) is
    ∙ sym (after_one_more first cs i d below)
