use Rattle.std.specs.Prelude.{◌≡◌, ◌<◌, ◌≤◌, ◌+◌, ℕ, List, length, Bool, true, false}
use Rattle.std.specs.List.{prefix_len}
use Rattle.std.proofs.Common.{arith, ap, rules, sym, ◌∙◌, get_or, inl, inr}
use Rattle.std.proofs.lemmas.Bool.{cases_eq, true≢false}
use Rattle.std.proofs.lemmas.List.Sums.{prefix_len-le-length, prefix_len_passes, prefix_len_stops}
use Rattle.table_model.specs.Step.{is_forgettable}
use Rattle.run_table.proofs.table_data.forgetting.forgettable.Goals as goal

-- the first that fails the test ends the prefix
ends : {X : Type 0} (test : X → Bool) (xs : List X) (r : ℕ) (x : X) → r ≤ prefix_len test xs → x ≡ get_or xs r x → test x ≡ false
    → r ≡ prefix_len test xs
ends test xs r x le is fails =
    elim (cases_eq r (prefix_len test xs)) [
      | inl same ↦ same
      | inr other ↦
          let passes = prefix_len_passes test xs r x (omega (arith, le, other)) in
          absurd (true≢false (sym passes ∙ ap test (sym is) ∙ fails))
    ]

-- one that passes is in it
goes_on : {X : Type 0} (test : X → Bool) (xs : List X) (r : ℕ) (x : X) → r ≤ prefix_len test xs → r < length xs → x ≡ get_or xs r x
    → test x ≡ true → r + 1 ≤ prefix_len test xs
goes_on test xs r x le lt is passes =
    elim (cases_eq r (prefix_len test xs)) [
      | inl same ↦
          let fails = prefix_len_stops test xs x (omega (arith, lt, same)) in
          let at : get_or xs (prefix_len test xs) x ≡ x = ap (λ n. get_or xs n x) (sym same) ∙ sym is in
          absurd (true≢false (sym passes ∙ ap test (sym at) ∙ fails))
      | inr other ↦ omega (arith, le, other)
    ]

pub loop-r-init : goal.loop-r-init
loop-r-init c = omega arith

pub returns-then-not-is_forgettable : goal.returns-then-not-is_forgettable
returns-then-not-is_forgettable c =
    let fails : c.is_forgettable.result ≡ false = search rules in
    ends (is_forgettable c.args.id) c.args.runs.now c.loop-r.r c.index-runs-r.result c.loop-r.invariant c.index-runs-r.is
    (sym c.is_forgettable.ensures ∙ fails)

pub loop-r-preserved : goal.loop-r-preserved
loop-r-preserved c =
    let passes : c.is_forgettable.result ≡ true = search rules in
    goes_on (is_forgettable c.args.id) c.args.runs.now c.loop-r.r c.index-runs-r.result c.loop-r.invariant (omega arith) c.index-runs-r.is
    (sym c.is_forgettable.ensures ∙ passes)

pub returns : goal.returns
returns c =
    let most = prefix_len-le-length (is_forgettable c.args.id) c.args.runs.now in
    let there = c.loop-r.invariant in
    omega (arith, most, there)
