use Rattle.std.specs.Prelude.{◌≡◌, ◌<◌, ◌+◌, ◌∷◌, ◌++◌, [], ℕ, zero, suc, List, drop, length, map, slice_set, take, refl}
use Rattle.std.proofs.Common.{arith, ap, ap₂, get_or, sym, ◌∙◌}
use Rattle.table_model.specs.Step.{runner_through}
use Rattle.table_model.specs.TableState.{RunnerState}
use Rattle.run_table.proofs.runners.forget_leases_of.Goals as goal

module _ {X : Type 0} (f : X → X) where
  at_start : (xs : List X) → map f (take 0 xs) ++ drop 0 xs ≡ xs
  at_start [] = refl
  at_start (x ∷ xs) = refl

  -- one more is changed
  one_more : (xs : List X) (i : ℕ) (x : X) → i < length xs → x ≡ get_or (map f (take i xs) ++ drop i xs) i x
      → slice_set (map f (take i xs) ++ drop i xs) i (f x) ≡ map f (take (i + 1) xs) ++ drop (i + 1) xs
  one_more [] i x lt is = absurd (omega (arith, lt))
  one_more (y ∷ ys) zero x lt is = ap (λ z. f z ∷ ys) is ∙ ap (λ l. f y ∷ l) (sym (at_start ys))
  one_more (y ∷ ys) (suc i) x lt is =
      let at : suc i + 1 ≡ suc (i + 1) = omega arith in
      ap (λ l. f y ∷ l) (one_more ys i x (omega (arith, lt)) is)
      ∙ sym (ap (λ n. map f (take n (y ∷ ys)) ++ drop n (y ∷ ys)) at)

pub loop-i-preserved : goal.loop-i-preserved
loop-i-preserved c =
    let xs = c.args.runners.now.items in
    let i = c.loop-i.i in
    let x = c.index_mut-runner.result.now in
    let value : x ≡ get_or c.loop-i.runners.items i x = c.index_mut-runner.ensures.value in
    ap₂ (λ (rs : List RunnerState) (r : RunnerState). slice_set rs i r) c.loop-i.invariant c.forget_lease.ensures
    ∙ one_more (runner_through c.args.through) xs i x (omega (arith, c.loop-i-test.true, c.len-i-end.ensures))
    (value ∙ ap (λ (rs : List RunnerState). get_or rs i x) c.loop-i.invariant)
