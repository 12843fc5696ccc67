-- Runners whose kept leases of forgotten runs are over: names, numbers, last commands and held leases are the same.
use Rattle.std.specs.Prelude.{◌≡◌, ℕ, ◌&&◌, List, [], ◌∷◌, map, option_map, slice_get, Some, refl}
use Rattle.std.specs.Cmp.Lexicographic.{slice_cmp}
use Rattle.std.specs.Ordering.{is_lt, nat_cmp}
use Rattle.std.proofs.Common.{ap, subst, sym, ◌∙◌}
use Rattle.std.proofs.lemmas.Option.{slice_get-map}
use Rattle.run_plan.specs.declared.last_command.LastCommand.{LastCommand}
use Rattle.run_plan.specs.declared.last_command.LastCommand.TheVariants as last
use Rattle.table_model.specs.Sound.{HeldOnce, IsHeld, IsLastOf, LastsAreOwn}
use Rattle.table_model.specs.Step.{last_through, runner_through}
use Rattle.table_model.specs.TableState.{RunnerState, names_rise}
use Rattle.table_model.proofs.Optional.{Mapped, from_map}

own_through : (through : ℕ) (name : List ℕ) (number : ℕ) (kept : LastCommand) → IsLastOf name number kept
    → IsLastOf name number (last_through through kept)
own_through through name number (last.Claim claim given) own = own
own_through through name number (last.Done report) own = own

module _ (through : ℕ) (runners : List RunnerState) where
  pub runner_was : (k : ℕ) (x : RunnerState) → slice_get (map (runner_through through) runners) k ≡ Some x
      → Mapped (runner_through through) (slice_get runners k) x
  runner_was k x at =
      from_map (runner_through through) (slice_get runners k) x (sym (slice_get-map (runner_through through) runners k) ∙ at)

  pub held_through : (n : ℕ) → IsHeld runners n → IsHeld (map (runner_through through) runners) n
  held_through n (k, x, at, holds) =
      (k, runner_through through x, slice_get-map (runner_through through) runners k ∙ ap (option_map (runner_through through)) at, holds)

  pub held_once_through : HeldOnce runners → HeldOnce (map (runner_through through) runners)
  held_once_through once a b x y n at_a at_b holds_a holds_b =
      let u = runner_was a x at_a in
      let v = runner_was b y at_b in
      once a b u.value v.value n u.is v.is (ap (λ (w : RunnerState). w.holds) u.gives ∙ holds_a)
      (ap (λ (w : RunnerState). w.holds) v.gives ∙ holds_b)

  pub lasts_through : LastsAreOwn runners → LastsAreOwn (map (runner_through through) runners)
  lasts_through own k x at =
      let u = runner_was k x at in
      subst (λ (w : RunnerState). IsLastOf w.name w.number w.last) u.gives
      (own_through through u.value.name u.value.number u.value.last (own k u.value u.is))

pub names_through : (through : ℕ) (runners : List RunnerState) → names_rise (map (runner_through through) runners) ≡ names_rise runners
names_through through [] = refl
names_through through (x ∷ []) = refl
names_through through (x ∷ y ∷ ys) = ap (λ b. is_lt (slice_cmp nat_cmp x.name y.name) && b) (names_through through (y ∷ ys))
