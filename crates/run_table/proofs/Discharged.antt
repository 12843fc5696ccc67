-- A table without a runner that holds no lease.
use Rattle.std.specs.Prelude.{◌≡◌, ℕ, List, [], ◌∷◌, filter, not, is_some, Bool, true, false, cond, Option, Some, None, option_and_then, slice_get}
use Rattle.std.specs.Prelude.{if◌then◌else◌, refl}
use Rattle.std.specs.List.{AllByRecursion}
use Rattle.std.specs.Option.{option_map_or}
use Rattle.std.specs.Str.{bytes_eq}
use Rattle.std.proofs.Common.{ap, sym, ◌∙◌, subst, inl, inr}
use Rattle.std.proofs.lemmas.Bool.{cases_Bool, true≢false}
use Rattle.std.proofs.lemmas.Slice.Eq.{bytes_eq-Decides}
use Rattle.wf_value.specs.declared.code.Code.TheVariants.{HasLease, NoRunner}
use Rattle.run_plan.specs.declared.reply.Reply.{Reply}
use Rattle.table_model.specs.Sound.{IsLastOf}
use Rattle.table_model.specs.Step.{discharge_answer, refused}
use Rattle.table_model.specs.TableState.{RunnerState, TableState, is_named, names_rise, runner_named, without_runner}
use Rattle.table_model.proofs.Filters.{all_filter, find_gone, find_kept}
use Rattle.table_model.proofs.Found.{each_at}
use Rattle.table_model.proofs.LeaseReads.{leases_same}
use Rattle.table_model.proofs.LegReads.{had_at, works_at}
use Rattle.run_table.proofs.Kept.{IsKept, KeptIsHad}
use Rattle.run_table.proofs.RunnerOrder.{rise_filtered}
use Rattle.run_table.proofs.RunnerPut.{all_from_each, holds_at}

-- what is so where a discharge is not answered yet
none_held : (o : Option RunnerState)
    → option_map_or (λ (runner : RunnerState). if is_some runner.holds then Some (refused HasLease) else None) o (Some (refused NoRunner)) ≡ None
    → (runner : RunnerState) × (o ≡ Some runner) × (runner.holds ≡ None)
none_held None none = absurd (cc none)
none_held (Some runner) none =
    elim (runner.holds) as (λ h. runner.holds ≡ h → (if is_some h then Some (refused HasLease) else None) ≡ None
    → (r : RunnerState) × (Some runner ≡ Some r) × (r.holds ≡ None)) [
      | None ↦ λ is due. (runner, refl, is)
      | Some lease ↦ λ is due. absurd (cc due)
    ] refl none

module _ (runners : List RunnerState) (name : List ℕ) where
  stays : RunnerState → Bool
  stays runner = not (is_named name runner)

  -- each runner that stays was there before
  each_left : (P : RunnerState → Type 0) → ((k : ℕ) (x : RunnerState) → slice_get runners k ≡ Some x → P x)
      → (k : ℕ) (x : RunnerState) → slice_get (without_runner runners name) k ≡ Some x → P x
  each_left P each k x at =
      each_at P (without_runner runners name) k x
      (all_filter (λ runner. not (is_named name runner)) P runners (all_from_each P runners each)) at

  -- the one that is dropped is no longer found
  found_gone : runner_named (without_runner runners name) name ≡ None
  found_gone = find_gone (is_named name) (λ runner. not (is_named name runner)) (λ x named. ap not named) runners

  -- each other is found as before
  found_left : (other : List ℕ) → (other ≡ name → ⊥) → runner_named (without_runner runners name) other ≡ runner_named runners other
  found_left other apart =
      find_kept (is_named other) (λ runner. not (is_named name runner)) (λ x named. ap not (not_it x named)) runners
    where
      not_it : (x : RunnerState) → is_named other x ≡ true → is_named name x ≡ false
      not_it x named =
          elim (is_named name x) as (λ b. is_named name x ≡ b → b ≡ false) [
            | true ↦ λ it.
                absurd (apart (sym ((bytes_eq-Decides x.name other).0 named) ∙ (bytes_eq-Decides x.name name).0 it))
            | false ↦ λ _. refl
          ] refl

  -- so each holds the lease that it held
  same_held : (x : RunnerState) → runner_named runners name ≡ Some x → x.holds ≡ None → (other : List ℕ)
      → holds_at (without_runner runners name) other ≡ holds_at runners other
  same_held x found none other =
      elim (cases_Bool (bytes_eq other name)) [
        | inl same ↦
            let it : other ≡ name = (bytes_eq-Decides other name).0 same in
            ap (holds_at (without_runner runners name)) it
            ∙ ap (option_and_then (λ (v : RunnerState). v.holds)) found_gone
            ∙ sym (ap (holds_at runners) it ∙ ap (option_and_then (λ (v : RunnerState). v.holds)) found ∙ none)
        | inr apart ↦
            ap (option_and_then (λ (v : RunnerState). v.holds))
            (found_left other (λ it. true≢false (sym ((bytes_eq-Decides other name).1 it) ∙ apart)))
      ]

pub discharge_keeps : (t : TableState) (name : List ℕ) → IsKept t → discharge_answer t name ≡ None
    → IsKept (record t { runners = without_runner t.runners name })
discharge_keeps t name s none =
    let (runner, found, holds) = none_held (runner_named t.runners name) none in
    record {
      identified = s.identified;
      attempts_are_given = s.attempts_are_given;
      fit = s.fit;
      parallel_bounded = s.parallel_bounded;
      agree = leases_same t.last_lease (had_at t.runs) (works_at t.runs) (had_at t.runs) (works_at t.runs) (holds_at t.runners)
          (holds_at (without_runner t.runners name)) (λ p. refl) (λ p. refl) (same_held t.runners name runner found holds) s.agree;
      last_lease_in_range = s.last_lease_in_range;
      runners_in_order = rise_filtered (λ r. not (is_named name r)) t.runners s.runners_in_order;
      lasts_are_own = each_left t.runners name (λ x. IsLastOf x.name x.number x.last) s.lasts_are_own;
      kept_are_had = each_left t.runners name (λ x. KeptIsHad t.last_lease t.runs x.last) s.kept_are_had;
    }
