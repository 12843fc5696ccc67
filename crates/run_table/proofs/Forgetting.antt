-- What `forget` makes of the parts of a table: it leaves them, or it drops the first runs.
use Rattle.std.specs.Prelude.{◌≡◌, ◌+◌, ◌≤◌, ℕ, drop, length, nat_eq, take, false, true, Bool, Some, None, if◌then◌else◌}
use Rattle.std.specs.Option.{option_map_or}
use Rattle.std.proofs.Common.{arith, ap, sym, subst, ◌∙◌}
use Rattle.std.proofs.lemmas.List.{length-take-le}
use Rattle.definitions.specs.Limits.{last_number}
use Rattle.run_plan.specs.declared.reply.Reply.TheVariants as reply
use Rattle.table_model.specs.Groups.{HasOneEach}
use Rattle.table_model.specs.Sound.{IsSound}
use Rattle.table_model.specs.Step.{forgettable, forgetting, forgot, outcome, unchanged, without}
use Rattle.table_model.specs.TableState.{TableState}
use Rattle.settling_laws.proofs.Dropped.{one_each_dropped}
use Rattle.settling_laws.proofs.ForgetKeepsSound.{first_within}

module _ (t : TableState) (id count : ℕ) (is : count ≡ forgettable t id) where
  pub forgets_within : count ≤ length t.runs
  forgets_within = subst (λ n. n ≤ length t.runs) (sym is) (first_within t id)

  -- no run is to be forgotten
  pub forgets_none : nat_eq count 0 ≡ true → outcome (forgot t id) ≡ (t, reply.Forgotten t.forgotten.through)
  forgets_none none =
      ap (λ (b : Bool).
      outcome (option_map_or (unchanged t) (if b then Some (reply.Forgotten t.forgotten.through) else None) (forgetting t id)))
      (ap (λ n. nat_eq n 0) (sym is) ∙ none)

  -- so many of the first runs are forgotten
  pub forgets_some : nat_eq count 0 ≡ false
      → outcome (forgot t id) ≡ (without count t, reply.Forgotten (without count t).forgotten.through)
  forgets_some some =
      ap (λ (b : Bool).
      outcome (option_map_or (unchanged t) (if b then Some (reply.Forgotten t.forgotten.through) else None) (forgetting t id)))
      (ap (λ n. nat_eq n 0) (sym is) ∙ some)
      ∙ ap (λ n. (without n t, reply.Forgotten (without n t).forgotten.through)) (sym is)

  -- the last of them has an id in range
  pub through_in_range : IsSound t → t.forgotten.through + length (take count t.runs) ≤ last_number
  through_in_range sound =
      let range = sound.last_id_in_range in
      let long = length-take-le count t.runs forgets_within in
      omega (arith, range, long, forgets_within)

-- each group still has at most one holder of each kind
pub one_each_without : (t : TableState) (count : ℕ) → IsSound t → HasOneEach (drop count t.runs)
one_each_without t count sound = one_each_dropped count t.runs sound.one_of_each_group
