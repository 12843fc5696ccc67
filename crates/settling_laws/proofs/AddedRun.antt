-- A run comes after all others: the holders before it keep their groups, and those that hold a group still do.
use Rattle.std.specs.Prelude.{◌≡◌, ℕ, ◌<◌, List, [], ◌∷◌, ◌++◌, length, Option, false}
use Rattle.std.specs.Option.{option_map_or}
use Rattle.std.proofs.Common.{arith, ap, sym, ◌∙◌}
use Rattle.std.proofs.lemmas.Option.{slice_get_within}
use Rattle.table_model.specs.Groups.{leg_holds}
use Rattle.table_model.specs.Runs.{is_live, RunState}
use Rattle.table_model.specs.declared.holder.Holder.TheVariants.{Run, Leg}
use Rattle.table_model.proofs.Found.{before_the_end}
use Rattle.table_model.proofs.JobKeeps.{leg_in}
use Rattle.settling_laws.proofs.GroupStays.{same_group}
use Rattle.settling_laws.proofs.HoldersFade.{by_run, passes, run_passes}
use Rattle.settling_laws.proofs.KeptBack.{StillHold}
use Rattle.settling_laws.proofs.OneEach.{GroupsStay, one_that_holds}

module _ (runs : List RunState) (added : RunState) where
  before_it : (r : ℕ) → r < length runs → r ≡ length runs → ⊥
  before_it r within is = absurd (omega (arith, within, is))

  pub groups_before : GroupsStay runs (runs ++ added ∷ [])
  groups_before (Run r) there =
      let within = slice_get_within runs r there.0 there.1 in
      same_group runs (runs ++ added ∷ []) (Run r) (before_the_end runs added r (before_it r within))
  groups_before (Leg p) there =
      let at = leg_in runs p there.0 there.1 in
      let within = slice_get_within runs p.run at.place.run at.place.run_is in
      same_group runs (runs ++ added ∷ []) (Leg p) (before_the_end runs added p.run (before_it p.run within))

  pub still_hold : StillHold runs (runs ++ added ∷ [])
  still_hold (Run r) g at held =
      let there = one_that_holds runs (Run r) held in
      let within = slice_get_within runs r there.0 there.1 in
      ap (λ (o : Option RunState). option_map_or (λ x. is_live x.phase) o false)
      (before_the_end runs added r (before_it r within)) ∙ held
  still_hold (Leg p) g at held =
      let there = one_that_holds runs (Leg p) held in
      let place = leg_in runs p there.0 there.1 in
      let within = slice_get_within runs p.run place.place.run place.place.run_is in
      by_run leg_holds (runs ++ added ∷ []) p
      ∙ ap (passes (run_passes leg_holds p.job p.leg)) (before_the_end runs added p.run (before_it p.run within))
      ∙ sym (by_run leg_holds runs p) ∙ held
