-- The runs of a table that was stored are added one after the other.
use Rattle.std.specs.Prelude.{◌≡◌, ◌<◌, ◌≤◌, ◌++◌, ◌∷◌, [], ℕ, List, length, true, Option, option_and_then, slice_get, is_some}
use Rattle.std.proofs.Common.{arith, ap, inl, inr, sym, ◌∙◌}
use Rattle.std.proofs.lemmas.Bool.{cases_eq}
use Rattle.group_book.specs.Books.{BookState}
use Rattle.table_model.specs.Groups.{group_at}
use Rattle.table_model.specs.Holders.{run_of}
use Rattle.table_model.specs.Runs.{JobState, RunState}
use Rattle.table_model.specs.declared.holder.Holder.{Holder}
use Rattle.table_model.specs.declared.holder.Holder.TheVariants.{Run, Leg}
use Rattle.table_model.proofs.Found.{before_the_end}
use Rattle.table_bindings.specs.GroupKeys.{holder_key, ticket_in}
use Rattle.table_bindings.specs.declared.bindings.RunBindings.{RunBindings}
use Rattle.table_runs.specs.inner.Begun.{HaveTickets}
use Rattle.table_runs.specs.inner.GroupsKept.{AreTold, arrivals_to_come, is_there}
use Rattle.table_runs.specs.inner.RowsKept.{RowState}
use Rattle.table_runs.specs.inner.Seating.{AreStored}
use Rattle.table_runs.proofs.HoldersThere.{within_there}
use Rattle.settling_laws.proofs.GroupStays.{same_group}

-- a holder of an earlier run is as it was
there_before : (runs : List RunState) (y : RunState) (h : Holder) → (run_of h ≡ length runs → ⊥)
    → is_there (runs ++ y ∷ []) h ≡ is_there runs h
there_before runs y (Run r) other = ap is_some (before_the_end runs y r other)
there_before runs y (Leg p) other =
    ap (λ (o : Option RunState). is_some (option_and_then (λ (job : JobState). slice_get job.legs p.leg)
    (option_and_then (λ (x : RunState). slice_get x.jobs p.job) o)))
    (before_the_end runs y p.run other)

-- it is in the same group
pub group_before : (runs : List RunState) (y : RunState) (h : Holder) → is_there runs h ≡ true → group_at (runs ++ y ∷ []) h ≡ group_at runs h
group_before runs y h there =
    let within = within_there runs h there in
    same_group runs (runs ++ y ∷ []) h (before_the_end runs y (run_of h) (λ e. absurd (omega (arith, within, e))))

pub one_more_stored : (run : RunState) (was now : RowState) (old new : BookState Holder) → AreStored was old
    → now.runs ≡ was.runs ++ run ∷ []
    → (AreTold was.runs was.bindings → AreTold now.runs now.bindings) → HaveTickets (length was.runs) now.runs now.bindings
    → ((k : ℕ) → k < length was.runs → slice_get now.bindings k ≡ slice_get was.bindings k)
    → (arrivals_to_come was.bindings ≤ old.expected → arrivals_to_come now.bindings ≤ new.expected)
    → AreStored now new
one_more_stored run was now old new stored added told tickets older expected = record {
  told = told stored.told;
  keys = λ h there.
      elim (cases_eq (run_of h) (length was.runs)) [
        | inl here ↦ tickets h here there
        | inr other ↦
            let before : is_there was.runs h ≡ true =
            sym (there_before was.runs run h other) ∙ ap (λ rs. is_there rs h) (sym added) ∙ there in
            ap (λ o. option_and_then ticket_in (option_and_then (λ (kept : RunBindings). holder_key kept.keys h) o))
            (older (run_of h) (within_there was.runs h before))
            ∙ stored.keys h before
            ∙ sym (ap (λ rs. group_at rs h) added ∙ group_before was.runs run h before)
      ];
  expected = expected stored.expected;
}
