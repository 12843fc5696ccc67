-- The keys of a run's jobs are changed in place, so that there are as many as before.
use Rattle.std.specs.Prelude.{◌≡◌, ℕ, zero, suc, List, [], ◌∷◌, length, refl}
use Rattle.std.proofs.Common.{subst, ◌∙◌}
use Rattle.std.proofs.lemmas.Option.{same_Some}
use Rattle.table_model.specs.Runs.{changed_at}
use Rattle.table_model.specs.declared.holder.Holder.{Holder}
use Rattle.table_model.specs.declared.holder.Holder.TheVariants.{Run, Leg}
use Rattle.table_model.proofs.Changed.{length-changed_at}
use Rattle.table_bindings.specs.GroupKeys.{spent}
use Rattle.table_bindings.specs.declared.bindings.RunBindings.{RunBindings}
use Rattle.table_bindings.specs.declared.group_keys.HolderKey.{HolderKey}
use Rattle.table_model.specs.Holders.{run_of}
use Rattle.table_bindings.specs.GroupKeys.{with_spent}
use Rattle.table_runs.specs.inner.GroupsKept.{AreShaped}
use Rattle.table_runs.specs.inner.RowsKept.{keys_spent}

abbrev IsShaped : RunBindings → Type 0
IsShaped b = length b.keys.jobs ≡ length b.jobs

first_then : (b : RunBindings) (bs : List RunBindings) → IsShaped b → AreShaped bs → AreShaped (b ∷ bs)
first_then b bs one later zero kept at = subst IsShaped (same_Some b kept at) one
first_then b bs one later (suc r) kept at = later r kept at

pub shaped_changed : (f : RunBindings → RunBindings) → ((b : RunBindings) → IsShaped b → IsShaped (f b)) → (i : ℕ) (bs : List RunBindings)
    → AreShaped bs → AreShaped (changed_at i f bs)
shaped_changed f keeps i [] shaped = shaped
shaped_changed f keeps zero (b ∷ bs) shaped = first_then (f b) bs (keeps b (shaped zero b refl)) (λ r kept at. shaped (suc r) kept at)
shaped_changed f keeps (suc i) (b ∷ bs) shaped =
    first_then b (changed_at i f bs) (shaped zero b refl) (shaped_changed f keeps i bs (λ r kept at. shaped (suc r) kept at))

-- one of them has brought its key
spent_is_shaped : (h : Holder) (b : RunBindings) → IsShaped b → IsShaped (record b { keys = with_spent h b.keys })
spent_is_shaped (Run r) b is = is
spent_is_shaped (Leg p) b is = length-changed_at p.job (λ (legs : List HolderKey). changed_at p.leg spent legs) b.keys.jobs ∙ is

pub shaped_spent : (h : Holder) (bindings : List RunBindings) → AreShaped bindings → AreShaped (keys_spent h bindings)
shaped_spent h bindings shaped =
    shaped_changed (λ (b : RunBindings). record b { keys = with_spent h b.keys }) (spent_is_shaped h) (run_of h) bindings shaped
