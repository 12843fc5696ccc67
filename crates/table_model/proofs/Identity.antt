-- What a run has for good: its id, its number and its event.
use Rattle.std.specs.Prelude.{◌≡◌, ℕ, List, Option, Some, None, option_map, refl}
use Rattle.std.specs.Option.{option_map_or}
use Rattle.std.proofs.Common.{ap, sym, ◌∙◌}
use Rattle.definitions.specs.SmallText.{Admitted}
use Rattle.table_model.specs.LegContext.{id_at}
use Rattle.table_model.specs.Runs.{run_at, RunState}
use Rattle.table_model.proofs.RunFits.{admitted_at}

pub record Identity : Type 0 where
  pub id : ℕ
  pub number : ℕ
  pub admitted : Admitted

abbrev pub identity_of : RunState → Identity
identity_of run = record { id = run.id; number = run.number; admitted = run.admitted }

abbrev pub identity_in : Option RunState → Option Identity
identity_in o = option_map identity_of o

abbrev pub identity_at : List RunState → ℕ → Option Identity
identity_at runs r = identity_in (run_at runs r)

part_of : {X : Type 0} (f : Identity → X) (o : Option RunState)
    → option_map f (identity_in o) ≡ option_map (λ (run : RunState). f (identity_of run)) o
part_of f None = refl
part_of f (Some x) = refl

pub same_admitted : (runs next : List RunState) (r : ℕ) → identity_at next r ≡ identity_at runs r → admitted_at next r ≡ admitted_at runs r
same_admitted runs next r same =
    let admitted : Identity → Admitted = λ i. i.admitted in
    sym (part_of admitted (run_at next r)) ∙ ap (option_map admitted) same ∙ part_of admitted (run_at runs r)

its_id : (o : Option RunState) → option_map_or (λ (i : Identity). i.id) (identity_in o) 0 ≡ option_map_or (λ (run : RunState). run.id) o 0
its_id None = refl
its_id (Some x) = refl

pub same_id : (runs next : List RunState) (r : ℕ) → identity_at next r ≡ identity_at runs r → id_at next r ≡ id_at runs r
same_id runs next r same =
    sym (its_id (run_at next r)) ∙ ap (λ o. option_map_or (λ (i : Identity). i.id) o 0) same ∙ its_id (run_at runs r)
