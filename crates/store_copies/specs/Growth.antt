-- A store that is copied into a file with areas of another length.
use Rattle.std.specs.Prelude.{◌≡◌, ℕ, List, [], ◌∷◌, ◌++◌, codes, if◌then◌else◌, Result, Ok, Err, ⊤}
use Rattle.wf_value.specs.declared.refusal.Refusal.{Refusal}
use Rattle.act_disk.specs.Failed.{stream_failed}
use Rattle.table_model.specs.TableState.{TableState}
use Rattle.act_store.specs.Images.{RecoversTo}
use Rattle.act_store.specs.Plain.{area_full}
use Rattle.store_copies.specs.Copies.{fits}

-- all of the old images and all of the new ones recover to one table
pub record RecoverAlike (old new : List ℕ → Type 0) : Type 0 where
  pub table : TableState
  pub of_old : (c : List ℕ) → old c → RecoversTo table c
  pub of_new : (c : List ℕ) → new c → RecoversTo table c

-- whether the text of a table fits an area of this length: else 47
abbrev pub area_fits : ℕ → TableState → Result (Unit {0}) Refusal
area_fits area t = if fits area t then Ok tt else Err area_full

-- the copy is made: all is well, or what failed is the line that says so
abbrev pub IsGrown : {U : Type 0} → Result U Refusal → Type 0
IsGrown (Ok u) = ⊤
IsGrown (Err e) = e ≡ stream_failed

-- `grown` and a line feed
abbrev pub grown_line : List ℕ
grown_line = codes "grown" ++ 10 ∷ []
