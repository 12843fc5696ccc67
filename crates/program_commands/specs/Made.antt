-- The output of `acts init`, and how it ends. This is defined by this project.
use Rattle.std.specs.Prelude.{◌≡◌, ◌⊎◌, ℕ, List, [], ◌∷◌, ◌++◌, codes, Result, Ok, Err}
use Rattle.wf_value.specs.declared.refusal.Refusal.{Refusal}
use Rattle.act_disk.specs.Failed.{device_failed, stream_failed}
use Rattle.act_store.specs.Plain.{disk_not_empty}

-- `made` and a line feed
abbrev pub made_line : List ℕ
made_line = codes "made" ++ 10 ∷ []

-- How the making of a store on a disk of this size ends, and what it has written by then. A disk that is not empty is
-- refused with 55; otherwise the device or the output may fail.
abbrev pub Makes : {U : Type 0} → ℕ → List ℕ → Result U Refusal → Type 0
Makes size out (Ok u) = (size ≡ 0) × (out ≡ made_line)
Makes size out (Err e) =
    ((size ≡ 0 → ⊥) × (e ≡ disk_not_empty) × (out ≡ []))
    ⊎ (((size ≡ 0) × (e ≡ device_failed) × (out ≡ [])) ⊎ ((size ≡ 0) × (e ≡ stream_failed) × (rest : List ℕ) × (out ++ rest ≡ made_line)))
