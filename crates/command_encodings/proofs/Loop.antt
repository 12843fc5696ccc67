-- Reading consecutive values, as a loop does.
use Rattle.std.proofs.Common.{◌≡◌, ℕ, suc, ◌-◌, ◌+◌, ◌≤◌, ◌<◌, List, [], ◌∷◌, ◌++◌, sym, ◌∙◌, arith}
use Rattle.std.specs.Prelude.{Option, Some}
use Rattle.command_encodings.specs.declared.decode_error.DecodeError.{DecodeError}
use Rattle.command_encodings.specs.declared.decode_error.DecodeError.TheVariants.{NoMemory, NoEncoding}
use Rattle.command_encodings.specs.inner.Reading.{Reader, Fails, items_at, with_prefix}
use Rattle.command_encodings.proofs.Readers.{prefix_all, prefix_none, prefix_more}

pub goes_on : {A : Type 0} (at : Reader A) (prefix : List A) (count i : ℕ) (bytes : List ℕ) (x : A) (after : List ℕ)
    (total : Option (List A × List ℕ)) → i < count
    → at bytes ≡ Some (x, after) → with_prefix prefix (items_at at (count - i) bytes) ≡ total
    → with_prefix (prefix ++ x ∷ []) (items_at at (count - (i + 1)) after) ≡ total
goes_on at prefix count i bytes x after total below h so_far =
    let k : count - i ≡ suc (count - (i + 1)) = omega arith in
    sym (prefix_more at prefix (count - i) (count - (i + 1)) bytes x after k h) ∙ so_far

pub ends : {A : Type 0} (at : Reader A) (e : DecodeError) (prefix : List A) (count i : ℕ) (bytes : List ℕ) (total : Option (List A × List ℕ))
    → i < count
    → Fails e (at bytes) → with_prefix prefix (items_at at (count - i) bytes) ≡ total → Fails e total
ends at NoMemory prefix count i bytes total below h so_far = tt
ends at NoEncoding prefix count i bytes total below h so_far =
    let k : count - i ≡ suc (count - (i + 1)) = omega arith in
    sym so_far ∙ prefix_none at prefix (count - i) (count - (i + 1)) bytes k h

pub is_done : {A : Type 0} (at : Reader A) (prefix : List A) (count i : ℕ) (bytes : List ℕ) (total : Option (List A × List ℕ)) → count ≤ i
    → with_prefix prefix (items_at at (count - i) bytes) ≡ total → total ≡ Some (prefix, bytes)
is_done at prefix count i bytes total past so_far =
    let k : count - i ≡ 0 = omega arith in
    sym so_far ∙ prefix_all at prefix (count - i) bytes k
