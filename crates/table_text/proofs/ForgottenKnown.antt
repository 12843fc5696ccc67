-- What is kept of forgotten runs can be encoded, and which texts are names.
use Rattle.std.specs.Prelude.{◌≡◌, ℕ, ◌≤◌, List, [], ◌∷◌, length, sum_by, if◌then◌else◌, Bool, true, false, Some, None, Result, Ok, Err, OnOk, refl}
use Rattle.std.specs.List.{AllByRecursion}
use Rattle.std.specs.Str.{IsUtf8, is_utf8}
use Rattle.std.proofs.Common.{arith, ap}
use Rattle.std.proofs.lemmas.Bool.{le-leb}
use Rattle.std.proofs.lemmas.List.Sums.{sum_by-cons}
use Rattle.std.proofs.lemmas.Str.{IsUtf8-from_is_utf8, is_utf8-from_IsUtf8}
use Rattle.definitions.specs.SmallText.{is_delivery_byte}
use Rattle.command_encodings.specs.Commands.{small_text}
use Rattle.command_encodings.specs.inner.Reading.{kept}
use Rattle.table_model.specs.Forgotten.{ForgottenRuns, WorkflowCount}
use Rattle.table_model.specs.Sound.{ForgottenFit}
use Rattle.table_text.specs.Tables.{count, forgotten}

-- ---- counts

-- as each count is of a run, there are no more of them than forgotten runs
no_more_counts : (counts : List WorkflowCount) → AllByRecursion (λ count. 1 ≤ count.runs) counts
    → length counts ≤ sum_by (λ count. count.runs) counts
no_more_counts [] each = omega arith
no_more_counts (c ∷ counts) each =
    let sum = sum_by-cons (λ (x : WorkflowCount). x.runs) c counts in
    let rest = no_more_counts counts each.1 in
    omega (arith, each.0, sum, rest)

pub few_counts : (f : ForgottenRuns) → f.through ≤ 999999999 → ForgottenFit f → length f.counts ≤ 999999999
few_counts f low fit =
    let few = no_more_counts f.counts fit.each_counts in
    let all = fit.all_counted in omega (arith, few, all, low)

pub forgotten_takes : (f : ForgottenRuns) → f.through ≤ 999999999 → ForgottenFit f → AllByRecursion count.Takes f.counts
    → AllByRecursion (small_text is_delivery_byte).Takes f.deliveries → forgotten.Takes f
forgotten_takes f low fit counts deliveries =
    let few = few_counts f low fit in (
      (omega (arith, low), le-leb f.through 999999999 low),
      ((omega arith, omega (arith, few), counts), (fit.last_are_kept, deliveries)),
    )

-- ---- names

pub name_kept : (bytes : List ℕ) → IsUtf8 bytes → kept is_utf8 bytes ≡ Some bytes
name_kept bytes is = ap (λ (b : Bool). if b then Some bytes else None) (is_utf8-from_IsUtf8 bytes is)

pub no_name : (bytes : List ℕ) → (IsUtf8 bytes → ⊥) → kept is_utf8 bytes ≡ None
no_name bytes not_so =
    elim (is_utf8 bytes) as (λ b. is_utf8 bytes ≡ b → (if b then Some bytes else None) ≡ None) [
      | true ↦ λ is. absurd (not_so (IsUtf8-from_is_utf8 bytes is))
      | false ↦ λ is. refl
    ] refl

-- ---- what holds if a call succeeds

pub on_ok : {T E P : Type 0} (r : Result T E) → P → OnOk r P
on_ok (Ok x) p = p
on_ok (Err e) p = tt

pub on_ok_then : {T E P Q : Type 0} (r : Result T E) → OnOk r P → (P → Q) → OnOk r Q
on_ok_then (Ok x) p f = f p
on_ok_then (Err e) p f = tt
