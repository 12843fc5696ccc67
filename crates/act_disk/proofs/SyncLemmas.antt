-- A sync by the system.
use Rattle.std.proofs.Common.{◌≡◌, ⊎_elim, ℕ, List, ◌∷◌, IsTrue, refl, sym, subst, Result, Ok, Err, OnOk, OnErr, is_ok}
use Rattle.definitions.specs.Disk.{Only}
use Rattle.act_disk.specs.SystemCalls.{FileCall, Synced, SyncFailed, is_sound, contents, MayLeave}
use Rattle.act_disk.specs.inner.SystemLaws.{contents_left}
use Rattle.act_disk.specs.inner.FileCalls.{MayHaveFailed, Passed}
use Rattle.act_disk.proofs.WriteLemmas.{passed_none, passed_one}

-- a consequence of two facts at `Ok`, carried to another result of the same case
pub both_at_ok : {T E T' E' P Q R : Type 0} (r : Result T E) (s : Result T' E') → is_ok s ≡ is_ok r → OnOk r P → OnOk r Q → (P → Q → R)
    → OnOk s R
both_at_ok (Ok x) (Ok y) same p q f = f p q
both_at_ok (Ok x) (Err d) same p q f = absurd (cc same)
both_at_ok (Err e) (Ok y) same p q f = absurd (cc same)
both_at_ok (Err e) (Err d) same p q f = tt

module _ (left : List ℕ → Type 0) (held : List ℕ) where
  pub synced_only : left held → (old new : List FileCall) → new ≡ Synced ∷ old → IsTrue (is_sound old)
      → Only (contents held old) (MayLeave left held new)
  synced_only here old new noted sound =
      subst (λ (calls : List FileCall). Only (contents held old) (MayLeave left held calls)) (sym noted)
      (λ c. (
        (λ now. now.1 sound),
        (λ same. subst (λ (l : List ℕ). MayLeave left held (Synced ∷ old) l) (sym same) (contents_left left held here old, λ _. refl)),
      ))

  sync_broke : (old new : List FileCall) → MayHaveFailed SyncFailed old new → Passed left held old new
  sync_broke old new failed =
      ⊎_elim (λ none. subst (λ (l : List FileCall). Passed left held old l) (sym none) (passed_none left held old))
      (λ one. subst (λ (l : List FileCall). Passed left held old l) (sym one) (passed_one left held SyncFailed old)) failed

  pub sync_passed : {T E : Type 0} (r : Result T E) (old new : List FileCall) → OnOk r (new ≡ Synced ∷ old)
      → OnErr r (MayHaveFailed SyncFailed old new) → Passed left held old new
  sync_passed (Ok x) old new ok err = subst (λ (l : List FileCall). Passed left held old l) (sym ok) (passed_one left held Synced old)
  sync_passed (Err e) old new ok err = sync_broke old new err
