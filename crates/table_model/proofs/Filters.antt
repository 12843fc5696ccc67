-- What a filter keeps of a list, and what is found in it.
use Rattle.std.specs.Prelude.{◌≡◌, ℕ, zero, suc, ◌≤◌, List, [], ◌∷◌, length, filter, find, Bool, true, false, cond, Some, None, refl}
use Rattle.std.specs.List.{AllByRecursion, AllWithin}
use Rattle.std.proofs.Common.{arith, ap, sym, ◌∙◌}
use Rattle.std.proofs.lemmas.Bool.{true≢false}

module _ {X : Type 0} (test : X → Bool) where
  pub filter_keeps : (x : X) (xs : List X) → test x ≡ true → filter test (x ∷ xs) ≡ x ∷ filter test xs
  filter_keeps x xs e = ap (λ b. cond b (x ∷ filter test xs) (filter test xs)) e

  pub filter_drops : (x : X) (xs : List X) → test x ≡ false → filter test (x ∷ xs) ≡ filter test xs
  filter_drops x xs e = ap (λ b. cond b (x ∷ filter test xs) (filter test xs)) e

  pub filter_all : (xs : List X) → AllByRecursion (λ x. test x ≡ true) xs → filter test xs ≡ xs
  filter_all [] h = refl
  filter_all (x ∷ xs) h = filter_keeps x xs h.0 ∙ ap (λ ys. x ∷ ys) (filter_all xs h.1)

  pub filter_none : (xs : List X) → AllByRecursion (λ x. test x ≡ false) xs → filter test xs ≡ []
  filter_none [] h = refl
  filter_none (x ∷ xs) h = filter_drops x xs h.0 ∙ filter_none xs h.1

  pub all_filter : (P : X → Type 0) (xs : List X) → AllByRecursion P xs → AllByRecursion P (filter test xs)
  all_filter P [] h = tt
  all_filter P (x ∷ xs) h =
      elim (test x) as (λ b. AllByRecursion P (cond b (x ∷ filter test xs) (filter test xs))) [
        | true ↦ (h.0, all_filter P xs h.1)
        | false ↦ all_filter P xs h.1
      ]

  pub all_pass : (xs : List X) → AllByRecursion (λ x. test x ≡ true) (filter test xs)
  all_pass [] = tt
  all_pass (x ∷ xs) =
      elim (test x) as (λ b. test x ≡ b → AllByRecursion (λ y. test y ≡ true) (cond b (x ∷ filter test xs) (filter test xs))) [
        | true ↦ λ is. (is, all_pass xs)
        | false ↦ λ is. all_pass xs
      ] refl

  -- the elements before the index pass, and no later one does
  pub prefix_counted : (xs : List X) (i : ℕ) → i ≤ length xs → AllWithin (λ x. test x ≡ true) xs 0 i
      → AllWithin (λ x. test x ≡ false) xs i (length xs) → i ≡ length (filter test xs)
  prefix_counted [] i le pass fail = omega arith
  prefix_counted (x ∷ xs) zero le pass fail =
      prefix_counted xs zero (omega arith) (λ k d lo hi. absurd (omega arith)) (λ k d lo hi. fail (suc k) d (omega arith) (omega arith))
      ∙ ap length (sym (filter_drops x xs (fail zero x (omega arith) (omega arith))))
  prefix_counted (x ∷ xs) (suc i) le pass fail =
      ap suc (prefix_counted xs i (omega arith) (λ k d lo hi. pass (suc k) d (omega arith) (omega arith))
      (λ k d lo hi. fail (suc k) d (omega arith) (omega arith)))
      ∙ ap length (sym (filter_keeps x xs (pass zero x (omega arith) (omega arith))))

-- what a test finds, if another test keeps all that it takes, or none of it
module _ {X : Type 0} (test keep : X → Bool) where
  pub find_kept : ((x : X) → test x ≡ true → keep x ≡ true) → (xs : List X) → find test (filter keep xs) ≡ find test xs
  find_kept h [] = refl
  find_kept h (x ∷ xs) =
      elim (keep x) as (λ b. keep x ≡ b
      → find test (cond b (x ∷ filter keep xs) (filter keep xs)) ≡ cond (test x) (Some x) (find test xs)) [
        | true ↦ λ is. ap (cond (test x) (Some x)) (find_kept h xs)
        | false ↦ λ is. find_kept h xs ∙ sym (ap (λ b. cond b (Some x) (find test xs)) (not_taken x is))
      ] refl
    where
      not_taken : (x : X) → keep x ≡ false → test x ≡ false
      not_taken x lost =
          elim (test x) as (λ b. test x ≡ b → b ≡ false) [
            | true ↦ λ taken. absurd (true≢false (sym (h x taken) ∙ lost))
            | false ↦ λ _. refl
          ] refl

  pub find_gone : ((x : X) → test x ≡ true → keep x ≡ false) → (xs : List X) → find test (filter keep xs) ≡ None
  find_gone h [] = refl
  find_gone h (x ∷ xs) =
      elim (keep x) as (λ b. keep x ≡ b → find test (cond b (x ∷ filter keep xs) (filter keep xs)) ≡ None) [
        | true ↦ λ is. ap (λ b. cond b (Some x) (find test (filter keep xs))) (not_taken x is) ∙ find_gone h xs
        | false ↦ λ is. find_gone h xs
      ] refl
    where
      not_taken : (x : X) → keep x ≡ true → test x ≡ false
      not_taken x held =
          elim (test x) as (λ b. test x ≡ b → b ≡ false) [
            | true ↦ λ taken. absurd (true≢false (sym held ∙ h x taken))
            | false ↦ λ _. refl
          ] refl
