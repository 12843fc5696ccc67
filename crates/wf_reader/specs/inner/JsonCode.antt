-- Encodings of JSON values, with which proofs decide equality. A value is encoded as the steps that build it on a stack.
use Rattle.std.specs.Prelude.{◌≡◌, ◌⊎◌, ℕ, zero, suc, ℤ, List, [], ◌∷◌, ◌++◌, Bool, Option, Some, None, refl}
use Rattle.std.specs.Float.{Float}
use Rattle.std.specs.Coded.{Coded, code_by, coded_ℕ, coded_ℤ, coded_bool, coded_list, coded⊎, coded_option}
use Rattle.std.proofs.Common.{inl, inr, ap, ◌∙◌}
use base.Stored.{coded_float}
use Rattle.serde_json.specs.Data.{Num, unsigned, negative, float, Data, null, boolean, number, string, array, object}
use Rattle.serde_json.specs.Data.{Items, no_items, item, Members, no_members, member}

-- ---- numbers

abbrev pub HeldNumber : Type 0
HeldNumber = ℕ ⊎ (ℤ ⊎ Float)

abbrev pub held_number : Num → HeldNumber
held_number (unsigned n) = inl n
held_number (negative z) = inr (inl z)
held_number (float x) = inr (inr x)

abbrev pub number_of : HeldNumber → Num
number_of (inl n) = unsigned n
number_of (inr (inl z)) = negative z
number_of (inr (inr x)) = float x

pub number_of-held_number : (n : Num) → number_of (held_number n) ≡ n
number_of-held_number (unsigned n) = refl
number_of-held_number (negative z) = refl
number_of-held_number (float x) = refl

abbrev pub coded_number : Coded Num
coded_number = code_by HeldNumber (coded⊎ coded_ℕ (coded⊎ coded_ℤ coded_float)) held_number number_of number_of-held_number

-- ---- steps

-- a step pushes a value, possibly an empty list or object, or moves the top value into the list or object below it
pub data Step : Type 0 where
  lay_null : Step
  lay_boolean : Bool → Step
  lay_number : Num → Step
  lay_string : List ℕ → Step
  lay_array : Step
  lay_object : Step
  put_item : Step
  put_member : List ℕ → Step

abbrev pub HeldStep : Type 0
HeldStep = Option (Bool ⊎ (Num ⊎ (List ℕ ⊎ (List ℕ ⊎ ℕ))))

abbrev pub held_step : Step → HeldStep
held_step lay_null = None
held_step (lay_boolean b) = Some (inl b)
held_step (lay_number n) = Some (inr (inl n))
held_step (lay_string t) = Some (inr (inr (inl t)))
held_step (put_member k) = Some (inr (inr (inr (inl k))))
held_step lay_array = Some (inr (inr (inr (inr 0))))
held_step lay_object = Some (inr (inr (inr (inr 1))))
held_step put_item = Some (inr (inr (inr (inr 2))))

abbrev plain_step : ℕ → Step
plain_step zero = lay_array
plain_step (suc zero) = lay_object
plain_step (suc (suc n)) = put_item

abbrev pub step_of : HeldStep → Step
step_of None = lay_null
step_of (Some (inl b)) = lay_boolean b
step_of (Some (inr (inl n))) = lay_number n
step_of (Some (inr (inr (inl t)))) = lay_string t
step_of (Some (inr (inr (inr (inl k))))) = put_member k
step_of (Some (inr (inr (inr (inr n))))) = plain_step n

pub step_of-held_step : (s : Step) → step_of (held_step s) ≡ s
step_of-held_step lay_null = refl
step_of-held_step (lay_boolean b) = refl
step_of-held_step (lay_number n) = refl
step_of-held_step (lay_string t) = refl
step_of-held_step (put_member k) = refl
step_of-held_step lay_array = refl
step_of-held_step lay_object = refl
step_of-held_step put_item = refl

abbrev pub coded_step : Coded Step
coded_step = code_by HeldStep
    (coded_option (coded⊎ coded_bool (coded⊎ coded_number (coded⊎ (coded_list coded_ℕ) (coded⊎ (coded_list coded_ℕ) coded_ℕ)))))
    held_step step_of step_of-held_step

-- ---- values

abbrev mutual
  pub steps_of : Data → List Step
  steps_of null = lay_null ∷ []
  steps_of (boolean b) = lay_boolean b ∷ []
  steps_of (number n) = lay_number n ∷ []
  steps_of (string t) = lay_string t ∷ []
  steps_of (array ds) = item_steps ds
  steps_of (object ms) = member_steps ms

  pub item_steps : Items → List Step
  item_steps no_items = lay_array ∷ []
  item_steps (item d ds) = item_steps ds ++ (steps_of d ++ put_item ∷ [])

  pub member_steps : Members → List Step
  member_steps no_members = lay_object ∷ []
  member_steps (member k d ms) = member_steps ms ++ (steps_of d ++ put_member k ∷ [])

-- the stack with its top value moved into the one below
abbrev with_item : List Data → List Data
with_item (d ∷ array ds ∷ more) = array (item d ds) ∷ more
with_item stack = stack

abbrev with_member : List ℕ → List Data → List Data
with_member k (d ∷ object ms ∷ more) = object (member k d ms) ∷ more
with_member k stack = stack

abbrev after_step : Step → List Data → List Data
after_step lay_null stack = null ∷ stack
after_step (lay_boolean b) stack = boolean b ∷ stack
after_step (lay_number n) stack = number n ∷ stack
after_step (lay_string t) stack = string t ∷ stack
after_step lay_array stack = array no_items ∷ stack
after_step lay_object stack = object no_members ∷ stack
after_step put_item stack = with_item stack
after_step (put_member k) stack = with_member k stack

abbrev pub after_steps : List Step → List Data → List Data
after_steps [] stack = stack
after_steps (s ∷ ss) stack = after_steps ss (after_step s stack)

-- the top of the stack
abbrev pub top : List Data → Data
top [] = null
top (d ∷ ds) = d

pub after_steps-append : (ss ts : List Step) (stack : List Data) → after_steps (ss ++ ts) stack ≡ after_steps ts (after_steps ss stack)
after_steps-append [] ts stack = refl
after_steps-append (s ∷ ss) ts stack = after_steps-append ss ts (after_step s stack)

mutual
  pub laid : (d : Data) (stack : List Data) → after_steps (steps_of d) stack ≡ d ∷ stack
  laid null stack = refl
  laid (boolean b) stack = refl
  laid (number n) stack = refl
  laid (string t) stack = refl
  laid (array ds) stack = laid_items ds stack
  laid (object ms) stack = laid_members ms stack

  pub laid_items : (ds : Items) (stack : List Data) → after_steps (item_steps ds) stack ≡ array ds ∷ stack
  laid_items no_items stack = refl
  laid_items (item d ds) stack =
      after_steps-append (item_steps ds) (steps_of d ++ put_item ∷ []) stack
      ∙ ap (after_steps (steps_of d ++ put_item ∷ [])) (laid_items ds stack)
      ∙ after_steps-append (steps_of d) (put_item ∷ []) (array ds ∷ stack)
      ∙ ap with_item (laid d (array ds ∷ stack))

  pub laid_members : (ms : Members) (stack : List Data) → after_steps (member_steps ms) stack ≡ object ms ∷ stack
  laid_members no_members stack = refl
  laid_members (member k d ms) stack =
      after_steps-append (member_steps ms) (steps_of d ++ put_member k ∷ []) stack
      ∙ ap (after_steps (steps_of d ++ put_member k ∷ [])) (laid_members ms stack)
      ∙ after_steps-append (steps_of d) (put_member k ∷ []) (object ms ∷ stack)
      ∙ ap (with_member k) (laid d (object ms ∷ stack))

abbrev pub coded_json : Coded Data
coded_json = code_by (List Step) (coded_list coded_step) steps_of (λ ss. top (after_steps ss [])) (λ d. ap top (laid d []))
