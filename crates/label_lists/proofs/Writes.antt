-- The effect of replacing the runs of a list, or of appending those of a new one.
use Rattle.std.proofs.Common.{◌≡◌, ℕ, zero, suc, ◌<◌, ◌&&◌, ◌||◌, List, [], ◌∷◌, ◌++◌, length, Bool, true, false, nat_eq, if◌then◌else◌, Some, Result, Ok, Err, IfOk, OnErr, set, slice_get, refl, sym, ap, ◌∙◌, arith}
use Rattle.std.proofs.Math.Dec.{eqb-suc-suc, eqb-suc-zero, eqb-zero-suc}
use Rattle.std.specs.Cmp.{nat_eq_equiv}
use Rattle.std.specs.Option.{option_map_or}
use Rattle.std.proofs.lemmas.Bool.{eqb-true}
use Rattle.label_lists.specs.Requesting.{RequestingState, requests_in, may_offer_in}
use Rattle.label_lists.specs.inner.Requesting.{PutsRun, SameRequesting, SameOffers}
use Rattle.label_lists.specs.inner.Known.{PutsAt, SameRequested}
use Rattle.label_lists.specs.Known.{requests_at, offers_at}

module _ (f : RequestingState → Bool) where
  abbrev pub tested_at : List RequestingState → ℕ → Bool
  tested_at requesting n = option_map_or f (slice_get requesting n) false

  pub written : (new : RequestingState) (requesting : List RequestingState) (k n : ℕ) → k < length requesting
      → tested_at (set requesting k new) n ≡ (if nat_eq n k then f new else tested_at requesting n)
  written new [] k n within = absurd (omega (arith, within))
  written new (x ∷ xs) zero zero within = refl
  written new (x ∷ xs) zero (suc n) within = sym (ap (λ b. if b then f new else tested_at xs n) (eqb-suc-zero n))
  written new (x ∷ xs) (suc k) zero within = sym (ap (λ b. if b then f new else f x) (eqb-zero-suc k))
  written new (x ∷ xs) (suc k) (suc n) within =
      written new xs k n (omega (arith, within)) ∙ sym (ap (λ b. if b then f new else tested_at xs n) (eqb-suc-suc n k))

  pub appended : (new : RequestingState) (requesting : List RequestingState) (n : ℕ) → f new ≡ false → tested_at (requesting ++ new ∷ []) n ≡ tested_at requesting n
  appended new [] zero lacks = lacks
  appended new [] (suc n) lacks = refl
  appended new (x ∷ xs) zero lacks = refl
  appended new (x ∷ xs) (suc n) lacks = appended new xs n lacks

  -- a number for which the test holds is that of a list
  pub within_if : (requesting : List RequestingState) (k : ℕ) → tested_at requesting k ≡ true → k < length requesting
  within_if [] k is = cc
  within_if (x ∷ xs) zero is = omega arith
  within_if (x ∷ xs) (suc k) is = let less = within_if xs k is in omega (arith, less)

-- ---- replacing the runs of a number

module _ (requesting : List RequestingState) (k : ℕ) (old new : RequestingState) (within : k < length requesting) (there : slice_get requesting k ≡ Some old) where
  here : (f : RequestingState → Bool) (n : ℕ) → nat_eq n k ≡ true → tested_at f requesting n ≡ f old
  here f n is = ap (tested_at f requesting) (eqb-true n k is) ∙ ap (λ o. option_map_or f o false) there

  pub offers_written : (to : Bool) (run : ℕ) → PutsRun to run old new → PutsAt to k run requesting (set requesting k new)
  offers_written to run puts n r = written (λ a. may_offer_in a r) new requesting k n within ∙ by (nat_eq n k) refl
    where
      by : (b : Bool) → nat_eq n k ≡ b → (if b then may_offer_in new r else offers_at requesting n r)
          ≡ (if b && nat_eq r run then to else offers_at requesting n r)
      by true is = puts r ∙ ap (λ x. if nat_eq r run then to else x) (sym (here (λ a. may_offer_in a r) n is))
      by false is = refl

  pub offers_kept : SameOffers old new → (n r : ℕ) → offers_at (set requesting k new) n r ≡ offers_at requesting n r
  offers_kept same n r = written (λ a. may_offer_in a r) new requesting k n within ∙ by (nat_eq n k) refl
    where
      by : (b : Bool) → nat_eq n k ≡ b → (if b then may_offer_in new r else offers_at requesting n r) ≡ offers_at requesting n r
      by true is = same r ∙ sym (here (λ a. may_offer_in a r) n is)
      by false is = refl

  pub requested_written : SameRequesting old new → SameRequested requesting (set requesting k new)
  requested_written same n r = written (λ a. requests_in a r) new requesting k n within ∙ by (nat_eq n k) refl
    where
      by : (b : Bool) → nat_eq n k ≡ b → (if b then requests_in new r else requests_at requesting n r) ≡ requests_at requesting n r
      by true is = same r ∙ sym (here (λ a. requests_in a r) n is)
      by false is = refl

  pub requested_still : ((r : ℕ) → requests_in old r ≡ true → requests_in new r ≡ true) → (n r : ℕ) → requests_at requesting n r ≡ true → requests_at (set requesting k new) n r ≡ true
  requested_still still n r requests = written (λ a. requests_in a r) new requesting k n within ∙ by (nat_eq n k) refl
    where
      by : (b : Bool) → nat_eq n k ≡ b → (if b then requests_in new r else requests_at requesting n r) ≡ true
      by true is = still r (sym (here (λ a. requests_in a r) n is) ∙ requests)
      by false is = requests

  pub requested_now : (r : ℕ) → requests_at (set requesting k new) k r ≡ requests_in new r
  requested_now r = written (λ a. requests_in a r) new requesting k k within ∙ ap (λ b. if b then requests_in new r else requests_at requesting k r) (nat_eq_equiv.refl k)

  -- adding a run keeps the others
  module _ {E : Type 0} (run : ℕ) (result : Result Bool E) (entered : IfOk result (λ has. (r : ℕ) → requests_in new r ≡ has && nat_eq r run || requests_in old r)) where
    pub entered_still : OnErr result (SameRequesting old new) → (r : ℕ) → requests_in old r ≡ true → requests_in new r ≡ true
    entered_still unchanged r requests = by result entered unchanged
      where
        or : (b : Bool) → requests_in new r ≡ b || requests_in old r → requests_in new r ≡ true
        or true is = is
        or false is = is ∙ requests

        by : (o : Result Bool E) → IfOk o (λ has. (r : ℕ) → requests_in new r ≡ has && nat_eq r run || requests_in old r) → OnErr o (SameRequesting old new)
            → requests_in new r ≡ true
        by (Ok has) is same = or (has && nat_eq r run) (is r)
        by (Err e) is same = same r ∙ requests

    pub entered_now : IfOk result (λ has. has ≡ true → requests_at (set requesting k new) k run ≡ true)
    entered_now = by result entered
      where
        by : (o : Result Bool E) → IfOk o (λ has. (r : ℕ) → requests_in new r ≡ has && nat_eq r run || requests_in old r)
            → IfOk o (λ has. has ≡ true → requests_at (set requesting k new) k run ≡ true)
        by (Ok has) is =
            λ true_it. requested_now run ∙ is run ∙ ap (λ b. b && nat_eq run run || requests_in old run) true_it ∙ ap (λ b. b || requests_in old run) (nat_eq_equiv.refl run)
        by (Err e) is = tt
