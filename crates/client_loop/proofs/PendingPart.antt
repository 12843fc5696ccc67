-- The entries under a number that are not covered.
use Rattle.std.proofs.Common.{◌≡◌, ◌≢◌, ℕ, ◌+◌, ◌-◌, ◌<◌, ◌==◌, Bool, true, false, List, [], ◌∷◌, ◌++◌, length, not, refl, sym, ap, ◌∙◌, arith, zero, suc}
use Rattle.std.specs.Prelude.{◌↔◌, IsTrue, drop, slice_get, Option, Some, None, if◌then◌else◌}
use Rattle.std.proofs.lemmas.Bool.Decides.{nat_tests}
use Rattle.act_store.specs.declared.entry.Entry.{Entry}
use Rattle.client_loop.specs.Entering.{IsUnder, part_of}
use Rattle.client_loop.specs.Service.{IsStuck, ServiceState}

same_entry : (d e : Entry) → ◌≡◌ {A = Option Entry} (Some d) (Some e) → d ≡ e
same_entry d e is = cc

drop_at : (h : List Entry) (k : ℕ) (e : Entry) → slice_get h k ≡ Some e → drop k h ≡ e ∷ drop (suc k) h
drop_at [] k e is = cc
drop_at (d ∷ h) zero e is = ap (λ (x : Entry). x ∷ h) (same_entry d e is)
drop_at (d ∷ h) (suc k) e is = drop_at h k e is

part_skips : (number : ℕ) (e : Entry) (rest : List Entry) → (e.seat == number) ≡ false → part_of number (e ∷ rest) ≡ part_of number rest
part_skips number e rest is = rw is refl

part_takes : (number : ℕ) (e : Entry) (rest : List Entry) → (e.seat == number) ≡ true → part_of number (e ∷ rest) ≡ e ∷ part_of number rest
part_takes number e rest is = rw is refl

pub next_part : (number k : ℕ) (h : List Entry) (is : Bool) → IsUnder number h k is → is ≡ false
    → part_of number (drop k h) ≡ part_of number (drop (k + 1) h)
next_part number k h is under none =
    let next : suc k ≡ k + 1 = omega arith in
    ap (part_of number) (drop_at h k under.0 under.1)
    ∙ part_skips number under.0 (drop (suc k) h) (sym under.2 ∙ none)
    ∙ ap (λ (n : ℕ). part_of number (drop n h)) next

pub some_part : (number k : ℕ) (h : List Entry) (is : Bool) → IsUnder number h k is → is ≡ true → part_of number (drop k h) ≢ []
some_part number k h is under one none =
    let some : under.0 ∷ part_of number (drop (suc k) h) ≡ [] =
    sym (ap (part_of number) (drop_at h k under.0 under.1) ∙ part_takes number under.0 (drop (suc k) h) (sym under.2 ∙ one)) ∙ none in
    cc

pub last_part : (number k : ℕ) (h : List Entry) → k ≡ length h → part_of number (drop k h) ≡ []
last_part number k h is = ap (part_of number) (drop_end h k is)
  where
    drop_end : (h : List Entry) (k : ℕ) → k ≡ length h → drop k h ≡ []
    drop_end [] k is = let none : k ≡ 0 = is in ap (λ (n : ℕ). drop n []) none
    drop_end (e ∷ h) zero is = cc
    drop_end (e ∷ h) (suc k) is = drop_end h k (omega (arith, is))

pub drop_past : (past h : List Entry) (n : ℕ) → drop (length past + n) (past ++ h) ≡ drop n h
drop_past [] h n = let same : 0 + n ≡ n = omega arith in ap (λ (k : ℕ). drop k h) same
drop_past (e ∷ past) h n =
    let same : length (e ∷ past) + n ≡ suc (length past + n) = omega arith in
    ap (λ (k : ℕ). drop k (e ∷ (past ++ h))) same ∙ drop_past past h n

not_zero : (k : ℕ) → (k + 1 == 0) ≡ false
not_zero k = grind (arith, nat_tests)

pub entry_at : (h : List Entry) (k : ℕ) (o : Option Entry) → o ≡ (if k + 1 == 0 then None else slice_get h (k + 1 - 1)) → o ≡ slice_get h k
entry_at h k o is =
    let same : k + 1 - 1 ≡ k = omega arith in
    is ∙ ap (λ (b : Bool). if b then None else slice_get h (k + 1 - 1)) (not_zero k) ∙ ap (λ (n : ℕ). slice_get h n) same

pub no_entry : (h : List Entry) (k : ℕ) → k < length h → slice_get h k ≢ None
no_entry [] k less none = absurd (omega (arith, less))
no_entry (e ∷ h) zero less none = cc
no_entry (e ∷ h) (suc k) less none = no_entry h k (omega (arith, less)) none

-- ---- whether there are any

pub some_pending : (number covered k : ℕ) (h : List Entry) (is : Bool) → part_of number (drop covered h) ≡ part_of number (drop k h) → IsUnder number h k is
    → is ≡ true → IsTrue false ↔ (part_of number (drop covered h) ≡ [])
some_pending number covered k h is same under one =
    (λ impossible. absurd (cc impossible), λ none. absurd (some_part number k h is under one (sym same ∙ none)))

pub none_pending : (number covered k : ℕ) (h : List Entry) → part_of number (drop covered h) ≡ part_of number (drop k h) → k ≡ length h
    → IsTrue true ↔ (part_of number (drop covered h) ≡ [])
none_pending number covered k h same all = (λ _. same ∙ last_part number k h all, λ none. refl)

-- ---- after a fault

pub stuck_of : {D : Type 0} (s : ServiceState D) (index : ℕ) → s.store.failed ≡ true → part_of index (drop s.store.covered s.store.history) ≢ [] → IsStuck index s
stuck_of s index failed pending = record {
  failed = failed;
  pending = λ none. pending (ap (part_of index) (sym (drop_past s.past s.store.history s.store.covered)) ∙ none);
}

pub not_stuck : {D : Type 0} (s : ServiceState D) (index : ℕ) → IsStuck index s
    → (s.store.failed ≡ true → part_of index (drop s.store.covered s.store.history) ≡ []) → ⊥
not_stuck s index stuck none =
    stuck.pending (ap (part_of index) (drop_past s.past s.store.history s.store.covered) ∙ none stuck.failed)

pub is_pending : (b : Bool) (X : Type 0) → b ≡ false → IsTrue b ↔ X → X → ⊥
is_pending true X isnt test x = cc
is_pending false X isnt test x = let is : false ≡ true = test.1 x in cc

-- ---- whether bytes are left

is_not : (b : Bool) → not b ≡ false → b ≡ true
is_not true e = refl
is_not false e = cc

empty_of : (xs : List ℕ) → (length xs == 0) ≡ true → xs ≡ []
empty_of [] e = refl
empty_of (x ∷ xs) e = let none : length (x ∷ xs) ≡ 0 = grind (arith, nat_tests, e) in absurd (omega (arith, none))

pub none_after : (b : Bool) (l m : List ℕ) → m ≡ l → b ≡ (length m == 0) → not b ≡ false → l ≡ []
none_after b l m same is uncut = sym same ∙ empty_of m (sym is ∙ is_not b uncut)
