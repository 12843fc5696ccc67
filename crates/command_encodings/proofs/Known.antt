-- Facts about texts and numbers of a form.
use Rattle.std.proofs.Common.{◌≡◌, inl, inr, ◌++◌, ℕ, zero, suc, ◌+◌, ◌<◌, ◌≤◌, ◌^◌, List, [], ◌∷◌, length, take, get_or, refl, sym, ◌∙◌}
use Rattle.std.proofs.Common.{ap, subst, arith}
use Rattle.std.specs.Prelude.{Bool, true, false, ◌&&◌, ◌≢◌, ◌⊎◌, Some, None, Ok, Err, nat_le, if◌then◌else◌}
use Rattle.std.specs.List.{list_all, flat_map, AllByRecursion}
use Rattle.std.proofs.lemmas.List.{flat_map_more}
use Rattle.std.proofs.lemmas.Grind.{take_at_read}
use Rattle.std.proofs.lemmas.Bool.{and_parts, cases_Bool, le-leb, leb-true}
use Rattle.std.proofs.lemmas.Option.{same_Some, cond_some}
use Rattle.wf_value.specs.declared.code.Code.TheVariants.{NotJson, TooLong}
use Rattle.wf_value.specs.declared.refusal.Refusal.{Refusal}
use Rattle.wf_value.specs.declared.refusal.Refusal.TheVariants.{Numbered}
use Rattle.wf_value.specs.Gives.{no_memory}
use Rattle.wf_value.specs.RefusalText.{refusal_number}
use Rattle.wf_reader.specs.Workflow.{json_of}
use Rattle.wf_reader.specs.Event.{event_faults, event_faults_in, event_of}
use Rattle.wf_reader.specs.Faults.{fault, required, unless_faulty}
use Rattle.definitions.specs.SmallText.{Admitted, is_of_short_length, is_short, is_label_byte, are_labels}
use Rattle.run_plan.specs.PlanOf.{faults_of, plan_faults}
use Rattle.command_encodings.specs.declared.decode_error.DecodeError.{DecodeError}
use Rattle.command_encodings.specs.declared.decode_error.DecodeError.TheVariants.{NoMemory, NoEncoding}
use Rattle.command_encodings.specs.Commands.{is_numbered, are_none, is_faultless, small_text, labels}
use Rattle.command_encodings.specs.inner.Reading.{◌>>=◌, Fails, kept, text_at, items_at}
use Rattle.command_encodings.specs.inner.ReadingCommands.{small_text_at}
use Rattle.command_encodings.proofs.Readers.{bind_some}

-- a length can hold the size of a short text
pub short_fits : (kind : ℕ → Bool) (t : List ℕ) → is_short kind t ≡ true → length t < 2 ^ 32
short_fits kind t h =
    let parts = and_parts (is_of_short_length t) (list_all kind t) h in
    let range = and_parts (nat_le 1 (length t)) (nat_le (length t) 64) parts.0 in
    let most : length t ≤ 64 = leb-true (length t) 64 range.1 in
    omega (arith, most)

pub is_numbered_within : (n : ℕ) → 1 ≤ n → n ≤ 999999999 → is_numbered n ≡ true
is_numbered_within n low high = ap (λ b. b && nat_le n 999999999) (le-leb 1 n low) ∙ le-leb n 999999999 high

-- ---- labels

short_read : (kind : ℕ → Bool) (bytes : List ℕ) (found : List ℕ × List ℕ) → small_text_at kind bytes ≡ Some found
    → is_short kind found.0 ≡ true
unfolding small_text_at
short_read kind bytes found h =
    let step = bind_some (text_at bytes) (λ x. kept (is_short kind) x.0 >>= (λ y. Some (y, x.1))) found h in
    let t = step.0 in
    let next = bind_some (kept (is_short kind) t.0) (λ y. Some (y, t.1)) found step.2 in
    let by = cond_some (is_short kind t.0) t.0 next.0 next.1 in
    let same : next.0 ≡ found.0 = ap (λ (p : List ℕ × List ℕ). p.0) (same_Some (next.0, t.1) found next.2) in
    sym (ap (is_short kind) (by.1 ∙ same)) ∙ by.0

pub short_items : (kind : ℕ → Bool) (n : ℕ) (bytes : List ℕ) (found : List (List ℕ) × List ℕ)
    → items_at (small_text_at kind) n bytes ≡ Some found
    → (length found.0 ≡ n) × (list_all (is_short kind) found.0 ≡ true)
short_items kind zero bytes found h =
    subst (λ (q : List (List ℕ) × List ℕ). (length q.0 ≡ zero) × (list_all (is_short kind) q.0 ≡ true))
    (same_Some ([], bytes) found h) (refl, refl)
short_items kind (suc n) bytes found h =
    let step = bind_some (small_text_at kind bytes)
    (λ x. items_at (small_text_at kind) n x.1 >>= (λ xs. Some (x.0 ∷ xs.0, xs.1))) found h in
    let x = step.0 in
    let next = bind_some (items_at (small_text_at kind) n x.1) (λ xs. Some (x.0 ∷ xs.0, xs.1)) found step.2 in
    let xs = next.0 in
    let suffix = short_items kind n x.1 xs next.1 in
    subst (λ (q : List (List ℕ) × List ℕ). (length q.0 ≡ suc n) × (list_all (is_short kind) q.0 ≡ true))
    (same_Some (x.0 ∷ xs.0, xs.1) found next.2)
    (ap suc suffix.0, ap (λ b. b && list_all (is_short kind) xs.0) (short_read kind bytes x step.1) ∙ suffix.1)

all_three : (a b c : Bool) → a ≡ true → b ≡ true → c ≡ true → (a && b && c) ≡ true
all_three true true c p q r = r
all_three true false c p q r = q
all_three false b c p q r = p

pub labels_read : (n : ℕ) (bytes : List ℕ) (found : List (List ℕ) × List ℕ) → (nat_le 1 n && nat_le n 16) ≡ true
    → items_at (small_text_at is_label_byte) n bytes ≡ Some found
    → are_labels found.0 ≡ true
labels_read n bytes found within h =
    let items = short_items is_label_byte n bytes found h in
    let ls = found.0 in
    let counted : (nat_le 1 (length ls) && nat_le (length ls) 16) ≡ true = ap (λ k. nat_le 1 k && nat_le k 16) items.0 ∙ within in
    let range = and_parts (nat_le 1 (length ls)) (nat_le (length ls) 16) counted in
    all_three (nat_le 1 (length ls)) (nat_le (length ls) 16) (list_all (is_short is_label_byte) ls) range.0 range.1 items.1

label_items : (ls : List (List ℕ)) → list_all (is_short is_label_byte) ls ≡ true → AllByRecursion (small_text is_label_byte).Takes ls
label_items [] h = tt
label_items (l ∷ ls) h =
    let parts = and_parts (is_short is_label_byte l) (list_all (is_short is_label_byte) ls) h in
    ((short_fits is_label_byte l parts.0, parts.0), label_items ls parts.1)

three_of : (a b c : Bool) → (a && b && c) ≡ true → (a ≡ true) × (b ≡ true) × (c ≡ true)
three_of true true c h = (refl, refl, h)
three_of true false c h = absurd (cc)
three_of false b c h = absurd (cc)

pub labels_take : (ls : List (List ℕ)) → are_labels ls ≡ true → labels.Takes ls
labels_take ls h =
    let parts = three_of (nat_le 1 (length ls)) (nat_le (length ls) 16) (list_all (is_short is_label_byte) ls) h in
    (leb-true 1 (length ls) parts.0, leb-true (length ls) 16 parts.1, label_items ls parts.2)

-- ---- a loop over a list

all_taken : {X : Type 0} (P : X → Type 0) (xs : List X) (i : ℕ) (d : X) → i < length xs → AllByRecursion P (take i xs) → P (get_or xs i d)
    → AllByRecursion P (take (suc i) xs)
all_taken P [] i d below all one = absurd (omega (arith, below))
all_taken P (x ∷ xs) zero d below all one = (one, tt)
all_taken P (x ∷ xs) (suc i) d below all one = (all.0, all_taken P xs i d (omega (arith, below)) all.1 one)

pub all_more : {X : Type 0} (P : X → Type 0) (xs : List X) (i : ℕ) (d : X) → i < length xs → AllByRecursion P (take i xs)
    → P (get_or xs i d) → AllByRecursion P (take (i + 1) xs)
all_more P xs i d below all one =
    let next : suc i ≡ i + 1 = omega arith in
    subst (λ (n : ℕ). AllByRecursion P (take n xs)) next (all_taken P xs i d below all one)

-- the bytes of each follow those before it
pub bytes_more : {X : Type 0} (f : X → List ℕ) (old mid new : List ℕ) (xs : List X) (i : ℕ) (d y : X) → i < length xs → y ≡ get_or xs i d
    → mid ≡ old ++ flat_map f (take i xs) → new ≡ mid ++ f y → new ≡ old ++ flat_map f (take (i + 1) xs)
bytes_more {X} f old mid new xs i d y below one was is =
    is
    ∙ ap (λ (x : X). mid ++ f x) one
    ∙ ap (λ (l : List ℕ). l ++ f (get_or xs i d)) was
    ∙ flat_map_more f old (take i xs) (get_or xs i d)
    ∙ ap (λ (ys : List X). old ++ flat_map f ys) (sym (take_at_read xs i d below).1)

-- ---- bodies

-- a list that begins with a value is not empty
begun : {X : Type 0} (x : X) (fs gs : List X) → fs ≡ x ∷ [] → fs ++ gs ≡ [] → ⊥
begun x [] gs is h = cc
begun x (f ∷ fs) gs is h = cc

-- a longer body has a fault
long_body : (b : List ℕ) → nat_le (length b) 65536 ≡ false → faults_of b ≡ [] → ⊥
long_body b long h =
    begun (Numbered TooLong) (event_faults b) (plan_faults (event_of b).workflow)
    (ap (λ t. if t then required NotJson event_faults_in (json_of b) else fault TooLong) long) h

-- it has at most 65,536 bytes
pub short_body : (b : List ℕ) → faults_of b ≡ [] → length b ≤ 65536
short_body b h = elim (cases_Bool (nat_le (length b) 65536)) [
  | inl short ↦ leb-true (length b) 65536 short
  | inr long ↦ absurd (long_body b long h)
]

-- a length can hold the size of a body without faults
pub faultless_fits : (b : List ℕ) → faults_of b ≡ [] → (length b < 2 ^ 32) × (is_faultless b ≡ true)
unfolding is_faultless
faultless_fits b h =
    let most = short_body b h in
    (omega (arith, most), ap (λ fs. are_none fs) h)

given_none : {X : Type 0} (fs : List Refusal) (x z : X) → unless_faulty fs x ≡ Ok z → (are_none fs ≡ true) × (x ≡ z)
given_none [] x z h = (refl, cc)
given_none (f ∷ fs) x z h = absurd (cc)

refused_some : {X : Type 0} (fs : List Refusal) (x : X) (r : Refusal) → unless_faulty fs x ≡ Err r → are_none fs ≡ false
refused_some [] x r h = absurd (cc)
refused_some (f ∷ fs) x r h = refl

-- a successful preparation gives an event whose body passes
pub kept_body : (b items d e : List ℕ) (z : Admitted) → items ≡ b
    → unless_faulty {X = Admitted} (faults_of items) (record { delivery = d; event = e; body = items }) ≡ Ok z
    → kept is_faultless b ≡ Some z.body
unfolding is_faultless
kept_body b items d e z is h =
    let x : Admitted = record { delivery = d; event = e; body = items } in
    let by = given_none (faults_of items) x z h in
    let same : b ≡ z.body = sym is ∙ ap (λ (a : Admitted). a.body) by.1 in
    ap (λ t. if t then Some b else None) (ap (λ (l : List ℕ). are_none (faults_of l)) (sym is) ∙ by.0) ∙ ap (λ (l : List ℕ). Some l) same

pub same_event : (b items d e : List ℕ) (z : Admitted) → items ≡ b
    → unless_faulty {X = Admitted} (faults_of items) (record { delivery = d; event = e; body = items }) ≡ Ok z
    → z ≡ record { delivery = d; event = e; body = b }
same_event b items d e z is h =
    let x : Admitted = record { delivery = d; event = e; body = items } in
    let by = given_none (faults_of items) x z h in
    sym by.1 ∙ ap (λ (l : List ℕ). record { delivery = d; event = e; body = l }) is

-- and if it refuses for another reason than memory, the body does not pass
pub fails_kept : (b items d e : List ℕ) (r : Refusal) (why : DecodeError) → items ≡ b
    → (r ≡ no_memory) ⊎ (unless_faulty {X = Admitted} (faults_of items) (record { delivery = d; event = e; body = items }) ≡ Err r)
    → (why ≡ NoEncoding → refusal_number r ≢ 50) → Fails why (kept is_faultless b)
unfolding is_faultless
fails_kept b items d e r NoMemory is gives other = tt
fails_kept b items d e r NoEncoding is (inl memory) other = absurd (other refl (ap refusal_number memory))
fails_kept b items d e r NoEncoding is (inr refused) other =
    let x : Admitted = record { delivery = d; event = e; body = items } in
    ap (λ t. if t then Some b else None) (ap (λ (l : List ℕ). are_none (faults_of l)) (sym is) ∙ refused_some (faults_of items) x r refused)

-- each item of a list has what all have
pub all_get : {X : Type 0} (P : X → Type 0) (xs : List X) (i : ℕ) (d : X) → i < length xs → AllByRecursion P xs → P (get_or xs i d)
all_get P [] i d below all = absurd (omega (arith, below))
all_get P (x ∷ xs) zero d below all = all.0
all_get P (x ∷ xs) (suc i) d below all = all_get P xs i d (omega (arith, below)) all.1
