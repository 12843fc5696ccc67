-- The contents of lists and objects in a `Value`.
use Rattle.std.proofs.Common.{◌≡◌, ℕ, ◌<◌, List, [], ◌∷◌, map, length, Bool, true, if◌then◌else◌, is_some, Option, Some, Result, Ok, Err}
use Rattle.std.proofs.Common.{string_bytes, refl, sym, ap, ◌∙◌, arith}
use Rattle.std.specs.List.{flat_map}
use Rattle.std.proofs.lemmas.List.Folds.{flat_map-map}
use Rattle.std.proofs.lemmas.Simd.{map-map}
use Rattle.serde_json.specs.Data.{Data, null, boolean, number, string, array, object, Items, Members}
use Rattle.serde_json.specs.Find.{as_array, as_object}
use Rattle.serde_json.specs.View.{view, items_view, members_view}
use Rattle.serde_json.specs.declared.value.Value.{Value}
use Rattle.serde_json.proofs.Views.{Entry}
use Rattle.wf_value.specs.declared.refusal.Refusal.{Refusal}
use Rattle.wf_reader.specs.Faults.{unless_faulty}
use Rattle.wf_reader.specs.Json.{item_list, member_list, members_of}
use Rattle.wf_reader.specs.Strategy.{items_of, each_of_some}

-- ---- the contents of a value

pub array-of : (d : Data) (ds : Items) → Some ds ≡ as_array d → d ≡ array ds
array-of null ds h = absurd cc
array-of (boolean b) ds h = absurd cc
array-of (number n) ds h = absurd cc
array-of (string t) ds h = absurd cc
array-of (array es) ds h = cc
array-of (object ms) ds h = absurd cc

pub object-of : (d : Data) (ms : Members) → Some ms ≡ as_object d → d ≡ object ms
object-of null ms h = absurd cc
object-of (boolean b) ms h = absurd cc
object-of (number n) ms h = absurd cc
object-of (string t) ms h = absurd cc
object-of (array ds) ms h = absurd cc
object-of (object ns) ms h = cc

pub item_list-view : (vs : List Value) → item_list (items_view vs) ≡ map view vs
item_list-view [] = refl
item_list-view (v ∷ vs) = rw (item_list-view vs)

-- the name and the value of an entry
abbrev pub named : Entry → List ℕ × Data
named e = (string_bytes e.0, view e.1)

pub member_list-named : (es : List Entry) → member_list (members_view es) ≡ map named es
member_list-named [] = refl
member_list-named (e ∷ es) = rw (member_list-named es)

pub items_here : (d : Data) (vs : List Value) → Some (items_view vs) ≡ as_array d → items_of d ≡ map view vs
items_here d vs h = ap items_of (array-of d _ h) ∙ item_list-view vs

pub members_here : (d : Data) (es : List Entry) → Some (members_view es) ≡ as_object d → members_of d ≡ map named es
members_here d es h = ap members_of (object-of d _ h) ∙ member_list-named es

-- ---- the faults and the values of the contents

module _ {A X B : Type 0} (v : A → X) (check : X → List Refusal) (of : X → B) where
  pub whole_list : (xs : List A) → unless_faulty (flat_map (λ a. check (v a)) xs) (map (λ a. of (v a)) xs) ≡ unless_faulty
      (flat_map check (map v xs)) (map of (map v xs))
  whole_list xs = rw (flat_map-map check v xs, map-map of v xs) refl

  pub filled_list : (xs : List A) → 0 < length xs
      → unless_faulty (flat_map (λ a. check (v a)) xs) (map (λ a. of (v a)) xs) ≡ unless_faulty
      (each_of_some check (map v xs)) (map of (map v xs))
  filled_list [] filled = absurd (omega arith)
  filled_list (a ∷ xs) filled = whole_list (a ∷ xs)

-- ---- another value with the same faults

pub made_with : {X Y : Type 0} (f : X → Y) (fs : List Refusal) (x v : X) → unless_faulty fs x ≡ Ok v → unless_faulty fs (f x) ≡ Ok (f v)
made_with f [] x v h = let same : x ≡ v = cc in ap (λ y. Ok (f y)) same
made_with f (e ∷ fs) x v h = absurd cc

pub same_refusal : {X Y : Type 0} (fs : List Refusal) (x : X) (y : Y) (e : Refusal) → unless_faulty fs x ≡ Err e
    → unless_faulty fs y ≡ Err e
same_refusal [] x y e h = absurd cc
same_refusal (f ∷ fs) x y e h = cc

pub where_so : {X : Type 0} (b : Bool) (fs gs : List Refusal) (x : X) (r : Result X Refusal) → true ≡ b → unless_faulty fs x ≡ r
    → unless_faulty (if b then fs else gs) x ≡ r
where_so b fs gs x r is h = ap (λ c. unless_faulty (if c then fs else gs) x) (sym is) ∙ h

pub is_of-Some : {X : Type 0} (o : Option X) (x : X) → Some x ≡ o → true ≡ is_some o
is_of-Some o x h = ap is_some h
