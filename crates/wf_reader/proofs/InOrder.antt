-- The first fault of concatenated lists of faults.
use Rattle.std.proofs.Common.{◌≡◌, List, [], ◌∷◌, ◌++◌, map, Result, Ok, Err, refl, sym, ap, ◌∙◌, append_assoc}
use Rattle.std.specs.Prelude.{IsErrAnd}
use Rattle.std.specs.List.{flat_map}
use Rattle.wf_value.specs.declared.refusal.Refusal.{Refusal}
use Rattle.wf_reader.specs.Faults.{unless_faulty, faults_in_order}

-- a part with a fault decides
pub first_decides : {X Y : Type 0} (fs gs : List Refusal) (x : X) (y : Y) (e : Refusal) → unless_faulty fs x ≡ Err e
    → unless_faulty (fs ++ gs) y ≡ Err e
first_decides [] gs x y e h = absurd cc
first_decides (f ∷ fs) gs x y e h = cc

-- a part that gives a value has no faults
pub no_fault : {X : Type 0} (fs : List Refusal) (x v : X) → unless_faulty fs x ≡ Ok v → fs ≡ []
no_fault [] x v h = refl
no_fault (f ∷ fs) x v h = absurd cc

pub same_value : {X : Type 0} (fs : List Refusal) (x v : X) → unless_faulty fs x ≡ Ok v → x ≡ v
same_value [] x v h = cc
same_value (f ∷ fs) x v h = absurd cc

-- after a part without faults, the later parts decide
pub skip : {X Y : Type 0} (fs gs : List Refusal) (x v : X) (y : Y) (r : Result Y Refusal) → unless_faulty fs x ≡ Ok v
    → unless_faulty gs y ≡ r → unless_faulty (fs ++ gs) y ≡ r
skip fs gs x v y r h later = ap (λ hs. unless_faulty (hs ++ gs) y) (no_fault fs x v h) ∙ later

-- checks in two parts
pub of_both : (first later : List (List Refusal)) → faults_in_order (first ++ later) ≡ faults_in_order first ++ faults_in_order later
of_both [] later = refl
of_both (check ∷ first) later =
    ap (λ fs. check ++ fs) (of_both first later) ∙ sym (append_assoc check (faults_in_order first) (faults_in_order later))

-- an element with a fault decides, if the elements before it have none
pub first_of_rest : {A X Y : Type 0} (f : A → List Refusal) (all rest more : List A) (a : A) (x : X) (y : Y) (e : Refusal)
    → flat_map f all ≡ flat_map f rest → rest ≡ a ∷ more → unless_faulty (f a) x ≡ Err e
    → unless_faulty (flat_map f all) y ≡ Err e
first_of_rest f all rest more a x y e left is h =
    ap (λ fs. unless_faulty fs y) (left ∙ ap (flat_map f) is) ∙ first_decides (f a) (flat_map f more) x y e h

pub none_of_first : {A X : Type 0} (f : A → List Refusal) (all rest more : List A) (a : A) (x v : X)
    → flat_map f all ≡ flat_map f rest → rest ≡ a ∷ more → unless_faulty (f a) x ≡ Ok v → flat_map f all ≡ flat_map f more
none_of_first f all rest more a x v left is h = left ∙ ap (flat_map f) is ∙ ap (λ fs. fs ++ flat_map f more) (no_fault (f a) x v h)

-- one more element of a mapped list
pub one_more : {A B : Type 0} (g : A → B) (all rest more : List A) (done : List B) (a : A) (b : B)
    → done ++ map g rest ≡ map g all → rest ≡ a ∷ more → g a ≡ b → (done ++ b ∷ []) ++ map g more ≡ map g all
one_more g all rest more done a b so_far is same =
    append_assoc done (b ∷ []) (map g more) ∙ ap (λ c. done ++ c ∷ map g more) (sym same) ∙ ap (λ r. done ++ map g r) (sym is) ∙ so_far

-- a refusal that `?` passes on is the first fault
pub refused_with : {Y : Type 0} (r : Result Y Refusal) (e : Refusal) (fs : List Refusal) (y : Y) → IsErrAnd r (λ f. f ≡ e)
    → unless_faulty fs y ≡ Err e → r ≡ unless_faulty fs y
refused_with (Ok x) e fs y is h = absurd is
refused_with (Err f) e fs y is h = ap Err is ∙ sym h
