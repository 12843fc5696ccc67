-- Planning the jobs of a workflow, one after another.
use Rattle.std.proofs.Common.{◌≡◌, List, [], ◌∷◌, ◌++◌, length, map, Result, Ok, Err, refl, sym, ap, ◌∙◌, append-nil, arith}
use Rattle.wf_value.specs.declared.refusal.Refusal.{Refusal}
use Rattle.wf_reader.specs.Faults.{unless_faulty, outcome_faults}

-- a list of length zero, at the end of a loop
pub nothing_left : {X : Type 0} (l : List X) → 0 ≡ length l → l ≡ []
nothing_left [] h = refl
nothing_left (x ∷ xs) h = absurd (omega arith)

-- all are done when none remains
pub all_done : {A B : Type 0} (f : A → B) (done : List B) (rest all : List A) → done ++ map f rest ≡ map f all → rest ≡ []
    → done ≡ map f all
all_done f done rest all so_far none = sym (append-nil done) ∙ ap (λ r. done ++ map f r) (sym none) ∙ so_far

-- the fault of a result that is an Err is that refusal
pub refused_by : {X Y : Type 0} (r : Result X Refusal) (y : Y) (e : Refusal) → r ≡ Err e → unless_faulty (outcome_faults r) y ≡ Err e
refused_by r y e h = rw h refl

pub given_by : {X Y : Type 0} (r : Result X Refusal) (x : X) (y : Y) → r ≡ Ok x → unless_faulty (outcome_faults r) y ≡ Ok y
given_by r x y h = rw h refl
