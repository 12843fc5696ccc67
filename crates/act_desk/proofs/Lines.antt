-- The line of a key in a book that goes on.
use Rattle.std.proofs.Common.{◌≡◌, ℕ, ◌==◌, Bool, true, false, List, [], ◌∷◌, ◌++◌, refl, ap, sym, ◌∙◌, subst, arith}
use Rattle.std.specs.Prelude.{if◌then◌else◌}
use Rattle.std.proofs.lemmas.List.{append-nil}
use Rattle.std.proofs.lemmas.Bool.Decides.{nat_tests}
use mathlib.Core.List.{IsPrefix}
use Rattle.act_desk.specs.declared.event.Event.{Event}
use Rattle.act_desk.specs.declared.event.Note.{Note}
use Rattle.act_desk.specs.inner.Lines.{line, next_of, IsUnused}

line_step : (b : Bool) (e : Event) (to key : ℕ) (xs ys : List Note) → line to (xs ++ ys) ≡ line to xs ++ line (next_of to xs) ys
    → line key (xs ++ ys) ≡ line key xs ++ line (next_of key xs) ys
    → (if b then e ∷ line to (xs ++ ys) else line key (xs ++ ys))
    ≡ (if b then e ∷ line to xs else line key xs) ++ line (if b then next_of to xs else next_of key xs) ys
line_step true e to key xs ys h g = ap (λ l. e ∷ l) h
line_step false e to key xs ys h g = g

pub line-append : (key : ℕ) (xs ys : List Note) → line key (xs ++ ys) ≡ line key xs ++ line (next_of key xs) ys
line-append key [] ys = refl
line-append key (n ∷ xs) ys = line_step (n.from == key) n.event n.to key xs ys (line-append n.to xs ys) (line-append key xs ys)

next_step : (b : Bool) (to key : ℕ) (xs ys : List Note) → next_of to (xs ++ ys) ≡ next_of (next_of to xs) ys
    → next_of key (xs ++ ys) ≡ next_of (next_of key xs) ys
    → (if b then next_of to (xs ++ ys) else next_of key (xs ++ ys)) ≡ next_of (if b then next_of to xs else next_of key xs) ys
next_step true to key xs ys h g = h
next_step false to key xs ys h g = g

pub next-append : (key : ℕ) (xs ys : List Note) → next_of key (xs ++ ys) ≡ next_of (next_of key xs) ys
next-append key [] ys = refl
next-append key (n ∷ xs) ys = next_step (n.from == key) n.to key xs ys (next-append n.to xs ys) (next-append key xs ys)

pub unused_line : (key : ℕ) (log : List Note) → IsUnused key log → line key log ≡ []
unused_line key [] h = refl
unused_line key (n ∷ log) h =
    let other = h.0 in
    let no : (n.from == key) ≡ false = grind (arith, nat_tests) in rw no (unused_line key log h.1)

pub unused_next : (key : ℕ) (log : List Note) → IsUnused key log → next_of key log ≡ key
unused_next key [] h = refl
unused_next key (n ∷ log) h =
    let other = h.0 in
    let no : (n.from == key) ≡ false = grind (arith, nat_tests) in rw no (unused_next key log h.1)

unused_rest : (key : ℕ) (xs ys : List Note) → IsUnused key (xs ++ ys) → IsUnused key ys
unused_rest key [] ys h = h
unused_rest key (n ∷ xs) ys h = unused_rest key xs ys h.1

-- a longer book in which the next key is unused has the same line
pub same_line : (key : ℕ) (xs ys : List Note) → IsPrefix xs ys → IsUnused (next_of key xs) ys → line key ys ≡ line key xs
same_line key xs ys p h =
    let rest = unused_rest (next_of key xs) xs p.0 (subst (IsUnused (next_of key xs)) (sym p.1) h) in
    ap (line key) (sym p.1) ∙ line-append key xs p.0 ∙ ap (λ l. line key xs ++ l) (unused_line (next_of key xs) p.0 rest) ∙ append-nil (line key xs)

pub same_next : (key : ℕ) (xs ys : List Note) → IsPrefix xs ys → IsUnused (next_of key xs) ys → next_of key ys ≡ next_of key xs
same_next key xs ys p h =
    let rest = unused_rest (next_of key xs) xs p.0 (subst (IsUnused (next_of key xs)) (sym p.1) h) in
    ap (next_of key) (sym p.1) ∙ next-append key xs p.0 ∙ unused_next (next_of key xs) p.0 rest

-- the line of a longer book is longer
pub line_prefix : (key : ℕ) (xs ys : List Note) → IsPrefix xs ys → IsPrefix (line key xs) (line key ys)
line_prefix key xs ys p = (line (next_of key xs) p.0, sym (line-append key xs p.0) ∙ ap (line key) p.1)

last_is : (key : ℕ) (n : Note) → n.from ≡ key → (n.from == key) ≡ true
last_is key n h = grind (arith, nat_tests)

-- a note with the next key continues the line
pub more_line : (key : ℕ) (log : List Note) (n : Note) → n.from ≡ next_of key log → line key (log ++ n ∷ []) ≡ line key log ++ n.event ∷ []
more_line key log n h =
    line-append key log (n ∷ []) ∙ ap (λ b. line key log ++ (if b then n.event ∷ [] else [])) (last_is (next_of key log) n h)

pub more_next : (key : ℕ) (log : List Note) (n : Note) → n.from ≡ next_of key log → next_of key (log ++ n ∷ []) ≡ n.to
more_next key log n h =
    next-append key log (n ∷ []) ∙ ap (λ b. if b then n.to else next_of key log) (last_is (next_of key log) n h)

-- the line after one more note of its next key, in a book that went on
pub added_line : (key : ℕ) (xs log new : List Note) (n : Note) → IsPrefix xs log → IsUnused (next_of key xs) log → n.from ≡ next_of key xs
    → new ≡ log ++ n ∷ [] → line key new ≡ line key xs ++ n.event ∷ []
added_line key xs log new n p h from is =
    ap (line key) is ∙ more_line key log n (from ∙ sym (same_next key xs log p h)) ∙ ap (λ l. l ++ n.event ∷ []) (same_line key xs log p h)

pub added_next : (key : ℕ) (xs log new : List Note) (n : Note) → IsPrefix xs log → IsUnused (next_of key xs) log → n.from ≡ next_of key xs
    → new ≡ log ++ n ∷ [] → next_of key new ≡ n.to
added_next key xs log new n p h from is = ap (next_of key) is ∙ more_next key log n (from ∙ sym (same_next key xs log p h))
