-- The frame of a record, written over bytes.
use Rattle.std.proofs.Common.{◌≡◌, ℕ, ◌+◌, ◌-◌, ◌≤◌, List, [], ◌∷◌}
use Rattle.std.proofs.Common.{◌++◌, length, get_or, take, drop, set, refl, sym, ◌∙◌, ap, arith}
use Rattle.std.proofs.Common.{take-append-drop, drop_of_length-le, length-take, length-drop}
use Rattle.std.proofs.lemmas.List.{take-set, drop_more, get_or-set_same, length-set}
use Rattle.std.proofs.Math.Seq.{take-append-add}
use Rattle.std.specs.Int.{to_be_bytes, w32}
use Rattle.gated_journal.specs.Appends.{record_of, body_in}

set_last : (l : List ℕ) (n x : ℕ) → length l ≡ n + 1 → set l n x ≡ take n l ++ x ∷ []
set_last l n x long =
    let new = set l n x in
    sym (take-append-drop n new)
    ∙ ap (λ (prefix : List ℕ). prefix ++ drop n new) (take-set l n x)
    ∙ ap (λ (back : List ℕ). take n l ++ back)
    (drop_more new n 0 (omega (arith, long, length-set l n x))
    ∙ ap (λ (y : ℕ). y ∷ drop (n + 1) new) (get_or-set_same l n x 0 (omega (arith, long)))
    ∙ ap (λ (rest : List ℕ). x ∷ rest) (drop_of_length-le new (omega (arith, long, length-set l n x))))

-- the first four bytes
four : (l : List ℕ) (a b c d : ℕ) → 4 ≤ length l → set (set (set (set l 0 a) 1 b) 2 c) 3 d ≡ a ∷ b ∷ c ∷ d ∷ drop 4 l
four [] a b c d long = absurd (omega (arith, long))
four (x ∷ []) a b c d long = absurd (omega (arith, long))
four (x ∷ y ∷ []) a b c d long = absurd (omega (arith, long))
four (x ∷ y ∷ z ∷ []) a b c d long = absurd (omega (arith, long))
four (x ∷ y ∷ z ∷ w ∷ l) a b c d long = refl

take_four : (a b c d : ℕ) (l : List ℕ) (n : ℕ) → take (4 + n) (a ∷ b ∷ c ∷ d ∷ l) ≡ (a ∷ b ∷ c ∷ d ∷ []) ++ take n l
take_four a b c d l n = take-append-add (a ∷ b ∷ c ∷ d ∷ []) l n

pub framed_over : (l number : List ℕ) (n : ℕ) → length l ≡ n + 5 → number ≡ to_be_bytes w32 n
    → set (set (set (set (set l 0 (get_or number 0 0)) 1 (get_or number 1 0)) 2 (get_or number 2 0)) 3 (get_or number 3 0)) (n + 4) 0
    ≡ record_of (body_in l)
framed_over l number n long is =
    let a = get_or number 0 0 in
    let b = get_or number 1 0 in
    let c = get_or number 2 0 in
    let d = get_or number 3 0 in
    let m = a ∷ b ∷ c ∷ d ∷ drop 4 l in
    let prefix : a ∷ b ∷ c ∷ d ∷ [] ≡ to_be_bytes w32 n =
    ap (λ (k : List ℕ). get_or k 0 0 ∷ get_or k 1 0 ∷ get_or k 2 0 ∷ get_or k 3 0 ∷ []) is in
    let many : length l - 5 ≡ n = omega (arith, long) in
    let short : length (body_in l) ≡ n = omega (arith, length-take (length l - 5) (drop 4 l), length-drop 4 l, long) in
    let apart : take (n + 4) m ≡ (a ∷ b ∷ c ∷ d ∷ []) ++ take n (drop 4 l) =
    let place : n + 4 ≡ 4 + n = omega arith in ap (λ (k : ℕ). take k m) place ∙ take_four a b c d (drop 4 l) n in
    ap (λ (k : List ℕ). set k (n + 4) 0) (four l a b c d (omega (arith, long)))
    ∙ set_last m (n + 4) 0 (omega (arith, length-drop 4 l, long))
    ∙ ap (λ (k : List ℕ). k ++ 0 ∷ []) (apart
    ∙ ap (λ (k : List ℕ). k ++ take n (drop 4 l)) prefix
    ∙ ap (λ (k : ℕ). to_be_bytes w32 n ++ take k (drop 4 l)) (sym many)
    ∙ ap (λ (k : ℕ). to_be_bytes w32 k ++ body_in l) (sym short))
