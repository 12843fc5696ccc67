-- One iteration of the loops over marks.
use Rattle.std.proofs.Common.{◌≡◌, ℕ, zero, suc, ◌+◌, ◌<◌, ◌≤◌, min, List, [], ◌∷◌, ◌++◌, Bool, true, false, cond, ◌||◌, length, set, take}
use Rattle.std.proofs.Common.{map, refl, sym, ap, ◌∙◌, zero-add, arith}
use Rattle.std.specs.List.{filter, enumerate_from}
use Rattle.std.proofs.lemmas.Bool.{true≢false}
use Rattle.needs_graph.specs.inner.JobBitmap.{is_marked, either, marked, through}
use Rattle.needs_graph.proofs.Closure.{or_false}

pub either_none : (xs : List Bool) → either xs [] ≡ xs
either_none [] = refl
either_none (x ∷ xs) = refl

-- one more mark of the second set
either_more : (xs ys : List Bool) (i : ℕ) → i < length xs → i < length ys
    → set (either xs (take i ys)) i (is_marked (either xs (take i ys)) i || is_marked ys i) ≡ either xs (take (suc i) ys)
either_more [] ys i in_xs in_ys = absurd (omega arith)
either_more (x ∷ xs) [] i in_xs in_ys = absurd (omega arith)
either_more (x ∷ xs) (y ∷ ys) zero in_xs in_ys = ap (λ l. (x || y) ∷ l) (sym (either_none xs))
either_more (x ∷ xs) (y ∷ ys) (suc i) in_xs in_ys = ap (λ l. (x || y) ∷ l) (either_more xs ys i (omega arith) (omega arith))

take_none : (n : ℕ) → take {A = Bool} n [] ≡ []
take_none zero = refl
take_none (suc n) = refl

pub either_all : (xs ys : List Bool) (n : ℕ) → min (length xs) (length ys) ≤ n → either xs (take n ys) ≡ either xs ys
either_all [] ys n enough = refl
either_all (x ∷ xs) [] n enough = ap (λ l. either (x ∷ xs) l) (take_none n)
either_all (x ∷ xs) (y ∷ ys) zero enough = absurd (omega arith)
either_all (x ∷ xs) (y ∷ ys) (suc n) enough = ap (λ l. (x || y) ∷ l) (either_all xs ys n (omega arith))

-- one more mark
marked_from_more : (marks : List Bool) (a i : ℕ) → i < length marks
    → map (λ e. e.0) (filter (λ e. e.1) (enumerate_from a (take (suc i) marks))) ≡ map (λ e. e.0)
    (filter (λ e. e.1) (enumerate_from a (take i marks))) ++ cond (is_marked marks i) ((a + i) ∷ []) []
marked_from_more [] a i below = absurd (omega arith)
marked_from_more (true ∷ marks) a zero below = ap (λ n. n ∷ []) (omega arith)
marked_from_more (false ∷ marks) a zero below = refl
marked_from_more (true ∷ marks) a (suc i) below =
    ap (λ l. a ∷ l) (marked_from_more marks (a + 1) i (omega arith)
    ∙ ap (λ n. map (λ e. e.0) (filter (λ e. e.1) (enumerate_from (a + 1) (take i marks))) ++ cond (is_marked marks i) (n ∷ []) [])
    (omega arith))
marked_from_more (false ∷ marks) a (suc i) below =
    marked_from_more marks (a + 1) i (omega arith)
    ∙ ap (λ n. map (λ e. e.0) (filter (λ e. e.1) (enumerate_from (a + 1) (take i marks))) ++ cond (is_marked marks i) (n ∷ []) [])
    (omega arith)

pub marked_more : (marks : List Bool) (i : ℕ) → i < length marks
    → marked (take (i + 1) marks) ≡ marked (take i marks) ++ cond (is_marked marks i) (i ∷ []) []
marked_more marks i below =
    let next : i + 1 ≡ suc i = omega arith in
    ap (λ n. marked (take n marks)) next
    ∙ (marked_from_more marks 0 i below ∙ ap (λ n. marked (take i marks) ++ cond (is_marked marks i) (n ∷ []) []) (zero-add i))

-- the marks after one more iteration
pub added_more : (old others marks : List Bool) (i : ℕ) → marks ≡ either old (take i others) → i < length old → i < length others
    → set marks i (is_marked marks i || is_marked others i) ≡ either old (take (i + 1) others)
added_more old others marks i so_far in_old in_others =
    let next : suc i ≡ i + 1 = omega arith in
    ap (λ m. set m i (is_marked m i || is_marked others i)) so_far
    ∙ (either_more old others i in_old in_others ∙ ap (λ n. either old (take n others)) next)

-- unset marks after the last set one add nothing
pub either_trimmed : (xs ys : List Bool) (n : ℕ) → ((k : ℕ) → n ≤ k → is_marked ys k ≡ false) → either xs (take n ys) ≡ either xs ys
either_trimmed [] ys n rest = refl
either_trimmed (x ∷ xs) [] n rest = ap (λ l. either (x ∷ xs) l) (take_none n)
either_trimmed (x ∷ xs) (y ∷ ys) zero rest =
    let tail = sym (either_none xs) ∙ either_trimmed xs ys zero (λ k enough. rest (suc k) (omega arith)) in
    ap (λ l. x ∷ l) tail ∙ ap (λ b. b ∷ either xs ys) (or_false x ∙ ap (λ b. x || b) (sym (rest zero (omega arith))))
either_trimmed (x ∷ xs) (y ∷ ys) (suc n) rest =
    ap (λ l. (x || y) ∷ l) (either_trimmed xs ys n (λ k enough. rest (suc k) (omega arith)))

-- sets that add the same marks have the same effect on all rows
pub through_same : (job : ℕ) (others trimmed : List Bool) (rows : List (List Bool))
    → ((marks : List Bool) → either marks trimmed ≡ either marks others) → map (through job trimmed) rows ≡ map (through job others) rows
through_same job others trimmed [] same = refl
through_same job others trimmed (row ∷ rows) same =
    ap (λ r. cond (is_marked row job) r row ∷ map (through job trimmed) rows) (same row)
    ∙ ap (λ l. through job others row ∷ l) (through_same job others trimmed rows same)

marked_from_trimmed : (marks : List Bool) (a n : ℕ) → ((k : ℕ) → n ≤ k → is_marked marks k ≡ false)
    → map (λ e. e.0) (filter (λ e. e.1) (enumerate_from a (take n marks))) ≡ map (λ e. e.0) (filter (λ e. e.1) (enumerate_from a marks))
marked_from_trimmed [] a n rest = ap (λ l. map (λ e. e.0) (filter (λ e. e.1) (enumerate_from a l))) (take_none n)
marked_from_trimmed (true ∷ marks) a zero rest = absurd (true≢false (rest zero (omega arith)))
marked_from_trimmed (false ∷ marks) a zero rest = marked_from_trimmed marks (a + 1) zero (λ k enough. rest (suc k) (omega arith))
marked_from_trimmed (true ∷ marks) a (suc n) rest = ap (λ l. a ∷ l)
    (marked_from_trimmed marks (a + 1) n (λ k enough. rest (suc k) (omega arith)))
marked_from_trimmed (false ∷ marks) a (suc n) rest = marked_from_trimmed marks (a + 1) n (λ k enough. rest (suc k) (omega arith))

pub marked_trimmed : (marks : List Bool) (n : ℕ) → ((k : ℕ) → n ≤ k → is_marked marks k ≡ false) → marked (take n marks) ≡ marked marks
marked_trimmed marks n rest = marked_from_trimmed marks 0 n rest
