-- Adding a job to a bitmap.
use Rattle.std.proofs.Common.{◌≡◌, ◌≢◌, ℕ, ◌+◌, ◌*◌, ◌/◌, ◌%◌, ◌^◌, ◌<◌, List, Bool, true, false, nat_eq, length}
use Rattle.std.proofs.Common.{get_or, set, take, sym, ap, ◌∙◌, ⊎_elim, arith}
use Rattle.std.specs.Int.{bit_at, w64}
use Rattle.std.specs.Int.Bits.{bit_or}
use Rattle.std.proofs.lemmas.Bool.{cases_eq, cases_lt}
use Rattle.std.proofs.lemmas.List.{get_or-set_same, get_or-set_other, get_or-take, get_or_past, length-take-le}
use Rattle.std.proofs.lemmas.Nat.Bits.{bit_at_set_same, bit_at_set_other}
use Rattle.needs_graph.specs.inner.JobSets.{is_in}
use Rattle.needs_graph.specs.inner.JobBitmap.{is_marked}

-- a word with one more bit
abbrev pub with_bit : ℕ → ℕ → ℕ
with_bit word bit = bit_or word (1 * 2 ^ bit % 2 ^ 64)

abbrev pub with_job : List ℕ → ℕ → List ℕ
with_job words job = set words (job / 64) (with_bit (get_or words (job / 64) 0) (job % 64))

pub with_job_it : (words : List ℕ) (job : ℕ) → job / 64 < length words → is_in (with_job words job) job ≡ true
with_job_it words job below =
    let word = get_or words (job / 64) 0 in
    let within : job % 64 < 64 = omega arith in
    ap (λ w. nat_eq (bit_at w (job % 64)) 1) (get_or-set_same words (job / 64) (with_bit word (job % 64)) 0 below)
    ∙ ap (λ b. nat_eq b 1) (bit_at_set_same w64 word (job % 64) within)

pub with_job_others : (words : List ℕ) (job : ℕ) → job / 64 < length words → (other : ℕ) → other ≢ job
    → is_in (with_job words job) other ≡ is_in words other
with_job_others words job below other apart =
    let word = get_or words (job / 64) 0 in
    let within : job % 64 < 64 = omega arith in
    ⊎_elim
    (λ same.
    let other_bit : other % 64 ≢ job % 64 = omega arith in
    ap (λ i. nat_eq (bit_at (get_or (with_job words job) i 0) (other % 64)) 1) same
    ∙ (ap (λ w. nat_eq (bit_at w (other % 64)) 1) (get_or-set_same words (job / 64) (with_bit word (job % 64)) 0 below)
    ∙ (ap (λ b. nat_eq b 1) (bit_at_set_other w64 word (job % 64) within (other % 64) other_bit)
    ∙ ap (λ i. nat_eq (bit_at (get_or words i 0) (other % 64)) 1) (sym same))))
    (λ other_word. ap (λ w. nat_eq (bit_at w (other % 64)) 1)
    (get_or-set_other words (job / 64) (other / 64) (with_bit word (job % 64)) 0 other_word))
    (cases_eq (other / 64) (job / 64))

-- ---- one more mark

set_past : (marks : List Bool) (i job : ℕ) → i < length marks → job ≢ i → is_marked (take (i + 1) marks) job ≡ is_marked (take i marks) job
set_past marks i job below apart =
    ⊎_elim
    (λ before. get_or-take (i + 1) marks job false (omega arith) ∙ sym (get_or-take i marks job false before))
    (λ past. get_or_past (take (i + 1) marks) job false (omega (arith, length-take-le (i + 1) marks (omega arith)))
    ∙ sym (get_or_past (take i marks) job false (omega (arith, length-take-le i marks (omega arith)))))
    (cases_lt job i)

-- adding the next marked job to words with the jobs so far
pub next_is_in : (marks : List Bool) (words next : List ℕ) (i : ℕ) → i < length marks → get_or marks i false ≡ true
    → ((job : ℕ) → is_in words job ≡ is_marked (take i marks) job) → is_in next i ≡ true
    → ((other : ℕ) → other ≢ i → is_in next other ≡ is_in words other) → (job : ℕ) → is_in next job ≡ is_marked (take (i + 1) marks) job
next_is_in marks words next i below marked so_far it others job =
    ⊎_elim
    (λ same. ap (is_in next) same
    ∙ (it ∙ (sym marked ∙ (sym (get_or-take (i + 1) marks i false (omega arith)) ∙ ap (is_marked (take (i + 1) marks)) (sym same)))))
    (λ apart. others job apart ∙ (so_far job ∙ sym (set_past marks i job below apart)))
    (cases_eq job i)

pub next_is_out : (marks : List Bool) (words : List ℕ) (i : ℕ) → i < length marks → get_or marks i false ≡ false
    → ((job : ℕ) → is_in words job ≡ is_marked (take i marks) job) → (job : ℕ) → is_in words job ≡ is_marked (take (i + 1) marks) job
next_is_out marks words i below unmarked so_far job =
    so_far job
    ∙ ⊎_elim
    (λ same.
    let none : is_marked (take i marks) job ≡ false = get_or_past (take i marks) job false
    (omega (arith, length-take-le i marks (omega arith))) in
    none ∙ (sym unmarked ∙ (sym (get_or-take (i + 1) marks i false (omega arith)) ∙ ap (is_marked (take (i + 1) marks)) (sym same))))
    (λ apart. sym (set_past marks i job below apart))
    (cases_eq job i)
