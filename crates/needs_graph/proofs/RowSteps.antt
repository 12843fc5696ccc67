-- One more id of those that a job lists.
use Rattle.std.proofs.Common.{◌≡◌, ◌≢◌, ℕ, ◌+◌, ◌<◌, List, [], ◌∷◌, Bool, true, false, ◌||◌, Result, Ok, Err, All, IsTrue, cond, length}
use Rattle.std.proofs.Common.{get_or, set, take, replicate, sym, refl, subst, ap, ◌∙◌, ⊎_elim, arith}
use Rattle.std.specs.List.{HoldsAt, list_all}
use Rattle.std.specs.Str.{bytes_eq}
use Rattle.std.proofs.lemmas.Bool.{and_from, cases_eq, cond-false, false_from_ne_true, or_right}
use Rattle.std.proofs.lemmas.List.{get_or-map, get_or-set_same, get_or-set_other, length-map, length-set, same_lists}
use Rattle.std.proofs.lemmas.List.Folds.{list_any_more, list_all_more, list_any_none, list_any_at, list_all_at}
use Rattle.std.proofs.lemmas.Slice.Eq.{bytes_eq-Decides}
use Rattle.needs_graph.specs.Needs.{ids_rise, is_listed, is_job, unknown_need}
use Rattle.needs_graph.specs.inner.Rows.{needs_row, needs_row_of, needs_rows_of}
use Rattle.wf_value.specs.declared.refusal.Refusal.{Refusal}
use Rattle.definitions.specs.Rising.{JobNeeds}
use Rattle.needs_graph.proofs.Closure.{or_false}
use Rattle.wf_value.proofs.Rising.{names_apart}

-- no id is listed so far, and no job is marked
pub row_none : (jobs : List JobNeeds) → replicate (length jobs) false ≡ needs_row jobs []
row_none [] = refl
row_none (job ∷ jobs) = ap (λ l. false ∷ l) (row_none jobs)

abbrev pub blank : JobNeeds
blank = record { id = []; needs = [] }

bytes_same : (a b : List ℕ) → a ≡ b → bytes_eq a b ≡ true
bytes_same a b e = (bytes_eq-Decides a b).1 e

bytes_apart : (a b : List ℕ) → a ≢ b → bytes_eq a b ≡ false
bytes_apart a b ne = false_from_ne_true _ (λ e. ne ((bytes_eq-Decides a b).0 e))

-- a known id marks its job and no other
pub row_more : (jobs : List JobNeeds) → IsTrue (ids_rise jobs) → (ids : List (List ℕ)) (i index : ℕ) (id : List ℕ) → i < length ids
    → id ≡ get_or ids i id → index < length jobs → HoldsAt (λ job. job.id ≡ id) jobs index
    → set (needs_row jobs (take i ids)) index true ≡ needs_row jobs (take (i + 1) ids)
row_more jobs rise ids i index id in_ids is_id in_jobs held =
    let before = needs_row jobs (take i ids) in
    let width : length before ≡ length jobs = length-map jobs (λ job. is_listed (take i ids) job.id) in
    let wide : length (set before index true) ≡ length jobs = length-set before index true ∙ width in
    same_lists (set before index true) (needs_row jobs (take (i + 1) ids))
    (wide ∙ sym (length-map jobs (λ job. is_listed (take (i + 1) ids) job.id)))
    (λ k d below.
    let in_k : k < length jobs = omega arith in
    let here = (get_or jobs k blank).id in
    let after = get_or-map (λ job. is_listed (take (i + 1) ids) job.id) jobs k blank d in_k
    ∙ list_any_more (bytes_eq here) ids i id in_ids in
    ⊎_elim
    (λ same.
    let P : ℕ → Type 0 = λ n. get_or (set before index true) n d ≡ true in
    let marked_here : get_or (set before index true) k d ≡ true = subst P (sym same) (get_or-set_same before index true d (omega arith)) in
    let at_k : here ≡ id = ap (λ n. (get_or jobs n blank).id) same ∙ held blank in
    marked_here ∙ sym (after ∙ or_right _ _ (bytes_same here (get_or ids i id) (at_k ∙ is_id))))
    (λ other.
    let stays = get_or-set_other before index k true d other ∙ get_or-map (λ job. is_listed (take i ids) job.id) jobs k blank d in_k in
    let not_here : bytes_eq here (get_or ids i id) ≡ false = bytes_apart _ _
    (λ e. other (names_apart (λ (job : JobNeeds). job.id) jobs k index blank rise in_k in_jobs (e ∙ (sym is_id ∙ sym (held blank))))) in
    stays ∙ (or_false (is_listed (take i ids) here) ∙ (ap (λ b. is_listed (take i ids) here || b) (sym not_here) ∙ sym after)))
    (cases_eq k index))

pub known_more : (jobs : List JobNeeds) (ids : List (List ℕ)) (i index : ℕ) (id : List ℕ) → i < length ids → id ≡ get_or ids i id
    → index < length jobs → HoldsAt (λ job. job.id ≡ id) jobs index → list_all (is_job jobs) (take i ids) ≡ true
    → list_all (is_job jobs) (take (i + 1) ids) ≡ true
known_more jobs ids i index id in_ids is_id in_jobs held so_far =
    list_all_more (is_job jobs) ids i id in_ids
    ∙ and_from _ _ so_far
    (list_any_at (λ job. bytes_eq (get_or ids i id) job.id) jobs index blank in_jobs (bytes_same _ _ (sym (held blank ∙ is_id))))

is_job_not : (jobs : List JobNeeds) (id : List ℕ) → All (λ job. job.id ≢ id) jobs → is_job jobs id ≡ false
is_job_not jobs id none = list_any_none (λ job. bytes_eq id job.id) jobs (λ k d below. bytes_apart _ _ (λ e. none k d below (sym e)))

pub unknown_at : (jobs : List JobNeeds) (ids : List (List ℕ)) (i : ℕ) (id : List ℕ) → i < length ids → id ≡ get_or ids i id
    → All (λ job. job.id ≢ id) jobs → needs_row_of jobs ids ≡ Err unknown_need
unknown_at jobs ids i id in_ids is_id none =
    cond-false _ _ _ (list_all_at (is_job jobs) ids i id in_ids (ap (is_job jobs) (sym is_id) ∙ is_job_not jobs id none))

-- ---- the rows of all jobs

abbrev row_if : Bool → List Bool → Result (List Bool) Refusal
row_if known row = cond known (Ok row) (Err unknown_need)

unknown_from_row : (known : Bool) (row : List Bool) (e : Refusal) → row_if known row ≡ Err e → (unknown_need ≡ e) × (known ≡ false)
unknown_from_row true row e h = absurd (cc)
unknown_from_row false row e h = (cc, refl)

pub rows_refused : (jobs : List JobNeeds) (i : ℕ) (job : JobNeeds) (e : Refusal) → i < length jobs → job ≡ get_or jobs i job
    → needs_row_of jobs job.needs ≡ Err e → needs_rows_of jobs ≡ Err e
rows_refused jobs i job e below is_job_i refused =
    let h = unknown_from_row (list_all (is_job jobs) job.needs) (needs_row jobs job.needs) e refused in
    let test = λ (other : JobNeeds). list_all (is_job jobs) other.needs in
    cond-false _ _ _ (list_all_at test jobs i job below (ap test (sym is_job_i) ∙ h.1)) ∙ ap Err h.0
