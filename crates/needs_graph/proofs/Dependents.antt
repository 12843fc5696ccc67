-- Jobs need only existing jobs.
use Rattle.std.proofs.Common.{◌≡◌, ℕ, ◌≤◌, List, [], ◌∷◌, Bool, false, cond, eqb, length, refl, ap, ◌∙◌, arith}
use Rattle.std.specs.List.{filter, list_any, range_with_len}
use Rattle.std.proofs.lemmas.Bool.{false_from_ne_true}
use Rattle.needs_graph.specs.Needs.{needs_at, dependents_of, IsClosed}
use Rattle.needs_graph.proofs.Members.{Contains-from_Has}

none_kept : (test : ℕ → Bool) (xs : List ℕ) → ((x : ℕ) → test x ≡ false) → filter test xs ≡ []
none_kept test [] none = refl
none_kept test (x ∷ xs) none = ap (λ b. cond b (x ∷ filter test xs) (filter test xs)) (none x) ∙ none_kept test xs none

pub no_dependents : (needs : List (List ℕ)) → IsClosed needs → (job : ℕ) → length needs ≤ job → dependents_of needs job ≡ []
no_dependents needs within job past =
    none_kept (λ other. list_any (eqb job) (needs_at needs other)) (range_with_len 0 (length needs))
    (λ other. false_from_ne_true _ (λ h. absurd (omega (arith, past, within other job (Contains-from_Has (needs_at needs other) job h)))))
