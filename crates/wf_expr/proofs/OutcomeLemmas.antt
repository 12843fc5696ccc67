-- Parsing gives the outcome that the grammar defines, and no other.
use Rattle.std.proofs.Common.{◌≡◌, ◌⊎◌, ℕ, Bool, true, false, cond, List, refl, ap, sym, ◌∙◌, inl, inr, subst}
use Rattle.std.specs.Bool.{Decides}
use Rattle.std.specs.Prelude.{Option, Some, None, Result, Ok, Err, IfOk, IfErr}
use Rattle.wf_value.specs.declared.refusal.Refusal.{Refusal}
use Rattle.wf_value.specs.Gives.{Gives, no_memory}
use Rattle.wf_expr.specs.Faults.{wrong_expression, wrong_place}
use Rattle.wf_expr.specs.Outcome.{IsOutcome, EncodesNone, EncodesElsewhere}
use Rattle.wf_expr.specs.inner.Parsing.{is_in_profile, is_allowed_in, judged, needed, outcome_of, pieces_of}
use Rattle.wf_expr.specs.Profile.{Encodes, IsInProfile, AllowedIn}
use Rattle.wf_expr.specs.declared.piece.Piece.{Piece}
use Rattle.wf_expr.specs.declared.context_site.ContextSite.{ContextSite}
use Rattle.wf_expr.proofs.ProfileLemmas.{Decides-profile, Decides-allowed_in}
use Rattle.wf_expr.proofs.EncodeLemmas.{spelled-read, read-spelled}
use Rattle.wf_expr.proofs.Found.{found}

-- ---- deciding the outcome of a parsed text
off : {P : Type 0} (b : Bool) → Decides b P → ¬ P → b ≡ false
off true t n = absurd (n (t.0 refl))
off false t n = refl

pub judged-off : (site : ContextSite) (t : List Piece) → ¬ (IsInProfile t) → judged site (Some t) ≡ Err wrong_expression
judged-off site t n =
    ap (λ b. cond b (cond (is_allowed_in site t) (Ok t) (Err wrong_place)) (Err wrong_expression))
    (off (is_in_profile t) (Decides-profile t) n)

in-profile : (site : ContextSite) (t : List Piece) → IsInProfile t
    → judged site (Some t) ≡ cond (is_allowed_in site t) (Ok t) (Err wrong_place)
in-profile site t p =
    ap (λ b. cond b (cond (is_allowed_in site t) (Ok t) (Err wrong_place)) (Err wrong_expression)) ((Decides-profile t).1 p)

pub judged-ok : (site : ContextSite) (t : List Piece) → IsInProfile t → AllowedIn site t → judged site (Some t) ≡ Ok t
judged-ok site t p a = in-profile site t p ∙ ap (λ b. cond b (Ok t) (Err wrong_place)) ((Decides-allowed_in site t).1 a)

pub judged-elsewhere : (site : ContextSite) (t : List Piece) → IsInProfile t → ¬ (AllowedIn site t) → judged site (Some t) ≡ Err wrong_place
judged-elsewhere site t p n =
    in-profile site t p ∙ ap (λ b. cond b (Ok t) (Err wrong_place)) (off (is_allowed_in site t) (Decides-allowed_in site t) n)

-- a parsed text has these pieces
pub read-some : (o : Option (List Piece)) (t : List Piece) → needed o ≡ Ok t → o ≡ Some t
read-some None t e = cc
read-some (Some u) t e = cc

pub read-none : (site : ContextSite) (o : Option (List Piece)) (e : Refusal) → needed o ≡ Err e → judged site o ≡ Err e
read-none site None e h = cc
read-none site (Some t) e h = cc

-- each outcome by the grammar is the function's answer
read-of : (text : List ℕ) (t : List Piece) → Encodes text t → pieces_of text ≡ Some t
read-of text t s = read-some (pieces_of text) t (spelled-read text t s)

unspelled : (text : List ℕ) (site : ContextSite) (o : Option (List Piece)) → pieces_of text ≡ o → EncodesNone text
    → judged site o ≡ Err wrong_expression
unspelled text site None e n = refl
unspelled text site (Some t) e n = judged-off site t (λ p. n t (read-spelled text t (ap needed e) p))

computed : (text : List ℕ) (site : ContextSite) (outcome : Result (List Piece) Refusal) → IsOutcome text site outcome
    → outcome_of text site ≡ outcome
computed text site (Ok t) o = ap (judged site) (read-of text t o.0) ∙ judged-ok site t o.0.profile o.1
computed text site (Err e) (inl p) = unspelled text site (pieces_of text) refl p.1 ∙ ap Err (sym p.0)
computed text site (Err e) (inr p) =
    ap (judged site) (read-of text p.1.0 p.1.1) ∙ (judged-elsewhere site p.1.0 p.1.1.profile p.1.2 ∙ ap Err (sym p.0))

outcome-of : (text : List ℕ) (site : ContextSite) (outcome : Result (List Piece) Refusal) → outcome_of text site ≡ outcome
    → IsOutcome text site outcome
outcome-of text site outcome e =
    let P : Result (List Piece) Refusal → Type 0 = IsOutcome text site in
    subst P e (found text site).is_outcome

pub only-one : (text : List ℕ) (site : ContextSite) (outcome other : Result (List Piece) Refusal) → IsOutcome text site outcome
    → IsOutcome text site other → outcome ≡ other
only-one text site outcome other o p = sym (computed text site outcome o) ∙ computed text site other p

-- ---- the clauses of `parse`, from the result
abbrev GivesIt : List ℕ → ContextSite → Result (List Piece) Refusal → Type 0
GivesIt text site r = Gives (λ p. p) r (outcome_of text site)

pub when-outcome : (text : List ℕ) (site : ContextSite) (r : Result (List Piece) Refusal) → GivesIt text site r
    → (outcome : Result (List Piece) Refusal) → IsOutcome text site outcome → Gives (λ p. p) r outcome
when-outcome text site r g outcome o =
    let P : Result (List Piece) Refusal → Type 0 = Gives (λ p. p) r in
    subst P (computed text site outcome o) g

pub when-ok : (text : List ℕ) (site : ContextSite) (r : Result (List Piece) Refusal) → GivesIt text site r
    → IfOk r (λ t. Encodes text t × AllowedIn site t)
when-ok text site (Ok t) g = outcome-of text site (Ok t) g
when-ok text site (Err e) g = tt

pub only-expression : (text : List ℕ) (site : ContextSite) (r : Result (List Piece) Refusal) → GivesIt text site r → r ≡ Err wrong_expression
    → EncodesNone text
only-expression text site (Ok t) g h = cc
only-expression text site (Err e) (inl m) h = let same : e ≡ wrong_expression = cc in cc
only-expression text site (Err e) (inr g) h =
    elim (outcome-of text site (Err e) g) [ inl p ↦ p.1 | inr p ↦ let same : e ≡ wrong_expression = cc in let other = p.0 in cc ]

pub only-site : (text : List ℕ) (site : ContextSite) (r : Result (List Piece) Refusal) → GivesIt text site r → r ≡ Err wrong_place
    → EncodesElsewhere text site
only-site text site (Ok t) g h = cc
only-site text site (Err e) (inl m) h = let same : e ≡ wrong_place = cc in cc
only-site text site (Err e) (inr g) h =
    elim (outcome-of text site (Err e) g) [ inl p ↦ let same : e ≡ wrong_place = cc in let other = p.0 in cc | inr p ↦ p.1 ]

pub which-error : (text : List ℕ) (site : ContextSite) (r : Result (List Piece) Refusal) → GivesIt text site r
    → IfErr r (λ e. (e ≡ wrong_expression) ⊎ (e ≡ wrong_place) ⊎ (e ≡ no_memory))
which-error text site (Ok t) g = tt
which-error text site (Err e) (inl m) = inr (inr m)
which-error text site (Err e) (inr g) = elim (outcome-of text site (Err e) g) [ inl p ↦ inl p.0 | inr p ↦ inr (inl p.0) ]
