-- Reading a text from left to right finds its outcome by the grammar.
use Rattle.std.proofs.Common.{◌≡◌, ℕ, Bool, true, false, cond, List, refl, ap, inl, inr, subst}
use Rattle.std.specs.Prelude.{Option, Some, None, Ok, Err}
use Rattle.wf_expr.specs.Faults.{wrong_expression, wrong_place}
use Rattle.wf_expr.specs.Outcome.{IsOutcome, Parsed}
use Rattle.wf_expr.specs.inner.Parsing.{is_in_profile, is_allowed_in, judged, needed, outcome_of, pieces_of}
use Rattle.wf_expr.specs.Profile.{IsInProfile}
use Rattle.wf_expr.specs.declared.piece.Piece.{Piece}
use Rattle.wf_expr.specs.declared.context_site.ContextSite.{ContextSite}
use Rattle.wf_expr.proofs.ProfileLemmas.{Decides-profile, Decides-allowed_in}
use Rattle.wf_expr.proofs.EncodeLemmas.{spelled-read, read-spelled}

judged-outcome : (text : List ℕ) (site : ContextSite) (t : List Piece) → needed (pieces_of text) ≡ Ok t → (p a : Bool) → is_in_profile t ≡ p
    → is_allowed_in site t ≡ a → IsOutcome text site (cond p (cond a (Ok t) (Err wrong_place)) (Err wrong_expression))
judged-outcome text site t read false a e f =
    let P : List Piece → Type 0 = IsInProfile in
    inl (
      refl,
      λ u s. let ok = spelled-read text u s in let same : u ≡ t = cc in let yes =
          (Decides-profile t).1 (subst P same s.profile) in cc,
    )
judged-outcome text site t read true true e f = (read-spelled text t read ((Decides-profile t).0 e), (Decides-allowed_in site t).0 f)
judged-outcome text site t read true false e f =
    inr (refl, (t, read-spelled text t read ((Decides-profile t).0 e), λ a. let yes = (Decides-allowed_in site t).1 a in cc))

pub given : (text : List ℕ) (site : ContextSite) (o : Option (List Piece)) → pieces_of text ≡ o → IsOutcome text site (judged site o)
given text site None e = inl (refl, λ t s. let ok = spelled-read text t s in cc)
given text site (Some t) e = judged-outcome text site t (ap needed e) (is_in_profile t) (is_allowed_in site t) refl refl

abbrev pub found : (text : List ℕ) (site : ContextSite) → Parsed text site
found text site = record { outcome = outcome_of text site; is_outcome = given text site (pieces_of text) refl }
