-- Parsing one character at a time.
use Rattle.std.proofs.Common.{◌≡◌, ℕ, ◌+◌, ◌<◌, List, [], ◌∷◌, ◌++◌, length, get_or, drop, refl, ap, sym, ◌∙◌, arith}
use Rattle.std.specs.Prelude.{Option, Some, None, Ok, Err}
use Rattle.std.specs.Option.{option_and_then}
use Rattle.std.proofs.lemmas.List.{at_drop_more, at_drop_all, length_push}
use Rattle.wf_value.specs.declared.code.Code.TheVariants.{Expression}
use Rattle.wf_value.specs.declared.refusal.Refusal.{Refusal}
use Rattle.wf_value.specs.declared.refusal.Refusal.TheVariants.{Numbered}
use Rattle.wf_expr.specs.declared.piece.Piece.{Piece}
use Rattle.wf_expr.specs.declared.reader.Reader.{Reader}
use Rattle.wf_expr.specs.inner.Parsing.{needed, taken, ended, run}
use Rattle.wf_expr.proofs.EncodeLemmas.{needed-ok}

needed-none : {X : Type 0} (o : Option X) (e : Refusal) → needed o ≡ Err e → (o ≡ None) × (Numbered Expression ≡ e)
needed-none None e h = (refl, cc)
needed-none (Some y) e h = cc

-- one character, followed by the rest
run-turn : (r : Reader) (cs : List ℕ) (n c : ℕ) → (n < length cs) × (c ≡ get_or cs n c)
    → run r (drop n cs) ≡ option_and_then (λ s. run s (drop (n + 1) cs)) (taken r c)
unfolding run
run-turn r cs n c h = at_drop_more (run r) cs n c h.0 ∙ ap (λ x. option_and_then (λ s. run s (drop (n + 1) cs)) (taken r x)) (sym h.1)

pub run-ok : (r s : Reader) (cs ys : List ℕ) (c : ℕ) (whole : Option (List Piece)) → (length ys < length cs) × (c ≡ get_or cs (length ys) c)
    → run r (drop (length ys) cs) ≡ whole → needed (taken r c) ≡ Ok s → run s (drop (length (ys ++ c ∷ [])) cs) ≡ whole
run-ok r s cs ys c whole at so_far ok =
    let e = run-turn r cs (length ys) c at in
    rw (length_push ys c)
    (sym (ap (option_and_then (λ t. run t (drop (length ys + 1) cs))) (needed-ok (taken r c) s ok)) ∙ (sym e ∙ so_far))

pub run-err : (r : Reader) (cs ys : List ℕ) (c : ℕ) (whole : Option (List Piece)) (e : Refusal)
    → (length ys < length cs) × (c ≡ get_or cs (length ys) c) → run r (drop (length ys) cs) ≡ whole → needed (taken r c) ≡ Err e
    → needed whole ≡ Err e
run-err r cs ys c whole e at so_far err =
    let p = needed-none (taken r c) e err in
    let t = run-turn r cs (length ys) c at in
    let w : whole ≡ None = sym so_far ∙ (t ∙ ap (option_and_then (λ s. run s (drop (length ys + 1) cs))) p.0) in
    ap needed w ∙ ap Err p.1

pub run-end : (r : Reader) (cs ys : List ℕ) (whole : Option (List Piece)) → length ys ≡ length cs → run r (drop (length ys) cs) ≡ whole
    → ended r ≡ whole
unfolding run
run-end r cs ys whole all so_far = sym (at_drop_all (run r) cs (length ys) (omega arith)) ∙ so_far
