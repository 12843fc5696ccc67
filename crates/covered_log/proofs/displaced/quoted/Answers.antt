use Rattle.std.proofs.Common.{◌≡◌, ℕ, List, [], ◌∷◌, ◌++◌, ap, ap₂, append-nil, ◌∙◌}
use Rattle.json.specs.Print.{print, print_from, quoted}
use Rattle.json.specs.Token.{Token, string}
use Rattle.covered_log.proofs.displaced.quoted.Goals as goal

printed_alone : (t : List ℕ) → print (string t ∷ []) ≡ quoted t
unfolding print_from
printed_alone t = append-nil (quoted t)

pub returns : goal.returns
returns c =
    let bytes = ap (λ vec. vec.items) (rw c.unwrap.ensures at c.from_utf8.ensures.ok) in
    let none = c.in_ok-string.ensures.room.0 ∙ c.new-writer.ensures.before ∙ c.new.ensures.items in
    let tokens = c.in_ok-string.ensures.ok ∙ ap (λ (ts : List Token). ts ++ string c.args.text.now ∷ []) c.new-writer.ensures.tokens in
    bytes ∙ c.into_inner.ensures.items ∙ ap₂ (λ (b : List ℕ) (ts : List Token). b ++ print ts) none tokens
    ∙ printed_alone c.args.text.now
