use Rattle.std.proofs.Common.{◌≡◌, ◌∙◌, List, ℕ, [], ◌∷◌, ap, refl}
use Rattle.std.specs.Prelude.{codes, option_map}
use Rattle.wf_value.proofs.PassedOn.{same_Ok}
use Rattle.table_views.specs.RunRows.{pull_title, sent_text}
use Rattle.table_views.proofs.run_rows.pull_title.Goals as goal

pub returns : goal.returns
returns c =
    let one = same_Ok _ _ c.in_ok-from_str.ensures.gives in
    let two = same_Ok _ _ c.in_ok-from_str-2.ensures.gives in
    let three = same_Ok _ _ c.in_ok-from_str-3.ensures.gives in
    let four = same_Ok _ _ c.in_ok-from_str-4.ensures.gives in
    let path : c.as_slice.result.now ≡ (codes "github" ∷ codes "event" ∷ codes "pull_request" ∷ codes "title" ∷ []) =
    c.as_slice.ensures ∙ rw (← one, ← two, ← three, ← four) refl in
    let said : option_map (λ text. text.now) c.sent_text.result ≡ pull_title c.args.event.now =
    c.sent_text.ensures ∙ ap (λ (names : List (List ℕ)). sent_text names c.args.event.now) path in
    rw (← said) c.copied.ensures
