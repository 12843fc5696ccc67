use Rattle.std.proofs.Common.{◌≡◌, ◌∙◌, List, ℕ, [], ◌∷◌, ap, refl, sym}
use Rattle.std.specs.Prelude.{codes, option_map, Ok, Some, None}
use Rattle.wf_value.proofs.PassedOn.{same_Ok}
use Rattle.table_views.specs.RunRows.{first_line, sent_text}
use Rattle.table_views.proofs.run_rows.commit_title.Goals as goal

pub returns-in-Some : goal.returns-in-Some
returns-in-Some c =
    let one = same_Ok _ _ c.in_ok-from_str.ensures.gives in
    let two = same_Ok _ _ c.in_ok-from_str-2.ensures.gives in
    let three = same_Ok _ _ c.in_ok-from_str-3.ensures.gives in
    let four = same_Ok _ _ c.in_ok-from_str-4.ensures.gives in
    let path : c.as_slice.result.now ≡ (codes "github" ∷ codes "event" ∷ codes "head_commit" ∷ codes "message" ∷ []) =
    c.as_slice.ensures ∙ rw (← one, ← two, ← three, ← four) refl in
    let said : Some c.in-Some.message.now ≡ sent_text (codes "github" ∷ codes "event" ∷ codes "head_commit" ∷ codes "message" ∷ []) c.args.event.now =
    ap (option_map (λ text. text.now)) (sym c.in-Some.is) ∙ c.sent_text.ensures ∙ ap (λ (names : List (List ℕ)). sent_text names c.args.event.now) path in
    ap Ok (ap (option_map first_line) (sym said) ∙ ap Some (sym c.first_line.ensures ∙ same_Ok _ _ c.in_ok-from_str-in-Some.ensures.gives))

pub returns : goal.returns
returns c =
    let one = same_Ok _ _ c.in_ok-from_str.ensures.gives in
    let two = same_Ok _ _ c.in_ok-from_str-2.ensures.gives in
    let three = same_Ok _ _ c.in_ok-from_str-3.ensures.gives in
    let four = same_Ok _ _ c.in_ok-from_str-4.ensures.gives in
    let path : c.as_slice.result.now ≡ (codes "github" ∷ codes "event" ∷ codes "head_commit" ∷ codes "message" ∷ []) =
    c.as_slice.ensures ∙ rw (← one, ← two, ← three, ← four) refl in
    let said : None ≡ sent_text (codes "github" ∷ codes "event" ∷ codes "head_commit" ∷ codes "message" ∷ []) c.args.event.now =
    ap (option_map (λ text. text.now)) (sym c.in-None.is) ∙ c.sent_text.ensures ∙ ap (λ (names : List (List ℕ)). sent_text names c.args.event.now) path in
    ap Ok (ap (option_map first_line) (sym said))
