-- The findings in a text, from its value.
use Rattle.std.proofs.Common.{◌≡◌, ℕ, List, [], ◌∷◌, Bool, true, false, if◌then◌else◌, Option, Some, None, nat_le, length, unwrap_or}
use Rattle.std.proofs.Common.{Result, Ok, Err, refl, sym, ap, ◌∙◌, ◌⊎◌, inl, inr, ◌<◌, arith}
use Rattle.std.specs.Prelude.{IsErrAnd}
use Rattle.std.specs.Option.{option_map_or}
use Rattle.serde_json.specs.Data.{Data, null}
use Rattle.wf_value.specs.Gives.{Gives, no_memory}
use Rattle.wf_value.specs.declared.code.Code.TheVariants.{NotJson, TooLong}
use Rattle.wf_value.specs.declared.refusal.Refusal.{Refusal}
use Rattle.wf_reader.specs.Workflow.{body_faults, body_value, json_of, workflow_faults, workflow_of}
use Rattle.wf_reader.specs.Faults.{fault, required, unless_faulty}
use Rattle.wf_reader.specs.declared.workflow.Workflow.{Workflow}
use Rattle.workflow_lint.specs.Findings.{at, refusals}
use Rattle.workflow_lint.specs.InWorkflow.{found_in_text, workflow_at}
use Rattle.workflow_lint.specs.Plans.{found_in, or_else, plan_found}
use Rattle.workflow_lint.specs.declared.finding.Finding.{Finding}
use Rattle.workflow_lint.proofs.Laws.{of_text}

abbrev by_value : Bool → Option Data → List Finding
by_value fits o = if fits then option_map_or workflow_at o (at [] (fault NotJson)) else at [] (fault TooLong)

abbrev read_as : Bool → Option Data → Result Data Refusal
read_as fits o = unless_faulty (if fits then required NotJson (λ _. []) o else fault TooLong) (unwrap_or o null)

value_by : (b : Bool) (o : Option Data) (d : Data) → read_as b o ≡ Ok d → by_value b o ≡ workflow_at d
value_by true None d is = absurd cc
value_by true (Some e) d is = let same : e ≡ d = cc in ap workflow_at same
value_by false o d is = absurd cc

refusal_by : (b : Bool) (o : Option Data) (e : Refusal) → read_as b o ≡ Err e → by_value b o ≡ at [] (e ∷ [])
refusal_by true None e is = let same : fault NotJson ≡ e ∷ [] = cc in ap (at []) same
refusal_by true (Some d) e is = absurd cc
refusal_by false o e is = let same : fault TooLong ≡ e ∷ [] = cc in ap (at []) same

pub found_in_value : (bytes : List ℕ) (d : Data) → unless_faulty (body_faults (λ _. []) bytes) (body_value bytes) ≡ Ok d
    → found_in_text bytes ≡ workflow_at d
found_in_value bytes d is = value_by (nat_le (length bytes) 65536) (json_of bytes) d is

pub found_without : (bytes : List ℕ) (e : Refusal) → unless_faulty (body_faults (λ _. []) bytes) (body_value bytes) ≡ Err e
    → found_in_text bytes ≡ at [] (e ∷ [])
found_without bytes e is = refusal_by (nat_le (length bytes) 65536) (json_of bytes) e is

-- ---- a text without findings

pub not_refused : (bytes : List ℕ) (e : Refusal) → found_in_text bytes ≡ []
    → unless_faulty (workflow_faults bytes) (workflow_of bytes) ≡ Err e → ⊥
not_refused bytes e none is =
    let right : workflow_faults bytes ≡ [] = sym (of_text bytes) ∙ ap refusals none in
    let well : unless_faulty (workflow_faults bytes) (workflow_of bytes) ≡ Ok (workflow_of bytes) =
    ap (λ fs. unless_faulty fs (workflow_of bytes)) right in cc

pub plan_alone : (bytes : List ℕ) (w : Workflow) → found_in_text bytes ≡ []
    → unless_faulty (workflow_faults bytes) (workflow_of bytes) ≡ Ok w → found_in bytes ≡ plan_found w.jobs
plan_alone bytes w none is =
    let right : workflow_faults bytes ≡ [] = sym (of_text bytes) ∙ ap refusals none in
    let well : unless_faulty (workflow_faults bytes) (workflow_of bytes) ≡ Ok (workflow_of bytes) =
    ap (λ fs. unless_faulty fs (workflow_of bytes)) right in
    let same : workflow_of bytes ≡ w = cc in
    ap (λ l. or_else l (plan_found (workflow_of bytes).jobs)) none ∙ ap (λ (v : Workflow). plan_found v.jobs) same

-- reading such a text fails only when it runs out of memory
pub only_memory : {X : Type 0} (v : X → List Finding) (r : Result X Refusal) (bytes : List ℕ) (e : Refusal) → IsErrAnd r (λ f. f ≡ e)
    → found_in_text bytes ≡ [] → (e ≡ no_memory) ⊎ (unless_faulty (workflow_faults bytes) (workflow_of bytes) ≡ Err e)
    → Gives v r (Ok (found_in bytes))
only_memory v (Ok x) bytes e is none why = absurd is
only_memory v (Err f) bytes e is none (inl short) = inl (is ∙ short)
only_memory v (Err f) bytes e is none (inr refused) = absurd (not_refused bytes e none refused)

pub none_in : (found text : List Finding) → found ≡ text → length found ≡ 0 → text ≡ []
none_in [] text is empty = sym is
none_in (f ∷ fs) text is empty = absurd (omega arith)

-- ---- a text with findings

filled_else : (found later : List Finding) → 0 < length found → or_else found later ≡ found
filled_else [] later filled = absurd (omega arith)
filled_else (f ∷ fs) later filled = refl

pub text_alone : (found text later : List Finding) → found ≡ text → 0 < length found → or_else text later ≡ found
text_alone found text later is filled = ap (λ l. or_else l later) (sym is) ∙ filled_else found later filled
