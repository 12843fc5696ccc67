-- Examples of needs and conditions of jobs.
use Rattle.std.proofs.Common.{◌≡◌, [], ◌∷◌, ◌++◌, false, codes, Some, None, refl}
use Rattle.serde_json.specs.Data.{null, boolean, string}
use Rattle.wf_value.specs.declared.code.Code.TheVariants.{WrongKind}
use Rattle.wf_value.specs.declared.condition.Condition.TheVariants.{Success, Failure, Always, Cancelled, NotCancelled, Never}
use Rattle.wf_reader.specs.Workflow.{body_value}
use Rattle.wf_reader.specs.Job.{condition_in, condition_where, needs_faults, needs_in}
use Rattle.wf_reader.proofs.OnLiterals.{FaultsAre, ValuesAre, wf_reader_on_literals}

-- ---- the `if` of a job

of_texts : ValuesAre (λ text. condition_in (string text)) (
    (codes "success()", Some Success)
    ∷ (codes "true", Some Success)
    ∷ (codes "failure()", Some Failure)
    ∷ (codes "always()", Some Always)
    ∷ (codes "cancelled()", Some Cancelled)
    ∷ (codes "!cancelled()", Some NotCancelled)
    ∷ (codes "false", Some Never)
    ∷ (codes "  always() ", Some Always)
    ∷ (codes " ${{  failure() }}  ", Some Failure)
    ∷ (codes "${{success()}}", Some Success)
    -- a tab is not a space
    ∷ (9 ∷ codes "always()", None)
    ∷ (codes "${{ always()" ++ 9 ∷ codes "}}", None)
    -- a space in a word
    ∷ (codes "success( )", None)
    -- a space after the `!`
    ∷ (codes "! cancelled()", None)
    -- a capital letter
    ∷ (codes "Success()", None)
    -- nothing
    ∷ ([], None)
    -- empty braces
    ∷ (codes "${{ }}", None)
    -- braces that overlap
    ∷ (codes "${{}", None)
    -- unclosed braces
    ∷ (codes "${{ true", None)
    -- braces twice
    ∷ (codes "${{ ${{ true }} }}", None)
    -- an expression
    ∷ (codes "github.ref == 'x'", None)
    ∷ [])
of_texts = refl

a_truth_value : condition_in (boolean false) ≡ Some Never
a_truth_value = refl

null_is_none : condition_in null ≡ None
null_is_none = refl

no_if : condition_where None ≡ Success
no_if = refl

-- ---- the `needs` of a job

of_lists : ValuesAre (λ text. needs_in (body_value text)) (
    (codes "\"b\"", codes "b" ∷ [])
    ∷ (codes "[\"b\",\"a\",\"b\"]", codes "b" ∷ codes "a" ∷ codes "b" ∷ [])
    ∷ [])
unfolding wf_reader_on_literals
of_lists = refl

faults_of_lists : FaultsAre (λ text. needs_faults (body_value text)) (
    (codes "[]", [])
    ∷ (codes "null", WrongKind ∷ [])
    -- one fault for each value that is not a text
    ∷ (codes "[\"a\",1,[]]", WrongKind ∷ WrongKind ∷ [])
    ∷ [])
unfolding wf_reader_on_literals
faults_of_lists = refl
