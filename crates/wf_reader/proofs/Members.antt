-- The jobs of a workflow, from the entries of a `Map`.
use Rattle.std.proofs.Common.{◌≡◌, ℕ, ◌<◌, ◌≤◌, List, [], ◌∷◌, map, length, true, false, nat_le, Option, Some, None}
use Rattle.std.proofs.Common.{unwrap_or, option_and_then, Err, sym, ap, ◌∙◌, arith}
use Rattle.std.specs.List.{flat_map}
use Rattle.std.proofs.lemmas.Bool.Decides.{nat_tests}
use Rattle.std.proofs.lemmas.List.Folds.{flat_map-map}
use Rattle.std.proofs.lemmas.List.{length-map}
use Rattle.std.proofs.lemmas.Simd.{map-map}
use Rattle.serde_json.specs.Data.{Data, null, Members, no_members}
use Rattle.serde_json.specs.Find.{as_object}
use Rattle.serde_json.specs.View.{members_view}
use Rattle.serde_json.proofs.Views.{Entry}
use Rattle.wf_value.specs.declared.code.Code.TheVariants.{TooManyJobs}
use Rattle.wf_value.specs.declared.refusal.Refusal.{Refusal}
use Rattle.wf_value.specs.declared.refusal.Refusal.TheVariants.{Numbered}
use Rattle.wf_reader.specs.Faults.{unless_faulty}
use Rattle.wf_reader.specs.Job.{job_faults, job_of}
use Rattle.wf_reader.specs.Json.{member_list, members_of}
use Rattle.wf_reader.specs.Workflow.{jobs_faults}
use Rattle.wf_reader.specs.declared.job.Job.{Job}
use Rattle.wf_reader.proofs.Contents.{named, member_list-named}

abbrev faults_at : Entry → List Refusal
faults_at e = job_faults (named e)

abbrev job_at : Entry → Job
job_at e = job_of (named e)

members_of-here : (g : Option Data) (ms : Members) → Some ms ≡ option_and_then as_object g
    → members_of (unwrap_or g null) ≡ member_list ms
members_of-here None ms h = absurd cc
members_of-here (Some d) ms h = ap (λ o. member_list (unwrap_or o no_members)) (sym h)

jobs_faults-within : (ps : List (List ℕ × Data)) → 0 < length ps → length ps ≤ 256 → jobs_faults ps ≡ flat_map job_faults ps
jobs_faults-within [] filled few = absurd (omega arith)
jobs_faults-within (p ∷ ps) filled few = let test : nat_le (length (p ∷ ps)) 256 ≡ true = grind (arith, nat_tests) in rw test

jobs_faults-over : {Y : Type 0} (ps : List (List ℕ × Data)) (y : Y) → 256 < length ps
    → unless_faulty (jobs_faults ps) y ≡ Err (Numbered TooManyJobs)
jobs_faults-over [] y many = absurd (omega arith)
jobs_faults-over (p ∷ ps) y many = let test : nat_le (length (p ∷ ps)) 256 ≡ false = grind (arith, nat_tests) in rw test

pairs_here : (g : Option Data) (es : List Entry) → Some (members_view es) ≡ option_and_then as_object g
    → members_of (unwrap_or g null) ≡ map named es
pairs_here g es is = members_of-here g (members_view es) is ∙ member_list-named es

pub too_many : {Y : Type 0} (g : Option Data) (es : List Entry) (y : Y) → Some (members_view es) ≡ option_and_then as_object g
    → 256 < length es → unless_faulty (jobs_faults (members_of (unwrap_or g null))) y ≡ Err (Numbered TooManyJobs)
too_many g es y is many =
    ap (λ ps. unless_faulty (jobs_faults ps) y) (pairs_here g es is) ∙ jobs_faults-over (map named es) y (rw length-map many)

pub jobs_here : (g : Option Data) (es : List Entry) → Some (members_view es) ≡ option_and_then as_object g → 0 < length es
    → length es ≤ 256
    → unless_faulty (flat_map faults_at es) (map job_at es) ≡ unless_faulty (jobs_faults (members_of (unwrap_or g null)))
    (map job_of (members_of (unwrap_or g null)))
jobs_here g es is filled few =
    let faults : jobs_faults (map named es) ≡ flat_map faults_at es = jobs_faults-within (map named es) (rw length-map filled)
    (rw length-map few)
    ∙ flat_map-map job_faults named es in
    let jobs : map job_of (map named es) ≡ map job_at es = map-map job_of named es in
    ap (λ fs. unless_faulty fs (map job_at es)) (sym faults) ∙ ap (unless_faulty (jobs_faults (map named es))) (sym jobs)
    ∙ ap (λ ps. unless_faulty (jobs_faults ps) (map job_of ps)) (sym (pairs_here g es is))
