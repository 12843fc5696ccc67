-- The fault of what the reader reads, and of what the planner plans.
use Rattle.std.proofs.Common.{◌≡◌, List, true, false, inl, inr, Option, Result, Ok, Err, refl, sym, ap, ◌∙◌, subst}
use Rattle.std.specs.Prelude.{IfOk, IsErr, is_some, option_map, option_to_list, Some, None}
use Rattle.serde_json.specs.Data.{Data, null, boolean, number, string, array, object}
use Rattle.wf_value.specs.Gives.{Gives, no_memory}
use Rattle.wf_value.specs.declared.refusal.Refusal.{Refusal}
use Rattle.wf_expr.specs.declared.context_site.ContextSite.{ContextSite}
use Rattle.wf_expr.specs.declared.context_site.ContextSite.TheVariants as context_site
use Rattle.wf_reader.specs.Faults.{outcome_faults, unless_faulty}
use Rattle.wf_reader.specs.Job.{flag_faults, label_faults}
use Rattle.wf_reader.specs.Templates.{template_of}

-- ---- one fault at most: the first is all

pub of_outcome : {X Y : Type 0} (r : Result X Refusal) (y : Y) → outcome_faults (unless_faulty (outcome_faults r) y) ≡ outcome_faults r
of_outcome (Ok x) y = refl
of_outcome (Err e) y = refl

pub of_label : {X : Type 0} (d : Data) (x : X) → outcome_faults (unless_faulty (label_faults d) x) ≡ label_faults d
of_label null x = refl
of_label (boolean b) x = refl
of_label (number n) x = refl
of_label (string t) x = of_outcome (template_of t context_site.Job) x
of_label (array ds) x = refl
of_label (object ms) x = refl

pub of_flag : {X : Type 0} (site : ContextSite) (d : Data) (x : X)
    → outcome_faults (unless_faulty (flag_faults site d) x) ≡ flag_faults site d
of_flag site null x = refl
of_flag site (boolean b) x = refl
of_flag site (number n) x = refl
of_flag site (string t) x = of_outcome (template_of t site) x
of_flag site (array ds) x = refl
of_flag site (object ms) x = refl

-- ---- the fault of a call, unless it runs out of memory

pub fault_given : {X Y E : Type 0} (view : X → Y) (outcome : Result X Refusal) (defined : Result Y Refusal)
    (fault : Result (Option Refusal) E) → Gives view outcome defined
    → IfOk fault (λ f. option_to_list f ≡ outcome_faults outcome) → (outcome ≡ Err no_memory → IsErr fault)
    → IfOk fault (λ f. option_to_list f ≡ outcome_faults defined)
fault_given view outcome defined (Err a) gives is memory = tt
fault_given view (Ok x) defined (Ok f) gives is memory = is ∙ sym (ap outcome_faults gives)
fault_given view (Err e) defined (Ok f) (inl out) is memory = let failed : true ≡ false = sym (memory (ap Err out)) in absurd cc
fault_given view (Err e) defined (Ok f) (inr refused) is memory = is ∙ sym (ap outcome_faults refused)

-- where the definition has one fault at most
pub fault_read : {X Y E : Type 0} (view : X → Y) (outcome : Result X Refusal) (faults : List Refusal) (value : Y)
    (fault : Result (Option Refusal) E) → outcome_faults (unless_faulty faults value) ≡ faults
    → Gives view outcome (unless_faulty faults value)
    → IfOk fault (λ f. option_to_list f ≡ outcome_faults outcome) → (outcome ≡ Err no_memory → IsErr fault)
    → IfOk fault (λ f. option_to_list f ≡ faults)
fault_read view outcome faults value fault all gives is memory =
    subst (λ (fs : List Refusal). IfOk fault (λ f. option_to_list f ≡ fs)) all
    (fault_given view outcome (unless_faulty faults value) fault gives is memory)

-- ---- a value of a matrix

pub some_mapped : {X Y : Type 0} (f : X → Y) (o : Option X) → is_some (option_map f o) ≡ is_some o
some_mapped f None = refl
some_mapped f (Some x) = refl
