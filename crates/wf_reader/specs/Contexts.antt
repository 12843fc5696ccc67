-- The contexts that the sender of an event supplies, and the value of a path in them. GitHub Docs, "Contexts reference": github,
-- inputs, vars. RFC 8259 for the values.
use Rattle.std.specs.Prelude.{ℕ, List, [], ◌∷◌, Option, None, option_and_then, codes, if◌then◌else◌, refl}
use Rattle.std.specs.Coded.{Coded, code_by, coded×, coded_option}
use Rattle.std.specs.Str.{bytes_eq}
use Rattle.serde_json.specs.Data.{Data}
use Rattle.serde_json.specs.Find.{get}
use Rattle.wf_value.specs.declared.scalar.Scalar.{Scalar}
use Rattle.wf_reader.specs.Json.{scalar_in}
use Rattle.wf_reader.specs.inner.JsonCode.{coded_json}

-- the JSON of each context that is present
pub record ContextObjects : Type 0 where
  pub github : Option Data
  pub inputs : Option Data
  pub vars : Option Data

abbrev pub coded_contexts : Coded ContextObjects
coded_contexts = code_by (Option Data × (Option Data × Option Data))
    (coded× (coded_option coded_json) (coded× (coded_option coded_json) (coded_option coded_json)))
    (λ c. (c.github, (c.inputs, c.vars))) (λ t. record { github = t.0; inputs = t.1.0; vars = t.1.1 }) (λ _. refl)

-- the scalar at a path, where each name selects a member of an object; None for lists, objects and numbers that are not signed
-- 64-bit integers
abbrev pub scalar_at : List (List ℕ) → Data → Option Scalar
scalar_at [] d = scalar_in d
scalar_at (name ∷ path) d = option_and_then (scalar_at path) (get name d)

abbrev pub context_named : ContextObjects → List ℕ → Option Data
context_named c name =
    if bytes_eq name (codes "github") then c.github
    else if bytes_eq name (codes "inputs") then c.inputs
    else if bytes_eq name (codes "vars") then c.vars
    else None

-- the value of a path, whose first name is that of the context
abbrev pub sent_value : ContextObjects → List (List ℕ) → Option Scalar
sent_value c [] = None
sent_value c (name ∷ path) = option_and_then (scalar_at path) (context_named c name)

-- the contexts of an envelope
abbrev pub contexts_in : Data → ContextObjects
contexts_in d = record { github = get (codes "github") d; inputs = get (codes "inputs") d; vars = get (codes "vars") d }
