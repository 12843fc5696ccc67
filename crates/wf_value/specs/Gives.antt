-- How a contract states the result of a call that may be refused.
use Rattle.std.specs.Prelude.{◌≡◌, ◌⊎◌, Result, Ok, Err, true}
use Rattle.wf_value.specs.declared.code.Code.TheVariants.{NoMemory}
use Rattle.wf_value.specs.declared.refusal.Refusal.{Refusal}
use Rattle.wf_value.specs.declared.refusal.Refusal.TheVariants.{Numbered}

-- the refusal of a call that runs out of memory
abbrev pub no_memory : Refusal
no_memory = Numbered NoMemory

-- the call gives the defined result, seen through view, unless it runs out of memory
abbrev pub Gives : {X Y : Type 0} → (X → Y) → Result X Refusal → Result Y Refusal → Type 0
Gives view (Ok x) defined = defined ≡ Ok (view x)
Gives view (Err e) defined = (e ≡ no_memory) ⊎ (defined ≡ Err e)

-- the call fails only when it runs out of memory
abbrev pub ErrsOnlyByMemory : {X : Type 0} → Result X Refusal → Type 0
ErrsOnlyByMemory result = Gives (λ _. true) result (Ok true)
