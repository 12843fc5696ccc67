-- What is kept of the bytes that a session holds, so that they are not read again.
use Rattle.std.specs.Prelude.{◌≤◌, ℕ, List, Result, Ok, Err, ⊤}
use Rattle.wf_value.specs.declared.refusal.Refusal.{Refusal}
use Rattle.act_sessions.specs.declared.request.Next.{Next}
use Rattle.act_sessions.specs.declared.request.Next.TheVariants.{Waits, Whole}
use Rattle.act_sessions.specs.declared.request.Progress.{Progress}
use Rattle.act_sessions.specs.Rules.{Rules, WaitUntil}

-- if the bytes wait, what is known of how far they were read
abbrev pub Keeps : {F : Type 0} → (Progress → Type 0) → Result (Next F) Refusal → Type 0
Keeps known (Ok (Waits until progress)) = known progress
Keeps known (Ok (Whole found)) = ⊤
Keeps known (Err e) = ⊤

-- So far the bytes were read. As long as there are fewer than `until`, they are less than a request.
pub record IsHeld {F : Type 0} (p : Rules F) (known : List ℕ → Progress → Type 0) (bytes : List ℕ) (progress : Progress) (until : ℕ) : Type 0 where
  pub read : known bytes progress
  pub few : until ≤ p.limit
  pub waits : WaitUntil p bytes until
