-- What the code finds of a request after a head of `n` bytes.
use Rattle.std.specs.Prelude.{◌≡◌, ℕ, ◌+◌, ◌≤◌, ◌<◌, List, ◌++◌, length, drop, Some, None, Result, Ok, Err}
use Rattle.definitions.specs.Limits.{max_body}
use Rattle.wf_value.specs.Gives.{no_memory}
use Rattle.wf_value.specs.declared.refusal.Refusal.{Refusal}
use Rattle.act_sessions.specs.declared.request.Next.{Next}
use Rattle.act_sessions.specs.declared.request.Next.TheVariants.{Waits, Whole}
use Rattle.act_sessions.specs.inner.Progress.{nothing_read}
use Rattle.webhook_sessions.specs.declared.fault.Fault.{Fault}
use Rattle.webhook_sessions.specs.Asking.{request_after}
use Rattle.webhook_sessions.specs.Heading.{Heading}

-- the body is incomplete, and stays so as long as there are fewer bytes than `until`
abbrev pub StaysIncomplete : Heading → ℕ → List ℕ → ℕ → Type 0
StaysIncomplete head n after until = (more : List ℕ) → n + length (after ++ more) < until → request_after head (after ++ more) ≡ None

-- the request and the bytes after it, or an incomplete body
abbrev pub IsFound : Heading → ℕ → List ℕ → Result (Next Fault) Refusal → Type 0
IsFound head n after (Ok (Waits until progress)) =
    (request_after head after ≡ None) × (until ≤ n + max_body) × StaysIncomplete head n after until × (progress ≡ nothing_read)
IsFound head n after (Ok (Whole found)) =
    (k : ℕ) × (found.length ≡ n + k) × (k ≤ length after) × (request_after head after ≡ Some (found.request, drop k after))
IsFound head n after (Err e) = e ≡ no_memory
