-- The premise of a file that holds bytes as it is opened.
use Rattle.std.proofs.Common.{◌≡◌, ◌↔◌, ℕ, List, [], ◌∷◌, length, take, drop, refl, sym, ◌∙◌, ap, subst}
use Rattle.act_disk.specs.SystemCalls.{FileCall, Measured, Gave, Wrote, WriteFailed, Grew, GrowthFailed, Synced, SyncFailed, contents, IsHonest}
use Rattle.process_io.specs.Answered.{IsReadFrom}

-- calls that only read leave the bytes as they were
pub contents-of-reads : (held : List ℕ) (calls : List FileCall) → IsReadFrom held calls → contents held calls ≡ held
contents-of-reads held [] read = refl
contents-of-reads held (Measured len ∷ earlier) read = contents-of-reads held earlier read.0
contents-of-reads held (Gave at bytes ∷ earlier) read = contents-of-reads held earlier read.0
contents-of-reads held (Wrote at bytes count ∷ earlier) read = absurd read
contents-of-reads held (WriteFailed at bytes ∷ earlier) read = absurd read
contents-of-reads held (Grew len ∷ earlier) read = absurd read
contents-of-reads held (GrowthFailed len ∷ earlier) read = absurd read
contents-of-reads held (Synced ∷ earlier) read = contents-of-reads held earlier read
contents-of-reads held (SyncFailed ∷ earlier) read = absurd read

pub reads_are_honest : (held : List ℕ) (calls : List FileCall) → IsReadFrom held calls → IsHonest held calls
reads_are_honest held [] read = tt
reads_are_honest held (Measured len ∷ earlier) read =
    (reads_are_honest held earlier read.0, λ _. read.1 ∙ ap length (sym (contents-of-reads held earlier read.0)))
reads_are_honest held (Gave at bytes ∷ earlier) read = (
  reads_are_honest held earlier read.0,
  λ _. read.1 ∙ ap (λ c. take (length bytes) (drop at c)) (sym (contents-of-reads held earlier read.0)),
)
reads_are_honest held (Wrote at bytes count ∷ earlier) read = absurd read
reads_are_honest held (WriteFailed at bytes ∷ earlier) read = absurd read
reads_are_honest held (Grew len ∷ earlier) read = absurd read
reads_are_honest held (GrowthFailed len ∷ earlier) read = absurd read
reads_are_honest held (Synced ∷ earlier) read = reads_are_honest held earlier read
reads_are_honest held (SyncFailed ∷ earlier) read = absurd read

-- after the first call, which measures it, a file is honest if that is the length of its bytes, and only then
pub honest_at_first : (held : List ℕ) (len : ℕ) (calls : List FileCall) → calls ≡ Measured len ∷ [] → IsHonest held calls ↔ (len ≡ length held)
honest_at_first held len calls e =
    let P : List FileCall → Type 0 = λ c. IsHonest held c ↔ (len ≡ length held) in
    let first : P (Measured len ∷ []) = (λ honest. honest.1 refl, λ same. (tt, λ _. same)) in
    subst P (sym e) first
