-- The effect of a write of an area's own gate on what it reads as.
use Rattle.std.proofs.Common.{◌≡◌, inl, inr, ℕ, ◌+◌, ◌<◌, ◌≤◌, List, [], ◌∷◌, length, take, drop, sym, ◌∙◌, ap, subst, arith}
use Rattle.std.proofs.lemmas.Bool.{cases_eq}
use Rattle.definitions.specs.Disk.{Torn, Holds, From, EachSince}
use Rattle.act_disk.proofs.Moments.{weakened}
use Rattle.gated_journal.specs.Choice.{part}
use Rattle.definitions.specs.Area.{Head, IsClosed, Reads, WouldRead}
use Rattle.gated_journal.specs.OnDisk.{ReadsAt, WouldReadAt, ShutAt, OpenOrShut}
use Rattle.gated_journal.proofs.Frames.{length-part, part_torn, part_held}

-- a write of the gate leaves the bytes after it
pub gate_torn : (a b : List ℕ) → 0 < length a → Torn 0 1 a b → (gate : ℕ) × (b ≡ gate ∷ drop 1 a)
gate_torn a [] some torn = absurd (omega (arith, some, torn.no_shorter))
gate_torn a (gate ∷ b) some torn = (gate, ap (λ (l : List ℕ). gate ∷ l) torn.after)

pub would_read : (a : List ℕ) (head : Head) (bodies : List (List ℕ)) → WouldRead a head bodies → Reads (0xA5 ∷ drop 1 a) head bodies
would_read [] head bodies would = absurd would
would_read (x ∷ a) head bodies would = would

some_would : (a : List ℕ) (head : Head) (bodies : List (List ℕ)) → WouldRead a head bodies → 0 < length a
some_would [] head bodies would = absurd would
some_would (x ∷ a) head bodies would = omega arith

module _ (start len : ℕ) (head : Head) (bodies : List (List ℕ)) (d c : List ℕ) (would : WouldReadAt start len d head bodies)
    (torn : Torn start 1 d c) where
  abbrev before : List ℕ
  before = part start len d

  some : 0 < length before
  some = some_would before head bodies would.would

  one : 0 + 1 ≤ len
  one = omega (arith, some, length-part start len d would.within)

  place : start ≡ start + 0
  place = omega arith

  gated : (g : ℕ) × (part start len c ≡ g ∷ drop 1 before)
  gated = gate_torn before (part start len c) some
      (part_torn start len d c would.within 0 1 one (subst (λ (k : ℕ). Torn k 1 d c) place torn))

  longer : start + len ≤ length c
  longer = omega (arith, would.within, torn.no_shorter)

  open_reads : (g : ℕ) → part start len c ≡ g ∷ drop 1 before → g ≡ 0xA5 → ReadsAt start len c head bodies
  open_reads g found is = record {
    within = longer;
    reads = subst (λ (l : List ℕ). Reads l head bodies) (sym (found ∙ ap (λ (x : ℕ). x ∷ drop 1 before) is))
        (would_read before head bodies would.would);
  }

  shut_would : (g : ℕ) → part start len c ≡ g ∷ drop 1 before → (g ≡ 0xA5 → ⊥) → ShutAt start len c head bodies
  shut_would g found isnt = record {
    would = record {
      within = longer;
      would = subst (λ (l : List ℕ). WouldRead l head bodies) (sym found) (would_read before head bodies would.would);
    };
    closed = subst IsClosed (sym found) isnt;
  }

  pub gate_written : OpenOrShut start len head bodies c
  gate_written = elim (cases_eq gated.0 0xA5) [
    | inl is ↦ inl (open_reads gated.0 gated.1 is)
    | inr isnt ↦ inr (shut_would gated.0 gated.1 isnt)
  ]

  first_is : (byte : ℕ) → Holds c start (byte ∷ []) → gated.0 ≡ byte
  first_is byte holds =
      let inner : Holds (part start len c) 0 (byte ∷ []) =
      part_held start len d c would.within 0 (byte ∷ []) one (ap (λ (k : ℕ). take 1 (drop k c)) (sym place) ∙ holds) in
      let first : gated.0 ∷ [] ≡ byte ∷ [] = sym (ap (λ (l : List ℕ). take 1 l) gated.1) ∙ inner in cc first

  pub gate_opened : Holds c start (0xA5 ∷ []) → ReadsAt start len c head bodies
  gate_opened holds = open_reads gated.0 gated.1 (first_is 0xA5 holds)

  pub gate_shut : Holds c start (0 ∷ []) → ShutAt start len c head bodies
  gate_shut holds = shut_would gated.0 gated.1 (λ is. omega (arith, first_is 0 holds, is))

each_gate : (start len : ℕ) (head : Head) (bodies : List (List ℕ)) (images : List ℕ → Type 0)
    → ((c : List ℕ) → images c → WouldReadAt start len c head bodies) → (c : List ℕ) → From (Torn start 1) images c
    → OpenOrShut start len head bodies c
each_gate start len head bodies images would c from = gate_written start len head bodies from.0 c (would from.0 from.1) from.2

-- what each image since such a write reads as
pub gate_moments : {D : Type 0} (moment : D → ℕ) (images_since : D → ℕ → List ℕ → Type 0) (images : List ℕ → Type 0) (old new : D)
    (start len : ℕ) (head : Head) (bodies : List (List ℕ)) → EachSince moment images_since old new (From (Torn start 1) images)
    → ((c : List ℕ) → images c → WouldReadAt start len c head bodies)
    → EachSince moment images_since old new (OpenOrShut start len head bodies)
gate_moments moment images_since images old new start len head bodies since would =
    weakened moment images_since old new (From (Torn start 1) images) (OpenOrShut start len head bodies) since
    (each_gate start len head bodies images would)
