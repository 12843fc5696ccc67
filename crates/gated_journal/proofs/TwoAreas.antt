-- A write on a disk of two areas, as seen from both.
use Rattle.std.proofs.Common.{◌≡◌, ◌⊎◌, inl, inr, ⊎_elim, ℕ, ◌+◌, ◌<◌, ◌≤◌, ◌^◌, List}
use Rattle.std.proofs.Common.{[], ◌∷◌, ◌++◌, length, take, drop, refl, sym, ◌∙◌, ap, subst, arith}
use Rattle.std.proofs.Common.{min}
use Rattle.std.proofs.lemmas.Bool.{cases_eq}
use Rattle.definitions.specs.Disk.{Torn, Holds}
use Rattle.act_disk.proofs.Kept.{prefix_kept}
use Rattle.gated_journal.specs.Appends.{record_of, Appends}
use Rattle.gated_journal.specs.Choice.{open_generation}
use Rattle.definitions.specs.Area.{Head, opened, IsClosed, Reads, WouldRead}
use Rattle.gated_journal.specs.TwoAreas.{start_of, other, area_on, IsGate, Recovers}
use Rattle.gated_journal.specs.declared.gate.GateState.{GateState}
use Rattle.gated_journal.specs.declared.gate.GateState.TheVariants.{Open, Closed}
use Rattle.gated_journal.specs.declared.side.Side.{Side}
use Rattle.gated_journal.specs.declared.side.Side.TheVariants.{First, Second}
use Rattle.gated_journal.proofs.Choosing.{generation_read, closed_none, alone, same_active_side, greater}
use Rattle.gated_journal.proofs.Frames.{length-part, part_kept, part_torn, part_appends, part_held}
use Rattle.gated_journal.proofs.Gates.{gate_torn, would_read}
use Rattle.gated_journal.proofs.Grown.{appends_reads}

-- a gate keeps its state if its byte does not change
gate_same : (gate : GateState) (a b : List ℕ) → take 1 b ≡ take 1 a → IsGate gate a → IsGate gate b
gate_same Open [] b same is = absurd is
gate_same Closed [] b same is = absurd is
gate_same Open (x ∷ a) [] same is = absurd (cc same)
gate_same Closed (x ∷ a) [] same is = absurd (cc same)
gate_same Open (x ∷ a) (y ∷ b) same is = let first : y ≡ x = cc same in first ∙ is
gate_same Closed (x ∷ a) (y ∷ b) same is = let first : y ≡ x = cc same in λ open_there. is (sym first ∙ open_there)

not_empty : (gate : GateState) (a : List ℕ) → IsGate gate a → 0 < length a
not_empty Open [] is = absurd is
not_empty Closed [] is = absurd is
not_empty gate (x ∷ a) is = omega arith

other_twice : (side : Side) → other (other side) ≡ side
other_twice First = refl
other_twice Second = refl

read_open : (area : List ℕ) (head : Head) (bodies : List (List ℕ)) → Reads area head bodies → IsGate Open area
read_open area head bodies reads = subst (λ (l : List ℕ). IsGate Open l) (sym reads.split) refl

module _ (len : ℕ) where
  -- both areas lie within the disk
  pub within : (side : Side) (disk : List ℕ) → len + len ≤ length disk → start_of len side + len ≤ length disk
  within First disk long = omega (arith, long)
  within Second disk long = long

  -- the areas do not overlap
  apart_after : (side : Side) (at n : ℕ) → at + n ≤ len
      → (start_of len side + len ≤ start_of len (other side) + at) ⊎ ((start_of len (other side) + at) + n ≤ start_of len side)
  apart_after First at n inside = inl (omega arith)
  apart_after Second at n inside = inr (omega (arith, inside))

  -- two ranges, one in each area
  pub apart_between : (side : Side) (from m at n : ℕ) → from + m ≤ len → at + n ≤ len
      → ((start_of len side + at) + n ≤ start_of len (other side) + from) ⊎ ((start_of len
      (other side) + from) + m ≤ start_of len side + at)
  apart_between First from m at n below inside = inl (omega (arith, inside))
  apart_between Second from m at n below inside = inr (omega (arith, below))

  module _ (side : Side) (d c : List ℕ) (long : len + len ≤ length d) (at n : ℕ) (inside : at + n ≤ len) where
    -- a write of the other area
    pub kept : Torn (start_of len (other side) + at) n d c → area_on len side c ≡ area_on len side d
    kept torn = part_kept (start_of len side) len d c (within side d long) (start_of len (other side) + at) n torn
        (apart_after side at n inside)

    pub torn_inside : Torn (start_of len side + at) n d c → Torn at n (area_on len side d) (area_on len side c)
    torn_inside torn = part_torn (start_of len side) len d c (within side d long) at n inside torn

  -- an append is a write of its range
  appends_torn : (gate : ℕ) (bytes d c : List ℕ) → Appends gate bytes d c → gate + 1 ≤ length d → Torn gate (length bytes + 1) d c
  appends_torn gate bytes d c (inr whole) there = whole.torn
  appends_torn gate bytes d c (inl torn) there = record {
    no_shorter = torn.no_shorter;
    no_longer = omega (arith, torn.no_longer);
    before = prefix_kept (gate + 1) (length bytes) d c torn (min gate (length d)) (omega arith) (omega arith);
    after = let place : gate + (length bytes + 1) ≡ (gate + 1) + length bytes = omega arith in
        ap (λ (k : ℕ). drop k c) place ∙ torn.after ∙ ap (λ (k : ℕ). drop k d) (sym place);
  }

open_is : (a : List ℕ) → IsGate Open a → a ≡ 0xA5 ∷ drop 1 a
open_is [] is = absurd is
open_is (x ∷ a) is = ap (λ (g : ℕ). g ∷ a) is

module _ (len : ℕ) (side : Side) (head : Head) (bodies : List (List ℕ)) (d c : List ℕ) where
  -- with the gate of the other area closed
  pub shut_beside : len + len ≤ length c → Reads (area_on len side c) head bodies → IsClosed (area_on len (other side) c)
      → Recovers len side Closed c head bodies
  shut_beside long reads closed = record {
    encodes = record {
      long = long;
      recovers = alone len side c head.generation (generation_read (area_on len side c) head bodies reads)
          (closed_none (area_on len (other side) c) closed);
      reads = reads;
    };
    other_gate = closed;
  }

  -- with the other area unchanged
  same_beside : (gate : GateState) (more : List (List ℕ)) → Recovers len side gate d head bodies → length d ≤ length c
      → area_on len (other side) c ≡ area_on len (other side) d
      → Reads (area_on len side c) head more → Recovers len side gate c head more
  same_beside gate more recovers longer same reads =
      let before = recovers.encodes in record {
        encodes = record {
          long = omega (arith, before.long, longer);
          recovers = same_active_side len side d c
              (generation_read (area_on len side c) head more reads ∙ sym (generation_read (area_on len side d) head bodies before.reads))
              (ap (λ (l : List ℕ). open_generation l) same) ∙ before.recovers;
          reads = reads;
        };
        other_gate = subst (λ (l : List ℕ). IsGate gate l) (sym same) recovers.other_gate;
      }

  -- a write in the active area leaves the other one unchanged
  pub append_grew : (gate : GateState) (at n : ℕ) (more : List (List ℕ)) → Recovers len side gate d head bodies → at + n ≤ len
      → Torn (start_of len side + at) n d c → Reads (area_on len side c) head more → Recovers len side gate c head more
  append_grew gate at n more recovers inside torn reads =
      same_beside gate more recovers torn.no_shorter
      (kept len (other side) d c recovers.encodes.long at n inside
      (subst (λ (s : Side). Torn (start_of len s + at) n d c) (sym (other_twice side)) torn)) reads

  -- an append to the active area
  pub append_keeps : (gate : GateState) (at : ℕ) (bytes body : List ℕ) → Recovers len side gate d head bodies → at ≡ length (opened head bodies)
      → bytes ≡ record_of body → length body < 2 ^ 32 → at + (length bytes + 1) ≤ len → Appends (start_of len side + at) bytes d c
      → Recovers len side gate c head bodies ⊎ Recovers len side gate c head (bodies ++ body ∷ [])
  append_keeps gate at bytes body recovers place is short inside appends =
      let lies = within len side d recovers.encodes.long in
      let torn = appends_torn len (start_of len side + at) bytes d c appends (omega (arith, lies, inside)) in
      let inner : Appends at bytes (area_on len side d) (area_on len side c) =
      part_appends (start_of len side) len d c lies at bytes inside appends in
      let suffix : Appends (length (opened head bodies)) (record_of body) (area_on len side d) (area_on len side c) =
      subst (λ (l : List ℕ). Appends (length (opened head bodies)) l (area_on len side d) (area_on len side c)) is
      (subst (λ (k : ℕ). Appends k bytes (area_on len side d) (area_on len side c)) place inner) in
      ⊎_elim (λ reads. inl (append_grew gate at (length bytes + 1) bodies recovers inside torn reads))
      (λ reads. inr (append_grew gate at (length bytes + 1) (bodies ++ body ∷ []) recovers inside torn reads))
      (appends_reads head bodies (area_on len side d) (area_on len side c) recovers.encodes.reads body short suffix)

  -- a put into the other area, after its closed gate
  pub put_keeps : (at n : ℕ) → Recovers len side Closed d head bodies → 0 < at → at + n ≤ len
      → Torn (start_of len (other side) + at) n d c → Recovers len side Closed c head bodies
  put_keeps at n recovers suffix inside torn =
      let long = recovers.encodes.long in
      let a = area_on len (other side) d in
      let b = area_on len (other side) c in
      let inner = torn_inside len (other side) d c long at n inside torn in
      let prefix = prefix_kept at n a b inner 1 (omega (arith, not_empty Closed a recovers.other_gate)) (omega (arith, suffix)) in
      shut_beside (omega (arith, long, torn.no_shorter))
      (subst (λ (l : List ℕ). Reads l head bodies) (sym (kept len side d c long at n inside torn)) recovers.encodes.reads)
      (gate_same Closed a b prefix recovers.other_gate)

  -- a write of the other area's gate
  module _ (gate : GateState) (recovers : Recovers len side gate d head bodies) (torn : Torn (start_of len (other side)) 1 d c) where
    long_before : len + len ≤ length d
    long_before = recovers.encodes.long

    some : 0 < length (area_on len (other side) d)
    some = not_empty gate (area_on len (other side) d) recovers.other_gate

    pub one : 0 + 1 ≤ len
    one = omega (arith, some, length-part (start_of len (other side)) len d (within len (other side) d long_before))

    placed : Torn (start_of len (other side) + 0) 1 d c
    placed = let same : start_of len (other side) ≡ start_of len (other side) + 0 = omega arith in subst (λ (k : ℕ). Torn k 1 d c) same torn

    pub side_reads : Reads (area_on len side c) head bodies
    side_reads = subst (λ (l : List ℕ). Reads l head bodies) (sym (kept len side d c long_before 0 1 one placed)) recovers.encodes.reads

    pub still_long : len + len ≤ length c
    still_long = omega (arith, long_before, torn.no_shorter)

    pub gated : (g : ℕ) × (area_on len (other side) c ≡ g ∷ drop 1 (area_on len (other side) d))
    gated = gate_torn (area_on len (other side) d) (area_on len (other side) c) some
        (torn_inside len (other side) d c long_before 0 1 one placed)

    -- the byte of the gate
    pub gate_is : (byte : ℕ) → Holds c (start_of len (other side)) (byte ∷ []) → gated.0 ≡ byte
    gate_is byte holds =
        let place : start_of len (other side) ≡ start_of len (other side) + 0 = omega arith in
        let inner : Holds (area_on len (other side) c) 0 (byte ∷ []) =
        part_held (start_of len (other side)) len d c (within len (other side) d long_before) 0 (byte ∷ [])
        one (ap (λ (k : ℕ). take 1 (drop k c)) (sym place) ∙ holds) in
        let first : gated.0 ∷ [] ≡ byte ∷ [] = sym (ap (λ (l : List ℕ). take 1 l) gated.1) ∙ inner in cc first

  -- closing the other area's open gate
  pub close_keeps : Recovers len side Open d head bodies → Torn (start_of len (other side)) 1 d c
      → Recovers len side Open c head bodies ⊎ Recovers len side Closed c head bodies
  close_keeps recovers torn =
      let a = area_on len (other side) d in
      let b = area_on len (other side) c in
      let found = gated Open recovers torn in
      elim (cases_eq found.0 0xA5) [
        | inl is ↦ inl (same_beside Open bodies recovers torn.no_shorter
            (found.1 ∙ ap (λ (g : ℕ). g ∷ drop 1 a) is ∙ sym (open_is a recovers.other_gate)) (side_reads Open recovers torn))
        | inr isnt ↦ inr (shut_beside (still_long Open recovers torn) (side_reads Open recovers torn) (subst IsClosed (sym found.1) isnt))
      ]

  -- the same once it is completed
  pub close_kept : Recovers len side Open d head bodies → Torn (start_of len (other side)) 1 d c
      → Holds c (start_of len (other side)) (0 ∷ [])
      → Recovers len side Closed c head bodies
  close_kept recovers torn holds =
      let found = gated Open recovers torn in
      shut_beside (still_long Open recovers torn) (side_reads Open recovers torn)
      (subst IsClosed (sym found.1) (λ is. omega (arith, gate_is Open recovers torn 0 holds, is)))

  -- opening the other area's gate, where that area would read as newer
  module _ (next : Head) (others : List (List ℕ)) (recovers : Recovers len side Closed d head bodies)
      (would : WouldRead (area_on len (other side) d) next others) (newer : head.generation < next.generation)
      (torn : Torn (start_of len (other side)) 1 d c) where
    switched : (g : ℕ) → area_on len (other side) c ≡ g ∷ drop 1 (area_on len (other side) d) → g ≡ 0xA5
        → Recovers len (other side) Open c next others
    switched g found is =
        let a = area_on len (other side) d in
        let b = area_on len (other side) c in
        let reads : Reads b next others = subst (λ (l : List ℕ). Reads l next others)
        (sym (found ∙ ap (λ (x : ℕ). x ∷ drop 1 a) is)) (would_read a next others would) in
        let here = side_reads Closed recovers torn in record {
          encodes = record {
            long = still_long Closed recovers torn;
            recovers = greater len side c head.generation next.generation (generation_read (area_on len side c) head bodies here)
                (generation_read b next others reads) newer;
            reads = reads;
          };
          other_gate = subst (λ (s : Side). IsGate Open (area_on len s c)) (sym (other_twice side))
              (read_open (area_on len side c) head bodies here);
        }

    pub open_switches : Recovers len side Closed c head bodies ⊎ Recovers len (other side) Open c next others
    open_switches =
        let found = gated Closed recovers torn in
        elim (cases_eq found.0 0xA5) [
          | inl is ↦ inr (switched found.0 found.1 is)
          | inr isnt ↦ inl (shut_beside (still_long Closed recovers torn) (side_reads Closed recovers torn) (subst IsClosed (sym found.1) isnt))
        ]

    pub open_switched : Holds c (start_of len (other side)) (0xA5 ∷ []) → Recovers len (other side) Open c next others
    open_switched holds =
        let found = gated Closed recovers torn in switched found.0 found.1 (gate_is Closed recovers torn 0xA5 holds)
