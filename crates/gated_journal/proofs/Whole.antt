-- A disk of exactly two areas, through each write of one of them.
use Rattle.std.proofs.Common.{◌≡◌, inl, inr, ⊎_elim, ℕ, ◌+◌, ◌<◌, ◌≤◌, ◌^◌}
use Rattle.std.proofs.Common.{List, [], ◌∷◌, ◌++◌, length, refl, sym, ◌∙◌, subst, arith}
use Rattle.definitions.specs.Disk.{Torn, Holds, From, Only, EachSince}
use Rattle.act_disk.proofs.Kept.{range_kept}
use Rattle.act_disk.proofs.Moments.{weakened}
use Rattle.gated_journal.specs.Appends.{record_of, Appends, IsWhole}
use Rattle.definitions.specs.Area.{Head, opened, WouldRead}
use Rattle.gated_journal.specs.OnDisk.{ReadsAt}
use Rattle.gated_journal.specs.TwoAreas.{start_of, other, area_on, Recovers}
use Rattle.gated_journal.specs.Whole.{RecoversWhole, WholeOrGrew, WholeEither, WholeOrSwitched}
use Rattle.gated_journal.specs.declared.gate.GateState.{GateState}
use Rattle.gated_journal.specs.declared.gate.GateState.TheVariants.{Open, Closed}
use Rattle.gated_journal.specs.declared.side.Side.{Side}
use Rattle.gated_journal.proofs.Areas.{has_grown}
use Rattle.gated_journal.proofs.TwoAreas.{within, apart_between, append_keeps, append_grew, one}
use Rattle.gated_journal.proofs.TwoAreas.{put_keeps, close_keeps, close_kept, open_switches, open_switched}

torn_long : (at n : ℕ) (d c : List ℕ) → Torn at n d c → at + n ≤ length d → length c ≡ length d
torn_long at n d c torn below = omega (arith, torn.no_shorter, torn.no_longer, below)

-- ---- the active area grows

appends_long : (gate : ℕ) (bytes d c : List ℕ) → Appends gate bytes d c → gate + (length bytes + 1) ≤ length d → length c ≡ length d
appends_long gate bytes d c (inl torn) below = omega (arith, torn.no_shorter, torn.no_longer, below)
appends_long gate bytes d c (inr whole) below = omega (arith, whole.torn.no_shorter, whole.torn.no_longer, below)

-- what was put into the other area is still there after an append
pub whole_beside : (len : ℕ) (side : Side) (start at from : ℕ) (bytes put old new : List ℕ) → start ≡ start_of len side
    → len + len ≤ length old
    → from + length put ≤ len → at + (length bytes + 1) ≤ len → IsWhole (start + at) bytes old new
    → Holds old (start_of len (other side) + from) put → Holds new (start_of len (other side) + from) put
whole_beside len side start at from bytes put old new begins long below inside whole held =
    let torn = subst (λ (k : ℕ). Torn (k + at) (length bytes + 1) old new) begins whole.torn in
    range_kept (start_of len side + at) (length bytes + 1) old new torn (start_of len (other side) + from) (length put)
    (omega (arith, within len (other side) old long, below))
    (⊎_elim (λ after. inr (omega (arith, after))) (λ before. inl (omega (arith, before, below)))
    (apart_between len side from (length put) at (length bytes + 1) below inside)) ∙ held

module _ (len : ℕ) (side : Side) (head : Head) (bodies : List (List ℕ)) (gate : GateState) (start at : ℕ) (bytes body : List ℕ)
    (begins : start ≡ start_of len side) (place : at ≡ length (opened head bodies)) (is : bytes ≡ record_of body)
    (short : length body < 2 ^ 32) (inside : at + (length bytes + 1) ≤ len) where
  below_end : (d : List ℕ) → RecoversWhole len side gate d head bodies → (start + at) + (length bytes + 1) ≤ length d
  below_end d recovers = omega (arith, begins, inside, within len side d recovers.recovers.encodes.long)

  -- an append, whether complete or not
  whole_keeps : (d c : List ℕ) → RecoversWhole len side gate d head bodies → Appends (start + at) bytes d c
      → WholeOrGrew len side gate head bodies body c
  whole_keeps d c recovers appends =
      let long : length c ≡ len + len = appends_long (start + at) bytes d c appends (below_end d recovers) ∙ recovers.whole in
      ⊎_elim (λ same. inl (record { recovers = same; whole = long })) (λ more. inr (record { recovers = more; whole = long }))
      (append_keeps len side head bodies d c gate at bytes body recovers.recovers place is short inside
      (subst (λ (k : ℕ). Appends (k + at) bytes d c) begins appends))

  pub grow_moments : {D : Type 0} (moment : D → ℕ) (images_since : D → ℕ → List ℕ → Type 0) (images : D → List ℕ → Type 0) (old new : D)
      → ((c : List ℕ) → images old c → RecoversWhole len side gate c head bodies)
      → EachSince moment images_since old new (From (Appends (start + at) bytes) (images old))
      → EachSince moment images_since old new (WholeOrGrew len side gate head bodies body)
  grow_moments moment images_since images old new each since =
      weakened moment images_since old new (From (Appends (start + at) bytes) (images old)) (WholeOrGrew len side gate head bodies body)
      since (λ c from. whole_keeps from.0 c (each from.0 from.1) from.2)

  -- the same once it is completed
  grew : (old new : List ℕ) → Recovers len side gate old head bodies → IsWhole (start + at) bytes old new
      → Holds new (start + at) (0xA5 ∷ []) → Recovers len side gate new head (bodies ++ body ∷ [])
  grew old new recovers whole holds =
      let lies = within len side old recovers.encodes.long in
      let here : IsWhole (start_of len side + at) bytes old new = subst (λ (k : ℕ). IsWhole (k + at) bytes old new) begins whole in
      let there : Holds new (start_of len side + at) (0xA5 ∷ []) = subst (λ (k : ℕ). Holds new (k + at) (0xA5 ∷ [])) begins holds in
      let reads : ReadsAt (start_of len side) len new head (bodies ++ body ∷ []) =
      has_grown (start_of len side) len at bytes (λ c. c ≡ old) head bodies body inside
      (record {
        each = λ c same. subst (λ (l : List ℕ). ReadsAt (start_of len side) len l head bodies) (sym same)
            (record { within = lies; reads = recovers.encodes.reads });
        gate = sym place;
        framed = is;
        short = short;
      })
      old new refl here there in
      append_grew len side head bodies old new gate at (length bytes + 1) (bodies ++ body ∷ []) recovers inside here.torn reads.reads

  pub grow_done : (images_new : List ℕ → Type 0) (old new : List ℕ) → RecoversWhole len side gate old head bodies
      → Only new images_new → IsWhole (start + at) bytes old new → Holds new (start + at) (0xA5 ∷ [])
      → (c : List ℕ) → images_new c → RecoversWhole len side gate c head (bodies ++ body ∷ [])
  grow_done images_new old new recovers only whole holds c now =
      subst (λ (l : List ℕ). RecoversWhole len side gate l head (bodies ++ body ∷ [])) (sym ((only c).0 now)) (record {
        recovers = grew old new recovers.recovers whole holds;
        whole = appends_long (start + at) bytes old new (inr whole) (below_end old recovers) ∙ recovers.whole;
      })

-- ---- the other area is written

module _ (len : ℕ) (side : Side) (head : Head) (bodies : List (List ℕ)) (d c : List ℕ) where
  -- a part of it
  pub put_whole : (at n : ℕ) → RecoversWhole len side Closed d head bodies → 0 < at → at + n ≤ len
      → Torn (start_of len (other side) + at) n d c → RecoversWhole len side Closed c head bodies
  put_whole at n recovers suffix inside torn = record {
    recovers = put_keeps len side head bodies d c at n recovers.recovers suffix inside torn;
    whole = torn_long (start_of len (other side) + at) n d c torn
        (omega (arith, within len (other side) d recovers.recovers.encodes.long, inside)) ∙ recovers.whole;
  }

  gate_long : (gate : GateState) → RecoversWhole len side gate d head bodies → Torn (start_of len (other side)) 1 d c → length c ≡ len + len
  gate_long gate recovers torn =
      torn_long (start_of len (other side)) 1 d c torn
      (omega (arith, within len (other side) d recovers.recovers.encodes.long, one len side head bodies d c gate recovers.recovers torn))
      ∙ recovers.whole

  pub close_whole : RecoversWhole len side Open d head bodies → Torn (start_of len (other side)) 1 d c
      → WholeEither len side head bodies c
  close_whole recovers torn =
      let long = gate_long Open recovers torn in
      ⊎_elim (λ still. inl (record { recovers = still; whole = long })) (λ closed. inr (record { recovers = closed; whole = long }))
      (close_keeps len side head bodies d c recovers.recovers torn)

  pub closed_whole : RecoversWhole len side Open d head bodies → Torn (start_of len (other side)) 1 d c
      → Holds c (start_of len (other side)) (0 ∷ []) → RecoversWhole len side Closed c head bodies
  closed_whole recovers torn holds = record {
    recovers = close_kept len side head bodies d c recovers.recovers torn holds;
    whole = gate_long Open recovers torn;
  }

  module _ (next : Head) (others : List (List ℕ)) (recovers : RecoversWhole len side Closed d head bodies)
      (would : WouldRead (area_on len (other side) d) next others) (newer : head.generation < next.generation)
      (torn : Torn (start_of len (other side)) 1 d c) where
    pub open_whole : WholeOrSwitched len side head bodies next others c
    open_whole =
        let long = gate_long Closed recovers torn in
        ⊎_elim (λ still. inl (record { recovers = still; whole = long })) (λ switched. inr (record { recovers = switched; whole = long }))
        (open_switches len side head bodies d c next others recovers.recovers would newer torn)

    pub opened_whole : Holds c (start_of len (other side)) (0xA5 ∷ []) → RecoversWhole len (other side) Open c next others
    opened_whole holds = record {
      recovers = open_switched len side head bodies d c next others recovers.recovers would newer torn holds;
      whole = gate_long Closed recovers torn;
    }
