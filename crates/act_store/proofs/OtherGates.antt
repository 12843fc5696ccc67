-- A gate that is already closed, and so is not written.
use Rattle.std.proofs.Common.{◌≡◌, ℕ, List, [], ◌∷◌, refl, subst}
use Rattle.std.specs.Prelude.{false}
use Rattle.definitions.specs.Area.{IsClosed}
use Rattle.gated_journal.specs.TwoAreas.{IsGate, area_on, other}
use Rattle.gated_journal.specs.declared.gate.GateState.{GateState}
use Rattle.gated_journal.specs.declared.gate.GateState.TheVariants.{Open, Closed}
use Rattle.act_store.specs.OtherGate.{IsShutBeside}
use Rattle.act_store.specs.inner.Promise.{IsConsistent}
use Rattle.act_store.specs.inner.StoreSeen.{as_state}
use Rattle.act_store.specs.StoreState.{StoreState}
use Rattle.act_store.specs.declared.store.Store.TheInside.{Inside}

-- a closed gate is not an open one
gate_of_closed : (gate : GateState) (area : List ℕ) → IsGate gate area → IsClosed area → gate ≡ Closed
gate_of_closed Closed area is closed = refl
gate_of_closed Open [] is closed = absurd is
gate_of_closed Open (g ∷ suffix) is closed = absurd (closed is)

module _ {D : Type 0} (honest : D → Type 0) (images : D → List ℕ → Type 0) (seen : D → List ℕ) (s : Inside D)
    (live : s.failed ≡ false) (active_side : honest s.disk → IsConsistent images s.areas.side s.other (as_state s))
    (now : honest s.disk → images s.disk (seen s.disk)) (disk : D) where
  -- for a store that has not failed
  pub uncalled : (s.other ≡ Closed → disk ≡ s.disk) → (v : StoreState D) → as_state s ≡ v
      → honest v.disk → IsShutBeside v.area (seen v.disk) → disk ≡ v.disk
  uncalled same v is =
      subst (λ (k : StoreState D). honest k.disk → IsShutBeside k.area (seen k.disk) → disk ≡ k.disk) is (λ is_honest shut.
      let recovers = ((active_side is_honest).settled live).each (seen s.disk) (now is_honest) in
      same (gate_of_closed s.other (area_on s.areas.len (other s.areas.side) (seen s.disk)) recovers.recovers.other_gate
      (shut s.areas.side recovers.recovers.encodes.recovers)))
