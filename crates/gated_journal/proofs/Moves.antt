-- The calls that write the other area: how each image since the start of a call reads.
use Rattle.std.proofs.Common.{◌≡◌, inl, inr, ℕ, ◌+◌, ◌<◌, ◌≤◌, List, [], ◌∷◌, length, refl, sym, subst}
use Rattle.definitions.specs.Disk.{Torn, Holds, IsWritten, From, Only, EachSince}
use Rattle.act_disk.proofs.Moments.{started, weakened, joined}
use Rattle.definitions.specs.Area.{Head}
use Rattle.gated_journal.specs.TwoAreas.{start_of, other, Completes}
use Rattle.gated_journal.specs.Whole.{RecoversWhole, WholeEither, WholeOrSwitched}
use Rattle.gated_journal.specs.declared.gate.GateState.{GateState}
use Rattle.gated_journal.specs.declared.gate.GateState.TheVariants.{Open, Closed}
use Rattle.gated_journal.specs.declared.side.Side.{Side}
use Rattle.gated_journal.proofs.Filled.{completed}
use Rattle.gated_journal.proofs.Whole.{put_whole, close_whole, closed_whole, open_whole, opened_whole}

module _ (len : ℕ) (side : Side) (head : Head) (bodies : List (List ℕ)) {D : Type 0} (moment : D → ℕ)
    (images_since : D → ℕ → List ℕ → Type 0) (images : D → List ℕ → Type 0) (old : D) where
  abbrev beyond : ℕ
  beyond = start_of len (other side)

  -- each image of the disk reads this way, with the other gate in this state
  abbrev Each : GateState → D → Type 0
  Each gate disk = (c : List ℕ) → images disk c → RecoversWhole len side gate c head bodies

  pub close_moments : (gate : GateState) (new : D) (start : ℕ) → start ≡ beyond → (gate ≡ Closed → new ≡ old)
      → (gate ≡ Open → EachSince moment images_since old new (From (Torn start 1) (images old)))
      → ((c : List ℕ) → images_since old (moment old) c → images old c) → Each gate old
      → EachSince moment images_since old new (WholeEither len side head bodies)
  close_moments Open new start begins same since now each =
      weakened moment images_since old new (From (Torn start 1) (images old)) (WholeEither len side head bodies) (since refl)
      (λ c from. close_whole len side head bodies from.0 c (each from.0 from.1) (subst (λ (k : ℕ). Torn k 1 from.0 c) begins from.2))
  close_moments Closed new start begins same since now each =
      subst (λ (d : D). EachSince moment images_since old d (WholeEither len side head bodies)) (sym (same refl))
      (started moment images_since old (WholeEither len side head bodies) (λ c left. inr (each c (now c left))))

  pub close_done : (gate : GateState) (new : D) (start : ℕ) (seen_old seen_new : List ℕ) → start ≡ beyond → (gate ≡ Closed → new ≡ old)
      → (gate ≡ Open → Only seen_new (images new)) → (gate ≡ Open → IsWritten start (0 ∷ []) seen_old seen_new)
      → images old seen_old → Each gate old → Each Closed new
  close_done Open new start seen_old seen_new begins same only written here each c now =
      let w = written refl in
      subst (λ (l : List ℕ). RecoversWhole len side Closed l head bodies) (sym ((only refl c).0 now))
      (closed_whole len side head bodies seen_old seen_new (each seen_old here)
      (subst (λ (k : ℕ). Torn k 1 seen_old seen_new) begins w.torn) (subst (λ (k : ℕ). Holds seen_new k (0 ∷ [])) begins w.held))
  close_done Closed new start seen_old seen_new begins same only written here each c now =
      each c (subst (λ (d : D). images d c) (same refl) now)

  pub put_moments : (new : D) (start at n : ℕ) → start ≡ beyond → 0 < at → at + n ≤ len
      → EachSince moment images_since old new (From (Torn (start + at) n) (images old)) → Each Closed old
      → EachSince moment images_since old new (λ c. RecoversWhole len side Closed c head bodies)
  put_moments new start at n begins suffix inside since each =
      weakened moment images_since old new (From (Torn (start + at) n) (images old))
      (λ c. RecoversWhole len side Closed c head bodies) since
      (λ c from. put_whole len side head bodies from.0 c at n (each from.0 from.1) suffix inside
      (subst (λ (k : ℕ). Torn (k + at) n from.0 c) begins from.2))

  -- the last put and its sync, then the gate and its sync
  module _ (next : Head) (others : List (List ℕ)) (start at : ℕ) (begins : start ≡ beyond) (suffix : 0 < at) where
    pub switch_begins : (new : D) (n : ℕ) → at + n ≤ len
        → EachSince moment images_since old new (From (Torn (start + at) n) (images old)) → Each Closed old
        → EachSince moment images_since old new (WholeOrSwitched len side head bodies next others)
    switch_begins new n inside since each =
        weakened moment images_since old new (λ c. RecoversWhole len side Closed c head bodies)
        (WholeOrSwitched len side head bodies next others)
        (put_moments new start at n begins suffix inside since each) (λ c recovers. inl recovers)

    module _ (bytes seen_old seen_mid : List ℕ) (inside : at + length bytes ≤ len) (here : images old seen_old)
        (written : IsWritten (start + at) bytes seen_old seen_mid) (each : Each Closed old)
        (completes : Completes len side seen_old at bytes head next others) where
      put : IsWritten (beyond + at) bytes seen_old seen_mid
      put = subst (λ (k : ℕ). IsWritten (k + at) bytes seen_old seen_mid) begins written

      before : RecoversWhole len side Closed seen_old head bodies
      before = each seen_old here

      between : RecoversWhole len side Closed seen_mid head bodies
      between = put_whole len side head bodies seen_old seen_mid at (length bytes) before suffix inside put.torn

      pub switch_moments : (mid new : D) → EachSince moment images_since old mid (From (Torn (start + at) (length bytes)) (images old))
          → EachSince moment images_since mid new (From (Torn start 1) (images mid)) → Only seen_mid (images mid)
          → EachSince moment images_since old new (WholeOrSwitched len side head bodies next others)
      switch_moments mid new first second only =
          joined moment images_since old mid new (WholeOrSwitched len side head bodies next others) (From (Torn start 1) (images mid))
          (switch_begins mid (length bytes) inside first each) second
          (λ c from. open_whole len side head bodies seen_mid c next others between
          (completed len side seen_old seen_mid at bytes head next others before.recovers.encodes.long inside completes put) completes.newer
          (subst (λ (k : ℕ). Torn k 1 seen_mid c) begins (subst (λ (d : List ℕ). Torn start 1 d c) ((only from.0).0 from.1) from.2)))

      pub switch_done : (seen_new : List ℕ) (images_new : List ℕ → Type 0) → IsWritten start (0xA5 ∷ []) seen_mid seen_new
          → Only seen_new images_new → (c : List ℕ) → images_new c → RecoversWhole len (other side) Open c next others
      switch_done seen_new images_new opened_there only c now =
          let gate = subst (λ (k : ℕ). IsWritten k (0xA5 ∷ []) seen_mid seen_new) begins opened_there in
          subst (λ (l : List ℕ). RecoversWhole len (other side) Open l next others) (sym ((only c).0 now))
          (opened_whole len side head bodies seen_mid seen_new next others between
          (completed len side seen_old seen_mid at bytes head next others before.recovers.encodes.long inside completes put) completes.newer
          gate.torn gate.held)
