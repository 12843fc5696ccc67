-- Two areas, created on an empty disk.
use Rattle.std.proofs.Common.{◌≡◌, inl, inr, ℕ, ◌+◌, ◌-◌, ◌<◌, ◌≤◌, List, [], ◌∷◌, length, take, drop, sym, ◌∙◌, ap, subst, arith}
use Rattle.std.proofs.lemmas.List.{drop-take, drop-drop}
use Rattle.definitions.specs.Disk.{Holds, IsWritten, Only}
use Rattle.act_disk.proofs.Kept.{range_kept}
use Rattle.gated_journal.specs.Choice.{part}
use Rattle.definitions.specs.Area.{Head, IsClosed, Fits}
use Rattle.gated_journal.specs.OnDisk.{WouldReadAt}
use Rattle.gated_journal.specs.TwoAreas.{after_gate}
use Rattle.gated_journal.specs.Whole.{RecoversWhole}
use Rattle.gated_journal.specs.declared.gate.GateState.TheVariants.{Closed}
use Rattle.gated_journal.specs.declared.side.Side.TheVariants.{First}
use Rattle.gated_journal.proofs.Filled.{would_of}
use Rattle.gated_journal.proofs.Frames.{length-part, part_held}
use Rattle.gated_journal.proofs.Gates.{gate_opened}
use Rattle.gated_journal.proofs.TwoAreas.{shut_beside}

-- Two areas without an open gate; the first begins with these bytes.
pub record AreLaid (len : ℕ) (prefix disk : List ℕ) : Type 0 where
  pub whole : length disk ≡ len + len
  pub prefix_is : Holds disk 0 prefix
  pub other_gate : Holds disk len (0 ∷ [])

-- what follows the first byte
holds_after : (file : List ℕ) (at first : ℕ) (rest : List ℕ) → Holds file at (first ∷ rest) → Holds file (at + 1) rest
holds_after file at first rest held =
    let n = length rest in
    let more : length (first ∷ rest) ≡ 1 + n = omega arith in
    ap (λ (l : List ℕ). take n l) (sym (drop-drop 1 at file)) ∙ sym (drop-take 1 n (drop at file))
    ∙ ap (λ (k : ℕ). drop 1 (take k (drop at file))) (sym more) ∙ ap (λ (l : List ℕ). drop 1 l) held

shut : (area : List ℕ) → Holds area 0 (0 ∷ []) → IsClosed area
shut [] held = absurd (cc held)
shut (gate ∷ rest) held = let first : gate ≡ 0 = cc held in λ is. omega (arith, first, is)

module _ (len : ℕ) (prefix : List ℕ) (long : 2 ≤ len) (fits : length prefix ≤ len) (some : 0 < length prefix) where
  pub laid : (s0 s1 s2 s3 : List ℕ) → length s0 ≡ 0 → IsWritten 0 prefix s0 s1 → IsWritten len (0 ∷ []) s1 s2
      → IsWritten ((len + len) - 1) (0 ∷ []) s2 s3 → AreLaid len prefix s3
  laid s0 s1 s2 s3 empty first second third =
      let n = length prefix in
      let long1 : length s1 ≡ n = omega (arith, first.len, empty) in
      let long2 : length s2 ≡ len + 1 = omega (arith, second.len, long1, fits) in
      record {
        whole = omega (arith, third.len, long2, long);
        prefix_is = range_kept ((len + len) - 1) 1 s2 s3 third.torn 0 n (omega (arith, long2, fits)) (inl (omega (arith, fits, long)))
            ∙ range_kept len 1 s1 s2 second.torn 0 n (omega (arith, long1)) (inl (omega (arith, fits))) ∙ first.held;
        other_gate = range_kept ((len + len) - 1) 1 s2 s3 third.torn len 1 (omega (arith, long2)) (inl (omega (arith, long)))
            ∙ second.held;
      }

  module _ (mid new : List ℕ) (head : Head) (bodies : List (List ℕ)) (is : prefix ≡ 0 ∷ after_gate head bodies) (all : Fits head bodies)
      (areas : AreLaid len prefix mid) (written : IsWritten 0 (0xA5 ∷ []) mid new) where
    abbrev text : List ℕ
    text = after_gate head bodies

    whole_new : length new ≡ len + len
    whole_new = omega (arith, written.len, areas.whole, long)

    would : WouldReadAt 0 len mid head bodies
    would =
        let within : 0 + len ≤ length mid = omega (arith, areas.whole) in
        let inside : 1 + length text ≤ len = omega (arith, fits, ap (λ (l : List ℕ). length l) is) in
        let held : Holds mid (0 + 1) text = holds_after mid 0 0 text (subst (λ (l : List ℕ). Holds mid 0 l) is areas.prefix_is) in
        record {
          within = within;
          would = would_of (part 0 len mid) text head bodies (omega (arith, length-part 0 len mid within, long))
              (part_held 0 len mid mid within 1 text inside held) (λ _. text) all;
        }

    closed : IsClosed (part len len new)
    closed =
        let here : len ≡ len + 0 = omega arith in
        let held : Holds new len (0 ∷ []) =
        range_kept 0 1 mid new written.torn len 1 (omega (arith, areas.whole, long)) (inr (omega (arith, long))) ∙ areas.other_gate in
        shut (part len len new)
        (part_held len len new new (omega (arith, whole_new)) 0 (0 ∷ []) (omega (arith, long))
        (subst (λ (k : ℕ). Holds new k (0 ∷ [])) here held))

    pub made : RecoversWhole len First Closed new head bodies
    made = record {
      recovers = shut_beside len First head bodies new new (omega (arith, whole_new))
          (gate_opened 0 len head bodies mid new would written.torn written.held).reads closed;
      whole = whole_new;
    }

  pub each_made : (mid new : List ℕ) (images : List ℕ → Type 0) (head : Head) (bodies : List (List ℕ)) → Only new images
      → prefix ≡ 0 ∷ after_gate head bodies → Fits head bodies → AreLaid len prefix mid → IsWritten 0 (0xA5 ∷ []) mid new
      → (c : List ℕ) → images c → RecoversWhole len First Closed c head bodies
  each_made mid new images head bodies only is all areas written c now =
      subst (λ (l : List ℕ). RecoversWhole len First Closed l head bodies) (sym ((only c).0 now))
      (made mid new head bodies is all areas written)
