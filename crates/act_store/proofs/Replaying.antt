-- Records carried out one after another.
use Rattle.std.proofs.Common.{◌≡◌, ℕ, ◌<◌, ◌≤◌, List, [], ◌∷◌, ◌++◌, length, map, refl, sym, ◌∙◌, ap, subst, append_assoc}
use Rattle.std.specs.Prelude.{Some, None}
use Rattle.std.specs.List.{AllByRecursion}
use Rattle.definitions.specs.Area.{framed, record_bytes}
use Rattle.gated_journal.specs.Scanned.{OpensWith, Parts}
use Rattle.gated_journal.proofs.OneReading.{AreShort, same_frames}
use Rattle.gated_journal.proofs.Parting.{all_parted, parts_more}
use Rattle.run_plan.specs.declared.command.Command.{Command}
use Rattle.table_model.specs.Step.{after}
use Rattle.table_model.specs.TableState.{TableState}
use Rattle.table_laws.proofs.LeasesStay.{after_both}
use Rattle.definitions.specs.Format.{OpensWith as BeginsWith, Encodes}
use Rattle.act_store.specs.Layouts.{batch_format}
use Rattle.act_store.specs.Images.{EncodeCommands}
use Rattle.act_store.specs.inner.Replayed.{IsCarried, IsReplayed}
use Rattle.act_store.specs.declared.layout.Layout.{Layout}
use Rattle.act_store.proofs.InLayout.{batches_begin_none}
use Rattle.act_store.proofs.Meanings.{encode_more}
use Rattle.act_store.proofs.WholeTexts.{none_longer, none_whole, whole}

-- ---- one body

pub no_batch : (layout : Layout) (body : List ℕ) → ((x : List Command) (rest : List ℕ) → BeginsWith (batch_format layout) body x rest → ⊥)
    → (commands : List Command) → Encodes (batch_format layout) body commands → ⊥
no_batch layout body none commands encodes = none_whole (batch_format layout) body none commands encodes

pub whole_batch : (layout : Layout) (body rest : List ℕ) (commands : List Command) → BeginsWith (batch_format layout) body commands rest
    → length rest ≤ 0 → Encodes (batch_format layout) body commands
whole_batch layout body rest commands begins none = whole (batch_format layout) body rest commands begins none

pub left_over : (layout : Layout) (body rest : List ℕ) (found : List Command) → BeginsWith (batch_format layout) body found rest
    → 0 < length rest → (commands : List Command) → Encodes (batch_format layout) body commands → ⊥
left_over layout body rest found begins some commands encodes =
    none_longer (batch_format layout) (batches_begin_none layout) body rest found begins some commands encodes

pub carried_whole : (layout : Layout) (body : List ℕ) (table last : TableState) (commands : List Command)
    → Encodes (batch_format layout) body commands → last ≡ after table commands → IsCarried layout body table (Some last)
carried_whole layout body table last commands encodes is = (commands, encodes, sym is)

-- ---- the records so far

pub record SoFar (layout : Layout) (records rest : List ℕ) (first table : TableState) : Type 0 where
  pub parted : List (List ℕ)
  pub commands : List Command
  pub parts : Parts records parted rest
  pub encoded : EncodeCommands layout parted commands
  pub table_is : after first commands ≡ table

pub none_so_far : (layout : Layout) (records : List ℕ) (first : TableState) → SoFar layout records records first first
none_so_far layout records first = record {
  parted = [];
  commands = [];
  parts = record { split = refl; short = _ };
  encoded = record { batches = []; takes = _; encoded = refl; commands_are = refl };
  table_is = refl;
}

module _ (layout : Layout) (records rest : List ℕ) (first table : TableState) (so : SoFar layout records rest first table) where
  pub one_more : (body suffix : List ℕ) (next : TableState) → OpensWith rest body suffix → IsCarried layout body table (Some next)
      → SoFar layout records suffix first next
  one_more body suffix next opens carried =
      let more = carried.0 in
      record {
        parted = so.parted ++ body ∷ [];
        commands = so.commands ++ more;
        parts = parts_more records so.parted rest body suffix so.parts opens;
        encoded = subst (λ (b : List ℕ). EncodeCommands layout (so.parted ++ b ∷ []) (so.commands ++ more)) (sym carried.1.1)
            (encode_more layout so.parted so.commands more carried.1.0 so.encoded);
        table_is = after_both first so.commands more ∙ ap (λ (t : TableState). after t more) so.table_is ∙ carried.2;
      }

  pub at_end : ((body suffix : List ℕ) → OpensWith rest body suffix → ⊥) → IsReplayed layout records first (Some table)
  at_end none bodies short is =
      let all = all_parted bodies so.parted rest short (subst (λ (l : List ℕ). Parts l so.parted rest) is so.parts) none in
      (so.commands, subst (λ (l : List (List ℕ)). EncodeCommands layout l so.commands) all so.encoded, so.table_is)

  -- records begin with the parsed ones
  starts : (parted bodies : List (List ℕ)) (suffix : List ℕ) → AreShort parted → AreShort bodies
      → record_bytes parted ++ suffix ≡ record_bytes bodies
      → (more : List (List ℕ)) × (parted ++ more ≡ bodies)
  starts [] bodies suffix one two same = (bodies, refl)
  starts (a ∷ parted) [] suffix one two same = absurd (cc same)
  starts (a ∷ parted) (b ∷ bodies) suffix one two same =
      let tails : (framed a ++ record_bytes parted) ++ suffix ≡ framed b ++ record_bytes bodies = cc same in
      let frames = same_frames a b (record_bytes parted ++ suffix) (record_bytes bodies) one.0 two.0
      (sym (append_assoc (framed a) (record_bytes parted) suffix) ∙ tails) in
      let others = starts parted bodies suffix one.1 two.1 frames.1 in
      (others.0, ap (λ (l : List ℕ). l ∷ parted ++ others.0) frames.0 ∙ ap (λ (l : List (List ℕ)). b ∷ l) others.1)

  among : (batches : List (List Command)) (parted : List (List ℕ)) (body : List ℕ) (more : List (List ℕ))
      → AllByRecursion (batch_format layout).Takes batches
      → (parted ++ body ∷ []) ++ more ≡ map (batch_format layout).encoding batches
      → (commands : List Command) × Encodes (batch_format layout) body commands
  among [] [] body more takes same = absurd (cc same)
  among [] (p ∷ parted) body more takes same = absurd (cc same)
  among (b ∷ batches) [] body more takes same = (b, (takes.0, cc same))
  among (b ∷ batches) (p ∷ parted) body more takes same =
      let tails : (parted ++ body ∷ []) ++ more ≡ map (batch_format layout).encoding batches = cc same in among batches parted body more takes.1 tails

  pub at_broken : (body suffix : List ℕ) → OpensWith rest body suffix → IsCarried layout body table None → IsReplayed layout records first None
  at_broken body suffix opens none bodies commands short is encoded =
      let parts = parts_more records so.parted rest body suffix so.parts opens in
      let found = starts (so.parted ++ body ∷ []) bodies suffix parts.short short (sym parts.split ∙ is) in
      let one = among encoded.batches so.parted body found.0 encoded.takes (found.1 ∙ encoded.encoded) in
      none one.0 one.1
