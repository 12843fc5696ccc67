-- What the bytes of an area encode, from a scan of them.
use Rattle.std.proofs.Common.{◌≡◌, ℕ, List, refl, sym, ◌∙◌, ap, subst}
use Rattle.std.specs.Prelude.{Err, IfOk, IfSome, None, Ok, Option, Result, Some}
use Rattle.definitions.specs.Area.{Head, Reads, ReadsNothing}
use Rattle.gated_journal.specs.Scanned.{IsScanned}
use Rattle.gated_journal.proofs.OneReading.{one_reading}
use Rattle.wf_value.specs.declared.refusal.Refusal.{Refusal}
use Rattle.table_model.specs.Sound.{IsSound}
use Rattle.table_model.specs.TableState.{TableState}
use Rattle.table_laws.proofs.ReachedTables.{after_is_sound}
use Rattle.act_store.specs.Layouts.{layout_of, EncodesTable}
use Rattle.act_store.specs.Images.{MeansTable, EncodeCommands}
use Rattle.act_store.specs.inner.Replayed.{IsReplayed}
use Rattle.act_store.specs.inner.Encoded.{IsEncoded, EncodesArea}
use Rattle.act_store.specs.declared.decoded_area.DecodedArea.{DecodedArea}
use Rattle.act_store.specs.declared.layout.Layout.{Layout}
use Rattle.act_store.proofs.InLayout.{one_layout}
use Rattle.act_store.proofs.TextOfTable.{text_sound}

-- an area recovers only to a sound table
means_sound : (head : Head) (bodies : List (List ℕ)) (table : TableState) → MeansTable head bodies table → IsSound table
means_sound head bodies table means =
    subst (λ (t : TableState). IsSound t) means.table_is
    (after_is_sound means.first means.commands (text_sound means.layout means.first head.text means.text))

pub sound_encoded : (area : List ℕ) (r : Result (Option DecodedArea) Refusal) → IfOk r (λ o. IsEncoded area o)
    → IfOk r (λ o. IfSome o (λ s. IsSound s.table))
sound_encoded area (Err e) encoded = tt
sound_encoded area (Ok None) encoded = tt
sound_encoded area (Ok (Some found)) encoded = means_sound encoded.head encoded.bodies found.table encoded.means

abbrev pub EncodesNone : List ℕ → Type 0
EncodesNone area = (head : Head) (bodies : List (List ℕ)) (table : TableState) → Reads area head bodies → MeansTable head bodies table → ⊥

pub none_read : (area : List ℕ) → ReadsNothing area → EncodesNone area
none_read area nothing head bodies table reads means = nothing head bodies reads

module _ (area : List ℕ) (head : Head) (records : List ℕ) (gate : ℕ) (scanned : IsScanned area head records gate) where
  same : (other : Head) (others : List (List ℕ)) → Reads area other others → (other ≡ head) × (others ≡ scanned.bodies)
  same other others reads = one_reading area other head others scanned.bodies reads scanned.reads

  -- the layout of a table that the area encodes is the one that the head names
  layout_here : (other : Head) (others : List (List ℕ)) (table : TableState) → Reads area other others → (means : MeansTable other others table)
      → layout_of head.version ≡ Some means.layout
  layout_here other others table reads means = ap (λ (h : Head). layout_of h.version) (sym (same other others reads).0) ∙ means.layout_is

  pub none_layout : layout_of head.version ≡ None → EncodesNone area
  none_layout none other others table reads means = absurd (cc (none, layout_here other others table reads means))

  module _ (layout : Layout) (is : layout_of head.version ≡ Some layout) where
    layout_again : (other : Head) (others : List (List ℕ)) (table : TableState) → Reads area other others
        → (means : MeansTable other others table) → means.layout ≡ layout
    layout_again other others table reads means =
        one_layout head means.layout layout (layout_here other others table reads means) is

    pub none_text : ((table : TableState) → EncodesTable layout table head.text → ⊥) → EncodesNone area
    none_text none other others table reads means =
        let here = subst (λ (h : Head). EncodesTable means.layout means.first h.text) (same other others reads).0 means.text in
        none means.first
        (subst (λ (l : Layout). EncodesTable l means.first head.text) (layout_again other others table reads means) here)

    pub none_replayed : (first : TableState) → IsReplayed layout records first None → EncodesNone area
    none_replayed first none other others table reads means =
        let here =
        subst (λ (l : Layout). EncodeCommands l others means.commands) (layout_again other others table reads means) means.batched in
        none scanned.bodies means.commands scanned.reads.fits.each scanned.records_are
        (subst (λ (l : List (List ℕ)). EncodeCommands layout l means.commands) (same other others reads).1 here)

    pub some_replayed : (first table : TableState) → EncodesTable layout first head.text → IsReplayed layout records first (Some table)
        → EncodesArea area head.generation gate layout table
    some_replayed first table text replayed =
        let carried = replayed scanned.bodies scanned.reads.fits.each scanned.records_are in
        record {
          head = head;
          bodies = scanned.bodies;
          reads = scanned.reads;
          generation_is = refl;
          used_is = scanned.gate_is;
          layout_is = is;
          means = record {
            layout = layout;
            layout_is = is;
            first = first;
            text = text;
            commands = carried.0;
            batched = carried.1;
            table_is = carried.2;
          };
        }
