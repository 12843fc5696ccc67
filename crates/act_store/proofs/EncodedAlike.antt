-- Bytes that read alike encode the same.
use Rattle.std.proofs.Common.{List, ℕ}
use Rattle.std.specs.Prelude.{Err, IfOk, None, Ok, Option, Result, Some}
use Rattle.wf_value.specs.declared.refusal.Refusal.{Refusal}
use Rattle.act_store.specs.AreaPrefix.{ReadsAlike}
use Rattle.act_store.specs.inner.Encoded.{IsEncoded}
use Rattle.act_store.specs.declared.decoded_area.DecodedArea.{DecodedArea}

alike_encoded : (bytes area : List ℕ) (o : Option DecodedArea) → ReadsAlike bytes area → IsEncoded bytes o → IsEncoded area o
alike_encoded bytes area (Some found) alike encoded = record {
  head = encoded.head;
  bodies = encoded.bodies;
  reads = (alike encoded.head encoded.bodies).0 encoded.reads;
  generation_is = encoded.generation_is;
  used_is = encoded.used_is;
  layout_is = encoded.layout_is;
  means = encoded.means;
}
alike_encoded bytes area None alike encoded =
    λ head bodies table reads means. encoded head bodies table ((alike head bodies).1 reads) means

pub found_alike : {H : Type 0} (bytes area : List ℕ) (r : Result (Option DecodedArea) Refusal) → (H → ReadsAlike bytes area)
    → IfOk r (λ o. IsEncoded bytes o) → IfOk r (λ o. H → IsEncoded area o)
found_alike bytes area (Err e) alike encoded = tt
found_alike bytes area (Ok o) alike encoded = λ here. alike_encoded bytes area o (alike here) encoded
