-- The table that an opened disk recovers to.
use Rattle.std.proofs.Common.{◌≡◌, ℕ, ◌+◌, List, length, sym, subst, arith}
use Rattle.std.specs.Prelude.{Some}
use Rattle.definitions.specs.Disk.{Only}
use Rattle.definitions.specs.Area.{Head, Reads}
use Rattle.gated_journal.specs.TwoAreas.{area_on, Encodes}
use Rattle.gated_journal.specs.Whole.{IsChosen, RecoversWhole}
use Rattle.gated_journal.specs.declared.chosen.Chosen.{Chosen}
use Rattle.gated_journal.specs.declared.side.Side.{Side}
use Rattle.act_store.specs.Images.{HasNoArea, HasNoTable, IsAreaLength, RecoversFrom, RecoversTo}
use Rattle.act_store.specs.inner.Opened.{IsFound}
use Rattle.act_store.specs.inner.Promise.{IsSettled}
use Rattle.act_store.specs.inner.Encoded.{EncodesArea}
use Rattle.act_store.specs.declared.located_area.LocatedArea.{LocatedArea}
use Rattle.act_store.proofs.Encoding.{EncodesNone}

module _ (len : ℕ) (file : List ℕ) (long : length file ≡ len + len) where
  same_len : (other : ℕ) → length file ≡ other + other → other ≡ len
  same_len other is = omega (arith, long, is)

  module _ (chosen : Chosen) (is_chosen : IsChosen len (Some chosen) file) where
    one_recovers : IsAreaLength len → HasNoArea file → ⊥
    one_recovers size nothing = let shut = nothing len long size in absurd (cc (shut, is_chosen.0))

    reads_there : (side : Side) (head : Head) (bodies : List (List ℕ)) → Encodes len side file head bodies
        → Reads (area_on len chosen.side file) head bodies
    reads_there side head bodies encodes =
        let same : side ≡ chosen.side = cc (encodes.recovers, is_chosen.0) in
        subst (λ (s : Side). Reads (area_on len s file) head bodies) same encodes.reads

    pub no_table_in : IsAreaLength len → EncodesNone (area_on len chosen.side file) → HasNoTable file
    no_table_in size none = record {
      some = one_recovers size;
      none = λ table recovers.
          let encodes = subst (λ (n : ℕ). Encodes n recovers.side file recovers.head recovers.bodies) (same_len recovers.len recovers.long)
          recovers.encodes in
          none recovers.head recovers.bodies table (reads_there recovers.side recovers.head recovers.bodies encodes) recovers.means;
    }

module _ (found : LocatedArea) (file : List ℕ) (is_found : IsFound found file) where
  abbrev encoded : EncodesArea (area_on found.area found.chosen.side file) found.encoded.generation found.encoded.used
      found.encoded.layout found.encoded.table
  encoded = is_found.encoded

  whole : RecoversWhole found.area found.chosen.side found.chosen.other file encoded.head encoded.bodies
  whole = record {
    recovers = record {
      encodes = record { long = omega (arith, is_found.long); recovers = is_found.recovers; reads = encoded.reads };
      other_gate = is_found.gate;
    };
    whole = is_found.long;
  }

  pub found_settled : (images : List ℕ → Type 0) → Only file images
      → IsSettled found.area found.chosen.side found.chosen.other found.encoded.generation found.encoded.used
      found.encoded.layout found.encoded.table images
  found_settled images only = record {
    head = encoded.head;
    bodies = encoded.bodies;
    each = λ c now. subst (λ (l : List ℕ). RecoversWhole found.area found.chosen.side found.chosen.other l encoded.head encoded.bodies)
        (sym ((only c).0 now)) whole;
    used_is = encoded.used_is;
    generation_is = encoded.generation_is;
    layout_is = encoded.layout_is;
    means = encoded.means;
  }

  pub found_recovers : IsAreaLength found.area → RecoversTo found.encoded.table file
  found_recovers size = record {
    len = found.area;
    long = is_found.long;
    size = size;
    side = found.chosen.side;
    head = encoded.head;
    bodies = encoded.bodies;
    encodes = record { long = omega (arith, is_found.long); recovers = is_found.recovers; reads = encoded.reads };
    means = encoded.means;
  }

  -- the table of the area that was found
  pub found_at : IsAreaLength found.area → RecoversFrom found.encoded.generation found.encoded.used found.encoded.layout found.encoded.table file
  unfolding found_recovers
  found_at size = record {
    recovers = found_recovers size;
    generation_is = encoded.generation_is;
    used_is = encoded.used_is;
    layout_is = encoded.layout_is;
  }
