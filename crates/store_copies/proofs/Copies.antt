-- A file of two areas, of which the first is open and has the text of a table and no record, recovers to that table.
use Rattle.std.proofs.Common.{◌≡◌, ◌∙◌, ℕ, zero, suc, ◌+◌, ◌-◌, ◌<◌, List, [], ◌∷◌, ◌++◌, length, take, drop, refl, sym, ap, arith, append-nil, length-append}
use Rattle.std.specs.Prelude.{◌^◌, replicate, Option, Some, None}
use Rattle.std.proofs.Math.Seq.{drop-append-add, take-append-add}
use Rattle.std.proofs.lemmas.List.{drop-replicate, length-replicate, take-replicate}
use Rattle.std.specs.Int.{to_be_bytes, w64}
use Rattle.gated_journal.specs.Choice.{newer, open_generation}
use Rattle.definitions.specs.Area.{IsClosed, Reads, head_bytes}
use Rattle.gated_journal.specs.declared.side.Side.TheVariants.{First}
use Rattle.table_model.specs.TableState.{TableState}
use Rattle.act_store.specs.Images.{IsAreaLength, RecoversTo, MeansTable}
use Rattle.act_store.specs.Layouts.{EncodesTable}
use Rattle.act_store.specs.declared.layout.Layout.TheVariants as layouts
use Rattle.store_copies.specs.Copies.{copy_front, copy_head}

-- ---- the front

pub length_front : (text : List ℕ) → length (copy_front text) ≡ 18 + length text
length_front text =
    let generation = to_be_bytes w64 1 in
    let size = to_be_bytes w64 (length text) in
    let eight : length generation ≡ 8 = refl in
    let eight_more : length size ≡ 8 = refl in
    omega (arith, length-append (generation ++ size) text, length-append generation size, eight, eight_more)

-- ---- zeros

zeros_closed : (n : ℕ) → 0 < n → IsClosed (replicate n 0)
zeros_closed zero some = absurd (omega (arith, some))
zeros_closed (suc n) some = λ e. omega (arith, e)

no_generation : (n : ℕ) → open_generation (replicate n 0) ≡ None
no_generation zero = refl
no_generation (suc n) = refl

-- ---- what the areas hold

first_area : (area zeros : ℕ) (front : List ℕ) → length front < area → length front + zeros ≡ area + area
    → take area (front ++ replicate zeros 0) ≡ front ++ replicate (area - length front) 0
first_area area zeros front fits long =
    let e : area ≡ length front + (area - length front) = omega arith in
    ap (λ (k : ℕ). take k (front ++ replicate zeros 0)) e ∙ take-append-add front (replicate zeros 0) (area - length front)
    ∙ ap (λ (l : List ℕ). front ++ l) (take-replicate (area - length front) zeros 0 (omega (arith, fits, long)))

second_area : (area zeros : ℕ) (front : List ℕ) → length front < area → length front + zeros ≡ area + area
    → take area (drop area (front ++ replicate zeros 0)) ≡ replicate area 0
second_area area zeros front fits long =
    let e : area ≡ length front + (area - length front) = omega arith in
    let left : zeros - (area - length front) ≡ area = omega (arith, fits, long) in
    ap (take area) (ap (λ (k : ℕ). drop k (front ++ replicate zeros 0)) e ∙ drop-append-add front (replicate zeros 0) (area - length front)
    ∙ drop-replicate (area - length front) zeros 0 ∙ ap (λ (k : ℕ). replicate k 0) left)
    ∙ take-replicate area area 0 (omega arith)

-- the first area is the active one
first_is_active : (area : ℕ) (rest second : List ℕ) → second ≡ replicate area 0 → newer (open_generation (0xA5 ∷ rest)) (open_generation second) ≡ Some First
first_is_active area rest second zeros =
    ap (λ (o : Option ℕ). newer (open_generation (0xA5 ∷ rest)) o) (ap open_generation zeros ∙ no_generation area)

-- ---- the table

pub means_copy : (t : TableState) (text : List ℕ) → EncodesTable layouts.Third t text → MeansTable (copy_head text) [] t
means_copy t text encodes = record {
  layout = layouts.Third;
  layout_is = refl;
  first = t;
  text = encodes;
  commands = [];
  batched = record { batches = []; takes = _; encoded = refl; commands_are = refl };
  table_is = refl;
}

reads_copy : (area zeros : ℕ) (text : List ℕ) → length (copy_front text) < area → length text < 2 ^ 64 → length (copy_front text) + zeros ≡ area + area
    → Reads (take area (copy_front text ++ replicate zeros 0)) (copy_head text) []
reads_copy area zeros text fits short long = record {
  rest = replicate (area - length (copy_front text)) 0;
  split = first_area area zeros (copy_front text) fits long
      ∙ ap (λ (l : List ℕ). 0xA5 ∷ l ++ replicate (area - length (copy_front text)) 0) (sym (append-nil (head_bytes (copy_head text))));
  closed = zeros_closed (area - length (copy_front text)) (omega (arith, fits));
  fits = record { generation = omega arith; text = short; each = _ };
}

pub copy_recovers : (area zeros : ℕ) (t : TableState) (text : List ℕ) → EncodesTable layouts.Third t text → IsAreaLength area
    → length (copy_front text) < area → length text < 2 ^ 64 → length (copy_front text) + zeros ≡ area + area
    → RecoversTo t (copy_front text ++ replicate zeros 0)
copy_recovers area zeros t text encodes size fits short long =
    let whole : length (copy_front text ++ replicate zeros 0) ≡ area + area =
    length-append (copy_front text) (replicate zeros 0) ∙ ap (λ (k : ℕ). length (copy_front text) + k) (length-replicate zeros 0) ∙ long in
    record {
      len = area;
      long = whole;
      size = size;
      side = First;
      head = copy_head text;
      bodies = [];
      encodes = record {
        long = omega (arith, whole);
        recovers =
            ap (λ (l : List ℕ). newer (open_generation l) (open_generation (take area (drop area (copy_front text ++ replicate zeros 0)))))
            (first_area area zeros (copy_front text) fits long)
            ∙ first_is_active area (head_bytes (copy_head text) ++ replicate (area - length (copy_front text)) 0)
            (take area (drop area (copy_front text ++ replicate zeros 0))) (second_area area zeros (copy_front text) fits long);
        reads = reads_copy area zeros text fits short long;
      };
      means = means_copy t text encodes;
    }
