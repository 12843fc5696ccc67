-- Looking up runs by their deliveries: what is found, and one more run.
use Rattle.std.specs.Prelude.{◌≡◌, ℕ, suc, ◌+◌, ◌<◌, List, [], ◌∷◌, ◌++◌, length, Bool, true, false, cond, if◌then◌else◌, unwrap_or, refl}
use Rattle.std.specs.Prelude.{IfSome, Option, Some, None, String, map, slice_get}
use Rattle.std.specs.List.{position, position_from}
use Rattle.std.specs.Option.{option_or}
use Rattle.std.specs.Str.{bytes_eq}
use Rattle.std.specs.declared.alloc.Global.{Global}
use Rattle.std.proofs.Common.{arith, ap, sym, ◌∙◌, get_or}
use Rattle.std.proofs.lemmas.Iterator.Adapters.{position_from-zero}
use Rattle.std.proofs.lemmas.List.{length-map, map-append}
use Rattle.std.proofs.lemmas.List.Quantifiers.{position-Some}
use Rattle.std.proofs.lemmas.Option.{get_or_from_slice_get, slice_get-get_or}
use Rattle.indexmap.specs.IndexMap.{IndexMap, get_by_text}
use Rattle.definitions.specs.SmallText.{Admitted}
use Rattle.table_model.specs.Runs.{is_delivered_as, RunState}
use Rattle.table_model.specs.LegContext.{events}
use Rattle.forgotten_runs.proofs.FirstFound.{from_map, kept_alone, kept_or, more}
use Rattle.table_runs.specs.inner.Delivered.{FindsFirst, has_delivery}

-- ---- the first element of a list that passes a test

pub record FirstOne {X : Type 0} (test : X → Bool) (xs : List X) (i : ℕ) : Type 0 where
  pub one : X
  pub at : slice_get xs i ≡ Some one
  pub passes : test one ≡ true
  pub others_fail : (k : ℕ) (x : X) → k < i → slice_get xs k ≡ Some x → test x ≡ false

pub first_one : {X : Type 0} (test : X → Bool) (xs : List X) (i : ℕ) → position test xs ≡ Some i → FirstOne test xs i
first_one test [] i e = cc
first_one test (y ∷ ys) i e =
    let three = position-Some test (y ∷ ys) i y e in
    record {
      one = get_or (y ∷ ys) i y;
      at = slice_get-get_or (y ∷ ys) i y three.0;
      passes = three.1;
      others_fail = (λ k x lt at. sym (ap test (get_or_from_slice_get (y ∷ ys) k x y at)) ∙ three.2 k lt);
    }

-- ---- the runs

-- the first event of a delivery is that of its first run
of_runs : (runs : List RunState) (d : List ℕ) → position (has_delivery d) (events runs) ≡ position (is_delivered_as d) runs
of_runs runs d =
    position_from-zero (has_delivery d) (events runs) ∙ from_map (has_delivery d) (λ (run : RunState). run.admitted) 0 runs
    ∙ sym (position_from-zero (is_delivered_as d) runs)

pub found_run : {S : Type 0} (items runs : List RunState) (indexes : IndexMap (String Global) ℕ S) (d : List ℕ) (found : Option ℕ) → items ≡ runs
    → FindsFirst (events items) indexes → found ≡ get_by_text indexes d → found ≡ position (is_delivered_as d) runs
found_run items runs indexes d found same finds is =
    is ∙ finds d ∙ of_runs items d ∙ ap (λ (rs : List RunState). position (is_delivered_as d) rs) same

pub found_within : (runs : List RunState) (d : List ℕ) (most : ℕ) (found : Option ℕ) → found ≡ position (is_delivered_as d) runs
    → length runs < most + 1 → IfSome found (λ i. i < most)
found_within runs d most None is few = tt
found_within [] d most (Some i) is few = absurd (let bad : Some i ≡ None = is in cc)
found_within (run ∷ runs) d most (Some i) is few =
    let there = position-Some (is_delivered_as d) (run ∷ runs) i run (sym is) in
    let less = there.0 in
    omega (arith, less, few)

-- ---- one more run

-- if no look-up changes
pub finds_the_same : {S : Type 0} (es : List Admitted) (old new : IndexMap (String Global) ℕ S)
    → ((d : List ℕ) → get_by_text new d ≡ get_by_text old d) → FindsFirst es old → FindsFirst es new
finds_the_same es old new same finds d = same d ∙ finds d

pub finds_one_more : {S : Type 0} (runs : List RunState) (run : RunState) (old new : IndexMap (String Global) ℕ S) (d : List ℕ) (r : ℕ)
    → d ≡ run.admitted.delivery → r ≡ length runs
    → ((other : List ℕ) → get_by_text new other ≡ (if bytes_eq d other then Some (unwrap_or (get_by_text old other) r) else get_by_text old other))
    → FindsFirst (events runs) old → FindsFirst (events runs ++ run.admitted ∷ []) new
finds_one_more runs run old new d r of end kept finds other =
    let es = events runs in
    let was = position (has_delivery other) es in
    let last : r ≡ length es = end ∙ sym (length-map runs (λ (x : RunState). x.admitted)) in
    let here = ap (λ (x : List ℕ). bytes_eq x other) of in
    kept other ∙ ap (λ o. if bytes_eq d other then Some (unwrap_or o r) else o) (finds other)
    ∙ by was (bytes_eq d other)
    ∙ ap (λ b. option_or was (cond b (Some r) None)) here
    ∙ ap (λ k. option_or was (cond (bytes_eq run.admitted.delivery other) (Some k) None)) last
    ∙ sym (more (has_delivery other) es run.admitted)
  where
    by : (o : Option ℕ) (b : Bool) → (if b then Some (unwrap_or o r) else o) ≡ option_or o (cond b (Some r) None)
    by o true = kept_or o r
    by o false = kept_alone o

pub events_more : (runs : List RunState) (run : RunState) → events (runs ++ run ∷ []) ≡ events runs ++ run.admitted ∷ []
events_more runs run = map-append (λ (x : RunState). x.admitted) runs (run ∷ [])
