-- Kept deliveries: how each is found, and which are kept once more runs are forgotten.
use Rattle.std.specs.Prelude.{◌≡◌, ◌+◌, ◌-◌, ◌≤◌, ℕ, List, [], ◌∷◌, ◌++◌, drop, length, map, min, cond, Bool, true, false, Option, Some, None}
use Rattle.std.specs.Prelude.{String, if◌then◌else◌, unwrap_or}
use Rattle.std.specs.List.{position}
use Rattle.std.specs.Option.{option_or}
use Rattle.std.specs.Str.{bytes_eq}
use Rattle.std.specs.declared.alloc.Global.{Global}
use Rattle.std.proofs.Common.{arith, ap, inl, inr, sym, ◌∙◌, length-append}
use Rattle.std.proofs.lemmas.Bool.{cases_lt}
use Rattle.std.proofs.lemmas.List.{drop-append-le, drop-map, length-map}
use Rattle.std.proofs.Math.ListN.{drop_of_length-le}
use Rattle.std.proofs.Math.Seq.{drop-append-add}
use Rattle.indexmap.specs.IndexMap.{IndexMap, get_by_text}
use Rattle.table_model.specs.Forgotten.{deliveries_of, last_of, max_kept_deliveries}
use Rattle.table_model.specs.Runs.{RunState}
use Rattle.forgotten_runs.specs.inner.Delivered.{FindsKept}
use Rattle.forgotten_runs.proofs.FirstFound.{kept_alone, kept_or, more}

-- ---- one more is found

pub one_more_kept : {S : Type 0} (known : List (List ℕ)) (d : List ℕ) (old new : IndexMap (String Global) ℕ S) (i : ℕ) → i ≡ length known
    → ((other : List ℕ) → get_by_text new other ≡ (if bytes_eq d other then Some (unwrap_or (get_by_text old other) i) else get_by_text old other))
    → FindsKept known old → FindsKept (known ++ d ∷ []) new
one_more_kept known d old new i end kept finds other =
    let was = position (λ k. bytes_eq k other) known in
    kept other ∙ ap (λ o. if bytes_eq d other then Some (unwrap_or o i) else o) (finds other)
    ∙ by was (bytes_eq d other)
    ∙ ap (λ k. option_or was (cond (bytes_eq d other) (Some k) None)) end
    ∙ sym (more (λ k. bytes_eq k other) known d)
  where
    by : (o : Option ℕ) (b : Bool) → (if b then Some (unwrap_or o i) else o) ≡ option_or o (cond b (Some i) None)
    by o true = kept_or o i
    by o false = kept_alone o

-- ---- the last of two lists

drop_both : {X : Type 0} (n : ℕ) (xs ys : List X) → drop n (xs ++ ys) ≡ drop (min n (length xs)) xs ++ drop (n - length xs) ys
drop_both n xs ys =
    elim (cases_lt n (length xs)) [
      | inl lt ↦
          let low : min n (length xs) ≡ n = omega (arith, lt) in
          let none : n - length xs ≡ 0 = omega (arith, lt) in
          drop-append-le n xs ys (omega (arith, lt))
          ∙ ap (λ m. drop m xs ++ ys) (sym low) ∙ ap (λ m. drop (min n (length xs)) xs ++ drop m ys) (sym none)
      | inr le ↦
          let all : min n (length xs) ≡ length xs = omega (arith, le) in
          let sum : n ≡ length xs + (n - length xs) = omega (arith, le) in
          ap (λ m. drop m (xs ++ ys)) sum ∙ drop-append-add xs ys (n - length xs)
          ∙ ap (λ zs. zs ++ drop (n - length xs) ys) (sym (ap (λ m. drop m xs) all ∙ drop_of_length-le xs (omega arith)))
    ]

-- the deliveries that are kept: the last ones of those before, and of the runs
pub last_kept : (had : List (List ℕ)) (runs : List RunState) (past low over : ℕ) → past ≡ length had + length runs - max_kept_deliveries
    → low ≡ min past (length had) → over ≡ past - length had
    → last_of max_kept_deliveries (had ++ deliveries_of runs) ≡ drop low had ++ deliveries_of (drop over runs)
last_kept had runs past low over is low_is over_is =
    let many = length-append had (deliveries_of runs) ∙ ap (λ n. length had + n) (length-map runs (λ x. x.admitted.delivery)) in
    let same : length (had ++ deliveries_of runs) - max_kept_deliveries ≡ past = omega (arith, many, is) in
    ap (λ n. drop n (had ++ deliveries_of runs)) same
    ∙ drop_both past had (deliveries_of runs)
    ∙ ap (λ n. drop n had ++ drop (past - length had) (deliveries_of runs)) (sym low_is)
    ∙ ap (λ n. drop low had ++ drop n (deliveries_of runs)) (sym over_is)
    ∙ ap (λ ds. drop low had ++ ds) (drop-map (λ (x : RunState). x.admitted.delivery) over runs)
