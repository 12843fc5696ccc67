-- Adding the claim of one more run or leg.
use Rattle.std.proofs.Common.{◌≡◌, ◌∙◌, ℕ, zero, suc, ◌+◌, ◌<◌, List, [], ◌∷◌, ◌++◌, length, map, take, get_or, sym, ap, arith, append_assoc}
use Rattle.std.specs.Prelude.{filter_map, Option}
use Rattle.std.proofs.lemmas.List.Elements.{filter_map-append}
use Rattle.group_name.specs.Group.{Group}
use Rattle.table_model.specs.Runs.{placed, RunState}
use Rattle.table_model.specs.declared.sites.LegSite.{LegSite}
use Rattle.table_views.specs.inner.Claims.{claim_of}
use Rattle.table_views.proofs.Placing.{one_place_more}
use Rattle.table_model.specs.declared.holder.Holder.{Holder}
use Rattle.table_model.specs.declared.holder.Holder.TheVariants.{Run, Leg}

pub run_claimed : (runs : List RunState) (r : ℕ) (old new : List (Group × Holder)) → r < length runs
    → old ≡ filter_map (claim_of runs) (map (λ (x : ℕ × RunState). Run x.0) (placed (take r runs)))
    → new ≡ old ++ filter_map (claim_of runs) (Run r ∷ [])
    → new ≡ filter_map (claim_of runs) (map (λ (x : ℕ × RunState). Run x.0) (placed (take (r + 1) runs)))
run_claimed runs r old new lt so_far more =
    let before = map (λ (x : ℕ × RunState). Run x.0) (placed (take r runs)) in
    more ∙ ap (λ cs. cs ++ filter_map (claim_of runs) (Run r ∷ [])) so_far
    ∙ sym (filter_map-append (claim_of runs) before (Run r ∷ []))
    ∙ ap (filter_map (claim_of runs)) (sym (one_place_more Run r runs lt))

legs_more : (sites : List LegSite) (i : ℕ) (p : LegSite) → i < length sites → get_or sites i p ≡ p
    → map (λ q. Leg q) (take (i + 1) sites) ≡ map (λ q. Leg q) (take i sites) ++ Leg p ∷ []
legs_more sites i p lt is =
    let step : i + 1 ≡ suc i = omega arith in
    ap (λ k. map (λ q. Leg q) (take k sites)) step ∙ go sites i p lt is
  where
    go : (qs : List LegSite) (k : ℕ) (q : LegSite) → k < length qs → get_or qs k q ≡ q
        → map (λ x. Leg x) (take (suc k) qs) ≡ map (λ x. Leg x) (take k qs) ++ Leg q ∷ []
    go [] k q less at = absurd (omega (arith, less))
    go (y ∷ qs) zero q less at = ap (λ x. Leg x ∷ []) at
    go (y ∷ qs) (suc k) q less at = ap (λ xs. Leg y ∷ xs) (go qs k q (omega (arith, less)) at)

-- the place that is read at an index is the one there, whatever stands in for a place after the last one
pub site_read : (sites : List LegSite) (i : ℕ) (other p : LegSite) → i < length sites → p ≡ get_or sites i other → get_or sites i p ≡ p
site_read [] i other p lt is = absurd (omega (arith, lt))
site_read (q ∷ qs) zero other p lt is = sym is
site_read (q ∷ qs) (suc i) other p lt is = site_read qs i other p (omega (arith, lt)) is

pub leg_claimed : (runs : List RunState) (prefix : List Holder) (sites : List LegSite) (i : ℕ) (p : LegSite)
    (old new : List (Group × Holder)) → i < length sites → get_or sites i p ≡ p
    → old ≡ filter_map (claim_of runs) (prefix ++ map (λ q. Leg q) (take i sites))
    → new ≡ old ++ filter_map (claim_of runs) (Leg p ∷ [])
    → new ≡ filter_map (claim_of runs) (prefix ++ map (λ q. Leg q) (take (i + 1) sites))
leg_claimed runs prefix sites i p old new lt is so_far more =
    let before = map (λ q. Leg q) (take i sites) in
    more ∙ ap (λ cs. cs ++ filter_map (claim_of runs) (Leg p ∷ [])) so_far
    ∙ sym (filter_map-append (claim_of runs) (prefix ++ before) (Leg p ∷ []))
    ∙ ap (filter_map (claim_of runs)) (append_assoc prefix before (Leg p ∷ []) ∙ ap (λ hs. prefix ++ hs) (sym (legs_more sites i p lt is)))

-- ---- the rows of one leg more

pub leg_row_more : {A : Type 0} (row : Holder → Option A) (sites : List LegSite) (i : ℕ) (p : LegSite) (old so_far new : List A) → i < length sites
    → get_or sites i p ≡ p → so_far ≡ old ++ filter_map row (map (λ q. Leg q) (take i sites)) → new ≡ so_far ++ filter_map row (Leg p ∷ [])
    → new ≡ old ++ filter_map row (map (λ q. Leg q) (take (i + 1) sites))
leg_row_more row sites i p old so_far new lt is before more =
    let legs = map (λ q. Leg q) (take i sites) in
    more ∙ ap (λ rs. rs ++ filter_map row (Leg p ∷ [])) before ∙ append_assoc old (filter_map row legs) (filter_map row (Leg p ∷ []))
    ∙ ap (λ rs. old ++ rs) (sym (filter_map-append row legs (Leg p ∷ [])) ∙ ap (filter_map row) (sym (legs_more sites i p lt is)))
