-- What the ready legs of one more run ask for.
use Rattle.std.proofs.Common.{◌≡◌, ◌∙◌, ℕ, ◌+◌, ◌<◌, List, [], ◌∷◌, ◌++◌, length, map, take, get_or, refl, sym, ap, subst, arith, append-nil, append_assoc, inl, inr}
use Rattle.std.proofs.lemmas.List.{map-append, take_more}
use Rattle.std.proofs.lemmas.List.Elements.{filter-append}
use Rattle.std.proofs.lemmas.Option.{slice_get_cases}
use Rattle.std.specs.Prelude.{Some, Option, slice_get, false}
use Rattle.std.specs.List.{filter, flat_map}
use Rattle.std.specs.Option.{option_map_or}
use Rattle.table_model.specs.inner.ActiveRuns.{offers_legs}
use Rattle.table_model.specs.Runs.{placed, leg_sites_of_run, RunState}
use Rattle.table_model.specs.declared.sites.LegSite.{LegSite}
use Rattle.table_views.specs.NamedCounts.{AreCounts, counted, times}
use Rattle.table_views.specs.QueueLines.{is_ready_at, labels_json}
use Rattle.table_views.specs.ReadyPages.{legs_at}
use Rattle.table_views.specs.TableMetrics.{asked_at, ready_value}
use Rattle.table_views.specs.declared.named_counts.NamedCounts.{NamedCounts}
use Rattle.table_views.proofs.NoneReady.{nothing_ready}
use Rattle.table_views.proofs.Placing.{one_more}

-- ---- a run that offers no leg

nothing_asked : (runs : List RunState) (r : ℕ) (run : RunState) → slice_get runs r ≡ Some run → offers_legs run ≡ false
    → asked_at runs (legs_at runs r) ≡ []
nothing_asked runs r run at rests =
    ap (λ (o : Option RunState). asked_at runs (option_map_or (λ x. leg_sites_of_run (r, x)) o [])) at
    ∙ ap (map (labels_json runs)) (nothing_ready runs r run at rests)

pub still_counts : (runs : List RunState) (r : ℕ) (run : RunState) (lists : List (List ℕ)) (counts : NamedCounts) → slice_get runs r ≡ Some run
    → offers_legs run ≡ false → AreCounts lists counts → AreCounts (lists ++ asked_at runs (legs_at runs r)) counts
still_counts runs r run lists counts at rests are =
    subst (λ (xs : List (List ℕ)). AreCounts xs counts)
    (sym (ap (λ (zs : List (List ℕ)). lists ++ zs) (nothing_asked runs r run at rests) ∙ append-nil lists)) are

-- ---- run after run

legs_more : (runs : List RunState) (r : ℕ) → r < length runs
    → flat_map leg_sites_of_run (placed (take (r + 1) runs)) ≡ flat_map leg_sites_of_run (placed (take r runs)) ++ legs_at runs r
legs_more runs r lt =
    elim (slice_get_cases runs r).1 [
      | inl here ↦
          one_more leg_sites_of_run r runs here.0 lt here.3
          ∙ ap (λ (o : Option RunState). flat_map leg_sites_of_run (placed (take r runs)) ++ option_map_or (λ x. leg_sites_of_run (r, x)) o []) (sym here.2)
      | inr past ↦ absurd (omega (arith, lt, past.0))
    ]

asked-append : (runs : List RunState) (ps qs : List LegSite) → asked_at runs (ps ++ qs) ≡ asked_at runs ps ++ asked_at runs qs
asked-append runs ps qs =
    ap (map (labels_json runs)) (filter-append (is_ready_at runs) ps qs)
    ∙ map-append (labels_json runs) (filter (is_ready_at runs) ps) (filter (is_ready_at runs) qs)

-- one place more
pub asked_more : (runs : List RunState) (lists : List (List ℕ)) (xs : List LegSite) (i : ℕ) (p : LegSite) → i < length xs → p ≡ get_or xs i p
    → (lists ++ asked_at runs (take i xs)) ++ asked_at runs (p ∷ []) ≡ lists ++ asked_at runs (take (i + 1) xs)
asked_more runs lists xs i p lt is =
    append_assoc lists (asked_at runs (take i xs)) (asked_at runs (p ∷ []))
    ∙ ap (λ (zs : List (List ℕ)). lists ++ zs)
    (sym (asked-append runs (take i xs) (p ∷ []))
    ∙ ap (asked_at runs) (ap (λ (q : LegSite). take i xs ++ q ∷ []) is ∙ sym (take_more xs i p lt)))

-- ---- one leg

pub run_asked : (runs : List RunState) (r : ℕ) (counts : NamedCounts) → r < length runs
    → AreCounts (asked_at runs (flat_map leg_sites_of_run (placed (take r runs))) ++ asked_at runs (legs_at runs r)) counts
    → AreCounts (asked_at runs (flat_map leg_sites_of_run (placed (take (r + 1) runs)))) counts
run_asked runs r counts lt are =
    subst (λ (xs : List (List ℕ)). AreCounts xs counts)
    (sym (ap (asked_at runs) (legs_more runs r lt) ∙ asked-append runs (flat_map leg_sites_of_run (placed (take r runs))) (legs_at runs r))) are

-- ---- the lines of the lists that are named

pub named_lines : (all ns : List (List ℕ))
    → flat_map (λ n. ready_value n.name n.count) (map (counted all) ns) ≡ flat_map (λ list. ready_value list (times all list)) ns
named_lines all [] = refl
named_lines all (n ∷ ns) = ap (λ zs. ready_value n (times all n) ++ zs) (named_lines all ns)
