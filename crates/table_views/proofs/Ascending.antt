-- Lists whose elements ascend, and all runs and legs of a table as one of them.
use Rattle.std.specs.Prelude.{◌≡◌, ◌<◌, ◌≤◌, ◌+◌, ℕ, List, [], ◌∷◌, ◌++◌, map, flat_map, Bool, true, false, ◌&&◌, ◌||◌, nat_eq, nat_lt, refl}
use Rattle.std.specs.List.{AllByRecursion, enumerate_from}
use Rattle.std.proofs.Common.{arith, ap, sym, ◌∙◌}
use Rattle.std.proofs.lemmas.Bool.{eq-eqb, true≢false}
use Rattle.std.proofs.lemmas.Bool.Decides.{Decides-ltb}
use Rattle.table_model.specs.Runs.{placed, leg_sites, leg_sites_of_job, leg_sites_of_run, JobState, LegState, RunState}
use Rattle.table_model.specs.Groups.{all_holders}
use Rattle.table_model.specs.declared.holder.Holder.{Holder}
use Rattle.table_model.specs.declared.holder.Holder.TheVariants.{Run, Leg}
use Rattle.table_model.specs.declared.sites.LegSite.{LegSite}
use Rattle.table_model.proofs.Found.{all_append, all_map, all_weaken}
use Rattle.table_views.specs.inner.HolderOrder.{is_before, is_site_before}

module _ {X : Type 0} (before : X → X → Bool) where
  abbrev pub Ascends : List X → Type 0
  Ascends [] = Unit {0}
  Ascends (x ∷ xs) = AllByRecursion (λ y. before x y ≡ true) xs × Ascends xs

  pub ascends_append : (xs ys : List X) → Ascends xs → Ascends ys → AllByRecursion (λ x. AllByRecursion (λ y. before x y ≡ true) ys) xs
      → Ascends (xs ++ ys)
  ascends_append [] ys first then each = then
  ascends_append (x ∷ xs) ys first then each =
      (all_append (λ y. before x y ≡ true) xs ys first.0 each.0, ascends_append xs ys first.1 then each.1)

  -- one element for each index
  module _ {Y : Type 0} (f : ℕ × Y → X) (ordered : (i j : ℕ) (y z : Y) → i < j → before (f (i, y)) (f (j, z)) ≡ true) where
    all_later : (a b : ℕ) (y : Y) → a < b → (zs : List Y) → AllByRecursion (λ x. before (f (a, y)) x ≡ true) (map f (enumerate_from b zs))
    all_later a b y lt [] = tt
    all_later a b y lt (z ∷ zs) = (ordered a b y z lt, all_later a (b + 1) y (omega (arith, lt)) zs)

    pub each_ascends : (a : ℕ) (ys : List Y) → Ascends (map f (enumerate_from a ys))
    each_ascends a [] = tt
    each_ascends a (y ∷ ys) = (all_later a (a + 1) y (omega arith) ys, each_ascends (a + 1) ys)

  -- several elements for each index
  module _ {Y : Type 0} (f : ℕ × Y → List X) (IsAt : ℕ → X → Type 0)
      (ordered : (i j : ℕ) (x z : X) → i < j → IsAt i x → IsAt j z → before x z ≡ true)
      (ascend : (i : ℕ) (y : Y) → Ascends (f (i, y))) (are_at : (i : ℕ) (y : Y) → AllByRecursion (IsAt i) (f (i, y))) where
    record IsFrom (a : ℕ) (x : X) : Type 0 where
      index : ℕ
      least : a ≤ index
      is : IsAt index x

    all_from : (a b : ℕ) → a ≤ b → (ys : List Y) → AllByRecursion (IsFrom a) (flat_map f (enumerate_from b ys))
    all_from a b le [] = tt
    all_from a b le (y ∷ ys) =
        all_append (IsFrom a) (f (b, y)) (flat_map f (enumerate_from (b + 1) ys))
        (all_weaken (IsAt b) (IsFrom a) (λ x at. record { index = b; least = le; is = at }) (f (b, y)) (are_at b y))
        (all_from a (b + 1) (omega (arith, le)) ys)

    pub blocks_ascend : (a : ℕ) (ys : List Y) → Ascends (flat_map f (enumerate_from a ys))
    blocks_ascend a [] = tt
    blocks_ascend a (y ∷ ys) =
        let later : List X = flat_map f (enumerate_from (a + 1) ys) in
        ascends_append (f (a, y)) later (ascend a y) (blocks_ascend (a + 1) ys)
        (all_weaken (IsAt a) (λ x. AllByRecursion (λ z. before x z ≡ true) later)
        (λ x at. all_weaken (IsFrom (a + 1)) (λ z. before x z ≡ true)
        (λ z behind. ordered a behind.index x z (omega (arith, behind.least)) at behind.is) later (all_from (a + 1) (a + 1) (omega arith) ys))
        (f (a, y)) (are_at a y))

-- ---- the sites of legs

below : (a b : ℕ) → a < b → nat_lt a b ≡ true
below a b lt = (Decides-ltb a b).1 lt

same : (a b : ℕ) → a ≡ b → nat_eq a b ≡ true
same a b e = eq-eqb a b e

earlier_run : (p q : LegSite) → p.run < q.run → is_site_before p q ≡ true
earlier_run p q lt =
    ap (λ b. b || (nat_eq p.run q.run && (nat_lt p.job q.job || (nat_eq p.job q.job && nat_lt p.leg q.leg)))) (below p.run q.run lt)

or_true : (a b : Bool) → b ≡ true → (a || b) ≡ true
or_true true b e = refl
or_true false b e = e

and_true : (a b : Bool) → a ≡ true → b ≡ true → (a && b) ≡ true
and_true true b e f = f
and_true false b e f = e

or_left : (a b : Bool) → a ≡ true → (a || b) ≡ true
or_left true b e = refl
or_left false b e = absurd (true≢false (sym e))

earlier_job : (p q : LegSite) → p.run ≡ q.run → p.job < q.job → is_site_before p q ≡ true
earlier_job p q run lt =
    or_true (nat_lt p.run q.run) (nat_eq p.run q.run && (nat_lt p.job q.job || (nat_eq p.job q.job && nat_lt p.leg q.leg)))
    (and_true (nat_eq p.run q.run) (nat_lt p.job q.job || (nat_eq p.job q.job && nat_lt p.leg q.leg)) (same p.run q.run run)
    (or_left (nat_lt p.job q.job) (nat_eq p.job q.job && nat_lt p.leg q.leg) (below p.job q.job lt)))

earlier_leg : (p q : LegSite) → p.run ≡ q.run → p.job ≡ q.job → p.leg < q.leg → is_site_before p q ≡ true
earlier_leg p q run job lt =
    or_true (nat_lt p.run q.run) (nat_eq p.run q.run && (nat_lt p.job q.job || (nat_eq p.job q.job && nat_lt p.leg q.leg)))
    (and_true (nat_eq p.run q.run) (nat_lt p.job q.job || (nat_eq p.job q.job && nat_lt p.leg q.leg)) (same p.run q.run run)
    (or_true (nat_lt p.job q.job) (nat_eq p.job q.job && nat_lt p.leg q.leg)
    (and_true (nat_eq p.job q.job) (nat_lt p.leg q.leg) (same p.job q.job job) (below p.leg q.leg lt))))

abbrev OfJob : ℕ → ℕ → LegSite → Type 0
OfJob r j p = (p.run ≡ r) × (p.job ≡ j)

abbrev OfRun : ℕ → LegSite → Type 0
OfRun r p = p.run ≡ r

abbrev leg_of : ℕ → ℕ → ℕ × LegState → LegSite
leg_of r j l = record { run = r; job = j; leg = l.0 }

job_ascends : (r j : ℕ) (y : JobState) → Ascends is_site_before (leg_sites_of_job r (j, y))
job_ascends r j y =
    each_ascends is_site_before (leg_of r j) (λ i k a b lt. earlier_leg (leg_of r j (i, a)) (leg_of r j (k, b)) refl refl lt) 0 y.legs

legs_of_job : (r j : ℕ) (y : JobState) → AllByRecursion (OfJob r j) (leg_sites_of_job r (j, y))
legs_of_job r j y = all_map (OfJob r j) (leg_of r j) (λ l. (refl, refl)) (placed y.legs)

run_ascends : (r : ℕ) (x : RunState) → Ascends is_site_before (leg_sites_of_run (r, x))
run_ascends r x =
    blocks_ascend is_site_before (leg_sites_of_job r) (OfJob r)
    (λ i j p q lt at_i at_j. earlier_job p q (at_i.0 ∙ sym at_j.0) (omega (arith, at_i.1, at_j.1, lt))) (job_ascends r) (legs_of_job r) 0 x.jobs

legs_of_jobs : (r a : ℕ) (ys : List JobState) → AllByRecursion (OfRun r) (flat_map (leg_sites_of_job r) (enumerate_from a ys))
legs_of_jobs r a [] = tt
legs_of_jobs r a (y ∷ ys) =
    all_append (OfRun r) (leg_sites_of_job r (a, y)) (flat_map (leg_sites_of_job r) (enumerate_from (a + 1) ys))
    (all_weaken (OfJob r a) (OfRun r) (λ p of. of.0) (leg_sites_of_job r (a, y)) (legs_of_job r a y)) (legs_of_jobs r (a + 1) ys)

places_ascend : (runs : List RunState) → Ascends is_site_before (leg_sites runs)
places_ascend runs =
    blocks_ascend is_site_before leg_sites_of_run OfRun (λ i j p q lt at_i at_j. earlier_run p q (omega (arith, at_i, at_j, lt))) run_ascends
    (λ r x. legs_of_jobs r 0 x.jobs) 0 runs

-- ---- all runs and legs

abbrev run_of_site : ℕ × RunState → Holder
run_of_site r = Run r.0

abbrev leg_of_place : LegSite → Holder
leg_of_place p = Leg p

legs_later : (p : LegSite) (qs : List LegSite) → AllByRecursion (λ q. is_site_before p q ≡ true) qs
    → AllByRecursion (λ k. is_before (Leg p) k ≡ true) (map leg_of_place qs)
legs_later p [] all = tt
legs_later p (q ∷ qs) all = (all.0, legs_later p qs all.1)

legs_ascend : (ps : List LegSite) → Ascends is_site_before ps → Ascends is_before (map leg_of_place ps)
legs_ascend [] ascends = tt
legs_ascend (p ∷ ps) ascends = (legs_later p ps ascends.0, legs_ascend ps ascends.1)

run_before_legs : (xs : List (ℕ × RunState)) (ps : List LegSite)
    → AllByRecursion (λ h. AllByRecursion (λ k. is_before h k ≡ true) (map leg_of_place ps)) (map run_of_site xs)
run_before_legs xs ps =
    all_map (λ h. AllByRecursion (λ k. is_before h k ≡ true) (map leg_of_place ps)) run_of_site
    (λ x. all_map (λ k. is_before (Run x.0) k ≡ true) leg_of_place (λ p. refl) ps) xs

pub holders_ascend : (runs : List RunState) → Ascends is_before (all_holders runs)
holders_ascend runs =
    ascends_append is_before (map run_of_site (placed runs)) (map leg_of_place (leg_sites runs))
    (each_ascends is_before run_of_site (λ i j x y lt. below i j lt) 0 runs) (legs_ascend (leg_sites runs) (places_ascend runs))
    (run_before_legs (placed runs) (leg_sites runs))
