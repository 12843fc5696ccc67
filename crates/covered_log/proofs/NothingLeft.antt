-- Once a table was told, nothing is left to tell of it.
use Rattle.std.proofs.Common.{◌≡◌, ◌∙◌, ◌+◌, ◌-◌, ℕ, zero, suc, List, [], ◌∷◌, ◌++◌, length, map, refl, subst, ap, ap₂, arith, inl, inr}
use Rattle.std.proofs.lemmas.Bool.{eq-eqb}
use Rattle.std.proofs.lemmas.Bool.Decides.{nat_tests}
use Rattle.std.proofs.lemmas.Option.{slice_get-map}
use Rattle.std.proofs.lemmas.Slice.Eq.{bytes_eq-Decides}
use Rattle.std.specs.List.{enumerate_from, flat_map, list_any}
use Rattle.std.specs.Option.{option_map_or}
use Rattle.std.specs.Prelude.{Bool, true, false, ◌&&◌, ◌||◌, ◌==◌, ◌⊎◌, None, Option, Some, drop, nat_eq, nat_lt, not, option_and_then, option_map, slice_get, if◌then◌else◌}
use Rattle.std.specs.Str.{bytes_eq}
use Rattle.table_model.specs.Runs.{JobState, LegState, RunState, leg_site, placed}
use Rattle.table_model.specs.TableState.{TableState}
use Rattle.table_model.specs.declared.phases.RunPhase.{RunPhase}
use Rattle.table_model.specs.declared.phases.RunPhase.TheVariants as phase
use Rattle.table_views.specs.LeaseNames.{NamesState}
use Rattle.table_views.specs.RunViews.{leg_news}
use Rattle.table_views.specs.declared.told_legs.LegNews.{LegNews}
use Rattle.covered_log.specs.Lines.{Change, Displaced, Forgets}
use Rattle.covered_log.specs.Standings.{Standing, Standings, displaced_news, is_over, is_same, is_same_lease, is_same_leg, is_stopped, is_told, job_site, knows_stop, left_of, legs_to_keep, moved_leg, moved_legs, moved_of_job, moved_run, news_of, of_legs, run_news, runs_after, runs_news, standing_of, table_news, told_after, told_leg, told_of}

-- ---- what is told of each element with its index

none_from : {X Y : Type 0} (f : ℕ × X → List Y) (m : ℕ) (xs : List X) → ((k : ℕ) (x : X) → slice_get xs k ≡ Some x → f (m + k, x) ≡ [])
    → flat_map f (enumerate_from m xs) ≡ []
none_from f m [] none = refl
none_from {X} {Y} f m (x ∷ xs) none =
    let here : m + 0 ≡ m = omega arith in
    let first : f (m, x) ≡ [] = subst (λ (n : ℕ). f (n, x) ≡ []) here (none 0 x refl) in
    let rest : flat_map f (enumerate_from (m + 1) xs) ≡ [] =
    none_from f (m + 1) xs (λ k y is.
    let there : m + suc k ≡ m + 1 + k = omega arith in
    subst (λ (n : ℕ). f (n, y) ≡ []) there (none (suc k) y is)) in
    ap₂ (λ (ys zs : List Y). ys ++ zs) first rest

none_placed : {X Y : Type 0} (f : ℕ × X → List Y) (xs : List X) → ((k : ℕ) (x : X) → slice_get xs k ≡ Some x → f (k, x) ≡ [])
    → flat_map f (placed xs) ≡ []
none_placed f xs none =
    none_from f 0 xs (λ k x is.
    let there : k ≡ 0 + k = omega arith in
    subst (λ (n : ℕ). f (n, x) ≡ []) there (none k x is))

told_from : {X Y : Type 0} (f : ℕ × X → Y) (m : ℕ) (xs : List X) (rest : List Y) (k : ℕ) (x : X) → slice_get xs k ≡ Some x
    → slice_get (map f (enumerate_from m xs) ++ rest) k ≡ Some (f (m + k, x))
told_from f m [] rest k x is = absurd (cc is)
told_from f m (y ∷ ys) rest zero x is =
    let here : m ≡ m + 0 = omega arith in
    let same : y ≡ x = cc is in
    ap₂ (λ n z. Some (f (n, z))) here same
told_from f m (y ∷ ys) rest (suc k) x is =
    let there : m + 1 + k ≡ m + suc k = omega arith in
    told_from f (m + 1) ys rest k x is ∙ ap (λ (n : ℕ). Some (f (n, x))) there

told_at : {X Y : Type 0} (f : ℕ × X → Y) (xs : List X) (rest : List Y) (k : ℕ) (x : X) → slice_get xs k ≡ Some x
    → slice_get (map f (placed xs) ++ rest) k ≡ Some (f (k, x))
told_at f xs rest k x is =
    let there : 0 + k ≡ k = omega arith in
    told_from f 0 xs rest k x is ∙ ap (λ (n : ℕ). Some (f (n, x))) there

-- ---- what stands as itself

same_number : (n : ℕ) → (n == n) ≡ true
same_number n = eq-eqb n n refl

same_text : (text : List ℕ) → bytes_eq text text ≡ true
same_text text = (bytes_eq-Decides text text).1 refl

same_lease : (lease : Option ℕ) → is_same_lease lease lease ≡ true
same_lease None = refl
same_lease (Some n) = same_number n

same_leg : (leg : LegState) → is_same_leg leg leg ≡ true
same_leg leg = rw (same_text, same_lease leg.lease) refl

same_run : (run : RunState) → is_same (standing_of run) run ≡ true
same_run run = rw (same_number run.attempt, same_text, same_text) refl

-- a run that is told with its stop
same_stop : (run : RunState) → knows_stop (standing_of run) run ≡ true
same_stop run = by (is_stopped run) (same_number run.attempt)
  where
    by : (stopped : Bool) → (run.attempt == run.attempt) ≡ true → (not stopped || (stopped && run.attempt == run.attempt)) ≡ true
    by true same = same
    by false same = refl

-- a leg that is told as it stands
stays_told : (names : NamesState) (t : TableState) (s : Standing) (run : RunState) (r j l : ℕ) (leg : LegState)
    → told_leg s run.attempt (leg_site r j l) ≡ Some leg → moved_leg names t s run (leg_site r j l) leg ≡ []
stays_told names t s run r j l leg is =
    ap (λ (o : Option LegState). if option_map_or (λ told. is_same_leg told leg) o false then [] else leg_news names t (leg_site r j l) run leg ∷ []) is
    ∙ ap (λ (b : Bool). if b then [] else leg_news names t (leg_site r j l) run leg ∷ []) (same_leg leg)

-- the legs of a run that goes on are told as they stand
told_legs_stay : (names : NamesState) (t : TableState) (r : ℕ) (run : RunState)
    → legs_to_keep run.phase run.jobs ≡ map (λ (j : JobState). j.legs) run.jobs → moved_legs names t (standing_of run) r run ≡ []
told_legs_stay names t r run keeps =
    none_placed (λ (x : ℕ × JobState). moved_of_job names t (standing_of run) run (job_site r x.0) x.1.legs) run.jobs
    (λ j job at.
    none_placed (λ (x : ℕ × LegState). moved_leg names t (standing_of run) run (leg_site r j x.0) x.1) job.legs
    (λ l leg is.
    let legs : slice_get (legs_to_keep run.phase run.jobs) j ≡ Some job.legs =
    ap (λ (ls : List (List LegState)). slice_get ls j) keeps ∙ slice_get-map (λ (x : JobState). x.legs) run.jobs j
    ∙ ap (option_map (λ (x : JobState). x.legs)) at in
    let there : told_leg (standing_of run) run.attempt (leg_site r j l) ≡ Some leg =
    ap (λ (b : Bool). if b then option_and_then (λ (ls : List LegState). slice_get ls l) (slice_get (legs_to_keep run.phase run.jobs) j) else None)
    (same_number run.attempt)
    ∙ ap (option_and_then (λ (ls : List LegState). slice_get ls l)) legs ∙ is in
    stays_told names t (standing_of run) run r j l leg there))

-- ---- nothing is left to tell

-- what it was told as
record IsAsTold (names : NamesState) (t : TableState) (s : Standing) (r : ℕ) (run : RunState) : Type 0 where
  pub same : is_same s run ≡ true
  pub stop : knows_stop s run ≡ true
  pub legs : moved_legs names t s r run ≡ []

-- what is told where an attempt is not over
abbrev of_all : ℕ → List ℕ → NamesState → TableState → Standing → ℕ → RunState → List Change
of_all at cancelled names t s r run =
    run_news at t s run ++ displaced_news at cancelled t s r run ++ of_legs at (moved_legs names t s r run)

all_is_told : (at : ℕ) (cancelled : List ℕ) (names : NamesState) (t : TableState) (s : Standing) (r : ℕ) (run : RunState)
    → IsAsTold names t s r run → of_all at cancelled names t s r run ≡ []
all_is_told at cancelled names t s r run told =
    ap (λ (b : Bool). (if b then [] else moved_run at t s run ∷ []) ++ displaced_news at cancelled t s r run ++ of_legs at (moved_legs names t s r run))
    told.same
    ∙ ap (λ (b : Bool). (if not b && not (list_any (nat_eq run.id) cancelled) then Displaced at t.runs r run ∷ [] else [])
    ++ of_legs at (moved_legs names t s r run)) told.stop
    ∙ ap (of_legs at) told.legs

-- of a run that was told as completed, or as it stands with its legs
no_news : (at : ℕ) (cancelled : List ℕ) (names : NamesState) (t : TableState) (s : Standing) (r : ℕ) (run : RunState)
    → ((is_over s run ≡ true) ⊎ IsAsTold names t s r run) → news_of at cancelled names t (Some s) r run ≡ []
no_news at cancelled names t s r run (inl over) = ap (λ (b : Bool). if b then [] else of_all at cancelled names t s r run) over
no_news at cancelled names t s r run (inr told) = by (is_over s run) (all_is_told at cancelled names t s r run told)
  where
    by : (b : Bool) → of_all at cancelled names t s r run ≡ [] → (if b then [] else of_all at cancelled names t s r run) ≡ []
    by true left = refl
    by false left = left

-- of a run that was told as it stands
as_it_stands : (names : NamesState) (t : TableState) (r : ℕ) (run : RunState)
    → legs_to_keep run.phase run.jobs ≡ map (λ (j : JobState). j.legs) run.jobs → IsAsTold names t (standing_of run) r run
as_it_stands names t r run keeps = record { same = same_run run; stop = same_stop run; legs = told_legs_stay names t r run keeps }

none_left_in : (at : ℕ) (cancelled : List ℕ) (names : NamesState) (t : TableState) (r : ℕ) (run : RunState) (p : RunPhase) → run.phase ≡ p
    → news_of at cancelled names t (Some (standing_of run)) r run ≡ []
none_left_in at cancelled names t r run phase.Waiting is =
    let keeps : legs_to_keep run.phase run.jobs ≡ map (λ (j : JobState). j.legs) run.jobs = ap (λ (p : RunPhase). legs_to_keep p run.jobs) is in
    no_news at cancelled names t (standing_of run) r run (inr (as_it_stands names t r run keeps))
none_left_in at cancelled names t r run phase.Live is =
    let keeps : legs_to_keep run.phase run.jobs ≡ map (λ (j : JobState). j.legs) run.jobs = ap (λ (p : RunPhase). legs_to_keep p run.jobs) is in
    no_news at cancelled names t (standing_of run) r run (inr (as_it_stands names t r run keeps))
none_left_in at cancelled names t r run phase.Ended is =
    let over : is_over (standing_of run) run ≡ true = rw (is, same_number run.attempt) refl in
    no_news at cancelled names t (standing_of run) r run (inl over)

none_left : (at : ℕ) (cancelled : List ℕ) (names : NamesState) (t : TableState) (r : ℕ) (run : RunState)
    → news_of at cancelled names t (Some (standing_of run)) r run ≡ []
none_left at cancelled names t r run = none_left_in at cancelled names t r run run.phase refl

both_true : (a b : Bool) → (a && b) ≡ true → (a ≡ true) × (b ≡ true)
both_true true b is = (refl, is)
both_true false b is = absurd (cc is)

no_legs : (legs : List LegNews) → nat_eq (length legs) 0 ≡ true → legs ≡ []
no_legs [] is = refl
no_legs (leg ∷ legs) is = absurd (grind (arith, nat_tests, is))

is_as_told : (names : NamesState) (t : TableState) (s : Standing) (r : ℕ) (run : RunState) → is_told names t s r run ≡ true
    → IsAsTold names t s r run
is_as_told names t s r run is =
    let none : Bool = nat_eq (length (moved_legs names t s r run)) 0 in
    let both = both_true (is_same s run) (knows_stop s run && none) is in
    let others = both_true (knows_stop s run) none both.1 in
    record { same = both.0; stop = others.0; legs = no_legs (moved_legs names t s r run) others.1 }

none_after : (at : ℕ) (cancelled : List ℕ) (names : NamesState) (t : TableState) (known : Option Standing) (r : ℕ) (run : RunState)
    → news_of at cancelled names t (Some (told_of names t known r run)) r run ≡ []
none_after at cancelled names t None r run = none_left at cancelled names t r run
none_after at cancelled names t (Some s) r run = by (is_over s run) (is_told names t s r run) refl refl
  where
    by : (over told : Bool) → is_over s run ≡ over → is_told names t s r run ≡ told
        → news_of at cancelled names t (Some (if over then s else if told then s else standing_of run)) r run ≡ []
    by true told over is = no_news at cancelled names t s r run (inl over)
    by false true over is = no_news at cancelled names t s r run (inr (is_as_told names t s r run is))
    by false false over is = none_left at cancelled names t r run

no_runs_news : (at : ℕ) (cancelled : List ℕ) (names : NamesState) (t : TableState) (known : List Standing)
    → runs_news at cancelled names t (runs_after names t known) ≡ []
no_runs_news at cancelled names t known =
    let f : ℕ × RunState → Standing = λ x. told_of names t (slice_get known x.0) x.0 x.1 in
    none_placed (λ (x : ℕ × RunState). news_of at cancelled names t (slice_get (runs_after names t known) x.0) x.0 x.1) t.runs
    (λ r run is.
    ap (λ (o : Option Standing). news_of at cancelled names t o r run) (told_at f t.runs (drop (length t.runs) known) r run is)
    ∙ none_after at cancelled names t (slice_get known r) r run)

not_less : (n : ℕ) → nat_lt n n ≡ false
not_less n = by (nat_lt n n) refl
  where
    by : (b : Bool) → nat_lt n n ≡ b → b ≡ false
    by true is = absurd (grind (arith, nat_tests, is))
    by false is = refl

-- of a table that was told
pub nothing_left : (at : ℕ) (cancelled : List ℕ) (names : NamesState) (t : TableState) (known : Standings)
    → table_news at cancelled names t (told_after names t known) ≡ []
nothing_left at cancelled names t known =
    let through : ℕ = t.forgotten.through in
    let after : List Standing = runs_after names t (left_of t known) in
    let none : through - through ≡ 0 = omega arith in
    ap (λ (b : Bool). (if b then Forgets at through ∷ [] else []) ++ runs_news at cancelled names t (drop (through - through) after)) (not_less through)
    ∙ ap (λ (n : ℕ). runs_news at cancelled names t (drop n after)) none
    ∙ no_runs_news at cancelled names t (left_of t known)
