-- One more holder, job or run takes its places, or finds one taken, after those before it.
use Rattle.std.specs.Prelude.{◌≡◌, ◌&&◌, ◌||◌, ℕ, suc, List, length, nat_eq, nat_lt, Bool, true, false, option_and_then, refl}
use Rattle.std.specs.Option.{option_map_or}
use Rattle.std.proofs.Common.{ap, sym, ◌∙◌}
use Rattle.std.proofs.lemmas.Bool.{and_from, and_parts, true≢false}
use Rattle.table_model.specs.GroupLaw.{same_holder}
use Rattle.table_model.specs.Holders.{run_of}
use Rattle.table_model.specs.Runs.{job_at, run_at, JobState, RunState}
use Rattle.table_model.specs.declared.holder.Holder.{Holder}
use Rattle.table_model.specs.declared.holder.Holder.TheVariants.{Run, Leg}
use Rattle.table_model.specs.declared.sites.LegSite.{LegSite}
use Rattle.table_bindings.specs.GroupKeys.{ticket_in}
use Rattle.table_bindings.specs.declared.bindings.RunBindings.{RunBindings}
use Rattle.table_runs.specs.inner.Seating.{HaveKeys, OneIsTaken, TakeSeats, in_job, is_of, jobs_below, legs_below, legs_of_run, runs_below}
use Rattle.table_runs.specs.declared.runs.of.GroupSlot.{GroupSlot}
use Rattle.table_runs.proofs.GroupsHeld.{Entries}
use Rattle.table_runs.proofs.Seating.{alike, nobody_seated, seated_then, taken_then}
use Rattle.table_runs.proofs.SeatsInOrder.{all_jobs, all_legs, all_runs, job_is_another, leg_is_another, leg_is_no_run, next_job, next_leg, next_run, no_job_yet, no_leg_yet, none_is_below, run_is_another}

abbrev pub leg_site : ℕ → ℕ → ℕ → LegSite
leg_site r j l = record { run = r; job = j; leg = l }

pub leg_in_its_job : (r j l : ℕ) (h : Holder) → same_holder h (Leg (leg_site r j l)) ≡ true → in_job r j h ≡ true
leg_in_its_job r j l (Run s) e = absurd (true≢false (sym e))
leg_in_its_job r j l (Leg p) e =
    let all = and_parts (nat_eq p.run r) (nat_eq p.job j && nat_eq p.leg l) e in
    and_from (nat_eq p.run r) (nat_eq p.job j) all.0 (and_parts (nat_eq p.job j) (nat_eq p.leg l) all.1).0

-- the legs of a job are of its run
pub job_of_its_run : (r j : ℕ) (h : Holder) → in_job r j h ≡ true → legs_of_run r h ≡ true
job_of_its_run r j (Run s) e = absurd (true≢false (sym e))
job_of_its_run r j (Leg p) e = (and_parts (nat_eq p.run r) (nat_eq p.job j) e).0

-- the legs of a run come after the run itself
pub leg_after_its_run : (r : ℕ) (h : Holder) → legs_of_run r h ≡ true → (runs_below r h || same_holder h (Run r)) ≡ false
leg_after_its_run r h of_run =
    let no_run = leg_is_no_run r h of_run in
    ap (λ b. runs_below r h || b) no_run ∙ ap (λ b. b || false) (run_is_another r h (ap (λ b. b || legs_of_run r h) no_run ∙ of_run))

module _ (slot : GroupSlot) (runs : List RunState) where
  -- a larger set of holders
  pub taken_among : (a b : Holder → Bool) (old : Entries) → ((h : Holder) → a h ≡ true → b h ≡ true) → OneIsTaken slot a runs old
      → OneIsTaken slot b runs old
  taken_among a b old within taken who apart seated =
      taken who
      (λ h e.
      let parts = and_parts (is_of slot runs h) (a h) e in apart h (and_from (is_of slot runs h) (b h) parts.0 (within h parts.1)))
      seated

  -- those that come later still have their keys
  pub keys_still : (among before these : Holder → Bool) (was half : List RunBindings) (old mid : Entries) → HaveKeys slot among runs was
      → TakeSeats slot before runs was half old mid → ((h : Holder) → these h ≡ true → among h ≡ true)
      → ((h : Holder) → these h ≡ true → before h ≡ false) → HaveKeys slot these runs half
  keys_still among before these was half old mid keys seats within later h e =
      let parts = and_parts (is_of slot runs h) (these h) e in
      ap (option_and_then ticket_in)
      (seats.keys h (ap (λ c. is_of slot runs h && c) (later h parts.1) ∙ none (is_of slot runs h)))
      ∙ keys h (and_from (is_of slot runs h) (among h) parts.0 (within h parts.1))
    where
      none : (b : Bool) → (b && false) ≡ false
      none true = refl
      none false = refl

  -- ---- nobody yet

  pub no_leg_seated : (r j : ℕ) (bindings : List RunBindings) (entries : Entries)
      → TakeSeats slot (legs_below r j 0) runs bindings bindings entries entries
  no_leg_seated r j bindings entries =
      alike slot runs (λ h. false) (legs_below r j 0) true bindings bindings entries entries (λ h has. sym (no_leg_yet r j h))
      (nobody_seated slot runs bindings entries)

  pub no_job_seated : (r : ℕ) (bindings : List RunBindings) (entries : Entries)
      → TakeSeats slot (jobs_below r 0) runs bindings bindings entries entries
  no_job_seated r bindings entries =
      alike slot runs (λ h. false) (jobs_below r 0) true bindings bindings entries entries (λ h has. sym (no_job_yet r h))
      (nobody_seated slot runs bindings entries)

  pub no_run_seated : (bindings : List RunBindings) (entries : Entries) → TakeSeats slot (runs_below 0) runs bindings bindings entries entries
  no_run_seated bindings entries =
      alike slot runs (λ h. false) (runs_below 0) true bindings bindings entries entries (λ h has. sym (none_is_below (run_of h)))
      (nobody_seated slot runs bindings entries)

  module _ (was half now : List RunBindings) (old mid new : Entries) where
    -- ---- a leg

    module _ (r j l : ℕ) (before : TakeSeats slot (legs_below r j l) runs was half old mid) where
      abbrev this : Holder → Bool
      this h = same_holder h (Leg (leg_site r j l))

      another_leg : (h : Holder) → (is_of slot runs h && this h) ≡ true → legs_below r j l h ≡ false
      another_leg h e = leg_is_another r j l h (and_parts (is_of slot runs h) (this h) e).1

      pub leg_seated : TakeSeats slot this runs half now mid new → TakeSeats slot (legs_below r j (suc l)) runs was now old new
      leg_seated one =
          alike slot runs (λ h. legs_below r j l h || this h) (legs_below r j (suc l)) true was now old new (λ h has. next_leg r j l h)
          (seated_then slot runs (legs_below r j l) this was half now old mid new before another_leg one)

      in_its_job : (h : Holder) → (legs_below r j l h || this h) ≡ true → in_job r j h ≡ true
      in_its_job (Run s) e = absurd (true≢false (sym e))
      in_its_job (Leg p) e =
          let all = and_parts (nat_eq p.run r) (nat_eq p.job j && nat_lt p.leg (suc l)) (sym (next_leg r j l (Leg p)) ∙ e) in
          and_from (nat_eq p.run r) (nat_eq p.job j) all.0 (and_parts (nat_eq p.job j) (nat_lt p.leg (suc l)) all.1).0

      pub leg_taken : OneIsTaken slot this runs mid → OneIsTaken slot (in_job r j) runs old
      leg_taken taken =
          taken_among (λ h. legs_below r j l h || this h) (in_job r j) old in_its_job
          (taken_then slot runs (legs_below r j l) this was half now old mid new before another_leg taken)

    -- ---- the legs of a job

    module _ (r j : ℕ) (before : TakeSeats slot (jobs_below r j) runs was half old mid) where
      another_job : (h : Holder) → (is_of slot runs h && in_job r j h) ≡ true → jobs_below r j h ≡ false
      another_job h e = job_is_another r j h (and_parts (is_of slot runs h) (in_job r j h) e).1

      pub job_seated : TakeSeats slot (in_job r j) runs half now mid new → TakeSeats slot (jobs_below r (suc j)) runs was now old new
      job_seated one =
          alike slot runs (λ h. jobs_below r j h || in_job r j h) (jobs_below r (suc j)) true was now old new (λ h has. next_job r j h)
          (seated_then slot runs (jobs_below r j) (in_job r j) was half now old mid new before another_job one)

      of_its_run : (h : Holder) → (jobs_below r j h || in_job r j h) ≡ true → legs_of_run r h ≡ true
      of_its_run (Run s) e = absurd (true≢false (sym e))
      of_its_run (Leg p) e = (and_parts (nat_eq p.run r) (nat_lt p.job (suc j)) (sym (next_job r j (Leg p)) ∙ e)).0

      pub job_taken : OneIsTaken slot (in_job r j) runs mid → OneIsTaken slot (legs_of_run r) runs old
      job_taken taken =
          taken_among (λ h. jobs_below r j h || in_job r j h) (legs_of_run r) old of_its_run
          (taken_then slot runs (jobs_below r j) (in_job r j) was half now old mid new before another_job taken)

    -- ---- all legs of a job, all jobs of a run, all runs

    pub all_legs_seated : (r j n : ℕ) → n ≡ option_map_or (λ (y : JobState). length y.legs) (job_at runs r j) 0
        → TakeSeats slot (legs_below r j n) runs was now old new → TakeSeats slot (in_job r j) runs was now old new
    all_legs_seated r j n many seats =
        alike slot runs (legs_below r j n) (in_job r j) true was now old new (all_legs slot runs r j n many) seats

    pub all_jobs_seated : (r n : ℕ) → n ≡ option_map_or (λ (x : RunState). length x.jobs) (run_at runs r) 0
        → TakeSeats slot (jobs_below r n) runs was now old new → TakeSeats slot (legs_of_run r) runs was now old new
    all_jobs_seated r n many seats =
        alike slot runs (jobs_below r n) (legs_of_run r) true was now old new (all_jobs slot runs r n many) seats

    pub all_runs_seated : (n : ℕ) → n ≡ length runs → TakeSeats slot (runs_below n) runs was now old new
        → TakeSeats slot (λ h. true) runs was now old new
    all_runs_seated n many seats =
        alike slot runs (runs_below n) (λ h. true) true was now old new (all_runs slot runs n many) seats

  -- ---- a run, and then its legs

  module _ (r : ℕ) (was half third : List RunBindings) (old mid later : Entries) (before : TakeSeats slot (runs_below r) runs was half old mid) where
    abbrev itself_only : Holder → Bool
    itself_only h = same_holder h (Run r)

    abbrev with_itself : Holder → Bool
    with_itself h = runs_below r h || itself_only h

    another_run : (h : Holder) → (is_of slot runs h && itself_only h) ≡ true → runs_below r h ≡ false
    another_run h e =
        run_is_another r h (ap (λ b. b || legs_of_run r h) (and_parts (is_of slot runs h) (itself_only h) e).1)

    pub run_itself : TakeSeats slot itself_only runs half third mid later → TakeSeats slot with_itself runs was third old later
    run_itself one = seated_then slot runs (runs_below r) itself_only was half third old mid later before another_run one

    pub run_itself_taken : OneIsTaken slot itself_only runs mid → OneIsTaken slot (λ h. true) runs old
    run_itself_taken taken =
        taken_among with_itself (λ h. true) old (λ h e. refl)
        (taken_then slot runs (runs_below r) itself_only was half third old mid later before another_run taken)

    module _ (now : List RunBindings) (new : Entries) (one : TakeSeats slot itself_only runs half third mid later) where
      another_leg_of_run : (h : Holder) → (is_of slot runs h && legs_of_run r h) ≡ true → with_itself h ≡ false
      another_leg_of_run h e = leg_after_its_run r h (and_parts (is_of slot runs h) (legs_of_run r h) e).1

      assoc : (a b c : Bool) → ((a || b) || c) ≡ (a || (b || c))
      assoc true b c = refl
      assoc false b c = refl

      pub run_seated : TakeSeats slot (legs_of_run r) runs third now later new → TakeSeats slot (runs_below (suc r)) runs was now old new
      run_seated legs =
          alike slot runs (λ h. with_itself h || legs_of_run r h) (runs_below (suc r)) true was now old new
          (λ h has. assoc (runs_below r h) (itself_only h) (legs_of_run r h) ∙ next_run r h)
          (seated_then slot runs with_itself (legs_of_run r) was third now old later new (run_itself one) another_leg_of_run legs)

      pub legs_taken : OneIsTaken slot (legs_of_run r) runs later → OneIsTaken slot (λ h. true) runs old
      legs_taken taken =
          taken_among (λ h. with_itself h || legs_of_run r h) (λ h. true) old (λ h e. refl)
          (taken_then slot runs with_itself (legs_of_run r) was third now old later new (run_itself one) another_leg_of_run taken)
