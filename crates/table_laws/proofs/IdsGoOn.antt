-- No command lowers the last id or the number of runs of a workflow, a new run has the next of each, and each run keeps its own until it is
-- forgotten.
use Rattle.std.specs.Prelude.{◌≡◌, ◌⊎◌, ℕ, zero, suc, ◌+◌, ◌-◌, ◌≤◌, List, [], ◌∷◌, ◌++◌, length, map, cond, count_by, Bool, true, false}
use Rattle.std.specs.Prelude.{Some, None, option_map, slice_get, refl}
use Rattle.std.proofs.Common.{arith, ap, inl, inr, sym, subst, ◌∙◌, length-append}
use Rattle.std.proofs.lemmas.List.{length-map}
use Rattle.std.proofs.lemmas.List.Sums.{sum_by-append}
use Rattle.std.proofs.lemmas.Option.{slice_get-map}
use Rattle.definitions.specs.SmallText.{Admitted}
use Rattle.run_plan.specs.declared.command.Command.{Command}
use Rattle.run_plan.specs.declared.command.Command.TheVariants as command
use Rattle.run_plan.specs.declared.reply.Reply.TheVariants as reply
use Rattle.table_model.specs.Forgotten.{ForgottenRuns, forgotten_of, next_run}
use Rattle.table_model.specs.LegContext.{runs_of_workflow, same_workflow}
use Rattle.table_model.specs.Runs.{run_at}
use Rattle.table_model.specs.Sound.{ForgottenFit, IsSound}
use Rattle.table_model.specs.Step.{after, admitting, forgettable, forgot, is_full, stepped}
use Rattle.table_model.specs.TableState.{TableState, last_id, run_of_delivery}
use Rattle.table_model.proofs.Found.{at_the_end}
use Rattle.table_model.proofs.Identity.{Identity, identity_of}
use Rattle.table_model.proofs.Numbered.{count_end, count_of_map, same_as_itself}
use Rattle.table_model.proofs.Optional.{from_map}
use Rattle.settling_laws.proofs.Forgot.{last_id_stays}
use Rattle.settling_laws.proofs.ForgottenMore.{next_number_stays}
use Rattle.table_laws.specs.Remembered.{IsNotForgotten, KnowsDelivery}
use Rattle.table_laws.specs.RunIds.{HasRun, IsNextRun, runs_so_far}
use Rattle.table_laws.proofs.Deliveries.{admitted_by}
use Rattle.table_laws.proofs.ForgetSteps.{IsNoForget, forget_or_not, forgot_drops, forgot_is, run_then}
use Rattle.table_laws.proofs.RunsStay.{IsOfCourse}
use Rattle.table_laws.proofs.StepsStay.{any_step_stays, entered_stays, fits_then, forgotten_stays, through_rises_on}

its_identity : IsOfCourse identity_of
its_identity x y same attempt = same

abbrev identities : TableState → List Identity
identities t = map identity_of t.runs

-- the runs of a table are the first of the next one, if none is forgotten
go_on : (t : TableState) (c : Command) → IsNoForget c → (more : List Identity) × (identities (stepped t c).table ≡ identities t ++ more)
go_on t c other = any_step_stays identity_of its_identity (λ x. refl) t c other

-- ---- counts

abbrev is_alike : Admitted → Identity → Bool
is_alike event i = same_workflow event i.admitted

as_many : (t : TableState) → length t.runs ≡ length (identities t)
as_many t = sym (length-map t.runs identity_of)

as_many_of : (t : TableState) (event : Admitted) → runs_of_workflow event t.runs ≡ count_by (is_alike event) (identities t)
as_many_of t event = count_of_map (is_alike event) identity_of t.runs

count_on : {X : Type 0} (test : X → Bool) (xs ys : List X) → count_by test (xs ++ ys) ≡ count_by test xs + count_by test ys
count_on test xs ys = sum_by-append (λ x. cond (test x) 1 0) xs ys

last_id_then : (t : TableState) (c : Command) → last_id t ≤ last_id (stepped t c).table
last_id_then t c =
    elim (forget_or_not c) [
      | inl forgets ↦
          let same = last_id_stays t forgets.0 in
          subst (λ (d : Command). last_id t ≤ last_id (stepped t d).table) (sym forgets.1) (omega (arith, same))
      | inr other ↦
          let go = go_on t c other in
          let through = ap (λ (f : ForgottenRuns). f.through) (forgotten_stays t c other) in
          let before = as_many t in
          let now = as_many (stepped t c).table in
          let all : length (identities (stepped t c).table) ≡ length (identities t ++ go.0) = ap (λ (l : List Identity). length l) go.1 in
          omega (arith, through, before, now, all, length-append (identities t) go.0)
    ]

pub last_id_rises : (t : TableState) (later : List Command) → last_id t ≤ last_id (after t later)
last_id_rises t [] = omega arith
last_id_rises t (c ∷ cs) =
    let first = last_id_then t c in let others = last_id_rises (stepped t c).table cs in omega (arith, first, others)

forgot_numbers : (t : TableState) (id : ℕ) (event : Admitted) → ForgottenFit t.forgotten
    → runs_so_far t event ≤ runs_so_far (forgot t id).table event
forgot_numbers t id event fit =
    let same = next_number_stays (forgettable t id) t.forgotten t.runs fit event in
    forgot_is (λ next. runs_so_far t event ≤ runs_so_far next event) t id (λ none. omega arith) (λ some. omega (arith, same))

numbers_then : (t : TableState) (c : Command) (event : Admitted) → ForgottenFit t.forgotten
    → runs_so_far t event ≤ runs_so_far (stepped t c).table event
numbers_then t c event fit =
    elim (forget_or_not c) [
      | inl forgets ↦
          subst (λ (d : Command). runs_so_far t event ≤ runs_so_far (stepped t d).table event) (sym forgets.1)
          (forgot_numbers t forgets.0 event fit)
      | inr other ↦
          let go = go_on t c other in
          let gone = ap (λ (f : ForgottenRuns). forgotten_of f.counts event) (forgotten_stays t c other) in
          let before = as_many_of t event in
          let now = as_many_of (stepped t c).table event in
          let all = ap (count_by (is_alike event)) go.1 ∙ count_on (is_alike event) (identities t) go.0 in
          omega (arith, gone, before, now, all)
    ]

pub numbers_rise : (t : TableState) (later : List Command) (event : Admitted) → ForgottenFit t.forgotten
    → runs_so_far t event ≤ runs_so_far (after t later) event
numbers_rise t [] event fit = omega arith
numbers_rise t (c ∷ cs) event fit =
    let first = numbers_then t c event fit in
    let others = numbers_rise (stepped t c).table cs event (fits_then t c fit) in
    omega (arith, first, others)

-- ---- runs

-- the run that comes after so many others, of all that the table had, has this identity
record Stands (t : TableState) (before : ℕ) (i : Identity) : Type 0 where
  index : ℕ
  at : slice_get (identities t) index ≡ Some i
  is : t.forgotten.through + index ≡ before

has_identity : (t : TableState) (k : ℕ) (i : Identity) → slice_get (identities t) k ≡ Some i → HasRun t i.id i.number i.admitted
has_identity t k i at =
    let its = from_map identity_of (run_at t.runs k) i (sym (slice_get-map identity_of t.runs k) ∙ at) in
    record {
      index = k;
      run = its.value;
      there = its.is;
      id_is = ap (λ (x : Identity). x.id) its.gives;
      number_is = ap (λ (x : Identity). x.number) its.gives;
      event_is = ap (λ (x : Identity). x.admitted) its.gives;
    }

still_there : {X : Type 0} (xs more : List X) (k : ℕ) (x : X) → slice_get xs k ≡ Some x → slice_get (xs ++ more) k ≡ Some x
still_there [] more k x at = cc
still_there (y ∷ xs) more zero x at = at
still_there (y ∷ xs) more (suc k) x at = still_there xs more k x at

forgot_stands : (t : TableState) (id before : ℕ) (i : Identity) → Stands t before i → (forgot t id).table.forgotten.through ≤ before
    → Stands (forgot t id).table before i
forgot_stands t id before i stands later =
    let next = (forgot t id).table in
    let k = forgettable t id in
    let dropped = forgot_drops t id in
    let through = dropped.through in
    let was = stands.is in
    let there : k + (stands.index - k) ≡ stands.index = omega (arith, later, through, was) in
    record {
      index = stands.index - k;
      at = slice_get-map identity_of next.runs (stands.index - k)
          ∙ ap (option_map identity_of) (run_then k t next dropped (stands.index - k) ∙ ap (run_at t.runs) there)
          ∙ sym (slice_get-map identity_of t.runs stands.index) ∙ stands.at;
      is = omega (arith, there, through, was);
    }

stands_then : (t : TableState) (c : Command) (before : ℕ) (i : Identity) → Stands t before i
    → (stepped t c).table.forgotten.through ≤ before → Stands (stepped t c).table before i
stands_then t c before i stands =
    elim (forget_or_not c) [
      | inl forgets ↦
          subst (λ (d : Command). (stepped t d).table.forgotten.through ≤ before → Stands (stepped t d).table before i) (sym forgets.1)
          (forgot_stands t forgets.0 before i stands)
      | inr other ↦ λ later.
          let go = go_on t c other in
          record {
            index = stands.index;
            at = ap (λ (l : List Identity). slice_get l stands.index) go.1 ∙ still_there (identities t) go.0 stands.index i stands.at;
            is = ap (λ (f : ForgottenRuns). f.through + stands.index) (forgotten_stays t c other) ∙ stands.is;
          }
    ]

stands_on : (t : TableState) (later : List Command) (before : ℕ) (i : Identity) → Stands t before i
    → (after t later).forgotten.through ≤ before → Stands (after t later) before i
stands_on t [] before i stands kept = stands
stands_on t (c ∷ cs) before i stands kept =
    let rises = through_rises_on (stepped t c).table cs in
    stands_on (stepped t c).table cs before i (stands_then t c before i stands (omega (arith, kept, rises))) kept

pub runs_stay : (t : TableState) (later : List Command) (id number : ℕ) (event : Admitted) → (has : HasRun t id number event)
    → (after t later).forgotten.through ≤ t.forgotten.through + has.index → HasRun (after t later) id number event
runs_stay t later id number event has kept =
    let i = identity_of has.run in
    let was : slice_get (identities t) has.index ≡ Some i = slice_get-map identity_of t.runs has.index ∙ ap (option_map identity_of) has.there in
    let now = stands_on t later (t.forgotten.through + has.index) i (record { index = has.index; at = was; is = refl }) kept in
    subst (λ n. HasRun (after t later) n number event) has.id_is
    (subst (λ n. HasRun (after t later) has.run.id n event) has.number_is
    (subst (λ e. HasRun (after t later) has.run.id has.run.number e) has.event_is (has_identity (after t later) now.index i now.at)))

pub runs_stay_by_id : (t : TableState) (later : List Command) (id number : ℕ) (event : Admitted) → IsSound t → HasRun t id number event
    → IsNotForgotten (after t later) id → HasRun (after t later) id number event
runs_stay_by_id t later id number event sound has kept =
    let its = sound.ids_follow has.index has.run has.there in
    let is = has.id_is in
    runs_stay t later id number event has (omega (arith, its, is, kept))

-- ---- a new run

next_made : (t : TableState) (event : Admitted) → IsNextRun t (admitting t event).table event (last_id t + 1)
next_made t event =
    let next = (admitting t event).table in
    let i = identity_of (next_run t.forgotten t.runs event) in
    let all : identities next ≡ identities t ++ i ∷ [] = entered_stays identity_of its_identity t event in
    let before = as_many t in
    let now = as_many next in
    let more : length (identities next) ≡ length (identities t ++ i ∷ []) = ap (λ (l : List Identity). length l) all in
    let was = as_many_of t event in
    let counted : runs_of_workflow event next.runs ≡ count_by (is_alike event) (identities t) + 1 =
    as_many_of next event ∙ ap (count_by (is_alike event)) all ∙ count_end (is_alike event) (identities t) i (same_as_itself event) in
    let number : runs_so_far next event ≡ runs_so_far t event + 1 = omega (arith, was, counted) in
    let at : slice_get (identities next) (length (identities t)) ≡ Some i =
    ap (λ (l : List Identity). slice_get l (length (identities t))) all ∙ at_the_end (identities t) i in
    record {
      next_id = refl;
      is_last = omega (arith, before, now, more, length-append (identities t) (i ∷ []));
      next_number = number;
      made = subst (λ n. HasRun next (last_id t + 1) n event) (sym number) (has_identity next (length (identities t)) i at);
    }

pub made_or_known : (t : TableState) (event : Admitted) (id : ℕ) → (stepped t (command.Admit event)).reply ≡ reply.Created id
    → KnowsDelivery t event.delivery id ⊎ IsNextRun t (stepped t (command.Admit event)).table event id
made_or_known t event id given =
    elim (run_of_delivery t event.delivery) as
    (λ o. run_of_delivery t event.delivery ≡ o → (admitted_by t event o (is_full t)).reply ≡ reply.Created id
    → KnowsDelivery t event.delivery id ⊎ IsNextRun t (admitted_by t event o (is_full t)).table event id) [
      | Some k ↦ λ is told. let same : k ≡ id = cc in inl (is ∙ ap (λ n. Some n) same)
      | None ↦ λ is. elim (is_full t) as
          (λ b. (admitted_by t event None b).reply ≡ reply.Created id
          → KnowsDelivery t event.delivery id ⊎ IsNextRun t (admitted_by t event None b).table event id) [
            | true ↦ λ told. absurd (cc told)
            | false ↦ λ told.
                let same : last_id t + 1 ≡ id = cc in inr (subst (IsNextRun t (admitting t event).table event) same (next_made t event))
          ]
    ] refl given
