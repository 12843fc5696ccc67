-- The run that a delivery made is found by it in every later table that keeps the delivery.
use Rattle.std.proofs.Common.{◌≡◌, ℕ, ◌+◌, ◌-◌, ◌<◌, ◌≤◌, Bool, true, false, List, [], ◌∷◌, ◌++◌, length, refl, sym, ◌∙◌, ap, ap₂}
use Rattle.std.proofs.Common.{length-append, append_assoc, arith, cond, inl, inr, not, subst}
use Rattle.std.specs.Prelude.{Option, Some, None, option_map, if◌then◌else◌, nat_lt}
use Rattle.std.specs.List.{position, prefix_len}
use Rattle.std.specs.Option.{option_map_or, option_or}
use Rattle.std.specs.Str.{bytes_eq}
use Rattle.std.proofs.lemmas.Bool.{lt-ltb, ltb-true, ltb-false}
use Rattle.std.proofs.lemmas.List.{length-map}
use Rattle.std.proofs.lemmas.Slice.Eq.{bytes_eq-Decides}
use Rattle.wf_value.specs.declared.code.Code.TheVariants.{LastCounter}
use Rattle.definitions.specs.SmallText.{Admitted}
use Rattle.run_plan.specs.declared.command.Command.{Command}
use Rattle.run_plan.specs.declared.command.Command.TheVariants as command
use Rattle.run_plan.specs.declared.reply.Reply.TheVariants as reply
use Rattle.table_model.specs.Forgotten.{ForgottenRuns, deliveries_of}
use Rattle.table_model.specs.Runs.{again, RunState}
use Rattle.table_model.specs.Sound.{ForgottenFit}
use Rattle.table_model.specs.Step.{after, admitting, forgettable, forgot, is_full, outcome, refused, step, stepped, unchanged}
use Rattle.table_model.specs.TableState.{Step, TableState, known_deliveries, last_id, run_of_delivery}
use Rattle.table_model.proofs.Identity.{Identity}
use Rattle.table_model.proofs.Optional.{from_map, if_some}
use Rattle.settling_laws.proofs.ForgetKeepsSound.{first_within}
use Rattle.settling_laws.proofs.ForgottenMore.{stays_known}
use Rattle.table_laws.specs.Remembered.{KeepsDeliveryOf, KnowsDelivery}
use Rattle.table_laws.proofs.ForgetSteps.{IsNoForget, forget_or_not, forgot_drops, forgot_is}
use Rattle.table_laws.proofs.RunsStay.{IsOfCourse}
use Rattle.table_laws.proofs.StepsStay.{any_step_stays, entered_stays, fits_then, forgotten_stays, through_rises_on}

-- ---- the index of a delivery among those that are known

abbrev is_it : List ℕ → List ℕ → Bool
is_it delivery known = bytes_eq known delivery

abbrev at_place : ℕ → ℕ → Option ℕ
at_place n l = cond (nat_lt n l) (Some n) None

placed_at : (n l i : ℕ) → at_place n l ≡ Some i → (n < l) × (n ≡ i)
placed_at n l i e = let two = if_some (nat_lt n l) n i e in (ltb-true n l two.0, two.1)

placed_nowhere : (n l : ℕ) → at_place n l ≡ None → l ≤ n
placed_nowhere n l e =
    ltb-false n l (elim (nat_lt n l) as (λ b. cond b (Some n) None ≡ None → b ≡ false) [ true ↦ λ h. cc | false ↦ λ h. refl ] e)

place_is : (n l : ℕ) → n < l → at_place n l ≡ Some n
place_is n l less = ap (λ (b : Bool). cond b (Some n) None) (lt-ltb n l less)

len_prefix : {X : Type 0} (p : X → Bool) (xs ys : List X) → prefix_len p xs < length xs → prefix_len p (xs ++ ys) ≡ prefix_len p xs
len_prefix p [] ys less = absurd (omega (arith, less))
len_prefix p (x ∷ xs) ys less =
    elim (p x) as (λ b. cond b (1 + prefix_len p xs) 0 < length (x ∷ xs)
    → cond b (1 + prefix_len p (xs ++ ys)) 0 ≡ cond b (1 + prefix_len p xs) 0) [
      | true ↦ λ h. ap (λ (n : ℕ). 1 + n) (len_prefix p xs ys (omega (arith, h)))
      | false ↦ λ h. refl
    ] less

len_all : {X : Type 0} (p : X → Bool) (xs : List X) (y : X) → length xs ≤ prefix_len p xs → p y ≡ false
    → prefix_len p (xs ++ y ∷ []) ≡ length xs
len_all p [] y all fails = ap (λ (b : Bool). cond b (1 + 0) 0) fails
len_all p (x ∷ xs) y all fails =
    elim (p x) as (λ b. length (x ∷ xs) ≤ cond b (1 + prefix_len p xs) 0 → cond b (1 + prefix_len p (xs ++ y ∷ [])) 0 ≡ length (x ∷ xs)) [
      | true ↦ λ h. omega (arith, len_all p xs y (omega (arith, h)) fails)
      | false ↦ λ h. absurd (omega (arith, h))
    ] all

-- more deliveries after them do not change it
place_on : {X : Type 0} (test : X → Bool) (xs ys : List X) (i : ℕ) → position test xs ≡ Some i → position test (xs ++ ys) ≡ Some i
place_on {X} test xs ys i is =
    let p = λ (x : X). not (test x) in
    let there = placed_at (prefix_len p xs) (length xs) i is in
    let same : prefix_len p (xs ++ ys) ≡ prefix_len p xs = len_prefix p xs ys there.0 in
    let less : prefix_len p (xs ++ ys) < length (xs ++ ys) = omega (arith, same, there.0, length-append xs ys) in
    place_is (prefix_len p (xs ++ ys)) (length (xs ++ ys)) less ∙ ap (λ (n : ℕ). Some n) (same ∙ there.1)

-- one that was not known, at the end
place_at_end : {X : Type 0} (test : X → Bool) (xs : List X) (y : X) → position test xs ≡ None → test y ≡ true
    → position test (xs ++ y ∷ []) ≡ Some (length xs)
place_at_end {X} test xs y none is =
    let p = λ (x : X). not (test x) in
    let suffix = placed_nowhere (prefix_len p xs) (length xs) none in
    let same : prefix_len p (xs ++ y ∷ []) ≡ length xs = len_all p xs y suffix (ap not is) in
    let less : prefix_len p (xs ++ y ∷ []) < length (xs ++ y ∷ []) = omega (arith, same, length-append xs (y ∷ [])) in
    place_is (prefix_len p (xs ++ y ∷ [])) (length (xs ++ y ∷ [])) less ∙ ap (λ (n : ℕ). Some n) same

-- ---- steps

abbrev delivery_of : RunState → List ℕ
delivery_of x = x.admitted.delivery

its_delivery : IsOfCourse delivery_of
its_delivery x y same attempt = ap (λ (i : Identity). i.admitted.delivery) same

-- the id of the run whose delivery has this index
abbrev id_of : ForgottenRuns → ℕ → ℕ
id_of forgotten i = forgotten.through - length forgotten.deliveries + i + 1

fewer_kept : (t : TableState) → ForgottenFit t.forgotten → length t.forgotten.deliveries ≤ t.forgotten.through
fewer_kept t fit = let kept = fit.last_are_kept in omega (arith, kept)

-- a step that forgets no run
known_without : (t : TableState) (c : Command) (delivery : List ℕ) (run : ℕ) → IsNoForget c → KnowsDelivery t delivery run
    → KnowsDelivery (stepped t c).table delivery run
known_without t c delivery run other knows =
    let next = (stepped t c).table in
    let kept = any_step_stays delivery_of its_delivery (λ x. refl) t c other in
    let same = forgotten_stays t c other in
    let more : known_deliveries next ≡ known_deliveries t ++ kept.0 =
    ap₂ (λ (f : ForgottenRuns) (ds : List (List ℕ)). f.deliveries ++ ds) same kept.1
    ∙ sym (append_assoc t.forgotten.deliveries (deliveries_of t.runs) kept.0) in
    let at = from_map (id_of t.forgotten) (position (is_it delivery) (known_deliveries t)) run knows in
    ap₂ (λ (f : ForgottenRuns) (o : Option ℕ). option_map (id_of f) o) same
    (ap (position (is_it delivery)) more ∙ place_on (is_it delivery) (known_deliveries t) kept.0 at.value at.is)
    ∙ ap (λ n. Some n) at.gives

known_after_forget : (t : TableState) (id : ℕ) (delivery : List ℕ) (run : ℕ) → ForgottenFit t.forgotten → KnowsDelivery t delivery run
    → KeepsDeliveryOf (forgot t id).table run → KnowsDelivery (forgot t id).table delivery run
known_after_forget t id delivery run fit knows keeps =
    let through = (forgot_drops t id).through in
    forgot_is (λ next. KnowsDelivery next delivery run) t id (λ none. knows)
    (λ some. stays_known (forgettable t id) t delivery run (fewer_kept t fit) (first_within t id) knows (omega (arith, keeps, through)))

pub known_after_step : (t : TableState) (c : Command) (delivery : List ℕ) (run : ℕ) → ForgottenFit t.forgotten → KnowsDelivery t delivery run
    → KeepsDeliveryOf (stepped t c).table run → KnowsDelivery (stepped t c).table delivery run
known_after_step t c delivery run fit knows =
    elim (forget_or_not c) [
      | inl forgets ↦
          subst (λ (d : Command). KeepsDeliveryOf (stepped t d).table run → KnowsDelivery (stepped t d).table delivery run) (sym forgets.1)
          (known_after_forget t forgets.0 delivery run fit knows)
      | inr other ↦ λ keeps. known_without t c delivery run other knows
    ]

pub known_after : (t : TableState) (later : List Command) (delivery : List ℕ) (run : ℕ) → ForgottenFit t.forgotten
    → KnowsDelivery t delivery run → KeepsDeliveryOf (after t later) run → KnowsDelivery (after t later) delivery run
known_after t [] delivery run fit knows keeps = knows
known_after t (c ∷ cs) delivery run fit knows keeps =
    let next = (stepped t c).table in
    let rises = through_rises_on next cs in
    known_after next cs delivery run (fits_then t c fit) (known_after_step t c delivery run fit knows (omega (arith, keeps, rises))) keeps

-- ---- the answer to an admission

abbrev pub admitted_by : TableState → Admitted → Option ℕ → Bool → Step
admitted_by t event known full =
    option_map_or (unchanged t) (option_or (option_map (λ id. reply.Created id) known) (if full then Some (refused LastCounter) else None))
    (admitting t event)

not_placed : (o : Option ℕ) (f : ℕ → ℕ) → option_map f o ≡ None → o ≡ None
not_placed None f e = refl
not_placed (Some i) f e = cc

new_is_known : (t : TableState) (event : Admitted) → ForgottenFit t.forgotten → run_of_delivery t event.delivery ≡ None
    → KnowsDelivery (admitting t event).table event.delivery (last_id t + 1)
new_is_known t event fit none =
    let known = known_deliveries t in
    let test = is_it event.delivery in
    let next = (admitting t event).table in
    let more : known_deliveries next ≡ known ++ event.delivery ∷ [] =
    ap (λ (ds : List (List ℕ)). t.forgotten.deliveries ++ ds) (entered_stays delivery_of its_delivery t event)
    ∙ sym (append_assoc t.forgotten.deliveries (deliveries_of t.runs) (event.delivery ∷ [])) in
    let at_end = place_at_end test known event.delivery (not_placed (position test known) (id_of t.forgotten) none)
    ((bytes_eq-Decides event.delivery event.delivery).1 refl) in
    let many = length-append t.forgotten.deliveries (deliveries_of t.runs) in
    let runs = length-map t.runs delivery_of in
    let fewer = fewer_kept t fit in
    let is : id_of t.forgotten (length known) ≡ last_id t + 1 = omega (arith, many, runs, fewer) in
    ap (option_map (id_of t.forgotten)) (ap (position test) more ∙ at_end) ∙ ap (λ n. Some n) is

pub created_is_known : (t : TableState) (event : Admitted) (run : ℕ) → ForgottenFit t.forgotten
    → (stepped t (command.Admit event)).reply ≡ reply.Created run
    → KnowsDelivery (stepped t (command.Admit event)).table event.delivery run
created_is_known t event run fit given =
    elim (run_of_delivery t event.delivery) as
    (λ o. run_of_delivery t event.delivery ≡ o → (admitted_by t event o (is_full t)).reply ≡ reply.Created run
    → KnowsDelivery (admitted_by t event o (is_full t)).table event.delivery run) [
      | Some id ↦ λ is told. let same : id ≡ run = cc in is ∙ ap (λ n. Some n) same
      | None ↦ λ none. elim (is_full t) as
          (λ b. (admitted_by t event None b).reply ≡ reply.Created run
          → KnowsDelivery (admitted_by t event None b).table event.delivery run) [
            | true ↦ λ told. absurd (cc told)
            | false ↦ λ told.
                let same : last_id t + 1 ≡ run = cc in
                subst (KnowsDelivery (admitting t event).table event.delivery) same (new_is_known t event fit none)
          ]
    ] refl given

pub known_is_answered : (t : TableState) (event : Admitted) (run : ℕ) → KnowsDelivery t event.delivery run
    → step t (command.Admit event) ≡ (t, reply.Created run)
known_is_answered t event run knows = ap (λ (o : Option ℕ). outcome (admitted_by t event o (is_full t))) knows

-- ---- the law

pub delivery_again : (t : TableState) (event again : Admitted) (run : ℕ) (later : List Command) → ForgottenFit t.forgotten
    → (stepped t (command.Admit event)).reply ≡ reply.Created run → again.delivery ≡ event.delivery
    → KeepsDeliveryOf (after (stepped t (command.Admit event)).table later) run
    → step (after (stepped t (command.Admit event)).table later) (command.Admit again)
    ≡ (after (stepped t (command.Admit event)).table later, reply.Created run)
delivery_again t event again run later fit given same keeps =
    let first = (stepped t (command.Admit event)).table in
    known_is_answered (after first later) again run
    (subst (λ (d : List ℕ). KnowsDelivery (after first later) d run) (sym same)
    (known_after first later event.delivery run (fits_then t (command.Admit event) fit) (created_is_known t event run fit given) keeps))
