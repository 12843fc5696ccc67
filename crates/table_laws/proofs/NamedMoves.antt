-- Moves that satisfy the law of a group satisfy it under other names too, after moves that agree with those before.
use Rattle.std.specs.Prelude.{◌≡◌, ◌⊎◌, List, [], ◌∷◌, ◌++◌, ◌&&◌, ◌||◌, map, filter_map, not, option_and_then, option_map, Bool, true, false}
use Rattle.std.specs.Prelude.{Option, Some, None, if◌then◌else◌, refl}
use Rattle.std.specs.List.{last_or}
use Rattle.std.proofs.Common.{ap, ap₂, inl, inr, sym, subst, ◌∙◌, append_assoc}
use Rattle.std.proofs.lemmas.Bool.{and_from, or_right, true≢false}
use Rattle.std.proofs.lemmas.List.{append-nil, map-append}
use Rattle.std.proofs.lemmas.Option.{none-some, same_Some}
use Rattle.wf_value.specs.declared.outcome.Outcome.TheVariants.{Cancelled}
use Rattle.table_model.specs.GroupLaw.{arrival_of, end_of, start_of, stop_of, has_arrived, has_ended, has_started, was_stopped, Move}
use Rattle.table_model.specs.GroupLaw.{holder_of, is_pending, is_in_progress, is_the, latest, next_displaced, same_holder}
use Rattle.settling_laws.proofs.ArrivalKeeps.{holder_tested, itself}
use Rattle.table_laws.proofs.Agrees.{Agrees, IsInjective}
use Rattle.table_model.specs.GroupLaw.{BeginsWith, cancelled_end}
use Rattle.table_laws.specs.Names.{renamed}
use Rattle.table_laws.proofs.GroupLawWalk.{Lawful}
use Rattle.table_laws.proofs.GroupSaid.{arrived_on, ended_on, latest_on, pending_on, in_progress_on, started_on, stopped_on}
use Rattle.table_laws.proofs.ListWalk.{Walk}
use Rattle.table_model.specs.declared.holder.Holder.{Holder}

-- ---- booleans

or_false : (b : Bool) → (b || false) ≡ b
or_false true = refl
or_false false = refl

still_pending : (a s e t f : Bool) → ((a || false) && (not (s || t) && not (e || f))) ≡ true → (a && (not s && not e)) ≡ true
still_pending false s e t f is = absurd (cc)
still_pending true true e t f is = absurd (cc)
still_pending true false true true f is = absurd (cc)
still_pending true false true false f is = absurd (cc)
still_pending true false false t f is = refl

unstarted_by : (s e : Bool) → (s && not e) ≡ false → e ≡ false → s ≡ false
unstarted_by true true idle unended = absurd (cc)
unstarted_by true false idle unended = absurd (cc)
unstarted_by false e idle unended = refl

-- ---- the last of a list

nil_is_no_snoc : {X : Type 0} (xs : List X) (x : X) → [] ≡ xs ++ x ∷ [] → ⊥
nil_is_no_snoc [] x e = cc
nil_is_no_snoc (y ∷ xs) x e = cc

pub last_same : {X : Type 0} (xs ys : List X) (x y : X) → xs ++ x ∷ [] ≡ ys ++ y ∷ [] → (xs ≡ ys) × (x ≡ y)
last_same [] [] x y e = (refl, cc)
last_same [] (z ∷ ys) x y e = let rest : [] ≡ ys ++ y ∷ [] = cc in absurd (nil_is_no_snoc ys y rest)
last_same (z ∷ xs) [] x y e = let rest : [] ≡ xs ++ x ∷ [] = cc in absurd (nil_is_no_snoc xs x rest)
last_same (z ∷ xs) (w ∷ ys) x y e =
    let first : z ≡ w = cc in
    let rest : xs ++ x ∷ [] ≡ ys ++ y ∷ [] = cc in
    let same = last_same xs ys x y rest in
    (ap (λ a. a ∷ xs) first ∙ ap (λ l. w ∷ l) same.0, same.1)

-- ---- moves of another holder

of_another : (n : Holder) (m : Move) → same_holder n (holder_of m) ≡ false
    → (is_the (arrival_of m) n ≡ false) × (is_the (start_of m) n ≡ false) × (is_the (end_of m) n ≡ false)
of_another n (Move.arrive k) e = (e, refl, refl)
of_another n (Move.start k) e = (refl, e, refl)
of_another n (Move.stop k) e = (refl, refl, refl)
of_another n (Move.end_with r k) e = (refl, refl, e)

in_progress_unmoved : (n : Holder) (moves : List Move) (m : Move) → same_holder n (holder_of m) ≡ false
    → is_in_progress n (moves ++ m ∷ []) ≡ is_in_progress n moves
in_progress_unmoved n moves m e =
    let none = of_another n m e in
    in_progress_on n moves (m ∷ []) false false (ap (λ b. b || false) none.1) (ap (λ b. b || false) none.2)
    ∙ ap₂ (λ s t. s && not t) (or_false (has_started n moves)) (or_false (has_ended n moves))

pub pending_unmoved : (n : Holder) (moves : List Move) (m : Move) → same_holder n (holder_of m) ≡ false
    → is_pending n (moves ++ m ∷ []) ≡ is_pending n moves
pending_unmoved n moves m e =
    let none = of_another n m e in
    pending_on n moves (m ∷ []) false false false (ap (λ b. b || false) none.0) (ap (λ b. b || false) none.1) (ap (λ b. b || false) none.2)
    ∙ ap₂ (λ a b. a && b) (or_false (has_arrived n moves))
    (ap₂ (λ s t. not s && not t) (or_false (has_started n moves)) (or_false (has_ended n moves)))

-- a holder that is pending after a move that is not its arrival was pending before the move
pending_before : (h : Holder) (moves : List Move) (m : Move) → is_the (arrival_of m) h ≡ false → is_pending h (moves ++ m ∷ []) ≡ true
    → is_pending h moves ≡ true
pending_before h moves m none is =
    still_pending (has_arrived h moves) (has_started h moves) (has_ended h moves) (has_started h (m ∷ [])) (has_ended h (m ∷ []))
    (sym (pending_on h moves (m ∷ []) false (has_started h (m ∷ [])) (has_ended h (m ∷ [])) (ap (λ b. b || false) none) refl refl) ∙ is)

-- ---- the displaced holder

pub displaced_is : (moves : List Move) (h : Holder) → next_displaced moves ≡ Some h → (latest moves ≡ Some h) × (is_pending h moves ≡ true)
displaced_is moves h e =
    elim (latest moves) as
    (λ o. latest moves ≡ o → option_and_then (λ k. if is_pending k moves then Some k else None) o ≡ Some h
    → (latest moves ≡ Some h) × (is_pending h moves ≡ true)) [
      | None ↦ λ is f. absurd (cc)
      | Some k ↦ λ is f.
          elim (is_pending k moves) as
          (λ b. is_pending k moves ≡ b → (if b then Some k else None) ≡ Some h → (latest moves ≡ Some h) × (is_pending h moves ≡ true)) [
            | true ↦ λ waits g. (is ∙ g, ap (λ x. is_pending x moves) (sym (same_Some k h g)) ∙ waits)
            | false ↦ λ waits g. absurd (cc)
          ] refl f
    ] refl e

displaced_from : (moves : List Move) (h : Holder) → latest moves ≡ Some h → is_pending h moves ≡ true → next_displaced moves ≡ Some h
displaced_from moves h is waits =
    ap (option_and_then (λ k. if is_pending k moves then Some k else None)) is ∙ ap (λ b. if b then Some h else None) waits

-- the latest arrival has arrived
arrived_by : (moves : List Move) (o : Option Holder) (h : Holder) → last_or o (filter_map arrival_of moves) ≡ Some h
    → (o ≡ Some h) ⊎ (has_arrived h moves ≡ true)
arrived_by [] o h e = inl e
arrived_by (Move.arrive k ∷ moves) o h e =
    elim (arrived_by moves (Some k) h e) [
      | inl same ↦ inr (ap (λ b. b || has_arrived h moves) (ap (λ x. same_holder h x) (same_Some k h same) ∙ itself h))
      | inr later ↦ inr (ap (λ b. same_holder h k || b) later ∙ or_right (same_holder h k) true refl)
    ]
arrived_by (Move.start k ∷ moves) o h e = arrived_by moves o h e
arrived_by (Move.stop k ∷ moves) o h e = arrived_by moves o h e
arrived_by (Move.end_with r k ∷ moves) o h e = arrived_by moves o h e

pub latest_arrived : (moves : List Move) (h : Holder) → latest moves ≡ Some h → has_arrived h moves ≡ true
latest_arrived moves h e =
    elim (arrived_by moves None h e) [
      | inl none ↦ absurd (none-some h none)
      | inr arrives ↦ arrives
    ]

-- ---- under other names

module _ (name : Holder → Holder) (one : IsInjective name) where
  same_by : (h k : Holder) (b : Bool) → same_holder h k ≡ b → same_holder (name h) (name k) ≡ b
  same_by h k true e = ap (λ x. same_holder (name x) (name k)) (holder_tested h k e) ∙ itself (name k)
  same_by h k false e =
      elim (same_holder (name h) (name k)) as (λ b. same_holder (name h) (name k) ≡ b → b ≡ false) [
        | true ↦ λ is.
            absurd (true≢false (sym (itself k) ∙ ap (λ x. same_holder x k) (sym (one h k (holder_tested (name h) (name k) is))) ∙ e))
        | false ↦ λ isnt. refl
      ] refl

  pub same_named : (h k : Holder) → same_holder (name h) (name k) ≡ same_holder h k
  same_named h k = same_by h k (same_holder h k) refl

  arrival_named : (h : Holder) (m : Move) → is_the (arrival_of (renamed name m)) (name h) ≡ is_the (arrival_of m) h
  arrival_named h (Move.arrive k) = same_named h k
  arrival_named h (Move.start k) = refl
  arrival_named h (Move.stop k) = refl
  arrival_named h (Move.end_with r k) = refl

  pub arrived_named : (h : Holder) (moves : List Move) → has_arrived (name h) (map (renamed name) moves) ≡ has_arrived h moves
  arrived_named h [] = refl
  arrived_named h (m ∷ moves) = ap₂ (λ a b. a || b) (arrival_named h m) (arrived_named h moves)

  start_named : (h : Holder) (m : Move) → is_the (start_of (renamed name m)) (name h) ≡ is_the (start_of m) h
  start_named h (Move.arrive k) = refl
  start_named h (Move.start k) = same_named h k
  start_named h (Move.stop k) = refl
  start_named h (Move.end_with r k) = refl

  stop_named : (h : Holder) (m : Move) → is_the (stop_of (renamed name m)) (name h) ≡ is_the (stop_of m) h
  stop_named h (Move.arrive k) = refl
  stop_named h (Move.start k) = refl
  stop_named h (Move.stop k) = same_named h k
  stop_named h (Move.end_with r k) = refl

  end_named : (h : Holder) (m : Move) → is_the (end_of (renamed name m)) (name h) ≡ is_the (end_of m) h
  end_named h (Move.arrive k) = refl
  end_named h (Move.start k) = refl
  end_named h (Move.stop k) = refl
  end_named h (Move.end_with r k) = same_named h k

  pub holder_named : (m : Move) → holder_of (renamed name m) ≡ name (holder_of m)
  holder_named (Move.arrive k) = refl
  holder_named (Move.start k) = refl
  holder_named (Move.stop k) = refl
  holder_named (Move.end_with r k) = refl

  cancelled_named : (o : Option Holder) → map (renamed name) (cancelled_end o) ≡ cancelled_end (option_map name o)
  cancelled_named None = refl
  cancelled_named (Some h) = refl

  begins_named : (prefix after : List Move) → BeginsWith prefix after → BeginsWith (map (renamed name) prefix) (map (renamed name) after)
  begins_named prefix after begins =
      (map (renamed name) begins.0, ap (map (renamed name)) begins.1 ∙ map-append (renamed name) prefix begins.0)

  module _ (now whole : List Move) (agrees : Agrees name now whole) where
    in_progress_named : (h : Holder) → is_in_progress (name h) whole ≡ is_in_progress h now
    in_progress_named h = ap₂ (λ s e. s && not e) (agrees.started h) (agrees.ended h)

    pending_named : (h : Holder) → is_pending (name h) whole ≡ is_pending h now
    pending_named h = ap₂ (λ a b. a && b) (agrees.arrived h) (ap₂ (λ s e. not s && not e) (agrees.started h) (agrees.ended h))

    displaced_named : (h : Holder) → next_displaced now ≡ Some h → next_displaced whole ≡ Some (name h)
    displaced_named h e =
        let is = displaced_is now h e in displaced_from whole (name h) (agrees.named_latest h is.1 is.0) (pending_named h ∙ is.1)

    named_displaced : (n : Holder) → next_displaced whole ≡ Some n → (h : Holder) × (n ≡ name h) × (next_displaced now ≡ Some h)
    named_displaced n e =
        let is = displaced_is whole n e in
        let from = agrees.who_waits n is.1 in
        let h = from.0 in (
          h,
          from.1,
          displaced_from now h (agrees.latest_named h (is.0 ∙ ap (λ x. Some x) from.1))
              (sym (pending_named h) ∙ ap (λ x. is_pending x whole) (sym from.1) ∙ is.1),
        )

    displaced_same : next_displaced whole ≡ option_map name (next_displaced now)
    displaced_same =
        elim (next_displaced now) as (λ o. next_displaced now ≡ o → next_displaced whole ≡ option_map name o) [
          | None ↦ λ none.
              elim (next_displaced whole) as (λ u. next_displaced whole ≡ u → u ≡ None) [
                | None ↦ λ e. refl
                | Some n ↦ λ e. let from = named_displaced n e in absurd (none-some from.0 (sym none ∙ from.2))
              ] refl
          | Some h ↦ λ is. displaced_named h is
        ] refl

    -- ---- one move

    lawful_named : (cancels requests : Holder → Bool) (m : Move) (after : List Move)
        → ((k : Holder) → arrival_of m ≡ Some k → requests (name k) ≡ true → cancels k ≡ true) → Lawful cancels now m after
        → Lawful requests whole (renamed name m) (map (renamed name) after)
    lawful_named cancels requests (Move.arrive k) after requested law = (
      λ n is.
          let from = named_displaced n is in
          subst (λ x. BeginsWith (Move.end_with Cancelled x ∷ []) (map (renamed name) after)) (sym from.1)
          (begins_named (Move.end_with Cancelled from.0 ∷ []) after (law.0 from.0 from.2)),
      λ n requests_it runs unstopped.
          let from = agrees.who_runs n runs in
          let h = from.0 in
          let runs_now : is_in_progress h now ≡ true = sym (in_progress_named h) ∙ ap (λ x. is_in_progress x whole) (sym from.1) ∙ runs in
          let unstopped_now : was_stopped h now ≡ false =
          sym (agrees.stopped h) ∙ ap (λ x. was_stopped x whole) (sym from.1) ∙ unstopped in
          let begins = begins_named (cancelled_end (next_displaced now) ++ Move.stop h ∷ []) after
          (law.1 h (requested k refl requests_it) runs_now unstopped_now) in
          let prefix : map (renamed name) (cancelled_end (next_displaced now) ++ Move.stop h ∷ [])
          ≡ cancelled_end (next_displaced whole) ++ Move.stop (name h) ∷ [] =
          map-append (renamed name) (cancelled_end (next_displaced now)) (Move.stop h ∷ [])
          ∙ ap (λ ms. ms ++ Move.stop (name h) ∷ [])
          (cancelled_named (next_displaced now) ∙ ap cancelled_end (sym displaced_same)) in
          subst (λ x. BeginsWith (cancelled_end (next_displaced whole) ++ Move.stop x ∷ []) (map (renamed name) after)) (sym from.1)
          (subst (λ ms. BeginsWith ms (map (renamed name) after)) prefix begins),
    )
    lawful_named cancels requests (Move.start h) after requested law =
        let unstarted = unstarted_by (has_started h now) (has_ended h now) (law.0 h) law.2 in
        let waits : is_pending h now ≡ true =
        and_from (has_arrived h now) (not (has_started h now) && not (has_ended h now)) (latest_arrived now h law.1)
        (ap₂ (λ s e. not s && not e) unstarted law.2) in (
          λ n.
              elim (is_in_progress n whole) as (λ b. is_in_progress n whole ≡ b → b ≡ false) [
                | true ↦ λ runs.
                    let from = agrees.who_runs n runs in
                    absurd (true≢false (sym runs ∙ ap (λ x. is_in_progress x whole) from.1 ∙ in_progress_named from.0 ∙ law.0 from.0))
                | false ↦ λ idle. refl
              ] refl,
          agrees.named_latest h waits law.1,
          agrees.ended h ∙ law.2,
        )
    lawful_named cancels requests (Move.stop h) after requested law = tt
    lawful_named cancels requests (Move.end_with r h) after requested law = λ unstarted unstopped.
        let cause = law (sym (agrees.started h) ∙ unstarted) (sym (agrees.stopped h) ∙ unstopped) in
        let was = cause.1 in
        let named = agrees.just was.0 was.1 h was.2 was.3 in
        (cause.0, (named.0, name was.1, named.1, named.2))

    latest_on_named : (m : Move) (h : Holder) → latest (whole ++ renamed name m ∷ []) ≡ Some (name h) → latest (now ++ m ∷ []) ≡ Some h
    latest_on_named (Move.arrive k) h e =
        let same : k ≡ h = one k h (same_Some (name k) (name h) (sym (latest_on whole (Move.arrive (name k) ∷ [])) ∙ e)) in
        latest_on now (Move.arrive k ∷ []) ∙ ap (λ x. Some x) same
    latest_on_named (Move.start k) h e =
        latest_on now (Move.start k ∷ []) ∙ agrees.latest_named h (sym (latest_on whole (Move.start (name k) ∷ [])) ∙ e)
    latest_on_named (Move.stop k) h e =
        latest_on now (Move.stop k ∷ []) ∙ agrees.latest_named h (sym (latest_on whole (Move.stop (name k) ∷ [])) ∙ e)
    latest_on_named (Move.end_with r k) h e =
        latest_on now (Move.end_with r k ∷ []) ∙ agrees.latest_named h (sym (latest_on whole (Move.end_with r (name k) ∷ [])) ∙ e)

    named_on_latest : (m : Move) (h : Holder) → is_pending h (now ++ m ∷ []) ≡ true → latest (now ++ m ∷ []) ≡ Some h
        → latest (whole ++ renamed name m ∷ []) ≡ Some (name h)
    named_on_latest (Move.arrive k) h waits e =
        latest_on whole (Move.arrive (name k) ∷ [])
        ∙ ap (λ x. Some (name x)) (same_Some k h (sym (latest_on now (Move.arrive k ∷ [])) ∙ e))
    named_on_latest (Move.start k) h waits e =
        latest_on whole (Move.start (name k) ∷ [])
        ∙ agrees.named_latest h (pending_before h now (Move.start k) refl waits) (sym (latest_on now (Move.start k ∷ [])) ∙ e)
    named_on_latest (Move.stop k) h waits e =
        latest_on whole (Move.stop (name k) ∷ [])
        ∙ agrees.named_latest h (pending_before h now (Move.stop k) refl waits) (sym (latest_on now (Move.stop k ∷ [])) ∙ e)
    named_on_latest (Move.end_with r k) h waits e =
        latest_on whole (Move.end_with r (name k) ∷ [])
        ∙ agrees.named_latest h (pending_before h now (Move.end_with r k) refl waits) (sym (latest_on now (Move.end_with r k ∷ [])) ∙ e)

    -- a holder that runs or waits after the move has a name
    one_named : (m : Move) (n : Holder) (before after : Bool) → (same_holder n (holder_of (renamed name m)) ≡ false → after ≡ before)
        → (before ≡ true → (h : Holder) × (n ≡ name h)) → after ≡ true → (h : Holder) × (n ≡ name h)
    one_named m n before after unmoved was is =
        elim (same_holder n (holder_of (renamed name m))) as
        (λ b. same_holder n (holder_of (renamed name m)) ≡ b → (h : Holder) × (n ≡ name h)) [
          | true ↦ λ same. (holder_of m, holder_tested n (holder_of (renamed name m)) same ∙ holder_named m)
          | false ↦ λ other. was (sym (unmoved other) ∙ is)
        ] refl

    pub agrees_on : (m : Move) → Agrees name (now ++ m ∷ []) (whole ++ renamed name m ∷ [])
    agrees_on m =
        let next = renamed name m ∷ [] in
        record {
          arrived = (λ h.
              arrived_on (name h) whole next ∙ ap₂ (λ a b. a || (b || false)) (agrees.arrived h) (arrival_named h m)
              ∙ sym (arrived_on h now (m ∷ [])));
          started = (λ h.
              started_on (name h) whole next ∙ ap₂ (λ a b. a || (b || false)) (agrees.started h) (start_named h m)
              ∙ sym (started_on h now (m ∷ [])));
          stopped = (λ h.
              stopped_on (name h) whole next ∙ ap₂ (λ a b. a || (b || false)) (agrees.stopped h) (stop_named h m)
              ∙ sym (stopped_on h now (m ∷ [])));
          ended = (λ h.
              ended_on (name h) whole next ∙ ap₂ (λ a b. a || (b || false)) (agrees.ended h) (end_named h m)
              ∙ sym (ended_on h now (m ∷ [])));
          who_runs = (λ n is.
              one_named m n (is_in_progress n whole) (is_in_progress n (whole ++ next)) (in_progress_unmoved n whole (renamed name m))
              (agrees.who_runs n) is);
          who_waits = (λ n is.
              one_named m n (is_pending n whole) (is_pending n (whole ++ next)) (pending_unmoved n whole (renamed name m))
              (agrees.who_waits n) is);
          latest_named = latest_on_named m;
          named_latest = named_on_latest m;
          just = (λ before k h split displaced.
              let same = last_same now before m (Move.arrive k) split in (
                whole,
                ap (λ x. whole ++ renamed name x ∷ []) same.1,
                displaced_named h (ap next_displaced same.0 ∙ displaced),
              ));
        }

  -- ---- one move after another

  pub walk_named : (cancels requests : Holder → Bool) (now whole more : List Move) → Agrees name now whole
      → ((k : Holder) → has_arrived k more ≡ true → requests (name k) ≡ true → cancels k ≡ true) → Walk (Lawful cancels) now more
      → Walk (Lawful requests) whole (map (renamed name) more) × Agrees name (now ++ more) (whole ++ map (renamed name) more)
  walk_named cancels requests now whole [] agrees requested walk =
      (tt, subst (λ ms. Agrees name ms (whole ++ [])) (sym (append-nil now)) (subst (λ ms. Agrees name now ms) (sym (append-nil whole)) agrees))
  walk_named cancels requests now whole (m ∷ more) agrees requested walk =
      let next = agrees_on now whole agrees m in
      let rest = walk_named cancels requests (now ++ m ∷ []) (whole ++ renamed name m ∷ []) more next
      (λ k arrives. requested k (ap (λ b. is_the (arrival_of m) k || b) arrives ∙ or_right (is_the (arrival_of m) k) true refl)) walk.1 in (
        (
          lawful_named now whole agrees cancels requests m more (λ k is.
              requested k (ap (λ b. b || has_arrived k more) (ap (λ o. is_the o k) is ∙ itself k))) walk.0,
          rest.0,
        ),
        subst (λ ms. Agrees name ms (whole ++ map (renamed name) (m ∷ more))) (append_assoc now (m ∷ []) more)
            (subst (λ ms. Agrees name ((now ++ m ∷ []) ++ more) ms) (append_assoc whole (renamed name m ∷ []) (map (renamed name) more)) rest.1),
      )
