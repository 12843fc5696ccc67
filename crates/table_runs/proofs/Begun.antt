-- What a run that has just been added knows: its own group, and those of the legs that it has.
use Rattle.std.specs.Prelude.{◌≡◌, ◌&&◌, ◌<◌, ◌≤◌, ◌+◌, ◌∷◌, ℕ, List, [], length, map, nat_lt, Bool, true, false, Option, None, Some}
use Rattle.std.specs.Prelude.{option_and_then, option_map, slice_get, refl}
use Rattle.std.specs.Option.{option_map_or}
use Rattle.std.proofs.Common.{arith, ap, inl, inr, subst, sym, ◌∙◌}
use Rattle.std.proofs.lemmas.Bool.{cases_eq, le-ltb, lt-ltb, ltb-false, ltb-true}
use Rattle.std.proofs.lemmas.Option.{same_Some, slice_get-map, slice_get_within}
use Rattle.table_model.specs.Groups.{group_at}
use Rattle.table_model.specs.Holders.{run_of}
use Rattle.table_model.specs.Runs.{leg_at, run_at, JobState, LegState, RunState}
use Rattle.table_model.specs.declared.holder.Holder.{Holder}
use Rattle.table_model.specs.declared.holder.Holder.TheVariants.{Run, Leg}
use Rattle.table_model.specs.declared.sites.LegSite.{LegSite}
use Rattle.table_model.proofs.Changed.{at_another, at_changed, length-changed_at}
use Rattle.table_model.proofs.JobKeeps.{leg_in}
use Rattle.table_model.proofs.Optional.{some_of}
use Rattle.table_model.proofs.Transitions.{changed_none}
use Rattle.table_bindings.specs.Bindings.{group_request_of}
use Rattle.table_bindings.specs.BoundGroups.{results_by_index}
use Rattle.table_bindings.specs.GroupKeys.{AreLater, decided, holder_key, key_in, requests_of, ticket_in}
use Rattle.table_bindings.specs.declared.bindings.JobBindings.{JobBindings}
use Rattle.table_bindings.specs.declared.bindings.RunBindings.{RunBindings}
use Rattle.table_bindings.specs.declared.group_keys.HolderKey.{HolderKey}
use Rattle.table_bindings.specs.declared.group_keys.HolderKey.TheVariants.{Known, NoGroup}
use Rattle.table_bindings.specs.declared.group_keys.KnownGroup.{KnownGroup}
use Rattle.table_bindings.specs.declared.groups.GroupRequest.{GroupRequest}
use Rattle.table_bindings.proofs.BoundSays.{SaysBoth, as_short}
use Rattle.table_runs.proofs.DecidedThere.{flags_decided_of, keys_decided_of, tickets_decided_of}
use Rattle.table_runs.specs.inner.Begun.{AreKnownIf, IsBegun, IsBegunBelow, has_legs_at}
use Rattle.table_runs.specs.inner.GroupsKept.{Knows, is_there}
use Rattle.table_runs.specs.inner.RowsKept.{IsUndecided, decided_in, holder_key_at}

-- ---- the key of a holder is what its request gives

-- a run that asks for no group has none
own_key : (x : RunState) (o : Option GroupRequest) (k : HolderKey) → k ≡ option_map_or (decided (results_by_index x)) o NoGroup
    → (option_and_then key_in (Some k) ≡ option_and_then key_in (option_map (decided (results_by_index x)) o))
    × (option_and_then ticket_in (Some k) ≡ option_and_then ticket_in (option_map (decided (results_by_index x)) o))
own_key x None k is = (ap key_in is, ap ticket_in is)
own_key x (Some request) k is = (ap key_in is, ap ticket_in is)

own_flag : (x : RunState) (o : Option GroupRequest) (k : HolderKey) (known : KnownGroup)
    → k ≡ option_map_or (decided (results_by_index x)) o NoGroup → Some k ≡ Some (Known known)
    → option_map (decided (results_by_index x)) o ≡ Some (Known known)
own_flag x None k known is e = let apart : NoGroup ≡ Known known = sym is ∙ same_Some k (Known known) e in cc
own_flag x (Some request) k known is e = ap Some (sym is) ∙ e

-- a leg that is there is of a job with legs
legs_there : (runs : List RunState) (x : RunState) (p : LegSite) (z : LegState) → run_at runs p.run ≡ Some x → leg_at runs p ≡ Some z
    → has_legs_at x p.job ≡ true
legs_there runs x p z at leg =
    let here = leg_in runs p z leg in
    let same : here.place.run ≡ x = same_Some here.place.run x (sym here.place.run_is ∙ at) in
    let within = slice_get_within here.job.legs p.leg z here.leg_is in
    ap (λ (y : RunState). has_legs_at y p.job) (sym same)
    ∙ ap (λ o. option_map_or (λ (job : JobState). nat_lt 0 (length job.legs)) o false) here.place.job_is
    ∙ some_below (length here.job.legs) (omega (arith, within))
  where
    some_below : (n : ℕ) → 0 < n → nat_lt 0 n ≡ true
    some_below n less = lt-ltb 0 n less

-- its key is what its request gives
leg_key : (x : RunState) (kept : RunBindings) (p : LegSite) → IsBegun x kept → has_legs_at x p.job ≡ true
    → holder_key kept.keys (Leg p) ≡ option_map (decided (results_by_index x)) (group_request_of kept (Leg p))
leg_key x kept p begun has = by (slice_get kept.keys.jobs p.job) refl
  where
    by : (o : Option (List HolderKey)) → slice_get kept.keys.jobs p.job ≡ o
        → option_and_then (λ (legs : List HolderKey). slice_get legs p.leg) o
        ≡ option_map (decided (results_by_index x)) (group_request_of kept (Leg p))
    by None none =
        let no_job = as_short kept.keys.jobs kept.jobs p.job (sym begun.as_many) none in
        sym (ap (λ o. option_map (decided (results_by_index x)) (option_and_then (λ (job : JobBindings). slice_get job.groups p.leg) o)) no_job)
    by (Some legs) at =
        let known : AreKnownIf true x kept p.job legs = subst (λ b. AreKnownIf b x kept p.job legs) has (begun.jobs p.job legs at) in
        ap (λ (ks : List HolderKey). slice_get ks p.leg) known
        ∙ slice_get-map (decided (results_by_index x)) (requests_of kept.jobs p.job) p.leg
        ∙ ap (option_map (decided (results_by_index x))) (its_request (slice_get kept.jobs p.job))
      where
        its_request : (o : Option JobBindings)
            → slice_get (option_map_or (λ (job : JobBindings). job.groups) o []) p.leg
            ≡ option_and_then (λ (job : JobBindings). slice_get job.groups p.leg) o
        its_request None = refl
        its_request (Some job) = refl

-- ---- so it knows its group, and has the key that it brings

module _ (runs : List RunState) (bindings : List RunBindings) (x : RunState) (kept : RunBindings) (begun : IsBegun x kept) where
  pub begun_knows : (h : Holder) → run_at runs (run_of h) ≡ Some x → slice_get bindings (run_of h) ≡ Some kept → is_there runs h ≡ true
      → SaysBoth runs h x kept → Knows runs bindings h
  begun_knows (Run r) at row there says =
      let key = own_key x kept.own kept.keys.own begun.own in
      let here = ap (option_and_then (λ (k : RunBindings). holder_key k.keys (Run r))) row in
      record {
        group = ap (option_and_then key_in) here ∙ key.0 ∙ keys_decided_of (results_by_index x) kept.own ∙ says.0;
        cancels = λ known e.
            flags_decided_of (results_by_index x) kept.own known (own_flag x kept.own kept.keys.own known begun.own (sym here ∙ e)) ∙ says.1;
      }
  begun_knows (Leg p) at row there says =
      let z = some_of (leg_at runs p) there in
      let here = ap (option_and_then (λ (k : RunBindings). holder_key k.keys (Leg p))) row
      ∙ leg_key x kept p begun (legs_there runs x p z.0 at z.1) in
      record {
        group = ap (option_and_then key_in) here ∙ keys_decided_of (results_by_index x) (group_request_of kept (Leg p)) ∙ says.0;
        cancels = λ known e. flags_decided_of (results_by_index x) (group_request_of kept (Leg p)) known (sym here ∙ e) ∙ says.1;
      }

  pub begun_has_ticket : (h : Holder) → run_at runs (run_of h) ≡ Some x → slice_get bindings (run_of h) ≡ Some kept → is_there runs h ≡ true
      → SaysBoth runs h x kept → option_and_then ticket_in (holder_key_at bindings h) ≡ group_at runs h
  begun_has_ticket (Run r) at row there says =
      ap (option_and_then ticket_in) (ap (option_and_then (λ (k : RunBindings). holder_key k.keys (Run r))) row)
      ∙ (own_key x kept.own kept.keys.own begun.own).1 ∙ tickets_decided_of (results_by_index x) kept.own ∙ says.0
  begun_has_ticket (Leg p) at row there says =
      let z = some_of (leg_at runs p) there in
      ap (option_and_then ticket_in)
      (ap (option_and_then (λ (k : RunBindings). holder_key k.keys (Leg p))) row ∙ leg_key x kept p begun (legs_there runs x p z.0 at z.1))
      ∙ tickets_decided_of (results_by_index x) (group_request_of kept (Leg p)) ∙ says.0

-- ---- one job after another is decided

one_further : (j n : ℕ) → (j ≡ n → ⊥) → nat_lt j n ≡ nat_lt j (n + 1)
one_further j n other = by (nat_lt j n) refl
  where
    by : (b : Bool) → nat_lt j n ≡ b → b ≡ nat_lt j (n + 1)
    by true is = sym (lt-ltb j (n + 1) (omega (arith, ltb-true j n is)))
    by false is =
        sym (le-ltb j (n + 1)
        (elim (cases_eq j n) [ inl same ↦ absurd (other same) | inr apart ↦ omega (arith, ltb-false j n is, apart) ]))

job_within : (j : ℕ) (x : RunState) → has_legs_at x j ≡ true → j < length x.jobs
job_within j x is = by (slice_get x.jobs j) refl is
  where
    by : (o : Option JobState) → slice_get x.jobs j ≡ o → option_map_or (λ (job : JobState). nat_lt 0 (length job.legs)) o false ≡ true
        → j < length x.jobs
    by None at e = cc
    by (Some y) at e = slice_get_within x.jobs j y at

-- the job at the index has legs
pub begun_more : (n : ℕ) (x : RunState) (kept : RunBindings) → IsBegunBelow n x kept → has_legs_at x n ≡ true
    → IsBegunBelow (n + 1) x (decided_in n x kept)
begun_more n x kept begun has = record {
  own = begun.own;
  as_many = length-changed_at n (λ (ls : List HolderKey). map (decided (results_by_index x)) (requests_of kept.jobs n)) kept.keys.jobs ∙ begun.as_many;
  jobs = (λ j legs at.
      elim (cases_eq j n) [
        | inl here ↦
            let is : AreKnownIf true x kept j legs =
            decided_legs j legs (slice_get kept.keys.jobs n)
            (sym (at_changed n (λ (ls : List HolderKey). map (decided (results_by_index x)) (requests_of kept.jobs n)) kept.keys.jobs)
            ∙ ap (slice_get (decided_in n x kept).keys.jobs) (sym here) ∙ at) here in
            subst (λ b. AreKnownIf b x (decided_in n x kept) j legs)
            (sym (ap (λ i. has_legs_at x i && nat_lt i (n + 1)) here ∙ ap (λ b. b && nat_lt n (n + 1)) has ∙ lt-ltb n (n + 1) (omega arith))) is
        | inr other ↦
            let before = begun.jobs j legs
            (sym (at_another n (λ (ls : List HolderKey). map (decided (results_by_index x)) (requests_of kept.jobs n)) kept.keys.jobs j other) ∙ at) in
            known_still (has_legs_at x j && nat_lt j (n + 1)) j legs
            (subst (λ b. AreKnownIf b x kept j legs) (ap (λ b. has_legs_at x j && b) (one_further j n other)) before)
      ]);
}
  where
    known_still : (b : Bool) (j : ℕ) (legs : List HolderKey) → AreKnownIf b x kept j legs → AreKnownIf b x (decided_in n x kept) j legs
    known_still true j legs known = known
    known_still false j legs known = known

    decided_legs : (j : ℕ) (legs : List HolderKey) (o : Option (List HolderKey))
        → option_map (λ (ls : List HolderKey). map (decided (results_by_index x)) (requests_of kept.jobs n)) o ≡ Some legs → j ≡ n
        → legs ≡ map (decided (results_by_index x)) (requests_of kept.jobs j)
    decided_legs j legs None e here = cc
    decided_legs j legs (Some ls) e here =
        sym (same_Some (map (decided (results_by_index x)) (requests_of kept.jobs n)) legs e)
        ∙ ap (λ i. map (decided (results_by_index x)) (requests_of kept.jobs i)) (sym here)

-- its legs are not decided yet
pub not_yet : (n : ℕ) (x : RunState) (kept : RunBindings) (legs : List HolderKey) → IsBegunBelow n x kept → slice_get kept.keys.jobs n ≡ Some legs
    → AreLater (requests_of kept.jobs n) legs
not_yet n x kept legs begun at = subst (λ b. AreKnownIf b x kept n legs) (none (has_legs_at x n)) (begun.jobs n legs at)
  where
    itself : nat_lt n n ≡ false
    itself = by (nat_lt n n) refl
      where
        by : (b : Bool) → nat_lt n n ≡ b → b ≡ false
        by true is = absurd (omega (arith, ltb-true n n is))
        by false is = refl

    none : (b : Bool) → (b && nat_lt n n) ≡ false
    none true = itself
    none false = refl

-- it has none
pub begun_passed : (n : ℕ) (x : RunState) (kept : RunBindings) → IsBegunBelow n x kept → has_legs_at x n ≡ false → IsBegunBelow (n + 1) x kept
begun_passed n x kept begun none = record {
  own = begun.own;
  as_many = begun.as_many;
  jobs = (λ j legs at. subst (λ b. AreKnownIf b x kept j legs) (still j) (begun.jobs j legs at));
}
  where
    none_here : (j : ℕ) → j ≡ n → has_legs_at x j ≡ false
    none_here j here = ap (has_legs_at x) here ∙ none

    still : (j : ℕ) → (has_legs_at x j && nat_lt j n) ≡ (has_legs_at x j && nat_lt j (n + 1))
    still j =
        elim (cases_eq j n) [
          | inl here ↦ ap (λ b. b && nat_lt j n) (none_here j here) ∙ sym (ap (λ b. b && nat_lt j (n + 1)) (none_here j here))
          | inr other ↦ ap (λ b. has_legs_at x j && b) (one_further j n other)
        ]

-- past the last job
pub all_begun : (n : ℕ) (x : RunState) (kept : RunBindings) → IsBegunBelow n x kept → length x.jobs ≤ n → IsBegun x kept
all_begun n x kept begun past = record {
  own = begun.own;
  as_many = begun.as_many;
  jobs = (λ j legs at. subst (λ b. AreKnownIf b x kept j legs) (all j (has_legs_at x j) refl) (begun.jobs j legs at));
}
  where
    all : (j : ℕ) (b : Bool) → has_legs_at x j ≡ b → (b && nat_lt j n) ≡ b
    all j false is = refl
    all j true is = lt-ltb j n (omega (arith, past, job_within j x is))

-- ---- a job that has no requests

pub undecided_stays : (j : ℕ) (x : RunState) (kept : RunBindings) → IsUndecided j kept → slice_get kept.jobs j ≡ None → kept ≡ decided_in j x kept
undecided_stays j x kept later none =
    ap (λ (js : List (List HolderKey)). record kept { keys = record { own = kept.keys.own; jobs = js } })
    (changed_none kept.keys.jobs j (λ (ls : List HolderKey). map (decided (results_by_index x)) (requests_of kept.jobs j))
    (λ legs at. no_keys legs (later legs at)))
  where
    no_requests : requests_of kept.jobs j ≡ []
    no_requests = ap (λ (o : Option JobBindings). option_map_or (λ (job : JobBindings). job.groups) o []) none

    empty : (xs : List HolderKey) → length xs ≡ 0 → xs ≡ []
    empty [] e = refl
    empty (y ∷ xs) e = absurd (omega (arith, e))

    no_keys : (legs : List HolderKey) → AreLater (requests_of kept.jobs j) legs → map (decided (results_by_index x)) (requests_of kept.jobs j) ≡ legs
    no_keys legs are =
        ap (λ (rs : List GroupRequest). map (decided (results_by_index x)) rs) no_requests
        ∙ sym (empty legs (are.as_many ∙ ap (λ (rs : List GroupRequest). length rs) no_requests))
