-- What holds when a checkpoint call or `turn_over` is not refused.
use Rattle.std.proofs.Common.{◌≡◌, inl, inr, ℕ, ◌+◌, ◌<◌, ◌≤◌, length, refl, sym, ap, subst, arith}
use Rattle.std.proofs.Common.{Bool, not, true, false}
use Rattle.std.specs.Prelude.{Option, Some, None, nat_lt, nat_le, is_some, option_map, if◌then◌else◌, ◌||◌}
use Rattle.std.proofs.lemmas.Bool.{cases_Bool, leb-false, ltb-false}
use Rattle.act_store.specs.Checkpoints.{first_gate, gate_after, has_no_room, is_written, last_counter, refusal_of_begin, refusal_of_finish}
use Rattle.act_store.specs.Checkpoints.{refusal_of_last, refusal_of_slice, since, text_length}
use Rattle.act_store.specs.StoreState.{Checkpoint, StoreState, table_of}
use Rattle.act_store.specs.Plain.{area_full, checkpoint_order, failed_earlier, refusal_of_turn_over}
use Rattle.act_store.specs.inner.StoreSeen.{as_checkpoint, as_state}
use Rattle.act_store.specs.declared.begun.Begun.{Begun}
use Rattle.act_store.specs.declared.store.Store.TheInside.{Inside}

-- ---- begin

pub record MayBegin {D : Type 0} (s : StoreState D) : Type 0 where
  pub live : s.failed ≡ false
  pub none : is_some s.begun ≡ false
  pub newer : s.generation < 18446744073709551615
  pub room : first_gate (text_length (table_of s)) + 1 ≤ s.area

begin_of : (failed begun last full : Bool)
    → (if failed then Some failed_earlier else (if begun then Some checkpoint_order else
    (if last then Some last_counter else (if full then Some area_full else None)))) ≡ None
    → (failed ≡ false) × (begun ≡ false) × (last ≡ false) × (full ≡ false)
begin_of true begun last full none = absurd (cc none)
begin_of false true last full none = absurd (cc none)
begin_of false false true full none = absurd (cc none)
begin_of false false false true none = absurd (cc none)
begin_of false false false false none = (refl, refl, refl, refl)

may_begin : {D : Type 0} (s : StoreState D) → refusal_of_begin s ≡ None → MayBegin s
may_begin s none =
    let so = begin_of s.failed (is_some s.begun) (nat_le 18446744073709551615 s.generation)
    (nat_lt s.area (first_gate (text_length (table_of s)) + 1)) none in
    record {
      live = so.0;
      none = so.1;
      newer = leb-false 18446744073709551615 s.generation so.2;
      room = ltb-false s.area (first_gate (text_length (table_of s)) + 1) so.3;
    }

-- in terms of the fields of a store with this view
pub begins : {D : Type 0} (s : Inside D) (v : StoreState D) → as_state s ≡ v → refusal_of_begin v ≡ None → MayBegin (as_state s)
begins {D} s v view none = may_begin (as_state s) (subst (λ (k : StoreState D). refusal_of_begin k ≡ None) (sym view) none)

pub no_room : (a b : ℕ) → a < b → false ≡ not (nat_lt a b)
no_room a b less = elim (cases_Bool (nat_lt a b)) [
  | inl is ↦ sym (ap (λ (x : Bool). not x) is)
  | inr isnt ↦ absurd (omega (arith, less, ltb-false a b isnt))
]

pub none_begun : (o : Option Begun) → is_some (option_map as_checkpoint o) ≡ false → is_some o ≡ false
none_begun None none = refl
none_begun (Some b) none = absurd (cc none)

-- ---- slice

slice_of : (failed written : Bool)
    → (if failed then Some failed_earlier else (if written then Some checkpoint_order else None)) ≡ None → failed ≡ false
slice_of true written none = absurd (cc none)
slice_of false written none = refl

may_slice : {D : Type 0} (s : StoreState D) → refusal_of_slice s ≡ None → s.failed ≡ false
may_slice s none = slice_of s.failed (is_written s.begun) none

pub slices : {D : Type 0} (s : Inside D) (v : StoreState D) → as_state s ≡ v → refusal_of_slice v ≡ None → s.failed ≡ false
slices {D} s v view none = may_slice (as_state s) (subst (λ (k : StoreState D). refusal_of_slice k ≡ None) (sym view) none)

-- ---- finish

pub record MayFinish {D : Type 0} (s : StoreState D) (checkpoint : Checkpoint) : Type 0 where
  pub live : s.failed ≡ false
  pub none_left : checkpoint.left ≤ 0
  pub room : gate_after checkpoint.text (since s checkpoint) + 1 ≤ s.area

finish_of : (failed left full : Bool)
    → (if failed then Some failed_earlier else (if left then Some checkpoint_order else (if full then Some area_full else None))) ≡ None
    → (failed ≡ false) × (left ≡ false) × (full ≡ false)
finish_of true left full none = absurd (cc none)
finish_of false true full none = absurd (cc none)
finish_of false false true none = absurd (cc none)
finish_of false false false none = (refl, refl, refl)

pub may_finish : {D : Type 0} (s : StoreState D) (checkpoint : Checkpoint) → s.begun ≡ Some checkpoint → refusal_of_finish s ≡ None
    → MayFinish s checkpoint
may_finish s checkpoint is none =
    let so = finish_of s.failed (nat_lt 0 checkpoint.left) (has_no_room s checkpoint)
    (subst (λ (o : Option Checkpoint). (if s.failed then Some failed_earlier else refusal_of_last s o) ≡ None) is none) in
    record {
      live = so.0;
      none_left = ltb-false 0 checkpoint.left so.1;
      room = ltb-false s.area (gate_after checkpoint.text (since s checkpoint) + 1) so.2;
    }

-- ---- turn over

pub record MayTurnOver {D : Type 0} (s : StoreState D) : Type 0 where
  pub live : s.failed ≡ false
  pub none : is_some s.begun ≡ false
  pub all : length s.history ≤ s.covered

turn_over_of : (failed begun less : Bool)
    → (if failed then Some failed_earlier else (if begun || less then Some checkpoint_order else None)) ≡ None
    → (failed ≡ false) × (begun ≡ false) × (less ≡ false)
turn_over_of true begun less none = absurd (cc none)
turn_over_of false true less none = absurd (cc none)
turn_over_of false false true none = absurd (cc none)
turn_over_of false false false none = (refl, refl, refl)

pub may_turn_over : {D : Type 0} (s : StoreState D) → refusal_of_turn_over s ≡ None → MayTurnOver s
may_turn_over s none =
    let so = turn_over_of s.failed (is_some s.begun) (nat_lt s.covered (length s.history)) none in
    record { live = so.0; none = so.1; all = ltb-false s.covered (length s.history) so.2 }
