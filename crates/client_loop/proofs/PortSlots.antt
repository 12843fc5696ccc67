-- Slots of two ports under one numbering.
use Rattle.std.proofs.Common.{◌≡◌, ℕ, ◌+◌, ◌-◌, ◌<◌, ◌≤◌, Bool, true, false, List, [], ◌∷◌, ◌++◌, length, get_or, refl, sym, ap, subst, ◌∙◌, arith, zero, suc, length-append}
use Rattle.std.specs.Prelude.{◌↔◌, ◌≢◌, ◌&&◌, IfNone, IfSome, IsSome, IsTrue, is_some, nat_lt, not, option_map, replicate, slice_get, slice_set, Option, Some, None}
use Rattle.std.specs.Option.{option_map_or}
use Rattle.std.proofs.lemmas.Bool.Decides.{nat_tests}
use Rattle.std.proofs.lemmas.List.{length-set, set-append_left, set-append_right}
use Rattle.std.proofs.lemmas.Option.{slice_get_read}
use Rattle.act_sessions.specs.Rules.{Rules}
use Rattle.client_loop.specs.Clients.{ClientState, IsSilent, IsUnheard, SlotState, awaits_input, free_slot, status_of}
use Rattle.client_loop.specs.Conversation.{Conversation, Follows, no_conversation}
use Rattle.client_loop.specs.Slots.{AreFree, ChangesSlot, FollowsAt, OfClient, SlotsState, by_port, client_in}
use Rattle.client_loop.proofs.HeldPieces.{at_first}

-- ---- lists

get_left : (xs ys : List SlotState) (i : ℕ) (x : SlotState) → slice_get xs i ≡ Some x → slice_get (xs ++ ys) i ≡ Some x
get_left [] ys i x is = cc
get_left (y ∷ xs) ys zero x is = is
get_left (y ∷ xs) ys (suc i) x is = get_left xs ys i x is

get_right : (xs ys : List SlotState) (i k : ℕ) (x : SlotState) → i ≡ length xs + k → slice_get ys k ≡ Some x → slice_get (xs ++ ys) i ≡ Some x
get_right [] ys i k x e is = let same : k ≡ i = omega (arith, e) in subst (λ (n : ℕ). slice_get ys n ≡ Some x) same is
get_right (y ∷ xs) ys zero k x e is = absurd (omega (arith, e))
get_right (y ∷ xs) ys (suc i) k x e is = get_right xs ys i k x (omega (arith, e)) is

set_same : (xs : List SlotState) (i : ℕ) (x : SlotState) → slice_get xs i ≡ Some x → slice_set xs i x ≡ xs
set_same [] i x is = refl
set_same (y ∷ xs) zero x is = ap (λ (z : SlotState). z ∷ xs) (sym (same_some y x is))
  where
    same_some : (y x : SlotState) → ◌≡◌ {A = Option SlotState} (Some y) (Some x) → y ≡ x
    same_some y x is = cc
set_same (y ∷ xs) (suc i) x is = ap (λ (l : List SlotState). y ∷ l) (set_same xs i x is)

replicate_both : (m n : ℕ) (x : SlotState) → replicate m x ++ replicate n x ≡ replicate (length (replicate m x ++ replicate n x)) x
replicate_both zero zero x = refl
replicate_both zero (suc n) x = ap (λ (l : List SlotState). x ∷ l) (replicate_both zero n x)
replicate_both (suc m) n x = ap (λ (l : List SlotState). x ∷ l) (replicate_both m n x)

pub both_free : (hooks runners : List SlotState) (m n : ℕ) → hooks ≡ replicate m free_slot → runners ≡ replicate n free_slot → AreFree (hooks ++ runners)
both_free hooks runners m n first second =
    subst (λ (h : List SlotState). AreFree (h ++ runners)) (sym first)
    (subst (λ (r : List SlotState). AreFree (replicate m free_slot ++ r)) (sym second) (replicate_both m n free_slot))

-- ---- a change of one slot

abbrev pub both : List SlotState → List SlotState → SlotsState
both hooks runners = record { hooks = length hooks; all = hooks ++ runners }

is_hook : (i n : ℕ) → i < n → nat_lt i n ≡ true
is_hook i n less = grind (arith, nat_tests)

is_runner : (i n : ℕ) → n ≤ i → nat_lt i n ≡ false
is_runner i n least = grind (arith, nat_tests)

pub runner_below : (hooks runners : List SlotState) (o : SlotsState) → both hooks runners ≡ o → (index : ℕ) → index < length o.all → (n : ℕ)
    → n ≡ length hooks → n ≤ index → index - n < length runners
runner_below hooks runners o view index below n count least =
    let longer : length o.all ≡ length hooks + length runners = ap (λ (s : SlotsState). length s.all) (sym view) ∙ length-append hooks runners in
    omega (arith, below, longer, count, least)

module _ {F G : Type 0} (R : (Conversation → Type 0) → SlotState → SlotState → Type 0) (p : Rules F) (q : Rules G) (index : ℕ)
    (hooks runners : List SlotState) (now : SlotState) where
  hook : index < length hooks → (was : SlotState) → slice_get hooks index ≡ Some was → R (Follows p) was now
      → ChangesSlot (R (by_port (length hooks) p q index)) index (both hooks runners) (both (slice_set hooks index now) runners)
  hook less was at so = record {
    was = was;
    now = now;
    at = get_left hooks runners index was at;
    so = subst (λ (b : Bool). R (FollowsAt p q b) was now) (sym (is_hook index (length hooks) less)) so;
    is = ap (λ (n : ℕ). record { hooks = n; all = slice_set hooks index now ++ runners }) (length-set hooks index now)
        ∙ ap (λ (l : List SlotState). record { hooks = length hooks; all = l }) (sym (set-append_left hooks runners index now less));
  }

  runner : length hooks ≤ index → (was : SlotState) → slice_get runners (index - length hooks) ≡ Some was → R (Follows q) was now
      → ChangesSlot (R (by_port (length hooks) p q index)) index (both hooks runners) (both hooks (slice_set runners (index - length hooks) now))
  runner least was at so = record {
    was = was;
    now = now;
    at = get_right hooks runners index (index - length hooks) was (omega (arith, least)) at;
    so = subst (λ (b : Bool). R (FollowsAt p q b) was now) (sym (is_runner index (length hooks) least)) so;
    is = ap (λ (l : List SlotState). record { hooks = length hooks; all = l }) (sym (set-append_right hooks runners (length hooks) index now refl least));
  }

  pub changes_hook : (o : SlotsState) → both hooks runners ≡ o → index < length hooks → (was : SlotState) → was ≡ get_or hooks index was
      → R (Follows p) was now → ChangesSlot (R (by_port o.hooks p q index)) index o (both (slice_set hooks index now) runners)
  changes_hook o view less was read so =
      subst (λ (s : SlotsState). ChangesSlot (R (by_port s.hooks p q index)) index s (both (slice_set hooks index now) runners)) view
      (hook less was (slice_get_read hooks (length hooks) index was refl less read) so)

  pub changes_runner : (o : SlotsState) → both hooks runners ≡ o → index < length o.all → (n : ℕ) → n ≡ length hooks → n ≤ index
      → (was : SlotState) → was ≡ get_or runners (index - n) was → R (Follows q) was now
      → ChangesSlot (R (by_port o.hooks p q index)) index o (both hooks (slice_set runners (index - n) now))
  changes_runner o view below n count least was read so =
      let same : length hooks ≡ n = sym count in
      let least_hooks : length hooks ≤ index = omega (arith, least, count) in
      let at : slice_get runners (index - n) ≡ Some was =
      slice_get_read runners (length runners) (index - n) was refl (runner_below hooks runners o view index below n count least) read in
      subst (λ (s : SlotsState). ChangesSlot (R (by_port s.hooks p q index)) index s (both hooks (slice_set runners (index - n) now))) view
      (subst (λ (k : ℕ). ChangesSlot (R (by_port (length hooks) p q index)) index (both hooks runners) (both hooks (slice_set runners (index - k) now))) same
      (runner least_hooks was (subst (λ (k : ℕ). slice_get runners (index - k) ≡ Some was) count at) so))

-- ---- no change

pub same_hook : (hooks runners : List SlotState) (o : SlotsState) → both hooks runners ≡ o → (index : ℕ) → index < length hooks → (was now : SlotState)
    → was ≡ get_or hooks index was → now ≡ was → both (slice_set hooks index now) runners ≡ o
same_hook hooks runners o view index less was now read same =
    ap (λ (l : List SlotState). both l runners) (ap (λ (x : SlotState). slice_set hooks index x) same
    ∙ set_same hooks index was (slice_get_read hooks (length hooks) index was refl less read)) ∙ view

pub same_runner : (hooks runners : List SlotState) (o : SlotsState) → both hooks runners ≡ o → (k : ℕ) → k < length runners → (was now : SlotState)
    → was ≡ get_or runners k was → now ≡ was → both hooks (slice_set runners k now) ≡ o
same_runner hooks runners o view k less was now read same =
    ap (λ (l : List SlotState). both hooks l) (ap (λ (x : SlotState). slice_set runners k x) same
    ∙ set_same runners k was (slice_get_read runners (length runners) k was refl less read)) ∙ view

-- ---- a client that has just come

pub nobody_follows : {F G : Type 0} (hooks : ℕ) (p : Rules F) (q : Rules G) (index : ℕ) → 0 < p.most → 0 < q.most
    → by_port hooks p q index no_conversation
nobody_follows {F} {G} hooks p q index some_p some_q = at (nat_lt index hooks)
  where
    at : (b : Bool) → FollowsAt p q b no_conversation
    at true = (at_first p [] [] [] [] [] some_p refl refl refl refl refl).follows
    at false = (at_first q [] [] [] [] [] some_q refl refl refl refl refl).follows

-- ---- of a call that may change nothing

pub some_then : (result : Option ℕ) (P Q : ℕ → Type 0) → ((n : ℕ) → P n → Q n) → IfSome result P → IfSome result Q
some_then None P Q then so = tt
some_then (Some n) P Q then so = then n so

pub none_then : (result : Option ℕ) (X Y : Type 0) → (X → Y) → IfNone result X → IfNone result Y
none_then None X Y then so = then so
none_then (Some n) X Y then so = tt

module _ {F G : Type 0} (R : ℕ → (Conversation → Type 0) → SlotState → SlotState → Type 0) (p : Rules F) (q : Rules G) (index : ℕ)
    (hooks runners : List SlotState) (now : SlotState) where
  pub some_hook : (o : SlotsState) → both hooks runners ≡ o → index < length hooks → (was : SlotState) → was ≡ get_or hooks index was
      → (result : Option ℕ) → IfSome result (λ n. R n (Follows p) was now)
      → IfSome result (λ n. ChangesSlot (R n (by_port o.hooks p q index)) index o (both (slice_set hooks index now) runners))
  some_hook o view less was read None so = tt
  some_hook o view less was read (Some n) so = changes_hook (R n) p q index hooks runners now o view less was read so

  pub some_runner : (o : SlotsState) → both hooks runners ≡ o → index < length o.all → (n : ℕ) → n ≡ length hooks → n ≤ index
      → (was : SlotState) → was ≡ get_or runners (index - n) was → (result : Option ℕ) → IfSome result (λ k. R k (Follows q) was now)
      → IfSome result (λ k. ChangesSlot (R k (by_port o.hooks p q index)) index o (both hooks (slice_set runners (index - n) now)))
  some_runner o view below n count least was read None so = tt
  some_runner o view below n count least was read (Some k) so = changes_runner (R k) p q index hooks runners now o view below n count least was read so

module _ {F G : Type 0} (R : List ℕ → (Conversation → Type 0) → SlotState → SlotState → Type 0) (p : Rules F) (q : Rules G) (index : ℕ)
    (hooks runners : List SlotState) (now : SlotState) where
  pub with_hook : (o : SlotsState) → both hooks runners ≡ o → index < length hooks → (was : SlotState) → was ≡ get_or hooks index was
      → (bytes : List ℕ) × R bytes (Follows p) was now
      → (bytes : List ℕ) × ChangesSlot (R bytes (by_port o.hooks p q index)) index o (both (slice_set hooks index now) runners)
  with_hook o view less was read (bytes, so) = (bytes, changes_hook (R bytes) p q index hooks runners now o view less was read so)

  pub with_runner : (o : SlotsState) → both hooks runners ≡ o → index < length o.all → (n : ℕ) → n ≡ length hooks → n ≤ index
      → (was : SlotState) → was ≡ get_or runners (index - n) was → (bytes : List ℕ) × R bytes (Follows q) was now
      → (bytes : List ℕ) × ChangesSlot (R bytes (by_port o.hooks p q index)) index o (both hooks (slice_set runners (index - n) now))
  with_runner o view below n count least was read (bytes, so) =
      (bytes, changes_runner (R bytes) p q index hooks runners now o view below n count least was read so)

-- ---- of the client that has a slot

pub at_hook : (X : Option ClientState → Type 0) (hooks runners : List SlotState) (o : SlotsState) → both hooks runners ≡ o → (index : ℕ) → index < length hooks
    → (was : SlotState) → was ≡ get_or hooks index was → X was.client → X (client_in (slice_get o.all index))
at_hook X hooks runners o view index less was read so =
    subst (λ (s : SlotsState). X (client_in (slice_get s.all index))) view
    (subst (λ (x : Option SlotState). X (client_in x))
    (sym (get_left hooks runners index was (slice_get_read hooks (length hooks) index was refl less read))) so)

pub at_runner : (X : Option ClientState → Type 0) (hooks runners : List SlotState) (o : SlotsState) → both hooks runners ≡ o → (index : ℕ) → index < length o.all
    → (n : ℕ) → n ≡ length hooks → n ≤ index → (was : SlotState) → was ≡ get_or runners (index - n) was → X was.client
    → X (client_in (slice_get o.all index))
at_runner X hooks runners o view index below n count least was read so =
    let at : slice_get runners (index - n) ≡ Some was =
    slice_get_read runners (length runners) (index - n) was refl (runner_below hooks runners o view index below n count least) read in
    subst (λ (s : SlotsState). X (client_in (slice_get s.all index))) view
    (subst (λ (x : Option SlotState). X (client_in x))
    (sym (get_right hooks runners index (index - n) was (omega (arith, count, least)) at)) so)

pub client_hook : (P : ClientState → Type 0) (hooks runners : List SlotState) (o : SlotsState) → both hooks runners ≡ o → (index : ℕ) → index < length hooks
    → (was : SlotState) → was ≡ get_or hooks index was → IfSome was.client P → OfClient P o index
client_hook P hooks runners o view index less was read so = at_hook (λ (x : Option ClientState). IfSome x P) hooks runners o view index less was read so

pub client_runner : (P : ClientState → Type 0) (hooks runners : List SlotState) (o : SlotsState) → both hooks runners ≡ o → (index : ℕ) → index < length o.all
    → (n : ℕ) → n ≡ length hooks → n ≤ index → (was : SlotState) → was ≡ get_or runners (index - n) was → IfSome was.client P → OfClient P o index
client_runner P hooks runners o view index below n count least was read so =
    at_runner (λ (x : Option ClientState). IfSome x P) hooks runners o view index below n count least was read so

-- a client that has a slot has a status
abbrev pub HasStatus : Option ClientState → Type 0
HasStatus o = IsSome (option_map status_of o)

pub has_status : (o : Option ClientState) → IsSome o → HasStatus o
has_status None is = cc
has_status (Some c) is = refl

get_none : (xs : List SlotState) (i : ℕ) → length xs ≤ i → slice_get xs i ≡ None
get_none [] i least = refl
get_none (x ∷ xs) zero least = absurd (omega (arith, least))
get_none (x ∷ xs) (suc i) least = get_none xs i (omega (arith, least))

beyond : (b less : Bool) (i n : ℕ) → nat_lt i n ≡ less → IsTrue b ↔ (i < n) → b ≡ false → n ≤ i
beyond true less i n is test isnt = cc
beyond false true i n is test isnt =
    let below : i < n = grind (arith, nat_tests, is) in
    let no : false ≡ true = test.1 below in cc
beyond false false i n is test isnt = grind (arith, nat_tests, is)

-- where there is no slot
pub no_slot : (P : ClientState → Type 0) (slots : SlotsState) (index : ℕ) (b : Bool) → IsTrue b ↔ (index < length slots.all) → b ≡ false → OfClient P slots index
no_slot P slots index b test isnt =
    let least : length slots.all ≤ index = beyond b (nat_lt index (length slots.all)) index (length slots.all) refl test isnt in
    subst (λ (x : Option SlotState). IfSome (client_in x) P) (sym (get_none slots.all index least)) tt

pub some_not_none : (o : Option (List ℕ)) → is_some o ≡ true → o ≢ None
some_not_none None is none = cc
some_not_none (Some x) is none = cc

live_of : (over other : Bool) → (not over && other) ≡ true → over ≡ false
live_of true other is = cc
live_of false other is = refl

pub silent_unheard : (o : Option ClientState) → IfSome o IsSilent → IfSome o IsUnheard
silent_unheard None so = tt
silent_unheard (Some c) so = λ awaits. so (live_of c.now.over _ awaits)

pub not_awaited : (o : Option ClientState) (b : Bool) → b ≡ option_map_or awaits_input (option_map status_of o) false → b ≡ false → IfSome o IsUnheard
not_awaited None b is isnt = tt
not_awaited (Some c) b is isnt = λ awaits. let no : true ≡ false = sym awaits ∙ sym is ∙ isnt in cc
