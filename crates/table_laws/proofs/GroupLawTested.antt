-- The test of the law returns true exactly if the law holds.
use Rattle.std.specs.List.{list_all}
use Rattle.std.specs.Prelude.{map}
use Rattle.std.proofs.Common.{◌≡◌, List, [], ◌∷◌, ◌++◌, Bool, true, false, ◌&&◌, ◌||◌, not, Option, Some, None}
use Rattle.std.proofs.Common.{refl, ap, ap₂, sym, subst, ◌∙◌, append_assoc}
use Rattle.std.proofs.lemmas.List.{append-nil}
use Rattle.std.proofs.lemmas.Bool.{and_from, and_parts, not-true}
use Rattle.wf_value.specs.declared.outcome.Outcome.{Outcome}
use Rattle.wf_value.specs.declared.outcome.Outcome.TheVariants.{Success, Failure, Cancelled}
use Rattle.table_model.specs.GroupLaw.{has_ended, has_started, holder_of, is_in_progress, is_the, latest, next_displaced, Move}
use Rattle.table_model.specs.GroupLaw.{same_holder, was_stopped, BeginsWith, IsJustDisplaced, KeepsLaw, cancelled_end}
use Rattle.settling_laws.proofs.ArrivalKeeps.{holder_tested, itself}
use Rattle.table_laws.specs.GroupLawTest.{allows, allows_all, begins_with_end, begins_with_stop, displaced_last, ends_displaced}
use Rattle.table_laws.specs.GroupLawTest.{is_cancelled, keeps_law, stops_after}
use Rattle.table_laws.proofs.GroupLawWalk.{Lawful, law_walks, walk_is_law}
use Rattle.table_laws.proofs.GroupSaid.{runs_started, the_one, the_same}
use Rattle.table_laws.proofs.GroupTruths.{or_second}
use Rattle.table_laws.proofs.ListWalk.{Walk}
use Rattle.table_model.specs.declared.holder.Holder.{Holder}

-- ---- from the test to the law

cancelled_is : (r : Outcome) → is_cancelled r ≡ true → r ≡ Cancelled
cancelled_is Success is = absurd (cc)
cancelled_is Failure is = absurd (cc)
cancelled_is Cancelled is = refl

end_shown : (h : Holder) (after : List Move) → begins_with_end h after ≡ true → BeginsWith (Move.end_with Cancelled h ∷ []) after
end_shown h [] is = absurd (cc)
end_shown h (Move.arrive k ∷ moves) is = absurd (cc)
end_shown h (Move.start k ∷ moves) is = absurd (cc)
end_shown h (Move.stop k ∷ moves) is = absurd (cc)
end_shown h (Move.end_with r k ∷ moves) is =
    let parts = and_parts (is_cancelled r) (same_holder h k) is in
    (moves, ap₂ (λ s x. Move.end_with s x ∷ moves) (cancelled_is r parts.0) (sym (holder_tested h k parts.1)))

stop_shown : (h : Holder) (after : List Move) → begins_with_stop h after ≡ true → BeginsWith (Move.stop h ∷ []) after
stop_shown h [] is = absurd (cc)
stop_shown h (Move.arrive k ∷ moves) is = absurd (cc)
stop_shown h (Move.start k ∷ moves) is = absurd (cc)
stop_shown h (Move.stop k ∷ moves) is = (moves, ap (λ x. Move.stop x ∷ moves) (sym (holder_tested h k is)))
stop_shown h (Move.end_with r k ∷ moves) is = absurd (cc)

displaced_shown : (o : Option Holder) (h : Holder) (after : List Move) → o ≡ Some h → ends_displaced o after ≡ true
    → BeginsWith (Move.end_with Cancelled h ∷ []) after
displaced_shown o h after one is = end_shown h after (ap (λ x. ends_displaced x after) (sym one) ∙ is)

first_is : (p : Holder) (m : Move) → BeginsWith (Move.end_with Cancelled p ∷ []) (m ∷ []) → m ≡ Move.end_with Cancelled p
first_is p m begins = let e = begins.1 in cc

after_shown : (o : Option Holder) (h : Holder) (after : List Move) → stops_after o h after ≡ true
    → BeginsWith (cancelled_end o ++ Move.stop h ∷ []) after
after_shown None h after is = stop_shown h after is
after_shown (Some p) h [] is = absurd (cc)
after_shown (Some p) h (m ∷ after) is =
    let parts = and_parts (begins_with_end p (m ∷ [])) (begins_with_stop h after) is in
    let rest = stop_shown h after parts.1 in
    (rest.0, ap₂ (λ x ms. x ∷ ms) (first_is p m (end_shown p (m ∷ []) parts.0)) rest.1)

named_by : (test : Holder → Bool) (h k : Holder) (moves : List Move) (b : Bool) → same_holder h k ≡ b → (b || has_started h moves) ≡ true
    → (test k ≡ true) → (has_started h moves ≡ true → test h ≡ true) → test h ≡ true
named_by test h k moves true same is here next = subst (λ x. test x ≡ true) (sym (holder_tested h k same)) here
named_by test h k moves false same is here next = next is

-- a property of every holder that moves holds of one that has started
named : (test : Holder → Bool) (h : Holder) (moves : List Move) → has_started h moves ≡ true
    → list_all test (map holder_of moves) ≡ true → test h ≡ true
named test h [] is all = absurd (cc)
named test h (Move.arrive k ∷ moves) is all = named test h moves is (and_parts (test k) (list_all test (map holder_of moves)) all).1
named test h (Move.start k ∷ moves) is all =
    let parts = and_parts (test k) (list_all test (map holder_of moves)) all in
    named_by test h k moves (same_holder h k) refl is parts.0 (λ started. named test h moves started parts.1)
named test h (Move.stop k ∷ moves) is all = named test h moves is (and_parts (test k) (list_all test (map holder_of moves)) all).1
named test h (Move.end_with r k ∷ moves) is all = named test h moves is (and_parts (test k) (list_all test (map holder_of moves)) all).1

-- if no holder that moves is in progress by the test, no holder is
never_runs : (moves : List Move) (h : Holder) (b : Bool) → is_in_progress h moves ≡ b
    → list_all (λ other. not (is_in_progress other moves)) (map holder_of moves) ≡ true → is_in_progress h moves ≡ false
never_runs moves h true is all =
    not-true (is_in_progress h moves) (named (λ other. not (is_in_progress other moves)) h moves (runs_started h moves is) all)
never_runs moves h false is all = is

last_shown_by : (h k : Holder) (before : List Move) → is_the (next_displaced before) h ≡ true
    → (x : List Move) × (newcomer : Holder) × (before ++ Move.arrive k ∷ [] ≡ x ++ Move.arrive newcomer
    ∷ []) × (next_displaced x ≡ Some h)
last_shown_by h k before is = (before, k, refl, the_one (next_displaced before) h is)

last_shown : (h : Holder) (before moves : List Move) → displaced_last h before moves ≡ true
    → (x : List Move) × (newcomer : Holder) × (before ++ moves ≡ x ++ Move.arrive newcomer ∷ []) × (next_displaced x ≡ Some h)
last_shown h before [] is = absurd (cc)
last_shown h before (Move.arrive k ∷ []) is = last_shown_by h k before is
last_shown h before (Move.start k ∷ []) is = absurd (cc)
last_shown h before (Move.stop k ∷ []) is = absurd (cc)
last_shown h before (Move.end_with r k ∷ []) is = absurd (cc)
last_shown h before (m ∷ n ∷ moves) is =
    let spot = last_shown h (before ++ m ∷ []) (n ∷ moves) is in
    (spot.0, spot.1, sym (append_assoc before (m ∷ []) (n ∷ moves)) ∙ spot.2, spot.3)

stops_tested : (moves after : List Move) (h : Holder) → is_in_progress h moves ≡ true → was_stopped h moves ≡ false
    → (not (is_in_progress h moves) || (was_stopped h moves || stops_after (next_displaced moves) h after)) ≡ true
    → stops_after (next_displaced moves) h after ≡ true
stops_tested moves after h runs unstopped is =
    ap₂ (λ r s. not r || (s || stops_after (next_displaced moves) h after)) (sym runs) (sym unstopped) ∙ is

lawful_by_test : (cancels : Holder → Bool) (before : List Move) (m : Move) (after : List Move) → allows cancels before m after ≡ true
    → Lawful cancels before m after
lawful_by_test cancels before (Move.arrive k) after is =
    let test : Holder → Bool =
    λ h. not (is_in_progress h before) || (was_stopped h before || stops_after (next_displaced before) h after) in
    let parts = and_parts (ends_displaced (next_displaced before) after) (not (cancels k) || list_all test (map holder_of before)) is in (
      λ h one. displaced_shown (next_displaced before) h after one parts.0,
      λ h requests runs unstopped.
          let all : list_all test (map holder_of before) ≡ true =
          ap (λ c. not c || list_all test (map holder_of before)) (sym requests) ∙ parts.1 in
          after_shown (next_displaced before) h after
          (stops_tested before after h runs unstopped (named test h before (runs_started h before runs) all)),
    )
lawful_by_test cancels before (Move.start h) after is =
    let parts = and_parts (list_all (λ other. not (is_in_progress other before)) (map holder_of before))
    (is_the (latest before) h && not (has_ended h before)) is in
    let own = and_parts (is_the (latest before) h) (not (has_ended h before)) parts.1 in (
      λ other. never_runs before other (is_in_progress other before) refl parts.0,
      the_one (latest before) h own.0,
      not-true (has_ended h before) own.1,
    )
lawful_by_test cancels before (Move.stop h) after is = tt
lawful_by_test cancels before (Move.end_with r h) after is =
    λ unstarted unstopped.
    let last = or_second (was_stopped h before) (is_cancelled r && displaced_last h [] before) unstopped
    (or_second (has_started h before) (was_stopped h before || (is_cancelled r && displaced_last h [] before)) unstarted is) in
    let parts = and_parts (is_cancelled r) (displaced_last h [] before) last in
    (cancelled_is r parts.0, last_shown h [] before parts.1)

walk_by_test : (cancels : Holder → Bool) (before after : List Move) → allows_all cancels before after ≡ true
    → Walk (Lawful cancels) before after
walk_by_test cancels before [] is = tt
walk_by_test cancels before (m ∷ after) is =
    let parts = and_parts (allows cancels before m after) (allows_all cancels (before ++ m ∷ []) after) is in
    (lawful_by_test cancels before m after parts.0, walk_by_test cancels (before ++ m ∷ []) after parts.1)

pub law_by_test : (cancels : Holder → Bool) (moves : List Move) → keeps_law cancels moves ≡ true → KeepsLaw cancels moves
law_by_test cancels moves is = walk_is_law cancels moves (walk_by_test cancels [] moves is)

-- ---- from the law to the test

end_tested : (h : Holder) (after : List Move) → BeginsWith (Move.end_with Cancelled h ∷ []) after → begins_with_end h after ≡ true
end_tested h after begins = ap (λ ms. begins_with_end h ms) begins.1 ∙ itself h

displaced_tested : (o : Option Holder) (after : List Move)
    → ((h : Holder) → o ≡ Some h → BeginsWith (Move.end_with Cancelled h ∷ []) after) → ends_displaced o after ≡ true
displaced_tested None after begins = refl
displaced_tested (Some h) after begins = end_tested h after (begins h refl)

after_tested : (o : Option Holder) (h : Holder) (after : List Move) → BeginsWith (cancelled_end o ++ Move.stop h ∷ []) after
    → stops_after o h after ≡ true
after_tested None h after begins = ap (λ ms. begins_with_stop h ms) begins.1 ∙ itself h
after_tested (Some p) h after begins =
    ap (λ ms. stops_after (Some p) h ms) begins.1 ∙ ap₂ (λ a b. a && b) (itself p) (itself h)

all_pass : {X : Type 0} (test : X → Bool) → ((x : X) → test x ≡ true) → (xs : List X) → list_all test xs ≡ true
all_pass test each [] = refl
all_pass test each (x ∷ xs) = ap₂ (λ a b. a && b) (each x) (all_pass test each xs)

stop_tested_by : (a b c : Bool) → (a ≡ true → b ≡ false → c ≡ true) → (not a || (b || c)) ≡ true
stop_tested_by true true c so = refl
stop_tested_by true false c so = so refl refl
stop_tested_by false b c so = refl

requested_by : (c d : Bool) → (c ≡ true → d ≡ true) → (not c || d) ≡ true
requested_by true d so = so refl
requested_by false d so = refl

last_tested : (h k : Holder) (before x : List Move) → next_displaced (before ++ x) ≡ Some h
    → displaced_last h before (x ++ Move.arrive k ∷ []) ≡ true
last_tested h k before [] is = the_same (next_displaced before) h (ap (λ ms. next_displaced ms) (sym (append-nil before)) ∙ is)
last_tested h k before (m ∷ []) is = the_same (next_displaced (before ++ m ∷ [])) h is
last_tested h k before (m ∷ n ∷ x) is =
    last_tested h k (before ++ m ∷ []) (n ∷ x) (ap (λ ms. next_displaced ms) (append_assoc before (m ∷ []) (n ∷ x)) ∙ is)

just_tested : (h : Holder) (before : List Move) → IsJustDisplaced h before → displaced_last h [] before ≡ true
just_tested h before just = ap (λ ms. displaced_last h [] ms) just.2 ∙ last_tested h just.1 [] just.0 just.3

end_by : (a b c : Bool) → (a ≡ false → b ≡ false → c ≡ true) → (a || (b || c)) ≡ true
end_by true b c so = refl
end_by false true c so = refl
end_by false false c so = so refl refl

test_of_lawful : (cancels : Holder → Bool) (before : List Move) (m : Move) (after : List Move) → Lawful cancels before m after
    → allows cancels before m after ≡ true
test_of_lawful cancels before (Move.arrive k) after law =
    let test : Holder → Bool =
    λ h. not (is_in_progress h before) || (was_stopped h before || stops_after (next_displaced before) h after) in
    and_from (ends_displaced (next_displaced before) after) (not (cancels k) || list_all test (map holder_of before))
    (displaced_tested (next_displaced before) after law.0)
    (requested_by (cancels k) (list_all test (map holder_of before))
    (λ requests. all_pass test (λ h. stop_tested_by (is_in_progress h before) (was_stopped h before) (stops_after (next_displaced before) h
    after)
    (λ runs unstopped. after_tested (next_displaced before) h after (law.1 h requests runs unstopped))) (map holder_of before)))
test_of_lawful cancels before (Move.start h) after law =
    and_from (list_all (λ other. not (is_in_progress other before)) (map holder_of before)) (is_the (latest before) h && not (has_ended h
    before))
    (all_pass (λ other. not (is_in_progress other before)) (λ other. ap not (law.0 other)) (map holder_of before))
    (and_from (is_the (latest before) h) (not (has_ended h before)) (the_same (latest before) h law.1) (ap not law.2))
test_of_lawful cancels before (Move.stop h) after law = refl
test_of_lawful cancels before (Move.end_with r h) after law =
    end_by (has_started h before) (was_stopped h before) (is_cancelled r && displaced_last h [] before)
    (λ unstarted unstopped.
    let cause = law unstarted unstopped in
    and_from (is_cancelled r) (displaced_last h [] before) (ap is_cancelled cause.0) (just_tested h before cause.1))

test_of_walk : (cancels : Holder → Bool) (before after : List Move) → Walk (Lawful cancels) before after
    → allows_all cancels before after ≡ true
test_of_walk cancels before [] walk = refl
test_of_walk cancels before (m ∷ after) walk =
    and_from (allows cancels before m after) (allows_all cancels (before ++ m ∷ []) after)
    (test_of_lawful cancels before m after walk.0) (test_of_walk cancels (before ++ m ∷ []) after walk.1)

pub test_of_law : (cancels : Holder → Bool) (moves : List Move) → KeepsLaw cancels moves → keeps_law cancels moves ≡ true
test_of_law cancels moves law = test_of_walk cancels [] moves (law_walks cancels moves law)
