-- How far a seat's part of a history can follow what its session submitted.
use Rattle.std.proofs.Common.{◌≡◌, ℕ, ◌+◌, ◌<◌, ◌≤◌, ◌==◌, Bool, true, false, List, [], ◌∷◌, ◌++◌, length, get_or, take, drop, Option, Some, None, Result, Ok, Err, slice_get, refl, ap, sym, subst, ◌∙◌, arith, append_assoc, length-append}
use Rattle.std.specs.Prelude.{IfNone, IfSome, is_ok}
use Rattle.std.proofs.lemmas.List.{drop_more, get_or_default, map-append, take-append-drop, take-take, take_all}
use Rattle.std.proofs.lemmas.List.Concat.{flat_map-append}
use Rattle.std.proofs.lemmas.List.Elements.{filter-append}
use Rattle.std.proofs.lemmas.Bool.Decides.{nat_tests}
use Rattle.std.proofs.lemmas.Option.{same_Some}
use mathlib.Core.List.{IsPrefix}
use Rattle.wf_value.specs.declared.refusal.Refusal.{Refusal}
use Rattle.run_plan.specs.declared.reply.Reply.{Reply}
use Rattle.act_sessions.specs.declared.transcript.LoggedExchange.{LoggedExchange}
use Rattle.act_sessions.specs.Exchange.{Exchange, exchanges_in}
use Rattle.act_store.specs.declared.entry.Entry.{Entry}
use Rattle.act_desk.specs.Settled.{Agrees, MayBegin, entries_of, entries_of_one, if_any, part_of}
use Rattle.act_desk.proofs.Prefixes.{get_last, prefix_get, prefix_trans}

-- the entries of the commands that got a reply
abbrev pub told : ℕ → List LoggedExchange → List Entry
told seat asked = entries_of seat (exchanges_in asked)

told-append : (seat : ℕ) (xs ys : List LoggedExchange) → told seat (xs ++ ys) ≡ told seat xs ++ told seat ys
told-append seat xs ys =
    ap (entries_of seat) (map-append (λ (a : LoggedExchange). (a.command, a.answer)) xs ys)
    ∙ flat_map-append (entries_of_one seat) (exchanges_in xs) (exchanges_in ys)

abbrev entry_for : ℕ → LoggedExchange → Reply → Entry
entry_for seat one reply = record { seat = seat; command = one.command; reply = reply }

told_at : (seat at : ℕ) (xs : List LoggedExchange) (one : LoggedExchange) (reply : Reply) → at < length xs → get_or xs at one ≡ one → one.answer ≡ Ok reply
    → told seat xs ≡ told seat (take at xs) ++ entry_for seat one reply ∷ told seat (drop (at + 1) xs)
told_at seat at xs one reply less is ok =
    ap (told seat) (sym (take-append-drop at xs) ∙ ap (λ l. take at xs ++ l) (drop_more xs at one less ∙ ap (λ x. x ∷ drop (at + 1) xs) is))
    ∙ told-append seat (take at xs) (one ∷ drop (at + 1) xs)
    ∙ ap (λ a. told seat (take at xs) ++ (entries_of_one seat (one.command, a) ++ told seat (drop (at + 1) xs))) ok

get_next : {A : Type 0} (xs ys : List A) (y : A) → slice_get (xs ++ y ∷ ys) (length xs) ≡ Some y
get_next [] ys y = refl
get_next (x ∷ xs) ys y = get_next xs ys y

next_same : {A : Type 0} (xs ys : List A) (x y : A) → IsPrefix (xs ++ x ∷ []) (xs ++ y ∷ ys) → x ≡ y
next_same xs ys x y p =
    same_Some x y (sym (prefix_get (xs ++ x ∷ []) (xs ++ y ∷ ys) (length xs) x p (get_last xs x)) ∙ get_next xs ys y)

-- after the replies before a position, the entry of that command comes next
pub other_reply : (seat at : ℕ) (xs : List LoggedExchange) (one : LoggedExchange) (reply : Reply) (e : Entry)
    → at < length xs → get_or xs at one ≡ one → one.answer ≡ Ok reply
    → (e ≡ record { seat = seat; command = one.command; reply = reply } → ⊥)
    → MayBegin seat (exchanges_in xs) (told seat (take at xs) ++ e ∷ []) → ⊥
other_reply seat at xs one reply e less is ok other m =
    let before = told seat (take at xs) in
    let after = told seat (drop (at + 1) xs) in
    let all : told seat xs ++ if_any m.over ≡ before ++ entry_for seat one reply ∷ (after ++ if_any m.over)
    = ap (λ l. l ++ if_any m.over) (told_at seat at xs one reply less is ok) ∙ append_assoc before (entry_for seat one reply ∷ after) (if_any m.over) in
    other (next_same before (after ++ if_any m.over) e (entry_for seat one reply) (subst (IsPrefix (before ++ e ∷ [])) all m.begins))

-- what begins a part that may begin so, may begin it too
pub begins_earlier : (seat : ℕ) (exchanges : List Exchange) (xs ys : List Entry) → IsPrefix xs ys → MayBegin seat exchanges ys → MayBegin seat exchanges xs
begins_earlier seat exchanges xs ys p m =
    record { over = m.over; of_last = m.of_last; begins = prefix_trans xs ys (entries_of seat exchanges ++ if_any m.over) p m.begins }

part_whole : (seat i : ℕ) (history : List Entry) → IsPrefix (part_of seat (take i history)) (part_of seat history)
part_whole seat i history = (
  part_of seat (drop i history),
  sym (filter-append (λ (x : Entry). x.seat == seat) (take i history) (drop i history)) ∙ ap (part_of seat) (take-append-drop i history),
)

pub part_earlier : (seat i j : ℕ) (history : List Entry) → i ≤ j → IsPrefix (part_of seat (take i history)) (part_of seat (take j history))
part_earlier seat i j history le =
    subst (λ l. IsPrefix (part_of seat l) (part_of seat (take j history))) (take-take i j history le) (part_whole seat i (take j history))

-- each part of a history that agrees may begin so
pub agrees_begins : (seat i : ℕ) (exchanges : List Exchange) (history : List Entry) → Agrees seat exchanges history
    → MayBegin seat exchanges (part_of seat (take i history))
agrees_begins seat i exchanges history a =
    record { over = a.over; of_last = a.of_last; begins = subst (IsPrefix (part_of seat (take i history))) a.part_is (part_whole seat i history) }

reply_of : (a : Result Reply Refusal) → is_ok a ≡ true → (reply : Reply) × (a ≡ Ok reply)
reply_of (Ok reply) ok = (reply, refl)
reply_of (Err e) ok = absurd cc

more_told : (seat at : ℕ) (xs : List LoggedExchange) (one : LoggedExchange) → at < length xs → is_ok (get_or xs at one).answer ≡ true
    → length (told seat (take at xs)) < length (told seat xs)
more_told seat at xs one less ok =
    let found = get_or xs at one in
    let reply = reply_of found.answer ok in
    let before = told seat (take at xs) in
    let after = told seat (drop (at + 1) xs) in
    omega (
      arith,
      ap length (told_at seat at xs found reply.0 less (get_or_default xs at found one less) reply.1),
      length-append before (entry_for seat found reply.0 ∷ after),
    )

-- while a reply is not found, the part is shorter than the list of all that got one
pub shorter : (seat n at : ℕ) (xs : List LoggedExchange) (one : LoggedExchange) (over : Option Entry) (part : List Entry)
    → part ≡ told seat (take n xs) ++ if_any over → IfSome over (λ (e : Entry). n ≡ length xs) → told seat (take at xs) ≡ told seat (take n xs)
    → at < length xs → is_ok (get_or xs at one).answer ≡ true → length part < length (told seat xs)
shorter seat n at xs one None part is whole none less ok =
    omega (arith, ap length is, length-append (told seat (take n xs)) [], ap length none, more_told seat at xs one less ok)
shorter seat n at xs one (Some e) part is whole none less ok =
    let same : told seat (take n xs) ≡ told seat xs = ap (told seat) (take_all n xs (omega (arith, whole))) in
    absurd (omega (arith, ap length none, ap length same, more_told seat at xs one less ok))

pub agrees_long : (seat : ℕ) (exchanges : List Exchange) (history : List Entry) → Agrees seat exchanges history
    → length (entries_of seat exchanges) ≤ length (part_of seat history)
agrees_long seat exchanges history a =
    omega (arith, ap length a.part_is, length-append (entries_of seat exchanges) (if_any a.over))

-- a number that is not the greatest one is less
pub still_less : (i n : ℕ) → i ≤ n → (i == n) ≡ false → i < n
still_less i n le other = grind (arith, nat_tests)

-- what holds below a number and at it holds up to it
up_by : (P : ℕ → Type 0) (n i : ℕ) (b : Bool) → (i == n) ≡ b → (i < n → P i) → P n → i < n + 1 → P i
up_by P n i true same before here less = let is : n ≡ i = grind (arith, nat_tests) in subst P is here
up_by P n i false other before here less = before (still_less i n (omega (arith, less)) other)

pub up_to : (P : ℕ → Type 0) (n i : ℕ) → (i < n → P i) → P n → i < n + 1 → P i
up_to P n i before here less = up_by P n i (i == n) refl before here less

-- an element of a list that has one
pub some_one : {A : Type 0} (xs : List A) (i : ℕ) → i < length xs → A
some_one [] i less = absurd (omega (arith, less))
some_one (x ∷ xs) i less = x

pub for_none : {T P : Type 0} (o : Option T) → P → IfNone o P
for_none None holds = holds
for_none (Some x) holds = tt
