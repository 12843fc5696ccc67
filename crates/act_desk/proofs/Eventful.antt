-- A history with more events.
use Rattle.std.proofs.Common.{◌≡◌, ◌+◌, ◌≤◌, List, [], ◌∷◌, ◌++◌, length, append_assoc, length-append, refl, ap, sym, ◌∙◌, arith}
use Rattle.std.proofs.lemmas.List.{append-nil}
use Rattle.std.proofs.lemmas.List.Sums.{sum_by-append}
use mathlib.Core.List.{IsPrefix}
use Rattle.act_desk.specs.Events.{covered_by, covered_in, entries_in, entry_of_event, told_by, told_in}
use Rattle.act_desk.specs.declared.event.Event.{Event}
use Rattle.act_desk.specs.declared.event.Event.TheVariants.{Covered, Entered, Told}

pub entries-append : (xs ys : List Event) → entries_in (xs ++ ys) ≡ entries_in xs ++ entries_in ys
entries-append [] ys = refl
entries-append (x ∷ xs) ys =
    ap (λ l. entry_of_event x ++ l) (entries-append xs ys) ∙ sym (append_assoc (entry_of_event x) (entries_in xs) (entries_in ys))

pub covered-append : (xs ys : List Event) → covered_in (xs ++ ys) ≡ covered_in xs + covered_in ys
covered-append xs ys = sum_by-append covered_by xs ys

pub told-append : (xs ys : List Event) → told_in (xs ++ ys) ≡ told_in xs + told_in ys
told-append xs ys = sum_by-append told_by xs ys

pub entries_more : (xs : List Event) (x : Event) → entries_in (xs ++ x ∷ []) ≡ entries_in xs ++ entry_of_event x
entries_more xs x = entries-append xs (x ∷ []) ∙ ap (λ l. entries_in xs ++ l) (append-nil (entry_of_event x))

pub covered_more : (xs : List Event) (x : Event) → covered_in (xs ++ x ∷ []) ≡ covered_in xs + covered_by x
covered_more xs x = omega (arith, covered-append xs (x ∷ []))

pub told_more : (xs : List Event) (x : Event) → told_in (xs ++ x ∷ []) ≡ told_in xs + told_by x
told_more xs x = omega (arith, told-append xs (x ∷ []))

pub entries_prefix : (xs ys : List Event) → IsPrefix xs ys → IsPrefix (entries_in xs) (entries_in ys)
entries_prefix xs ys p = (entries_in p.0, sym (entries-append xs p.0) ∙ ap entries_in p.1)

pub covered_prefix : (xs ys : List Event) → IsPrefix xs ys → covered_in xs ≤ covered_in ys
covered_prefix xs ys p = omega (arith, sym (covered-append xs p.0), ap covered_in p.1)

pub told_prefix : (xs ys : List Event) → IsPrefix xs ys → told_in xs ≤ told_in ys
told_prefix xs ys p = omega (arith, sym (told-append xs p.0), ap told_in p.1)

pub one_at_most : (x : Event) → length (entry_of_event x) ≤ 1
one_at_most (Entered entry) = omega arith
one_at_most (Covered more) = omega arith
one_at_most Told = omega arith

pub entries_few : (xs : List Event) → length (entries_in xs) ≤ length xs
entries_few [] = omega arith
entries_few (x ∷ xs) =
    omega (arith, length-append (entry_of_event x) (entries_in xs), one_at_most x, entries_few xs)
