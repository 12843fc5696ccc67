-- Each step on the book keeps its rule.
use Rattle.std.proofs.Common.{◌≡◌, ℕ, zero, suc, ◌<◌, ◌==◌, true, false, List, [], ◌∷◌, ◌++◌, length, refl, ap, sym, subst, arith, inl, length-append, None}
use Rattle.std.specs.Prelude.{slice_set}
use Rattle.std.proofs.lemmas.List.{append-nil, get_or-set_same, length-set}
use prog.Atomic.{either}
use Rattle.logbook.specs.Pages.{Cell, Nib, cell, adds, gives, keeps, may_write, no_nib, step, Moves}
use Rattle.act_desk.specs.declared.event.Note.{Note}
use Rattle.act_desk.specs.inner.Lines.{IsKept, AreUsed, IsUnused, Adds, Looks, Reserves}

abbrev pub shown : List Note → List Note
shown log = []

abbrev pub moved : Note → List Note → List Note → ℕ → Type 0
moved ask xs ys n = Unit {0}

home_set : (cs : List Cell) (j v k : ℕ) → (cell cs k).1 ≡ true → (cell (slice_set cs j (v, true)) k).1 ≡ true
home_set [] j v k h = h
home_set (c ∷ cs) zero v zero h = refl
home_set (c ∷ cs) zero v (suc k) h = h
home_set (c ∷ cs) (suc j) v zero h = h
home_set (c ∷ cs) (suc j) v (suc k) h = home_set cs j v k h

home_append : (cs : List Cell) (c : Cell) (k : ℕ) → (cell cs k).1 ≡ true → (cell (cs ++ c ∷ []) k).1 ≡ true
home_append [] c k h = absurd (cc h)
home_append (d ∷ cs) c zero h = h
home_append (d ∷ cs) c (suc k) h = home_append cs c k h

set_home : (cs : List Cell) (k v : ℕ) → k < length cs → (cell (slice_set cs k (v, true)) k).1 ≡ true
set_home cs k v less = ap (λ (c : Cell). c.1) (get_or-set_same cs k (v, true) (0, false) less)

fresh : (cs : List Cell) → (cell cs (length cs)).1 ≡ false
fresh [] = refl
fresh (c ∷ cs) = fresh cs

used_unused : (cs : List Cell) (log : List Note) (key : ℕ) → AreUsed cs log → (cell cs key).1 ≡ false → IsUnused key log
used_unused cs [] key h away = tt
used_unused cs (n ∷ log) key h away = (λ e. absurd (cc (ap (λ k. (cell cs k).1) e, h.0, away)), used_unused cs log key h.1 away)

used_later : (cs ds : List Cell) (log : List Note) → ((k : ℕ) → (cell cs k).1 ≡ true → (cell ds k).1 ≡ true) → AreUsed cs log → AreUsed ds log
used_later cs ds [] f h = tt
used_later cs ds (n ∷ log) f h = (f n.from h.0, used_later cs ds log f h.1)

used_more : (cs : List Cell) (log : List Note) (n : Note) → AreUsed cs log → (cell cs n.from).1 ≡ true → AreUsed cs (log ++ n ∷ [])
used_more cs [] n h last = (last, tt)
used_more cs (m ∷ log) n h last = (h.0, used_more cs log n h.1 last)

kept_set : (cs : List Cell) (log : List Note) (j v : ℕ) → IsKept cs log → IsKept (slice_set cs j (v, true)) log
kept_set cs log j v kept =
    record {
      some = subst (λ n. 0 < n) (sym (length-set cs j (v, true))) kept.some;
      head = home_set cs j v 0 kept.head;
      used = used_later cs (slice_set cs j (v, true)) log (home_set cs j v) kept.used;
    }

kept_append : (cs : List Cell) (log : List Note) → IsKept cs log → IsKept (cs ++ (0, false) ∷ []) log
kept_append cs log kept =
    record {
      some = omega (arith, length-append cs ((0, false) ∷ []));
      head = home_append cs (0, false) 0 kept.head;
      used = used_later cs (cs ++ (0, false) ∷ []) log (home_append cs (0, false)) kept.used;
    }

kept_more : (cs : List Cell) (log : List Note) (n : Note) → IsKept cs log → (cell cs n.from).1 ≡ true → IsKept cs (log ++ n ∷ [])
kept_more cs log n kept last = record { some = kept.some; head = kept.head; used = used_more cs log n kept.used last }

pub reserve_moves : (v : List Note) (ask : Note)
    → Moves IsKept shown (moved ask) 0 (v, (no_nib, None)) (λ n. either (n == 0) 0 n) (Reserves (step 0 0 0 ask) (v, (no_nib, None)))
reserve_moves v ask cs log kept pre away =
    let all : log ++ [] ≡ log = append-nil log in
    let found : ℕ = either ((cell cs 0).0 == 0) 0 (cell cs 0).0 in (
      kept.some,
      kept.head,
      (
        adds,
        [],
        None,
        tt,
        subst (IsKept (slice_set cs 0 (found, true) ++ (0, false) ∷ [])) (sym all)
            (kept_append (slice_set cs 0 (found, true)) log (kept_set cs log 0 found kept)),
        inl (refl, refl),
        (refl, subst (IsUnused (length cs)) (sym all) (used_unused cs log (length cs) kept.used (fresh cs))),
      ),
    )

pub look_moves : (v : List Note) (ask : Note) (p : Nib) → p.right ≡ may_write
    → Moves IsKept shown (moved ask) 0 (v, (p, None)) (λ n. either (n == 0) 0 n) (Looks (step 0 0 0 ask) (v, (p, None)))
look_moves v ask p right cs log kept pre away =
    let all : log ++ [] ≡ log = append-nil log in
    let found : ℕ = either ((cell cs 0).0 == 0) 0 (cell cs 0).0 in (
      kept.some,
      kept.head,
      (
        keeps,
        [],
        None,
        tt,
        subst (IsKept (slice_set cs 0 (found, true))) (sym all) (kept_set cs log 0 found kept),
        inl (refl, refl),
        (refl, subst (IsUnused p.key) (sym all) (used_unused cs log p.key kept.used (away right).1)),
      ),
    )

pub add_moves : (v : List Note) (ask : Note) (p : Nib) → p.right ≡ may_write
    → Moves IsKept shown (moved ask) 0 (v, (p, None)) (λ n. either (n == 0) 0 n) (Adds (step 0 0 0 ask) (v, (p, None)))
add_moves v ask p right cs log kept pre away =
    let found : ℕ = either ((cell cs 0).0 == 0) 0 (cell cs 0).0 in
    let head : List Cell = slice_set cs 0 (found, true) in
    let n : Note = record { from = p.key; to = ask.to; event = ask.event } in
    let long : p.key < length head = subst (λ m. p.key < m) (sym (length-set cs 0 (found, true))) (away right).0 in (
      kept.some,
      kept.head,
      (
        gives,
        n ∷ [],
        None,
        right,
        kept_more (slice_set head p.key (p.value, true)) log n (kept_set head log p.key p.value (kept_set cs log 0 found kept)) (set_home head p.key p.value long),
        inl (refl, refl),
        record { log = log; seen = pre; unused = used_unused cs log p.key kept.used (away right).1; noted = refl },
      ),
    )
