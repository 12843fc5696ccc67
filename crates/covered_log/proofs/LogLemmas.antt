-- One more change of a log.
use Rattle.std.proofs.Common.{◌≡◌, ◌≤◌, ◌+◌, ℕ, List, [], ◌∷◌, ◌++◌, length, drop, refl, sym, subst, arith, length-append}
use Rattle.std.proofs.lemmas.List.{drop-append-le, drop-drop, drop_all, length-drop}
use Rattle.std.specs.Prelude.{Bool, true, false, nat_lt, Result, Ok, Err, IsOkAnd, if◌then◌else◌}
use Rattle.wf_value.specs.Gives.{Gives}
use Rattle.wf_value.specs.declared.refusal.Refusal.{Refusal}
use Rattle.covered_log.specs.KeptState.{KeptState, end_of, with_text, without_text}
use Rattle.definitions.specs.Limits.{most_kept}
use Rattle.covered_log.specs.Lines.{Begins, Change, Displaced, Entered, Forgets, LegStands, Stands, Missed, entries_in, entries_of, line_of, lines_after, lines_of}
use Rattle.covered_log.specs.LogState.{IsLog}

-- each change has a line
pub length-lines_after : (place : ℕ) (cs : List Change) → length (lines_after place cs) ≡ length cs
length-lines_after place [] = refl
length-lines_after place (c ∷ cs) = grind (arith, length-lines_after (place + length (entries_in c)) cs)

-- one more change has its line at the end, after all entries before it
pub lines_after-push : (place : ℕ) (cs : List Change) (c : Change)
    → lines_after place (cs ++ c ∷ []) ≡ lines_after place cs ++ line_of (place + length (entries_of cs)) c ∷ []
lines_after-push place [] c = grind arith
lines_after-push place (d ∷ cs) c =
    grind (arith, lines_after-push (place + length (entries_in d)) cs c, length-append (entries_in d) (entries_of cs))

-- one more change is at most one more entry
pub entries_of-push : (cs : List Change) (c : Change) → length (entries_of (cs ++ c ∷ [])) ≡ length (entries_of cs) + length (entries_in c)
entries_of-push [] (Entered at command reply) = refl
entries_of-push [] (Begins at t seen) = refl
entries_of-push [] (Stands at id run) = refl
entries_of-push [] (LegStands at news) = refl
entries_of-push [] (Displaced at runs r run) = refl
entries_of-push [] (Forgets at through) = refl
entries_of-push [] Missed = refl
entries_of-push (d ∷ cs) c =
    grind (arith, entries_of-push cs c, length-append (entries_in d) (entries_of cs), length-append (entries_in d) (entries_of (cs ++ c ∷ [])))

entries_in-few : (c : Change) → length (entries_in c) ≤ 1
entries_in-few (Entered at command reply) = omega arith
entries_in-few (Begins at t seen) = omega arith
entries_in-few (Stands at id run) = omega arith
entries_in-few (LegStands at news) = omega arith
entries_in-few (Displaced at runs r run) = omega arith
entries_in-few (Forgets at through) = omega arith
entries_in-few Missed = omega arith

-- there are no more entries than changes
pub entries_of-few : (cs : List Change) → length (entries_of cs) ≤ length cs
entries_of-few [] = omega arith
entries_of-few (c ∷ cs) = grind (arith, entries_in-few c, entries_of-few cs, length-append (entries_in c) (entries_of cs))

length-push : (cs : List Change) (c : Change) → length (cs ++ c ∷ []) ≡ length cs + 1
length-push cs c = length-append cs (c ∷ [])

lines_of-push : (cs : List Change) (c : Change) → lines_of (cs ++ c ∷ []) ≡ lines_of cs ++ line_of (length (entries_of cs)) c ∷ []
lines_of-push cs c =
    let same : 0 + length (entries_of cs) ≡ length (entries_of cs) = omega arith in
    let pushed : lines_of (cs ++ c ∷ []) ≡ lines_of cs ++ line_of (0 + length (entries_of cs)) c ∷ [] = lines_after-push 0 cs c in
    rw (← same) pushed

-- one more line behind those that are left
pub dropped_more : (first : ℕ) (cs : List Change) (c : Change) → first ≤ length cs
    → drop first (lines_of cs) ++ line_of (length (entries_of cs)) c ∷ [] ≡ drop first (lines_of (cs ++ c ∷ []))
dropped_more first cs c within =
    let count : length (lines_of cs) ≡ length cs = length-lines_after 0 cs in
    let enough : first ≤ length (lines_of cs) = rw count within in
    rw (lines_of-push cs c, drop-append-le first (lines_of cs) (line_of (length (entries_of cs)) c ∷ []) enough) refl

-- the lines that are kept with one more, whether there is room or the oldest goes
kept_more : (is_room : Bool) (first : ℕ) (lines : List (List ℕ)) (cs : List Change) (c : Change) → lines ≡ drop first (lines_of cs)
    → first + length lines ≡ length cs → (is_room ≡ false → 1 ≤ length lines)
    → (if is_room then lines else drop 1 lines) ++ line_of (length (entries_of cs)) c ∷ []
    ≡ drop (if is_room then first else first + 1) (lines_of (cs ++ c ∷ []))
kept_more true first lines cs c are ends some = rw are (dropped_more first cs c (omega (arith, ends)))
kept_more false first lines cs c are ends some =
    rw (are, drop-drop 1 first (lines_of cs)) (dropped_more (first + 1) cs c (omega (arith, ends, some refl)))

kept_ends : (is_room : Bool) (first : ℕ) (lines : List (List ℕ)) (text : List ℕ) (n : ℕ) → first + length lines ≡ n
    → (is_room ≡ false → 1 ≤ length lines)
    → (if is_room then first else first + 1) + length ((if is_room then lines else drop 1 lines) ++ text ∷ []) ≡ n + 1
kept_ends true first lines text n ends some = omega (arith, ends, length-append lines (text ∷ []))
kept_ends false first lines text n ends some =
    omega (arith, ends, some refl, length-append (drop 1 lines) (text ∷ []), length-drop 1 lines)

is_full : (k : KeptState) → nat_lt (length k.lines) most_kept ≡ false → 1 ≤ length k.lines
is_full k is = grind arith

-- a line that is kept
pub log_keeps : (kept : KeptState) (entries after : ℕ) (cs : List Change) (c : Change) → IsLog kept entries cs
    → after ≡ entries + length (entries_in c) → IsLog (with_text kept (line_of entries c)) after (cs ++ c ∷ [])
log_keeps kept entries after cs c log is = record {
  lines = rw log.counted (kept_more (nat_lt (length kept.lines) most_kept) kept.first kept.lines cs c log.lines log.ends (is_full kept));
  ends = rw (length-push cs c)
      (kept_ends (nat_lt (length kept.lines) most_kept) kept.first kept.lines (line_of entries c) (length cs) log.ends (is_full kept));
  counted = rw (is, log.counted, entries_of-push cs c) refl;
}

-- a line that is lost
pub log_loses : (kept : KeptState) (entries after : ℕ) (cs : List Change) (c : Change) → IsLog kept entries cs
    → after ≡ entries + length (entries_in c) → IsLog (without_text kept) after (cs ++ c ∷ [])
log_loses kept entries after cs c log is = record {
  lines =
      let past : length (lines_of (cs ++ c ∷ [])) ≤ end_of kept + 1 =
      omega (arith, length-lines_after 0 (cs ++ c ∷ []), length-push cs c, log.ends) in
      sym (drop_all (end_of kept + 1) (lines_of (cs ++ c ∷ [])) past);
  ends = omega (arith, length-push cs c, log.ends);
  counted = rw (is, log.counted, entries_of-push cs c) refl;
}

-- a fact of the value that a call gives, if it gives one
pub of_given : {X Y : Type 0} (view : X → Y) (P : Y → Type 0) (result : Result X Refusal) (y : Y) → Gives view result (Ok y)
    → IsOkAnd result (λ x. P (view x)) → P y
of_given {X} {Y} view P (Ok x) y gives holds = let same : view x ≡ y = cc in subst P same holds
of_given view P (Err e) y gives holds = absurd holds
