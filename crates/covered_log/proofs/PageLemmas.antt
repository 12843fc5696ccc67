-- The lines of a page.
use Rattle.std.proofs.Common.{◌≡◌, ◌≤◌, ◌+◌, ◌-◌, ℕ, List, [], ◌∷◌, ◌++◌, length, drop, take, min, refl, sym, arith, length-take}
use Rattle.std.proofs.lemmas.List.{drop-append-le, drop-drop, drop-take, flat_map_more, take_min, take_more}
use Rattle.std.proofs.lemmas.Option.{get_or_from_slice_get, slice_get_within}
use Rattle.std.specs.Prelude.{Some, slice_get, string_bytes}
use Rattle.std.specs.List.{flat_map}
use Rattle.covered_log.specs.KeptState.{KeptState}
use Rattle.definitions.specs.Limits.{page_lines}
use Rattle.covered_log.specs.Lines.{Change, lines_of}
use Rattle.covered_log.specs.LogState.{IsLog, IsPage}
use Rattle.covered_log.specs.declared.page.Page.{Page}

take_one : {A : Type 0} (xs : List A) (i : ℕ) (x : A) → slice_get xs i ≡ Some x → take (i + 1) xs ≡ take i xs ++ x ∷ []
take_one xs i x is = rw (take_more xs i x (slice_get_within xs i x is), get_or_from_slice_get xs i x x is) refl

-- one more line of those from an index on
pub one_more_line : (lines : List (List ℕ)) (from index : ℕ) (line : List ℕ) → from ≤ index → slice_get lines index ≡ Some line
    → flat_map (λ l. l) (drop from (take (index + 1) lines)) ≡ flat_map (λ l. l) (drop from (take index lines)) ++ line
one_more_line lines from index line order is =
    let within : from ≤ length (take index lines) = grind (arith, length-take index lines, slice_get_within lines index line is) in
    rw (take_one lines index line is, drop-append-le from (take index lines) (line ∷ []) within)
    (sym (flat_map_more (λ l. l) [] (drop from (take index lines)) line))

-- The lines of a page of those that are kept are the lines behind a cursor.
lines_of_page : (all : List (List ℕ)) (first from : ℕ)
    → drop from (take (min (from + page_lines) (length (drop first all))) (drop first all)) ≡ take page_lines (drop (first + from) all)
lines_of_page all first from =
    rw (take_min (from + page_lines) (drop first all), drop-take from page_lines (drop first all), drop-drop from first all) refl

page_next : (first from count total most : ℕ) → first + count ≡ total → from ≤ count
    → first + min (from + most) count ≡ first + from + min most (total - (first + from))
page_next first from count total most ends within = omega arith

pub page_is : (kept : KeptState) (entries process : ℕ) (cs : List Change) (from line end : ℕ) (page : Page) → IsLog kept entries cs
    → line ≡ kept.first + from → line ≤ length cs → end ≡ min (from + page_lines) (length kept.lines)
    → string_bytes page.text ≡ flat_map (λ l. l) (drop from (take end kept.lines)) → page.next ≡ kept.first + end
    → IsPage (record { process = process; changes = cs; first = kept.first }) line page
page_is kept entries process cs from line end page log at within ends text next = record {
  text = rw (text, ends, log.lines, lines_of_page (lines_of cs) kept.first from, at) refl;
  next = rw (next, ends, at)
      (page_next kept.first from (length kept.lines) (length cs) page_lines log.ends (omega (arith, at, within, log.ends)));
}
