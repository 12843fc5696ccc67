-- The parameters of a target, one after the other, and the text of a value.
use Rattle.std.proofs.Common.{◌≡◌, ◌∙◌, ℕ, suc, ◌<◌, ◌==◌, List, [], ◌∷◌, ◌++◌, length, take, drop, true, false, Bool, refl, sym, ap, get_or}
use Rattle.std.specs.Prelude.{Some, None, Result, Ok, Err}
use Rattle.std.specs.List.{slice_split}
use Rattle.std.specs.Str.{is_utf8, IsUtf8}
use Rattle.std.proofs.Math.Seq.{split_at}
use Rattle.std.proofs.lemmas.Str.{IsUtf8-from_is_utf8, is_utf8-from_IsUtf8}
use Rattle.definitions.specs.SmallText.{found_if}
use Rattle.view_sessions.specs.Queries.{after_part, all_added, no_query, part_added, parts_of}
use Rattle.view_sessions.specs.declared.fault.ViewFault.{ViewFault}
use Rattle.view_sessions.specs.declared.path.Path.{Path}
use Rattle.view_sessions.specs.declared.query.Query.{Query}

fault_stays : (at : Path) (fault : ViewFault) (parts : List (List ℕ)) → all_added at (Err fault) parts ≡ Err fault
fault_stays at fault [] = refl
fault_stays at fault (part ∷ parts) = fault_stays at fault parts

added-append : (at : Path) (so_far : Result Query ViewFault) (first rest : List (List ℕ))
    → all_added at so_far (first ++ rest) ≡ all_added at (all_added at so_far first) rest
added-append at so_far [] rest = refl
added-append at so_far (part ∷ parts) rest = added-append at (after_part at so_far part) parts rest

module _ (at : Path) (first : List (List ℕ)) (q : Query) (so_far : all_added at (Ok no_query) first ≡ Ok q) (part : List ℕ) where
  -- one part more
  pub added_more : (added : Result Query ViewFault) → part_added at q part ≡ added → all_added at (Ok no_query) (first ++ part ∷ []) ≡ added
  added_more added is =
      added-append at (Ok no_query) first (part ∷ []) ∙ ap (λ (s : Result Query ViewFault). after_part at s part) so_far ∙ is

  -- the first part with a fault
  pub first_fault : (parts : List (List ℕ)) (n : ℕ) (fault : ViewFault) → first ≡ take n parts → (n < length parts) × (part ≡ get_or parts n part)
      → part_added at q part ≡ Err fault → all_added at (Ok no_query) parts ≡ Err fault
  first_fault parts n fault before (within, here) is =
      let rest = drop (suc n) parts in
      let parted : parts ≡ first ++ part ∷ rest =
      split_at parts n part within ∙ ap (λ (l : List (List ℕ)). l ++ get_or parts n part ∷ rest) (sym before)
      ∙ ap (λ (p : List ℕ). first ++ p ∷ rest) (sym here) in
      ap (all_added at (Ok no_query)) parted ∙ added-append at (Ok no_query) first (part ∷ rest)
      ∙ ap (λ (s : Result Query ViewFault). all_added at (after_part at s part) rest) so_far
      ∙ ap (λ (s : Result Query ViewFault). all_added at s rest) is ∙ fault_stays at fault rest

-- the parts of a text that is not empty
pub parts_split : (text : List ℕ) (empty : Bool) → empty ≡ (length text == 0) → empty ≡ false → parts_of text ≡ slice_split (λ c. c == 38) text
parts_split [] empty is some = cc
parts_split (b ∷ bytes) empty is some = refl

-- ---- the text of a value

pub read_text : (bytes : List ℕ) → IsUtf8 bytes → found_if (is_utf8 bytes) bytes ≡ Some bytes
read_text bytes valid = ap (λ (b : Bool). found_if b bytes) (is_utf8-from_IsUtf8 bytes valid)

pub read_no_text : (bytes : List ℕ) → (IsUtf8 bytes → false ≡ true) → found_if (is_utf8 bytes) bytes ≡ None
read_no_text bytes none = by (is_utf8 bytes) refl
  where
    by : (b : Bool) → is_utf8 bytes ≡ b → found_if b bytes ≡ None
    by true is = let no : false ≡ true = none (IsUtf8-from_is_utf8 bytes is) in cc
    by false is = refl
