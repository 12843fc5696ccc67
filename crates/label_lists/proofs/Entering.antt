-- What entering a list adds, and what it keeps.
use Rattle.std.proofs.Common.{◌≡◌, ℕ, zero, suc, ◌∷◌, ◌++◌, ◌||◌, [], length, refl, List, Bool, true, false, if◌then◌else◌, Some, is_some, slice_get, sym, ap, subst, ◌∙◌, append_assoc}
use Rattle.std.specs.List.{IsDistinct, list_any}
use Rattle.std.specs.Option.{option_map_or}
use Rattle.std.proofs.lemmas.Cmp.{lists_equiv, nat_list_eq_equiv}
use Rattle.std.proofs.lemmas.Map.Keys.{IsDistinct-head, IsDistinct-tail}
use Rattle.indexmap.specs.IndexSet.{insert_key}
use Rattle.run_marks.specs.Marked.{is_marked}
use Rattle.label_lists.specs.Requesting.{RequestingState, requests_in, may_offer_in, index_of}
use Rattle.label_lists.specs.inner.Known.{KnownState, OnlyEnters}
use Rattle.label_lists.specs.Known.{requests_at, offers_at}
use Rattle.label_lists.specs.inner.Labels.{labels_eq}
use Rattle.label_lists.proofs.SameLabels.{each_passes}
use Rattle.label_lists.proofs.Writes.{appended}

still_seen : {X : Type 0} (more xs : List X) (n : ℕ) (x : X) → slice_get xs n ≡ Some x → slice_get (xs ++ more) n ≡ Some x
still_seen more [] n x at = cc
still_seen more (y ∷ ys) zero x at = at
still_seen more (y ∷ ys) (suc n) x at = still_seen more ys n x at

pub list_stays : (lists : List (List (List ℕ))) (labels other : List (List ℕ)) (n : ℕ) → slice_get lists n ≡ Some other
    → slice_get (insert_key labels_eq lists labels) n ≡ Some other
list_stays lists labels other n at = by (list_any (labels_eq labels) lists)
  where
    by : (b : Bool) → slice_get (if b then lists else lists ++ labels ∷ []) n ≡ Some other
    by true = at
    by false = still_seen (labels ∷ []) lists n other at

-- an appended list is found at its index
pub own_place : (lists rest : List (List (List ℕ))) (labels : List (List ℕ)) → slice_get (lists ++ labels ∷ rest) (length lists) ≡ Some labels
own_place [] rest labels = refl
own_place (l ∷ ls) rest labels = own_place ls rest labels

absent : (lists rest : List (List (List ℕ))) (labels : List (List ℕ)) → IsDistinct labels_eq (lists ++ labels ∷ rest) → list_any (labels_eq labels) lists ≡ false
absent [] rest labels distinct = refl
absent (l ∷ ls) rest labels distinct =
    let not = each_passes (λ y. labels_eq l y ≡ false) (ls ++ labels ∷ rest) (length ls) labels (IsDistinct-head labels_eq l (ls ++ labels ∷ rest) distinct) (own_place ls rest labels) in
    ap (λ b. b || list_any (labels_eq labels) ls) ((lists_equiv nat_list_eq_equiv).symm labels l ∙ not)
    ∙ absent ls rest labels (IsDistinct-tail labels_eq l (ls ++ labels ∷ rest) distinct)

pub one_more_copied : (old : List (List (List ℕ))) (labels : List (List ℕ)) (rest whole : List (List (List ℕ))) → IsDistinct labels_eq whole
    → old ++ labels ∷ rest ≡ whole → insert_key labels_eq old labels ++ rest ≡ whole
one_more_copied old labels rest whole distinct is =
    let apart : list_any (labels_eq labels) old ≡ false = absent old rest labels (subst (IsDistinct labels_eq) (sym is) distinct) in
    ap (λ b. (if b then old else old ++ labels ∷ []) ++ rest) apart ∙ append_assoc old (labels ∷ []) rest ∙ is

-- ---- a new list without runs

pub offers_appended : (requesting : List RequestingState) (new : RequestingState) → new.runs ≡ [] → (n r : ℕ) → offers_at (requesting ++ new ∷ []) n r ≡ offers_at requesting n r
offers_appended requesting new none n r = appended (λ a. may_offer_in a r) new requesting n (ap (λ runs. option_map_or (is_marked new.marks) (index_of runs r) false) none)

pub requested_appended : (requesting : List RequestingState) (new : RequestingState) → new.runs ≡ [] → (n r : ℕ) → requests_at (requesting ++ new ∷ []) n r ≡ requests_at requesting n r
requested_appended requesting new none n r = appended (λ a. requests_in a r) new requesting n (ap (λ runs. is_some (index_of runs r)) none)

-- ---- two entries in sequence

pub enters_twice : (old between new : KnownState) → OnlyEnters old between → OnlyEnters between new → OnlyEnters old new
enters_twice old between new first second = record {
  lists = (λ n labels at. second.lists n labels (first.lists n labels at));
  requests = (λ n r is. second.requests n r (first.requests n r is));
  offers = (λ n r. second.offers n r ∙ first.offers n r);
}
