-- What is told of a table, run by run, and how runs stand for those that have read it.
use Rattle.std.proofs.Common.{◌≡◌, ◌∙◌, ◌≤◌, ◌<◌, ◌+◌, ℕ, zero, suc, List, [], ◌∷◌, ◌++◌, length, take, drop, map, set, get_or, refl, sym, ap, arith, append_assoc, length-take}
use Rattle.std.proofs.lemmas.List.{drop-drop, drop_all, drop_at, drop_more, map-append, set_split, take-append-drop, take_all, take_at, take_more}
use Rattle.std.proofs.lemmas.Option.{get_or_from_slice_get, slice_get_cases, slice_get_within}
use Rattle.std.specs.Prelude.{Bool, false, true, None, Option, Some, slice_get, if◌then◌else◌}
use Rattle.std.specs.Option.{option_map_or}
use Rattle.table_model.proofs.StopKeeps.{length-placed}
use Rattle.table_model.specs.Runs.{RunState, placed}
use Rattle.table_model.specs.TableState.{TableState}
use Rattle.table_views.specs.LeaseNames.{NamesState}
use Rattle.table_views.specs.declared.told_legs.LegNews.{LegNews}
use Rattle.covered_log.specs.Lines.{Change, LegStands, with_all, with_more}
use Rattle.covered_log.specs.Standings.{Standing, is_over, is_told, of_legs, standing_of, told_of}

-- ---- changes

-- some changes, and then others
pub all_of_both : (cs xs ys : List Change) → with_all (with_all cs xs) ys ≡ with_all cs (xs ++ ys)
all_of_both cs [] ys = refl
all_of_both cs (x ∷ xs) ys = all_of_both (with_more cs x) xs ys

-- some legs, and then another
pub one_leg_more : (cs : List Change) (at : ℕ) (legs : List LegNews) (i : ℕ) (leg : LegNews) → i < length legs → leg ≡ get_or legs i leg
    → with_more (with_all cs (of_legs at (take i legs))) (LegStands at leg) ≡ with_all cs (of_legs at (take (i + 1) legs))
one_leg_more cs at legs i leg within is =
    let f : LegNews → Change = λ news. LegStands at news in
    let next : take (i + 1) legs ≡ take i legs ++ leg ∷ [] =
    take_more legs i leg within ∙ ap (λ (x : LegNews). take i legs ++ x ∷ []) (sym is) in
    all_of_both cs (of_legs at (take i legs)) (LegStands at leg ∷ [])
    ∙ ap (with_all cs) (sym (map-append f (take i legs) (leg ∷ [])) ∙ ap (map f) (sym next))

-- ---- the place of a run in a list

-- the elements from a place on, one by one
read_past : {X : Type 0} (p q : List X) (n : ℕ) → length p ≡ n → slice_get (p ++ q) n ≡ slice_get q 0
read_past [] q zero long = refl
read_past [] q (suc n) long = absurd (omega (arith, long))
read_past (x ∷ p) q zero long = absurd (omega (arith, long))
read_past (x ∷ p) q (suc n) long = read_past p q n (omega (arith, long))

read_drop : {X : Type 0} (xs : List X) (n : ℕ) → slice_get (drop n xs) 0 ≡ slice_get xs n
read_drop [] zero = refl
read_drop [] (suc n) = refl
read_drop (x ∷ xs) zero = refl
read_drop (x ∷ xs) (suc n) = read_drop xs n

-- what follows the first `r` is there as it was
pub read_next : {X : Type 0} (p known : List X) (r : ℕ) → length p ≡ r → slice_get (p ++ drop r known) r ≡ slice_get known r
read_next p known r long = read_past p (drop r known) r long ∙ read_drop known r

-- the first `r` with the next, and what follows
pub next_there : {X : Type 0} (p known : List X) (r : ℕ) (y : X) → length p ≡ r
    → take r (p ++ drop r known) ++ y ∷ drop (r + 1) (p ++ drop r known) ≡ (p ++ y ∷ []) ++ drop (r + 1) known
next_there {X} p known r y long =
    let q : List X = drop r known in
    let rest : drop (r + 1) (p ++ q) ≡ drop (r + 1) known =
    sym (drop-drop 1 r (p ++ q)) ∙ ap (drop 1) (drop_at p q r long) ∙ drop-drop 1 r known in
    ap (λ (zs : List X). zs ++ y ∷ drop (r + 1) (p ++ q)) (take_at p q r long) ∙ ap (λ (zs : List X). p ++ y ∷ zs) rest
    ∙ sym (append_assoc p (y ∷ []) (drop (r + 1) known))

-- a list in which the element at `r` stays
pub stays : {X : Type 0} (known : List X) (r : ℕ) (x : X) → slice_get known r ≡ Some x → known ≡ take r known ++ x ∷ drop (r + 1) known
stays {X} known r x is =
    sym (take-append-drop r known)
    ∙ ap (λ (zs : List X). take r known ++ zs)
    (drop_more known r x (slice_get_within known r x is)
    ∙ ap (λ (y : X). y ∷ drop (r + 1) known) (get_or_from_slice_get known r x x is))

-- another in its place
pub replaced : {X : Type 0} (known : List X) (r : ℕ) (y : X) → r < length known → set known r y ≡ take r known ++ y ∷ drop (r + 1) known
replaced {X} known r y within =
    let next : suc r ≡ r + 1 = omega arith in
    set_split known r y within ∙ ap (λ (n : ℕ). take r known ++ y ∷ drop n known) next

-- one more at the end
pub added : {X : Type 0} (known : List X) (r : ℕ) (y : X) → r ≤ length known → slice_get known r ≡ None
    → known ++ y ∷ [] ≡ take r known ++ y ∷ drop (r + 1) known
added {X} known r y within none =
    let past : length known ≤ r = grind (arith, none, slice_get_cases known r) in
    let further : length known ≤ r + 1 = omega (arith, past) in
    ap (λ (zs : List X). zs ++ y ∷ []) (sym (take_all r known past))
    ∙ ap (λ (zs : List X). take r known ++ y ∷ zs) (sym (drop_all (r + 1) known further))

-- how many have been visited
pub visited : {X Y : Type 0} (f : ℕ × X → Y) (xs : List X) (r : ℕ) → r ≤ length xs → length (map f (placed (take r xs))) ≡ r
visited f xs r within = grind (arith, length-placed f (take r xs) 0, length-take r xs)

-- ---- a run that was told as completed

over_there : (known : Option Standing) (run : RunState) → option_map_or (λ told. is_over told run) known false ≡ true
    → (s : Standing) × (known ≡ Some s) × (is_over s run ≡ true)
over_there None run is = absurd (cc is)
over_there (Some s) run is = (s, refl, is)

-- it stands as it was told
pub over_stays : (names : NamesState) (t : TableState) (known : List Standing) (r : ℕ) (run : RunState)
    → option_map_or (λ told. is_over told run) (slice_get known r) false ≡ true
    → known ≡ take r known ++ told_of names t (slice_get known r) r run ∷ drop (r + 1) known
over_stays names t known r run is =
    let over = over_there (slice_get known r) run is in
    let same : over.0 ≡ told_of names t (slice_get known r) r run =
    ap (λ (b : Bool). if b then over.0 else if is_told names t over.0 r run then over.0 else standing_of run)
    (sym over.2)
    ∙ ap (λ (o : Option Standing). told_of names t o r run) (sym over.1) in
    stays known r over.0 over.1 ∙ ap (λ (s : Standing). take r known ++ s ∷ drop (r + 1) known) same
