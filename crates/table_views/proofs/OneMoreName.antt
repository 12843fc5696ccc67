-- Counts by name, when a name is added at the end of a list.
use Rattle.std.proofs.Common.{◌≡◌, ◌∙◌, ℕ, zero, suc, ◌+◌, ◌-◌, ◌<◌, ◌≤◌, List, [], ◌∷◌, ◌++◌, length, map, take, get_or, set, refl, sym, ap, ap₂, subst, arith}
use Rattle.std.proofs.Common.{append-nil, append_assoc, length-append}
use Rattle.std.proofs.lemmas.List.{length-map, length-take, map-append, take-append-le, take_all}
use Rattle.std.proofs.lemmas.Bool.Decides.{nat_tests}
use Rattle.std.proofs.lemmas.List.Folds.{list_any_at}
use Rattle.std.proofs.lemmas.List.Sums.{sum_by-cons}
use Rattle.std.proofs.lemmas.List.Quantifiers.{position-Some}
use Rattle.std.proofs.lemmas.Option.{none-some}
use Rattle.std.proofs.lemmas.Slice.Eq.{bytes_eq-Decides}
use Rattle.std.specs.Prelude.{◌||◌, Bool, true, false, cond, not, min, nat_lt, None, Some}
use Rattle.std.specs.List.{AllByRecursion, IsDistinct, count_by, filter, list_any, position, position_or_len}
use Rattle.std.specs.Str.{bytes_eq}
use Rattle.table_views.specs.Distinct.{distinct}
use Rattle.table_views.specs.MetricLines.{capped}
use Rattle.table_views.specs.NamedCounts.{AreCounts, counted, is_named, most_named, named, others, times}
use Rattle.table_views.specs.declared.named_counts.NamedCount.{NamedCount}
use Rattle.table_views.specs.declared.named_counts.NamedCounts.{NamedCounts}
use Rattle.table_views.proofs.Counting.{counted as one_more_counted, not_counted}
use Rattle.table_views.proofs.Distinct.{distinct_more, one_unless}

abbrev pub counted_as : List ℕ → ℕ → NamedCount
counted_as name count = record { name = name; count = count }

-- ---- names as bytes

is_same : (x y : List ℕ) → bytes_eq x y ≡ true → x ≡ y
is_same x y passes = (bytes_eq-Decides x y).0 passes

same_as_itself : (x : List ℕ) → bytes_eq x x ≡ true
same_as_itself x = (bytes_eq-Decides x x).1 refl

either_way : (x y : List ℕ) → bytes_eq x y ≡ bytes_eq y x
either_way x y = by (bytes_eq x y) (bytes_eq y x) refl refl where
  by : (a b : Bool) → bytes_eq x y ≡ a → bytes_eq y x ≡ b → bytes_eq x y ≡ bytes_eq y x
  by true b passes _ = let same = is_same x y passes in ap (λ z. bytes_eq x z) (sym same) ∙ ap (λ z. bytes_eq z x) same
  by false true fails passes = let same = is_same y x passes in ap (λ z. bytes_eq x z) same ∙ ap (λ z. bytes_eq z x) (sym same)
  by false false fails fails2 = fails ∙ sym fails2

any_either_way : (w : List ℕ) (xs : List (List ℕ)) → list_any (λ x. bytes_eq x w) xs ≡ list_any (bytes_eq w) xs
any_either_way w [] = refl
any_either_way w (x ∷ xs) = ap (λ b. b || list_any (λ y. bytes_eq y w) xs) (either_way x w) ∙ ap (λ b. bytes_eq w x || b) (any_either_way w xs)

-- ---- a list, and the list without repetitions

kept_one : {X : Type 0} (p q : X → Bool) (x : X) (xs : List X) (b c : Bool) → q x ≡ b → p x ≡ c → (p x ≡ true → q x ≡ true)
    → list_any p (filter q xs) ≡ list_any p xs → list_any p (cond (q x) (x ∷ filter q xs) (filter q xs)) ≡ (p x || list_any p xs)
kept_one p q x xs true c is _ keeps same = ap (λ b. list_any p (cond b (x ∷ filter q xs) (filter q xs))) is ∙ ap (λ b. p x || b) same
kept_one p q x xs false true is passes keeps same = absurd (let clash : true ≡ false = sym (keeps passes) ∙ is in cc)
kept_one p q x xs false false is fails keeps same =
    ap (λ b. list_any p (cond b (x ∷ filter q xs) (filter q xs))) is ∙ same ∙ ap (λ b. b || list_any p xs) (sym fails)

kept : {X : Type 0} (p q : X → Bool) → ((x : X) → p x ≡ true → q x ≡ true) → (xs : List X) → list_any p (filter q xs) ≡ list_any p xs
kept p q keeps [] = refl
kept p q keeps (x ∷ xs) = kept_one p q x xs (q x) (p x) refl refl (keeps x) (kept p q keeps xs)

others_kept : (w x : List ℕ) → bytes_eq w x ≡ false → (y : List ℕ) → bytes_eq w y ≡ true → not (bytes_eq x y) ≡ true
others_kept w x fails y passes =
    ap (λ z. not (bytes_eq x z)) (sym (is_same w y passes)) ∙ ap not (either_way x w ∙ fails)

any_one : (w x : List ℕ) (ds xs : List (List ℕ)) (b : Bool) → bytes_eq w x ≡ b → list_any (bytes_eq w) ds ≡ list_any (bytes_eq w) xs
    → (bytes_eq w x || list_any (bytes_eq w) (filter (λ y. not (bytes_eq x y)) ds)) ≡ (bytes_eq w x || list_any (bytes_eq w) xs)
any_one w x ds xs true passes same =
    ap (λ b. b || list_any (bytes_eq w) (filter (λ y. not (bytes_eq x y)) ds)) passes ∙ sym (ap (λ b. b || list_any (bytes_eq w) xs) passes)
any_one w x ds xs false fails same =
    ap (λ b. bytes_eq w x || b) (kept (bytes_eq w) (λ y. not (bytes_eq x y)) (others_kept w x fails) ds ∙ same)

pub any_distinct : (w : List ℕ) (xs : List (List ℕ)) → list_any (bytes_eq w) (distinct bytes_eq xs) ≡ list_any (bytes_eq w) xs
any_distinct w [] = refl
any_distinct w (x ∷ xs) = any_one w x (distinct bytes_eq xs) xs (bytes_eq w x) refl (any_distinct w xs)

-- ---- no name comes twice among those without repetitions

filter_one : {X : Type 0} (P : X → Type 0) (x : X) (xs : List X) (b : Bool) → P x → AllByRecursion P xs → AllByRecursion P (cond b (x ∷ xs) xs)
filter_one P x xs true it all = (it, all)
filter_one P x xs false it all = all

filter_all : {X : Type 0} (P : X → Type 0) (q : X → Bool) (xs : List X) → AllByRecursion P xs → AllByRecursion P (filter q xs)
filter_all P q [] all = tt
filter_all P q (x ∷ xs) all = filter_one P x (filter q xs) (q x) all.0 (filter_all P q xs all.1)

left_one : (x y : List ℕ) (ys : List (List ℕ)) (b : Bool) → bytes_eq x y ≡ b → AllByRecursion (λ z. bytes_eq x z ≡ false) ys
    → AllByRecursion (λ z. bytes_eq x z ≡ false) (cond (not b) (y ∷ ys) ys)
left_one x y ys true is all = all
left_one x y ys false is all = (is, all)

none_left : (x : List ℕ) (xs : List (List ℕ)) → AllByRecursion (λ y. bytes_eq x y ≡ false) (filter (λ y. not (bytes_eq x y)) xs)
none_left x [] = tt
none_left x (y ∷ ys) = left_one x y (filter (λ z. not (bytes_eq x z)) ys) (bytes_eq x y) refl (none_left x ys)

apart_one : (x : List ℕ) (xs : List (List ℕ)) (b : Bool) → AllByRecursion (λ y. bytes_eq x y ≡ false) xs → IsDistinct bytes_eq xs
    → IsDistinct bytes_eq (cond b (x ∷ xs) xs)
unfolding IsDistinct
apart_one x xs true far others = (far, others)
apart_one x xs false far others = others

apart_filter : (q : List ℕ → Bool) (xs : List (List ℕ)) → IsDistinct bytes_eq xs → IsDistinct bytes_eq (filter q xs)
unfolding IsDistinct
apart_filter q [] far = tt
apart_filter q (x ∷ xs) far =
    apart_one x (filter q xs) (q x) (filter_all (λ y. bytes_eq x y ≡ false) q xs far.0) (apart_filter q xs far.1)

apart : (xs : List (List ℕ)) → IsDistinct bytes_eq (distinct bytes_eq xs)
unfolding IsDistinct
apart [] = tt
apart (x ∷ xs) = (none_left x (distinct bytes_eq xs), apart_filter (λ y. not (bytes_eq x y)) (distinct bytes_eq xs) (apart xs))

take_all_of : (P : List ℕ → Type 0) (n : ℕ) (xs : List (List ℕ)) → AllByRecursion P xs → AllByRecursion P (take n xs)
take_all_of P zero xs all = tt
take_all_of P (suc n) [] all = tt
take_all_of P (suc n) (x ∷ xs) all = (all.0, take_all_of P n xs all.1)

apart_take : (n : ℕ) (xs : List (List ℕ)) → IsDistinct bytes_eq xs → IsDistinct bytes_eq (take n xs)
unfolding IsDistinct
apart_take zero xs far = tt
apart_take (suc n) [] far = tt
apart_take (suc n) (x ∷ xs) far = (take_all_of (λ y. bytes_eq x y ≡ false) n xs far.0, apart_take n xs far.1)

-- ---- counts of names that are not the new one

none_in : {X : Type 0} (p : X → Bool) (xs : List X) → AllByRecursion (λ y. p y ≡ false) xs → list_any p xs ≡ false
none_in p [] all = refl
none_in p (x ∷ xs) all = ap (λ b. b || list_any p xs) all.0 ∙ none_in p xs all.1

or_true : (b : Bool) → (b || true) ≡ true
or_true true = refl
or_true false = refl

either_false : (a b : Bool) → (a || b) ≡ false → (a ≡ false) × (b ≡ false)
either_false true b fails = absurd cc
either_false false b fails = (refl, fails)

module _ (names : List (List ℕ)) (w : List ℕ) where
  abbrev pub more : List (List ℕ)
  more = names ++ w ∷ []

  not_this : (n : List ℕ) → bytes_eq w n ≡ false → counted more n ≡ counted names n
  not_this n fails = ap (counted_as n) (not_counted (bytes_eq n) names w (either_way n w ∙ fails))

  this : (n : List ℕ) → bytes_eq w n ≡ true → times more n ≡ capped (times names n + 1)
  this n passes = one_more_counted (bytes_eq n) names w (either_way n w ∙ passes)

  pub none_of_these : (ns : List (List ℕ)) → list_any (bytes_eq w) ns ≡ false → map (counted more) ns ≡ map (counted names) ns
  none_of_these [] fails = refl
  none_of_these (n ∷ ns) fails =
      let both = either_false (bytes_eq w n) (list_any (bytes_eq w) ns) fails in
      ap (λ c. c ∷ map (counted more) ns) (not_this n both.0) ∙ ap (λ cs. counted names n ∷ cs) (none_of_these ns both.1)

  -- ---- a name that has a count

  pub set_found : (ns : List (List ℕ)) (i : ℕ) (n : NamedCount) → IsDistinct bytes_eq ns → i < length ns
      → get_or (map (counted names) ns) i n ≡ n → bytes_eq w n.name ≡ true
      → ((k : ℕ) → k < i → bytes_eq w (get_or (map (counted names) ns) k n).name ≡ false)
      → set (map (counted names) ns) i (counted_as n.name (capped (n.count + 1))) ≡ map (counted more) ns
  unfolding IsDistinct
  set_found [] i n far lt is hit before = absurd (omega (arith, lt))
  set_found (x ∷ ns) zero n far lt is hit before =
      let hit_x : bytes_eq w x ≡ true = ap (λ (m : NamedCount). bytes_eq w m.name) is ∙ hit in
      let none = subst (λ (v : List ℕ). list_any (bytes_eq v) ns ≡ false) (sym (is_same w x hit_x)) (none_in (bytes_eq x) ns far.0) in
      ap (λ (m : NamedCount). counted_as m.name (capped (m.count + 1)) ∷ map (counted names) ns) (sym is)
      ∙ ap (λ (k : ℕ). counted_as x k ∷ map (counted names) ns) (sym (this x hit_x))
      ∙ ap (λ cs. counted more x ∷ cs) (sym (none_of_these ns none))
  set_found (x ∷ ns) (suc i) n far lt is hit before =
      ap (λ c. c ∷ set (map (counted names) ns) i (counted_as n.name (capped (n.count + 1)))) (sym (not_this x (before 0 (omega arith))))
      ∙ ap (λ cs. counted more x ∷ cs)
      (set_found ns i n far.1 (omega (arith, lt)) is hit (λ k less. before (suc k) (omega (arith, less))))

  -- ---- the names that have a count

  any_more : (x : List ℕ) (a c : Bool) → (a ≡ true → c ≡ true) → (b : Bool) → bytes_eq w x ≡ b → (bytes_eq w x || a) ≡ true
      → (bytes_eq w x || c) ≡ true
  any_more x a c then true is any = ap (λ b. b || c) is
  any_more x a c then false is any = ap (λ b. b || c) is ∙ then (sym (ap (λ b. b || a) is) ∙ any)

  any_taken : (n : ℕ) (xs : List (List ℕ)) → list_any (bytes_eq w) (take n xs) ≡ true → list_any (bytes_eq w) xs ≡ true
  any_taken zero xs any = absurd cc
  any_taken (suc n) [] any = absurd cc
  any_taken (suc n) (x ∷ xs) any =
      any_more x (list_any (bytes_eq w) (take n xs)) (list_any (bytes_eq w) xs) (any_taken n xs) (bytes_eq w x) refl any

  there_is : list_any (λ y. bytes_eq y w) names ≡ list_any (bytes_eq w) (distinct bytes_eq names)
  there_is = any_either_way w names ∙ sym (any_distinct w names)

  distinct_known : list_any (bytes_eq w) (distinct bytes_eq names) ≡ true → distinct bytes_eq more ≡ distinct bytes_eq names
  distinct_known passes =
      distinct_more bytes_eq names w
      ∙ ap (λ b. distinct bytes_eq names ++ one_unless b w) (there_is ∙ passes) ∙ append-nil (distinct bytes_eq names)

  distinct_new : list_any (bytes_eq w) (distinct bytes_eq names) ≡ false → distinct bytes_eq more ≡ distinct bytes_eq names ++ w ∷ []
  distinct_new fails = distinct_more bytes_eq names w ∙ ap (λ b. distinct bytes_eq names ++ one_unless b w) (there_is ∙ fails)

  pub same_named : is_named names w ≡ true → named more ≡ named names
  same_named passes = ap (take most_named) (distinct_known (any_taken most_named (distinct bytes_eq names) passes))

  pub full : most_named ≤ length (distinct bytes_eq names) → named more ≡ named names
  full many = by (list_any (bytes_eq w) (distinct bytes_eq names)) refl where
    by : (b : Bool) → list_any (bytes_eq w) (distinct bytes_eq names) ≡ b → named more ≡ named names
    by true passes = ap (take most_named) (distinct_known passes)
    by false fails = ap (take most_named) (distinct_new fails) ∙ take-append-le most_named (distinct bytes_eq names) (w ∷ []) many

  -- ---- those that have none

  pub others_as_before : named more ≡ named names → is_named names w ≡ true → others more ≡ others names
  others_as_before same passes =
      ap (λ ns. capped (count_by (λ name. not (list_any (bytes_eq name) ns)) more)) same
      ∙ not_counted (λ name. not (is_named names name)) names w (ap not passes)

  pub others_more : named more ≡ named names → is_named names w ≡ false → others more ≡ capped (others names + 1)
  others_more same fails =
      ap (λ ns. capped (count_by (λ name. not (list_any (bytes_eq name) ns)) more)) same
      ∙ one_more_counted (λ name. not (is_named names name)) names w (ap not fails)

  -- ---- a name that comes for the first time

  none_counted : (xs : List (List ℕ)) → list_any (bytes_eq w) xs ≡ false → count_by (bytes_eq w) xs ≡ 0
  none_counted [] fails = refl
  none_counted (x ∷ xs) fails =
      let both = either_false (bytes_eq w x) (list_any (bytes_eq w) xs) fails in
      sum_by-cons (λ y. cond (bytes_eq w y) 1 0) x xs
      ∙ ap₂ (λ (b : Bool) (k : ℕ). cond b 1 0 + k) both.0 (none_counted xs both.1)

  pub first_time : list_any (bytes_eq w) names ≡ false → times more w ≡ 1
  first_time fails = this w (same_as_itself w) ∙ ap (λ k. capped (capped k + 1)) (none_counted names fails)

-- ---- all names have a count of their own

there_after : (x : List ℕ) (xs ys : List (List ℕ)) → list_any (bytes_eq x) (ys ++ x ∷ xs) ≡ true
there_after x xs [] = ap (λ b. b || list_any (bytes_eq x) xs) (same_as_itself x)
there_after x xs (y ∷ ys) = ap (λ b. bytes_eq x y || b) (there_after x xs ys) ∙ or_true (bytes_eq x y)

none_strange : (before xs all : List (List ℕ)) → before ++ xs ≡ all → count_by (λ x. not (list_any (bytes_eq x) all)) xs ≡ 0
none_strange before [] all is = refl
none_strange before (x ∷ xs) all is =
    let known : list_any (bytes_eq x) all ≡ true = ap (list_any (bytes_eq x)) (sym is) ∙ there_after x xs before in
    sum_by-cons (λ y. cond (not (list_any (bytes_eq y) all)) 1 0) x xs
    ∙ ap₂ (λ (b : Bool) (k : ℕ). cond (not b) 1 0 + k) known (none_strange (before ++ x ∷ []) xs all (append_assoc before (x ∷ []) xs ∙ is))

same_count : {X : Type 0} (p q : X → Bool) → ((x : X) → p x ≡ q x) → (xs : List X) → count_by p xs ≡ count_by q xs
same_count p q same [] = refl
same_count p q same (x ∷ xs) =
    sum_by-cons (λ y. cond (p y) 1 0) x xs
    ∙ ap₂ (λ (b : Bool) (k : ℕ). cond b 1 0 + k) (same x) (same_count p q same xs) ∙ sym (sum_by-cons (λ y. cond (q y) 1 0) x xs)

pub all_named : (names : List (List ℕ)) → length (distinct bytes_eq names) ≤ most_named → others names ≡ 0
all_named names short =
    let all : named names ≡ distinct bytes_eq names = take_all most_named (distinct bytes_eq names) short in
    ap (λ (ns : List (List ℕ)). capped (count_by (λ name. not (list_any (bytes_eq name) ns)) names)) all
    ∙ ap capped (same_count (λ name. not (list_any (bytes_eq name) (distinct bytes_eq names))) (λ name. not (list_any (bytes_eq name) names))
    (λ x. ap not (any_distinct x names)) names)
    ∙ ap capped (none_strange [] names names refl)

-- ---- where a name is looked for

any_map : (names : List (List ℕ)) (w : List ℕ) (ns : List (List ℕ))
    → list_any (λ n. bytes_eq w n.name) (map (counted names) ns) ≡ list_any (bytes_eq w) ns
any_map names w [] = refl
any_map names w (n ∷ ns) = ap (λ b. bytes_eq w n || b) (any_map names w ns)

none_from : {X : Type 0} (p : X → Bool) (x : X) (xs : List X) (b : Bool) → p x ≡ b
    → length (x ∷ xs) ≤ cond (not (p x)) (1 + position_or_len p xs) 0 → (length xs ≤ position_or_len p xs → list_any p xs ≡ false)
    → (p x || list_any p xs) ≡ false
none_from p x xs true is le then =
    absurd (let here = ap (λ (b : Bool). cond (not b) (1 + position_or_len p xs) 0) is in omega (arith, le, here))
none_from p x xs false is le then =
    let here = ap (λ (b : Bool). cond (not b) (1 + position_or_len p xs) 0) is in
    ap (λ b. b || list_any p xs) is ∙ then (omega (arith, le, here))

none_before : {X : Type 0} (p : X → Bool) (xs : List X) → length xs ≤ position_or_len p xs → list_any p xs ≡ false
none_before p [] le = refl
none_before p (x ∷ xs) le = none_from p x xs (p x) refl le (none_before p xs)

not_below : (a b : ℕ) → nat_lt a b ≡ false → b ≤ a
not_below a b fails = grind (arith, nat_tests)

nowhere : {X : Type 0} (p : X → Bool) (xs : List X) → position p xs ≡ None → list_any p xs ≡ false
nowhere p xs none = by (nat_lt (position_or_len p xs) (length xs)) refl where
  by : (b : Bool) → nat_lt (position_or_len p xs) (length xs) ≡ b → list_any p xs ≡ false
  by true is = absurd (none-some (position_or_len p xs) (sym none ∙ ap (λ (b : Bool). cond b (Some (position_or_len p xs)) None) is))
  by false is = none_before p xs (not_below _ _ is)

-- ---- the counts with one more name

module _ (names : List (List ℕ)) (w : List ℕ) (old new : NamedCounts) (are : AreCounts names old) where
  abbrev pub is_it : NamedCount → Bool
  is_it n = bytes_eq w n.name

  pub name_found : (i : ℕ) (n : NamedCount) → position is_it old.named.items ≡ Some i → get_or old.named.items i n ≡ n
      → new.named.items ≡ set old.named.items i (counted_as n.name (capped (n.count + 1))) → new.other ≡ old.other → AreCounts (more names w) new
  name_found i n found at is same =
      let ns = named names in
      let facts = position-Some is_it (map (counted names) ns) i n (subst (λ (xs : List NamedCount). position is_it xs ≡ Some i) are.each found) in
      let here = subst (λ (xs : List NamedCount). get_or xs i n ≡ n) are.each at in
      let lt : i < length ns = omega (arith, facts.0, length-map ns (counted names)) in
      let known : is_named names w ≡ true = sym (any_map names w ns) ∙ list_any_at is_it (map (counted names) ns) i n facts.0 facts.1 in
      let hit : is_it n ≡ true = ap is_it (sym here) ∙ facts.1 in
      record {
        each =
            is ∙ ap (λ (xs : List NamedCount). set xs i (counted_as n.name (capped (n.count + 1)))) are.each
            ∙ set_found names w ns i n (apart_take most_named (distinct bytes_eq names) (apart names)) lt here hit facts.2
            ∙ ap (map (counted (more names w))) (sym (same_named names w known));
        other = same ∙ are.other ∙ sym (others_as_before names w (same_named names w known) known);
      }

  missing : position is_it old.named.items ≡ None → is_named names w ≡ false
  missing none =
      sym (any_map names w (named names)) ∙ nowhere is_it (map (counted names) (named names)) (subst (λ (xs : List NamedCount). position is_it xs ≡ None) are.each none)

  as_many : length old.named.items ≡ min most_named (length (distinct bytes_eq names))
  as_many = ap length are.each ∙ length-map (named names) (counted names) ∙ length-take most_named (distinct bytes_eq names)

  pub name_unnamed : position is_it old.named.items ≡ None → most_named ≤ length old.named.items
      → new.named.items ≡ old.named.items → new.other ≡ capped (old.other + 1) → AreCounts (more names w) new
  name_unnamed none many is one =
      let fails = missing none in
      let same = full names w (omega (arith, many, as_many)) in
      record {
        each =
            is ∙ are.each ∙ sym (none_of_these names w (named names) fails) ∙ ap (map (counted (more names w))) (sym same);
        other = one ∙ ap (λ k. capped (k + 1)) are.other ∙ sym (others_more names w same fails);
      }

  pub name_first : position is_it old.named.items ≡ None → length old.named.items < most_named
      → new.named.items ≡ old.named.items ++ counted_as w 1 ∷ [] → new.other ≡ old.other → AreCounts (more names w) new
  name_first none few is same =
      let ds = distinct bytes_eq names in
      let short : length ds < most_named = omega (arith, few, as_many) in
      let all : named names ≡ ds = take_all most_named ds (omega (arith, short)) in
      let fails : list_any (bytes_eq w) ds ≡ false = ap (list_any (bytes_eq w)) (sym all) ∙ missing none in
      let longer = ap length (distinct_new names w fails) ∙ length-append ds (w ∷ []) in
      let now : named (more names w) ≡ ds ++ w ∷ [] =
      take_all most_named (distinct bytes_eq (more names w)) (omega (arith, short, longer)) ∙ distinct_new names w fails in
      record {
        each =
            is ∙ ap (λ (xs : List NamedCount). xs ++ counted_as w 1 ∷ []) (are.each ∙ ap (map (counted names)) all ∙ sym (none_of_these names w ds fails))
            ∙ ap (λ (k : ℕ). map (counted (more names w)) ds ++ counted_as w k ∷ []) (sym (first_time names w (sym (any_distinct w names) ∙ fails)))
            ∙ sym (map-append (counted (more names w)) ds (w ∷ [])) ∙ ap (map (counted (more names w))) (sym now);
        other =
            same ∙ are.other ∙ all_named names (omega (arith, short))
            ∙ sym (all_named (more names w) (omega (arith, short, longer)));
      }
