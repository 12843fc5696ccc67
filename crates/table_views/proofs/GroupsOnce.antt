-- The lines of groups, each once, claim by claim.
use Rattle.std.proofs.Common.{◌≡◌, ◌∙◌, ℕ, zero, suc, ◌+◌, ◌<◌, ◌≤◌, List, [], ◌∷◌, ◌++◌, length, map, take, get_or, refl, sym, ap, arith, append-nil}
use Rattle.std.specs.Prelude.{Bool, true, false, ◌||◌, filter_map, Option, Some, None, option_map, slice_get, if◌then◌else◌}
use Rattle.std.specs.List.{cons_option, flat_map, list_any}
use Rattle.std.specs.Option.{option_map_or}
use Rattle.std.proofs.lemmas.Grind.{flat_map-append}
use Rattle.group_name.specs.Group.{Group, same_group}
use Rattle.table_model.specs.Groups.{all_holders}
use Rattle.table_model.specs.Runs.{RunState}
use Rattle.table_views.specs.inner.Claims.{claim_of, claims_of, line_once, said}
use Rattle.table_views.specs.GroupLines.{distinct_groups, group_in_use}
use Rattle.table_views.specs.declared.claim.GroupClaim.{GroupClaim}
use Rattle.table_views.proofs.Distinct.{distinct_more, one_unless}
use Rattle.table_model.specs.declared.holder.Holder.{Holder}

-- ---- the group of the claim at an index

group_at_place : (claims : List GroupClaim) (i : ℕ) (c : GroupClaim) → i < length claims → get_or claims i c ≡ c
    → slice_get (map (λ d. d.group) claims) i ≡ Some c.group
group_at_place [] i c lt is = absurd (omega (arith, lt))
group_at_place (d ∷ claims) zero c lt is = ap (λ x. Some x.group) is
group_at_place (d ∷ claims) (suc i) c lt is = group_at_place claims i c (omega (arith, lt)) is

any_group : (g : Group) (i : ℕ) (claims : List GroupClaim)
    → list_any (λ h. same_group h g) (take i (map (λ d. d.group) claims)) ≡ list_any (λ d. same_group d.group g) (take i claims)
any_group g zero claims = refl
any_group g (suc i) [] = refl
any_group g (suc i) (d ∷ claims) = ap (λ b. same_group d.group g || b) (any_group g i claims)

pub once_at : (line : Group → List ℕ) (claims : List GroupClaim) (i : ℕ) (c : GroupClaim) (there : Bool) → i < length claims
    → get_or claims i c ≡ c → there ≡ list_any (λ d. same_group d.group c.group) (take i claims)
    → line_once line (map (λ d. d.group) claims) i ≡ (if there then [] else line c.group)
once_at line claims i c there lt is told =
    ap (λ o. option_map_or (λ g. if list_any (λ h. same_group h g) (take i (map (λ d. d.group) claims)) then [] else line g) o [])
    (group_at_place claims i c lt is)
    ∙ ap (λ b. if b then [] else line c.group) (any_group c.group i claims ∙ sym told)

-- ---- adding one claim

one_or_none : (line : Group → List ℕ) (g : Group) (b : Bool) → flat_map line (one_unless b g) ≡ (if b then [] else line g)
one_or_none line g true = refl
one_or_none line g false = append-nil (line g)

more_groups : (gs : List Group) (i : ℕ) (g : Group) → slice_get gs i ≡ Some g → take (suc i) gs ≡ take i gs ++ g ∷ []
more_groups [] zero g at = absurd cc
more_groups [] (suc i) g at = absurd cc
more_groups (x ∷ gs) zero g at = ap (λ y. y ∷ []) (let same : x ≡ g = cc in same)
more_groups (x ∷ gs) (suc i) g at = ap (λ ys. x ∷ ys) (more_groups gs i g at)

past_groups : (gs : List Group) (i : ℕ) → slice_get gs i ≡ None → take (suc i) gs ≡ take i gs
past_groups [] zero none = refl
past_groups [] (suc i) none = refl
past_groups (x ∷ gs) zero none = absurd cc
past_groups (x ∷ gs) (suc i) none = ap (λ ys. x ∷ ys) (past_groups gs i none)

pub lines_more : (line : Group → List ℕ) (gs : List Group) (i : ℕ)
    → flat_map line (distinct_groups (take (i + 1) gs)) ≡ flat_map line (distinct_groups (take i gs)) ++ line_once line gs i
lines_more line gs i =
    let step : i + 1 ≡ suc i = omega arith in
    ap (λ k. flat_map line (distinct_groups (take k gs))) step ∙ by (slice_get gs i) refl
  where
    by : (o : Option Group) → slice_get gs i ≡ o
        → flat_map line (distinct_groups (take (suc i) gs)) ≡ flat_map line (distinct_groups (take i gs)) ++ line_once line gs i
    by None none =
        ap (λ ys. flat_map line (distinct_groups ys)) (past_groups gs i none) ∙ sym (append-nil (flat_map line (distinct_groups (take i gs))))
        ∙ ap (λ o. flat_map line (distinct_groups (take i gs))
        ++ option_map_or (λ g. if list_any (λ h. same_group h g) (take i gs) then [] else line g) o []) (sym none)
    by (Some g) at =
        let there = list_any (λ h. same_group h g) (take i gs) in
        ap (λ ys. flat_map line (distinct_groups ys)) (more_groups gs i g at)
        ∙ ap (flat_map line) (distinct_more same_group (take i gs) g)
        ∙ flat_map-append line (distinct_groups (take i gs)) (one_unless there g)
        ∙ ap (λ ys. flat_map line (distinct_groups (take i gs)) ++ ys) (one_or_none line g there)
        ∙ ap (λ o. flat_map line (distinct_groups (take i gs))
        ++ option_map_or (λ h. if list_any (λ k. same_group k h) (take i gs) then [] else line h) o []) (sym at)

-- ---- the groups of all claims

first_of : (h : Holder) (o : Option Group) (rest : List (Group × Holder)) (others : List Group) → map (λ (p : Group × Holder). p.0) rest ≡ others
    → map (λ (p : Group × Holder). p.0) (cons_option (option_map (λ g. (g, h)) o) rest) ≡ cons_option o others
first_of h None rest others same = same
first_of h (Some g) rest others same = ap (λ gs. g ∷ gs) same

groups_claimed : (runs : List RunState) (hs : List Holder)
    → map (λ (p : Group × Holder). p.0) (filter_map (claim_of runs) hs) ≡ filter_map (group_in_use runs) hs
groups_claimed runs [] = refl
groups_claimed runs (h ∷ hs) =
    first_of h (group_in_use runs h) (filter_map (claim_of runs) hs) (filter_map (group_in_use runs) hs) (groups_claimed runs hs)

groups_seen : (claims : List GroupClaim) → map (λ d. d.group) claims ≡ map (λ (p : Group × Holder). p.0) (map said claims)
groups_seen [] = refl
groups_seen (d ∷ claims) = ap (λ gs. d.group ∷ gs) (groups_seen claims)

groups_of_claims : (runs : List RunState) (claims : List GroupClaim) → map said claims ≡ claims_of runs
    → map (λ d. d.group) claims ≡ filter_map (group_in_use runs) (all_holders runs)
groups_of_claims runs claims is =
    groups_seen claims ∙ ap (map (λ (p : Group × Holder). p.0)) is ∙ groups_claimed runs (all_holders runs)

pub all_lines : (line : Group → List ℕ) (runs : List RunState) (claims : List GroupClaim) (i : ℕ) (text : List ℕ) → length claims ≤ i
    → map said claims ≡ claims_of runs → text ≡ flat_map line (distinct_groups (take i (map (λ d. d.group) claims)))
    → text ≡ flat_map line (distinct_groups (filter_map (group_in_use runs) (all_holders runs)))
all_lines line runs claims i text past is so_far =
    so_far ∙ ap (λ gs. flat_map line (distinct_groups gs)) (whole i claims past ∙ groups_of_claims runs claims is)
  where
    whole : (k : ℕ) (cs : List GroupClaim) → length cs ≤ k → take k (map (λ d. d.group) cs) ≡ map (λ d. d.group) cs
    whole zero [] le = refl
    whole (suc k) [] le = refl
    whole zero (c ∷ cs) le = absurd (omega (arith, le))
    whole (suc k) (c ∷ cs) le = ap (λ gs. c.group ∷ gs) (whole k cs (omega (arith, le)))
