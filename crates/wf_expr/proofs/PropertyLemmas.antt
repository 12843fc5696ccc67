-- Trees of properties: how a change at one name affects the paths.
use Rattle.std.proofs.Common.{◌≡◌, ◌≢◌, ◌⊎◌, ℕ, ◌+◌, ◌-◌, ◌<◌, ◌≤◌, Bool, true, false, cond, List, [], ◌∷◌, length, get_or, take, drop}
use Rattle.std.proofs.Common.{refl, ap, sym, inl, inr, ◌∙◌, arith}
use Rattle.std.specs.Prelude.{Option, Some, None, Result, Ok, Err, OnOk, OnErr}
use Rattle.std.specs.BTreeMap.{get_by_text}
use Rattle.std.specs.Cmp.Lexicographic.{same_text, slice_cmp}
use Rattle.std.specs.Map.{update, lookup}
use Rattle.std.specs.Option.{option_and_then}
use Rattle.std.proofs.lemmas.List.{at_drop_more}
use Rattle.std.proofs.Math.Seq.{take-length}
use Rattle.std.specs.Str.{bytes_eq}
use Rattle.std.specs.BTreeMap as tree
use Rattle.std.specs.Ordering.{nat_cmp, is_eq}
use Rattle.std.specs.String.{string_bytes, string_cmp}
use Rattle.std.proofs.lemmas.Map.Text.{btree_map_updates_text}
use Rattle.wf_value.specs.declared.scalar.Scalar.{Scalar}
use Rattle.wf_expr.specs.Properties.{value_at, AreSame, DifferAt, DifferAfter}
use Rattle.wf_expr.specs.declared.properties.Properties.{Properties}
use Rattle.wf_expr.specs.declared.properties.Properties.TheOpen.{Properties-F}
use Rattle.wf_expr.specs.declared.properties.Properties.TheViews.{out-Properties, roll-Properties, out-roll-Properties}
use Rattle.wf_expr.proofs.NameLemmas.{same_name-self}

-- the inner tree at a name, and its value for a path
abbrev pub inner_at : Properties → List ℕ → Option Properties
inner_at tree name = get_by_text (out-Properties tree).inner name

abbrev pub given : Option Properties → List (List ℕ) → Option Scalar
given inner path = option_and_then (λ t. value_at t path) inner

-- after is before with another inner tree at a name
pub record ChangesAt (after before : Properties) (name : List ℕ) (inner : Option Properties) : Type 0 where
  pub itself : (out-Properties after).value ≡ (out-Properties before).value
  pub found : (n : List ℕ) → inner_at after n ≡ update bytes_eq (inner_at before) name inner n

-- the fields of a tree
abbrev pub Parts : Type 0
Parts = Properties-F Properties

pub changed : (parts : Parts) (before inner : Properties) (bytes name : List ℕ) → parts.value ≡ (out-Properties before).value
    → tree.UpdatesBy string_cmp (λ k. slice_cmp nat_cmp bytes (string_bytes k)) (out-Properties before).inner parts.inner (Some inner)
    → bytes ≡ name → ChangesAt (roll-Properties parts) before name (Some inner)
changed parts before inner bytes name itself updates same = record {
  itself = ap (λ r. r.value) (out-roll-Properties parts) ∙ itself;
  found = λ n. ap (λ r. get_by_text r.inner n) (out-roll-Properties parts)
      ∙ (btree_map_updates_text bytes (out-Properties before).inner parts.inner (Some inner) updates n
      ∙ ap (λ b. update bytes_eq (inner_at before) b (Some inner) n) same);
}

told-by : (m n : List ℕ) (b : Bool) → bytes_eq m n ≡ b → (m ≡ n) ⊎ ((m ≢ n) × (bytes_eq m n ≡ false))
told-by m n true e = inl (same_text m n (sym e))
told-by m n false e = inr (λ h. let t = ap (bytes_eq m) (sym h) ∙ same_name-self m in cc, e)

pub told : (m n : List ℕ) → (m ≡ n) ⊎ ((m ≢ n) × (bytes_eq m n ≡ false))
told m n = told-by m n (bytes_eq m n) refl

pub hit : (after before : Properties) (name : List ℕ) (inner : Option Properties) → ChangesAt after before name inner
    → (path : List (List ℕ)) → value_at after (name ∷ path) ≡ given inner path
hit after before name inner h path =
    ap (λ t. given t path) (h.found name ∙ ap (λ b. cond b inner (inner_at before name)) (same_name-self name))

pub miss : (after before : Properties) (name : List ℕ) (inner : Option Properties) → ChangesAt after before name inner
    → (first : List ℕ) (path : List (List ℕ)) → first ≢ name → value_at after (first ∷ path) ≡ value_at before (first ∷ path)
miss after before name inner h first path n =
    elim (told name first) [
      | inl e ↦ absurd (n (sym e))
      | inr e ↦ ap (λ t. given t path)
          (h.found first ∙ ap (λ b. cond b inner (inner_at before first)) e.1)
    ]

-- the names of a path after the first
abbrev pub rest : List (List ℕ) → List (List ℕ)
rest path = take (length path - 1) (drop 1 path)

pub first-and-rest : (path : List (List ℕ)) (name : List ℕ) → 1 ≤ length path → name ≡ get_or path 0 name → path ≡ name ∷ rest path
first-and-rest [] name h e = absurd (omega (arith, h))
first-and-rest (n ∷ ns) name h e =
    let all : length (n ∷ ns) - 1 ≡ length ns = omega arith in
    ap (λ m. m ∷ ns) (sym e) ∙ ap (λ m. name ∷ m) (sym (ap (λ k. take k ns) all ∙ take-length ns))

-- the paths that do not begin with the name
pub suffix-others : (after before : Properties) (name : List ℕ) (inner : Option Properties) → ChangesAt after before name inner
    → DifferAfter name after before
suffix-others after before name inner h [] n = h.itself
suffix-others after before name inner h (first ∷ p) n = miss after before name inner h first p (λ e. n (p, ap (λ m. m ∷ p) e))

-- the paths that begin with the name
differ-within : (after before : Properties) (name : List ℕ) (more : List (List ℕ)) → DifferAfter name after before
    → ((p : List (List ℕ)) → p ≢ more → value_at after (name ∷ p) ≡ value_at before (name ∷ p)) → DifferAt (name ∷ more) after before
differ-within after before name more others within [] n = others [] (λ b. let e = b.1 in cc)
differ-within after before name more others within (first ∷ p) n =
    elim (told first name) [
      | inl e ↦ ap (λ m. value_at after (m ∷ p)) e
          ∙ (within p (λ h. n (ap (λ m. m ∷ p) e ∙ ap (λ q. name ∷ q) h)) ∙ ap (λ m. value_at before (m ∷ p)) (sym e))
      | inr e ↦ others
          (first ∷ p) (λ b. let whole = b.1 in let f : first ≡ name = cc in e.0 f)
    ]

-- a changed inner tree at a name
pub changed-others : (after before new old : Properties) (name : List ℕ) (more : List (List ℕ)) → ChangesAt after before name (Some new)
    → inner_at before name ≡ Some old → DifferAt more new old → DifferAt (name ∷ more) after before
changed-others after before new old name more h was d =
    differ-within after before name more (suffix-others after before name (Some new) h)
    (λ p n. hit after before name (Some new) h p ∙ (d p n ∙ ap (λ t. given t p) (sym was)))

pub changed-same : (after before new old : Properties) (name : List ℕ) → ChangesAt after before name (Some new)
    → inner_at before name ≡ Some old → AreSame new old → AreSame after before
changed-same after before new old name h was s [] = h.itself
changed-same after before new old name h was s (first ∷ p) =
    elim (told first name) [
      | inl e ↦ ap (λ m. value_at after (m ∷ p)) e
          ∙ (hit after before name (Some new) h p
          ∙ (s p ∙ (ap (λ t. given t p) (sym was) ∙ ap (λ m. value_at before (m ∷ p)) (sym e))))
      | inr e ↦ miss after before name
          (Some new) h first p e.0
    ]

-- a tree of one path, added at a name that had no inner tree
pub nested-others : (after before new : Properties) (name : List ℕ) (more : List (List ℕ)) → DifferAfter name after before
    → ((p : List (List ℕ)) → value_at after (name ∷ p) ≡ value_at new p) → ((p : List (List ℕ)) → p ≢ more → value_at new p ≡ None)
    → inner_at before name ≡ None → DifferAt (name ∷ more) after before
nested-others after before new name more others within alone none =
    differ-within after before name more others (λ p n. within p ∙ (alone p n ∙ ap (λ t. given t p) (sym none)))

-- equal look-ups give equal values
pub same-found : (after before : Properties) → (out-Properties after).value ≡ (out-Properties before).value
    → ((n : List ℕ) → inner_at after n ≡ inner_at before n) → AreSame after before
same-found after before itself found [] = itself
same-found after before itself found (first ∷ p) = ap (λ t. given t p) (found first)

pub no-names : (tree : Properties) → (out-Properties tree).value ≡ None → ((n : List ℕ) → inner_at tree n ≡ None) → (path : List (List ℕ))
    → value_at tree path ≡ None
no-names tree itself none [] = itself
no-names tree itself none (first ∷ p) = ap (λ t. given t p) (none first)

-- an implication carries over to the success case
pub on-ok : {T E P Q : Type 0} (r : Result T E) → OnOk r P → (P → Q) → OnOk r Q
on-ok (Ok x) p f = f p
on-ok (Err e) p f = tt

pub on-err : {T E P Q : Type 0} (r : Result T E) → OnErr r P → (P → Q) → OnErr r Q
on-err (Ok x) p f = tt
on-err (Err e) p f = f p

pub on-ok-both : {T E : Type 0} (P Q R : Type 0) (r : Result T E) → OnOk r P → OnOk r Q → (P → Q → R) → OnOk r R
on-ok-both P Q R (Ok x) p q f = f p q
on-ok-both P Q R (Err e) p q f = tt

-- one step down the tree
pub descend : (tree inner : Properties) (path : List (List ℕ)) (i : ℕ) (name : List ℕ) (whole : Option Scalar) → i < length path
    → name ≡ get_or path i name → inner_at tree name ≡ Some inner → value_at tree (drop i path) ≡ whole
    → value_at inner (drop (i + 1) path) ≡ whole
descend tree inner path i name whole h e at so_far =
    sym (ap (λ t. given t (drop (i + 1) path)) at)
    ∙ (ap (λ n. given (inner_at tree n) (drop (i + 1) path)) e ∙ (sym (at_drop_more (value_at tree) path i name h) ∙ so_far))

-- two trees with the same inner trees
pub alike : (parts : Parts) (before : Properties) → parts.inner.entries ≡ (out-Properties before).inner.entries → (n : List ℕ)
    → inner_at (roll-Properties parts) n ≡ inner_at before n
alike parts before same n =
    ap (λ r. get_by_text r.inner n) (out-roll-Properties parts)
    ∙ ap (λ es. lookup (λ k. is_eq (slice_cmp nat_cmp n (string_bytes k))) es) same

pub kept : (parts : Parts) (before : Properties) → parts.value ≡ (out-Properties before).value
    → parts.inner.entries ≡ (out-Properties before).inner.entries → AreSame (roll-Properties parts) before
kept parts before itself same =
    same-found (roll-Properties parts) before (ap (λ r. r.value) (out-roll-Properties parts) ∙ itself) (alike parts before same)

-- the empty path
pub set-itself : (parts : Parts) (path : List (List ℕ)) → length path < 1 → value_at (roll-Properties parts) path ≡ parts.value
set-itself parts [] h = ap (λ r. r.value) (out-roll-Properties parts)
set-itself parts (n ∷ ns) h = absurd (omega arith)

pub set-itself-others : (parts : Parts) (before : Properties) (path : List (List ℕ)) → length path < 1
    → parts.inner.entries ≡ (out-Properties before).inner.entries → DifferAt path (roll-Properties parts) before
set-itself-others parts before [] h same [] n = absurd (n refl)
set-itself-others parts before [] h same (first ∷ p) n = ap (λ t. given t p) (alike parts before same first)
set-itself-others parts before (m ∷ ms) h same p n = absurd (omega arith)

-- a tree without inner trees
pub empty-within : (parts : Parts) → parts.inner.entries ≡ [] → (n : List ℕ) → inner_at (roll-Properties parts) n ≡ None
empty-within parts none n =
    ap (λ r. get_by_text r.inner n) (out-roll-Properties parts)
    ∙ ap (λ es. lookup (λ k. is_eq (slice_cmp nat_cmp n (string_bytes k))) es) none

pub alone-others : (parts : Parts) (path : List (List ℕ)) → length path < 1 → parts.inner.entries ≡ [] → (p : List (List ℕ)) → p ≢ path
    → value_at (roll-Properties parts) p ≡ None
alone-others parts [] h none [] n = absurd (n refl)
alone-others parts [] h none (first ∷ p) n = ap (λ t. given t p) (empty-within parts none first)
alone-others parts (m ∷ ms) h none p n = absurd (omega arith)

-- a tree of one path under a name
pub made-others : (after before new : Properties) (name : List ℕ) (more path : List (List ℕ)) → path ≡ name ∷ more
    → ((p : List (List ℕ)) → value_at before p ≡ None) → DifferAfter name after before
    → ((p : List (List ℕ)) → value_at after (name ∷ p) ≡ value_at new p) → ((p : List (List ℕ)) → p ≢ more → value_at new p ≡ None)
    → (p : List (List ℕ)) → p ≢ path → value_at after p ≡ None
made-others after before new name more path is empty others within alone p n =
    differ-within after before name more others (λ q m. within q ∙ (alone q m ∙ sym (empty (name ∷ q)))) p (λ e. n (e ∙ sym is)) ∙ empty p
