-- The entries of a `Map`: their names are ordered, and one iteration of a loop over some of them.
use Rattle.std.proofs.Common.{◌≡◌, ℕ, List, [], ◌∷◌, ◌++◌, map, Bool, true, false, cond, Result, Ok, Err}
use Rattle.std.proofs.Common.{string_bytes, Less, IsTrue, String, Global, refl, sym, ap, ◌∙◌, subst, append-nil}
use Rattle.std.specs.Prelude.{string_cmp}
use Rattle.std.specs.Ordering.{nat_cmp}
use Rattle.std.specs.Cmp.Lexicographic.{slice_cmp}
use Rattle.std.specs.List.{filter, flat_map}
use Rattle.std.specs.List.Sorted.{IsStrictlySortedBy}
use Rattle.std.specs.Map.{keys_of}
use Rattle.std.proofs.lemmas.List.Kept.{IsStrictlySortedBy-filter}
use Rattle.serde_json.specs.Data.{Data}
use Rattle.serde_json.specs.View.{view}
use Rattle.serde_json.specs.declared.value.Value.{Value}
use Rattle.serde_json.proofs.Views.{Entry}
use Rattle.definitions.specs.Rising.{rises_by}
use Rattle.wf_value.specs.declared.refusal.Refusal.{Refusal}
use Rattle.wf_reader.specs.Faults.{unless_faulty}
use Rattle.wf_reader.proofs.InOrder.{first_of_rest, none_of_first, one_more, same_value}

-- ---- ordered names give ordered results

pub rises-sorted : {B : Type 0} (name : B → List ℕ) (f : Entry → B) → ((e : Entry) → name (f e) ≡ string_bytes e.0) → (es : List Entry)
    → IsStrictlySortedBy string_cmp (keys_of es) → IsTrue (rises_by name (map f es))
unfolding IsStrictlySortedBy
rises-sorted name f named [] h = refl
rises-sorted name f named (e ∷ []) h = refl
rises-sorted name f named (e ∷ g ∷ es) h =
    let below : slice_cmp nat_cmp (string_bytes e.0) (string_bytes g.0) ≡ Less = h.0.0 in
    rw (named e, named g, below) (rises-sorted name f named (g ∷ es) h.1)

-- ---- entries that are selected by name

module _ (keep : List ℕ → Bool) where
  abbrev pub kept : List Entry → List Entry
  kept es = filter (λ e. keep (string_bytes e.0)) es

  keys_at : (b : Bool) (e : Entry) (es : List Entry) (ks : List (String Global)) → keys_of es ≡ ks
      → keys_of (cond b (e ∷ es) es) ≡ cond b (e.0 ∷ ks) ks
  keys_at true e es ks h = ap (λ l. e.0 ∷ l) h
  keys_at false e es ks h = h

  keys_kept : (es : List Entry) → keys_of (kept es) ≡ filter (λ k. keep (string_bytes k)) (keys_of es)
  keys_kept [] = refl
  keys_kept (e ∷ es) = keys_at (keep (string_bytes e.0)) e (kept es) _ (keys_kept es)

  pub kept-sorted : (es : List Entry) → IsStrictlySortedBy string_cmp (keys_of es) → IsStrictlySortedBy string_cmp (keys_of (kept es))
  kept-sorted es h =
      subst (IsStrictlySortedBy string_cmp) (sym (keys_kept es))
      (IsStrictlySortedBy-filter string_cmp (λ k. keep (string_bytes k)) (keys_of es) h)

  pub kept_here : (rest more : List Entry) (e : Entry) (name : List ℕ) → rest ≡ e ∷ more → name ≡ string_bytes e.0 → true ≡ keep name
      → kept rest ≡ e ∷ kept more
  kept_here rest more e name is named test =
      ap kept is ∙ ap (λ n. cond (keep n) (e ∷ kept more) (kept more)) (sym named) ∙ ap (λ b. cond b (e ∷ kept more) (kept more)) (sym test)

-- ---- one iteration, with a name and its value: their faults and their result

module _ {B : Type 0} (check : List ℕ × Data → List Refusal) (of : List ℕ × Data → B) where
  abbrev faults_at : Entry → List Refusal
  faults_at e = check (string_bytes e.0, view e.1)

  abbrev made_of : Entry → B
  made_of e = of (string_bytes e.0, view e.1)

  -- the result of reading a member with this name, in bytes
  abbrev Reads : List ℕ → Value → Result B Refusal → Type 0
  Reads name v r = unless_faulty (check (name, view v)) (of (name, view v)) ≡ r

  of_entry : (name : List ℕ) (e : Entry) (r : Result B Refusal) → name ≡ string_bytes e.0 → Reads name e.1 r
      → unless_faulty (faults_at e) (made_of e) ≡ r
  of_entry name e r is h = subst (λ k. Reads k e.1 r) is h

  pub check_fails : {Y : Type 0} (es rest more : List Entry) (e : Entry) (name : List ℕ) (y : Y) (r : Refusal)
      → flat_map faults_at es ≡ flat_map faults_at rest → rest ≡ e ∷ more → name ≡ string_bytes e.0 → Reads name e.1 (Err r)
      → unless_faulty (flat_map faults_at es) y ≡ Err r
  check_fails es rest more e name y r left is named h = first_of_rest faults_at es rest more e (made_of e) y r left is
      (of_entry name e (Err r) named h)

  pub check_left : (es rest more : List Entry) (e : Entry) (name : List ℕ) (b : B)
      → flat_map faults_at es ≡ flat_map faults_at rest → rest ≡ e ∷ more → name ≡ string_bytes e.0 → Reads name e.1 (Ok b)
      → flat_map faults_at es ≡ flat_map faults_at more
  check_left es rest more e name b left is named h = none_of_first faults_at es rest more e (made_of e) b left is
      (of_entry name e (Ok b) named h)

  pub check_done : (es rest more : List Entry) (done next : List B) (e : Entry) (name : List ℕ) (b : B)
      → done ++ map made_of rest ≡ map made_of es → next ≡ done ++ b ∷ [] → rest ≡ e ∷ more → name ≡ string_bytes e.0
      → Reads name e.1 (Ok b) → next ++ map made_of more ≡ map made_of es
  check_done es rest more done next e name b so_far pushed is named h =
      ap (λ bs. bs ++ map made_of more) pushed
      ∙ one_more made_of es rest more done e b so_far is (same_value (faults_at e) (made_of e) b (of_entry name e (Ok b) named h))

  -- at the end nothing remains
  pub all_done : (es rest : List Entry) (done : List B) → done ++ map made_of rest ≡ map made_of es → rest ≡ [] → done ≡ map made_of es
  all_done es rest done so_far is = sym (append-nil done) ∙ ap (λ r. done ++ map made_of r) (sym is) ∙ so_far
