-- The tests of the profile decide its properties.
use Rattle.std.proofs.Common.{◌≡◌, ◌≤◌, ℕ, Bool, true, false, List, [], ◌∷◌, refl, ap, leb-true, le-leb}
use Rattle.std.specs.Prelude.{codes, All, sum_by}
use Rattle.std.specs.List.{list_all}
use Rattle.std.specs.Bool.{Decides}
use Rattle.std.proofs.lemmas.Bool.Decides.{Decides-and, Decides-or, Decides-by_and}
use Rattle.std.proofs.lemmas.Slice.Eq.{bytes_eq-Decides}
use Rattle.definitions.specs.Limits.{max_references}
use Rattle.wf_expr.specs.Profile.{IsShared, IsInContext, InProfile, IsAllowed, OfReference, OfReferences, IsInProfile, AllowedIn}
use Rattle.wf_expr.specs.Profile.{reference_count}
use Rattle.wf_expr.specs.inner.Parsing.{is_result, is_shared, is_in_context, is_path, is_allowed, of_reference, of_references, is_in_profile}
use Rattle.wf_expr.specs.inner.Parsing.{is_allowed_in}
use Rattle.wf_expr.specs.declared.context_site.ContextSite.{ContextSite}
use Rattle.wf_expr.specs.declared.context_site.ContextSite.TheVariants.{Workflow, Job}
use Rattle.wf_expr.specs.declared.piece.Operand.{Operand}
use Rattle.wf_expr.specs.declared.piece.Operand.TheVariants.{Quoted, Reference}
use Rattle.wf_expr.specs.declared.piece.Piece.{Piece}
use Rattle.wf_expr.specs.declared.piece.Piece.TheVariants.{Plain, Braced}

Decides-result : (ns : List (List ℕ)) → Decides (is_result ns) (ns ≡ codes "result" ∷ [])
Decides-result [] = (λ e. cc, λ e. cc)
Decides-result (n ∷ []) =
    let d = bytes_eq-Decides n (codes "result") in
    (λ e. ap (λ m. m ∷ []) (d.0 e), λ e. d.1 (cc))
Decides-result (n ∷ m ∷ ns) = (λ e. cc, λ e. cc)

Decides-shared : (n : List ℕ) → Decides (is_shared n) (IsShared n)
Decides-shared n =
    Decides-or _ _ (bytes_eq-Decides n (codes "github"))
    (Decides-or _ _ (bytes_eq-Decides n (codes "inputs")) (bytes_eq-Decides n (codes "vars")))

Decides-in_context : (c : List ℕ) (ns : List (List ℕ)) → Decides (is_in_context c ns) (IsInContext c ns)
Decides-in_context c ns =
    Decides-or _ _ (Decides-shared c)
    (Decides-or _ _ (bytes_eq-Decides c (codes "strategy"))
    (Decides-or _ _ (bytes_eq-Decides c (codes "matrix"))
    (Decides-and _ _ (bytes_eq-Decides c (codes "needs")) (Decides-result ns))))

never : Decides false ⊥
never = (λ e. cc, λ h. absurd h)

always : Decides true (Unit {0})
always = (λ e. tt, λ h. refl)

Decides-in_profile : (path : List (List ℕ)) → Decides (is_path path) (InProfile path)
Decides-in_profile [] = never
Decides-in_profile (c ∷ []) = never
Decides-in_profile (c ∷ n ∷ ns) = Decides-in_context c ns

Decides-allowed : (site : ContextSite) (path : List (List ℕ)) → Decides (is_allowed site path) (IsAllowed site path)
Decides-allowed Job path = always
Decides-allowed Workflow [] = never
Decides-allowed Workflow (c ∷ ns) = Decides-shared c

Decides-all : {X : Type 0} (p : X → Bool) (P : X → Type 0) → ((x : X) → Decides (p x) (P x)) → (xs : List X)
    → Decides (list_all p xs) (All P xs)
Decides-all p P t xs = Decides-by_and p P (list_all p) t refl (λ _ _. refl) xs

Decides-reference : (p : List (List ℕ) → Bool) (P : List (List ℕ) → Type 0) → ((path : List (List ℕ)) → Decides (p path) (P path))
    → (o : Operand) → Decides (of_reference p o) (OfReference P o)
Decides-reference p P t (Quoted text) = always
Decides-reference p P t (Reference path) = t path

Decides-references : (p : List (List ℕ) → Bool) (P : List (List ℕ) → Type 0) → ((path : List (List ℕ)) → Decides (p path) (P path))
    → (q : Piece) → Decides (of_references p q) (OfReferences P q)
Decides-references p P t (Plain text) = always
Decides-references p P t (Braced os) = Decides-all (of_reference p) (OfReference P) (Decides-reference p P t) os

pub Decides-profile : (ts : List Piece) → Decides (is_in_profile ts) (IsInProfile ts)
Decides-profile ts =
    let each = Decides-all (of_references is_path) (OfReferences InProfile) (Decides-references is_path InProfile Decides-in_profile) ts in
    let few : Decides _ (sum_by reference_count ts ≤ max_references) = (λ e. leb-true _ _ e, λ h. le-leb _ _ h) in
    let both = Decides-and _ _ each few in
    (λ e. let h = both.0 e in record { each = h.0; few = h.1 }, λ h. both.1 (h.each, h.few))

pub Decides-allowed_in : (site : ContextSite) (ts : List Piece) → Decides (is_allowed_in site ts) (AllowedIn site ts)
Decides-allowed_in site ts =
    Decides-all (of_references (is_allowed site)) (OfReferences (IsAllowed site))
    (Decides-references (is_allowed site) (IsAllowed site) (Decides-allowed site)) ts
