use Rattle.std.proofs.Common.{◌≡◌, ◌∷◌, rules, refl, ap, sym, subst, ◌∙◌, arith, List, ℕ, Some}
use Rattle.std.specs.BTreeMap.{get_by_text}
use Rattle.std.specs.Option.{option_copied_mut}
use Rattle.wf_expr.specs.Properties.{value_at, DifferAt}
use Rattle.wf_expr.specs.declared.properties.Properties.{Properties}
use Rattle.wf_expr.specs.declared.properties.Properties.TheViews.{out-Properties, roll-Properties}
use Rattle.wf_expr.proofs.PropertyLemmas.{ChangesAt, Parts, inner_at, changed, hit, first-and-rest, rest, alike, kept}
use Rattle.wf_expr.proofs.PropertyLemmas.{changed-others, changed-same, nested-others}
use Rattle.wf_expr.proofs.PropertyLemmas.{set-itself, set-itself-others, on-ok, on-err, on-ok-both}
use Rattle.wf_expr.proofs.properties.Properties.+insert.Goals as goal

-- ---- if the first name is present, its inner tree changes

named : (t : ℕ) (c : goal.After-self-in-Some-1 t) → c.args.path.now ≡ c.name-item.result ∷ rest c.args.path.now
named t c = first-and-rest c.args.path.now c.name-item.result (omega arith) c.name-item.is

abbrev parts : (t : ℕ) → goal.After-self-in-Some-1 t → Parts
parts t c = record (out-Properties c.args.self.now) { inner = c.get_mut.follows.lender c.insert.new.self }

abbrev after : (t : ℕ) → goal.After-self-in-Some-1 t → Properties
after t c = roll-Properties (parts t c)

changes : (t : ℕ) (c : goal.After-self-in-Some-1 t)
    → ChangesAt (after t c) c.args.self.now c.name-item.result (Some c.insert.new.self)
changes t c =
    changed (parts t c) c.args.self.now c.insert.new.self c.as_str.result.now c.name-item.result refl
    ((c.get_mut.follows.holds c.insert.new.self).3 (search rules)) c.as_str.ensures

was : (t : ℕ) (c : goal.After-self-in-Some-1 t) → inner_at c.args.self.now c.name-item.result ≡ Some c.in-Some.inner.now
was t c =
    ap (get_by_text (out-Properties c.args.self.now).inner) (sym c.as_str.ensures)
    ∙ (sym c.get_mut.ensures.value ∙ ap option_copied_mut c.in-Some.is)

pub returns-in-Some-clause-value : goal.returns-in-Some-clause-value
returns-in-Some-clause-value t c =
    on-ok c.insert.result c.insert.ensures.value
    (λ h. ap (value_at (after t c)) (named t c) ∙ (hit _ _ _ _ (changes t c) _ ∙ h))

pub returns-in-Some-clause-others : goal.returns-in-Some-clause-others
returns-in-Some-clause-others t c =
    on-ok c.insert.result c.insert.ensures.others
    (λ h. subst (λ (p : List (List ℕ)). DifferAt p (after t c) c.args.self.now) (sym (named t c))
    (changed-others _ _ _ _ _ _ (changes t c) (was t c) h))

pub returns-in-Some-clause-err : goal.returns-in-Some-clause-err
returns-in-Some-clause-err t c = on-err c.insert.result c.insert.ensures.err (changed-same _ _ _ _ _ (changes t c) (was t c))

-- ---- the empty path

pub returns-in-empty-clause-value : goal.returns-in-empty-clause-value
returns-in-empty-clause-value t c = set-itself _ c.args.path.now c.in-empty.len_below

pub returns-in-empty-clause-others : goal.returns-in-empty-clause-others
returns-in-empty-clause-others t c = set-itself-others _ c.args.self.now c.args.path.now c.in-empty.len_below refl

-- ---- if the first name is absent

pub returns-in_ok-inner-in-len1-up-clause-others : goal.returns-in_ok-inner-in-len1-up-clause-others
returns-in_ok-inner-in-len1-up-clause-others t c =
    let path : c.args.path.now ≡ c.name-item.result ∷ rest c.args.path.now =
    first-and-rest c.args.path.now c.name-item.result (omega arith) c.name-item.is in
    let parts = record (out-Properties c.args.self.now) { inner = c.get_mut.follows.lender-at-none } in
    let same = ap (λ m. m.entries) c.get_mut.follows.holds-at-none in
    let none = alike parts c.args.self.now same c.name-item.result
    ∙ (ap (get_by_text (out-Properties c.args.self.now).inner) (sym c.as_str.ensures)
    ∙ (sym c.get_mut.ensures.value ∙ ap option_copied_mut c.in_default.is)) in
    let P : List (List ℕ) → Type 0 = λ p. DifferAt p c.nest.new.self c.args.self.now in
    on-ok-both _ _ _ c.nest.result c.nest.ensures.others c.nest.ensures.within
    (λ o w. subst P (sym path)
    (λ p n. nested-others _
    (roll-Properties parts) c.in_ok-inner-in-len1-up.inner _ _ o w c.in_ok-inner-in-len1-up.ensures.others none p n
    ∙ kept parts c.args.self.now refl same p))
