-- There are names that differ for different attempts and holders.
use Rattle.std.specs.Prelude.{◌≡◌, ℕ, zero, suc, ◌+◌, ◌≤◌, ◌<◌, refl}
use Rattle.std.proofs.Common.{arith, ap, inl, inr, sym, ◌∙◌}
use Rattle.std.proofs.lemmas.Bool.{cases_eq}
use Rattle.table_model.specs.declared.sites.LegSite.{LegSite}
use Rattle.table_laws.specs.Names.{Names}
use Rattle.table_model.specs.declared.holder.Holder.{Holder}
use Rattle.table_model.specs.declared.holder.Holder.TheVariants.{Run, Leg}

-- two numbers encoded as one
abbrev tri : ℕ → ℕ
tri zero = 0
tri (suc n) = tri n + suc n

tri_le : (n m : ℕ) → n ≤ m → tri n ≤ tri m
tri_le n zero le = let is : n ≡ 0 = omega (arith, le) in omega (arith, ap tri is)
tri_le n (suc m) le =
    elim (cases_eq n (suc m)) [
      | inl same ↦ omega (arith, ap tri same)
      | inr other ↦
          let below = tri_le n m (omega (arith, le, other)) in
          let next : tri (suc m) ≡ tri m + suc m = refl in
          omega (arith, below, next)
    ]

abbrev two : ℕ → ℕ → ℕ
two a b = tri (a + b) + b

apart : (a b c d : ℕ) → a + b < c + d → two a b ≡ two c d → ⊥
apart a b c d lt e =
    let rises = tri_le (suc (a + b)) (c + d) (omega (arith, lt)) in
    let next : tri (suc (a + b)) ≡ tri (a + b) + suc (a + b) = refl in
    omega (arith, rises, next, e)

two_same : (a b c d : ℕ) → two a b ≡ two c d → (a ≡ c) × (b ≡ d)
two_same a b c d e =
    elim (cases_eq (a + b) (c + d)) [
      | inl same ↦
          let first : tri (a + b) ≡ tri (c + d) = ap tri same in
          let second : b ≡ d = omega (arith, first, e) in
          (omega (arith, same, second), second)
      | inr other ↦
          let not_less : a + b < c + d → ⊥ = λ lt. apart a b c d lt e in
          let not_more : c + d < a + b → ⊥ = λ gt. apart c d a b gt (sym e) in
          absurd (omega (arith, other, not_less, not_more))
    ]

abbrev pub packed_name : ℕ → Holder → Holder
packed_name a (Run r) = Run (two a r)
packed_name a (Leg p) = Leg (record p { run = two a p.run })

pub packed_differ : (a b : ℕ) (h k : Holder) → packed_name a h ≡ packed_name b k → (a ≡ b) × (h ≡ k)
packed_differ a b (Run r) (Run s) e =
    let one : two a r ≡ two b s = cc in
    let same = two_same a r b s one in
    (same.0, ap (λ x. Run x) same.1)
packed_differ a b (Run r) (Leg q) e = cc
packed_differ a b (Leg p) (Run s) e = cc
packed_differ a b (Leg p) (Leg q) e =
    let places : record p { run = two a p.run } ≡ record q { run = two b q.run } = cc in
    let one : two a p.run ≡ two b q.run = ap (λ (x : LegSite). x.run) places in
    let same = two_same a p.run b q.run one in
    let jobs : p.job ≡ q.job = ap (λ (x : LegSite). x.job) places in
    let legs : p.leg ≡ q.leg = ap (λ (x : LegSite). x.leg) places in (
      same.0,
      ap (λ r. Leg (record { run = r; job = p.job; leg = p.leg })) same.1
          ∙ ap (λ j. Leg (record { run = q.run; job = j; leg = p.leg })) jobs
          ∙ ap (λ l. Leg (record { run = q.run; job = q.job; leg = l })) legs,
    )

abbrev pub packed : Names
packed = record { name = packed_name; differ = packed_differ }
