-- Holders and legs of the runs that stay when the first runs are dropped.
use Rattle.std.specs.Prelude.{◌≡◌, ◌≤◌, ◌+◌, ◌-◌, ℕ}
use Rattle.std.proofs.Common.{arith, ap, sym, ◌∙◌}
use Rattle.table_model.specs.Holders.{run_of}
use Rattle.table_model.specs.declared.holder.Holder.{Holder}
use Rattle.table_model.specs.declared.holder.Holder.TheVariants.{Run, Leg}
use Rattle.table_model.specs.declared.sites.LegSite.{LegSite}
use Rattle.settling_laws.specs.Moved.{moved, moved_leg}

-- where a leg of a run that stays stands without the first k runs
abbrev pub leg_down : ℕ → LegSite → LegSite
leg_down k p = record { run = p.run - k; job = p.job; leg = p.leg }

abbrev pub moved_down : ℕ → Holder → Holder
moved_down k (Run r) = Run (r - k)
moved_down k (Leg p) = Leg (leg_down k p)

leg_down_moved : (k : ℕ) (p : LegSite) → leg_down k (moved_leg k p) ≡ p
leg_down_moved k p =
    let at : (k + p.run) - k ≡ p.run = omega arith in ap (λ n. record { run = n; job = p.job; leg = p.leg }) at

pub leg_moved_back : (k : ℕ) (p : LegSite) → k ≤ p.run → moved_leg k (leg_down k p) ≡ p
leg_moved_back k p le =
    let at : k + (p.run - k) ≡ p.run = omega (arith, le) in ap (λ n. record { run = n; job = p.job; leg = p.leg }) at

pub legs_apart : (k : ℕ) (p q : LegSite) → moved_leg k p ≡ moved_leg k q → p ≡ q
legs_apart k p q e = sym (leg_down_moved k p) ∙ ap (leg_down k) e ∙ leg_down_moved k q

pub down_moved : (k : ℕ) (h : Holder) → moved_down k (moved k h) ≡ h
down_moved k (Run r) = let at : (k + r) - k ≡ r = omega arith in ap (λ n. Run n) at
down_moved k (Leg p) = ap (λ s. Leg s) (leg_down_moved k p)

pub moved_back : (k : ℕ) (h : Holder) → k ≤ run_of h → moved k (moved_down k h) ≡ h
moved_back k (Run r) le = let at : k + (r - k) ≡ r = omega (arith, le) in ap (λ n. Run n) at
moved_back k (Leg p) le = ap (λ s. Leg s) (leg_moved_back k p le)

pub moved_apart : (k : ℕ) (h i : Holder) → moved k h ≡ moved k i → h ≡ i
moved_apart k h i e = sym (down_moved k h) ∙ ap (moved_down k) e ∙ down_moved k i
