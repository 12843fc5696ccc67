-- Holders by the ids of their runs: in a sound table no two are the same, and a step that forgets no run changes none of them.
use Rattle.std.specs.Prelude.{◌≡◌, ℕ, ◌+◌, Some, None, refl}
use Rattle.std.specs.Option.{option_map_or}
use Rattle.std.proofs.Common.{arith, ap, sym, ◌∙◌}
use Rattle.table_model.specs.Runs.{run_at, RunState}
use Rattle.table_model.specs.Sound.{IsSound}
use Rattle.table_model.specs.TableState.{TableState, index_of}
use Rattle.table_model.specs.declared.holder.Holder.{Holder}
use Rattle.table_model.specs.declared.holder.Holder.TheVariants.{Run, Leg}
use Rattle.table_laws.specs.Names.{by_id, id_in}

-- ids follow the order of runs
id_is : (t : TableState) → IsSound t → (r : ℕ) → id_in t r ≡ t.forgotten.through + r + 1
id_is t s r =
    let next = t.forgotten.through + r + 1 in
    elim (run_at t.runs r) as (λ o. run_at t.runs r ≡ o → option_map_or (λ (x : RunState). x.id) o next ≡ next) [
      | None ↦ λ none. refl
      | Some x ↦ λ is. s.ids_follow r x is
    ] refl

-- the holder with the index that an id belongs to
abbrev at_index : TableState → Holder → Holder
at_index t (Run id) = Run (index_of t id)
at_index t (Leg p) = Leg (record { run = index_of t p.run; job = p.job; leg = p.leg })

index_of_id : (t : TableState) → IsSound t → (h : Holder) → at_index t (by_id t h) ≡ h
index_of_id t s (Run r) =
    let id = id_is t s r in
    let same : index_of t (id_in t r) ≡ r = omega (arith, id) in ap (λ n. Run n) same
index_of_id t s (Leg p) =
    let id = id_is t s p.run in
    let same : index_of t (id_in t p.run) ≡ p.run = omega (arith, id) in
    ap (λ n. Leg (record { run = n; job = p.job; leg = p.leg })) same

pub by_id_apart : (t : TableState) → IsSound t → (h k : Holder) → by_id t h ≡ by_id t k → h ≡ k
by_id_apart t s h k e = sym (index_of_id t s h) ∙ ap (at_index t) e ∙ index_of_id t s k

same_id : (t next : TableState) → IsSound t → IsSound next → next.forgotten.through ≡ t.forgotten.through → (r : ℕ)
    → id_in next r ≡ id_in t r
same_id t next s later same r = id_is next later r ∙ ap (λ n. n + r + 1) same ∙ sym (id_is t s r)

pub same_by_id : (t next : TableState) → IsSound t → IsSound next → next.forgotten.through ≡ t.forgotten.through → (h : Holder)
    → by_id next h ≡ by_id t h
same_by_id t next s later same (Run r) = ap (λ n. Run n) (same_id t next s later same r)
same_by_id t next s later same (Leg p) =
    ap (λ n. Leg (record { run = n; job = p.job; leg = p.leg })) (same_id t next s later same p.run)
