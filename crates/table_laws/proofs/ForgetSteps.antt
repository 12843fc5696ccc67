-- What a `forget` leaves: the table without its first runs, which have ended. Each holder of the other runs is as it was.
use Rattle.std.specs.Prelude.{◌≡◌, ◌⊎◌, ℕ, ◌+◌, [], drop, take, nat_eq, true, false, Some, None, if◌then◌else◌, refl}
use Rattle.std.specs.Option.{option_map_or}
use Rattle.std.proofs.Common.{arith, ap, ap₂, sym, ◌∙◌, inl, inr}
use Rattle.std.proofs.lemmas.Bool.{eq-eqb, eqb-true, true≢false}
use Rattle.std.proofs.lemmas.List.{length-take-le}
use Rattle.group_name.specs.Group.{Group}
use Rattle.run_plan.specs.declared.command.Command.{Command}
use Rattle.run_plan.specs.declared.command.Command.TheVariants as command
use Rattle.run_plan.specs.declared.reply.Reply.TheVariants as reply
use Rattle.table_model.specs.Groups.{is_in}
use Rattle.table_model.specs.Runs.{leg_at, run_at, RunState}
use Rattle.table_model.specs.Sound.{ForgottenFit, IsSound}
use Rattle.table_model.specs.Step.{forgettable, forgetting, forgot, unchanged, without}
use Rattle.table_model.specs.TableState.{TableState}
use Rattle.table_model.specs.declared.holder.Holder.{Holder}
use Rattle.table_model.specs.declared.holder.Holder.TheVariants.{Run, Leg}
use Rattle.table_model.specs.declared.sites.LegSite.{LegSite}
use Rattle.table_model.proofs.ForgottenMore.{more_fit}
use Rattle.settling_laws.specs.Moved.{moved, moved_leg}
use Rattle.settling_laws.proofs.Dropped.{in_dropped, leg_dropped, run_dropped}
use Rattle.settling_laws.proofs.ForgetKeepsSound.{first_ended, first_within}
use Rattle.settling_laws.proofs.HaveEnded.{HaveEnded, holds_not, waits_not}
use Rattle.table_laws.specs.Names.{attempt_of, by_id, id_in}
use Rattle.table_laws.proofs.HolderStatus.{status, status_by, status_of_leg, status_of_run}
use Rattle.table_laws.proofs.RunsDropped.{Drops}
use Rattle.table_laws.proofs.Unbegun.{Unbegun}

-- ---- which commands forget runs

abbrev pub IsNoForget : Command → Type 0
IsNoForget (command.Forget id) = ⊥
IsNoForget _ = Unit {0}

pub forget_or_not : (c : Command) → ((id : ℕ) × (c ≡ command.Forget id)) ⊎ IsNoForget c
forget_or_not (command.Forget id) = inl (id, refl)
forget_or_not c = inr tt

-- ---- the table without its first runs

-- the second table has the runs of the first without the first k, which are forgotten
pub record Dropped (k : ℕ) (t next : TableState) : Type 0 where
  pub runs : next.runs ≡ drop k t.runs
  pub through : next.forgotten.through ≡ t.forgotten.through + k

-- what holds of the table itself where no run is forgotten, and else of the table without its first runs
pub forgot_is : (P : TableState → Type 0) (t : TableState) (id : ℕ) → (forgettable t id ≡ 0 → P t)
    → ((forgettable t id ≡ 0 → ⊥) → P (without (forgettable t id) t)) → P (forgot t id).table
forgot_is P t id same less =
    elim (nat_eq (forgettable t id) 0) as
    (λ b. nat_eq (forgettable t id) 0 ≡ b
    → P (option_map_or (unchanged t) (if b then Some (reply.Forgotten t.forgotten.through) else None) (forgetting t id)).table) [
      | true ↦ λ none. same (eqb-true (forgettable t id) 0 none)
      | false ↦ λ some. less (λ none. true≢false (sym (eq-eqb (forgettable t id) 0 none) ∙ some))
    ] refl

pub forgot_drops : (t : TableState) (id : ℕ) → Dropped (forgettable t id) t (forgot t id).table
forgot_drops t id =
    forgot_is (Dropped (forgettable t id) t) t id
    (λ none. record { runs = sym (ap (λ k. drop k t.runs) none); through = omega (arith, none) })
    (λ some. record {
      runs = refl;
      through = ap (λ n. t.forgotten.through + n) (length-take-le (forgettable t id) t.runs (first_within t id));
    })

pub forgot_fits : (t : TableState) (id : ℕ) → ForgottenFit t.forgotten → ForgottenFit (forgot t id).table.forgotten
forgot_fits t id fit =
    forgot_is (λ next. ForgottenFit next.forgotten) t id (λ none. fit)
    (λ some. more_fit t.forgotten (take (forgettable t id) t.runs) fit)

-- it makes no move
pub forgot_is_silent : (t : TableState) (id : ℕ) → (forgot t id).moves ≡ []
forgot_is_silent t id =
    elim (nat_eq (forgettable t id) 0) as
    (λ b. (option_map_or (unchanged t) (if b then Some (reply.Forgotten t.forgotten.through) else None) (forgetting t id)).moves ≡ [])
    [ true ↦ refl | false ↦ refl ]

-- ---- the runs and legs of that table

module _ (k : ℕ) (t next : TableState) (dropped : Dropped k t next) where
  pub run_then : (r : ℕ) → run_at next.runs r ≡ run_at t.runs (k + r)
  run_then r = ap (λ runs. run_at runs r) dropped.runs ∙ run_dropped k t.runs r

  pub leg_then : (p : LegSite) → leg_at next.runs p ≡ leg_at t.runs (moved_leg k p)
  leg_then p = ap (λ runs. leg_at runs p) dropped.runs ∙ leg_dropped k t.runs p

  id_then : (r : ℕ) → id_in next r ≡ id_in t (k + r)
  id_then r =
      let through = dropped.through in
      let after_the_last : next.forgotten.through + r + 1 ≡ t.forgotten.through + (k + r) + 1 = omega (arith, through) in
      ap₂ (λ o n. option_map_or (λ (x : RunState). x.id) o n) (run_then r) after_the_last

  pub same_by_id_then : (h : Holder) → by_id next h ≡ by_id t (moved k h)
  same_by_id_then (Run r) = ap (λ n. Run n) (id_then r)
  same_by_id_then (Leg p) = ap (λ n. Leg (record { run = n; job = p.job; leg = p.leg })) (id_then p.run)

  pub attempt_then : (h : Holder) → attempt_of next.runs h ≡ attempt_of t.runs (moved k h)
  attempt_then (Run r) = ap (λ o. option_map_or (λ (x : RunState). x.attempt) o 1) (run_then r)
  attempt_then (Leg p) = ap (λ o. option_map_or (λ (x : RunState). x.attempt) o 1) (run_then p.run)

  status_then : (h : Holder) → status next.runs h ≡ status t.runs (moved k h)
  status_then (Run r) = ap (status_by status_of_run) (run_then r)
  status_then (Leg p) = ap (status_by status_of_leg) (leg_then p)

  unbegun_then : (h : Holder) → Unbegun t.runs (moved k h) → Unbegun next.runs h
  unbegun_then (Run r) un = λ x at. un x (sym (run_then r) ∙ at)
  unbegun_then (Leg p) un = λ z at. un z (sym (leg_then p) ∙ at)

  pub drops_of : (g : Group) → HaveEnded k t.runs → Drops g k t next
  drops_of g ended = record {
    same_id = same_by_id_then;
    same_attempt = attempt_then;
    same_status = status_then;
    same_group = (λ h. ap (λ runs. is_in runs g h) dropped.runs ∙ in_dropped k t.runs g h);
    still_unbegun = unbegun_then;
    are_over = (λ h lt. (holds_not k t.runs ended h lt, waits_not k t.runs ended h lt));
  }

pub forgot_ended : (t : TableState) (id : ℕ) → IsSound t → HaveEnded (forgettable t id) t.runs
forgot_ended t id sound = first_ended t id sound
