-- A `forget` leaves the table as it is or drops its first runs.
use Rattle.std.specs.Prelude.{◌≡◌, ◌<◌, ◌≤◌, ◌+◌, ℕ, List, drop, take, length, min, nat_eq, Bool, true, false, Some, None, if◌then◌else◌, refl}
use Rattle.std.specs.Option.{option_map_or}
use Rattle.std.proofs.Common.{arith, ap, subst, sym, ◌∙◌}
use Rattle.std.proofs.lemmas.Bool.{and_right}
use Rattle.std.proofs.lemmas.List.{length-drop, length-take-le}
use Rattle.definitions.specs.SmallText.{Admitted}
use Rattle.group_name.specs.Group.{Group}
use Rattle.run_plan.specs.declared.reply.Reply.TheVariants as reply
use Rattle.table_model.specs.Forgotten.{max_kept_deliveries, number_of_next}
use Rattle.table_model.specs.Groups.{holds, is_in, is_in_progress_in, is_pending_in, is_stop_requested, waits}
use Rattle.table_model.specs.Fitting.{is_stopping_leg}
use Rattle.table_model.specs.Holders.{run_of}
use Rattle.table_model.specs.Runs.{LegState, RunState}
use Rattle.table_model.specs.Sound.{ForgottenFit, IsSound}
use Rattle.table_model.specs.Step.{forget_answer, forgettable, forgetting, forgot, unchanged, without}
use Rattle.table_model.specs.TableState.{TableState, last_id, run_of_delivery}
use Rattle.table_model.specs.declared.holder.Holder.{Holder}
use Rattle.table_model.specs.declared.holder.Holder.TheVariants.{Run, Leg}
use Rattle.settling_laws.specs.Moved.{HoldersStay, moved, moved_by}
use Rattle.settling_laws.proofs.Dropped.{in_progress_dropped, leg_dropped, pending_dropped, run_dropped}
use Rattle.settling_laws.proofs.ForgetKeepsSound.{first_ended, first_within, forgetting_is_sound}
use Rattle.settling_laws.proofs.ForgottenMore.{next_number_stays, stays_known}
use Rattle.settling_laws.proofs.HaveEnded.{HaveEnded, holds_not, waits_not}

-- what holds of the table itself and of the table without its first runs
pub forgot_as : (P : TableState → Type 0) (t : TableState) (id : ℕ) → P t → P (without (forgettable t id) t) → P (forgot t id).table
forgot_as P t id same less =
    elim (nat_eq (forgettable t id) 0) as
    (λ b. P (option_map_or (unchanged t) (if b then Some (reply.Forgotten t.forgotten.through) else None) (forgetting t id)).table) [
      | true ↦ same
      | false ↦ less
    ]

-- ---- soundness, ids and numbers

pub forgot_is_sound : (t : TableState) (id : ℕ) → IsSound t → IsSound (forgot t id).table
forgot_is_sound t id sound = forgot_as IsSound t id sound (forgetting_is_sound t id sound)

pub last_id_stays : (t : TableState) (id : ℕ) → last_id (forgot t id).table ≡ last_id t
last_id_stays t id =
    let within = first_within t id in
    let fewer = length-drop (forgettable t id) t.runs in
    let taken = length-take-le (forgettable t id) t.runs within in
    forgot_as (λ next. last_id next ≡ last_id t) t id refl (omega (arith, within, fewer, taken))

pub number_stays : (t : TableState) (id : ℕ) (event : Admitted) → IsSound t
    → number_of_next (forgot t id).table.forgotten (forgot t id).table.runs event ≡ number_of_next t.forgotten t.runs event
number_stays t id event sound =
    forgot_as (λ next. number_of_next next.forgotten next.runs event ≡ number_of_next t.forgotten t.runs event) t id refl
    (next_number_stays (forgettable t id) t.forgotten t.runs sound.forgotten_fit event)

-- ---- deliveries

fewer_kept : (t : TableState) → ForgottenFit t.forgotten → length t.forgotten.deliveries ≤ t.forgotten.through
fewer_kept t fit = let kept = fit.last_are_kept in omega (arith, kept)

pub delivery_stays_known : (t : TableState) (id : ℕ) (delivery : List ℕ) (run : ℕ) → IsSound t → run_of_delivery t delivery ≡ Some run
    → (forgot t id).table.forgotten.through < run + max_kept_deliveries → run_of_delivery (forgot t id).table delivery ≡ Some run
delivery_stays_known t id delivery run sound known =
    let taken = length-take-le (forgettable t id) t.runs (first_within t id) in
    forgot_as (λ next. next.forgotten.through < run + max_kept_deliveries → run_of_delivery next delivery ≡ Some run) t id (λ recent. known)
    (λ recent.
    stays_known (forgettable t id) t delivery run (fewer_kept t sound.forgotten_fit) (first_within t id) known (omega (arith, recent, taken)))

-- ---- the holders of a group

moved_none : (h : Holder) → moved 0 h ≡ h
moved_none (Run r) = let at : 0 + r ≡ r = omega arith in ap (λ n. Run n) at
moved_none (Leg p) = let at : 0 + p.run ≡ p.run = omega arith in ap (λ n. Leg (record { run = n; job = p.job; leg = p.leg })) at

stop_dropped : (k : ℕ) (runs : List RunState) (h : Holder) → is_stop_requested (drop k runs) h ≡ is_stop_requested runs (moved k h)
stop_dropped k runs (Run r) = ap (λ o. option_map_or (λ (x : RunState). x.stopping) o false) (run_dropped k runs r)
stop_dropped k runs (Leg p) = ap (λ o. option_map_or (λ (x : LegState). is_stopping_leg x.phase) o false) (leg_dropped k runs p)

nothing_moved : (g : Group) (t : TableState) → HoldersStay g t t
nothing_moved g t =
    let none : moved_by t t ≡ 0 = omega arith in
    let same : (h : Holder) → h ≡ moved (moved_by t t) h = λ h. sym (ap (λ n. moved n h) none ∙ moved_none h) in
    record {
      pending = (λ h. ap (is_pending_in t.runs g) (same h));
      in_progress = (λ h. ap (is_in_progress_in t.runs g) (same h));
      stopping = (λ h. ap (is_stop_requested t.runs) (same h));
      none_pended = (λ h lt. absurd (omega (arith, lt, none)));
      none_in_progress = (λ h lt. absurd (omega (arith, lt, none)));
    }

first_dropped : (g : Group) (k : ℕ) (t : TableState) → k ≤ length t.runs → HaveEnded k t.runs → HoldersStay g t (without k t)
first_dropped g k t within ended =
    let taken = length-take-le k t.runs within in
    let by : moved_by t (without k t) ≡ k = omega (arith, taken) in
    let there : (h : Holder) → moved k h ≡ moved (moved_by t (without k t)) h = λ h. ap (λ n. moved n h) (sym by) in
    let below : (h : Holder) → run_of h < moved_by t (without k t) → run_of h < k = λ h lt. omega (arith, lt, by) in
    record {
      pending = (λ h. pending_dropped k t.runs g h ∙ ap (is_pending_in t.runs g) (there h));
      in_progress = (λ h. in_progress_dropped k t.runs g h ∙ ap (is_in_progress_in t.runs g) (there h));
      stopping = (λ h. stop_dropped k t.runs h ∙ ap (is_stop_requested t.runs) (there h));
      none_pended = (λ h lt. and_right (is_in t.runs g h) (waits t.runs h) (waits_not k t.runs ended h (below h lt)));
      none_in_progress = (λ h lt. and_right (is_in t.runs g h) (holds t.runs h) (holds_not k t.runs ended h (below h lt)));
    }

pub holders_stay : (t : TableState) (id : ℕ) (g : Group) → IsSound t → HoldersStay g t (forgot t id).table
holders_stay t id g sound =
    forgot_as (HoldersStay g t) t id (nothing_moved g t)
    (first_dropped g (forgettable t id) t (first_within t id) (first_ended t id sound))
