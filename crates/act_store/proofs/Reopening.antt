-- What is found of an acknowledged entry after any number of crashes and reopenings.
use Rattle.std.proofs.Common.{◌≡◌, ⊎_elim, ℕ, zero, suc, ◌+◌, ◌-◌, ◌<◌, ◌≤◌, List, [], ◌∷◌, ◌++◌, length, take, drop, sym, ◌∙◌, ap, subst, arith}
use Rattle.std.proofs.Common.{append_assoc, append-nil, length-append}
use Rattle.std.proofs.lemmas.List.{drop_at, length-map}
use Rattle.definitions.specs.SmallText.{Admitted}
use Rattle.run_plan.specs.declared.command.Attempt.{Attempt}
use Rattle.run_plan.specs.declared.command.Command.{Command}
use Rattle.run_plan.specs.declared.command.Command.TheVariants as command
use Rattle.run_plan.specs.declared.reply.Reply.{Reply}
use Rattle.run_plan.specs.declared.reply.Reply.TheVariants as reply
use Rattle.table_model.specs.Sound.{ForgottenFit}
use Rattle.table_model.specs.Step.{after, replies, step, stepped}
use Rattle.table_model.specs.TableState.{TableState}
use Rattle.table_laws.specs.ExactlyOnce.{HasNumber, IsRefused}
use Rattle.table_laws.specs.Remembered.{AreNoDischarges, AreNoLaterNumbers, AreNoOtherAttempts, IsNotForgotten, KeepsDeliveryOf, KnowsAttempt}
use Rattle.table_laws.specs.Remembered.{KnowsDelivery, LastCommandIs, reply_then}
use Rattle.table_laws.proofs.Deliveries.{created_is_known, known_after, known_is_answered}
use Rattle.table_laws.proofs.KnownAttempts.{attempt_after, begun_is_known, known_attempt_is_answered}
use Rattle.table_laws.proofs.LeasesStay.{after_both}
use Rattle.table_laws.proofs.Remembered.{answered_is_last, last_after, last_is_answered}
use Rattle.table_laws.proofs.StepsStay.{fits_after, fits_then}
use Rattle.act_store.specs.Entries.{IsLegal, commands_of, replies_of, table_after}
use Rattle.act_store.specs.Reopened.{FindsAgain, IsAcknowledged, LeadTo, Life, requested_in}
use Rattle.act_store.specs.declared.entry.Entry.{Entry}
use Rattle.act_store.proofs.Histories.{commands-append}
use Rattle.act_store.proofs.OneTable.{one_table}

-- ---- the reply of an entry

legal_at : (base : TableState) (before suffix : List Entry) (entry : Entry) → IsLegal base (before ++ entry ∷ suffix)
    → entry.reply ≡ (stepped (table_after base before) entry.command).reply
legal_at base [] suffix entry legal = cc legal
legal_at base (e ∷ before) suffix entry legal =
    let rest : replies_of (before ++ entry ∷ suffix) ≡ replies (stepped base e.command).table (commands_of (before ++ entry ∷ suffix)) =
    cc legal in
    legal_at (stepped base e.command).table before suffix entry rest

-- ---- the table at the end of the lives

found_is : (left found : TableState) → FindsAgain left found → found ≡ left
found_is left found again =
    ⊎_elim (λ same. same) (λ stood. one_table stood.0 found left stood.2 stood.1) again

recovers_after : (life : Life) (lives : List Life) (table : TableState) (leads : LeadTo life lives table)
    → table ≡ after life.base (requested_in life lives table leads)
recovers_after life [] table leads = found_is (table_after life.base (take leads.count life.history)) table leads.found
recovers_after life (next ∷ lives) table leads =
    let first = commands_of (take leads.0.count life.history) in
    let others = requested_in next lives table leads.1 in
    recovers_after next lives table leads.1
    ∙ ap (λ (t : TableState). after t others) (found_is (after life.base first) next.base leads.0.found)
    ∙ sym (after_both life.base first others)

prefix_at : (before suffix : List Entry) (entry : Entry) (count : ℕ) → length before < count
    → take count (before ++ entry ∷ suffix) ≡ before ++ entry ∷ take (count - length before - 1) suffix
prefix_at [] suffix entry zero less = absurd (omega (arith, less))
prefix_at [] suffix entry (suc count) less = ap (λ (n : ℕ). entry ∷ take n suffix) (omega arith)
prefix_at (e ∷ before) suffix entry zero less = absurd (omega (arith, less))
prefix_at (e ∷ before) suffix entry (suc count) less =
    let same : suc count - length (e ∷ before) - 1 ≡ count - length before - 1 = omega arith in
    ap (λ (l : List Entry). e ∷ l) (prefix_at before suffix entry count (omega (arith, less)))
    ∙ ap (λ (n : ℕ). e ∷ before ++ entry ∷ take n suffix) (sym same)

module _ (life : Life) (before suffix : List Entry) (entry : Entry) (acknowledged : IsAcknowledged life before entry suffix) where
  -- an acknowledged entry is among the recovered ones
  kept : (count : ℕ) (more : List Command) → life.covered ≤ count
      → commands_of (take count life.history) ++ more
      ≡ commands_of before ++ entry.command ∷ (commands_of (take (count - length before - 1) suffix) ++ more)
  kept count more from =
      ap (λ (l : List Entry). commands_of l ++ more)
      (ap (λ (l : List Entry). take count l) acknowledged.is_at
      ∙ prefix_at before suffix entry count (omega (arith, acknowledged.covered, from)))
      ∙ ap (λ (l : List Command). l ++ more)
      (commands-append before (entry ∷ take (count - length before - 1) suffix))
      ∙ append_assoc (commands_of before) (entry.command ∷ commands_of (take (count - length before - 1) suffix)) more

  after_it : (requested rest : List Command) → requested ≡ commands_of before ++ entry.command ∷ rest
      → requested ≡ commands_of before ++ entry.command ∷ drop (length before + 1) requested
  after_it requested rest is =
      let prefix = commands_of before ++ entry.command ∷ [] in
      let parts : requested ≡ prefix ++ rest = is ∙ sym (append_assoc (commands_of before) (entry.command ∷ []) rest) in
      let long : length prefix ≡ length before + 1 =
      omega (arith, length-append (commands_of before) (entry.command ∷ []), length-map before (λ (e : Entry). e.command)) in
      is ∙ ap (λ (l : List Command). commands_of before ++ entry.command ∷ l)
      (sym (ap (λ (l : List Command). drop (length before + 1) l) parts ∙ drop_at prefix rest (length before + 1) long))

  requested_parts : (lives : List Life) (table : TableState) (leads : LeadTo life lives table)
      → requested_in life lives table leads
      ≡ commands_of before ++ entry.command ∷ drop (length before + 1) (requested_in life lives table leads)
  requested_parts [] table leads =
      let requested = commands_of (take leads.count life.history) in
      after_it requested (commands_of (take (leads.count - length before - 1) suffix) ++ [])
      (sym (append-nil requested) ∙ kept leads.count [] leads.from)
  requested_parts (next ∷ lives) table leads =
      let others = requested_in next lives table leads.1 in
      after_it (commands_of (take leads.0.count life.history) ++ others)
      (commands_of (take (leads.0.count - length before - 1) suffix) ++ others) (kept leads.0.count others leads.0.from)

  first_legal : (lives : List Life) (table : TableState) → LeadTo life lives table → IsLegal life.base life.history
  first_legal [] table leads = leads.legal
  first_legal (next ∷ lives) table leads = leads.0.legal

  -- ---- the laws of the table's steps, for the recovered table

  module _ (lives : List Life) (table : TableState) (leads : LeadTo life lives table) where
    abbrev here : TableState
    here = table_after life.base before

    abbrev later : List Command
    later = drop (length before + 1) (requested_in life lives table leads)

    told : entry.reply ≡ (stepped here entry.command).reply
    told =
        legal_at life.base before suffix entry
        (subst (λ (l : List Entry). IsLegal life.base l) acknowledged.is_at (first_legal lives table leads))

    found : table ≡ after (stepped here entry.command).table later
    found =
        recovers_after life lives table leads ∙ ap (λ (l : List Command). after life.base l) (requested_parts lives table leads)
        ∙ after_both life.base (commands_of before) (entry.command ∷ later)

    -- an admission that is repeated
    pub delivery_again : (id : ℕ) (event again : Admitted) → ForgottenFit life.base.forgotten → entry.command ≡ command.Admit event
        → entry.reply ≡ reply.Created id → again.delivery ≡ event.delivery → KeepsDeliveryOf table id
        → step table (command.Admit again) ≡ (table, reply.Created id)
    delivery_again id event again fit requested created same keeps =
        let fit_here : ForgottenFit here.forgotten = fits_after life.base (commands_of before) fit in
        let given : (stepped here (command.Admit event)).reply ≡ reply.Created id =
        ap (λ (c : Command). (stepped here c).reply) (sym requested) ∙ sym told ∙ created in
        let is : after (stepped here (command.Admit event)).table later ≡ table =
        ap (λ (c : Command). after (stepped here c).table later) (sym requested) ∙ sym found in
        let known : KnowsDelivery table event.delivery id =
        subst (λ (x : TableState). KnowsDelivery x event.delivery id) is
        (known_after (stepped here (command.Admit event)).table later event.delivery id (fits_then here (command.Admit event) fit_here)
        (created_is_known here event id fit_here given)
        (subst (λ (x : TableState). KeepsDeliveryOf x id) (sym is) keeps)) in
        known_is_answered table again id (subst (λ (d : List ℕ). KnowsDelivery table d id) (sym same) known)

    -- a runner's command
    pub reply_again : (name : List ℕ) (number : ℕ) → HasNumber entry.command name number → (IsRefused entry.reply → ⊥)
        → AreNoLaterNumbers name number later (replies (stepped here entry.command).table later)
        → AreNoDischarges name later (replies (stepped here entry.command).table later)
        → step table entry.command ≡ (table, reply_then (stepped here entry.command).table table entry.reply)
    reply_again name number numbered taken no_later no_discharge =
        let next = (stepped here entry.command).table in
        let given = (stepped here entry.command).reply in
        let known = answered_is_last here entry.command name number numbered (λ refused. taken (refused.0, told ∙ refused.1)) in
        let still = last_after entry.command name number given numbered next later known no_later no_discharge in
        last_is_answered table entry.command name (reply_then next table entry.reply)
        (subst (λ (r : Reply). LastCommandIs table name entry.command (reply_then next table r)) (sym told)
        (subst (λ (x : TableState). LastCommandIs x name entry.command (reply_then next x given)) (sym found) still))

    -- a re-run
    pub attempt_again : (requested : Attempt) → entry.command ≡ command.Rerun requested → entry.reply ≡ reply.Again requested
        → AreNoOtherAttempts requested.run requested.attempt later (replies (stepped here entry.command).table later)
        → IsNotForgotten table requested.run → step table (command.Rerun requested) ≡ (table, reply.Again requested)
    attempt_again requested is given no_others there =
        let next = (stepped here entry.command).table in
        let answered : (stepped here (command.Rerun requested)).reply ≡ reply.Again requested =
        ap (λ (c : Command). (stepped here c).reply) (sym is) ∙ sym told ∙ given in
        let known : KnowsAttempt next requested.run requested.attempt =
        subst (λ (c : Command). KnowsAttempt (stepped here c).table requested.run requested.attempt) (sym is)
        (begun_is_known here requested answered) in
        known_attempt_is_answered table requested
        (subst (λ (x : TableState). KnowsAttempt x requested.run requested.attempt) (sym found)
        (attempt_after next later requested.run requested.attempt known no_others
        (subst (λ (x : TableState). IsNotForgotten x requested.run) found there)))
