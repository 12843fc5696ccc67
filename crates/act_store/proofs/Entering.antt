-- The effect of one more entry.
use Rattle.std.proofs.Common.{◌≡◌, inl, inr, ◌+◌, ◌<◌, ◌≤◌, ◌^◌, Bool, List, [], ◌∷◌, ◌++◌, length, drop, false}
use Rattle.std.proofs.Common.{sym, ◌∙◌, ap, subst, arith, length-append}
use Rattle.std.specs.Prelude.{Some, None, if◌then◌else◌, nat_le, nat_lt}
use Rattle.std.specs.List.{AllByRecursion}
use Rattle.std.proofs.lemmas.Bool.{cases_Bool, leb-false, ltb-false}
use Rattle.std.proofs.lemmas.List.{drop-append-le, length-drop, length-map}
use Rattle.run_plan.specs.declared.command.Command.{Command}
use Rattle.table_model.specs.Step.{stepped}
use Rattle.table_model.specs.TableState.{TableState}
use Rattle.command_encodings.specs.Commands.{IsEncoded, command_bytes}
use Rattle.act_store.specs.Entries.{IsLegal, commands_of, table_after}
use Rattle.act_store.specs.Layouts.{HasCommand, has_command}
use Rattle.act_store.specs.StoreState.{StoreState, pending_commands, table_of}
use Rattle.act_store.specs.Plain.{area_full, failed_earlier, history_full, old_layout, record_end, refusal_of_apply, refusal_of_form, refusal_of_room}
use Rattle.act_store.specs.inner.Promise.{IsCounted}
use Rattle.act_store.specs.PendingBatch.{BatchState, batch_state_of, with_command}
use Rattle.act_store.specs.declared.entry.Entry.{Entry}
use Rattle.act_store.proofs.Histories.{commands-append, legal_more, table_more}
use Rattle.act_store.proofs.Meanings.{all_push}
use Rattle.act_store.proofs.Records.{length_with, waits_more}

-- what is known of a command that is not refused
pub record IsAdmitted {D : Type 0} (s : StoreState D) (command : Command) : Type 0 where
  pub live : s.failed ≡ false
  pub fewer : length s.history < 100000
  pub has : HasCommand s.layout command
  pub room : record_end s (pending_commands s ++ command ∷ []) ≤ s.area

module _ {D : Type 0} (s : StoreState D) (command : Command) where
  has_room : refusal_of_room s command ≡ None → record_end s (pending_commands s ++ command ∷ []) ≤ s.area
  has_room none = elim (cases_Bool (nat_lt s.area (record_end s (pending_commands s ++ command ∷ [])))) [
    | inl full ↦ absurd (cc (sym (ap (λ (b : Bool). if b then Some area_full else None) full) ∙ none))
    | inr fits ↦ ltb-false s.area (record_end s (pending_commands s ++ command ∷ [])) fits
  ]

  has_form : refusal_of_form s command ≡ None → HasCommand s.layout command × (refusal_of_room s command ≡ None)
  has_form none = elim (cases_Bool (has_command s.layout command)) [
    | inl has ↦ (has, sym (ap (λ (b : Bool). if b then refusal_of_room s command else Some old_layout) has) ∙ none)
    | inr old ↦ absurd (cc (sym (ap (λ (b : Bool). if b then refusal_of_room s command else Some old_layout) old) ∙ none))
  ]

  has_few : (if nat_le 100000 (length s.history) then Some history_full else refusal_of_form s command) ≡ None
      → (length s.history < 100000) × (refusal_of_form s command ≡ None)
  has_few none = elim (cases_Bool (nat_le 100000 (length s.history))) [
    | inl full ↦ absurd (cc (sym (ap (λ (b : Bool). if b then Some history_full else refusal_of_form s command) full) ∙ none))
    | inr fewer ↦ (
      leb-false 100000 (length s.history) fewer,
      sym (ap (λ (b : Bool). if b then Some history_full else refusal_of_form s command) fewer) ∙ none,
    )
  ]

  pub is_admitted : refusal_of_apply s command ≡ None → IsAdmitted s command
  is_admitted none =
      let rest = if nat_le 100000 (length s.history) then Some history_full else refusal_of_form s command in
      elim (cases_Bool s.failed) [
        | inl failed ↦ absurd (cc (sym (ap (λ (b : Bool). if b then Some failed_earlier else rest) failed) ∙ none))
        | inr live ↦ (
            let few = has_few (sym (ap (λ (b : Bool). if b then Some failed_earlier else rest) live) ∙ none) in
            let form = has_form few.1 in
            record { live = live; fewer = few.0; has = form.0; room = has_room form.1 }
            )
      ]

-- A command that is not refused can be added to the pending ones.
module _ {D : Type 0} (s : StoreState D) (table : TableState) (pending_batch : BatchState) (counted : IsCounted s table pending_batch) (command : Command)
    (admitted : IsAdmitted s command) where
  pub few_wait : pending_batch.count + 1 < 2 ^ 32
  few_wait =
      omega (
        arith,
        ap (λ (w : BatchState). w.count) counted.pending_batch_is,
        length-map (drop s.covered s.history) (λ (e : Entry). e.command),
        length-drop s.covered s.history,
        admitted.fewer,
      )

  pub record_is_short : 4 + length pending_batch.encoded + length (command_bytes command) < 2 ^ 32
  record_is_short =
      omega (
        arith,
        ap (λ (w : BatchState). length w.encoded) counted.pending_batch_is,
        length_with (pending_commands s) command,
        admitted.room,
        counted.size.most,
      )

module _ {D : Type 0} (s : StoreState D) (table : TableState) (pending_batch : BatchState) (counted : IsCounted s table pending_batch)
    (command : Command) (entry : Entry) (history : List Entry) (requested : entry.command ≡ command)
    (reply : entry.reply ≡ (stepped table command).reply) (is : history ≡ s.history ++ entry ∷ []) where
  pending_more : commands_of (drop s.covered history) ≡ pending_commands s ++ command ∷ []
  pending_more =
      ap (λ (l : List Entry). commands_of (drop s.covered l)) is
      ∙ ap (λ (l : List Entry). commands_of l) (drop-append-le s.covered s.history (entry ∷ []) counted.covers)
      ∙ commands-append (drop s.covered s.history) (entry ∷ [])
      ∙ ap (λ (c : Command). pending_commands s ++ c ∷ []) requested

  long : length history ≡ length s.history + 1
  long = omega (arith, ap (λ (l : List Entry). length l) is, length-append s.history (entry ∷ []))

  told : entry.reply ≡ (stepped (table_of s) entry.command).reply
  told = reply ∙ ap (λ (t : TableState). (stepped t command).reply) counted.table_is
      ∙ ap (λ (c : Command). (stepped (table_of s) c).reply) (sym requested)

  pub counted_entered : (more : BatchState) → more ≡ with_command pending_batch command → IsEncoded command
      → IsAdmitted s command → IsCounted (record s { history = history }) (stepped table command).table more
  counted_entered more added encoded admitted = record {
    sound = counted.sound;
    legal = subst (λ (l : List Entry). IsLegal s.base l) (sym is) (legal_more s.base s.history entry counted.legal told);
    table_is =
        ap (λ (t : TableState). (stepped t command).table) counted.table_is
        ∙ ap (λ (c : Command). (stepped (table_of s) c).table) (sym requested)
        ∙ sym (table_more s.base s.history entry) ∙ ap (λ (l : List Entry). table_after s.base l) (sym is);
    covers = omega (arith, long, counted.covers);
    most = omega (arith, long, admitted.fewer);
    size = counted.size;
    gate_fits = counted.gate_fits;
    record_fits =
        λ _. subst (λ (cs : List Command). record_end s cs ≤ s.area) (sym pending_more) admitted.room;
    encoded = subst (λ (cs : List Command). AllByRecursion IsEncoded cs) (sym pending_more)
        (all_push IsEncoded (pending_commands s) command counted.encoded encoded);
    in_layout = subst (λ (cs : List Command). AllByRecursion (HasCommand s.layout) cs) (sym pending_more)
        (all_push (HasCommand s.layout) (pending_commands s) command counted.in_layout admitted.has);
    pending_batch_is =
        added ∙ ap (λ (w : BatchState). with_command w command) counted.pending_batch_is ∙ waits_more (pending_commands s) command
        ∙ ap batch_state_of (sym pending_more);
  }
