-- What is known of a command once it is entered: the reply is one that its step gives, and the entry is the last of the history.
use Rattle.std.proofs.Common.{◌≡◌, ℕ, ◌+◌, ◌-◌, ◌==◌, false, List, [], ◌∷◌, ◌++◌, length, Option, None, Some, sym, ap, subst, ◌∙◌, arith, length-append}
use Rattle.std.specs.Prelude.{if◌then◌else◌, slice_get}
use Rattle.std.proofs.Math.Seq.{get_or-append_seam}
use Rattle.std.proofs.lemmas.Bool.Decides.{nat_tests}
use Rattle.std.proofs.lemmas.Option.{slice_get-get_or}
use Rattle.run_plan.specs.declared.command.Command.{Command}
use Rattle.act_store.specs.Plain.{entered, entry_of, receipt_of}
use Rattle.act_store.specs.StoreState.{StoreState, table_of}
use Rattle.act_store.specs.declared.entry.Entry.{Entry}
use Rattle.act_store.specs.declared.receipt.Receipt.{Receipt}
use Rattle.act_desk.specs.Shown.{IsReplyTo}
use Rattle.act_desk.proofs.Prefixes.{get_last}

last_is_entered : (history : List Entry) (e : Entry) → slice_get (history ++ e ∷ []) (length history + 1 - 1) ≡ Some e
last_is_entered history e =
    let long = length-append history (e ∷ []) in
    let place : length history + 1 - 1 ≡ length history = omega arith in
    ap (slice_get (history ++ e ∷ [])) place ∙ slice_get-get_or (history ++ e ∷ []) (length history) e (omega arith)
    ∙ ap Some (get_or-append_seam history e [] e)

pub in_history : {D : Type 0} (s t : StoreState D) (command : Command) (seat : ℕ) (receipt : Receipt) (prefix : List Entry)
    → t ≡ entered s seat command → receipt ≡ receipt_of s command → prefix ≡ t.history
    → slice_get prefix (receipt.place - 1) ≡ Some (record { seat = seat; command = command; reply = receipt.reply })
in_history {D} s t command seat receipt prefix new given same =
    subst (λ (r : Receipt). slice_get prefix (r.place - 1) ≡ Some (record { seat = seat; command = command; reply = r.reply })) (sym given)
    (ap (λ (f : List Entry). slice_get f (length s.history + 1 - 1)) (same ∙ ap (λ (u : StoreState D). u.history) new)
    ∙ last_is_entered s.history (entry_of s seat command))

pub gives_reply : {D : Type 0} (s : StoreState D) (command : Command) (receipt : Receipt) → receipt ≡ receipt_of s command
    → IsReplyTo command receipt.reply
gives_reply s command receipt given = (table_of s, ap (λ (r : Receipt). r.reply) given)

-- the last entry of a history, counted from 1
pub last_entry : (history before : List Entry) (e : Entry) (n : ℕ) (found : Option Entry) → history ≡ before ++ e ∷ [] → n ≡ length history
    → found ≡ (if n == 0 then None else slice_get history (n - 1)) → found ≡ Some e
last_entry history before e n found is count given =
    let long : n ≡ length before + 1 = count ∙ ap length is ∙ length-append before (e ∷ []) in
    let some : (n == 0) ≡ false = grind (arith, nat_tests) in
    let place : n - 1 ≡ length before = omega (arith, long) in
    given ∙ ap (λ b. if b then None else slice_get history (n - 1)) some ∙ ap (slice_get history) place
    ∙ ap (λ h. slice_get h (length before)) is ∙ get_last before e
