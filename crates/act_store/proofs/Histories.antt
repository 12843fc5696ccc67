-- A history with one more entry.
use Rattle.std.proofs.Common.{◌≡◌, ℕ, List, [], ◌∷◌, ◌++◌, take, drop, refl, sym, ◌∙◌, ap, take-append-drop}
use Rattle.std.proofs.lemmas.List.{map-append}
use Rattle.run_plan.specs.declared.command.Command.{Command}
use Rattle.run_plan.specs.declared.reply.Reply.{Reply}
use Rattle.table_model.specs.Step.{after, replies, stepped}
use Rattle.table_model.specs.TableState.{TableState}
use Rattle.table_laws.proofs.LeasesStay.{after_both}
use Rattle.act_store.specs.Entries.{commands_of, table_after, IsLegal}
use Rattle.act_store.specs.declared.entry.Entry.{Entry}

replies-append : (t : TableState) (xs ys : List Command) → replies t (xs ++ ys) ≡ replies t xs ++ replies (after t xs) ys
replies-append t [] ys = refl
replies-append t (x ∷ xs) ys = ap (λ (l : List Reply). (stepped t x).reply ∷ l) (replies-append (stepped t x).table xs ys)

pub commands-append : (one two : List Entry) → commands_of (one ++ two) ≡ commands_of one ++ commands_of two
commands-append one two = map-append (λ (e : Entry). e.command) one two

pub table-append : (base : TableState) (one two : List Entry) → table_after base (one ++ two) ≡ table_after (table_after base one) two
table-append base one two =
    ap (λ (l : List Command). after base l) (commands-append one two) ∙ after_both base (commands_of one) (commands_of two)

-- the table after all entries is the one after the first n, advanced by the rest
pub table_split : (base : TableState) (n : ℕ) (history : List Entry)
    → after (table_after base (take n history)) (commands_of (drop n history)) ≡ table_after base history
table_split base n history =
    sym (table-append base (take n history) (drop n history))
    ∙ ap (λ (l : List Entry). table_after base l) (take-append-drop n history)

-- an entry with the reply of its step
pub legal_more : (base : TableState) (history : List Entry) (entry : Entry) → IsLegal base history
    → entry.reply ≡ (stepped (table_after base history) entry.command).reply → IsLegal base (history ++ entry ∷ [])
legal_more base history entry legal reply =
    map-append (λ (e : Entry). e.reply) history (entry ∷ [])
    ∙ ap (λ (l : List Reply). l ++ entry.reply ∷ []) legal
    ∙ ap (λ (r : Reply). replies base (commands_of history) ++ r ∷ []) reply
    ∙ sym (replies-append base (commands_of history) (entry.command ∷ []))
    ∙ ap (λ (l : List Command). replies base l) (sym (commands-append history (entry ∷ [])))

pub table_more : (base : TableState) (history : List Entry) (entry : Entry)
    → table_after base (history ++ entry ∷ []) ≡ (stepped (table_after base history) entry.command).table
table_more base history entry = table-append base history (entry ∷ [])
