-- Entries of a history are taken up.
use Rattle.std.proofs.Common.{◌≡◌, ◌∙◌, ◌≤◌, ◌<◌, ◌+◌, ◌-◌, ◌^◌, ℕ, List, [], ◌∷◌, ◌++◌, length, take, drop, map, refl, sym, subst, ap, inl, inr, arith, append_assoc, append-nil, length-append, length-take}
use Rattle.std.proofs.lemmas.Bool.Decides.{nat_tests}
use Rattle.std.proofs.lemmas.Grind.{flat_map-append}
use Rattle.std.proofs.lemmas.List.{drop-append-le, map-append, take_more}
use Rattle.std.proofs.lemmas.List.Elements.{filter_map-append}
use Rattle.std.proofs.lemmas.Option.{get_or_from_slice_get, slice_get_cases, slice_get_within}
use Rattle.std.specs.Prelude.{None, Option, Some, slice_get, ◌==◌, if◌then◌else◌}
use Rattle.run_plan.specs.declared.command.Command.{Command}
use Rattle.run_plan.specs.declared.reply.Reply.{Reply}
use Rattle.act_store.specs.declared.entry.Entry.{Entry}
use Rattle.covered_log.proofs.Telling.{all_of_both}
use Rattle.covered_log.specs.Lines.{Change, entries_in, entries_of, with_all, with_more}
use Rattle.covered_log.specs.Standings.{table_news}
use Rattle.table_model.specs.TableState.{TableState}
use Rattle.service_views.specs.GivenLeases.{LeasesState, NoteOf, NotesOf}
use Rattle.service_views.specs.Following.{TellsOrForgets, cancelled_by, cancelled_in, entered, told_of}
use Rattle.service_views.specs.declared.changes.Changes.{Changes}

-- the entries from an index to the next place
pub entries_next : (history : List Entry) (from place : ℕ) (e : Entry) → from ≤ place → slice_get history place ≡ Some e
    → drop from (take (place + 1) history) ≡ drop from (take place history) ++ e ∷ []
entries_next history from place e order is =
    let within : from ≤ length (take place history) = grind (arith, length-take place history, slice_get_within history place e is) in
    ap (drop from) (take_more history place e (slice_get_within history place e is))
    ∙ ap (λ (x : Entry). drop from (take place history ++ x ∷ [])) (get_or_from_slice_get history place e e is)
    ∙ drop-append-le from (take place history) (e ∷ []) within

-- the next entry of a history is told
pub told_next : (cs : List Change) (at : ℕ) (history : List Entry) (from place : ℕ) (e : Entry) → from ≤ place → slice_get history place ≡ Some e
    → with_more (with_all cs (map (entered at) (drop from (take place history)))) (entered at e)
    ≡ with_all cs (map (entered at) (drop from (take (place + 1) history)))
told_next cs at history from place e order is =
    all_of_both cs (map (entered at) (drop from (take place history))) (entered at e ∷ [])
    ∙ ap (with_all cs) (sym (map-append (entered at) (drop from (take place history)) (e ∷ [])))
    ∙ ap (λ (es : List Entry). with_all cs (map (entered at) es)) (sym (entries_next history from place e order is))

-- one more change, for which there is room
with_room : (cs : List Change) (c : Change) → length cs + 1 < 2 ^ 64 → with_more cs c ≡ cs ++ c ∷ []
with_room cs c room = grind (arith, nat_tests, room)

-- entries that are told are taken up, if there is room for all
pub taken_up : (cs : List Change) (at : ℕ) (es : List Entry) → length cs + length es < 2 ^ 64
    → entries_of (with_all cs (map (entered at) es)) ≡ entries_of cs ++ map told_of es
taken_up cs at [] room = sym (append-nil (entries_of cs))
taken_up cs at (e ∷ es) room =
    let more : with_more cs (entered at e) ≡ cs ++ entered at e ∷ [] = with_room cs (entered at e) (omega (arith, room)) in
    let long : length (with_more cs (entered at e)) ≡ length cs + 1 =
    ap (λ (xs : List Change). length xs) more ∙ length-append cs (entered at e ∷ []) in
    let others : length (with_more cs (entered at e)) + length es < 2 ^ 64 = omega (arith, room, long) in
    taken_up (with_more cs (entered at e)) at es others
    ∙ ap (λ (xs : List Change). entries_of xs ++ map told_of es) more
    ∙ ap (λ (xs : List (Command × Reply)). xs ++ map told_of es) (flat_map-append entries_in cs (entered at e ∷ []))
    ∙ append_assoc (entries_of cs) (told_of e ∷ []) (map told_of es)

-- leases are given by some entries, and then by another
notes_more : (es : List Entry) (e : Entry) (old mid new : LeasesState) → NotesOf es old mid → NoteOf e mid new → NotesOf (es ++ e ∷ []) old new
notes_more [] e old mid new same note = (new, subst (λ (s : LeasesState). NoteOf e s new) same note, refl)
notes_more (x ∷ es) e old mid new notes note = (notes.0, notes.1, notes_more es e notes.0 mid new notes.2 note)

-- the leases of the next entry of a history
pub notes_next_name : (history : List Entry) (from place : ℕ) (e : Entry) (old mid new : LeasesState) → from ≤ place
    → slice_get history place ≡ Some e → NotesOf (drop from (take place history)) old mid → NoteOf e mid new
    → NotesOf (drop from (take (place + 1) history)) old new
notes_next_name history from place e old mid new order is notes note =
    subst (λ (es : List Entry). NotesOf es old new) (sym (entries_next history from place e order is))
    (notes_more (drop from (take place history)) e old mid new notes note)

-- what is told of a table, to those that knew how it stood before the entries
pub tells_of : (at : ℕ) (cancelled : List ℕ) (t : TableState) (changes others : List Change) (old mid new : Changes) → changes ≡ others
    → mid.standings ≡ old.standings → TellsOrForgets at cancelled t changes mid new → TellsOrForgets at cancelled t others old new
tells_of at cancelled t changes others old mid new more stands (inl tells) =
    inl (record {
      known = tells.known;
      were = sym stands ∙ tells.were;
      are = tells.are;
      told = tells.told ∙ ap (λ (cs : List Change). with_all cs (table_news at cancelled new.leases.names t tells.known)) more;
    })
tells_of at cancelled t changes others old mid new more stands (inr none) = inr none

-- the same of the same table, with the same runs that were cancelled
pub tells_same : (at : ℕ) (runs cancelled : List ℕ) (t u : TableState) (changes : List Change) (old new : Changes) → runs ≡ cancelled → t ≡ u
    → TellsOrForgets at runs t changes old new → TellsOrForgets at cancelled u changes old new
tells_same at runs cancelled t u changes old new are same tells =
    subst (λ (ids : List ℕ). TellsOrForgets at ids u changes old new) are (subst (λ (table : TableState). TellsOrForgets at runs table changes old new) same tells)

-- ---- the runs that entries have cancelled

pub cancelled_both : (es others : List Entry) → cancelled_in (es ++ others) ≡ cancelled_in es ++ cancelled_in others
cancelled_both es others = filter_map-append (λ (e : Entry). cancelled_by e.command e.reply) es others

-- those of the next entry of a history
pub cancelled_next : (history : List Entry) (from place : ℕ) (e : Entry) → from ≤ place → slice_get history place ≡ Some e
    → cancelled_in (drop from (take place history)) ++ cancelled_in (e ∷ []) ≡ cancelled_in (drop from (take (place + 1) history))
cancelled_next history from place e order is =
    sym (cancelled_both (drop from (take place history)) (e ∷ [])) ∙ ap cancelled_in (sym (entries_next history from place e order is))

-- ---- one change

-- the entry at a place counted from 1 is that at an index
pub found_at : (history : List Entry) (index : ℕ) (found : Option Entry)
    → found ≡ (if index + 1 == 0 then None else slice_get history (index + 1 - 1)) → found ≡ slice_get history index
found_at history index found at = grind (arith, at)

-- where there is no entry a history has ended
pub none_is_past : (history : List Entry) (index : ℕ) → slice_get history index ≡ None → length history ≤ index
none_is_past history index none = grind (arith, none, slice_get_cases history index)
