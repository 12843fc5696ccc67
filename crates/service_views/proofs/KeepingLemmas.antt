-- What is kept after one more entry.
use Rattle.std.proofs.Common.{◌≡◌, ◌∙◌, ◌≤◌, ◌+◌, ◌<◌, ℕ, List, [], ◌∷◌, ◌++◌, length, take, drop, map, ap, refl, sym, subst, arith, append_assoc, length-take, inl, inr}
use Rattle.std.proofs.lemmas.Bool.{leb-false, leb-true}
use Rattle.std.proofs.lemmas.List.{drop_all, map-append}
use Rattle.std.proofs.lemmas.Slice.Eq.{bytes_eq-Decides}
use Rattle.std.specs.HashMap.{get_by_text}
use Rattle.std.specs.Option.{option_map_or}
use Rattle.std.specs.Str.{bytes_eq}
use Rattle.std.specs.Prelude.{Bool, true, false, cond, nat_le, None, Option, Some, slice_get, if◌then◌else◌}
use Rattle.std.specs.declared.time.Instant.{Instant}
use Rattle.run_plan.specs.declared.command.Command.{Command}
use Rattle.run_plan.specs.declared.command.Command.TheVariants as command
use Rattle.run_plan.specs.declared.reply.Reply.{Reply}
use Rattle.act_store.specs.declared.entry.Entry.{Entry}
use Rattle.service_metrics.specs.Counters.{CountersState, counters_of}
use Rattle.service_views.proofs.FollowingLemmas.{entries_next}
use Rattle.service_views.specs.Keeping.{Counts, HeardAfter, HeardAt, HeardBy, HeardOrNot, Notes, comes_from, is_discharged, runner_of, with_entries}
use Rattle.service_views.specs.declared.kept.Kept.{Kept}

-- ---- who was heard

-- after some entries, and then others
heard_both : (now : Instant) (name : List ℕ) (xs ys : List Entry) (old mid new : Option Instant) → HeardAfter now name xs old mid
    → HeardAfter now name ys mid new → HeardAfter now name (xs ++ ys) old new
heard_both now name [] ys old mid new same second = subst (λ (o : Option Instant). HeardAfter now name ys o new) same second
heard_both now name (x ∷ xs) ys old mid new first second =
    (first.0, first.1, heard_both now name xs ys first.0 mid new first.2 second)

-- an entry that discharges a runner comes from none
discharges_alone : (q : List ℕ) (c : Command) (r : Reply) → is_discharged q c r ≡ true → runner_of c ≡ None
discharges_alone q (command.Admit event) r is = absurd (cc is)
discharges_alone q (command.Claim claim) r is = absurd (cc is)
discharges_alone q (command.Done done) r is = absurd (cc is)
discharges_alone q (command.Beat beat) r is = absurd (cc is)
discharges_alone q (command.Cancel run) r is = absurd (cc is)
discharges_alone q (command.Lost runner) r is = absurd (cc is)
discharges_alone q (command.Look run) r is = absurd (cc is)
discharges_alone q (command.Fetch run) r is = absurd (cc is)
discharges_alone q (command.Rerun attempt) r is = absurd (cc is)
discharges_alone q (command.Forget run) r is = absurd (cc is)
discharges_alone q (command.Discharge runner) r is = refl

-- after an entry that discharges a runner
pub heard_discharged : (runner name : List ℕ) (now : Instant) (e : Entry) (old new : Option Instant)
    → ((q : List ℕ) → bytes_eq runner q ≡ is_discharged q e.command e.reply) → new ≡ (if bytes_eq runner name then None else old)
    → HeardAfter now name (e ∷ []) old new
heard_discharged runner name now e old new discharges is = (new, by (bytes_eq runner name) refl, refl)
  where
    none : runner_of e.command ≡ None
    none = discharges_alone runner e.command e.reply (sym (discharges runner) ∙ (bytes_eq-Decides runner runner).1 refl)

    by : (b : Bool) → bytes_eq runner name ≡ b → HeardBy now name e old new
    by true same = subst (λ (b : Bool). HeardOrNot b (comes_from name e) now old new) (sym same ∙ discharges name)
        (is ∙ ap (λ (b : Bool). if b then None else old) same)
    by false other = subst (λ (b : Bool). HeardOrNot b (comes_from name e) now old new) (sym other ∙ discharges name)
        (subst (λ (r : Option (List ℕ)). HeardAt (option_map_or (λ r. bytes_eq r name) r false) now old new) (sym none)
        (is ∙ ap (λ (b : Bool). if b then None else old) other))

-- a map in which the runner has this time, and all others have theirs
pub heard_from_update : (b : Bool) (now : Instant) (old new : Option Instant) → new ≡ cond b (Some now) old → HeardAt b now old new
heard_from_update true now old new is = inl is
heard_from_update false now old new is = is

stays_unknown : (b : Bool) (now : Instant) (old new : Option Instant) → new ≡ old → (b ≡ true → old ≡ None) → HeardAt b now old new
stays_unknown true now old new same none = inr (none refl, same ∙ none refl)
stays_unknown false now old new same none = same

-- where nothing changes, and the runner was not known
pub heard_if_unknown : (runner name : List ℕ) (now : Instant) (old new : List ℕ → Option Instant)
    → old runner ≡ None → ((q : List ℕ) → new q ≡ old q) → HeardAt (bytes_eq runner name) now (old name) (new name)
heard_if_unknown runner name now old new none same =
    stays_unknown (bytes_eq runner name) now (old name) (new name) (same name) (λ is. ap old (sym ((bytes_eq-Decides runner name).0 is)) ∙ none)

-- ---- what is counted

counts_both : (xs ys : List Entry) (old mid new : CountersState) → Counts xs old mid → Counts ys mid new → Counts (xs ++ ys) old new
counts_both xs ys old mid new first second = λ done is.
    let both : (done.replies ++ map (λ (e : Entry). e.reply) xs) ++ map (λ (e : Entry). e.reply) ys ≡ done.replies ++ map (λ (e : Entry). e.reply) (xs ++ ys) =
    append_assoc done.replies _ _ ∙ ap (λ (rs : List Reply). done.replies ++ rs) (sym (map-append (λ (e : Entry). e.reply) xs ys)) in
    second (with_entries done xs) (first done is) ∙ ap (λ (replies : List Reply). counters_of (record { replies = replies; commits = done.commits })) both

-- ---- both

notes_both : (xs ys : List Entry) (now : Instant) (old mid new : Kept) → Notes xs now old mid → Notes ys now mid new → Notes (xs ++ ys) now old new
notes_both xs ys now old mid new first second = record {
  counts = counts_both xs ys old.counters mid.counters new.counters first.counts second.counts;
  hears = λ name. heard_both now name xs ys _ (get_by_text mid.heard name) _ (first.hears name) (second.hears name);
  changes = second.changes ∙ first.changes;
  began = second.began ∙ first.began;
  first = second.first ∙ first.first;
}

-- the next entry of a history
pub notes_next : (history : List Entry) (from place : ℕ) (e : Entry) (now : Instant) (old mid new : Kept) → from ≤ place → slice_get history place ≡ Some e
    → Notes (drop from (take place history)) now old mid → Notes (e ∷ []) now mid new → Notes (drop from (take (place + 1) history)) now old new
notes_next history from place e now old mid new order is first more =
    subst (λ (es : List Entry). Notes es now old new) (sym (entries_next history from place e order is))
    (notes_both (drop from (take place history)) (e ∷ []) now old mid new first more)

-- no entry is between places that are not in order
nothing_left : (history : List Entry) (taken n : ℕ) → n ≤ taken → drop taken (take n history) ≡ []
nothing_left history taken n few =
    let short : length (take n history) ≤ taken = omega (arith, length-take n history, few) in
    drop_all taken (take n history) short

-- the last entry of those that are covered
pub notes_end : (history : List Entry) (taken place covered : ℕ) (now : Instant) (old new : Kept) → covered ≤ place → (taken ≤ covered → place ≤ covered)
    → (covered < taken → place ≡ taken) → Notes (drop taken (take place history)) now old new → Notes (drop taken (take covered history)) now old new
notes_end history taken place covered now old new past within stays notes = by (nat_le taken covered) refl
  where
    by : (b : Bool) → nat_le taken covered ≡ b → Notes (drop taken (take covered history)) now old new
    by true is =
        let order : place ≤ covered = within (leb-true taken covered is) in
        let same : place ≡ covered = omega (arith, past, order) in
        subst (λ (n : ℕ). Notes (drop taken (take n history)) now old new) same notes
    by false is =
        let less : covered < taken = leb-false taken covered is in
        let same : place ≡ taken = stays less in
        let at_end : place ≤ taken = omega (arith, same) in
        let before : covered ≤ taken = omega (arith, less) in
        subst (λ (es : List Entry). Notes es now old new) (nothing_left history taken place at_end ∙ sym (nothing_left history taken covered before)) notes
