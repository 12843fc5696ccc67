use Rattle.std.proofs.Common.{◌≡◌, ℕ, ◌∷◌, ◌++◌, ◌+◌, [], Bool, List, Some, false, length, length-append, if◌then◌else◌, not, slice_get, sym, subst, ap, ◌∙◌, rules}
use Rattle.std.specs.List.{list_any}
use Rattle.run_marks.specs.Marked.{Covers}
use Rattle.label_lists.specs.inner.Known.{AreMarked, KnownState, OnlyEnters}
use Rattle.label_lists.specs.Known.{requests_at, offers_at}
use Rattle.label_lists.specs.inner.Labels.{labels_eq}
use Rattle.label_lists.proofs.Entering.{requested_appended, list_stays, offers_appended, own_place}
use Rattle.label_lists.proofs.Marked.{marked_appended}
use Rattle.label_lists.proofs.SameLabels.{each_once, nowhere, one_list}
use Rattle.label_lists.proofs.known_lists.KnownLists.enter_list.Goals as goal
use Rattle.label_lists.proofs.known_lists.KnownLists.enter_list.Goals.{In_ok-number}

-- the list is new
is_new : (c : In_ok-number) → list_any (labels_eq c.in_ok-copy.copy) c.self.inside.lists.keys ≡ false
is_new c =
    let same : c.in_ok-copy.copy ≡ c.args.labels.now = search rules in
    nowhere c.self.inside.lists.keys c.in_ok-copy.copy
    (subst (λ (labels : List (List ℕ)). (k : ℕ) → slice_get c.self.inside.lists.keys k ≡ Some labels → ⊥) (sym same)
    (subst (λ (s : KnownState). (k : ℕ) → slice_get s.lists k ≡ Some c.args.labels.now → ⊥) (sym c.self.view_is) c.requires))

there : (c : In_ok-number) → slice_get c.insert_full.new.self.keys c.in_ok-number.number ≡ Some c.in_ok-copy.copy
there c =
    let stored = c.in_ok-number.ensures.stored in
    stored.1 ∙ ap Some (sym ((one_list c.in_ok-copy.copy stored.0).0 stored.2))

-- it comes behind all others
behind : (c : In_ok-number) → c.insert_full.new.self.keys ≡ c.self.inside.lists.keys ++ c.in_ok-copy.copy ∷ []
behind c =
    let keys = c.self.inside.lists.keys in
    c.in_ok-number.ensures.keys ∙ ap (λ (b : Bool). if b then keys else keys ++ c.in_ok-copy.copy ∷ []) (is_new c)

pub returns-clause-number : goal.returns-clause-number
returns-clause-number c =
    let same : c.in_ok-copy.copy ≡ c.args.labels.now = search rules in
    there (goal.at.returns-clause-number c).In_ok-number ∙ ap Some same

pub returns-clause-next : goal.returns-clause-next
returns-clause-next c =
    let keys = c.self.inside.lists.keys in
    let at = (goal.at.returns-clause-next c).In_ok-number in
    let last : slice_get c.insert_full.new.self.keys (length keys) ≡ Some c.in_ok-copy.copy =
    ap (λ ks. slice_get ks (length keys)) (behind at) ∙ own_place keys [] c.in_ok-copy.copy in
    each_once _ c.in_ok-number.ensures.unique c.in_ok-number.number (length keys) c.in_ok-copy.copy (there at) last
    ∙ sym c.self.invariant.1 ∙ ap (λ (s : KnownState). length s.requesting) c.self.view_is

pub returns-clause-enters : goal.returns-clause-enters
returns-clause-enters c =
    let requesting = c.self.inside.requesting.items in
    let new = c.new.result in
    let items = c.push_reserved.ensures.items ∙ ap (λ xs. xs ++ new ∷ []) c.in_ok-reserve.ensures.items in
    subst (λ (s : KnownState). OnlyEnters s (record { lists = c.insert_full.new.self.keys; requesting = c.push_reserved.new.self.items })) c.self.view_is
    record {
      lists = (λ n other at.
          subst (λ ks. slice_get ks n ≡ Some other) (sym c.in_ok-number.ensures.keys)
          (list_stays c.self.inside.lists.keys c.in_ok-copy.copy other n at));
      requests = (λ n r is. ap (λ xs. requests_at xs n r) items ∙ requested_appended requesting new c.new.ensures n r ∙ is);
      offers = (λ n r. ap (λ xs. offers_at xs n r) items ∙ offers_appended requesting new c.new.ensures n r);
    }

pub invariant_of-self-2 : goal.invariant_of-self-2
invariant_of-self-2 c =
    let requesting = c.self.inside.requesting.items in
    let new = c.new.result in
    let items = c.push_reserved.ensures.items ∙ ap (λ xs. xs ++ new ∷ []) c.in_ok-reserve.ensures.items in
    let more = c.in_ok-number.ensures.len
    ∙ ap (λ b. length c.self.inside.lists.keys + (if b then 1 else 0))
    (c.in_ok-number.ensures.added ∙ ap not (is_new (goal.at.invariant_of-self-2 c).In_ok-number)) in
    let covers = subst (λ n. Covers c.reserve_up_to.new.self (n + 1)) (c.len.ensures ∙ c.self.inside.requesting.ok.0) c.in_ok-reserve_up_to.ensures.covers in (
      c.in_ok-number.ensures.unique,
      ap length items ∙ length-append requesting (new ∷ []) ∙ ap (λ n. n + 1) c.self.invariant.1 ∙ sym more,
      subst (λ xs. AreMarked xs c.reserve_up_to.new.self) (sym items)
          (marked_appended requesting new c.self.inside.offering c.reserve_up_to.new.self c.self.invariant.2 c.new.ensures c.in_ok-reserve_up_to.ensures.marks covers),
    )
