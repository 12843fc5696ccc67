use Rattle.std.proofs.Common.{◌≡◌, ℕ, ◌<◌, IfNone, IfSome, Some, length, slice_get, subst, sym}
use Rattle.label_lists.specs.inner.Known.{KnownState}
use Rattle.label_lists.proofs.SameLabels.{number_none, number_once, number_there}
use Rattle.label_lists.proofs.known_lists.KnownLists.number.Goals as goal

pub returns : goal.returns
returns c =
    let keys = c.self.inside.lists.keys in
    let labels = c.args.labels.now in
    let found = c.get_index_of.result in
    let at = c.get_index_of.ensures.index in
    record {
      number = subst (λ (s : KnownState). IfSome found (λ n. slice_get s.lists n ≡ Some labels)) c.self.view_is (number_there keys labels found at);
      within = subst (λ (s : KnownState). IfSome found (λ n. n < length s.requesting)) c.self.view_is
          (subst (λ m. IfSome found (λ n. n < m)) (sym c.self.invariant.1) c.get_index_of.ensures.within);
      keeps = subst (λ (s : KnownState). IfSome found (λ n. (k : ℕ) → slice_get s.lists k ≡ Some labels → n ≡ k)) c.self.view_is
          (number_once keys labels found at c.self.invariant.0);
      none = subst (λ (s : KnownState). IfNone found ((k : ℕ) → slice_get s.lists k ≡ Some labels → ⊥)) c.self.view_is
          (number_none keys labels found c.get_index_of.ensures.found);
    }
