-- One more run is counted: the count of its workflow grows by one, and the other counts stay the same.
use Rattle.std.specs.Prelude.{◌≡◌, ℕ, ◌+◌, ◌<◌, ◌≤◌, ◌&&◌, List, [], ◌∷◌, ◌++◌, Bool, true, false, cond, count_by, IsSomeAnd, MatchOption, Some, None}
use Rattle.std.specs.Prelude.{Option, length, map}
use Rattle.std.specs.List.{AllZip}
use Rattle.std.specs.Option.{option_map_or}
use Rattle.std.specs.Str.{bytes_eq}
use Rattle.std.proofs.Common.{arith, ap, ap₂, inl, inr, sym, ◌∙◌}
use Rattle.std.proofs.lemmas.Bool.{and_parts, cases_Bool, cond-false, cond-true}
use Rattle.std.proofs.lemmas.Cmp.{and_equiv, nat_list_eq_equiv, on_equiv}
use Rattle.std.proofs.lemmas.List.{length-map}
use Rattle.std.proofs.lemmas.List.Sums.{count_by-le-length, sum_by-append}
use Rattle.std.proofs.lemmas.Map.Entries.{lookup_clone}
use Rattle.std.proofs.lemmas.Slice.Eq.{bytes_eq-Decides}
use Rattle.std.specs.Cmp.{IsEquivalence}
use Rattle.indexmap.specs.IndexMap.{IndexMap}
use Rattle.forgotten_runs.proofs.FirstFound.{same_found}
use Rattle.std.specs.Map.{lookup}
use Rattle.wf_reader.specs.Event.{event_of}
use Rattle.definitions.specs.SmallText.{Admitted}
use Rattle.table_model.specs.Forgotten.{ForgottenRuns, forgotten_of, number_of_next}
use Rattle.table_model.specs.LegContext.{events, same_workflow}
use Rattle.table_model.specs.Runs.{RunState}
use Rattle.table_model.proofs.Numbered.{count_of_map}
use Rattle.table_runs.specs.inner.Counted.{AreCounted, count_of, number_among}
use Rattle.table_runs.specs.declared.rows.counts.Counted.{Counted}

laws : IsEquivalence same_workflow
laws = and_equiv (on_equiv (λ (e : Admitted). (event_of e.body).repo) nat_list_eq_equiv)
    (on_equiv (λ (e : Admitted). (event_of e.body).path) nat_list_eq_equiv)

-- ---- a copy finds the same

pub copied_counts : {S : Type 0} (C : Admitted → Admitted → Type 0) (D : Counted → Counted → Type 0) → ((x y : Admitted) → C x y → y ≡ x)
    → ((m n : Counted) → D m n → n ≡ m) → (old new : IndexMap Admitted Counted S)
    → AllZip (λ p q. C p.0 q.0 × D p.1 q.1) old.entries new.entries → (event : Admitted) → count_of new event ≡ count_of old event
copied_counts C D alike is old new zipped event =
    ap (λ (found : Option Counted). option_map_or (λ (c : Counted). c.runs) found 0)
    (same_found D is (lookup (same_workflow event) old.entries) (lookup (same_workflow event) new.entries)
    (lookup_clone C D (same_workflow event) (λ x y c. ap (same_workflow event) (alike x y c)) old.entries new.entries zipped))

-- ---- the counted events

module _ {S : Type 0} (runs : List RunState) (counts : IndexMap Admitted Counted S) (are : AreCounted (events runs) counts) (event : Admitted) where
  pub few_counted : (most : ℕ) → length runs < most → count_of counts event < most
  few_counted most few =
      let all = length-map runs (λ (run : RunState). run.admitted) in
      let counted = are event in
      omega (arith, all, counted, few, count_by-le-length (same_workflow event) (events runs))

  pub next_counted : (number : ℕ) → number ≡ count_of counts event + 1 → number ≡ number_among runs event
  next_counted number is =
      is ∙ ap (λ n. n + 1) (are event ∙ sym (count_of_map (same_workflow event) (λ (run : RunState). run.admitted) runs))

-- events of one workflow have the same count
by_texts : List ℕ → List ℕ → Admitted → Bool
by_texts repo path other = bytes_eq repo (event_of other.body).repo && bytes_eq path (event_of other.body).path

same_count : (run event : Admitted) → same_workflow run event ≡ true → (es : List Admitted)
    → count_by (same_workflow run) es ≡ count_by (same_workflow event) es
unfolding by_texts
same_count run event same es =
    let a = event_of run.body in
    let b = event_of event.body in
    let parts = and_parts (bytes_eq a.repo b.repo) (bytes_eq a.path b.path) same in
    ap₂ (λ repo path. count_by (by_texts repo path) es) ((bytes_eq-Decides a.repo b.repo).0 parts.0) ((bytes_eq-Decides a.path b.path).0 parts.1)

pub one_counted : {S : Type 0} (runs : List RunState) (run : RunState) (old new : IndexMap Admitted Counted S) (number : ℕ)
    → AreCounted (events runs) old → number ≡ number_among runs run.admitted
    → ((event : Admitted) → count_of new event ≡ cond (same_workflow run.admitted event) number (count_of old event))
    → AreCounted (events runs ++ run.admitted ∷ []) new
one_counted runs run old new number are is so event =
    let es = events runs in
    let e = run.admitted in
    let alike = same_workflow e event in
    let more : count_by (same_workflow event) (es ++ e ∷ []) ≡ count_by (same_workflow event) es + (0 + cond (same_workflow event e) 1 0) =
    sum_by-append (λ (x : Admitted). cond (same_workflow event x) 1 0) es (e ∷ []) in
    let back : same_workflow event e ≡ alike = laws.symm event e in
    elim (cases_Bool alike) [
      | inl both ↦
          so event ∙ cond-true alike number (count_of old event) both ∙ is
          ∙ ap (λ n. n + 1) (count_of_map (same_workflow e) (λ (x : RunState). x.admitted) runs ∙ same_count e event both es)
          ∙ sym (more ∙ ap (λ b. count_by (same_workflow event) es + (0 + cond b 1 0)) (back ∙ both))
      | inr not ↦
          so event ∙ cond-false alike number (count_of old event) not ∙ are event
          ∙ sym (more ∙ ap (λ b. count_by (same_workflow event) es + (0 + cond b 1 0)) (back ∙ not)
          ∙ plus_none (count_by (same_workflow event) es))
    ]
  where
    plus_none : (n : ℕ) → n + (0 + 0) ≡ n
    plus_none n = omega arith

-- ---- the number of a run among all runs of its workflow

pub among_within : (runs : List RunState) (event : Admitted) → number_among runs event ≤ length runs + 1
among_within runs event =
    let few = count_by-le-length (λ (run : RunState). same_workflow event run.admitted) runs in omega (arith, few)

-- the number after the forgotten runs and these
pub number_after : (forgotten : ForgottenRuns) (runs : List RunState) (event : Admitted) (number among : ℕ)
    → number ≡ forgotten_of forgotten.counts event + among → among ≡ number_among runs event → number ≡ number_of_next forgotten runs event
number_after forgotten runs event number among is of = omega (arith, is, of)
