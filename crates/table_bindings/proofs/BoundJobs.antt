-- One more job is bound: the memory for the keys of its groups and the numbers of its lists stand beside it, and the jobs before it keep
-- theirs.
use Rattle.std.specs.Prelude.{◌≡◌, ◌+◌, ◌++◌, ◌∷◌, ℕ, List, [], length, Option, Some, option_and_then, slice_get}
use Rattle.std.specs.Option.{option_map_or}
use Rattle.std.proofs.Common.{ap, inl, inr, length-append, subst, sym, ◌∙◌}
use Rattle.std.proofs.lemmas.Bool.{cases_eq}
use Rattle.std.proofs.lemmas.Option.{same_Some}
use Rattle.label_lists.specs.Lists.{ListsState, OnlyGrows}
use Rattle.table_model.proofs.Found.{at_the_end, before_the_end}
use Rattle.table_bindings.specs.inner.BoundJobs.{AreBeside, AreNumbersOf}
use Rattle.table_bindings.specs.GroupKeys.{AreLater, requests_of}
use Rattle.table_bindings.specs.LabelNumbers.{IsListOf, list_number, number_in, texts_in, texts_of}
use Rattle.table_bindings.specs.declared.bindings.JobBindings.{JobBindings}
use Rattle.table_bindings.specs.declared.group_keys.HolderKey.{HolderKey}
use Rattle.table_bindings.specs.declared.groups.GroupRequest.{GroupRequest}
use Rattle.table_bindings.specs.declared.label_numbers.ListNumbers.{ListNumbers}
use Rattle.table_bindings.proofs.LabelNumbers.{grown_list}

-- what is read of the job at an index
abbrev groups_in : Option JobBindings → List GroupRequest
groups_in o = option_map_or (λ job. job.groups) o []

abbrev texts_at : ℕ → Option JobBindings → Option (List (List ℕ))
texts_at l o = option_and_then (λ job. texts_in job l) o

abbrev number_at : ℕ → Option ListNumbers → ℕ
number_at l o = option_map_or (λ job. number_in job l) o 0

module _ (old new : ListsState) (grows : OnlyGrows old new) (r : ℕ) (jobs : List JobBindings) (keys : List (List HolderKey))
    (numbers : List ListNumbers) (are : AreBeside old r jobs keys numbers) (job : JobBindings) (legs : List HolderKey) (own : ListNumbers)
    (later : AreLater job.groups legs) (its : AreNumbersOf new r job own) where
  its_keys : (j : ℕ) (others : List HolderKey) → slice_get (keys ++ legs ∷ []) j ≡ Some others → AreLater (requests_of (jobs ++ job ∷ []) j) others
  its_keys j others at =
      elim (cases_eq j (length jobs)) [
        | inl end ↦
            let same : legs ≡ others = same_Some legs others
            (sym (at_the_end keys legs) ∙ ap (slice_get (keys ++ legs ∷ [])) (are.as_many ∙ sym end) ∙ at) in
            let here = ap (slice_get (jobs ++ job ∷ [])) end ∙ at_the_end jobs job in
            subst (λ (o : Option JobBindings). AreLater (groups_in o) others) (sym here)
            (subst (λ (xs : List HolderKey). AreLater job.groups xs) same later)
        | inr not ↦
            let before = sym (before_the_end keys legs j (λ end. not (end ∙ are.as_many))) ∙ at in
            subst (λ (o : Option JobBindings). AreLater (groups_in o) others) (sym (before_the_end jobs job j not))
            (are.later j others before)
      ]

  its_lists : (j l : ℕ) → IsListOf new r (texts_of (jobs ++ job ∷ []) j l) (list_number (numbers ++ own ∷ []) j l)
  its_lists j l =
      elim (cases_eq j (length jobs)) [
        | inl end ↦
            let here = ap (slice_get (jobs ++ job ∷ [])) end ∙ at_the_end jobs job in
            let number = ap (slice_get (numbers ++ own ∷ [])) (end ∙ sym are.numbered) ∙ at_the_end numbers own in
            subst (λ (o : Option JobBindings). IsListOf new r (texts_at l o) (list_number (numbers ++ own ∷ []) j l)) (sym here)
            (subst (λ (o : Option ListNumbers). IsListOf new r (texts_in job l) (number_at l o)) (sym number) (its l))
        | inr not ↦
            subst (λ (o : Option JobBindings). IsListOf new r (texts_at l o) (list_number (numbers ++ own ∷ []) j l))
            (sym (before_the_end jobs job j not))
            (subst (λ (o : Option ListNumbers). IsListOf new r (texts_of jobs j l) (number_at l o))
            (sym (before_the_end numbers own j (λ end. not (end ∙ are.numbered))))
            (grown_list old new grows r (texts_of jobs j l) (list_number numbers j l) (are.listed j l)))
      ]

  pub one_beside : AreBeside new r (jobs ++ job ∷ []) (keys ++ legs ∷ []) (numbers ++ own ∷ [])
  one_beside = record {
    as_many = length-append keys (legs ∷ []) ∙ ap (λ n. n + 1) are.as_many ∙ sym (length-append jobs (job ∷ []));
    numbered = length-append numbers (own ∷ []) ∙ ap (λ n. n + 1) are.numbered ∙ sym (length-append jobs (job ∷ []));
    later = its_keys;
    listed = its_lists;
  }
