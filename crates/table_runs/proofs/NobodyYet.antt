-- A table without runs: nobody holds a group, and nothing is marked.
use Rattle.std.specs.Prelude.{◌≡◌, ℕ, List, [], false, None, Some, refl}
use Rattle.std.proofs.Common.{arith, subst, sym, ◌∙◌}
use Rattle.std.proofs.lemmas.Bool.{and_parts, true≢false}
use Rattle.group_book.specs.Books.{BookState}
use Rattle.table_model.specs.Groups.{holds, is_in, waits}
use Rattle.table_model.specs.Runs.{RunState}
use Rattle.table_model.specs.declared.holder.Holder.{Holder}
use Rattle.table_model.specs.declared.holder.Holder.TheVariants.{Leg, Run}
use Rattle.table_bindings.specs.declared.bindings.RunBindings.{RunBindings}
use Rattle.table_runs.specs.inner.GroupsKept.{AreExact, AreTold, GroupsAreKept, is_there}
use Rattle.table_runs.specs.inner.MarkedRuns.{AreMarked, is_due}
use Rattle.table_runs.specs.inner.RowsKept.{RowState}

nobody_waits : (h : Holder) → waits [] h ≡ false
nobody_waits (Run r) = refl
nobody_waits (Leg p) = refl

nobody_holds : (h : Holder) → holds [] h ≡ false
nobody_holds (Run r) = refl
nobody_holds (Leg p) = refl

nobody_there : (h : Holder) → is_there [] h ≡ false
nobody_there (Run r) = refl
nobody_there (Leg p) = refl

no_one : (h : Holder) → None ≡ Some h → ⊥
no_one h e = cc

none_here : (kept : RunBindings) → None ≡ Some kept → ⊥
none_here kept e = cc

no_run : (x : RunState) → None ≡ Some x → ⊥
no_run x e = cc

nobody_exact : AreExact [] []
nobody_exact = record {
  pending = (λ g h. (
    (λ at. absurd (no_one h at)),
    (λ e. absurd (true≢false (sym (and_parts (is_in [] g h) (waits [] h) e).1 ∙ nobody_waits h))),
  ));
  in_progress = (λ g h. (
    (λ at. absurd (no_one h at)),
    (λ e. absurd (true≢false (sym (and_parts (is_in [] g h) (holds [] h) e).1 ∙ nobody_holds h))),
  ));
}

nobody_told : AreTold [] []
nobody_told = record {
  groups = (λ h there. absurd (true≢false (sym there ∙ nobody_there h)));
  shaped = (λ r kept at. absurd (none_here kept at));
  tickets = (λ p is_new. absurd (true≢false (sym is_new)));
  room = (λ r j kept legs blocked at here. absurd (none_here kept at));
}

nobody_kept : (book : BookState Holder) → book.entries ≡ [] → GroupsAreKept [] [] book
nobody_kept book none = record {
  exact = subst (AreExact []) (sym none) nobody_exact;
  told = nobody_told;
  expected = omega arith;
}

none_marked : (marks : List ℕ) → AreMarked (is_due []) [] marks
none_marked marks = record {
  covers = omega arith;
  marked = (λ r x at due. absurd (no_run x at));
}

pub kept_without_runs : (rows : RowState) (book : BookState Holder) (marks : List ℕ) → rows.runs ≡ [] → rows.bindings ≡ [] → book.entries ≡ []
    → GroupsAreKept rows.runs rows.bindings book × AreMarked (is_due rows.runs) rows.runs marks
kept_without_runs rows book marks runs bindings entries = (
  subst (λ (rs : List RunState). GroupsAreKept rs rows.bindings book) (sym runs)
      (subst (λ (bs : List RunBindings). GroupsAreKept [] bs book) (sym bindings) (nobody_kept book entries)),
  subst (λ (rs : List RunState). AreMarked (is_due rs) rs marks) (sym runs) (none_marked marks),
)
