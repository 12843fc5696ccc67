-- All that an added run brings with it.
use Rattle.std.specs.Prelude.{◌≡◌, ◌+◌, ◌++◌, ◌∷◌, List, [], length, Result, refl}
use Rattle.std.specs.Result.{IsErrAnd}
use Rattle.std.proofs.Common.{ap₂, subst, sym, ◌∙◌}
use Rattle.std.proofs.lemmas.Result.{err_from_is_err_and}
use Rattle.group_book.specs.Books.{BookState}
use Rattle.table_model.specs.Runs.{RunState}
use Rattle.table_model.specs.declared.holder.Holder.{Holder}
use Rattle.table_bindings.specs.Bindings.{AreBound}
use Rattle.table_bindings.specs.GroupKeys.{arrivals_of}
use Rattle.table_bindings.specs.declared.bindings.RunBindings.{RunBindings}
use Rattle.table_runs.specs.inner.Begun.{AddsOrStays, HasAdded, IsBegun}
use Rattle.table_runs.specs.inner.RowsKept.{RowState}
use Rattle.table_runs.proofs.ArrivalsToCome.{expected_added}
use Rattle.table_runs.proofs.ToldMore.{older_added, tickets_added, told_added}

added_to : (items : List RunState) (bindings : List RunBindings) (run : RunState) (b : RunBindings) (before after : BookState Holder)
    → length bindings ≡ length items → AreBound (items ++ run ∷ []) (bindings ++ b ∷ []) → IsBegun run b → after.entries ≡ before.entries
    → after.expected ≡ before.expected + arrivals_of b.keys
    → HasAdded run (record { runs = items; bindings = bindings }) (record { runs = items ++ run ∷ []; bindings = bindings ++ b ∷ [] }) before after
added_to items bindings run b before after many bound begun entries more = record {
  runs = refl;
  entries = entries;
  told = told_added items run bindings b many bound begun;
  tickets = tickets_added items run bindings b many bound begun;
  older = older_added items run bindings b many bound begun;
  expected = expected_added bindings b before.expected after.expected more;
}

pub has_added : (was : RowState) (items : List RunState) (bindings : List RunBindings) (run : RunState) (b : RunBindings)
    (before after : BookState Holder) → record { runs = items; bindings = bindings } ≡ was → length bindings ≡ length items
    → AreBound (items ++ run ∷ []) (bindings ++ b ∷ []) → IsBegun run b → after.entries ≡ before.entries
    → after.expected ≡ before.expected + arrivals_of b.keys
    → HasAdded run was (record { runs = items ++ run ∷ []; bindings = bindings ++ b ∷ [] }) before after
has_added was items bindings run b before after is many bound begun entries more =
    subst (λ (rows : RowState). HasAdded run rows (record { runs = items ++ run ∷ []; bindings = bindings ++ b ∷ [] }) before after) is
    (added_to items bindings run b before after many bound begun entries more)

-- ---- an error leaves all as it was

pub rows_same : (now : RowState) (runs next : List RunState) (bindings kept : List RunBindings) → record { runs = runs; bindings = bindings } ≡ now
    → next ≡ runs → kept ≡ bindings → record { runs = next; bindings = kept } ≡ now
rows_same now runs next bindings kept is same_runs same_bindings =
    let rows : List RunState → List RunBindings → RowState = λ rs bs. record { runs = rs; bindings = bs } in
    ap₂ rows same_runs same_bindings ∙ is

pub stays_so : {X E : Type 0} {was : RowState} {runs next : List RunState} {bindings kept : List RunBindings}
    {before after : BookState Holder} (result : Result X E) (Q : E → Type 0) → IsErrAnd result Q → (run : RunState)
    → record { runs = runs; bindings = bindings } ≡ was → next ≡ runs → kept ≡ bindings → after ≡ before
    → AddsOrStays result run was (record { runs = next; bindings = kept }) before after
stays_so {was} {runs} {next} {bindings} {kept} {before} {after} result Q failed run is same_runs same_bindings same_book =
    let error = err_from_is_err_and result failed in
    subst (λ r. AddsOrStays r run was (record { runs = next; bindings = kept }) before after) (sym error.1)
    (record { rows = rows_same was runs next bindings kept is same_runs same_bindings; book = same_book })
