-- The lines of a service, one after another.
use Rattle.std.proofs.Common.{ℕ, List, [], ◌∷◌, ◌++◌, Option, sym, ap, subst, append-nil}
use Rattle.std.specs.Io.KnownBytes.{Appends}
use Rattle.std.proofs.KnownBytes.{Appends-trans}
use Rattle.std.proofs.lemmas.List.{flat_map_more}
use Rattle.act_store.specs.declared.entry.Entry.{Entry}
use Rattle.service_startup.specs.Reports.{line_of_history, ready_line, service_lines}

-- `ready`, then the line of the first history
pub first_line : (old mid new : Option (List ℕ)) (history : List Entry) → Appends old mid ready_line → Appends mid new (line_of_history history)
    → Appends old new (service_lines (history ∷ []))
first_line old mid new history ready settled =
    subst (Appends old new) (ap (λ l. ready_line ++ l) (sym (append-nil (line_of_history history))))
    (Appends-trans old mid new ready_line (line_of_history history) ready settled)

-- the line of one more history
pub next_line : (old mid new : Option (List ℕ)) (histories : List (List Entry)) (history : List Entry) → Appends old mid (service_lines histories)
    → Appends mid new (line_of_history history) → Appends old new (service_lines (histories ++ history ∷ []))
next_line old mid new histories history so_far settled =
    subst (Appends old new) (flat_map_more line_of_history ready_line histories history)
    (Appends-trans old mid new (service_lines histories) (line_of_history history) so_far settled)
