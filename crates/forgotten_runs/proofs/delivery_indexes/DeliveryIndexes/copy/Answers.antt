use Rattle.std.specs.Prelude.{String, string_bytes}
use Rattle.std.specs.Str.{bytes_eq}
use Rattle.std.specs.declared.alloc.Global.{Global}
use Rattle.std.specs.Map.{lookup}
use Rattle.std.proofs.Common.{ap}
use Rattle.std.proofs.lemmas.Map.Entries.{lookup_clone}
use Rattle.forgotten_runs.proofs.FirstFound.{same_found}
use Rattle.forgotten_runs.proofs.delivery_indexes.DeliveryIndexes.copy.Goals as goal

pub returns-clause-same : goal.returns-clause-same
returns-clause-same c = λ delivery.
    let test = λ (k : String Global). bytes_eq delivery (string_bytes k) in
    same_found _ (λ m n same. same) (lookup test c.args.self.now.indexes.entries) (lookup test c.in_ok-clone.field-0.entries)
    (lookup_clone _ _ test (λ x y same. ap (λ bs. bytes_eq delivery bs) same) c.args.self.now.indexes.entries
    c.in_ok-clone.field-0.entries c.in_ok-clone.ensures.cases)
