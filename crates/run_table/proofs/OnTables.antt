-- What an example unfolds to compute with the groups and contexts of a table with literal bodies.
use Rattle.std.specs.Prelude.{⊤}
use Rattle.std.specs.Fmt.{digits}
use Rattle.group_name.proofs.OnLiterals.{group_name_on_literals}
use Rattle.table_model.specs.Groups.{cancels_in_progress, group_at, run_facts_at}
use Rattle.table_model.specs.Runs.{direct_needs, has_id}
use Rattle.table_model.specs.LegContext.{context_at, facts_at}
use Rattle.wf_reader.proofs.OnLiterals.{wf_reader_on_literals}

-- `unfolding on_tables` lets `refl` compute a step
unfoldable pub on_tables : ⊤
unfolding wf_reader_on_literals group_name_on_literals digits group_at cancels_in_progress run_facts_at context_at facts_at
    direct_needs has_id
on_tables = tt
