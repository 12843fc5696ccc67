use Rattle.std.proofs.Common.{◌≡◌, string_bytes}
use Rattle.std.specs.List.{list_all}
use Rattle.wf_reader.specs.Job.{is_concurrency_name}
use Rattle.wf_reader.proofs.concurrency.are_names.Given as goal

-- the names so far are members of a concurrency
abbrev pub invariant-loop-name : goal.invariant-loop-name
invariant-loop-name l =
    list_all (λ e. is_concurrency_name (string_bytes e.0)) l.members.entries
    ≡ list_all (λ e. is_concurrency_name (string_bytes e.0)) l.name-iterator
