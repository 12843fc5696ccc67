-- How many bytes a runner has in the text of a table.
use Rattle.std.specs.Prelude.{◌≡◌, ℕ, ◌+◌, ◌≤◌, List, sum_by}
use Rattle.std.specs.List.{AllByRecursion}
use Rattle.run_plan.specs.declared.command.Command.TheVariants as requested
use Rattle.run_plan.specs.declared.last_command.ClaimReply.TheVariants as given
use Rattle.run_plan.specs.declared.last_command.LastCommand.{LastCommand}
use Rattle.run_plan.specs.declared.last_command.LastCommand.TheVariants as last
use Rattle.command_encodings.specs.Lengths.{command_length, text_length}
use Rattle.table_model.specs.TableState.{RunnerState}

-- a command, a byte for its reply, and for a lease its number and the four numbers of its site
abbrev pub last_size : LastCommand → ℕ
last_size (last.Claim claim given.Nothing) = command_length (requested.Claim claim) + 1
last_size (last.Claim claim (given.Lease kept)) = command_length (requested.Claim claim) + 1 + 20
last_size (last.Done report) = command_length (requested.Done report) + 1

-- a name, a number, a last command and a lease
abbrev pub runner_size : RunnerState → ℕ
runner_size r = text_length r.name + 4 + last_size r.last + 4

-- the most bytes of a runner
abbrev pub max_runner_size : ℕ
max_runner_size = 1262

-- the sum over all runners, none of which has more
pub record AreSized (runners : List RunnerState) (size : ℕ) : Type 0 where
  pub is : size ≡ sum_by runner_size runners
  pub small : AllByRecursion (λ r. runner_size r ≤ max_runner_size) runners
