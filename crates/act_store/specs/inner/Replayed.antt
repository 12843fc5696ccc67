-- The result of carrying out the commands of record bodies.
use Rattle.std.specs.Prelude.{◌≡◌, ℕ, ◌<◌, ◌^◌, List, length, Option, Some, None}
use Rattle.std.specs.List.{AllByRecursion}
use Rattle.definitions.specs.Area.{record_bytes}
use Rattle.run_plan.specs.declared.command.Command.{Command}
use Rattle.table_model.specs.Step.{after}
use Rattle.table_model.specs.TableState.{TableState}
use Rattle.definitions.specs.Format.{Encodes}
use Rattle.act_store.specs.Layouts.{batch_format}
use Rattle.act_store.specs.Images.{EncodeCommands}
use Rattle.act_store.specs.declared.layout.Layout.{Layout}

-- In this layout the body encodes a batch that leads from one table to the other, or it encodes none.
abbrev pub IsCarried : Layout → List ℕ → TableState → Option TableState → Type 0
IsCarried layout body table (Some next) = (commands : List Command) × Encodes (batch_format layout) body commands × (after table commands ≡ next)
IsCarried layout body table None = (commands : List Command) → Encodes (batch_format layout) body commands → ⊥

-- The same for records with these bodies, whichever they are.
abbrev pub IsReplayed : Layout → List ℕ → TableState → Option TableState → Type 0
IsReplayed layout records table (Some last) =
    (bodies : List (List ℕ)) → AllByRecursion (λ body. length body < 2 ^ 32) bodies → records ≡ record_bytes bodies
    → (commands : List Command) × EncodeCommands layout bodies commands × (after table commands ≡ last)
IsReplayed layout records table None =
    (bodies : List (List ℕ)) (commands : List Command) → AllByRecursion (λ body. length body < 2 ^ 32) bodies
    → records ≡ record_bytes bodies → EncodeCommands layout bodies commands → ⊥
