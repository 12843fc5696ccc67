-- What is carried out once even if it is requested again: the delivery of an event, by its id, and a runner's numbered command, by its
-- number. GitHub Docs, "Best practices for using webhooks": a redelivery has the id of the delivery (X-GitHub-Delivery). This project
-- defines that a redelivery makes no second run, and the numbers of runners' commands.
use Rattle.std.specs.Prelude.{◌≡◌, ℕ, ◌≤◌, List}
use Rattle.std.specs.List.{AllByRecursion}
use Rattle.wf_value.specs.declared.refusal.Refusal.{Refusal}
use Rattle.run_plan.specs.declared.command.Command.{Command}
use Rattle.run_plan.specs.declared.command.Command.TheVariants as command
use Rattle.run_plan.specs.declared.reply.Reply.{Reply}
use Rattle.run_plan.specs.declared.reply.Reply.TheVariants as reply

-- the command is a numbered one, of this runner and with this number
abbrev pub HasNumber : Command → List ℕ → ℕ → Type 0
HasNumber (command.Claim claim) runner number = (claim.runner ≡ runner) × (claim.number ≡ number)
HasNumber (command.Done report) runner number = (report.runner ≡ runner) × (report.number ≡ number)
HasNumber _ runner number = ⊥

-- none of the commands is of this runner with a later number
abbrev pub HaveNoLaterNumber : List ℕ → ℕ → List Command → Type 0
HaveNoLaterNumber runner number commands = AllByRecursion (λ c. (n : ℕ) → HasNumber c runner n → n ≤ number) commands

-- none of the commands discharges this runner
abbrev pub HaveNoDischarge : List ℕ → List Command → Type 0
HaveNoDischarge runner commands = AllByRecursion (λ c. c ≡ command.Discharge runner → ⊥) commands

abbrev pub IsRefused : Reply → Type 0
IsRefused given = (e : Refusal) × (given ≡ reply.Refused e)
