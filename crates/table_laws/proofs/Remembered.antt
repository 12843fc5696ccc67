-- What a table remembers about a runner's last command does not change until a later one is carried out or the runner is discharged, and the
-- command is answered from it again.
use Rattle.std.proofs.Common.{◌≡◌, ℕ, true, List, [], ◌∷◌, refl, sym, ◌∙◌, ap, subst}
use Rattle.run_plan.specs.declared.command.Command.{Command}
use Rattle.run_plan.specs.declared.command.Command.TheVariants as command
use Rattle.run_plan.specs.declared.last_command.LastCommand.{LastCommand}
use Rattle.run_plan.specs.declared.last_command.LastCommand.TheVariants as last
use Rattle.run_plan.specs.declared.reply.Reply.{Reply}
use Rattle.run_plan.proofs.SameCommands.{claims_decide, reports_decide}
use Rattle.table_model.specs.Step.{after, replies, step, stepped}
use Rattle.table_model.specs.TableState.{TableState}
use Rattle.table_laws.specs.ExactlyOnce.{HasNumber, IsRefused}
use Rattle.table_laws.specs.Remembered.{AreNoDischarges, AreNoLaterNumbers, IsNoDischarge, IsNoLaterNumber, LastCommandIs, kept_command}
use Rattle.table_laws.specs.Remembered.{reply_then}
use Rattle.table_laws.proofs.KeptReplies.{HasKept, has_first, has_on, has_step, test_of, tests_ignore, numbered_again, numbered_has}

-- a kept command that passes the test of a command is that command
passing_is : (c : Command) (name : List ℕ) (number : ℕ) (l : LastCommand) → HasNumber c name number → test_of c l ≡ true → kept_command l ≡ c
passing_is (command.Claim claim) name number (last.Claim earlier given) numbered passes =
    ap (λ x. command.Claim x) ((claims_decide earlier claim).0 passes)
passing_is (command.Claim claim) name number (last.Done earlier) numbered passes = cc
passing_is (command.Done report) name number (last.Claim earlier given) numbered passes = cc
passing_is (command.Done report) name number (last.Done earlier) numbered passes =
    ap (λ x. command.Done x) ((reports_decide earlier report).0 passes)
passing_is c name number l numbered passes = absurd numbered

kept_passes : (l : LastCommand) → test_of (kept_command l) l ≡ true
kept_passes (last.Claim claim given) = (claims_decide claim claim).1 refl
kept_passes (last.Done report) = (reports_decide report report).1 refl

one_number : (c : Command) (name : List ℕ) (m n : ℕ) → HasNumber c name m → HasNumber c name n → m ≡ n
one_number (command.Claim claim) name m n one other = sym one.1 ∙ other.1
one_number (command.Done report) name m n one other = sym one.1 ∙ other.1
one_number c name m n one other = absurd one

module _ (c : Command) (name : List ℕ) (number : ℕ) (given : Reply) (numbered : HasNumber c name number) where
  has_of : (t : TableState) → LastCommandIs t name c given → HasKept t name number (test_of c) given
  has_of t is = record {
    runner = is.runner;
    found = is.known;
    number_is = one_number c name is.runner.number number is.is_numbered numbered;
    passes = subst (λ x. test_of x is.runner.last ≡ true) is.last_is (kept_passes is.runner.last);
    keeps = is.kept;
  }

  last_of : (t : TableState) (kept : Reply) → HasKept t name number (test_of c) kept → LastCommandIs t name c kept
  last_of t kept has = record {
    runner = has.runner;
    known = has.found;
    last_is = passing_is c name number has.runner.last numbered has.passes;
    is_numbered = subst (λ n. HasNumber c name n) (sym has.number_is) numbered;
    kept = has.keeps;
  }

  has_last : (t : TableState) (kept : Reply) (later : List Command) → AreNoLaterNumbers name number later (replies t later)
      → AreNoDischarges name later (replies t later) → HasKept t name number (test_of c) kept
      → HasKept (after t later) name number (test_of c) (reply_then t (after t later) kept)
  has_last t kept [] no_later no_discharge has = has_first name number (test_of c) (tests_ignore c) t kept has
  has_last t kept (d ∷ later) no_later no_discharge has =
      let next = (stepped t d).table in
      has_on name number (test_of c) (tests_ignore c) t kept d later
      (has_last next (reply_then t next kept) later no_later.1 no_discharge.1
      (has_step name number (test_of c) (tests_ignore c) t kept d no_later.0 no_discharge.0 has))

  pub last_after_step : (t : TableState) (d : Command) → LastCommandIs t name c given
      → IsNoLaterNumber name number d (stepped t d).reply → IsNoDischarge name d (stepped t d).reply
      → LastCommandIs (stepped t d).table name c (reply_then t (stepped t d).table given)
  last_after_step t d is no_later no_discharge =
      let next = (stepped t d).table in
      last_of next (reply_then t next given) (has_step name number (test_of c) (tests_ignore c) t given d no_later no_discharge (has_of t is))

  pub last_after : (t : TableState) (later : List Command) → LastCommandIs t name c given
      → AreNoLaterNumbers name number later (replies t later) → AreNoDischarges name later (replies t later)
      → LastCommandIs (after t later) name c (reply_then t (after t later) given)
  last_after t later is no_later no_discharge =
      last_of (after t later) (reply_then t (after t later) given) (has_last t given later no_later no_discharge (has_of t is))

pub answered_is_last : (t : TableState) (c : Command) (name : List ℕ) (number : ℕ) → HasNumber c name number
    → (IsRefused (stepped t c).reply → ⊥) → LastCommandIs (stepped t c).table name c (stepped t c).reply
answered_is_last t c name number numbered taken =
    last_of c name number (stepped t c).reply numbered (stepped t c).table (stepped t c).reply (numbered_has t c name number numbered taken)

pub last_is_answered : (t : TableState) (c : Command) (name : List ℕ) (given : Reply) → LastCommandIs t name c given → step t c ≡ (t, given)
last_is_answered t c name given is =
    numbered_again t c name is.runner.number given is.is_numbered (has_of c name is.runner.number given is.is_numbered t is)
