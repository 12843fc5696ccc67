use Rattle.std.proofs.Common.{Option, sym, subst}
use Rattle.std.specs.Prelude.{MatchOption}
use Rattle.run_plan.specs.declared.last_command.ClaimReply.{ClaimReply}
use Rattle.run_plan.specs.declared.last_command.ClaimReply.TheVariants as reply
use Rattle.run_plan.specs.declared.last_command.KeptLease.{KeptLease}
use Rattle.stored_tables.specs.TableOf.{IsLeaseAs, IsReplyAs}
use Rattle.stored_tables.specs.declared.parts.StoredLease.{StoredLease}
use Rattle.stored_tables.proofs.PartsRead.{no_reply}
use Rattle.stored_tables.proofs.leased.Leased.reply.Goals as goal

pub returns-in-Some-2-clause-of : goal.returns-in-Some-2-clause-of
returns-in-Some-2-clause-of c =
    let most = c.args.self.now.last in
    let runs = c.args.self.now.runs.now in
    let parts = c.in-Some.parts in
    let is = subst (λ (o : Option KeptLease). MatchOption o ((kept : KeptLease) → IsLeaseAs most runs parts kept → ⊥)
    (λ kept. IsLeaseAs most runs parts kept)) c.in-Some-2.is c.in_ok-kept.ensures.of in
    subst (λ (o : Option StoredLease). IsReplyAs most runs o (reply.Lease c.in-Some-2.kept)) (sym c.in-Some.is) is

pub returns-in-None-clause-of : goal.returns-in-None-clause-of
returns-in-None-clause-of c =
    let most = c.args.self.now.last in
    let runs = c.args.self.now.runs.now in
    let parts = c.in-Some.parts in
    let none = subst (λ (o : Option KeptLease). MatchOption o ((kept : KeptLease) → IsLeaseAs most runs parts kept → ⊥)
    (λ kept. IsLeaseAs most runs parts kept)) c.in-None.is c.in_ok-kept.ensures.of in
    subst (λ (o : Option StoredLease). (given : ClaimReply) → IsReplyAs most runs o given → ⊥) (sym c.in-Some.is)
    (no_reply most runs parts none)
