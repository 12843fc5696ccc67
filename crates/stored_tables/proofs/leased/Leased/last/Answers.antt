use Rattle.std.proofs.Common.{◌≡◌, Option, None, subst, rules}
use Rattle.std.specs.Prelude.{MatchOption}
use Rattle.run_plan.specs.declared.last_command.ClaimReply.{ClaimReply}
use Rattle.stored_tables.specs.TableOf.{IsLastAs, IsReplyAs}
use Rattle.stored_tables.specs.declared.parts.LastParts.{LastParts}
use Rattle.stored_tables.proofs.PartsRead.{no_last}
use Rattle.stored_tables.proofs.leased.Leased.last.Goals as goal

pub returns-in_default-clause-of : goal.returns-in_default-clause-of
returns-in_default-clause-of c = λ last is.
    let most = c.args.self.now.last in
    let runs = c.args.self.now.runs.now in
    let nothing : c.in_ok-reply-in-Claim.field-0 ≡ None = search rules in
    let none = subst
    (λ (o : Option ClaimReply). MatchOption o ((reply : ClaimReply) → IsReplyAs most runs c.in-Claim.given reply → ⊥)
    (λ reply. IsReplyAs most runs c.in-Claim.given reply)) nothing c.in_ok-reply-in-Claim.ensures.of in
    no_last most runs c.in-Claim.claim c.in-Claim.given none last
    (subst (λ (p : LastParts). IsLastAs most runs p last) c.in-Claim.is is)
