use Rattle.std.proofs.Common.{◌≡◌, subst, rules}
use Rattle.std.proofs.lemmas.Result.{on_ok_weaker}
use Rattle.table_text.specs.Tables.{IsLease}
use Rattle.table_text.proofs.TableKnown.{leg_takes}
use Rattle.table_text.proofs.push_table.LegPush.push_to.Goals as goal

pub returns-clause-takes : goal.returns-clause-takes
returns-clause-takes c =
    let same : c.self.inside.lease ≡ c.args.self.now.lease = search rules in
    on_ok_weaker c.push_byte_and_word.result
    (λ _. leg_takes c.args.self.now c.requires (subst IsLease same c.lease_word.ensures.takes)) c.push_byte_and_word.ensures.bytes
