-- A value of no bytes, with an empty list of calls.
use Rattle.act_disk.proofs.Walks.{[], ◌∷◌, refl, proved, ftrue, vstruct, vnil, Val, ‵, raw, ◌$◌, ◌∵◌, !, qed, done, keep, suffices, join}
use Rattle.act_disk.proofs.Walks.{enter, no_more, agg, returns, alloc_all, pass_all, free_all, look_at, sets, pure_i, nothing, on_entry}
use Rattle.act_disk.proofs.Walks.{Stays, walk_of, says, ends_at}
use Rattle.act_disk.specs.contracts.call_log.CallLog.new as f
use Rattle.act_disk.specs.contracts.call_log.CallLog.{the_row as Log}
use Rattle.act_disk.specs.declared.call_log.CallLog.{CallLog}
use Rattle.act_disk.proofs.call_log.CallLog.new.Statement.{statement}
use Rattle.act_disk.proofs.call_log.CallLog.new.Code as code

abbrev stayed : Stays f.ended.signature.params f.ended.kept
stayed = tt

abbrev stored : Val
stored = vstruct vnil

abbrev fresh : CallLog
fresh = record { calls = [] }

pub new_spec : {M : Type 1} → statement M
new_spec 𝓤 𝓛 𝓜 𝓡 wired =
    let c = f.clauses 𝓛 𝓜.mem 𝓡.returns in let W = walk_of 𝓛 f.ended stayed c in
    proved 𝓛 f.ended stayed c 𝓜 𝓡 tt
    f.Key.name code.function (code.unfolded 𝓤 𝓛.H 𝓜 𝓡 wired)
    (λ κs. tt) (λ κs. tt) (λ κs qs bounds a _ are.
    let y : W.Ghost = ((κs, qs, bounds, a, tt), tt) in
    qed 𝓛 (raw (on_entry 𝓛 f.signature κs qs a tt) ∷ ‵ ftrue ∷ []) ∵ keep ! [] $
    enter ! _ _ _ _ _ $ alloc_all ! (λ l. pass_all ! refl tt $
    sets ! (agg ! (no_more !)) refl (tt, tt) $
    returns ! (look_at ! 0 refl) $ free_all ! refl $
    pure_i ! (Log.own_val fresh (stored ∷ [])) ((λ vss. (tt, tt)), tt) ((tt, (refl, tt)), tt) $
    suffices ! _ (ends_at 𝓛 f.ended stayed c y stored fresh tt tt) $ says ! refl $
    nothing ! $ join ! $ nothing ! $ done !))
