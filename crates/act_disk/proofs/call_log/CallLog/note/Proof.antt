-- The body does nothing: the ghost list gains the call at its head.
use Rattle.act_disk.proofs.Walks.{[], ◌∷◌, refl, proved, id⊢, ftrue, flft, named, vunit, ‵, ◌⊛◌, ◌$◌, ◌∵◌, !, qed, done, move, keep, use1}
use Rattle.act_disk.proofs.Walks.{split, join, fsplit3, feq_i, suffices, frame, group, enter, of_opd, unit_lit, returns, alloc_all}
use Rattle.act_disk.proofs.Walks.{pass_all, free_all, look_at, sets, mut_vals, mut_Tells, shr_vals, shr_Tells, plain, nothing, opens}
use Rattle.act_disk.proofs.Walks.{closes, yes, RefOf, named_lft, Stays, walk_of, says, stay_ref, stay_dropped, Goes-ref, Goes-dropped}
use Rattle.act_disk.proofs.Walks.{ends_at, owns, types_at, fsplit}
use Rattle.act_disk.specs.inner.Noted.{call_of}
use Rattle.act_disk.specs.contracts.call_log.CallLog.note as f
use Rattle.act_disk.specs.contracts.call_log.CallLog.{the_row as Log}
use Rattle.act_disk.specs.contracts.system_call.SystemCall as Call
use Rattle.act_disk.proofs.call_log.CallLog.note.Statement.{statement}
use Rattle.act_disk.proofs.call_log.CallLog.note.Code as code

abbrev stayed : Stays f.ended.signature.params f.ended.kept
stayed = (stay_ref (0 ∷ []) tt (plain (λ _. Log)), (stay_dropped _ yes, tt))

pub note_spec : {M : Type 1} → statement M
note_spec 𝓤 𝓛 𝓜 𝓡 wired =
    let c = f.clauses 𝓛 𝓜.mem 𝓡.returns in let W = walk_of 𝓛 f.ended stayed c in
    proved 𝓛 f.ended stayed c 𝓜 𝓡 (
      Goes-ref 𝓛 3 0 tt (plain (λ _. Log)),
      (Goes-dropped 𝓛 3 (RefOf (1 ∷ []) tt (plain (λ κs. Call.the_row (named_lft 3 2 tt κs))) (λ _. tt)) yes (λ κs x w. refl), tt),
    )
    f.Key.name code.function (code.unfolded 𝓤 𝓛.H 𝓜 𝓡 wired)
    (λ κs. (mut_vals, (shr_vals, tt)))
    (λ κs. (mut_Tells (named 0) κs.0 Log, (shr_Tells (named 1) κs.1.0 (Call.the_row (named_lft 3 2 tt κs)), tt)))
    (λ κs qs bounds a _ are.
    let b = a.0.ref_ptr.0 in let o = a.0.ref_ptr.1 in let vs = mut_vals a.0 in
    let old = a.0.now in let new = record old { calls = call_of a.1.0.now ∷ old.calls } in
    let y : W.Ghost = ((κs, qs, bounds, a, (vs, (shr_vals a.1.0, tt))), tt) in
    qed 𝓛 (((‵ (flft κs.0 qs.0) ⊛ ‵ (flft κs.1.0 qs.1.0) ⊛ ‵ (flft κs.1.1.0 qs.1.1.0) ⊛ ‵ ftrue)
    ⊛ ‵ (owns (types_at f.signature.params κs) a y.0.4)) ∷ ‵ ftrue ∷ []) ∵
    split ! $ move ! (1 ∷ []) $ fsplit ! $ move ! (2 ∷ []) $ split ! $ keep ! (2 ∷ 0 ∷ 1 ∷ []) $
    enter ! _ _ _ _ _ $ alloc_all ! (λ l. pass_all ! refl ((tt, tt), ((tt, tt), tt)) $
    fsplit3 ! $ move ! (1 ∷ 2 ∷ 3 ∷ []) $ opens ! tt Log b o (λ us.
    sets ! (of_opd ! (unit_lit !)) refl (tt, tt) $
    move ! (1 ∷ []) $ use1 𝓛 (‵ (Log.own_val new us)) (id⊢ 𝓤 _) $ move ! (1 ∷ 0 ∷ []) $
    closes ! tt Log new us b o $
    returns ! (look_at ! 0 refl) $ free_all ! refl $ move ! (3 ∷ []) $
    suffices ! _ (ends_at 𝓛 f.ended stayed c y vunit tt (new, (tt, tt)) (tt, (tt, tt))) $ says ! refl $
    group ! 3 $ move ! (1 ∷ 2 ∷ []) $ join ! $ nothing ! $ nothing ! $ join ! $ move ! (2 ∷ 0 ∷ []) $ join ! $ move !
    (1 ∷ 0 ∷ []) $ frame ! $ frame ! $
    feq_i ! _ (vunit ∷ []) _ refl $ done !)))
