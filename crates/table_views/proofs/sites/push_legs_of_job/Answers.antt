use Rattle.std.proofs.Common.{◌≡◌, ◌∙◌, ℕ, ◌++◌, ◌∷◌, [], ◌<◌, ◌^◌, length, map, take, ap, sym, subst, arith}
use Rattle.std.specs.List.{All}
use Rattle.std.proofs.lemmas.List.Elements.{All-append, All-cons, All-nil}
use Rattle.table_model.specs.Runs.{placed, leg_site, LegState}
use Rattle.table_model.specs.declared.sites.LegSite.{LegSite}
use Rattle.table_views.specs.inner.Placed.{IsWithin}
use Rattle.table_views.proofs.Placing.{added_more, one_place_more}
use Rattle.table_views.proofs.sites.push_legs_of_job.Goals as goal

pub loop-l-preserved : goal.loop-l-preserved
loop-l-preserved c =
    let r = c.args.r in
    let j = c.args.j in
    let l = c.loop-l.l in
    let legs = c.args.job.now.state.legs in
    let old = c.args.sites.now.items in
    let mid = c.loop-l.sites.items in
    let new = c.push.new.self.items in
    let p = leg_site r j l in
    let so_far = map (λ (x : ℕ × LegState). leg_site r j x.0) (placed (take l legs)) in
    let lt : l < length legs = omega (arith, c.loop-l-test.true, ap length c.legs-l-end.ensures) in
    let more : new ≡ mid ++ p ∷ [] = c.in_ok-push.ensures.items ∙ ap (λ (q : LegSite). mid ++ q ∷ []) c.new.ensures in
    let small : l < 2 ^ 63 = omega (arith, c.loop-l-test.true, c.loop-l.auto.l-end) in
    record {
      added = added_more old so_far (p ∷ []) mid new c.loop-l.invariant.added more
          ∙ ap (λ zs. old ++ zs) (sym (one_place_more (λ k. leg_site r j k) l legs lt));
      within = subst (All IsWithin) (sym more)
          (All-append IsWithin mid (p ∷ []) c.loop-l.invariant.within (All-cons IsWithin p [] small (All-nil IsWithin)));
    }
