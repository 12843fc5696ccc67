use Rattle.std.proofs.Common.{rules, ◌≡◌, [], ◌∷◌, ap, subst, sym}
use Rattle.std.specs.HashMap.{get_by_text}
use Rattle.service_views.specs.Keeping.{Counts}
use Rattle.service_views.specs.declared.kept.Kept.{Kept}
use Rattle.service_views.proofs.KeepingLemmas.{heard_discharged}
use Rattle.service_views.proofs.kept.Kept.note.Goals as goal

pub returns-in-Some : goal.returns-in-Some
returns-in-Some c =
    let e = c.args.entry.now in
    let counted : c.count.new.self.heard ≡ c.args.self.now.heard = ap (λ (k : Kept). k.heard) c.count.ensures.rest in
    record {
      counts = subst (λ (k : Kept). Counts (e ∷ []) c.args.self.now.counters k.counters) (sym c.discharge.ensures.rest) c.count.ensures.counted;
      hears = λ name.
          heard_discharged c.in-Some.runner.now name c.args.now e (get_by_text c.args.self.now.heard name) _ c.in-Some.ensures
          (rw (← counted) (c.discharge.ensures.heard name));
      changes = search rules;
      began = search rules;
      first = search rules;
    }
