use Rattle.std.proofs.lemmas.Map.Text.{hash_map_updates_text}
use Rattle.std.specs.Prelude.{None}
use Rattle.service_views.proofs.kept.Kept.discharge.Goals as goal

pub returns-clause-heard : goal.returns-clause-heard
returns-clause-heard c = λ name.
    rw (← c.as_str.ensures.text)
    (hash_map_updates_text c.as_str.result.now c.args.self.now.heard c.remove-heard.new.self None c.remove-heard.ensures.updates name)
