use Rattle.std.proofs.Common.{rules, ◌≡◌, ◌∙◌, ap, sym}
use Rattle.std.proofs.lemmas.Map.Text.{hash_map_updates_text}
use Rattle.std.specs.HashMap.{get_by_text}
use Rattle.std.specs.Map.{lookup}
use Rattle.std.specs.Option.{option_copied_mut}
use Rattle.std.specs.Prelude.{None, Some, string_bytes}
use Rattle.std.specs.Str.{bytes_eq}
use Rattle.service_views.proofs.KeepingLemmas.{heard_from_update, heard_if_unknown}
use Rattle.service_views.proofs.kept.Kept.hear.Goals.{in-Ok, in-Err}
use Rattle.service_views.proofs.kept.Kept.hear.Goals as goal

pub returns-in-Some-clause-heard : goal.returns-in-Some-clause-heard
returns-in-Some-clause-heard c = λ name.
    rw (← c.as_str.ensures.text)
    (heard_from_update (bytes_eq c.as_str.result.now name) c.args.now _ _
    (hash_map_updates_text c.as_str.result.now c.args.self.now.heard (c.get_mut.follows.lender c.args.now) (Some c.args.now)
    ((c.get_mut.follows.holds c.args.now).3 (search rules)) name))

pub returns-clause-heard : goal.returns-clause-heard
returns-clause-heard c = λ name.
    let same = c.get_mut.follows.holds-at-none in
    elim c.match-insert.branch [
      | in-Ok w ↦
          let key = string_bytes c.in_ok-name.name in
          let is : key ≡ c.args.runner.now = c.in_ok-name.ensures.ok ∙ c.as_str-2.ensures.text in
          rw (← is, ← same)
          (heard_from_update (bytes_eq key name) c.args.now _ _
          (hash_map_updates_text key c.get_mut.follows.lender-at-none c.insert.new.self (Some c.args.now) w.in-Ok.ensures.updates name))
      | in-Err w ↦
          let none : get_by_text c.args.self.now.heard c.as_str.result.now ≡ None = sym c.get_mut.ensures.value ∙ ap option_copied_mut c.in_default.is in
          rw (← c.as_str.ensures.text)
          (heard_if_unknown c.as_str.result.now name c.args.now (get_by_text c.args.self.now.heard) (get_by_text c.insert.new.self) none
          (λ q. ap (λ es. lookup (λ k. bytes_eq q (string_bytes k)) es) (w.in-Err.ensures.err ∙ ap (λ m. m.entries) same)))
    ]
