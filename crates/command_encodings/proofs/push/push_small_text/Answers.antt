use Rattle.std.proofs.Common.{◌≡◌, ◌<◌, ◌^◌, ℕ, List, length, subst, sym, rules}
use Rattle.command_encodings.proofs.Known.{short_fits}
use Rattle.command_encodings.proofs.push.push_small_text.Goals as goal

pub push_text-requires : goal.push_text-requires
push_text-requires g c =
    let e : c.as_bytes.result.now ≡ c.args.text.now = search rules in
    subst (λ (l : List ℕ). length l < 2 ^ 32) (sym e) (short_fits g.F.Form.allows c.args.text.now c.as_str.ensures.form)

pub returns-clause-takes : goal.returns-clause-takes
returns-clause-takes g c = (short_fits g.F.Form.allows c.args.text.now c.as_str.ensures.form, c.as_str.ensures.form)
