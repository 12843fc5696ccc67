use Rattle.std.proofs.Common.{List, ℕ, take, drop, sym, ◌∙◌, ap}
use Rattle.std.proofs.lemmas.List.{take_rest}
use Rattle.act_disk.specs.Image.{laid_by}
use Rattle.act_disk.specs.declared.call.Call.{Call}
use Rattle.act_disk.specs.declared.call.Fill.TheVariants.{New}
use Rattle.act_disk.proofs.ImageLemmas.{seen_is_laid}
use Rattle.act_disk.proofs.image.filled_bytes.Goals as goal

pub returns : goal.returns
returns c =
    let n = c.stable_count-stable.result in
    let calls = c.args.calls.now in
    let stable = c.in_ok-lay_calls.ensures ∙ ap (λ (l : List ℕ). laid_by New (take n calls) l) c.in_ok-bytes.ensures.items
    ∙ sym (seen_is_laid (take n calls) c.args.first.now) in
    c.in_ok-lay_calls-2.ensures
    ∙ ap (λ (l : List Call). laid_by c.args.fill l c.lay_calls.new.file.items) (take_rest calls n)
    ∙ ap (λ (l : List ℕ). laid_by c.args.fill (drop n calls) l) stable
    ∙ sym (c.stable_count-stable.ensures.since c.args.fill c.args.first.now)
