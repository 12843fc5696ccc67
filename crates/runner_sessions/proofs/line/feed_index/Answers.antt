use Rattle.std.proofs.Common.{◌≡◌, ◌∙◌, ap, drop, sym, Some, None}
use Rattle.std.specs.List.{position}
use Rattle.std.proofs.lemmas.List.{take_rest}
use Rattle.runner_sessions.proofs.Feeds.{is_feed, position_after}
use Rattle.runner_sessions.proofs.line.feed_index.Goals as goal

pub returns-in-Some : goal.returns-in-Some
returns-in-Some c =
    let bytes = c.args.bytes.now in
    let n = c.args.read in
    let found : position is_feed (drop n bytes) ≡ Some c.in-Some.offset =
    ap (position is_feed) (sym (take_rest bytes n)) ∙ sym c.line_feed_index.ensures ∙ c.in-Some.is in
    sym (position_after bytes n (Some c.in-Some.offset) c.requires.within c.requires.none found)

pub returns-in-None : goal.returns-in-None
returns-in-None c =
    let bytes = c.args.bytes.now in
    let n = c.args.read in
    let found : position is_feed (drop n bytes) ≡ None =
    ap (position is_feed) (sym (take_rest bytes n)) ∙ sym c.line_feed_index.ensures ∙ c.in-None.is in
    sym (position_after bytes n None c.requires.within c.requires.none found)
