use Rattle.std.proofs.Common.{◌≡◌, ◌+◌, ◌≤◌, ◌<◌, refl, sym, subst, ◌∙◌, inl, inr, length, take, length-take, take-append-drop, arith, Some, None}
use Rattle.std.specs.List.{position}
use Rattle.std.proofs.lemmas.Bool.Decides.{nat_tests}
use Rattle.std.proofs.lemmas.List.{take_all}
use Rattle.act_sessions.proofs.Waiting.{waits_until_more}
use Rattle.runner_sessions.specs.Line.{HasNoFeed, IsUnfinished, runner_rules}
use Rattle.runner_sessions.proofs.Feeds.{is_feed, first_at, nowhere, read_within}
use Rattle.runner_sessions.proofs.line.next_line.Goals as goal

pub returns-in_ok-request_in-in-Some-clause-found : goal.returns-in_ok-request_in-in-Some-clause-found
returns-in_ok-request_in-in-Some-clause-found c =
    let bytes = c.args.bytes.now in
    let offset = c.in-Some.offset in
    let m = c.min.result in
    let least = c.min.ensures in
    let found : position is_feed (take m bytes) ≡ Some offset = sym c.feed_index.ensures ∙ c.in-Some.is in
    let first = first_at bytes m offset (omega arith) (omega arith) found in
    let within = first.within in
    let short : length (take offset bytes) < 512 = let l = length-take offset bytes in let s = first.short in omega arith in
    (omega arith, (take offset bytes, first.none, inl (short, first.cut, let asks = c.in_ok-request_in-in-Some.ensures in cc)))

pub returns-in-None-clause-found : goal.returns-in-None-clause-found
returns-in-None-clause-found c =
    let bytes = c.args.bytes.now in
    let m = c.min.result in
    let least = c.min.ensures in
    let found : position is_feed (take m bytes) ≡ None = sym c.feed_index.ensures ∙ c.in-None.is in
    let brief : length (take m bytes) < 512 = grind (arith, nat_tests) in
    let all : take m bytes ≡ bytes = let l = length-take m bytes in take_all m bytes (omega arith) in
    let none = nowhere (take m bytes) found in
    let few : length bytes < 512 = let l = length-take m bytes in omega arith in
    let l = length-take m bytes in
    let waits : IsUnfinished bytes = (subst HasNoFeed all none, few) in
    (waits, few, omega arith, waits_until_more runner_rules bytes (length (take m bytes) + 1) waits (omega arith))

pub returns-in-None-2-clause-found : goal.returns-in-None-2-clause-found
returns-in-None-2-clause-found c =
    let bytes = c.args.bytes.now in
    let m = c.min.result in
    let least = c.min.ensures in
    let found : position is_feed (take m bytes) ≡ None = sym c.feed_index.ensures ∙ c.in-None.is in
    let long : 512 ≤ length (take m bytes) = grind (arith, nat_tests) in
    let is : m ≡ 512 = let l = length-take m bytes in omega arith in
    let none = subst (λ n. HasNoFeed (take n bytes)) is (nowhere (take m bytes) found) in
    (let l = length-take m bytes in omega arith, (take 512 bytes, none, inr (let l = length-take 512 bytes in omega arith, sym (take-append-drop 512 bytes), refl)))

pub returns-in-None-clause-kept : goal.returns-in-None-clause-kept
returns-in-None-clause-kept c =
    let bytes = c.args.bytes.now in
    let m = c.min.result in
    let least = c.min.ensures in
    let found : position is_feed (take m bytes) ≡ None = sym c.feed_index.ensures ∙ c.in-None.is in
    let brief : length (take m bytes) < 512 = grind (arith, nat_tests) in
    let all : take m bytes ≡ bytes = let l = length-take m bytes in take_all m bytes (omega arith) in
    let same : take (length (take m bytes)) bytes ≡ bytes = let l = length-take m bytes in take_all (length (take m bytes)) bytes (omega arith) in
    (let l = length-take m bytes in omega arith, brief, subst HasNoFeed (all ∙ sym same) (nowhere (take m bytes) found))

pub feed_index-requires-clause-within : goal.feed_index-requires-clause-within
feed_index-requires-clause-within c = (read_within c.args.bytes.now c.min.result c.args.progress c.min.ensures c.requires).0

pub feed_index-requires-clause-none : goal.feed_index-requires-clause-none
feed_index-requires-clause-none c = (read_within c.args.bytes.now c.min.result c.args.progress c.min.ensures c.requires).1
