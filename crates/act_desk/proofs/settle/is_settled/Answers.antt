use Rattle.std.proofs.Common.{◌≡◌, ◌∙◌, ℕ, List, ap, get_or, refl, rules, subst, sym, take}
use Rattle.std.proofs.lemmas.List.{get_or_default}
use mathlib.Core.List.{IsPrefix}
use Rattle.act_sessions.specs.Exchange.{exchanges_by, exchanges_in}
use Rattle.act_sessions.specs.declared.transcript.LoggedExchange.{LoggedExchange}
use Rattle.act_sessions.specs.declared.transcript.Transcript.{Transcript}
use Rattle.act_desk.specs.Settled.{Agrees, entries_of, part_of}
use Rattle.act_desk.proofs.Following.{up_to}
use Rattle.act_desk.proofs.settle.is_settled.Goals as goal

pub returns-then-not-agrees-clause-other : goal.returns-then-not-agrees-clause-other
returns-then-not-agrees-clause-other g c =
    let k = c.loop-k.k in
    let t = c.index-transcripts-k.result in
    let history = c.args.store.now.history in
    let covered = take c.args.covered history in
    let at : get_or c.args.transcripts.now k t ≡ t = search rules in
    let asked : t.asked.items ≡ c.as_slice.result.now = search rules in
    let same : (get_or c.args.transcripts.now k t).asked.items ≡ c.as_slice.result.now = ap (λ (u : Transcript). u.asked.items) at ∙ asked in
    λ no settled covers. c.if-not-agrees.ensures.other refl
    (subst (λ (l : List LoggedExchange). Agrees k (exchanges_in l) history) same (settled.agree k t c.loop-k-test.true))
    (subst (λ (l : List LoggedExchange). IsPrefix (entries_of k (exchanges_in l)) (part_of k covered)) same (covers k t c.loop-k-test.true))

pub loop-k-preserved : goal.loop-k-preserved
loop-k-preserved g c =
    let k = c.loop-k.k in
    let given = c.index-transcripts-k.result in
    let ts = c.args.transcripts.now in
    let history = c.args.store.now.history in
    let covered = take c.args.covered history in
    let at : get_or ts k given ≡ given = search rules in
    let asked : given.asked.items ≡ c.as_slice.result.now = search rules in
    let same : (t : Transcript) → c.as_slice.result.now ≡ (get_or ts k t).asked.items =
    λ t. sym (ap (λ (u : Transcript). u.asked.items) (get_or_default ts k t given c.loop-k-test.true ∙ at) ∙ asked) in
    record {
      agree = λ i t less. up_to (λ (j : ℕ). Agrees j (exchanges_by (get_or ts j t)) history) k i (λ before. c.loop-k.invariant.agree i t before)
          (subst (λ (l : List LoggedExchange). Agrees k (exchanges_in l) history) (same t) (c.if-not-agrees.ensures.agrees refl)) less;
      covers = λ i t less. up_to (λ (j : ℕ). IsPrefix (entries_of j (exchanges_by (get_or ts j t))) (part_of j covered)) k i
          (λ before. c.loop-k.invariant.covers i t before)
          (subst (λ (l : List LoggedExchange). IsPrefix (entries_of k (exchanges_in l)) (part_of k covered)) (same t)
          (c.if-not-agrees.ensures.covered refl)) less;
    }
