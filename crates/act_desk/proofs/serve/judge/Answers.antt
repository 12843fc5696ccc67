use Rattle.std.proofs.Common.{◌≡◌, List, refl, rules, subst, take}
use Rattle.act_sessions.specs.declared.transcript.Transcript.{Transcript}
use Rattle.act_desk.specs.Settled.{AreCovered, IsSettled, NoneBroken}
use Rattle.act_desk.proofs.serve.judge.Goals as goal

pub returns-then-not-is_settled-clause-cause : goal.returns-then-not-is_settled-clause-cause
returns-then-not-is_settled-clause-cause g c =
    let s = c.args.settled in
    let n = c.covered-covered.result in
    let given : s.transcripts.items ≡ c.as_slice.result.now = search rules in
    let count : s.store.covered ≡ n = search rules in (
      refl,
      λ both. c.if-not-is_settled.ensures.other refl (subst (λ (ts : List Transcript). IsSettled ts s.store.history) given both.0)
          (subst (λ (ts : List Transcript). AreCovered ts (take n s.store.history)) given
          (subst (λ m. AreCovered s.transcripts.items (take m s.store.history)) count both.1)),
    )

pub returns-then-any_broken-clause-cause : goal.returns-then-any_broken-clause-cause
returns-then-any_broken-clause-cause g c =
    let s = c.args.settled in
    let n = c.covered-covered.result in
    let given : c.as_slice.result.now ≡ s.transcripts.items = search rules in
    let again : s.transcripts.items ≡ c.as_slice-2.result.now = search rules in
    let count : n ≡ s.store.covered = search rules in (
      refl,
      (
        subst (λ (ts : List Transcript). IsSettled ts s.store.history) given (c.if-not-is_settled.ensures.settled refl),
        subst (λ m. AreCovered s.transcripts.items (take m s.store.history)) count
            (subst (λ (ts : List Transcript). AreCovered ts (take n s.store.history)) given (c.if-not-is_settled.ensures.covered refl)),
      ),
      λ none. c.if-any_broken.ensures.some refl (subst NoneBroken again none),
    )

pub returns-clause-served : goal.returns-clause-served
returns-clause-served g c =
    let s = c.args.settled in
    let n = c.covered-covered.result in
    let given : c.as_slice.result.now ≡ s.transcripts.items = search rules in
    let again : c.as_slice-2.result.now ≡ s.transcripts.items = search rules in
    let count : n ≡ s.store.covered = search rules in (
      refl,
      subst (λ (ts : List Transcript). IsSettled ts s.store.history) given (c.if-not-is_settled.ensures.settled refl),
      subst (λ m. AreCovered s.transcripts.items (take m s.store.history)) count
          (subst (λ (ts : List Transcript). AreCovered ts (take n s.store.history)) given (c.if-not-is_settled.ensures.covered refl)),
      subst NoneBroken again (c.if-any_broken.ensures.none refl),
    )
