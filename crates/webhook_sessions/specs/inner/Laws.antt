-- Bytes after a request do not change it, and bytes are read as at most one request. What was read of a head stays true.
use Rattle.std.specs.Prelude.{◌≡◌, ◌⊎◌, ℕ, ◌+◌, ◌-◌, ◌≤◌, ◌<◌, Bool, true, false, List, [], ◌++◌, length, take, drop, cond, nat_le, Option, Some, None, Result, Ok, Err, refl}
use Rattle.std.proofs.Common.{sym, ap, subst, ◌∙◌, inl, inr, append_assoc, append-nil, length-append, arith}
use Rattle.std.proofs.lemmas.List.{take-append-le}
use Rattle.std.proofs.lemmas.Bool.Decides.{nat_tests}
use lib.Seq.{drop-append-le}
use Rattle.definitions.specs.Limits.{max_head}
use Rattle.std.proofs.Math.Seq.{take-append-add}
use Rattle.httparse.specs.Grammar.{RequestHead, ReadsRequest, HasNoRequest, print_request}
use Rattle.httparse.specs.Pieces.{FieldLines}
use Rattle.httparse.proofs.GrammarLemmas.{ReadsRequest-append, request_unique}
use Rattle.httparse.proofs.PieceLemmas.{FieldLines-append, RequestStart_deterministic}
use Rattle.act_sessions.specs.declared.request.Request.{Request}
use Rattle.act_sessions.specs.declared.request.Progress.{Progress}
use Rattle.act_sessions.specs.inner.Progress.{nothing_read}
use Rattle.act_sessions.specs.Rules.{IsOne, IsSteady}
use Rattle.webhook_sessions.specs.declared.fault.Fault.{Fault}
use Rattle.webhook_sessions.specs.declared.fault.Fault.TheVariants.{BadHead}
use Rattle.webhook_sessions.specs.Asking.{body_length, request_after, unread, with_body}
use Rattle.webhook_sessions.specs.Heading.{Heading, heading_of}
use Rattle.webhook_sessions.specs.inner.HeadLines.{HeadKnown}
use Rattle.webhook_sessions.specs.Hooks.{BeginsWith, HasBadHead, HookReads, HookWaits, IsInExcessField, IsInLostTarget, hooks}

bad_head_stays : (bytes more : List ℕ) → HasBadHead bytes → HasBadHead (bytes ++ more)
bad_head_stays bytes more (inl never) =
    inl (λ others h rest reads. never (more ++ others) h rest (subst (λ b. ReadsRequest b h rest) (append_assoc bytes more others) reads))
bad_head_stays bytes more (inr (long, none)) =
    let e = length-append bytes more in
    inr (omega arith, subst HasNoRequest (sym (take-append-le 8192 bytes more long)) none)

chosen : {A : Type 0} (b : Bool) (x y z : A) → cond b x y ≡ z → ((b ≡ true) × (x ≡ z)) ⊎ ((b ≡ false) × (y ≡ z))
chosen true x y z e = inl (refl, e)
chosen false x y z e = inr (refl, e)

none_is_some : {A : Type 0} (x : A) → None ≡ Some x → ⊥
none_is_some x e = cc

at_most : (m n : ℕ) → nat_le m n ≡ true → m ≤ n
at_most m n h = grind (arith, nat_tests)

is_at_most : (m n : ℕ) → m ≤ n → nat_le m n ≡ true
is_at_most m n h = grind (arith, nat_tests)

-- a request with more bytes after it
abbrev followed : List ℕ → Option (Request Fault × List ℕ) → Option (Request Fault × List ℕ)
followed more None = None
followed more (Some x) = Some (x.0, x.1 ++ more)

with_body_stays : (head : Heading) (after more : List ℕ) (r : Result ℕ Fault) (x : Request Fault × List ℕ)
    → with_body head after r ≡ Some x → with_body head (after ++ more) r ≡ Some (x.0, x.1 ++ more)
with_body_stays head after more (Err fault) x e = ap (followed more) e
with_body_stays head after more (Ok n) x e =
    elim (chosen (nat_le n (length after)) _ None (Some x) e) [
      | inl h ↦
          let fits = at_most n (length after) h.0 in
          let longer : nat_le n (length (after ++ more)) ≡ true = let e = length-append after more in is_at_most n (length (after ++ more)) (omega arith) in
          rw (longer, take-append-le n after more fits, drop-append-le n after more fits) (ap (followed more) h.1)
      | inr h ↦ absurd (none_is_some x h.1)
    ]

pub begins_still : (bytes more : List ℕ) (h : RequestHead) (after : List ℕ) → BeginsWith bytes h after → BeginsWith (bytes ++ more) h (after ++ more)
begins_still bytes more h after head = record { reads = ReadsRequest-append bytes h after more head.reads; fields = head.fields; short = head.short }

reads_still : (bytes more rest : List ℕ) (r : Request Fault) → HookReads bytes r rest → HookReads (bytes ++ more) r (rest ++ more)
reads_still bytes more rest r (inl (bad, is, e)) = inl (bad_head_stays bytes more bad, is, ap (λ b. b ++ more) e)
reads_still bytes more rest r (inr (h, after, head, found)) =
    inr (h, after ++ more, begins_still bytes more h after head, with_body_stays (heading_of h) after more (body_length (heading_of h)) (r, rest) found)

pub hooks_steady : IsSteady hooks
hooks_steady = reads_still

head_is_not_bad : (bytes : List ℕ) (h : RequestHead) (after : List ℕ) → HasBadHead bytes → BeginsWith bytes h after → ⊥
head_is_not_bad bytes h after (inl never) head =
    let over = never [] h after (subst (λ b. ReadsRequest b h after) (sym (append-nil bytes)) head.reads) in
    let few = head.fields in
    omega arith
head_is_not_bad bytes h after (inr (long, none)) head =
    let text = print_request h in
    let short = head.short in
    let room : 8192 ≡ length text + (8192 - length text) = omega arith in
    let prefix : take 8192 bytes ≡ text ++ take (8192 - length text) after =
    ap (take 8192) head.reads.1 ∙ ap (λ n. take n (text ++ after)) room ∙ take-append-add text after (8192 - length text) in
    none h (take (8192 - length text) after) (head.reads.0, prefix)

same_some : {A : Type 0} (x y : A) → Some x ≡ Some y → x ≡ y
same_some x y e = cc

reads_one : (bytes rest other : List ℕ) (r s : Request Fault) → HookReads bytes r rest → HookReads bytes s other → (r ≡ s) × (rest ≡ other)
reads_one bytes rest other r s (inl (bad, is, e)) (inl (worse, too, f)) = (is ∙ sym too, e ∙ sym f)
reads_one bytes rest other r s (inl (bad, is, e)) (inr (h, after, head, found)) = absurd (head_is_not_bad bytes h after bad head)
reads_one bytes rest other r s (inr (h, after, head, found)) (inl (bad, is, e)) = absurd (head_is_not_bad bytes h after bad head)
reads_one bytes rest other r s (inr (h, after, head, found)) (inr (k, suffix, prefix, met)) =
    let same = request_unique bytes h k after suffix head.reads prefix.reads in
    let e = sym found ∙ ap (λ x. request_after (heading_of x) after) same.0 ∙ ap (request_after (heading_of k)) same.1 ∙ met in
    let pair = same_some (r, rest) (s, other) e in
    (ap (λ x. x.0) pair, ap (λ x. x.1) pair)

pub hooks_one : IsOne hooks
hooks_one = reads_one

-- bytes that wait contain no whole head, so they are at most a bad one, in one of the two cases
waits_for_one : (bytes rest : List ℕ) (r : Request Fault) → HookWaits bytes → HookReads bytes r rest
    → (r ≡ unread BadHead) × (rest ≡ bytes) × (IsInLostTarget bytes ⊎ IsInExcessField bytes)
waits_for_one bytes rest r (inl (none, inl may, short)) (inl (inl never, is, e)) = (is, e, inr (may, never))
waits_for_one bytes rest r (inl (none, inr target, short)) (inl (inl never, is, e)) = (is, e, inl (target, never))
waits_for_one bytes rest r (inl (none, may, short)) (inl (inr (long, no_head), is, e)) = absurd (omega arith)
waits_for_one bytes rest r (inl (none, may, short)) (inr (h, after, head, found)) = absurd (none h after head.reads)
waits_for_one bytes rest r (inr (k, suffix, prefix, missing)) (inl (bad, is, e)) = absurd (head_is_not_bad bytes k suffix bad prefix)
waits_for_one bytes rest r (inr (k, suffix, prefix, missing)) (inr (h, after, head, found)) =
    let same = request_unique bytes h k after suffix head.reads prefix.reads in
    let e = sym missing ∙ ap (λ x. request_after (heading_of x) suffix) (sym same.0) ∙ ap (request_after (heading_of h)) (sym same.1) ∙ found in
    absurd (none_is_some (r, rest) e)

pub hooks_wait : (bytes rest : List ℕ) (r : Request Fault) → hooks.waits bytes → hooks.reads bytes r rest
    → (r ≡ unread BadHead) × (rest ≡ bytes) × (IsInLostTarget bytes ⊎ IsInExcessField bytes)
hooks_wait = waits_for_one

-- and in these both are allowed
pub hooks_may_do_both : (bytes : List ℕ) → HasNoRequest bytes → length bytes < max_head → IsInLostTarget bytes ⊎ IsInExcessField bytes
    → hooks.waits bytes × hooks.reads bytes (unread BadHead) bytes
hooks_may_do_both bytes none short (inl (target, never)) = (inl (none, inr target, short), inl (inl never, refl, refl))
hooks_may_do_both bytes none short (inr (may, never)) = (inl (none, inl may, short), inl (inl never, refl, refl))

-- ---- lines of a head stay lines of it as more bytes come

pub head_fresh : (bytes : List ℕ) → HeadKnown bytes nothing_read
head_fresh bytes = inl refl

pub head_lasts : (bytes more : List ℕ) (p : Progress) → HeadKnown bytes p → HeadKnown (bytes ++ more) p
head_lasts bytes more p (inl none) = inl none
head_lasts bytes more p (inr (within, few, begins)) =
    let rest = drop-append-le p.read bytes more within in
    let long = length-append bytes more in
    inr (
      omega arith,
      few,
      record {
        start = begins.start;
        fields = begins.fields;
        middle = begins.middle ++ more;
        first = RequestStart_deterministic.append begins.start bytes begins.middle more begins.first;
        others = subst (FieldLines begins.fields (begins.middle ++ more)) (sym rest)
            (FieldLines-append begins.fields begins.middle (drop p.read bytes) more begins.others);
        count = begins.count;
      },
    )
