-- What the code finds at the start of some bytes is a request of the definition.
use Rattle.std.proofs.Common.{◌≡◌, ◌⊎◌, ℕ, ◌+◌, ◌<◌, ◌≤◌, Bool, true, false, List, [], ◌∷◌, ◌++◌, length, take, drop, map, refl, sym, ap, subst, ◌∙◌, inl, inr, append_assoc, length-append, length-take, length-drop, arith}
use Rattle.std.specs.Prelude.{min, codes, cond, nat_le, Option, Some, None, Result, Ok, Err, ⊤}
use Rattle.std.proofs.lemmas.Bool.Decides.{nat_tests}
use Rattle.std.proofs.lemmas.List.{drop-drop, length-map}
use Rattle.definitions.specs.Limits.{max_body}
use lib.Seq.{drop-append-le}
use Rattle.httparse.specs.declared.spans.HeaderSpan.{HeaderSpan}
use Rattle.httparse.specs.declared.spans.RequestSpans.{RequestSpans}
use Rattle.httparse.specs.Grammar.{RequestHead, ReadsRequest, HasNoRequest}
use Rattle.httparse.specs.Spans.{RequestOverflows, IsRequestAt, IsRequestWithin, span_bytes, header_bytes, name_and_value}
use Rattle.httparse.proofs.GrammarLemmas.{ReadsRequest-append}
use Rattle.http1.specs.Fields.{values_named}
use Rattle.wf_value.specs.declared.refusal.Refusal.{Refusal}
use Rattle.definitions.specs.SmallText.{is_decimal}
use Rattle.act_sessions.specs.declared.request.Next.{Next}
use Rattle.act_sessions.specs.declared.request.Next.TheVariants.{Waits, Whole}
use Rattle.act_sessions.specs.declared.request.Progress.{Progress}
use Rattle.act_sessions.specs.Rules.{IsNext}
use Rattle.act_sessions.specs.inner.Held.{Keeps}
use Rattle.act_sessions.specs.inner.Progress.{nothing_read}
use Rattle.webhook_sessions.specs.declared.fault.Fault.{Fault}
use Rattle.webhook_sessions.specs.declared.fault.Fault.TheVariants.{BadHead}
use Rattle.webhook_sessions.specs.Asking.{body_length, length_wanted, unread, with_body, posts_event}
use Rattle.webhook_sessions.specs.EventHeaders.{event_headers}
use Rattle.webhook_sessions.specs.inner.FoundRequest.{IsFound}
use Rattle.webhook_sessions.specs.Heading.{Heading, heading_of}
use Rattle.webhook_sessions.specs.inner.HeadLines.{HeadKnown}
use Rattle.webhook_sessions.specs.Hooks.{BeginsWith, HookReads, hooks}
use Rattle.webhook_sessions.specs.inner.Laws.{begins_still}
use Rattle.webhook_sessions.specs.Length.{just, stated_by, stated_length, unless_coded}

-- ---- no head

pub bad_where_long : (bytes prefix : List ℕ) → prefix ≡ take (min (length bytes) 8192) bytes → 8192 ≤ length bytes → HasNoRequest prefix
    → HookReads bytes (unread BadHead) bytes
bad_where_long bytes prefix e long none =
    let same : min (length bytes) 8192 ≡ 8192 = omega arith in
    inl (inr (long, subst HasNoRequest (e ∙ ap (λ n. take n bytes) same) none), refl, refl)

pub bad_for_good : (bytes prefix rest : List ℕ) → bytes ≡ prefix ++ rest → RequestOverflows 64 prefix → HookReads bytes (unread BadHead) bytes
bad_for_good bytes prefix rest e never =
    inl (inl (λ more h left reads. never (rest ++ more) h left (subst (λ b. ReadsRequest b h left) (ap (λ b. b ++ more) e ∙ append_assoc prefix rest more) reads)), refl, refl)

-- ---- an incomplete body is short

chosen : {A : Type 0} (b : Bool) (x y z : A) → cond b x y ≡ z → ((b ≡ true) × (x ≡ z)) ⊎ ((b ≡ false) × (y ≡ z))
chosen true x y z e = inl (refl, e)
chosen false x y z e = inr (refl, e)

at_most : (m n : ℕ) → nat_le m n ≡ true → m ≤ n
at_most m n h = grind (arith, nat_tests)

over : (m n : ℕ) → nat_le m n ≡ false → n < m
over m n h = grind (arith, nat_tests)

abbrev IsSmall : Result ℕ Fault → Type 0
IsSmall (Ok n) = n ≤ max_body
IsSmall (Err f) = ⊤

abbrev IsSmallIfStated : Result (Option ℕ) Fault → Type 0
IsSmallIfStated (Ok (Some n)) = n ≤ max_body
IsSmallIfStated (Ok None) = ⊤
IsSmallIfStated (Err f) = ⊤

small_if : (n : ℕ) (within : Bool) (f : Fault) → nat_le n max_body ≡ within → IsSmallIfStated (just (cond within (Ok n) (Err f)))
small_if n true f h = at_most n max_body h
small_if n false f h = tt

length_small : (digits : Bool) (n : ℕ) (f g : Fault) → IsSmallIfStated (just (cond digits (cond (nat_le n max_body) (Ok n) (Err f)) (Err g)))
length_small true n f g = small_if n (nat_le n max_body) f refl
length_small false n f g = tt

stated_small : (values : List (List ℕ)) → IsSmallIfStated (stated_by values)
stated_small [] = tt
stated_small (v ∷ []) = length_small (is_decimal v) _ _ _
stated_small (v ∷ w ∷ vs) = tt

uncoded_small : (codings : List (List ℕ)) (stated : Result (Option ℕ) Fault) → IsSmallIfStated stated → IsSmallIfStated (unless_coded codings stated)
uncoded_small [] stated small = small
uncoded_small (c ∷ cs) stated small = tt

wanted_small : (posts : Bool) (stated : Result (Option ℕ) Fault) (headers : Result (List ℕ × List ℕ) Fault) → IsSmallIfStated stated
    → IsSmall (length_wanted posts stated headers)
wanted_small posts (Err f) headers small = tt
wanted_small false (Ok None) headers small = omega arith
wanted_small false (Ok (Some n)) headers small = small
wanted_small true (Ok None) headers small = tt
wanted_small true (Ok (Some n)) (Err f) small = tt
wanted_small true (Ok (Some n)) (Ok found) small = small

body_small : (head : Heading) → IsSmall (body_length head)
body_small head =
    let lengths = values_named (codes "content-length") head.fields in
    let codings = values_named (codes "transfer-encoding") head.fields in
    wanted_small (posts_event head) (stated_length head.fields) (event_headers head.fields) (uncoded_small codings (stated_by lengths) (stated_small lengths))

some_is_none : {A : Type 0} (x : A) → Some x ≡ None → ⊥
some_is_none x e = cc

short_by : (head : Heading) (after : List ℕ) (r : Result ℕ Fault) → IsSmall r → with_body head after r ≡ None → length after < max_body
short_by head after (Err f) small e = absurd (some_is_none _ e)
short_by head after (Ok n) small e =
    elim (chosen (nat_le n (length after)) _ None None e) [
      | inl h ↦ absurd (some_is_none _ h.1)
      | inr h ↦ let o = over n (length after) h.0 in omega arith
    ]

too_few : (m n : ℕ) → n < m → nat_le m n ≡ false
too_few m n h = grind (arith, nat_tests)

without_body : (head : Heading) (size : ℕ) (after : List ℕ) → length after < size → with_body head after (Ok size) ≡ None
without_body head size after short = rw (too_few size (length after) short) refl

-- a body of this size is incomplete until so many bytes have come
pub body_missing : (head : Heading) (n size : ℕ) (after : List ℕ) → body_length head ≡ Ok size → length after < size
    → IsFound head n after (Ok (Waits (n + size) nothing_read))
body_missing head n size after is less =
    let small : size ≤ max_body = subst IsSmall is (body_small head) in (
      ap (with_body head after) is ∙ without_body head size after less,
      omega arith,
      λ more below. ap (with_body head (after ++ more)) is ∙ without_body head size (after ++ more) (omega arith),
      refl,
    )

-- what the code finds after a head of n bytes
pub next_by : (bytes : List ℕ) (h : RequestHead) (n : ℕ) → n ≤ 8192 → n ≤ length bytes → BeginsWith bytes h (drop n bytes)
    → (found : Result (Next Fault) Refusal) → IsFound (heading_of h) n (drop n bytes) found → IsNext hooks bytes found
next_by bytes h n most within head (Ok (Waits until progress)) (none, few, stays, same) =
    let after = drop n bytes in
    let short = short_by (heading_of h) after (body_length (heading_of h)) (body_small (heading_of h)) none in
    let rest = length-drop n bytes in (
      inr (h, after, head, none),
      omega arith,
      omega arith,
      λ more below.
          let e = length-append after more in
          let f = length-append bytes more in
          inr (h, after ++ more, begins_still bytes more h after head, stays more (omega arith)),
    )
next_by bytes h n most within head (Ok (Whole found)) (k, long, fits, is) =
    let rest = length-drop n bytes in
    let suffix : drop k (drop n bytes) ≡ drop found.length bytes = drop-drop k n bytes ∙ ap (λ m. drop m bytes) (sym long) in
    (omega arith, inr (h, drop n bytes, head, is ∙ ap (λ r. Some (found.request, r)) suffix))
next_by bytes h n most within head (Err e) memory = memory

-- of a head that is whole nothing is kept
pub keeps_nothing : (bytes : List ℕ) (head : Heading) (n : ℕ) (after : List ℕ) (found : Result (Next Fault) Refusal) → IsFound head n after found
    → Keeps (HeadKnown bytes) found
keeps_nothing bytes head n after (Ok (Waits until progress)) (none, few, stays, same) = inl (ap (λ (p : Progress). p.lines) same)
keeps_nothing bytes head n after (Ok (Whole found)) is = tt
keeps_nothing bytes head n after (Err e) is = tt

-- a head that the code finds in the first bytes
pub head_found : (bytes prefix rest : List ℕ) (headers : List HeaderSpan) (s : RequestSpans) (h : RequestHead) → bytes ≡ prefix ++ rest → length prefix ≤ 8192
    → length headers ≡ 64 → IsRequestWithin prefix headers s → IsRequestAt prefix headers s h → BeginsWith bytes h (drop s.len bytes)
head_found bytes prefix rest headers s h e short room within at =
    let fits = within.section.len_fits in
    let after : drop s.len prefix ++ rest ≡ drop s.len bytes = sym (ap (drop s.len) e ∙ drop-append-le s.len prefix rest fits) in
    record {
      reads = subst (λ b. ReadsRequest b h (drop s.len bytes)) (sym e) (subst (ReadsRequest (prefix ++ rest) h) after (ReadsRequest-append prefix h (drop s.len prefix) rest at.reads));
      fields =
          let count : length (take s.headers headers) ≡ length h.fields = sym (length-map (take s.headers headers) (header_bytes prefix)) ∙ ap length at.fields ∙ length-map h.fields name_and_value in
          let most = length-take s.headers headers in
          omega arith;
      short = let len = at.len in omega arith;
    }

-- the parts of the head are those that were found
pub heading_found : (prefix : List ℕ) (headers : List HeaderSpan) (s : RequestSpans) (h : RequestHead) → IsRequestAt prefix headers s h
    → record { method = span_bytes prefix s.method; target = span_bytes prefix s.path; minor = s.version; fields = map (header_bytes prefix) (take s.headers headers) } ≡ heading_of h
heading_found prefix headers s h at = rw (at.method, at.path, at.version, at.fields) refl
