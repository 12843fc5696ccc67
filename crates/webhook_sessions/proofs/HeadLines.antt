-- An incomplete head is read line by line.
use Rattle.std.proofs.Common.{◌≡◌, ◌≢◌, ℕ, ◌+◌, ◌<◌, Bool, true, false, ◌==◌, List, [], ◌∷◌, ◌++◌, length, take, drop, codes, Some, refl, sym, ap, subst, ◌∙◌, inl, inr, append_assoc, length-append, take-append-drop, length-take, get_or-take, length-drop, arith}
use Rattle.std.specs.Prelude.{not, slice_index_or}
use Rattle.std.specs.List.{position}
use Rattle.std.proofs.lemmas.Bool.{eqb-true, false≢true, ne_eqb}
use Rattle.std.proofs.lemmas.List.{drop-drop, take_more}
use Rattle.std.proofs.lemmas.List.Elements.{All-append, All-cons, All-head, All-nil, All-tail}
use Rattle.std.proofs.lemmas.List.Quantifiers.{position-Some}
use Rattle.std.proofs.lemmas.List.Sums.{AllPass-from_list_all}
use Rattle.httparse.specs.Grammar.{AllPass, Field, HasNoRequest, HasNoSection, IsField, IsRequestHead, LineEnd, MayBecomeRequest, MayBecomeSection, RequestHead, crlf, is_token_byte, is_uri_byte, is_value_byte, lf, print_blank, print_end, print_field, print_section, print_version}
use Rattle.httparse.specs.Pieces.{Completes, FieldLine, RequestStart, Section, Stops, is_newline}
use Rattle.std.specs.List.{flat_map}
use Rattle.httparse.proofs.GrammarLemmas.{print_request-append, request_from_pieces, request_head, request_pieces, request_tree}
use Rattle.httparse.proofs.OpenLemmas.{Completes_next, Section_after_lines, request_may}
use Rattle.httparse.proofs.PieceLemmas.{FieldLines_push, RequestStart_deterministic, Section_deterministic, Section_skip, newline_not_stopped, print_field-append}
use Rattle.httparse.proofs.RunLemmas.{Stops-append, run_unique}
use Rattle.act_sessions.specs.declared.request.Progress.{Progress}
use Rattle.webhook_sessions.specs.inner.HeadLines.{AreUnfinished, AreUnfinishedLines, BeginsLines, Start}
use Rattle.webhook_sessions.specs.Hooks.{HookWaits}

-- ---- the first line feed

abbrev pub no_feed : ℕ → Bool
no_feed b = not (b == 10)

-- bytes before the first line feed, and those after it
one_feed : (a b x y : List ℕ) → AllPass no_feed a → AllPass no_feed b → a ++ 10 ∷ x ≡ b ++ 10 ∷ y → (a ≡ b) × (x ≡ y)
one_feed a b x y none other e = let same = run_unique no_feed a b (10 ∷ x) (10 ∷ y) none other refl refl e in (same.0, cc)

feed_at : (line after : List ℕ) → slice_index_or (line ++ 10 ∷ after) (length line) 0 ≡ 10
feed_at [] after = refl
feed_at (b ∷ line) after = feed_at line after

-- bytes without a line feed do not contain one
no_feed_within : (bytes line after : List ℕ) → bytes ≡ line ++ 10 ∷ after → AllPass no_feed bytes → ⊥
no_feed_within bytes line after is none =
    let long = ap length is ∙ length-append line (10 ∷ after) in
    let at : slice_index_or bytes (length line) 0 ≡ 10 = ap (λ (l : List ℕ). slice_index_or l (length line) 0) is ∙ feed_at line after in
    false≢true (subst (λ (b : ℕ). no_feed b ≡ true) at (none (length line) 0 (omega arith)))

not_feed : (test : ℕ → Bool) → test 10 ≡ false → (b : ℕ) → test b ≡ true → no_feed b ≡ true
not_feed test fails b passes =
    let other : b ≢ 10 = λ e. false≢true (sym fails ∙ subst (λ (v : ℕ). test v ≡ true) e passes) in
    ap not (ne_eqb b 10 other)

-- bytes that all pass a test that a line feed fails
without_feed : (test : ℕ → Bool) → test 10 ≡ false → (bytes : List ℕ) → AllPass test bytes → AllPass no_feed bytes
without_feed test fails bytes all = λ k d h. not_feed test fails (slice_index_or bytes k d) (all k d h)

token_fails : is_token_byte 10 ≡ false
unfolding is_token_byte
token_fails = refl

abbrev Free : ℕ → Type 0
Free b = no_feed b ≡ true

-- a line end before its line feed
abbrev before_feed : LineEnd → List ℕ
before_feed crlf = 13 ∷ []
before_feed lf = []

end_is : (end : LineEnd) (rest : List ℕ) → print_end end ++ rest ≡ before_feed end ++ 10 ∷ rest
end_is crlf rest = refl
end_is lf rest = refl

end_free : (end : LineEnd) → AllPass no_feed (before_feed end)
end_free crlf = All-cons Free 13 [] refl (All-nil Free)
end_free lf = All-nil Free

-- a field line before its line feed
abbrev field_text : Field → List ℕ
field_text f = f.name ++ 58 ∷ (f.raw ++ before_feed f.end)

field_is : (f : Field) (rest : List ℕ) → print_field f ++ rest ≡ field_text f ++ 10 ∷ rest
field_is f rest =
    print_field-append f rest ∙ ap (λ (t : List ℕ). f.name ++ 58 ∷ (f.raw ++ t)) (end_is f.end rest)
    ∙ regroup f.name f.raw (before_feed f.end) (10 ∷ rest)
  where
    regroup : (a b c r : List ℕ) → a ++ 58 ∷ (b ++ (c ++ r)) ≡ (a ++ 58 ∷ (b ++ c)) ++ r
    regroup a b c r = simp append_assoc

field_free : (f : Field) → IsField f → AllPass no_feed (field_text f)
field_free f is =
    All-append Free f.name (58 ∷ (f.raw ++ before_feed f.end)) (without_feed is_token_byte token_fails f.name is.name.1)
    (All-cons Free 58 (f.raw ++ before_feed f.end) refl
    (All-append Free f.raw (before_feed f.end) (without_feed is_value_byte refl f.raw is.raw) (end_free f.end)))

-- a start line before its line feed
abbrev start_text : RequestHead → List ℕ
start_text h = h.method ++ 32 ∷ (h.target ++ 32 ∷ (print_version h.minor ++ before_feed h.line_end))

start_is : (h : RequestHead) (rest : List ℕ)
    → h.method ++ 32 ∷ (h.target ++ 32 ∷ (print_version h.minor ++ (print_end h.line_end ++ rest))) ≡ start_text h ++ 10 ∷ rest
start_is h rest =
    ap (λ (t : List ℕ). h.method ++ 32 ∷ (h.target ++ 32 ∷ (print_version h.minor ++ t))) (end_is h.line_end rest)
    ∙ regroup h.method h.target (print_version h.minor) (before_feed h.line_end) (10 ∷ rest)
  where
    regroup : (a b c d r : List ℕ) → a ++ 32 ∷ (b ++ 32 ∷ (c ++ (d ++ r))) ≡ (a ++ 32 ∷ (b ++ 32 ∷ (c ++ d))) ++ r
    regroup a b c d r = simp append_assoc

version_free : (minor : ℕ) → AllPass no_feed (print_version minor)
version_free minor =
    let digit : 48 + minor ≢ 10 = λ e. omega arith in
    All-append Free (codes "HTTP/1.") ((48 + minor) ∷ []) (AllPass-from_list_all no_feed (codes "HTTP/1.") refl)
    (All-cons Free (48 + minor) [] (ap not (ne_eqb (48 + minor) 10 digit)) (All-nil Free))

start_free : (h : RequestHead) → IsRequestHead h → AllPass no_feed (start_text h)
start_free h is =
    let end = print_version h.minor ++ before_feed h.line_end in
    All-append Free h.method (32 ∷ (h.target ++ 32 ∷ end)) (without_feed is_token_byte token_fails h.method is.method.1)
    (All-cons Free 32 (h.target ++ 32 ∷ end) refl
    (All-append Free h.target (32 ∷ end) (without_feed is_uri_byte refl h.target is.target.1)
    (All-cons Free 32 end refl
    (All-append Free (print_version h.minor) (before_feed h.line_end) (version_free h.minor) (end_free h.line_end)))))

with_more : (bytes line after more : List ℕ) → bytes ≡ line ++ 10 ∷ after → bytes ++ more ≡ line ++ 10 ∷ (after ++ more)
with_more bytes line after more is = ap (λ (t : List ℕ). t ++ more) is ∙ append_assoc line (10 ∷ after) more

-- ---- one more line of the fields

pub record NextLine (rest after : List ℕ) : Type 0 where
  pub field : Field
  pub line : FieldLine field rest after
  pub unfinished : AreUnfinished after

regroup_fields : (a b c d : List ℕ) → a ++ ((b ++ c) ++ d) ≡ ((a ++ b) ++ c) ++ d
regroup_fields a b c d = simp append_assoc

next_field : (rest line after more : List ℕ) (fields : List Field) (last : LineEnd) → rest ≡ line ++ 10 ∷ after → AllPass no_feed line
    → HasNoSection rest → Section (fields, last) (rest ++ more) [] → NextLine rest after
next_field rest line after more [] last is free none (valid, e) =
    let same = one_feed line (before_feed last) (after ++ more) [] free (end_free last) (sym (with_more rest line after more is) ∙ e ∙ end_is last []) in
    absurd (none [] last after (All-nil IsField, is ∙ ap (λ (l : List ℕ). l ++ 10 ∷ after) same.0 ∙ sym (end_is last after)))
next_field rest line after more (f ∷ fields) last is free none (valid, e) =
    let field = All-head IsField f fields valid in
    let others = flat_map print_field fields in
    let same = one_feed line (field_text f) (after ++ more) (print_section fields last ++ []) free (field_free f field)
    (sym (with_more rest line after more is) ∙ e ∙ sym (regroup_fields (print_field f) others (print_end last) [])
    ∙ field_is f (print_section fields last ++ [])) in
    let begins : rest ≡ print_field f ++ after = is ∙ ap (λ (l : List ℕ). l ++ 10 ∷ after) same.0 ∙ sym (field_is f after) in
    record {
      field = f;
      line = (field, begins);
      unfinished = (
        λ gs end r reads. none (f ∷ gs) end r (
          All-cons IsField f gs field reads.0,
          begins ∙ ap (λ (t : List ℕ). print_field f ++ t) reads.1 ∙ regroup_fields (print_field f) (flat_map print_field gs) (print_end end) r,
        ),
        (more, fields, last, (All-tail IsField f fields valid, same.1)),
      );
    }

-- the next line feed ends a field line
pub next_line : (rest line after : List ℕ) → rest ≡ line ++ 10 ∷ after → AllPass no_feed line → AreUnfinished rest → NextLine rest after
next_line rest line after is free (none, (more, fields, last, reads)) = next_field rest line after more fields last is free none reads

pub one_more_line : (bytes rest after : List ℕ) (lines : ℕ) → BeginsLines bytes rest lines → NextLine rest after → BeginsLines bytes after (lines + 1)
one_more_line bytes rest after lines begins next = record {
  start = begins.start;
  fields = begins.fields ++ next.field ∷ [];
  middle = begins.middle;
  first = begins.first;
  others = FieldLines_push begins.fields next.field begins.middle rest after begins.others next.line;
  count = let c = begins.count in let l = length-append begins.fields (next.field ∷ []) in omega arith;
}

-- ---- the start line

pub record FirstLine (bytes after : List ℕ) : Type 0 where
  pub start : Start
  pub line : RequestStart start bytes after
  pub unfinished : AreUnfinished after

no_empty_line : (end : LineEnd) (blank : List LineEnd) (bytes rest : List ℕ) → bytes ≡ print_blank (end ∷ blank) ++ rest → Stops is_newline bytes → ⊥
no_empty_line end blank bytes rest e stops =
    newline_not_stopped end (print_blank blank ++ rest) bytes (sym (e ∙ append_assoc (print_end end) (print_blank blank) rest)) stops

start_read : (bytes line after more : List ℕ) (h : RequestHead) → IsRequestHead h → Stops is_newline bytes → bytes ≡ line ++ 10 ∷ after
    → AllPass no_feed line → HasNoRequest bytes
    → bytes ++ more ≡ h.method ++ 32 ∷ (h.target ++ 32 ∷ (print_version h.minor ++ (print_end h.line_end ++ (print_section h.fields h.last ++ []))))
    → FirstLine bytes after
start_read bytes line after more h valid stops is free none e =
    let fields = print_section h.fields h.last ++ [] in
    let same = one_feed line (start_text h) (after ++ more) fields free (start_free h valid) (sym (with_more bytes line after more is) ∙ e ∙ start_is h fields) in
    let begins : bytes ≡ h.method ++ 32 ∷ (h.target ++ 32 ∷ (print_version h.minor ++ (print_end h.line_end ++ after))) =
    is ∙ ap (λ (l : List ℕ). l ++ 10 ∷ after) same.0 ∙ sym (start_is h after) in
    let start : Start = ([], (h.method, (h.target, (h.minor, h.line_end)))) in
    let first : RequestStart start bytes after = (
      bytes,
      (refl, stops),
      (_, (valid.method.0, valid.method.1, begins), (_, ((valid.target.0, valid.target.1, refl), valid.target_text), (_, (valid.minor, refl), refl))),
    ) in
    record {
      start = start;
      line = first;
      unfinished = (
        λ fs end r section. none (request_head (start, (fs, end))) r (request_from_pieces bytes (start, (fs, end)) r (after, first, section)),
        (more, h.fields, h.last, (valid.fields, same.1)),
      );
    }

start_by : (bytes line after more : List ℕ) (h : RequestHead) (blank : List LineEnd) → IsRequestHead h → Stops is_newline bytes → bytes ≡ line ++ 10 ∷ after
    → AllPass no_feed line → HasNoRequest bytes
    → bytes ++ more ≡ print_blank blank ++ (h.method ++ 32 ∷ (h.target ++ 32 ∷ (print_version h.minor ++ (print_end h.line_end ++ (print_section h.fields h.last ++ [])))))
    → FirstLine bytes after
start_by bytes line after more h [] valid stops is free none e = start_read bytes line after more h valid stops is free none e
start_by bytes line after more h (end ∷ blank) valid stops is free none e =
    absurd (no_empty_line end blank (bytes ++ more) _ e (Stops-append is_newline bytes more stops))

target_waits : (bytes line after method target : List ℕ) (blank : List LineEnd) → AllPass is_token_byte method → AllPass is_uri_byte target
    → Stops is_newline bytes → bytes ≡ line ++ 10 ∷ after → bytes ≡ print_blank blank ++ (method ++ 32 ∷ target) → ⊥
target_waits bytes line after method target [] token uri stops is e =
    let free = All-append Free method (32 ∷ target) (without_feed is_token_byte token_fails method token)
    (All-cons Free 32 target refl (without_feed is_uri_byte refl target uri)) in
    no_feed_within bytes line after is (subst (AllPass no_feed) (sym e) free)
target_waits bytes line after method target (end ∷ blank) token uri stops is e = no_empty_line end blank bytes (method ++ 32 ∷ target) e stops

-- the first line feed ends the start line, if no empty line stands before it
pub first_line : (bytes line after : List ℕ) → Stops is_newline bytes → bytes ≡ line ++ 10 ∷ after → AllPass no_feed line → HasNoRequest bytes
    → MayBecomeRequest bytes → FirstLine bytes after
first_line bytes line after stops is free none (inl (more, h, reads)) =
    start_by bytes line after more h h.blank reads.0 stops is free none (reads.1 ∙ print_request-append h [])
first_line bytes line after stops is free none (inr (blank, method, target, token, uri, e)) =
    absurd (target_waits bytes line after method target blank token.1 uri stops is (e ∙ append_assoc (print_blank blank) method (32 ∷ target)))

pub begins_first : (bytes after : List ℕ) → FirstLine bytes after → BeginsLines bytes after 1
begins_first bytes after first = record {
  start = first.start;
  fields = [];
  middle = after;
  first = first.line;
  others = (All-nil IsField, refl);
  count = refl;
}

-- ---- a head is incomplete as its fields are

pub has_no_head : (bytes rest : List ℕ) (lines : ℕ) → BeginsLines bytes rest lines → HasNoSection rest → HasNoRequest bytes
has_no_head bytes rest lines begins none k r reads =
    let pieces = request_pieces bytes k r reads in
    let same = RequestStart_deterministic.unique (request_tree k).0 begins.start bytes pieces.0 begins.middle pieces.1 begins.first in
    let section = subst (λ (t : List ℕ). Section (k.fields, k.last) t r) same.1 pieces.2 in
    let skipped = Section_skip begins.fields k.fields k.last begins.middle rest r begins.others section in
    none skipped.0 k.last r skipped.2

may_complete : (rest : List ℕ) → MayBecomeSection rest → Completes Section rest
may_complete rest (more, fields, last, reads) = record {
  more = more;
  tree = (fields, last);
  reads = λ r. subst (λ (t : List ℕ). Section (fields, last) t r) (append_assoc rest more r)
      (Section_deterministic.append (fields, last) (rest ++ more) [] r reads);
}

pub may_be_head : (bytes rest : List ℕ) (lines : ℕ) → BeginsLines bytes rest lines → MayBecomeSection rest → MayBecomeRequest bytes
may_be_head bytes rest lines begins may =
    request_may (Completes_next RequestStart_deterministic {a = begins.start} begins.first
    (Section_after_lines begins.fields begins.others (may_complete rest may)))

-- ---- the offset of a line feed

abbrev pub is_feed : ℕ → Bool
is_feed b = b == 10

pub record FeedAt (bytes : List ℕ) (offset : ℕ) : Type 0 where
  pub within : offset < length bytes
  pub free : AllPass no_feed (take offset bytes)
  pub cut : bytes ≡ take offset bytes ++ 10 ∷ drop (offset + 1) bytes

pub feed_at_offset : (bytes : List ℕ) (offset : ℕ) → position is_feed bytes ≡ Some offset → FeedAt bytes offset
feed_at_offset bytes offset e =
    let found = position-Some is_feed bytes offset 0 e in
    let feed : slice_index_or bytes offset 0 ≡ 10 = eqb-true (slice_index_or bytes offset 0) 10 found.1 in
    record {
      within = found.0;
      free = λ k d h.
          let below : k < offset = let l = length-take offset bytes in omega arith in
          ap no_feed (get_or-take offset bytes k d below) ∙ ap not ((position-Some is_feed bytes offset d e).2 k below);
      cut = sym (take-append-drop (offset + 1) bytes) ∙ ap (λ (l : List ℕ). l ++ drop (offset + 1) bytes) (take_more bytes offset 0 found.0)
          ∙ append_assoc (take offset bytes) (slice_index_or bytes offset 0 ∷ []) (drop (offset + 1) bytes)
          ∙ ap (λ (b : ℕ). take offset bytes ++ b ∷ drop (offset + 1) bytes) feed;
    }

-- ---- what the code reads

pub lines_go_on : (bytes : List ℕ) (p : Progress) (offset : ℕ) → AreUnfinishedLines bytes p → position is_feed (drop p.read bytes) ≡ Some offset
    → AreUnfinishedLines bytes (record { read = p.read + offset + 1; lines = p.lines + 1 })
lines_go_on bytes p offset ((within, few, begins), unfinished) e =
    let rest = drop p.read bytes in
    let feed = feed_at_offset rest offset e in
    let after = drop (offset + 1) rest in
    let next = next_line rest (take offset rest) after feed.cut feed.free unfinished in
    let sum : p.read + (offset + 1) ≡ p.read + offset + 1 = omega arith in
    let same : after ≡ drop (p.read + offset + 1) bytes = drop-drop (offset + 1) p.read bytes ∙ ap (λ (n : ℕ). drop n bytes) sum in
    let short = feed.within in
    let left = length-drop p.read bytes in (
      (
        omega arith,
        omega arith,
        subst (λ (r : List ℕ). BeginsLines bytes r (p.lines + 1)) same (one_more_line bytes rest after p.lines begins next),
      ),
      subst AreUnfinished same next.unfinished,
    )

pub first_read : (bytes : List ℕ) (offset : ℕ) → Stops is_newline bytes → HasNoRequest bytes → MayBecomeRequest bytes
    → position is_feed bytes ≡ Some offset → AreUnfinishedLines bytes (record { read = offset + 1; lines = 1 })
first_read bytes offset stops none may e =
    let feed = feed_at_offset bytes offset e in
    let first = first_line bytes (take offset bytes) (drop (offset + 1) bytes) stops feed.cut feed.free none may in
    let short = feed.within in
    ((omega arith, omega arith, begins_first bytes (drop (offset + 1) bytes) first), first.unfinished)

pub waits_by_lines : (bytes : List ℕ) (p : Progress) → AreUnfinishedLines bytes p → length bytes < 8192 → HookWaits bytes
waits_by_lines bytes p ((within, few, begins), (none, may)) short =
    let rest = drop p.read bytes in
    inl (has_no_head bytes rest p.lines begins none, may_be_head bytes rest p.lines begins may, short)
