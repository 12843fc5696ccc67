-- The lines of a session's bytes are determined, whatever follows them, and an unfinished line is not a line. What was read stays read.
use Rattle.std.specs.Prelude.{◌≡◌, ℕ, ◌<◌, List, [], ◌∷◌, ◌++◌, length, take, drop, slice_index_or, refl}
use Rattle.std.proofs.Common.{sym, ap, subst, ◌∙◌, inl, inr, append_assoc, length-append, length-take, arith}
use Rattle.std.proofs.lemmas.List.{get_or_append_left, take-append-le}
use lib.Seq.{take-append_seam, drop-append_seam}
use Rattle.act_sessions.specs.declared.request.Progress.{Progress}
use Rattle.act_sessions.specs.inner.Progress.{nothing_read}
use Rattle.act_sessions.specs.Rules.{IsApart, IsOne, IsSteady}
use Rattle.runner_sessions.specs.Line.{HasNoFeed, LineKnown, request_in, runner_rules}

pub lines_steady : IsSteady runner_rules
lines_steady bytes more rest r (line, none, inl (short, is, asks)) =
    (line, none, inl (short, ap (λ b. b ++ more) is ∙ append_assoc line (10 ∷ rest) more, asks))
lines_steady bytes more rest r (line, none, inr (long, is, asks)) = (line, none, inr (long, ap (λ b. b ++ more) is ∙ append_assoc line rest more, asks))

-- a line feed follows each line, so no line can be longer
feed_after : (line rest : List ℕ) → slice_index_or (line ++ 10 ∷ rest) (length line) 0 ≡ 10
feed_after [] rest = refl
feed_after (b ∷ line) rest = feed_after line rest

no_further : (line rest other suffix : List ℕ) → HasNoFeed other → line ++ 10 ∷ rest ≡ other ++ suffix → length line < length other → ⊥
no_further line rest other suffix none e less =
    none (length line) 0 less
    (sym (get_or_append_left other suffix 0 (length line) less) ∙ ap (λ (b : List ℕ). slice_index_or b (length line) 0) (sym e) ∙ feed_after line rest)

same_length : (m n : ℕ) → (m < n → ⊥) → (n < m → ⊥) → m ≡ n
same_length m n a b = omega arith

-- prefixes of equal length are equal
same_prefix : (line other a b : List ℕ) → length line ≡ length other → line ++ a ≡ other ++ b → line ≡ other
same_prefix line other a b same e =
    sym (take-append_seam line a) ∙ ap (λ n. take n (line ++ a)) same ∙ ap (take (length other)) e ∙ take-append_seam other b

same_rest : (line other a b : List ℕ) → length line ≡ length other → line ++ a ≡ other ++ b → a ≡ b
same_rest line other a b same e =
    sym (drop-append_seam line a) ∙ ap (λ n. drop n (line ++ a)) same ∙ ap (drop (length other)) e ∙ drop-append_seam other b

pub lines_one : IsOne runner_rules
lines_one bytes rest after r s (line, none, inl (short, is, asks)) (other, never, inl (brief, stands, demands)) =
    let e = sym is ∙ stands in
    let same = same_length (length line) (length other)
    (no_further line rest other (10 ∷ after) never e) (no_further other after line (10 ∷ rest) none (sym e)) in (
      asks ∙ ap request_in (same_prefix line other (10 ∷ rest) (10 ∷ after) same e) ∙ sym demands,
      let f = same_rest line other (10 ∷ rest) (10 ∷ after) same e in cc f,
    )
lines_one bytes rest after r s (line, none, inl (short, is, asks)) (other, never, inr (long, stands, demands)) =
    absurd (no_further line rest other after never (sym is ∙ stands) (omega arith))
lines_one bytes rest after r s (line, none, inr (long, is, asks)) (other, never, inl (brief, stands, demands)) =
    absurd (no_further other after line rest none (sym stands ∙ is) (omega arith))
lines_one bytes rest after r s (line, none, inr (long, is, asks)) (other, never, inr (vast, stands, demands)) =
    let same = long ∙ sym vast in (asks ∙ sym demands, same_rest line other rest after same (sym is ∙ stands))

-- unfinished bytes contain no line feed and are too few for a line that is too long
pub lines_apart : IsApart runner_rules
lines_apart bytes rest r (none, few) (line, never, inl (short, is, asks)) =
    let e = ap length is ∙ length-append line (10 ∷ rest) in
    none (length line) 0 (omega arith) (ap (λ (b : List ℕ). slice_index_or b (length line) 0) is ∙ feed_after line rest)
lines_apart bytes rest r (none, few) (line, never, inr (long, is, asks)) =
    let e = ap length is ∙ length-append line rest in omega arith

-- bytes that were read stay read as more come
pub line_fresh : (bytes : List ℕ) → LineKnown bytes nothing_read
line_fresh bytes = (omega arith, omega arith, λ k d h. absurd (let l = length-take 0 bytes in omega (arith, h, l)))

pub line_lasts : (bytes more : List ℕ) (p : Progress) → LineKnown bytes p → LineKnown (bytes ++ more) p
line_lasts bytes more p (within, few, none) = (
  let l = length-append bytes more in omega arith,
  few,
  subst HasNoFeed (sym (take-append-le p.read bytes more within)) none,
)
