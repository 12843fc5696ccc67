-- The effect of an append on what an area reads as.
use Rattle.std.proofs.Common.{◌≡◌, ◌⊎◌, inl, inr, ℕ, ◌+◌, ◌<◌, ◌≤◌, ◌^◌, List, [], ◌∷◌, ◌++◌, length, get_or, take, drop, refl, sym, ◌∙◌}
use Rattle.std.proofs.Common.{ap, arith, append_assoc, length-append, take-append-drop}
use Rattle.std.specs.List.{AllByRecursion}
use Rattle.std.proofs.lemmas.List.{take_at, drop_more, append-nil}
use Rattle.std.proofs.lemmas.Bool.{cases_eq}
use Rattle.definitions.specs.Disk.{Torn, Holds}
use Rattle.act_disk.proofs.Kept.{prefix_kept}
use Rattle.gated_journal.specs.Appends.{record_of, IsWhole, Appends}
use Rattle.definitions.specs.Area.{Head, head_bytes, framed, record_bytes, opened, IsClosed, Reads}
use Rattle.gated_journal.proofs.ClosedGate.{same_reading}

pub record_bytes-push : (bodies : List (List ℕ)) (body : List ℕ)
    → record_bytes (bodies ++ body ∷ []) ≡ record_bytes bodies ++ 0xA5 ∷ framed body
record_bytes-push [] body = ap (λ (l : List ℕ). 0xA5 ∷ l) (append-nil (framed body))
record_bytes-push (b ∷ bodies) body =
    ap (λ (l : List ℕ). 0xA5 ∷ framed b ++ l) (record_bytes-push bodies body)
    ∙ ap (λ (l : List ℕ). 0xA5 ∷ l) (sym (append_assoc (framed b) (record_bytes bodies) (0xA5 ∷ framed body)))

pub opened-push : (head : Head) (bodies : List (List ℕ)) (body : List ℕ)
    → opened head (bodies ++ body ∷ []) ≡ opened head bodies ++ 0xA5 ∷ framed body
opened-push head bodies body =
    ap (λ (l : List ℕ). 0xA5 ∷ l)
    (ap (λ (l : List ℕ). head_bytes head ++ l) (record_bytes-push bodies body)
    ∙ sym (append_assoc (head_bytes head) (record_bytes bodies) (0xA5 ∷ framed body)))

pub all_short-push : (bodies : List (List ℕ)) (body : List ℕ) → AllByRecursion (λ b. length b < 2 ^ 32) bodies → length body < 2 ^ 32
    → AllByRecursion (λ b. length b < 2 ^ 32) (bodies ++ body ∷ [])
all_short-push [] body all short = (short, _)
all_short-push (b ∷ bodies) body all short = (all.0, all_short-push bodies body all.1 short)

-- the first closed gate lies within the area
gate_within : (prefix rest : List ℕ) → IsClosed rest → length prefix + 1 ≤ length (prefix ++ rest)
gate_within prefix [] closed = absurd closed
gate_within prefix (gate ∷ rest) closed = omega (arith, length-append prefix (gate ∷ rest))

module _ (head : Head) (bodies : List (List ℕ)) (d c : List ℕ) (reads : Reads d head bodies) where
  abbrev used : ℕ
  used = length (opened head bodies)

  used_within : used + 1 ≤ length d
  used_within = omega (arith, ap (λ (l : List ℕ). length l) reads.split, gate_within (opened head bodies) reads.rest reads.closed)

  -- a write after the first closed gate
  pub after_reads : (at n : ℕ) → used + 1 ≤ at → Torn at n d c → Reads c head bodies
  after_reads at n past torn = same_reading d c head bodies reads (prefix_kept at n d c torn (used + 1) used_within past)

  module _ (body : List ℕ) (short : length body < 2 ^ 32) (whole : IsWhole used (record_of body) d c) where
    abbrev gate_of : ℕ
    gate_of = get_or c used 0

    abbrev past : List ℕ
    past = drop (length (record_of body)) (drop (used + 1) c)

    prefix : take used c ≡ opened head bodies
    prefix =
        prefix_kept used (length (record_of body) + 1) d c whole.torn used (omega (arith, used_within)) (omega arith)
        ∙ ap (λ (l : List ℕ). take used l) reads.split ∙ take_at (opened head bodies) reads.rest used refl

    long : used + 1 ≤ length c
    long = omega (arith, used_within, whole.torn.no_shorter)

    gated : drop used c ≡ gate_of ∷ drop (used + 1) c
    gated = drop_more c used 0 (omega (arith, long))

    tail : drop (used + 1) c ≡ record_of body ++ past
    tail = sym (take-append-drop (length (record_of body)) (drop (used + 1) c)) ∙ ap (λ (l : List ℕ). l ++ past) whole.held

    split : c ≡ opened head bodies ++ (gate_of ∷ record_of body ++ past)
    split =
        sym (take-append-drop used c) ∙ ap (λ (l : List ℕ). l ++ drop used c) prefix
        ∙ ap (λ (l : List ℕ). opened head bodies ++ l) (gated ∙ ap (λ (l : List ℕ). gate_of ∷ l) tail)

    -- once the gate is open, the record is present
    pub one_more : gate_of ≡ 0xA5 → Reads c head (bodies ++ body ∷ [])
    one_more is = record {
      rest = 0 ∷ past;
      split = split
          ∙ ap (λ (g : ℕ). opened head bodies ++ (g ∷ record_of body ++ past)) is
          ∙ ap (λ (l : List ℕ). opened head bodies ++ (0xA5 ∷ l)) (append_assoc (framed body) (0 ∷ []) past)
          ∙ sym (append_assoc (opened head bodies) (0xA5 ∷ framed body) (0 ∷ past))
          ∙ ap (λ (l : List ℕ). l ++ 0 ∷ past) (sym (opened-push head bodies body));
      closed = omega arith;
      fits = record {
        generation = reads.fits.generation;
        text = reads.fits.text;
        each = all_short-push bodies body reads.fits.each short;
      };
    }

    pub whole_reads : Reads c head bodies ⊎ Reads c head (bodies ++ body ∷ [])
    whole_reads = elim (cases_eq gate_of 0xA5) [
      | inl is ↦ inr (one_more is)
      | inr isnt ↦ inl (record { rest = gate_of ∷ record_of body ++ past; split = split; closed = isnt; fits = reads.fits })
    ]

    pub opened_reads : Holds c used (0xA5 ∷ []) → Reads c head (bodies ++ body ∷ [])
    opened_reads holds = one_more (let first : gate_of ∷ [] ≡ 0xA5 ∷ [] = sym (ap (λ (l : List ℕ). take 1 l) gated) ∙ holds in cc first)

  pub appends_reads : (body : List ℕ) → length body < 2 ^ 32 → Appends used (record_of body) d c
      → Reads c head bodies ⊎ Reads c head (bodies ++ body ∷ [])
  appends_reads body short (inl torn) = inl (after_reads (used + 1) (length (record_of body)) (omega arith) torn)
  appends_reads body short (inr whole) = whole_reads body short whole
