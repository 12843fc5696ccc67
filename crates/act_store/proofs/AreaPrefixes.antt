-- What the first bytes of an area say about it, and how they grow.
use Rattle.std.proofs.Common.{◌≡◌, ⊎_elim, inl, inr, ℕ, ◌+◌, ◌*◌, ◌≤◌, List, [], ◌∷◌, ◌++◌, length, take, drop, refl, sym, ◌∙◌, ap, subst, arith}
use Rattle.std.proofs.Common.{append_assoc, append-nil, length-append, take-append-drop}
use Rattle.std.specs.Prelude.{◌⊎◌}
use Rattle.std.proofs.lemmas.List.{drop-drop, length-drop, length-take, take-take}
use Rattle.std.proofs.Math.Seq.{take-add}
use borrow.Rule.Slice.PartMut.{put_mid}
use Rattle.gated_journal.specs.Choice.{part}
use Rattle.definitions.specs.Area.{Head, IsClosed, Reads, ReadsNothing, opened}
use Rattle.gated_journal.proofs.OneReading.{one_reading}
use Rattle.act_store.specs.AreaPrefix.{IsPrefixOf, IsShort, ReadsAlike, ReadsSomething}
use Rattle.definitions.specs.Limits.{first_read}

cut_there : (start n len : ℕ) (disk : List ℕ) → n ≤ len → take n (part start len disk) ≡ part start n disk
cut_there start n len disk within = take-take n len (drop start disk) within

no_element : (l : List ℕ) → length l ≤ 0 → l ≡ []
no_element [] none = refl
no_element (x ∷ l) none = absurd (omega (arith, none))

-- two adjacent parts of a disk
two_parts : (start from n : ℕ) (disk : List ℕ) → part start (from + n) disk ≡ part start from disk ++ part (start + from) n disk
two_parts start from n disk =
    take-add from n (drop start disk)
    ∙ ap (λ (l : List ℕ). part start from disk ++ take n l) (drop-drop from start disk)

-- the bytes after the first ones are filled with those of the disk
pub filled : (start from n : ℕ) (old read disk : List ℕ) → from + n ≡ length old → length read ≡ n → read ≡ part (start + from) n disk
    → IsPrefixOf start (take from old) disk → IsPrefixOf start (put_mid from n old read) disk
filled start from n old read disk all long are prefix =
    let past : drop n (drop from old) ≡ [] =
    no_element (drop n (drop from old)) (omega (arith, all, length-drop n (drop from old), length-drop from old)) in
    let short : length (take from old) ≡ from = omega (arith, all, length-take from old) in
    let bytes : put_mid from n old read ≡ part start from disk ++ read =
    ap (λ (l : List ℕ). take from old ++ (read ++ l)) past ∙ ap (λ (l : List ℕ). take from old ++ l) (append-nil read)
    ∙ ap (λ (l : List ℕ). l ++ read) (prefix ∙ ap (λ (k : ℕ). part start k disk) short) in
    let whole : length (put_mid from n old read) ≡ from + n =
    omega (
      arith,
      all,
      long,
      short,
      length-append (take from old) (read ++ drop n (drop from old)),
      length-append read (drop n (drop from old)),
      ap (λ (l : List ℕ). length l) past,
    ) in
    bytes ∙ ap (λ (l : List ℕ). part start from disk ++ l) are ∙ sym (two_parts start from n disk)
    ∙ ap (λ (k : ℕ). part start k disk) (sym whole)

closed_longer : (rest more : List ℕ) → IsClosed rest → IsClosed (rest ++ more)
closed_longer [] more closed = absurd closed
closed_longer (gate ∷ rest) more closed = closed

-- what the first bytes of an area read as, the whole area reads as
longer_reads : (n : ℕ) (area : List ℕ) (head : Head) (bodies : List (List ℕ)) → Reads (take n area) head bodies → Reads area head bodies
longer_reads n area head bodies reads = record {
  rest = reads.rest ++ drop n area;
  split = sym (take-append-drop n area) ∙ ap (λ (l : List ℕ). l ++ drop n area) reads.split
      ∙ append_assoc (opened head bodies) reads.rest (drop n area);
  closed = closed_longer reads.rest (drop n area) reads.closed;
  fits = reads.fits;
}

-- and as nothing else
alike_some : (n : ℕ) (area : List ℕ) → ReadsSomething (take n area) → ReadsAlike (take n area) area
alike_some n area some head bodies = (
  longer_reads n area head bodies,
  λ reads.
      let whole = longer_reads n area some.0 some.1 some.2 in
      let same = one_reading area some.0 head some.1 bodies whole reads in
      subst (λ (h : Head). Reads (take n area) h bodies) same.0
      (subst (λ (l : List (List ℕ)). Reads (take n area) some.0 l) same.1 some.2),
)

alike_all : (bytes area : List ℕ) → bytes ≡ area → ReadsAlike bytes area
alike_all bytes area same head bodies = (
  subst (λ (l : List ℕ). Reads l head bodies) same,
  subst (λ (l : List ℕ). Reads l head bodies) (sym same),
)

-- the bytes that were read of an area are all of it, or read as something
pub alike : (start len : ℕ) (bytes disk : List ℕ) → IsPrefixOf start bytes disk → length bytes ≤ len
    → (length bytes ≡ len) ⊎ ReadsSomething bytes → ReadsAlike bytes (part start len disk)
alike start len bytes disk prefix within enough =
    ⊎_elim
    (λ all. alike_all bytes (part start len disk) (prefix ∙ ap (λ (k : ℕ). part start k disk) all))
    (λ some.
    let n = length bytes in
    let area = part start len disk in
    let cut : take n area ≡ bytes = cut_there start n len disk within ∙ sym prefix in
    subst (λ (l : List ℕ). ReadsAlike l area) cut
    (alike_some n area (subst ReadsSomething (sym cut) some)))
    enough

-- The bytes stay few: twice as many are read only if the earlier ones read as nothing.
pub still_short : (old new : List ℕ) (n : ℕ) → length old ≡ n → take n new ≡ old → ReadsNothing old
    → (length new ≤ first_read) ⊎ (length new ≤ 2 * n) → IsShort new
still_short old new n long prefix nothing at_most =
    ⊎_elim inl (λ half. inr (n, half, subst ReadsNothing (sym prefix) nothing)) at_most
