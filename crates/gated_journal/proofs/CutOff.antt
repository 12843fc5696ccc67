-- An area reads as nothing exactly if it is cut off.
use Rattle.std.proofs.Common.{◌≡◌, ⊎_elim, ℕ, ◌+◌, ◌<◌, List, ◌∷◌, ◌++◌, length, take, drop, refl, sym, ◌∙◌, ap, subst}
use Rattle.std.proofs.Common.{arith, append_assoc, length-append}
use Rattle.std.specs.Int.{from_be_bytes, to_be_bytes, w64}
use Rattle.std.proofs.lemmas.List.{drop-drop, length-drop, take_at, drop_at}
use Rattle.std.proofs.lemmas.Nat.{from_be_bytes-to_be_bytes_8}
use Rattle.definitions.specs.Area.{Head, head_bytes, framed, record_bytes, ReadsNothing}
use Rattle.gated_journal.specs.Scanned.{Frames, OpensWith, HasHead, HasPrefix}
use Rattle.gated_journal.specs.CutOff.{EndsInBody, EndsInHead, HasNoRecord, HasNoHead, EndsInRecords, IsCutOff, EncodesNothing}
use Rattle.gated_journal.proofs.OneReading.{apart}
use Rattle.gated_journal.proofs.Parting.{rest_closed}
use Rattle.gated_journal.proofs.Scanning.{framed_number, length-frame}
use Rattle.gated_journal.proofs.Scans.{nothing_without_prefix, nothing_without_end}

-- a head whose text passes the end
pub head_cut : (bytes suffix past : List ℕ) → suffix ≡ drop 1 bytes → past ≡ drop 8 suffix
    → length past < 8 + from_be_bytes w64 (take 8 past) → EndsInHead bytes
head_cut bytes suffix past after_is past_is few =
    let same : past ≡ drop 9 bytes = past_is ∙ ap (λ (l : List ℕ). drop 8 l) after_is ∙ drop-drop 8 1 bytes in
    omega (
      arith,
      few,
      ap (λ (l : List ℕ). length l) same,
      length-drop 9 bytes,
      ap (λ (l : List ℕ). from_be_bytes w64 (take 8 l)) same,
    )

-- a cut-off head after an open gate
pub no_head : (area suffix : List ℕ) → suffix ≡ drop 1 area → EndsInHead suffix → HasNoHead area
no_head area suffix is cut other split =
    subst EndsInHead (is ∙ ap (λ (l : List ℕ). drop 1 l) split) cut

pub no_record : (bytes suffix : List ℕ) → suffix ≡ drop 1 bytes → EndsInBody suffix → HasNoRecord bytes
no_record bytes suffix is cut other split =
    subst EndsInBody (is ∙ ap (λ (l : List ℕ). drop 1 l) split) cut

-- a head, followed by records that are cut off
pub cut_off : (area : List ℕ) (head : Head) (suffix : List ℕ) → HasPrefix area head suffix → EndsInRecords suffix → IsCutOff area
cut_off area head suffix prefix ends = record {
  head = head;
  bodies = ends.bodies;
  rest = ends.rest;
  split = prefix.split
      ∙ ap (λ (l : List ℕ). 0xA5 ∷ l) (prefix.headed.split ∙ ap (λ (l : List ℕ). head_bytes head ++ l) ends.parts.split
      ∙ sym (append_assoc (head_bytes head) (record_bytes ends.bodies) ends.rest));
  fits = record { generation = prefix.headed.generation; text = prefix.headed.text; each = ends.parts.short };
  no_record = ends.no_record;
  no_gate = ends.no_gate;
}

-- no open record begins where the bytes end inside one
none_opens : (rest : List ℕ) → HasNoRecord rest → (body past : List ℕ) → OpensWith rest body past → ⊥
none_opens rest none body past opens =
    let frame : Frames (framed body ++ past) body past = record { split = refl; short = opens.short } in
    let cut : EndsInBody (framed body ++ past) = none (framed body ++ past) opens.split in
    omega (arith, cut, framed_number (framed body ++ past) body past frame, length-frame (framed body ++ past) body past frame)

-- no head begins where the bytes end inside one
no_head_there : (suffix : List ℕ) (head : Head) (rest : List ℕ) → HasHead suffix head rest → EndsInHead suffix → ⊥
no_head_there suffix head rest has cut =
    let g = to_be_bytes w64 head.generation in
    let n = to_be_bytes w64 (length head.text) in
    let past = head.text ++ rest in
    let parted : suffix ≡ head.version ∷ g ++ (n ++ past) = has.split ∙ apart head rest in
    let left : drop 9 suffix ≡ n ++ past = ap (λ (l : List ℕ). drop 9 l) parted ∙ drop_at g (n ++ past) 8 refl in
    let number = ap (λ (l : List ℕ). from_be_bytes w64 (take 8 l)) left
    ∙ ap (λ (l : List ℕ). from_be_bytes w64 l) (take_at n past 8 refl) ∙ from_be_bytes-to_be_bytes_8 (length head.text) has.text in
    let g_is : length g ≡ 8 = refl in
    let n_is : length n ≡ 8 = refl in
    omega (
      arith,
      cut,
      number,
      ap (λ (l : List ℕ). length l) parted,
      length-append g (n ++ past),
      length-append n past,
      length-append head.text rest,
      g_is,
      n_is,
    )

-- hence an area that is cut off reads as nothing
nothing_headless : (area : List ℕ) → HasNoHead area → ReadsNothing area
nothing_headless area none =
    nothing_without_prefix area (λ head rest prefix. no_head_there prefix.suffix head rest prefix.headed (none prefix.suffix prefix.split))

nothing_cut : (area : List ℕ) → IsCutOff area → ReadsNothing area
nothing_cut area cut =
    let left = record_bytes cut.bodies ++ cut.rest in
    let prefix : HasPrefix area cut.head left =
    record {
      suffix = head_bytes cut.head ++ left;
      split = cut.split ∙ ap (λ (l : List ℕ). 0xA5 ∷ l) (append_assoc (head_bytes cut.head) (record_bytes cut.bodies) cut.rest);
      headed = record { split = refl; generation = cut.fits.generation; text = cut.fits.text };
    } in
    nothing_without_end area cut.head left prefix (λ bodies end parts closed.
    cut.no_gate (rest_closed left cut.rest end cut.bodies bodies (record { split = refl; short = cut.fits.each })
    (none_opens cut.rest cut.no_record) parts closed))

pub nothing_read : (area : List ℕ) → EncodesNothing area → ReadsNothing area
nothing_read area = ⊎_elim (nothing_headless area) (nothing_cut area)
