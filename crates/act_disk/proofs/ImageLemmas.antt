-- The images that an in-memory disk produces are among those that a crash may leave.
use Rattle.std.proofs.Common.{◌≡◌, ℕ, ◌/◌, ◌<◌, List, [], ◌∷◌, ◌++◌, length, take, drop, replicate, reverse, refl, sym, ◌∙◌, ap, subst}
use Rattle.std.proofs.Common.{arith, Result, Ok, Err, IfOk}
use Rattle.std.proofs.lemmas.List.{append_assoc, length-append, length-take, length-take-le, length-replicate, length-reverse}
use Rattle.std.proofs.lemmas.List.{reverse-append, take-append-drop}
use Rattle.wf_value.specs.Gives.{Gives}
use Rattle.wf_value.specs.declared.refusal.Refusal.{Refusal}
use Rattle.definitions.specs.Disk.{Torn}
use Rattle.act_disk.specs.Laid.{laid}
use Rattle.act_disk.specs.inner.Laid.{torn_refl, torn_laid}
use Rattle.act_disk.specs.Record.{Record, fresh, seen_after, LeftAfter, bytes_of, MayHaveLeft}
use Rattle.act_disk.specs.Image.{filled, filled_after, own_write, begun, LeftInside, laid_by}
use Rattle.act_disk.specs.declared.call.Call.{Call}
use Rattle.act_disk.specs.declared.call.Call.TheVariants.{Write, Sync}
use Rattle.act_disk.specs.declared.call.Fill.{Fill}
use Rattle.act_disk.specs.declared.call.Fill.TheVariants.{Old, New, Half, Gates}

torn_filled : (fill : Fill) (at : ℕ) (bytes file : List ℕ) → Torn at (length bytes) file (filled fill at bytes file)
torn_filled Old at bytes file = torn_refl at (length bytes) file
torn_filled New at bytes file = torn_laid at bytes file (length bytes) (omega arith)
torn_filled Half at bytes file =
    let half = take (length bytes / 2) bytes in torn_laid at half file (length bytes) (omega (arith, length-take (length bytes / 2) bytes))
torn_filled Gates at bytes file =
    torn_laid at (replicate (length bytes) 0xA5) file (length bytes) (omega (arith, length-replicate {A = ℕ} (length bytes) 0xA5))

filled_left : (fill : Fill) (first : List ℕ) (calls : List Call) → LeftAfter first calls (filled_after fill first calls)
filled_left fill first [] = refl
filled_left fill first (Write at bytes ∷ earlier) =
    (filled_after fill first earlier, filled_left fill first earlier, torn_filled fill at bytes (filled_after fill first earlier))
filled_left fill first (Sync ∷ earlier) = refl

seen-append : (first : List ℕ) (later earlier : List Call)
    → seen_after first (later ++ earlier) ≡ seen_after (seen_after first earlier) later
seen-append first [] earlier = refl
seen-append first (Write at bytes ∷ later) earlier = ap (λ (l : List ℕ). laid at bytes l) (seen-append first later earlier)
seen-append first (Sync ∷ later) earlier = seen-append first later earlier

pub seen_is_laid : (calls : List Call) (first : List ℕ) → seen_after first (reverse calls) ≡ laid_by New calls first
seen_is_laid [] first = refl
seen_is_laid (Write at bytes ∷ calls) first =
    let call = Write at bytes in
    ap (λ (l : List Call). seen_after first l) (reverse-append (call ∷ []) calls) ∙ seen-append first (reverse calls) (call ∷ [])
    ∙ seen_is_laid calls (laid at bytes first)
seen_is_laid (Sync ∷ calls) first =
    ap (λ (l : List Call). seen_after first l) (reverse-append (Sync ∷ []) calls) ∙ seen-append first (reverse calls) (Sync ∷ [])
    ∙ seen_is_laid calls first

abbrev pub image_bytes : Record → ℕ → Fill → List ℕ
image_bytes m call fill = filled_after fill m.first (reverse (begun m.calls call))

own_split : (calls : List Call) → (rest : List Call) × (calls ≡ own_write calls ++ rest)
own_split [] = ([], refl)
own_split (Write at bytes ∷ calls) = (calls, refl)
own_split (Sync ∷ calls) = (Sync ∷ calls, refl)

begun_split : (calls : List Call) (call : ℕ) → (rest : List Call) × (calls ≡ begun calls call ++ rest)
begun_split calls call =
    let own = own_split (drop call calls) in (
      own.0,
      sym (take-append-drop call calls) ∙ ap (λ (l : List Call). take call calls ++ l) own.1
          ∙ sym (append_assoc (take call calls) (own_write (drop call calls)) own.0),
    )

left_since : (m : Record) (call : ℕ) (fill : Fill) → call < length m.calls → MayHaveLeft m call (image_bytes m call fill)
left_since m call fill within =
    let split = begun_split m.calls call in
    let calls = begun m.calls call in (
      reverse split.0,
      reverse calls,
      ap (λ (l : List Call). reverse l) split.1 ∙ reverse-append calls split.0,
      omega (
        arith,
        length-reverse calls,
        length-append (take call m.calls) (own_write (drop call m.calls)),
        length-take-le call m.calls (omega arith),
      ),
      filled_left fill m.first (reverse calls),
    )

module _ (m : Record) (call : ℕ) (fill : Fill) (bytes : List ℕ) (is : bytes ≡ image_bytes m call fill) where
  made : (P : List ℕ → Type 0) (r : Result Record Refusal) → Gives (λ d. d) r (Ok (fresh bytes)) → P (image_bytes m call fill)
      → IfOk r (λ d. P (bytes_of d))
  made P (Ok d) gives holds =
      let same : fresh bytes ≡ d = cc gives in
      subst (λ (x : Record). P (bytes_of x)) same (subst P (sym is) holds)
  made P (Err e) gives holds = tt

  pub inside_made : (r : Result Record Refusal) → Gives (λ d. d) r (Ok (fresh bytes)) → IfOk r (λ d. LeftInside m call (bytes_of d))
  inside_made r gives = made (λ c. LeftInside m call c) r gives (filled_left fill m.first (reverse (begun m.calls call)))

  pub since_made : (r : Result Record Refusal) → call < length m.calls → Gives (λ d. d) r (Ok (fresh bytes))
      → IfOk r (λ d. MayHaveLeft m call (bytes_of d))
  since_made r within gives = made (λ c. MayHaveLeft m call c) r gives (left_since m call fill within)
