use Rattle.std.proofs.Common.{◌≡◌, ◌+◌, ◌-◌, ◌<◌, ◌++◌, ℕ, List, length, ap, arith, refl, rules, subst, sym, length-append}
use Rattle.std.specs.Prelude.{replicate, vec_len}
use Rattle.std.proofs.lemmas.List.{length-replicate}
use Rattle.table_text.specs.Tables.{whole_table}
use Rattle.act_store.specs.Images.{IsAreaLength, RecoversTo}
use Rattle.store_copies.specs.Copies.{copy_front}
use Rattle.store_copies.proofs.Copies.{copy_recovers, length_front}
use Rattle.store_copies.proofs.copy.copy_of.Goals as goal

pub overflow_sub-zeros : goal.overflow_sub-zeros
overflow_sub-zeros c =
    let text = whole_table.encoding c.args.table.now in
    let size : IsAreaLength c.args.area = c.if-not-fits.ensures.area refl in
    let most = size.most in
    let long : vec_len c.in_ok-bytes.bytes ≡ length (copy_front text) = search (rules, ap (λ (l : List ℕ). length l) c.in_ok-bytes.ensures.bytes) in
    omega (arith, c.len.ensures, long, length_front text, c.if-not-fits.ensures.room refl)

pub invariant_of-result : goal.invariant_of-result
invariant_of-result c =
    let text = whole_table.encoding c.args.table.now in
    let size : IsAreaLength c.args.area = c.if-not-fits.ensures.area refl in
    let most = size.most in
    let long : vec_len c.in_ok-bytes.bytes ≡ length (copy_front text) = search (rules, ap (λ (l : List ℕ). length l) c.in_ok-bytes.ensures.bytes) in
    record { fits = omega (arith, c.len.ensures, long, ap (λ (l : List ℕ). length l) c.in_ok-bytes.ensures.bytes, length_front text, c.if-not-fits.ensures.room refl) }

pub returns-clause-recovers : goal.returns-clause-recovers
returns-clause-recovers c =
    let text = whole_table.encoding c.args.table.now in
    let bytes = c.in_ok-bytes.ensures.bytes in
    let size : IsAreaLength c.args.area = c.if-not-fits.ensures.area refl in
    let most = size.most in
    let zeros = c.args.area + c.args.area - c.len.result in
    let long : vec_len c.in_ok-bytes.bytes ≡ length (copy_front text) = search (rules, ap (λ (l : List ℕ). length l) bytes) in
    let fits : length (copy_front text) < c.args.area = omega (arith, length_front text, c.if-not-fits.ensures.room refl) in
    let whole : length (copy_front text) + zeros ≡ c.args.area + c.args.area = omega (arith, c.len.ensures, long, fits) in
    subst (λ (l : List ℕ). RecoversTo c.args.table.now (l ++ replicate zeros 0)) (sym bytes)
    (copy_recovers c.args.area zeros c.args.table.now text c.in_ok-bytes.ensures.encodes size fits (omega (arith, length_front text, fits, most)) whole)

pub returns-clause-size : goal.returns-clause-size
returns-clause-size c =
    let text = whole_table.encoding c.args.table.now in
    let bytes = c.in_ok-bytes.ensures.bytes in
    let zeros = c.args.area + c.args.area - c.len.result in
    let rest : List ℕ = replicate zeros 0 in
    let long : vec_len c.in_ok-bytes.bytes ≡ length (copy_front text) = search (rules, ap (λ (l : List ℕ). length l) bytes) in
    omega (
      arith,
      length-append c.in_ok-bytes.bytes.items rest,
      length-replicate {A = ℕ} zeros 0,
      ap (λ (l : List ℕ). length l) bytes,
      c.len.ensures,
      long,
      length_front text,
      c.if-not-fits.ensures.room refl,
    )

pub returns-clause-bytes : goal.returns-clause-bytes
returns-clause-bytes c = c.in_ok-bytes.ensures.bytes
