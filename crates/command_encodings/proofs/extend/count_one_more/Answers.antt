use Rattle.std.proofs.Common.{◌≡◌, ◌∙◌, ◌+◌, ◌*◌, ◌<◌, ◌^◌, ◌%◌, ℕ, List, ◌++◌, ap, arith, drop, refl, slice_index_or}
use Rattle.std.specs.Int.{to_be_bytes, w32}
use Rattle.std.proofs.lemmas.List.{drop_at}
use Rattle.std.proofs.Math.Nat.{mod-eq_of_lt}
use Rattle.std.proofs.lemmas.Nat.{from_be_bytes-to_be_bytes_4}
use Rattle.definitions.specs.Format.{word_bytes}
use Rattle.command_encodings.proofs.extend.count_one_more.Goals as goal

pub returns : goal.returns
unfolding word_bytes
returns c = λ count rest few is.
    let fits : count < 2 ^ 32 = omega (arith, few) in
    let number : c.from_be_bytes-count.result ≡ count =
    c.from_be_bytes-count.ensures
    ∙ ap (λ (l : List ℕ). slice_index_or l 0 0 * 16777216 + slice_index_or l 1 0 * 65536 + slice_index_or l 2 0 * 256 + slice_index_or l 3 0) is
    ∙ from_be_bytes-to_be_bytes_4 count fits in
    let next : (c.from_be_bytes-count.result + 1) % 4294967296 ≡ count + 1 =
    ap (λ (n : ℕ). (n + 1) % 4294967296) number ∙ mod-eq_of_lt (omega (arith, few)) in
    ap (λ (l : List ℕ). l ++ drop 4 c.args.bytes.now) (c.copy_from_slice.ensures.after ∙ c.to_be_bytes.ensures ∙ ap (to_be_bytes w32) next)
    ∙ ap (λ (l : List ℕ). to_be_bytes w32 (count + 1) ++ l) (ap (drop 4) is ∙ drop_at (to_be_bytes w32 count) rest 4 refl)
