-- Texts of ASCII bytes are UTF-8.
use Rattle.std.specs.Prelude.{◌≡◌, ℕ, zero, suc, ◌<◌, List, [], ◌∷◌, Bool, true, slice_index}
use Rattle.std.specs.List.{list_all}
use Rattle.std.specs.Str.{IsUtf8}
use Rattle.std.proofs.Common.{arith}
use Rattle.std.proofs.lemmas.Bool.{and_parts}
use Rattle.std.proofs.lemmas.Str.{IsUtf8-from_ascii}
use Rattle.definitions.specs.SmallText.{is_of_short_length, is_short}

ascii_at : (kind : ℕ → Bool) → ((b : ℕ) → kind b ≡ true → b < 128) → (bs : List ℕ)
    → list_all kind bs ≡ true → (i : ℕ) → slice_index bs i < 128
ascii_at kind small [] h i = omega arith
ascii_at kind small (b ∷ bs) h zero = small b (and_parts (kind b) (list_all kind bs) h).0
ascii_at kind small (b ∷ bs) h (suc i) = ascii_at kind small bs (and_parts (kind b) (list_all kind bs) h).1 i

-- a short text of a kind of ASCII bytes is UTF-8
pub utf8_of_short : (kind : ℕ → Bool) → ((b : ℕ) → kind b ≡ true → b < 128) → (bs : List ℕ) → is_short kind bs ≡ true → IsUtf8 bs
utf8_of_short kind small bs h = IsUtf8-from_ascii bs (ascii_at kind small bs (and_parts (is_of_short_length bs) (list_all kind bs) h).1)
