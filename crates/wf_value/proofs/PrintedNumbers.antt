-- A printed number is never empty.
use Rattle.std.proofs.Common.{◌<◌, ◌^◌, ℤ, pos, negsuc, length, w64, FitsSigned, arith}
use Rattle.std.proofs.lemmas.Fmt.{decimal_nonempty}
use Rattle.std.proofs.lemmas.Int.{ints}
use Rattle.std.specs.Fmt.{signed_decimal}

pub signed_decimal-filled : (z : ℤ) → FitsSigned w64 z → 0 < length (signed_decimal z)
signed_decimal-filled (pos n) fits = let below : n < 2 ^ 64 = omega (arith, ints, fits.sfits) in decimal_nonempty n below
signed_decimal-filled (negsuc n) fits = omega arith
