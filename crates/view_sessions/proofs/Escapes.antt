-- The escapes of a value, one byte after the other.
use Rattle.std.proofs.Common.{◌≡◌, ℕ, ◌+◌, ◌<◌, ◌≤◌, ◌==◌, List, length, drop, refl, true, add-one, drop-cons}
use Rattle.std.proofs.lemmas.List.{drop_all}
use Rattle.std.specs.Prelude.{◌&&◌, ◌||◌, not, slice_index}
use Rattle.view_sessions.specs.Values.{are_escapes, begins_with_digits}

pub escapes_next : (value : List ℕ) (index : ℕ) → index < length value → are_escapes (drop index value)
    ≡ ((not (slice_index value index == 37) || begins_with_digits (drop (index + 1) value)) && are_escapes (drop (index + 1) value))
escapes_next value index within = rw (add-one, drop-cons value index 0) refl

pub escapes_end : (value : List ℕ) (index : ℕ) → length value ≤ index → are_escapes (drop index value) ≡ true
escapes_end value index past = rw (drop_all index value past) refl
