-- Small texts and numbers in decimal digits.
use Rattle.std.specs.Prelude.{ℕ, ◌&&◌, List, length, Bool, nat_le, Option, Some, None, if◌then◌else◌, ◌==◌, ◌||◌, not, slice_index, refl}
use Rattle.std.specs.List.{list_all, slice_split}
use Rattle.std.specs.Char.{is_ascii_digit, is_ascii_lowercase, is_ascii_alphanumeric, is_ascii_graphic}
use Rattle.std.specs.Str.Parse.{digits_value}
use Rattle.definitions.specs.Limits.{max_labels, max_text_bytes}
use Rattle.std.specs.Coded.{Coded, code_by, coded_ℕ, coded_list, coded×}

-- ---- what a few decimal digits write.

-- one to nine decimal digits
abbrev pub is_decimal : List ℕ → Bool
is_decimal text = nat_le 1 (length text) && nat_le (length text) 9 && list_all is_ascii_digit text

-- the number that they write
abbrev pub decimal_of : List ℕ → Option ℕ
decimal_of text = if is_decimal text then Some (digits_value 10 text) else None

-- ---- the forms of small texts: ids, names, labels and numbers.

abbrev pub is_of_short_length : List ℕ → Bool
is_of_short_length text = nat_le 1 (length text) && nat_le (length text) max_text_bytes

-- 1 to `max_text_bytes` bytes of a kind
abbrev pub is_short : (ℕ → Bool) → List ℕ → Bool
is_short kind text = is_of_short_length text && list_all kind text

-- a letter, a digit or `-`
abbrev pub is_delivery_byte : ℕ → Bool
is_delivery_byte b = is_ascii_alphanumeric b || (b == 45)

-- a lower-case letter, a digit or `_`
abbrev pub is_event_byte : ℕ → Bool
is_event_byte b = is_ascii_lowercase b || is_ascii_digit b || (b == 95)

-- a letter, a digit, `_`, `-` or `.`
abbrev pub is_runner_byte : ℕ → Bool
is_runner_byte b = is_ascii_alphanumeric b || (b == 95) || (b == 45) || (b == 46)

-- a printable byte except space and comma
abbrev pub is_label_byte : ℕ → Bool
is_label_byte b = is_ascii_graphic b && not (b == 44)

-- the value if the test holds
abbrev pub found_if : {X : Type 0} → Bool → X → Option X
found_if test x = if test then Some x else None

-- the text, if it is 1 to `max_text_bytes` bytes of a kind
abbrev pub short_text_of : (ℕ → Bool) → List ℕ → Option (List ℕ)
short_text_of kind text = found_if (is_short kind text) text

abbrev pub delivery_id_of : List ℕ → Option (List ℕ)
delivery_id_of = short_text_of is_delivery_byte

abbrev pub event_name_of : List ℕ → Option (List ℕ)
event_name_of = short_text_of is_event_byte

abbrev pub runner_name_of : List ℕ → Option (List ℕ)
runner_name_of = short_text_of is_runner_byte

-- 1 to `max_labels` labels
abbrev pub are_labels : List (List ℕ) → Bool
are_labels labels = nat_le 1 (length labels) && nat_le (length labels) max_labels && list_all (is_short is_label_byte) labels

abbrev pub split_at_commas : List ℕ → List (List ℕ)
split_at_commas = slice_split (λ b. b == 44)

-- comma-separated labels
abbrev pub label_list_of : List ℕ → Option (List (List ℕ))
label_list_of text = found_if (are_labels (split_at_commas text)) (split_at_commas text)

-- whether the text is one to nine decimal digits, the first of them not 0
abbrev pub is_number : List ℕ → Bool
is_number text = is_decimal text && not (slice_index text 0 == 48)

-- decimal, 1 to `last_number`, no leading zero
abbrev pub number_of : List ℕ → Option ℕ
number_of text = found_if (is_number text) (digits_value 10 text)

-- ---- what is stored of an admitted event: its delivery, its name and the bytes of its body.

pub record Admitted : Type 0 where
  pub delivery : List ℕ
  pub event : List ℕ
  pub body : List ℕ

abbrev pub coded_bytes : Coded (List ℕ)
coded_bytes = coded_list coded_ℕ

abbrev pub coded_admitted : Coded Admitted
coded_admitted =
    code_by (List ℕ × (List ℕ × List ℕ)) (coded× coded_bytes (coded× coded_bytes coded_bytes))
    (λ a. (a.delivery, (a.event, a.body))) (λ p. record { delivery = p.0; event = p.1.0; body = p.1.1 }) (λ _. refl)
