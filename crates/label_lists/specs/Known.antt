-- Lists of labels by number, each with the runs that have legs with these labels. This is defined by this project.
use Rattle.std.specs.Prelude.{◌<◌, ℕ, List, Bool, false, Option, IfSome, slice_get}
use Rattle.std.specs.Option.{option_map_or}
use Rattle.label_lists.specs.Requesting.{RequestingState, requests_in, may_offer_in}

-- whether the list of a number has the run
abbrev pub requests_at : List RequestingState → ℕ → ℕ → Bool
requests_at requesting number run = option_map_or (λ a. requests_in a run) (slice_get requesting number) false

-- whether the run may have a ready leg with the list of a number
abbrev pub offers_at : List RequestingState → ℕ → ℕ → Bool
offers_at requesting number run = option_map_or (λ a. may_offer_in a run) (slice_get requesting number) false

-- the number is less than the result of an upward search, or the search found nothing
abbrev pub IsBefore : ℕ → Option ℕ → Type 0
IsBefore number found = IfSome found (λ n. number < n)
