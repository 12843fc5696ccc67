-- How long ago things were.
use Rattle.std.specs.Prelude.{ℕ, ◌-◌, ◌/◌, List, max, unwrap_or, Option, option_map}
use Rattle.std.specs.HashMap.{get_by_text}
use Rattle.std.specs.List.{fold}
use Rattle.std.specs.Option.{option_map_or}
use Rattle.std.specs.Time.{instant_nanos}
use Rattle.std.specs.declared.time.Instant.{Instant}
use Rattle.table_model.specs.TableState.{RunnerState}
use Rattle.service_views.specs.declared.kept.Kept.{Kept}

-- whole seconds from one moment to another; 0 if the other is not later
abbrev pub seconds_between : Instant → Instant → ℕ
seconds_between from to = (instant_nanos to - instant_nanos from) / 1_000_000_000

-- whole seconds since the runner with a name was last heard, if it was
abbrev pub seconds_since : Kept → Instant → List ℕ → Option ℕ
seconds_since k now name = option_map (λ heard. seconds_between heard now) (get_by_text k.heard name)

-- whole seconds since a runner with a lease was last heard, or since the service began if it was not heard since; 0 of one without a lease
abbrev pub silence_of : Kept → Instant → RunnerState → ℕ
silence_of k now runner =
    option_map_or (λ lease. unwrap_or (seconds_since k now runner.name) (seconds_between k.began now)) runner.holds 0

-- the longest of these, 0 if there is none
abbrev pub longest_silence : Kept → Instant → List RunnerState → ℕ
longest_silence k now runners = fold (λ longest runner. max longest (silence_of k now runner)) 0 runners
