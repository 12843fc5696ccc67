-- How long commits took, as a histogram.
use Rattle.std.specs.Prelude.{ℕ, ◌+◌, List, [], ◌∷◌, ◌++◌, codes, decimal, flat_map, nat_eq, nat_le, if◌then◌else◌}
use Rattle.std.specs.List.{count_by}
use Rattle.table_views.specs.MetricLines.{capped, head, value_line}
use Rattle.service_metrics.specs.declared.commit_times.Bucket.{Bucket}

-- the bounds of the buckets, in nanoseconds
abbrev pub bounds : List ℕ
bounds =
    100_000 ∷ 250_000 ∷ 500_000 ∷ 1_000_000 ∷ 2_500_000 ∷ 5_000_000 ∷ 10_000_000
    ∷ 25_000_000 ∷ 50_000_000 ∷ 100_000_000 ∷ 250_000_000 ∷ 500_000_000 ∷ 1_000_000_000 ∷ 2_500_000_000 ∷ []

-- of commits that took so many nanoseconds, how many took at most a bound
abbrev pub bucket_of : List ℕ → ℕ → Bucket
bucket_of commits bound = record { nanos = bound; count = capped (count_by (λ took. nat_le took bound) commits) }

-- ---- one bucket, and one more commit

abbrev pub empty : ℕ → Bucket
empty bound = record { nanos = bound; count = 0 }

abbrev pub with_commit : ℕ → Bucket → Bucket
with_commit nanos b = record { nanos = b.nanos; count = if nat_le nanos b.nanos then capped (b.count + 1) else b.count }

-- ---- their lines

-- a bound in seconds, as it is printed
abbrev pub seconds_text : ℕ → List ℕ
seconds_text nanos =
    if nat_eq nanos 100_000 then codes "0.0001" else (
    if nat_eq nanos 250_000 then codes "0.00025" else (
    if nat_eq nanos 500_000 then codes "0.0005" else (
    if nat_eq nanos 1_000_000 then codes "0.001" else (
    if nat_eq nanos 2_500_000 then codes "0.0025" else (
    if nat_eq nanos 5_000_000 then codes "0.005" else (
    if nat_eq nanos 10_000_000 then codes "0.01" else (
    if nat_eq nanos 25_000_000 then codes "0.025" else (
    if nat_eq nanos 50_000_000 then codes "0.05" else (
    if nat_eq nanos 100_000_000 then codes "0.1" else (
    if nat_eq nanos 250_000_000 then codes "0.25" else (
    if nat_eq nanos 500_000_000 then codes "0.5" else (
    if nat_eq nanos 1_000_000_000 then codes "1" else (
    if nat_eq nanos 2_500_000_000 then codes "2.5" else (
    codes "+Inf"))))))))))))))

abbrev pub bucket_line : List ℕ → ℕ → List ℕ
bucket_line bound count =
    value_line (codes "acts_commit_seconds_bucket") (codes "{le=\"" ++ bound ++ codes "\"}") count

abbrev pub line_of : Bucket → List ℕ
line_of b = bucket_line (seconds_text b.nanos) b.count

-- nanoseconds, as a number of seconds
abbrev pub sum_line : ℕ → List ℕ
sum_line nanos = codes "acts_commit_seconds_sum " ++ decimal nanos ++ codes "e-9\n"

abbrev pub commit_lines : List Bucket → ℕ → ℕ → List ℕ
commit_lines buckets commits nanos =
    head (codes "acts_commit_seconds") (codes "histogram") (codes "How long commits took.")
    ++ flat_map line_of buckets ++ bucket_line (codes "+Inf") commits
    ++ sum_line nanos ++ value_line (codes "acts_commit_seconds_count") [] commits
