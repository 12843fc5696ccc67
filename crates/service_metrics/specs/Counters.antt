-- What a service has done since it began, in numbers.
use Rattle.std.specs.Prelude.{ℕ, List, [], ◌∷◌, ◌++◌, codes, length, map, sum}
use Rattle.run_plan.specs.declared.reply.Reply.{Reply}
use Rattle.table_views.specs.MetricLines.{capped, metric}
use Rattle.service_metrics.specs.CommitTimes.{bounds, bucket_of, commit_lines}
use Rattle.service_metrics.specs.Refusals.{numbers, refusal_lines, refused}
use Rattle.service_metrics.specs.declared.commit_times.Bucket.{Bucket}
use Rattle.service_metrics.specs.declared.refusal_counts.RefusalCount.{RefusalCount}

-- the replies of the entries that were made durable, and how many nanoseconds each commit took, at most 2^64 - 1
pub record Done : Type 0 where
  pub replies : List Reply
  pub commits : List ℕ

abbrev pub nothing_done : Done
nothing_done = record { replies = []; commits = [] }

abbrev pub with_entry : Done → Reply → Done
with_entry done reply = record { replies = done.replies ++ reply ∷ []; commits = done.commits }

abbrev pub with_commit : Done → ℕ → Done
with_commit done nanos = record { replies = done.replies; commits = done.commits ++ nanos ∷ [] }

-- ---- in numbers

pub record CountersState : Type 0 where
  pub entries : ℕ
  pub refusals : List RefusalCount
  pub buckets : List Bucket
  pub commits : ℕ
  pub nanos : ℕ

abbrev pub counters_of : Done → CountersState
counters_of done = record {
  entries = capped (length done.replies);
  refusals = map (refused done.replies) numbers;
  buckets = map (bucket_of done.commits) bounds;
  commits = capped (length done.commits);
  nanos = capped (sum done.commits);
}

-- ---- their lines

abbrev pub count_lines : CountersState → List ℕ
count_lines c =
    metric (codes "acts_entries_total") (codes "counter") (codes "Entries of the history since the service began.") c.entries
    ++ refusal_lines c.refusals ++ commit_lines c.buckets c.commits c.nanos
