-- How many entries were refused, by number.
use Rattle.std.specs.Prelude.{ℕ, ◌+◌, List, [], ◌∷◌, ◌++◌, Bool, false, codes, decimal, flat_map, nat_eq, if◌then◌else◌}
use Rattle.std.specs.List.{count_by}
use Rattle.wf_value.specs.RefusalText.{refusal_number}
use Rattle.run_plan.specs.declared.reply.Reply.{Reply}
use Rattle.run_plan.specs.declared.reply.Reply.TheVariants as reply
use Rattle.table_views.specs.MetricLines.{capped, head, value_line}
use Rattle.service_metrics.specs.declared.refusal_counts.RefusalCount.{RefusalCount}

-- the refusals that are entries
abbrev pub numbers : List ℕ
numbers = 40 ∷ 41 ∷ 42 ∷ 43 ∷ 44 ∷ 45 ∷ 48 ∷ 49 ∷ []

abbrev pub is_refused : ℕ → Reply → Bool
is_refused number (reply.Refused refusal) = nat_eq (refusal_number refusal) number
is_refused number _ = false

-- how many entries with these replies were refused with a number
abbrev pub refused : List Reply → ℕ → RefusalCount
refused replies number = record { number = number; count = capped (count_by (is_refused number) replies) }

-- ---- one count, and one more reply

abbrev pub none_refused : ℕ → RefusalCount
none_refused number = record { number = number; count = 0 }

abbrev pub with_reply : Reply → RefusalCount → RefusalCount
with_reply reply c = record { number = c.number; count = if is_refused c.number reply then capped (c.count + 1) else c.count }

-- ---- their lines

-- a number that has not occurred has no line
abbrev pub refusal_line : RefusalCount → List ℕ
refusal_line c =
    if nat_eq c.count 0 then []
    else value_line (codes "acts_refusals_total") (codes "{number=\"" ++ decimal c.number ++ codes "\"}") c.count

abbrev pub refusal_lines : List RefusalCount → List ℕ
refusal_lines counts =
    head (codes "acts_refusals_total") (codes "counter") (codes "Entries that were refused, by number.")
    ++ flat_map refusal_line counts
