-- What was done, and one entry or one commit more.
use Rattle.std.proofs.Common.{◌≡◌, ◌∙◌, ◌<◌, ℕ, zero, suc, ◌+◌, get_or, List, [], ◌∷◌, ◌++◌, length, map, refl, sym, ap, ap₂, arith, length-append}
use Rattle.std.proofs.lemmas.List.Sums.{sum_by-append}
use Rattle.std.specs.Prelude.{Bool, true, false, nat_le, sum, if◌then◌else◌}
use Rattle.std.specs.List.{count_by}
use Rattle.run_plan.specs.declared.reply.Reply.{Reply}
use Rattle.table_views.specs.MetricLines.{capped}
use Rattle.table_views.proofs.Counting.{counted, not_counted}
use Rattle.service_metrics.specs.CommitTimes.{bounds, bucket_of, with_commit as in_bucket}
use Rattle.service_metrics.specs.Counters.{CountersState, Done, counters_of, with_commit, with_entry}
use Rattle.service_metrics.specs.Refusals.{is_refused, numbers, refused, with_reply}
use Rattle.service_metrics.specs.declared.commit_times.Bucket.{Bucket}
use Rattle.service_metrics.specs.declared.refusal_counts.RefusalCount.{RefusalCount}

-- ---- a count, with one element more

one_more : {X : Type 0} (p : X → Bool) (xs : List X) (x : X) (b : Bool) → p x ≡ b
    → (if p x then capped (capped (count_by p xs) + 1) else capped (count_by p xs)) ≡ capped (count_by p (xs ++ x ∷ []))
one_more p xs x true is = ap (λ b. if b then capped (capped (count_by p xs) + 1) else capped (count_by p xs)) is ∙ sym (counted p xs x is)
one_more p xs x false is = ap (λ b. if b then capped (capped (count_by p xs) + 1) else capped (count_by p xs)) is ∙ sym (not_counted p xs x is)

-- ---- refusals

abbrev pub refusals_as : ℕ → ℕ → RefusalCount
refusals_as number count = record { number = number; count = count }

replies_more : (replies : List Reply) (r : Reply) (ns : List ℕ)
    → map (with_reply r) (map (refused replies) ns) ≡ map (refused (replies ++ r ∷ [])) ns
replies_more replies r [] = refl
replies_more replies r (n ∷ ns) =
    ap₂ (λ (k : ℕ) (rest : List RefusalCount). refusals_as n k ∷ rest) (one_more (is_refused n) replies r (is_refused n r) refl)
    (replies_more replies r ns)

-- ---- buckets

abbrev bucket_as : ℕ → ℕ → Bucket
bucket_as bound count = record { nanos = bound; count = count }

commits_more : (commits : List ℕ) (t : ℕ) (bs : List ℕ)
    → map (in_bucket t) (map (bucket_of commits) bs) ≡ map (bucket_of (commits ++ t ∷ [])) bs
commits_more commits t [] = refl
commits_more commits t (b ∷ bs) =
    ap₂ (λ (k : ℕ) (rest : List Bucket). bucket_as b k ∷ rest) (one_more (λ took. nat_le took b) commits t (nat_le t b) refl)
    (commits_more commits t bs)

-- ---- all counters

abbrev pub counters : ℕ → List RefusalCount → List Bucket → ℕ → ℕ → CountersState
counters entries refusals buckets commits nanos =
    record { entries = entries; refusals = refusals; buckets = buckets; commits = commits; nanos = nanos }

one_longer : {X : Type 0} (xs : List X) (x : X) → capped (capped (length xs) + 1) ≡ capped (length (xs ++ x ∷ []))
one_longer xs x = let more = length-append xs (x ∷ []) in omega (arith, more)

sum_longer : (xs : List ℕ) (x : ℕ) → capped (capped (sum xs) + x) ≡ capped (sum (xs ++ x ∷ []))
sum_longer xs x =
    let none : 0 + x ≡ x = omega arith in
    let more : sum (xs ++ x ∷ []) ≡ sum xs + x = sum_by-append (λ y. y) xs (x ∷ []) ∙ ap (λ (k : ℕ). sum xs + k) none in
    omega (arith, more)

pub entry_counted : (done : Done) (reply : Reply) (old new : CountersState) → old ≡ counters_of done
    → new ≡ counters (capped (old.entries + 1)) (map (with_reply reply) old.refusals) old.buckets old.commits old.nanos
    → new ≡ counters_of (with_entry done reply)
entry_counted done reply old new before is =
    is ∙ ap (λ (o : CountersState). counters (capped (o.entries + 1)) (map (with_reply reply) o.refusals) o.buckets o.commits o.nanos) before
    ∙ ap₂ (λ (e : ℕ) (rs : List RefusalCount). counters e rs (counters_of done).buckets (counters_of done).commits (counters_of done).nanos)
    (one_longer done.replies reply) (replies_more done.replies reply numbers)

pub commit_counted : (done : Done) (t : ℕ) (old new : CountersState) → old ≡ counters_of done
    → new ≡ counters old.entries old.refusals (map (in_bucket t) old.buckets) (capped (old.commits + 1)) (capped (old.nanos + t))
    → new ≡ counters_of (with_commit done t)
commit_counted done t old new before is =
    is ∙ ap (λ (o : CountersState). counters o.entries o.refusals (map (in_bucket t) o.buckets) (capped (o.commits + 1)) (capped (o.nanos + t))) before
    ∙ ap (λ (bs : List Bucket). counters (counters_of done).entries (counters_of done).refusals bs (capped (capped (length done.commits) + 1)) (capped (capped (sum done.commits) + t)))
    (commits_more done.commits t bounds)
    ∙ ap₂ (λ (n s : ℕ). counters (counters_of done).entries (counters_of done).refusals (map (bucket_of (done.commits ++ t ∷ [])) bounds) n s)
    (one_longer done.commits t) (sum_longer done.commits t)

-- ---- an element that is read, whatever stands in for one past the end

pub read_again : {X : Type 0} (xs : List X) (i : ℕ) (d : X) → i < length xs → get_or xs i d ≡ get_or xs i (get_or xs i d)
read_again [] i d lt = absurd (omega (arith, lt))
read_again (x ∷ xs) zero d lt = refl
read_again (x ∷ xs) (suc i) d lt = read_again xs i d (omega (arith, lt))
