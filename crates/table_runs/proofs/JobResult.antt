-- The result of a job, from the legs that fail it and those that were cancelled.
use Rattle.std.specs.Prelude.{◌≡◌, ℕ, ◌+◌, ◌||◌, List, [], ◌∷◌, filter_map, Bool, true, false, is_some, Option, Some, None}
use Rattle.std.specs.Prelude.{option_map, if◌then◌else◌, refl}
use Rattle.std.specs.List.{cons_option, enumerate_from, list_any}
use Rattle.std.specs.Option.{option_map_or, option_or}
use Rattle.std.proofs.Common.{ap, ◌∙◌, sym}
use Rattle.wf_value.specs.declared.outcome.JobResult.TheVariants as result
use Rattle.wf_value.specs.declared.outcome.Outcome.{Outcome}
use Rattle.needs_graph.specs.Needs.{fails_job, gathered, is_cancelled, was_cancelled}
use Rattle.needs_graph.specs.declared.ended.LegEnd.{LegEnd}
use Rattle.table_model.specs.Runs.{first_some, placed, LegState, RunState}
use Rattle.table_model.specs.Settling.{leg_end, outcome_of}
use Rattle.table_model.specs.inner.WithinRun.{failing, leg_site}
use Rattle.table_model.specs.declared.sites.LegSite.{LegSite}
use Rattle.table_model.specs.LegContext.{continues_on_error}

-- ---- the legs that fail it

-- whether the leg does
abbrev pub fails_at : List RunState → LegSite → LegState → Bool
fails_at runs p leg = option_map_or fails_job (leg_end runs p.run p.job (p.leg, leg)) false

or_found : (b : Bool) (n : ℕ) (any : Bool) (rest : Option ℕ) → any ≡ is_some rest
    → (b || any) ≡ is_some (option_or (if b then Some n else None) rest)
or_found true n any rest same = refl
or_found false n any rest same = same

one_end : (o : Option LegEnd) (n : ℕ) (more : List LegEnd) (rest : Option ℕ) → list_any fails_job more ≡ is_some rest
    → list_any fails_job (cons_option o more) ≡ is_some (option_or (if option_map_or fails_job o false then Some n else None) rest)
one_end None n more rest same = same
one_end (Some e) n more rest same = or_found (fails_job e) n (list_any fails_job more) rest same

any_fails : (runs : List RunState) (r j : ℕ) (xs : List (ℕ × LegState))
    → list_any fails_job (filter_map (leg_end runs r j) xs) ≡ is_some (first_some (failing runs r j) xs)
any_fails runs r j [] = refl
any_fails runs r j (x ∷ xs) =
    one_end (leg_end runs r j x) x.0 (filter_map (leg_end runs r j) xs) (first_some (failing runs r j) xs) (any_fails runs r j xs)

-- ---- the cancelled legs

one_cancelled : (o : Option Outcome) (over : Bool) (more : List LegEnd) (rest : Bool) → list_any was_cancelled more ≡ rest
    → list_any was_cancelled (cons_option (option_map (λ e. record { outcome = e; continue_on_error = over }) o) more)
    ≡ (option_map_or is_cancelled o false || rest)
one_cancelled None over more rest same = same
one_cancelled (Some e) over more rest same = ap (λ b. is_cancelled e || b) same

any_cancelled : (runs : List RunState) (r j n : ℕ) (xs : List LegState)
    → list_any was_cancelled (filter_map (leg_end runs r j) (enumerate_from n xs))
    ≡ list_any (λ leg. option_map_or is_cancelled (outcome_of leg.phase) false) xs
any_cancelled runs r j n [] = refl
any_cancelled runs r j n (x ∷ xs) =
    one_cancelled (outcome_of x.phase) (continues_on_error runs (leg_site r j n)) (filter_map (leg_end runs r j) (enumerate_from (n + 1) xs))
    (list_any (λ leg. option_map_or is_cancelled (outcome_of leg.phase) false) xs) (any_cancelled runs r j (n + 1) xs)

-- ---- the result

pub result_is : (runs : List RunState) (r j : ℕ) (legs : List LegState) (failed : Option ℕ) (cancelled : Bool)
    → failed ≡ first_some (failing runs r j) (placed legs)
    → cancelled ≡ list_any (λ leg. option_map_or is_cancelled (outcome_of leg.phase) false) legs
    → (if is_some failed then result.Failure else (if cancelled then result.Cancelled else result.Success))
    ≡ gathered (filter_map (leg_end runs r j) (placed legs))
result_is runs r j legs failed cancelled is_failed is_cancelled =
    ap (λ o. if is_some o then result.Failure else (if cancelled then result.Cancelled else result.Success)) is_failed
    ∙ ap (λ b. if is_some (first_some (failing runs r j) (placed legs)) then result.Failure
    else (if b then result.Cancelled else result.Success)) (is_cancelled ∙ sym (any_cancelled runs r j 0 legs))
    ∙ ap (λ b. if b then result.Failure
    else (if list_any was_cancelled (filter_map (leg_end runs r j) (placed legs)) then result.Cancelled else result.Success))
    (sym (any_fails runs r j (placed legs)))

pub failure_is : (runs : List RunState) (r j : ℕ) (legs : List LegState) (failed : Option ℕ)
    → failed ≡ first_some (failing runs r j) (placed legs) → is_some failed ≡ true
    → result.Failure ≡ gathered (filter_map (leg_end runs r j) (placed legs))
failure_is runs r j legs failed is some =
    ap (λ b. if b then result.Failure
    else (if list_any (λ leg. option_map_or is_cancelled (outcome_of leg.phase) false) legs then result.Cancelled else result.Success))
    (sym some)
    ∙ result_is runs r j legs failed (list_any (λ leg. option_map_or is_cancelled (outcome_of leg.phase) false) legs) is refl

pub other_result_is : (runs : List RunState) (r j : ℕ) (legs : List LegState) (failed : Option ℕ) (cancelled : Bool)
    → failed ≡ first_some (failing runs r j) (placed legs) → is_some failed ≡ false
    → cancelled ≡ list_any (λ leg. option_map_or is_cancelled (outcome_of leg.phase) false) legs
    → (if cancelled then result.Cancelled else result.Success) ≡ gathered (filter_map (leg_end runs r j) (placed legs))
other_result_is runs r j legs failed cancelled is none is_cancelled =
    ap (λ b. if b then result.Failure else (if cancelled then result.Cancelled else result.Success)) (sym none)
    ∙ result_is runs r j legs failed cancelled is is_cancelled
