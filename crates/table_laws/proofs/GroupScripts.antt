-- Scripts in which runs and legs share concurrency groups, evaluated from the empty table.
use Rattle.std.specs.Prelude.{◌≡◌, ℕ, List, [], ◌∷◌, ◌++◌, codes, map, Bool, true, false, refl}
use Rattle.wf_value.specs.declared.outcome.Outcome.{Outcome}
use Rattle.wf_value.specs.declared.outcome.Outcome.TheVariants.{Success, Failure, Cancelled}
use Rattle.group_name.specs.Group.{Group}
use Rattle.run_plan.specs.ReplyText.{reply_text}
use Rattle.run_plan.specs.declared.command.Command.{Command}
use Rattle.run_plan.specs.declared.command.Command.TheVariants as command
use Rattle.table_model.specs.Step.{replies, empty}
use Rattle.table_model.specs.GroupLaw.{Move}
use Rattle.run_table.proofs.OnTables.{on_tables}
use Rattle.table_laws.specs.GroupHistories.{all_moves, requests_cancellation, group_moves}
use Rattle.table_laws.specs.GroupLawTest.{keeps_law}
use Rattle.table_laws.specs.Names.{Names, renamed}
use Rattle.table_laws.proofs.GroupRows.{run1, run2, run3}
use Rattle.table_laws.proofs.GroupTableRows.{group}
use Rattle.table_laws.proofs.Packed.{packed}
use Rattle.table_model.specs.declared.holder.Holder.{Holder}
use Rattle.table_model.specs.declared.holder.Holder.TheVariants.{Leg}

-- a workflow of the repository
abbrev of_workflow : List ℕ → List ℕ
of_workflow workflow = codes "{\"repo\":\"o/r\",\"path\":\"ci.json\",\"workflow\":" ++ workflow ++ codes "}"

abbrev admit : List ℕ → List ℕ → Command
admit delivery body = command.Admit (record { delivery = delivery; event = codes "push"; body = body })

abbrev claim : List ℕ → ℕ → Command
claim runner number = command.Claim (record { runner = runner; number = number; labels = codes "linux" ∷ [] })

abbrev done : List ℕ → ℕ → ℕ → Outcome → Command
done runner number lease result = command.Done (record { runner = runner; number = number; lease = lease; result = result })

-- the texts of the replies
abbrev answers : List Command → List (List ℕ)
answers commands = map reply_text (replies empty commands)

-- the executable test of the law of the group
abbrev plays_by_law : Group → List Command → Bool
plays_by_law g commands = keeps_law (requests_cancellation packed g empty commands) (all_moves packed g empty commands)

-- the moves of holders in the first attempts of their runs
abbrev first_attempts : Names → List Move → List Move
first_attempts names moves = map (renamed (names.name 1)) moves

-- ---- runs that share a group

abbrev deploys : List ℕ
deploys = of_workflow (codes "{\"concurrency\":\"deploy\",\"jobs\":{\"go\":{\"runs-on\":\"linux\"}}}")

-- The first runs, the second waits, and the third takes its place.
abbrev three_deploys : List Command
three_deploys =
    admit (codes "a") deploys ∷ claim (codes "r1") 1 ∷ admit (codes "b") deploys ∷ admit (codes "c") deploys ∷ command.Look 2
    ∷ command.Look 3 ∷ done (codes "r1") 2 1 Success ∷ command.Look 3 ∷ []

pending_run_is_replaced : answers three_deploys
    ≡ codes "created 1" ∷ codes "lease 1 1 go 0 {}" ∷ codes "created 2" ∷ codes "created 3"
    ∷ codes "run 2 2 completed cancelled go:cancelled()" ∷ codes "run 3 3 pending - go:blocked" ∷ codes "ok"
    ∷ codes "run 3 3 queued - go:open(ready)" ∷ []
unfolding on_tables
pending_run_is_replaced = refl

moves_of_three_deploys : (names : Names) → group_moves names (group (codes "deploy")) empty three_deploys
    ≡ first_attempts names (Move.arrive run1 ∷ Move.start run1 ∷ Move.arrive run2 ∷ Move.arrive run3 ∷ Move.end_with Cancelled run2 ∷ Move.end_with Success run1
    ∷ Move.start run3 ∷ [])
unfolding on_tables
moves_of_three_deploys names = refl

three_deploys_keep_the_law : plays_by_law (group (codes "deploy")) three_deploys ≡ true
unfolding on_tables
three_deploys_keep_the_law = refl

-- ---- a run begins again

-- The completed run arrives after the one in progress and displaces the pending one.
abbrev deploy_again : List Command
deploy_again =
    admit (codes "a") deploys ∷ claim (codes "r1") 1 ∷ done (codes "r1") 2 1 Success ∷ admit (codes "b") deploys ∷ claim (codes "r1") 3
    ∷ admit (codes "c") deploys ∷ command.Rerun (record { run = 1; attempt = 2 }) ∷ command.Look 3 ∷ command.Look 1 ∷ []

completed_run_displaces : answers deploy_again
    ≡ codes "created 1" ∷ codes "lease 1 1 go 0 {}" ∷ codes "ok" ∷ codes "created 2" ∷ codes "lease 2 2 go 0 {}" ∷ codes "created 3"
    ∷ codes "again 1 2" ∷ codes "run 3 3 completed cancelled go:cancelled()" ∷ codes "run 1 1.2 pending - go:blocked" ∷ []
unfolding on_tables
completed_run_displaces = refl

-- its second attempt is a different holder from its first
moves_of_deploy_again : (names : Names) → group_moves names (group (codes "deploy")) empty deploy_again
    ≡ first_attempts names (Move.arrive run1 ∷ Move.start run1 ∷ Move.end_with Success run1 ∷ Move.arrive run2 ∷ Move.start run2
    ∷ Move.arrive run3 ∷ [])
    ++ Move.arrive (names.name 2 run1) ∷ first_attempts names (Move.end_with Cancelled run3 ∷ [])
unfolding on_tables
moves_of_deploy_again names = refl

deploy_again_keeps_the_law : plays_by_law (group (codes "deploy")) deploy_again ≡ true
unfolding on_tables
deploy_again_keeps_the_law = refl

-- A single run: with two names the law holds, and with one it would not.
abbrev deploy_twice : List Command
deploy_twice =
    admit (codes "a") deploys ∷ claim (codes "r1") 1 ∷ done (codes "r1") 2 1 Success ∷ command.Rerun (record { run = 1; attempt = 2 })
    ∷ claim (codes "r1") 3 ∷ done (codes "r1") 4 2 Success ∷ command.Look 1 ∷ []

completed_run_begins_again : answers deploy_twice
    ≡ codes "created 1" ∷ codes "lease 1 1 go 0 {}" ∷ codes "ok" ∷ codes "again 1 2" ∷ codes "lease 2 1 go 0 {}" ∷ codes "ok"
    ∷ codes "run 1 1.2 completed success go:success(success)" ∷ []
unfolding on_tables
completed_run_begins_again = refl

abbrev one_deploy : List Move
one_deploy = Move.arrive run1 ∷ Move.start run1 ∷ Move.end_with Success run1 ∷ []

moves_of_deploy_twice : (names : Names) → group_moves names (group (codes "deploy")) empty deploy_twice
    ≡ map (renamed (names.name 1)) one_deploy ++ map (renamed (names.name 2)) one_deploy
unfolding on_tables
moves_of_deploy_twice names = refl

deploy_twice_keeps_the_law : plays_by_law (group (codes "deploy")) deploy_twice ≡ true
unfolding on_tables
deploy_twice_keeps_the_law = refl

one_name_would_break_it : keeps_law (λ h. false) (one_deploy ++ one_deploy) ≡ false
one_name_would_break_it = refl

-- ---- cancel-in-progress

abbrev prod : List ℕ
prod = of_workflow (codes "{\"concurrency\":\"Prod\",\"jobs\":{\"go\":{\"runs-on\":\"linux\"}}}")

abbrev prod_at_once : List ℕ
prod_at_once =
    of_workflow (codes "{\"concurrency\":{\"group\":\"prod\",\"cancel-in-progress\":true},\"jobs\":{\"go\":{\"runs-on\":\"linux\"}}}")

-- The newcomer waits until the run that it stopped has ended.
abbrev prod_twice : List Command
prod_twice =
    admit (codes "a") prod ∷ claim (codes "r1") 1 ∷ admit (codes "b") prod_at_once
    ∷ command.Beat (record { runner = codes "r1"; lease = 1 }) ∷ command.Look 2 ∷ done (codes "r1") 2 1 Cancelled ∷ command.Look 1
    ∷ command.Look 2 ∷ []

run_in_progress_is_stopped : answers prod_twice
    ≡ codes "created 1" ∷ codes "lease 1 1 go 0 {}" ∷ codes "created 2" ∷ codes "stop" ∷ codes "run 2 2 pending - go:blocked"
    ∷ codes "ok" ∷ codes "run 1 1 completed cancelled go:cancelled(cancelled)" ∷ codes "run 2 2 queued - go:open(ready)" ∷ []
unfolding on_tables
run_in_progress_is_stopped = refl

moves_of_prod_twice : (names : Names) → group_moves names (group (codes "prod")) empty prod_twice
    ≡ first_attempts names (Move.arrive run1 ∷ Move.start run1 ∷ Move.arrive run2 ∷ Move.stop run1 ∷ Move.end_with Cancelled run1 ∷ Move.start run2 ∷ [])
unfolding on_tables
moves_of_prod_twice names = refl

prod_twice_keeps_the_law : plays_by_law (group (codes "prod")) prod_twice ≡ true
unfolding on_tables
prod_twice_keeps_the_law = refl

-- ---- legs

-- The legs of a job share a group: the first is ready, the last waits, and the one in between was displaced.
abbrev sharing_legs : List ℕ
sharing_legs =
    of_workflow (codes "{\"jobs\":{\"m\":{\"runs-on\":\"linux\",\"concurrency\":\"g\",\"strategy\":{\"matrix\":{\"n\":[1,2,3]}}}}}")

legs_of_one_group : answers (admit (codes "d1") sharing_legs ∷ command.Look 1 ∷ [])
    ≡ codes "created 1" ∷ codes "run 1 1 queued - m:open(ready,cancelled,waiting)" ∷ []
unfolding on_tables
legs_of_one_group = refl

-- A leg whose group its own run holds is cancelled.
abbrev leg_of_its_runs_group : List ℕ
leg_of_its_runs_group =
    of_workflow (codes "{\"concurrency\":\"x\",\"jobs\":{\"j\":{\"runs-on\":\"linux\",\"concurrency\":\"X\"}}}")

own_group_cancels : answers (admit (codes "d1") leg_of_its_runs_group ∷ command.Look 1 ∷ [])
    ≡ codes "created 1" ∷ codes "run 1 1 completed cancelled j:cancelled(cancelled)" ∷ []
unfolding on_tables
own_group_cancels = refl

-- ---- during settling

-- The first leg of the second run stops a leg of the first run. Therefore another job of the first run arrives, and stops the second run,
-- whose second leg has not arrived yet.
abbrev first_of_two : List ℕ
first_of_two =
    of_workflow (codes "{\"jobs\":{\"a\":{\"runs-on\":\"linux\",\"concurrency\":\"g\"},\"b\":{\"runs-on\":\"linux\",\"needs\":\"a\","
    ++ codes "\"if\":\"always()\",\"concurrency\":{\"group\":\"h\",\"cancel-in-progress\":true}}}}")

abbrev second_of_two : List ℕ
second_of_two =
    of_workflow (codes "{\"concurrency\":\"h\",\"jobs\":{\"m\":{\"runs-on\":\"linux\",\"concurrency\":{\"group\":\"g\","
    ++ codes "\"cancel-in-progress\":true},\"strategy\":{\"matrix\":{\"n\":[1,2]}}}}}")

abbrev two_that_stop_each_other : List Command
two_that_stop_each_other = admit (codes "a") first_of_two ∷ admit (codes "b") second_of_two ∷ command.Look 1 ∷ command.Look 2 ∷ []

new_leg_of_a_stopped_run_ends : answers two_that_stop_each_other
    ≡ codes "created 1" ∷ codes "created 2" ∷ codes "run 1 1 queued - a:cancelled(cancelled) b:open(ready)"
    ∷ codes "run 2 2 completed cancelled m:cancelled(cancelled,cancelled)" ∷ []
unfolding on_tables
new_leg_of_a_stopped_run_ends = refl

-- ---- the moves of these runs

-- a leg, by the id of its run
abbrev leg_of : ℕ → ℕ → ℕ → Holder
leg_of id j l = Leg (record { run = id; job = j; leg = l })

moves_in_the_first_group : (names : Names) → group_moves names (group (codes "g")) empty two_that_stop_each_other
    ≡ first_attempts names (Move.arrive (leg_of 1 0 0) ∷ Move.start (leg_of 1 0 0) ∷ Move.arrive (leg_of 2 0 0)
    ∷ Move.stop (leg_of 1 0 0) ∷ Move.end_with Cancelled (leg_of 1 0 0) ∷ Move.stop (leg_of 2 0 0)
    ∷ Move.end_with Cancelled (leg_of 2 0 0) ∷ [])
unfolding on_tables
moves_in_the_first_group names = refl

moves_in_the_second_group : (names : Names) → group_moves names (group (codes "h")) empty two_that_stop_each_other
    ≡ first_attempts names (Move.arrive run2 ∷ Move.start run2 ∷ Move.arrive (leg_of 1 1 0) ∷ Move.stop run2 ∷ Move.end_with Cancelled run2
    ∷ Move.start (leg_of 1 1 0) ∷ [])
unfolding on_tables
moves_in_the_second_group names = refl

they_keep_the_law : (plays_by_law (group (codes "g")) two_that_stop_each_other ≡ true)
    × (plays_by_law (group (codes "h")) two_that_stop_each_other ≡ true)
unfolding on_tables
they_keep_the_law = (refl, refl)

-- ---- a run that is cancelled

abbrev run_of_group_and_legs : List ℕ
run_of_group_and_legs =
    of_workflow (codes "{\"concurrency\":\"x\",\"jobs\":{\"m\":{\"runs-on\":\"linux\",\"concurrency\":\"g\","
    ++ codes "\"strategy\":{\"matrix\":{\"n\":[1,2]}}},\"z\":{\"runs-on\":\"linux\",\"if\":\"always()\"}}}")

abbrev following_it : List ℕ
following_it = of_workflow (codes "{\"concurrency\":\"x\",\"jobs\":{\"go\":{\"runs-on\":\"linux\"}}}")

-- Its ready and waiting legs end with it, except those of a job that always runs. A pending run that is cancelled ends.
abbrev both_cancelled : List Command
both_cancelled =
    admit (codes "a") run_of_group_and_legs ∷ admit (codes "b") following_it ∷ command.Cancel 1 ∷ command.Look 1 ∷ command.Cancel 2
    ∷ command.Look 2 ∷ []

cancelled_with_its_legs : answers both_cancelled
    ≡ codes "created 1" ∷ codes "created 2" ∷ codes "ok" ∷ codes "run 1 1 queued - m:cancelled(cancelled,cancelled) z:open(ready)"
    ∷ codes "ok" ∷ codes "run 2 2 completed cancelled go:cancelled()" ∷ []
unfolding on_tables
cancelled_with_its_legs = refl

moves_of_the_runs : (names : Names) → group_moves names (group (codes "x")) empty both_cancelled
    ≡ first_attempts names (Move.arrive run1 ∷ Move.start run1 ∷ Move.arrive run2 ∷ Move.stop run1 ∷ Move.stop run2 ∷ Move.end_with Cancelled run2 ∷ [])
unfolding on_tables
moves_of_the_runs names = refl

moves_of_the_legs : (names : Names) → group_moves names (group (codes "g")) empty both_cancelled
    ≡ first_attempts names (Move.arrive (leg_of 1 0 0) ∷ Move.start (leg_of 1 0 0) ∷ Move.arrive (leg_of 1 0 1)
    ∷ Move.stop (leg_of 1 0 0) ∷ Move.end_with Cancelled (leg_of 1 0 0) ∷ Move.stop (leg_of 1 0 1)
    ∷ Move.end_with Cancelled (leg_of 1 0 1) ∷ [])
unfolding on_tables
moves_of_the_legs names = refl

cancelled_runs_keep_the_law : (plays_by_law (group (codes "x")) both_cancelled ≡ true)
    × (plays_by_law (group (codes "g")) both_cancelled ≡ true)
unfolding on_tables
cancelled_runs_keep_the_law = (refl, refl)

-- ---- a failure stops the other leg, which is in another group

abbrev group_of_each_leg : List ℕ
group_of_each_leg =
    of_workflow (codes "{\"jobs\":{\"m\":{\"runs-on\":\"linux\",\"concurrency\":\"g${{ matrix.n }}\","
    ++ codes "\"strategy\":{\"matrix\":{\"n\":[1,2]}}}}}")

abbrev first_leg_fails : List Command
first_leg_fails = admit (codes "a") group_of_each_leg ∷ claim (codes "r1") 1 ∷ done (codes "r1") 2 1 Failure ∷ command.Look 1 ∷ []

failure_ends_the_ready_leg : answers first_leg_fails
    ≡ codes "created 1" ∷ codes "lease 1 1 m 0 {\"n\":1}" ∷ codes "ok" ∷ codes "run 1 1 completed failure m:failure(failure,cancelled)" ∷ []
unfolding on_tables
failure_ends_the_ready_leg = refl

moves_of_the_failed_leg : (names : Names) → group_moves names (group (codes "g1")) empty first_leg_fails
    ≡ first_attempts names (Move.arrive (leg_of 1 0 0) ∷ Move.start (leg_of 1 0 0) ∷ Move.end_with Failure (leg_of 1 0 0) ∷ [])
unfolding on_tables
moves_of_the_failed_leg names = refl

moves_of_the_other_leg : (names : Names) → group_moves names (group (codes "g2")) empty first_leg_fails
    ≡ first_attempts names (Move.arrive (leg_of 1 0 1) ∷ Move.start (leg_of 1 0 1) ∷ Move.stop (leg_of 1 0 1)
    ∷ Move.end_with Cancelled (leg_of 1 0 1) ∷ [])
unfolding on_tables
moves_of_the_other_leg names = refl

-- ---- which names denote the same group

abbrev named : List ℕ → List ℕ
named name = of_workflow (codes "{\"concurrency\":\"" ++ name ++ codes "\",\"jobs\":{\"go\":{\"runs-on\":\"linux\"}}}")

abbrev in_another_repository : List ℕ → List ℕ
in_another_repository name =
    codes "{\"repo\":\"o/q\",\"path\":\"ci.json\",\"workflow\":{\"concurrency\":\"" ++ name
    ++ codes "\",\"jobs\":{\"go\":{\"runs-on\":\"linux\"}}}}"

case_does_not_count : answers (admit (codes "a") (named (codes "Stra\\u00dfe")) ∷ admit (codes "b") (named (codes "STRASSE"))
    ∷ admit (codes "c") (in_another_repository (codes "STRASSE")) ∷ command.Look 2 ∷ command.Look 3 ∷ [])
    ≡ codes "created 1" ∷ codes "created 2" ∷ codes "created 3" ∷ codes "run 2 2 pending - go:blocked"
    ∷ codes "run 3 1 queued - go:open(ready)" ∷ []
unfolding on_tables
case_does_not_count = refl

-- an empty name means no group
empty_name_is_no_group : answers (admit (codes "a") (named []) ∷ admit (codes "b") (named []) ∷ command.Look 2 ∷ [])
    ≡ codes "created 1" ∷ codes "created 2" ∷ codes "run 2 2 queued - go:open(ready)" ∷ []
unfolding on_tables
empty_name_is_no_group = refl

-- a job may name its group by the results of its needs
abbrev group_of_a_result : List ℕ
group_of_a_result =
    of_workflow (codes "{\"jobs\":{\"a\":{\"runs-on\":\"linux\"},\"b\":{\"runs-on\":\"linux\",\"needs\":\"a\","
    ++ codes "\"if\":\"always()\",\"concurrency\":\"${{ needs.a.result }}\"}}}")

leg_in_the_group_of_a_result : (names : Names) → group_moves names (group (codes "failure")) empty
    (admit (codes "a") group_of_a_result ∷ claim (codes "r1") 1 ∷ done (codes "r1") 2 1 Failure ∷ [])
    ≡ first_attempts names (Move.arrive (leg_of 1 1 0) ∷ Move.start (leg_of 1 1 0) ∷ [])
unfolding on_tables
leg_in_the_group_of_a_result names = refl
