-- Examples, by computation: the lengths of encodings.
use Rattle.std.specs.Prelude.{◌≡◌, ℕ, [], ◌∷◌, codes, refl}
use Rattle.wf_value.specs.declared.outcome.Outcome.TheVariants as ended
use Rattle.run_plan.specs.declared.command.Command.{Command}
use Rattle.run_plan.specs.declared.command.Command.TheVariants as requested
use Rattle.command_encodings.specs.Lengths.{batch_length, command_length}

-- the event of the first delivery
abbrev admission : Command
admission = requested.Admit (record {
  delivery = codes "d1";
  event = codes "push";
  body = codes "{\"repo\":\"o/r\",\"path\":\"ci.json\",\"workflow\":{\"jobs\":{\"build\":{\"runs-on\":\"linux\"}}}}";
})

admission_has_100 : command_length admission ≡ 100
admission_has_100 = refl

claim_has_24 : command_length (requested.Claim (record { runner = codes "r1"; number = 1; labels = codes "linux" ∷ [] })) ≡ 24
claim_has_24 = refl

report_has_16 : command_length (requested.Done (record { runner = codes "r1"; number = 2; lease = 1; result = ended.Success })) ≡ 16
report_has_16 = refl

look_up_has_5 : (run : ℕ) → command_length (requested.Look run) ≡ 5
look_up_has_5 run = refl

rerun_has_9 : (run attempt : ℕ) → command_length (requested.Rerun (record { run = run; attempt = attempt })) ≡ 9
rerun_has_9 run attempt = refl

forget_has_5 : (run : ℕ) → command_length (requested.Forget run) ≡ 5
forget_has_5 run = refl

discharge_has_7 : command_length (requested.Discharge (codes "r1")) ≡ 7
discharge_has_7 = refl

batch_of_a_look_up_has_9 : (run : ℕ) → batch_length (requested.Look run ∷ []) ≡ 9
batch_of_a_look_up_has_9 run = refl

batch_of_two_has_109 : batch_length (admission ∷ requested.Look 1 ∷ []) ≡ 109
batch_of_two_has_109 = refl
