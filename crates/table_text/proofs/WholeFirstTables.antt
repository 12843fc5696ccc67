-- Whole tables of the first layout are encoded as what it stores of them, which distinguishes sound ones; and a batch
-- of it is a batch of the second layout.
use Rattle.std.proofs.Common.{◌≡◌, List, [], ◌∷◌, ℕ, suc, ◌++◌, refl, sym, ◌∙◌, ap, ap₂, subst, arith}
use Rattle.std.specs.Prelude.{true, false, Option, None, Some, map, option_map, slice_get}
use Rattle.std.specs.List.{AllByRecursion, list_all}
use Rattle.std.proofs.lemmas.List.{length-map}
use Rattle.std.proofs.lemmas.Option.{same_Some, slice_get-map}
use Rattle.run_plan.specs.declared.command.Command.{Command}
use Rattle.run_plan.specs.declared.last_command.ClaimReply.TheVariants as given
use Rattle.run_plan.specs.declared.last_command.KeptLease.{KeptLease}
use Rattle.run_plan.specs.declared.last_command.LastCommand.{LastCommand}
use Rattle.run_plan.specs.declared.last_command.LastCommand.TheVariants as last
use Rattle.table_model.specs.Parts.{stored_run}
use Rattle.table_model.specs.Runs.{RunState}
use Rattle.table_model.proofs.Found.{each_at}
use Rattle.table_model.specs.Sound.{IsOfALeg, IsSound, KeptIsOfALeg}
use Rattle.stored_tables.specs.Stored.{RunnerParts, TableParts}
use Rattle.stored_tables.specs.TableOf.{AreRunnersAs, IsLastAs, IsNoTable, IsPlacedAs, IsRunnerAs, IsStoredAs}
use Rattle.table_model.specs.TableState.{RunnerState, TableState}
use Rattle.stored_tables.specs.declared.parts.LastParts.{LastParts}
use Rattle.stored_tables.specs.declared.parts.LastParts.TheVariants as stored
use Rattle.stored_tables.specs.declared.parts.StoredLease.{StoredLease}
use Rattle.stored_tables.specs.declared.parts.StoredSite.{StoredSite}
use Rattle.stored_tables.proofs.StoredOnce.{same_table}
use Rattle.command_encodings.specs.Commands.{batch}
use Rattle.table_text.specs.FirstLayout.{first_batch, first_last_command, first_run, first_runner, first_table, is_in_first_layout}
use Rattle.definitions.specs.Format.{NoneBeginsAnother, OpensWith, ReadsPrefix}
use Rattle.command_encodings.specs.inner.ReadingCommands.{batch_at}
use Rattle.table_text.specs.inner.ReadingFirst.{first_table_at}
use Rattle.table_text.specs.FirstLayout.{first_stored_last, first_stored_runner, first_stored_table, whole_first_table}
use Rattle.command_encodings.proofs.CommandReaders.{batch_reads}
use Rattle.table_text.proofs.FirstReaders.{first_table_reads}
use Rattle.command_encodings.proofs.Readers.{none_begins}

-- ---- from a sound table whose runs are at their first attempt

abbrev AreFirst : List RunState → Type 0
AreFirst runs = AllByRecursion first_run.Takes (map stored_run runs)

-- a kept lease is of its run's current attempt
placed : (most : ℕ) (runs : List RunState) (kept : KeptLease) → AreFirst runs → (of : IsOfALeg most runs kept) → IsPlacedAs of.run None kept
placed most runs kept first of =
    let there : slice_get (map stored_run runs) of.place.run ≡ Some (stored_run of.run) =
    slice_get-map stored_run runs of.place.run ∙ ap (option_map stored_run) of.run_is in
    let one : of.run.attempt ≡ 1 = (each_at first_run.Takes (map stored_run runs) of.place.run (stored_run of.run) first there).1.0 in
    omega (arith, one, of.attempt.0, of.attempt.1)

last_is : (most : ℕ) (runs : List RunState) (x : LastCommand) → AreFirst runs → KeptIsOfALeg most runs x
    → IsLastAs most runs (first_stored_last x) x
last_is most runs (last.Claim claim given.Nothing) first of = (refl, tt)
last_is most runs (last.Claim claim (given.Lease kept)) first of =
    (refl, record { lease = refl; is_of_a_leg = of; place = placed most runs kept first of })
last_is most runs (last.Done report) first of = refl

first_is_stored : (t : TableState) → IsSound t → AreFirst t.runs → IsStoredAs (first_stored_table t) t
first_is_stored t s first = record {
  is_sound = s;
  last_lease = refl;
  forgotten = refl;
  runs = refl;
  runners = record {
    as_many = sym (length-map t.runners first_stored_runner);
    each = (λ k part x at_part at_x.
        let is : first_stored_runner x ≡ part =
        same_Some (first_stored_runner x) part
        (sym (slice_get-map first_stored_runner t.runners k ∙ ap (option_map first_stored_runner) at_x) ∙ at_part) in
        subst (λ (p : RunnerParts). IsRunnerAs t.last_lease t.runs p x) is (record {
          name = refl;
          number = refl;
          last = last_is t.last_lease t.runs x.last first (s.kept_leases_are_of_legs k x at_x);
          holds = refl;
        }));
  };
}

-- ---- and from parts

abbrev AreFirstRunners : List RunnerParts → Type 0
AreFirstRunners runners = AllByRecursion first_runner.Takes runners

last_again : (most : ℕ) (runs : List RunState) (parts : LastParts) (x : LastCommand) → first_last_command.Takes parts
    → IsLastAs most runs parts x → first_stored_last x ≡ parts
last_again most runs (stored.Claim claim None) (last.Claim other given.Nothing) takes is = ap (λ c. stored.Claim c None) is.0
last_again most runs (stored.Claim claim None) (last.Claim other (given.Lease kept)) takes is = absurd is.1
last_again most runs (stored.Claim claim (Some parts)) (last.Claim other given.Nothing) takes is = absurd is.1
last_again most runs (stored.Claim claim (Some parts)) (last.Claim other (given.Lease kept)) takes is =
    let lease : kept.lease_reply.lease ≡ parts.lease = is.1.lease in
    let nowhere : Option StoredSite = None in
    let place : nowhere ≡ parts.place = sym takes.1.1 in
    let both : record { lease = kept.lease_reply.lease; place = nowhere } ≡ parts = λ i. record { lease = lease i; place = place i } in
    ap₂ (λ c (s : StoredLease). stored.Claim c (Some s)) is.0 both
last_again most runs (stored.Claim claim parts) (last.Done report) takes is = absurd is
last_again most runs (stored.Done report) (last.Claim claim reply) takes is = absurd is
last_again most runs (stored.Done report) (last.Done other) takes is = ap stored.Done is

runners_again : (most : ℕ) (runs : List RunState) (parts : List RunnerParts) (xs : List RunnerState) → AreFirstRunners parts
    → AreRunnersAs most runs parts xs → map first_stored_runner xs ≡ parts
runners_again most runs [] [] takes are = refl
runners_again most runs [] (x ∷ xs) takes are = absurd (omega (arith, are.as_many))
runners_again most runs (part ∷ parts) [] takes are = absurd (omega (arith, are.as_many))
runners_again most runs (part ∷ parts) (x ∷ xs) takes are =
    let is = are.each 0 part x refl refl in
    let the_last : first_stored_last x.last ≡ part.last = last_again most runs part.last x.last takes.0.1.1.0 is.last in
    let runner : first_stored_runner x ≡ part =
    λ i. record { name = is.name i; number = is.number i; last = the_last i; holds = is.holds i } in
    ap₂ (λ z zs. z ∷ zs) runner
    (runners_again most runs parts xs takes.1
    (record { as_many = omega (arith, are.as_many); each = (λ k p y at_p at_y. are.each (suc k) p y at_p at_y) }))

first_stored_again : (parts : TableParts) (t : TableState) → AreFirstRunners parts.runners → IsStoredAs parts t
    → first_stored_table t ≡ parts
first_stored_again parts t takes is =
    let runners = runners_again t.last_lease t.runs parts.runners t.runners takes is.runners in
    λ i. record { last_lease = is.last_lease i; forgotten = is.forgotten i; runs = is.runs i; runners = runners i }

-- ---- one table

-- sound tables with the same stored parts are equal
one_stored : (one two : TableState) → whole_first_table.Takes one → whole_first_table.Takes two
    → first_stored_table one ≡ first_stored_table two → one ≡ two
one_stored one two first second same =
    let here = first_is_stored one first.0 first.1.1.1.0.2 in
    let there = first_is_stored two second.0 second.1.1.1.0.2 in
    let again : IsStoredAs (first_stored_table one) two = subst (λ (s : TableParts). IsStoredAs s two) (sym same) there in
    same_table (first_stored_table one) one two here again

pub first_begins_none : NoneBeginsAnother whole_first_table
first_begins_none a b more other x y one two same =
    let stored = none_begins first_table first_table_at first_table_reads a b more other (first_stored_table x) (first_stored_table y)
    (one.0.1, one.1)
    (two.0.1, two.1) same in
    (stored.0, one_stored x y one.0 two.0 stored.1)

-- ---- from the parts at the front of bytes

pub none_without_first_parts : (bytes : List ℕ) → ReadsPrefix first_table bytes None → ReadsPrefix whole_first_table bytes None
none_without_first_parts bytes none t rest opens = none (first_stored_table t) rest (opens.0.1, opens.1)

pub none_of_first_parts : (bytes rest : List ℕ) (parts : TableParts) → OpensWith first_table bytes parts rest → IsNoTable parts
    → ReadsPrefix whole_first_table bytes None
none_of_first_parts bytes rest parts opens none t other again =
    let same : first_table.encoding (first_stored_table t) ++ other ≡ first_table.encoding parts ++ rest = sym again.1 ∙ opens.1 in
    let one = none_begins first_table first_table_at first_table_reads (first_table.encoding (first_stored_table t))
    (first_table.encoding parts) other rest (first_stored_table t) parts
    (again.0.1, refl) (opens.0, refl) same in
    none t (subst (λ (s : TableParts). IsStoredAs s t) one.1 (first_is_stored t again.0.0 again.0.1.1.1.0.2))

pub one_of_first_parts : (bytes rest : List ℕ) (parts : TableParts) (t : TableState) → OpensWith first_table bytes parts rest
    → IsStoredAs parts t → OpensWith whole_first_table bytes t rest
one_of_first_parts bytes rest parts t opens is =
    let same : first_stored_table t ≡ parts = first_stored_again parts t opens.0.1.1.1.0.2 is in (
      (is.is_sound, subst first_table.Takes (sym same) opens.0),
      opens.1 ∙ ap (λ (s : TableParts). first_table.encoding s ++ rest) (sym same),
    )

-- ---- batches

pub none_without_batch : (bytes : List ℕ) → ReadsPrefix batch bytes None → ReadsPrefix first_batch bytes None
none_without_batch bytes none commands rest opens = none commands rest (opens.0.0, opens.1)

pub none_of_batch : (bytes rest : List ℕ) (commands : List Command) → OpensWith batch bytes commands rest
    → list_all is_in_first_layout commands ≡ false → ReadsPrefix first_batch bytes None
none_of_batch bytes rest commands opens not others suffix again =
    let same : batch.encoding others ++ suffix ≡ batch.encoding commands ++ rest = sym again.1 ∙ opens.1 in
    let one = none_begins batch batch_at batch_reads (batch.encoding others) (batch.encoding commands) suffix rest others commands
    (again.0.0, refl) (opens.0, refl) same in
    let is : list_all is_in_first_layout others ≡ true = again.0.1 in
    let no : list_all is_in_first_layout others ≡ false = ap (λ cs. list_all is_in_first_layout cs) one.1 ∙ not in
    cc

pub one_of_batch : (bytes rest : List ℕ) (commands : List Command) → OpensWith batch bytes commands rest
    → list_all is_in_first_layout commands ≡ true → OpensWith first_batch bytes commands rest
one_of_batch bytes rest commands opens all = ((opens.0, all), opens.1)

pub first_batch_begins_none : NoneBeginsAnother first_batch
first_batch_begins_none a b more other x y one two same =
    none_begins batch batch_at batch_reads a b more other x y (one.0.0, one.1) (two.0.0, two.1) same
