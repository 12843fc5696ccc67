-- A sound table is the table of its stored parts. Conversely, the stored parts of a table are the parts it was built
-- from, if these have the places of all leases.
use Rattle.std.specs.Prelude.{◌≡◌, ℕ, suc, List, [], ◌∷◌, map, is_some, true, Option, Some, None, option_map, slice_get, refl}
use Rattle.std.proofs.Common.{arith, ap, ap₂, sym, subst, ◌∙◌}
use Rattle.std.proofs.lemmas.List.{length-map}
use Rattle.std.proofs.lemmas.Option.{same_Some, slice_get-map}
use Rattle.run_plan.specs.declared.last_command.ClaimReply.TheVariants as given
use Rattle.run_plan.specs.declared.last_command.KeptLease.{KeptLease}
use Rattle.run_plan.specs.declared.last_command.LastCommand.{LastCommand}
use Rattle.run_plan.specs.declared.last_command.LastCommand.TheVariants as last
use Rattle.table_model.specs.Runs.{RunState}
use Rattle.table_model.specs.Sound.{IsSound, KeptIsOfALeg}
use Rattle.stored_tables.specs.Stored.{RunnerParts, TableParts, stored_last, stored_lease, stored_site, stored_runner, stored_table}
use Rattle.stored_tables.specs.TableOf.{AreRunnersAs, IsLastAs, IsPlacedAs, IsRunnerAs, IsStoredAs}
use Rattle.table_model.specs.TableState.{RunnerState, TableState}
use Rattle.stored_tables.specs.declared.parts.LastParts.{LastParts}
use Rattle.stored_tables.specs.declared.parts.LastParts.TheVariants as stored
use Rattle.stored_tables.specs.declared.parts.StoredSite.{StoredSite}

-- ---- from a sound table

last_is : (most : ℕ) (runs : List RunState) (x : LastCommand) → KeptIsOfALeg most runs x → IsLastAs most runs (stored_last x) x
last_is most runs (last.Claim claim given.Nothing) of = (refl, tt)
last_is most runs (last.Claim claim (given.Lease kept)) of = (refl, record { lease = refl; is_of_a_leg = of; place = refl })
last_is most runs (last.Done report) of = refl

pub is_stored : (t : TableState) → IsSound t → IsStoredAs (stored_table t) t
is_stored t s = record {
  is_sound = s;
  last_lease = refl;
  forgotten = refl;
  runs = refl;
  runners = record {
    as_many = sym (length-map t.runners stored_runner);
    each = (λ k part x at_part at_x.
        let is : stored_runner x ≡ part =
        same_Some (stored_runner x) part
        (sym (slice_get-map stored_runner t.runners k ∙ ap (option_map stored_runner) at_x) ∙ at_part) in
        subst (λ (p : RunnerParts). IsRunnerAs t.last_lease t.runs p x) is (record {
          name = refl;
          number = refl;
          last = last_is t.last_lease t.runs x.last (s.kept_leases_are_of_legs k x at_x);
          holds = refl;
        }));
  };
}

-- ---- and from parts

-- each kept lease has its place
abbrev pub HasPlace : LastParts → Type 0
HasPlace (stored.Claim claim None) = Unit {0}
HasPlace (stored.Claim claim (Some parts)) = is_some parts.place ≡ true
HasPlace (stored.Done report) = Unit {0}

abbrev pub HavePlaces : List RunnerParts → Type 0
HavePlaces runners = (k : ℕ) (part : RunnerParts) → slice_get runners k ≡ Some part → HasPlace part.last

placed_again : (run : RunState) (kept : KeptLease) (o : Option StoredSite) → is_some o ≡ true → IsPlacedAs run o kept
    → Some (stored_site kept) ≡ o
placed_again run kept None has is = cc
placed_again run kept (Some place) has is = ap Some is

last_again : (most : ℕ) (runs : List RunState) (parts : LastParts) (x : LastCommand) → HasPlace parts → IsLastAs most runs parts x
    → stored_last x ≡ parts
last_again most runs (stored.Claim claim None) (last.Claim other given.Nothing) has is = ap (λ c. stored.Claim c None) is.0
last_again most runs (stored.Claim claim None) (last.Claim other (given.Lease kept)) has is = absurd is.1
last_again most runs (stored.Claim claim (Some parts)) (last.Claim other given.Nothing) has is = absurd is.1
last_again most runs (stored.Claim claim (Some parts)) (last.Claim other (given.Lease kept)) has is =
    let lease : kept.lease_reply.lease ≡ parts.lease = is.1.lease in
    let place : Some (stored_site kept) ≡ parts.place = placed_again is.1.is_of_a_leg.run kept parts.place has is.1.place in
    let both : stored_lease kept ≡ parts = λ i. record { lease = lease i; place = place i } in
    ap₂ (λ c s. stored.Claim c (Some s)) is.0 both
last_again most runs (stored.Claim claim parts) (last.Done report) has is = absurd is
last_again most runs (stored.Done report) (last.Claim claim reply) has is = absurd is
last_again most runs (stored.Done report) (last.Done other) has is = ap stored.Done is

runners_again : (most : ℕ) (runs : List RunState) (parts : List RunnerParts) (xs : List RunnerState) → HavePlaces parts
    → AreRunnersAs most runs parts xs → map stored_runner xs ≡ parts
runners_again most runs [] [] have are = refl
runners_again most runs [] (x ∷ xs) have are = absurd (omega (arith, are.as_many))
runners_again most runs (part ∷ parts) [] have are = absurd (omega (arith, are.as_many))
runners_again most runs (part ∷ parts) (x ∷ xs) have are =
    let is = are.each 0 part x refl refl in
    let the_last : stored_last x.last ≡ part.last = last_again most runs part.last x.last (have 0 part refl) is.last in
    let runner : stored_runner x ≡ part = λ i. record { name = is.name i; number = is.number i; last = the_last i; holds = is.holds i } in
    ap₂ (λ z zs. z ∷ zs) runner
    (runners_again most runs parts xs (λ k p at. have (suc k) p at)
    (record { as_many = omega (arith, are.as_many); each = (λ k p y at_p at_y. are.each (suc k) p y at_p at_y) }))

pub stored_again : (parts : TableParts) (t : TableState) → HavePlaces parts.runners → IsStoredAs parts t → stored_table t ≡ parts
stored_again parts t have is =
    let runners = runners_again t.last_lease t.runs parts.runners t.runners have is.runners in
    λ i. record { last_lease = is.last_lease i; forgotten = is.forgotten i; runs = is.runs i; runners = runners i }
