use Rattle.std.proofs.Common.{rules, ◌≡◌, ◌∙◌, ℕ, List, sym, ap, subst}
use Rattle.std.specs.Prelude.{Option, Some, None}
use Rattle.gated_journal.specs.Choice.{part}
use Rattle.gated_journal.specs.TwoAreas.{area_on, start_of}
use Rattle.gated_journal.specs.Whole.{IsChosen}
use Rattle.gated_journal.specs.declared.chosen.Chosen.{Chosen}
use Rattle.act_store.specs.inner.Encoded.{IsHalf, IsEncoded}
use Rattle.act_store.specs.declared.decoded_area.DecodedArea.{DecodedArea}
use Rattle.act_store.proofs.Opening.{no_table_in}
use Rattle.act_store.proofs.ReadTwice.{read_twice}
use Rattle.act_store.proofs.located_area.find.Goals as goal

pub returns-in_err-len-clause-no_area : goal.returns-in_err-len-clause-no_area
returns-in_err-len-clause-no_area g c = λ _ honest len long size.
    let none : c.area_length.result ≡ None = search rules in
    absurd ((subst (λ (o : Option ℕ). IsHalf c.len.result o) none c.area_length.ensures) len
    (c.len.ensures ∙ sym (g.met.D.Disk.seen_length c.args.disk.now honest) ∙ long) size)

pub returns-in-None-clause-no_table : goal.returns-in-None-clause-no_table
returns-in-None-clause-no_table g c = λ _ honest2.
    let disk = g.D.Disk in
    let d0 = c.args.disk.now in
    let d1 = c.choose.new.disk in
    let file = disk.seen d0 in
    let len = c.in_ok-len.len in
    let chosen = c.in_ok-chosen.chosen in
    let area = c.area.result in
    let honest1 = c.encoded_at.ensures.only_read.was_honest honest2 in
    let honest0 = c.choose.ensures.only_read.was_honest honest1 in
    let some_len : c.area_length.result ≡ Some len = search rules in
    let some_chosen : c.in_ok-choose.field-0 ≡ Some chosen = search rules in
    let half = subst (λ (o : Option ℕ). IsHalf c.len.result o) some_len c.area_length.ensures in
    let there : part area.start area.len (disk.seen d1) ≡ area_on len chosen.side file =
    ap (λ (n : ℕ). part n area.len (disk.seen d1)) c.area.ensures.start
    ∙ ap (λ (n : ℕ). part (start_of len chosen.side) n (disk.seen d1)) c.area.ensures.len
    ∙ ap (λ (l : List ℕ). part (start_of len chosen.side) len l) (c.choose.ensures.only_read.same_seen honest1) in
    no_table_in len file (g.met.D.Disk.seen_length d0 honest0 ∙ sym c.len.ensures ∙ half.0) chosen
    (subst (λ (o : Option Chosen). IsChosen len o file) some_chosen (c.in_ok-choose.ensures.found honest1)) half.1
    (subst (λ (l : List ℕ). IsEncoded l None) there
    (subst (λ (o : Option DecodedArea). IsEncoded (part area.start area.len (disk.seen d1)) o) c.in-None.is
    (c.in_ok-encoded.ensures.encoded honest2)))

pub returns-in-Some-clause-found : goal.returns-in-Some-clause-found
returns-in-Some-clause-found g c = λ honest2.
    let disk = g.D.Disk in
    let d0 = c.args.disk.now in
    let d1 = c.choose.new.disk in
    let file = disk.seen d0 in
    let len = c.in_ok-len.len in
    let chosen = c.in_ok-chosen.chosen in
    let area = c.area.result in
    let honest1 = c.encoded_at.ensures.only_read.was_honest honest2 in
    let honest0 = c.choose.ensures.only_read.was_honest honest1 in
    let some_len : c.area_length.result ≡ Some len = search rules in
    let some_chosen : c.in_ok-choose.field-0 ≡ Some chosen = search rules in
    let half = subst (λ (o : Option ℕ). IsHalf c.len.result o) some_len c.area_length.ensures in
    let is_chosen = subst (λ (o : Option Chosen). IsChosen len o file) some_chosen (c.in_ok-choose.ensures.found honest1) in
    let there : part area.start area.len (disk.seen d1) ≡ area_on len chosen.side file =
    ap (λ (n : ℕ). part n area.len (disk.seen d1)) c.area.ensures.start
    ∙ ap (λ (n : ℕ). part (start_of len chosen.side) n (disk.seen d1)) c.area.ensures.len
    ∙ ap (λ (l : List ℕ). part (start_of len chosen.side) len l) (c.choose.ensures.only_read.same_seen honest1) in
    record {
      long = g.met.D.Disk.seen_length d0 honest0 ∙ sym c.len.ensures ∙ half.0;
      recovers = is_chosen.0;
      gate = is_chosen.1;
      encoded = subst (λ (l : List ℕ). IsEncoded l (Some c.in-Some.encoded)) there
          (subst (λ (o : Option DecodedArea). IsEncoded (part area.start area.len (disk.seen d1)) o) c.in-Some.is
          (c.in_ok-encoded.ensures.encoded honest2));
    }

pub returns-in-Some-clause-only_read : goal.returns-in-Some-clause-only_read
returns-in-Some-clause-only_read g c =
    let disk = g.D.Disk in
    read_twice disk.honest disk.seen disk.size disk.moment disk.images disk.images_since g.met.D.Disk.counts_now c.args.disk.now
    c.choose.new.disk c.encoded_at.new.disk c.choose.ensures.only_read c.encoded_at.ensures.only_read
