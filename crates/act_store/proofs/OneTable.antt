-- An image recovers to at most one table.
use Rattle.std.proofs.Common.{◌≡◌, ℕ, List, [], ◌∷◌, ◌++◌, map, refl, sym, ◌∙◌, ap, subst, arith}
use Rattle.std.specs.List.{AllByRecursion, flat_map}
use Rattle.definitions.specs.Area.{Head, Reads}
use Rattle.gated_journal.specs.TwoAreas.{area_on, Encodes}
use Rattle.gated_journal.specs.declared.side.Side.{Side}
use Rattle.gated_journal.proofs.OneReading.{one_reading}
use Rattle.run_plan.specs.declared.command.Command.{Command}
use Rattle.table_model.specs.Step.{after}
use Rattle.table_model.specs.TableState.{TableState}
use Rattle.act_store.specs.Images.{RecoversTo, MeansTable, EncodeCommands}
use Rattle.act_store.specs.Layouts.{batch_format, EncodesTable}
use Rattle.act_store.specs.declared.layout.Layout.{Layout}
use Rattle.act_store.proofs.InLayout.{batches_begin_none, one_layout}
use Rattle.act_store.proofs.TextOfTable.{one_text}

module _ (layout : Layout) where
  abbrev encoding : List Command → List ℕ
  encoding = (batch_format layout).encoding

  same_batches : (one two : List (List Command)) → AllByRecursion (batch_format layout).Takes one
      → AllByRecursion (batch_format layout).Takes two → map encoding one ≡ map encoding two → one ≡ two
  same_batches [] [] f s same = refl
  same_batches [] (b ∷ two) f s same = absurd (cc same)
  same_batches (a ∷ one) [] f s same = absurd (cc same)
  same_batches (a ∷ one) (b ∷ two) f s same =
      let first : encoding a ≡ encoding b = cc same in
      let rest : map encoding one ≡ map encoding two = cc same in
      let heads = batches_begin_none layout (encoding a) (encoding b) [] [] a b (f.0, refl) (s.0, refl)
      (ap (λ (l : List ℕ). l ++ []) first) in
      ap (λ (x : List Command). x ∷ one) heads.1 ∙ ap (λ (l : List (List Command)). b ∷ l) (same_batches one two f.1 s.1 rest)

same_commands : (layout : Layout) (bodies : List (List ℕ)) (one two : List Command) → EncodeCommands layout bodies one
    → EncodeCommands layout bodies two → one ≡ two
same_commands layout bodies one two first second =
    first.commands_are
    ∙ ap (λ (l : List (List Command)). flat_map (λ b. b) l)
    (same_batches layout first.batches second.batches first.takes second.takes (sym first.encoded ∙ second.encoded))
    ∙ sym second.commands_are

one_meaning : (head : Head) (bodies : List (List ℕ)) (one two : TableState) → MeansTable head bodies one
    → MeansTable head bodies two → one ≡ two
one_meaning head bodies one two first second =
    let same : second.layout ≡ first.layout = one_layout head second.layout first.layout second.layout_is first.layout_is in
    let text = subst (λ (l : Layout). EncodesTable l second.first head.text) same second.text in
    let batched = subst (λ (l : Layout). EncodeCommands l bodies second.commands) same second.batched in
    sym first.table_is
    ∙ ap (λ (t : TableState). after t first.commands) (one_text first.layout first.first second.first head.text first.text text)
    ∙ ap (λ (l : List Command). after second.first l) (same_commands first.layout bodies first.commands second.commands first.batched batched)
    ∙ second.table_is

pub one_table : (image : List ℕ) (one two : TableState) → RecoversTo one image → RecoversTo two image → one ≡ two
one_table image one two first second =
    let lens : second.len ≡ first.len = omega (arith, first.long, second.long) in
    let encodes = subst (λ (n : ℕ). Encodes n second.side image second.head second.bodies) lens second.encodes in
    let sides : second.side ≡ first.side = cc (encodes.recovers, first.encodes.recovers) in
    let reads = subst (λ (s : Side). Reads (area_on first.len s image) second.head second.bodies) sides encodes.reads in
    let same = one_reading (area_on first.len first.side image) second.head first.head second.bodies first.bodies reads
    first.encodes.reads in
    let heads = subst (λ (h : Head). MeansTable h second.bodies two) same.0 second.means in
    one_meaning first.head first.bodies one two first.means
    (subst (λ (b : List (List ℕ)). MeansTable first.head b two) same.1 heads)
