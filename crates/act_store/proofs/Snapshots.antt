-- What is preserved of a checkpoint in progress, from call to call.
use Rattle.std.proofs.Common.{◌≡◌, ℕ, ◌+◌, ◌-◌, ◌<◌, ◌≤◌, List, [], ◌∷◌, ◌++◌, length, take, drop, refl, sym, ◌∙◌, ap, subst, arith}
use Rattle.std.proofs.Common.{Bool, true, false, length-append, take-add, length-take-le}
use Rattle.std.specs.Prelude.{Option, Some, None, IfSome, flat_map, is_some, option_map}
use Rattle.std.proofs.lemmas.List.{drop-append-le, drop_all, take_all, take-append-le}
use Rattle.std.specs.Int.{to_be_bytes, w64}
use Rattle.std.specs.List.{AllByRecursion}
use Rattle.definitions.specs.Disk.{Holds}
use Rattle.definitions.specs.Area.{head_bytes}
use Rattle.gated_journal.specs.TwoAreas.{other, start_of}
use Rattle.gated_journal.specs.declared.gate.GateState.{GateState}
use Rattle.gated_journal.specs.declared.gate.GateState.TheVariants.{Closed}
use Rattle.gated_journal.specs.declared.side.Side.{Side}
use Rattle.run_plan.specs.declared.command.Command.{Command}
use Rattle.table_model.specs.TableState.{TableState}
use Rattle.command_encodings.specs.Commands.{IsEncoded, command_bytes}
use Rattle.table_text.specs.Tables.{whole_table}
use Rattle.act_store.specs.Checkpoints.{first_gate, text_length}
use Rattle.act_store.specs.Entries.{commands_of, table_after}
use Rattle.act_store.specs.LaterEntries.{with_encoded}
use Rattle.act_store.specs.Layouts.{current_version, EncodesTable}
use Rattle.act_store.specs.inner.Promise.{IsBegun, IsPut, IsSnapshot}
use Rattle.act_store.specs.inner.StoreSeen.{as_checkpoint}
use Rattle.act_store.specs.declared.begun.Begun.{Begun}
use Rattle.act_store.specs.declared.entry.Entry.{Entry}
use Rattle.act_store.specs.declared.layout.Layout.TheVariants as layouts
use Rattle.act_store.proofs.Histories.{commands-append}
use Rattle.act_store.proofs.Meanings.{all_push}
use Rattle.act_store.proofs.Records.{commands_with}

-- ---- statements about an optional value

pub if_some : {X : Type 0} (o : Option X) (P Q : X → Type 0) → ((x : X) → P x → Q x) → IfSome o P → IfSome o Q
if_some None P Q weaker here = tt
if_some (Some x) P Q weaker here = weaker x here

if_mapped : {X Y : Type 0} (f : X → Y) (o : Option X) (P : X → Type 0) (Q : Y → Type 0) → ((x : X) → P x → Q (f x)) → IfSome o P
    → IfSome (option_map f o) Q
if_mapped f None P Q weaker here = tt
if_mapped f (Some x) P Q weaker here = weaker x here

pub if_none : {X : Type 0} (o : Option X) (P : X → Type 0) → is_some o ≡ false → IfSome o P
if_none None P none = tt
if_none (Some x) P none = absurd (cc none)

pub it_is : {X : Type 0} (o : Option X) (x : X) (P : X → Type 0) → o ≡ Some x → IfSome o P → P x
it_is {X} o x P is here = subst (λ (y : Option X). IfSome y P) is here

-- ---- a head is 17 bytes longer than its text

pub length_head : (generation : ℕ) (text : List ℕ)
    → length (head_bytes (record { version = current_version; generation = generation; text = text })) ≡ 17 + length text
length_head generation text =
    let one : length (to_be_bytes w64 generation) ≡ 8 = refl in
    let two : length (to_be_bytes w64 (length text)) ≡ 8 = refl in
    omega (
      arith,
      one,
      two,
      length-append (to_be_bytes w64 generation) (to_be_bytes w64 (length text) ++ text),
      length-append (to_be_bytes w64 (length text)) text,
    )

-- ---- begun

pub snapshot_taken : (base table : TableState) (history : List Entry) (generation area : ℕ) (b : Begun)
    → table ≡ table_after base history → b.place ≡ length history → b.put ≡ 0 → generation < 18446744073709551615
    → first_gate (text_length table) + 1 ≤ area
    → b.head_and_text.items ≡ head_bytes (record { version = current_version; generation = generation + 1; text = whole_table.encoding table })
    → EncodesTable layouts.Third table (whole_table.encoding table) → b.last.encoded ≡ [] → IsSnapshot base history generation area b
snapshot_taken base table history generation area b is place put newer room prefix encodes none =
    let nothing : drop b.place history ≡ [] = drop_all b.place history (omega (arith, place)) in
    record {
      text = whole_table.encoding table;
      encodes = subst (λ (t : TableState). EncodesTable layouts.Third t (whole_table.encoding table))
          (is ∙ ap (λ (l : List Entry). table_after base l) (sym (take_all b.place history (omega (arith, place))))) encodes;
      prefix_is = prefix;
      place = omega (arith, place);
      put = omega (arith, put);
      newer = omega (arith, newer);
      fits = omega (arith, ap (λ (l : List ℕ). length l) prefix, length_head (generation + 1) (whole_table.encoding table), room);
      later_is = none ∙ ap (λ (l : List Entry). flat_map command_bytes (commands_of l)) (sym nothing);
      later_encoded = subst (λ (l : List Entry). AllByRecursion IsEncoded (commands_of l)) (sym nothing) _;
    }

empty_of : (l : List ℕ) → length l ≡ 0 → l ≡ []
empty_of [] none = refl
empty_of (x ∷ xs) none = absurd (omega (arith, none))

-- nothing is written yet
pub held_none : (file : List ℕ) (at : ℕ) (xs : List ℕ) → Holds file at (take 0 xs)
held_none file at xs =
    let n : length (take 0 xs) ≡ 0 = length-take-le 0 xs (omega arith) in
    empty_of (take (length (take 0 xs)) (drop at file))
    (omega (arith, n, length-take-le (length (take 0 xs)) (drop at file) (omega (arith, n)))) ∙ sym (empty_of (take 0 xs) n)

-- ---- sliced

pub slice_on : (items other : List ℕ) (from to : ℕ) → from ≤ to → other ≡ items
    → take from items ++ take (to - from) (drop from other) ≡ take to items
slice_on items other from to less is =
    ap (λ (l : List ℕ). take from items ++ take (to - from) (drop from l)) is
    ∙ sym (take-add from (to - from) items)
    ∙ ap (λ (n : ℕ). take n items) (let whole : from + (to - from) ≡ to = omega (arith, less) in whole)

pub snapshot_sliced : (base : TableState) (history : List Entry) (generation area : ℕ) (b next : Begun)
    → next.head_and_text.items ≡ b.head_and_text.items → next.place ≡ b.place → next.put ≤ length b.head_and_text.items → next.last.encoded ≡ b.last.encoded
    → IsSnapshot base history generation area b → IsSnapshot base history generation area next
snapshot_sliced base history generation area b next prefix place put last snapshot = record {
  text = snapshot.text;
  encodes = subst (λ (n : ℕ). EncodesTable layouts.Third (table_after base (take n history)) snapshot.text) (sym place) snapshot.encodes;
  prefix_is = prefix ∙ snapshot.prefix_is;
  place = omega (arith, place, snapshot.place);
  put = omega (arith, put, ap (λ (l : List ℕ). length l) prefix);
  newer = snapshot.newer;
  fits = omega (arith, snapshot.fits, ap (λ (l : List ℕ). length l) prefix);
  later_is = last ∙ snapshot.later_is
      ∙ ap (λ (n : ℕ). flat_map command_bytes (commands_of (drop n history))) (sym place);
  later_encoded = subst (λ (n : ℕ). AllByRecursion IsEncoded (commands_of (drop n history))) (sym place) snapshot.later_encoded;
}

pub put_sliced : (area : ℕ) (side : Side) (gate : GateState) (seen : List ℕ) (b next : Begun) → next.head_and_text.items ≡ b.head_and_text.items
    → gate ≡ Closed → Holds seen (start_of area (other side) + 1) (take next.put b.head_and_text.items) → IsPut area side gate seen next
put_sliced area side gate seen b next prefix closed held = record {
  closed = closed;
  held = subst (λ (l : List ℕ). Holds seen (start_of area (other side) + 1) (take next.put l)) (sym prefix) held;
}

-- ---- across the other calls

-- a history with one more entry, whose encoding is kept
snapshot_entered : (base : TableState) (history more : List Entry) (entry : Entry) (generation area : ℕ) (b : Begun)
    → more ≡ history ++ entry ∷ [] → IsEncoded entry.command → IsSnapshot base history generation area b
    → IsSnapshot base more generation area (with_encoded (command_bytes entry.command) b)
snapshot_entered base history more entry generation area b is encoded snapshot =
    let later = commands_of (drop b.place history) in
    let now : commands_of (drop b.place more) ≡ later ++ entry.command ∷ [] =
    ap (λ (l : List Entry). commands_of (drop b.place l)) is
    ∙ ap (λ (l : List Entry). commands_of l) (drop-append-le b.place history (entry ∷ []) snapshot.place)
    ∙ commands-append (drop b.place history) (entry ∷ []) in
    record {
      text = snapshot.text;
      encodes = subst (λ (l : List Entry). EncodesTable layouts.Third (table_after base l) snapshot.text)
          (sym (ap (λ (l : List Entry). take b.place l) is ∙ take-append-le b.place history (entry ∷ []) snapshot.place)) snapshot.encodes;
      prefix_is = snapshot.prefix_is;
      place = omega (arith, snapshot.place, ap (λ (l : List Entry). length l) is, length-append history (entry ∷ []));
      put = snapshot.put;
      newer = snapshot.newer;
      fits = snapshot.fits;
      later_is = ap (λ (l : List ℕ). l ++ command_bytes entry.command) snapshot.later_is
          ∙ sym (commands_with later entry.command) ∙ ap (λ (l : List Command). flat_map command_bytes l) (sym now);
      later_encoded = subst (λ (l : List Command). AllByRecursion IsEncoded l) (sym now)
          (all_push IsEncoded later entry.command snapshot.later_encoded encoded);
    }

-- what contracts see of it is the same
same_checkpoint : (encoded : List ℕ) (o : Option Begun)
    → option_map as_checkpoint (option_map (with_encoded encoded) o) ≡ option_map as_checkpoint o
same_checkpoint encoded None = refl
same_checkpoint encoded (Some b) = refl

pub seen_grown : (command : Command) (o next : Option Begun) → next ≡ option_map (with_encoded (command_bytes command)) o
    → option_map as_checkpoint next ≡ option_map as_checkpoint o
seen_grown command o next grown = ap (λ (x : Option Begun). option_map as_checkpoint x) grown ∙ same_checkpoint (command_bytes command) o

module _ (base : TableState) (history : List Entry) (generation area : ℕ) (side : Side) (gate : GateState) (honest : Type 0) (failed : Bool)
    (seen : List ℕ) (o : Option Begun)
    (here : IfSome o (IsBegun base history generation area side gate honest failed seen)) where
  pub begun_entered : (more : List Entry) (entry : Entry) (next : Option Begun) → more ≡ history ++ entry ∷ [] → IsEncoded entry.command
      → next ≡ option_map (with_encoded (command_bytes entry.command)) o → IfSome next (IsBegun base more generation area side gate honest failed seen)
  begun_entered more entry next is encoded grown =
      subst (λ (x : Option Begun). IfSome x (IsBegun base more generation area side gate honest failed seen)) (sym grown)
      (if_mapped (with_encoded (command_bytes entry.command)) o (IsBegun base history generation area side gate honest failed seen)
      (IsBegun base more generation area side gate honest failed seen)
      (λ b so. (
        snapshot_entered base history more entry generation area b is encoded so.0,
        λ still live. let put = so.1 still live in record { closed = put.closed; held = put.held },
      )) here)

  -- after a device failure nothing is known of the disk
  pub begun_broken : (later : Type 0) (file : List ℕ) → IfSome o (IsBegun base history generation area side gate later true file)
  begun_broken later file =
      if_some o (IsBegun base history generation area side gate honest failed seen)
      (IsBegun base history generation area side gate later true file) (λ b so. (so.0, λ honest impossible. absurd (cc impossible))) here

  -- an append to the active area leaves what was put
  pub begun_grown : (later : Type 0) (new : List ℕ) → (later → honest) → (honest → failed ≡ false → length seen ≡ area + area)
      → (honest → (from : ℕ) (put : List ℕ) → area + area ≤ length seen → from + length put ≤ area
      → Holds seen (start_of area (other side) + from) put → Holds new (start_of area (other side) + from) put)
      → IfSome o (IsBegun base history generation area side gate later failed new)
  begun_grown later new before long beside =
      if_some o (IsBegun base history generation area side gate honest failed seen)
      (IsBegun base history generation area side gate later failed new)
      (λ b so. (
        so.0,
        λ still live.
            let put = so.1 (before still) live in
            record {
              closed = put.closed;
              held = beside (before still) 1 (take b.put b.head_and_text.items) (omega (arith, long (before still) live))
                  (omega (arith, length-take-le b.put b.head_and_text.items so.0.put, so.0.put, so.0.fits)) put.held;
            },
      )) here
