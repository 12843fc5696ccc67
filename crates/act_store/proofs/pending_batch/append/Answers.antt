use Rattle.std.proofs.Common.{◌≡◌, ◌∙◌, ◌+◌, ◌-◌, ◌≤◌, List, ℕ, length, take, ap, arith, rules, subst, sym, Result, Ok, Err, OnErr, OnOk}
use Rattle.std.specs.Prelude.{vec_len}
use Rattle.std.proofs.lemmas.Result.{on_ok_weaker}
use Rattle.gated_journal.specs.Appends.{body_in}
use Rattle.command_encodings.specs.Commands.{command_bytes}
use Rattle.act_store.specs.inner.PendingRecord.{IsWithCommand}
use Rattle.act_store.proofs.Records.{Counts, body_longer, longer_by}
use Rattle.act_store.proofs.pending_batch.append.Goals as goal

either : {T E P Q R : Type 0} (r : Result T E) → OnOk r P → OnErr r Q → (P → R) → (Q → R) → R
either (Ok x) ok err f g = f ok
either (Err e) ok err f g = g err

pub push_reserved-requires : goal.push_reserved-requires
push_reserved-requires c =
    let bytes = c.args.bytes.now.items in
    let cut = c.truncate.new.self.items in
    let out = c.extend_batch-added.new.out.items in
    let more = command_bytes c.args.command.now in
    let size : vec_len c.args.bytes.now ≡ length bytes = search rules in
    let len : c.len.result ≡ length bytes = c.len.ensures ∙ c.reserve.ensures.len ∙ size in
    let is_cut : cut ≡ take (length bytes - 1) bytes =
    c.truncate.ensures.items ∙ ap (λ (l : List ℕ). take (c.len.result - 1) l) c.reserve.ensures.items
    ∙ ap (λ (n : ℕ). take (n - 1) bytes) len in
    let nine : 9 ≤ length bytes = omega (arith, c.requires.long, size) in
    let longer : OnOk c.extend_batch-added.result (length out ≡ length cut + length more) =
    on_ok_weaker c.extend_batch-added.result (longer_by bytes cut out more nine is_cut c.requires.counted) c.extend_batch-added.ensures.counts in
    let out_size : vec_len c.extend_batch-added.new.out ≡ length out = search rules in
    let cut_size : vec_len c.truncate.new.self ≡ length cut = search rules in
    either c.extend_batch-added.result longer c.extend_batch-added.ensures.unchanged
    (λ is. omega (
      arith,
      is,
      nine,
      out_size,
      cut_size,
      size,
      len,
      c.reserve.ensures.len,
      c.truncate.ensures.len,
      c.truncate.ensures.capacity,
      c.extend_batch-added.ensures.room,
      c.in_ok-reserve.ensures.ok,
      c.command_length.ensures.length,
    ))
    (λ is. omega (
      arith,
      ap (λ (l : List ℕ). length l) is,
      nine,
      out_size,
      cut_size,
      size,
      len,
      c.reserve.ensures.len,
      c.truncate.ensures.len,
      c.truncate.ensures.capacity,
      c.extend_batch-added.ensures.room,
      c.in_ok-reserve.ensures.ok,
    ))

pub returns-clause-longer : goal.returns-clause-longer
returns-clause-longer c =
    let bytes = c.args.bytes.now.items in
    let cut = c.truncate.new.self.items in
    let out = c.extend_batch-added.new.out.items in
    let more = command_bytes c.args.command.now in
    let size : vec_len c.args.bytes.now ≡ length bytes = search rules in
    let len : c.len.result ≡ length bytes = c.len.ensures ∙ c.reserve.ensures.len ∙ size in
    let is_cut : cut ≡ take (length bytes - 1) bytes =
    c.truncate.ensures.items ∙ ap (λ (l : List ℕ). take (c.len.result - 1) l) c.reserve.ensures.items
    ∙ ap (λ (n : ℕ). take (n - 1) bytes) len in
    let nine : 9 ≤ length bytes = omega (arith, c.requires.long, size) in
    let out_size : vec_len c.extend_batch-added.new.out ≡ length out = search rules in
    let cut_size : vec_len c.truncate.new.self ≡ length cut = search rules in
    on_ok_weaker c.extend_batch-added.result
    (λ (counts : Counts cut out more). omega (
      arith,
      longer_by bytes cut out more nine is_cut c.requires.counted counts,
      nine,
      out_size,
      cut_size,
      size,
      len,
      c.reserve.ensures.len,
      c.truncate.ensures.len,
      c.push_reserved.ensures.len,
    ))
    c.extend_batch-added.ensures.counts

pub returns-clause-added : goal.returns-clause-added
returns-clause-added c =
    let bytes = c.args.bytes.now.items in
    let cut = c.truncate.new.self.items in
    let out = c.extend_batch-added.new.out.items in
    let added = c.args.command.now in
    let size : vec_len c.args.bytes.now ≡ length bytes = search rules in
    let len : c.len.result ≡ length bytes = c.len.ensures ∙ c.reserve.ensures.len ∙ size in
    let is_cut : cut ≡ take (length bytes - 1) bytes =
    c.truncate.ensures.items ∙ ap (λ (l : List ℕ). take (c.len.result - 1) l) c.reserve.ensures.items
    ∙ ap (λ (n : ℕ). take (n - 1) bytes) len in
    on_ok_weaker c.extend_batch-added.result
    (λ (counts : Counts cut out (command_bytes added)).
    subst (λ (l : List ℕ). IsWithCommand (body_in bytes) added (body_in l)) (sym c.push_reserved.ensures.items)
    (body_longer bytes cut out added 0 (omega (arith, c.requires.long, size)) is_cut counts))
    c.extend_batch-added.ensures.counts
