use Rattle.std.proofs.Common.{◌≡◌, List, ℕ, reverse, ◌∙◌, ap}
use Rattle.act_disk.specs.Image.{filled_after, begun}
use Rattle.act_disk.specs.declared.call.Call.{Call}
use Rattle.act_disk.proofs.ImageLemmas.{image_bytes, inside_made, since_made}
use Rattle.act_disk.proofs.memory.MemoryDisk.image.Goals as goal

bytes_are : (c : goal.After-drop-bytes) → c.deref.result.now ≡ image_bytes c.args.self.now c.args.call c.args.fill
bytes_are c =
    c.deref.ensures.value
    ∙ c.in_ok-bytes.ensures
    ∙ ap (λ (first : List ℕ). filled_after c.args.fill first (reverse c.begun_calls-calls.result.now)) c.first.ensures
    ∙ ap (λ (calls : List Call). filled_after c.args.fill c.args.self.now.first (reverse calls))
    (c.begun_calls-calls.ensures ∙ ap (λ (l : List Call). begun l c.args.call) c.calls.ensures)

pub returns-clause-inside : goal.returns-clause-inside
returns-clause-inside c =
    inside_made c.args.self.now c.args.call c.args.fill c.deref.result.now (bytes_are c) c.from_slice.result c.from_slice.ensures

pub returns-clause-since : goal.returns-clause-since
returns-clause-since c =
    since_made c.args.self.now c.args.call c.args.fill c.deref.result.now (bytes_are c) c.from_slice.result c.requires c.from_slice.ensures
