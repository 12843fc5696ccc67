use Rattle.std.proofs.Common.{rules}
use Rattle.command_encodings.proofs.Known.{labels_read}
use Rattle.command_encodings.proofs.fields.labels_at.Goals as goal

pub new-requires : goal.new-requires
new-requires c = labels_read c.in_ok-count.count c.in_ok-count.rest.now _ (search rules) c.in_ok-labels.ensures
