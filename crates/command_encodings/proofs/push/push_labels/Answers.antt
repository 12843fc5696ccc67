use Rattle.command_encodings.proofs.Known.{labels_take}
use Rattle.command_encodings.proofs.push.push_labels.Goals as goal

pub returns-clause-takes : goal.returns-clause-takes
returns-clause-takes c = labels_take c.args.value.now c.as_slice-list.ensures.form

pub returns-in_err-push_word-clause-takes : goal.returns-in_err-push_word-clause-takes
returns-in_err-push_word-clause-takes c = labels_take c.args.value.now c.as_slice-list.ensures.form

pub returns-in_err-push_list-clause-takes : goal.returns-in_err-push_list-clause-takes
returns-in_err-push_list-clause-takes c = labels_take c.args.value.now c.as_slice-list.ensures.form
