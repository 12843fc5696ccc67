-- The head that a scan found, as a head of the layout.
use Rattle.definitions.specs.Area.{Head}
use Rattle.gated_journal.specs.declared.head.AreaHead.{AreaHead}

abbrev pub head_of : AreaHead → Head
head_of found = record { version = found.version; generation = found.generation; text = found.text.now }
