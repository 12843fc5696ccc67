-- What contracts see of a disk over a file.
use Rattle.std.specs.Prelude.{◌≡◌, ℕ, Bool, true, List, length, Result, is_err}
use Rattle.act_disk.specs.SystemCalls.{contents, MayLeave, MayHaveLeft, IsHonest}
use Rattle.act_disk.specs.declared.file.FileDisk.{FileDisk}
use Rattle.act_disk.specs.declared.system_file.SystemFile.{Ghosts}

module _ {F : Type 0} {g : Ghosts F} where
  abbrev pub file_of : FileDisk F g → F
  file_of disk = disk.file

  abbrev pub len_of : FileDisk F g → ℕ
  len_of disk = disk.len

  abbrev pub faults_of : FileDisk F g → ℕ
  faults_of disk = disk.faults

  abbrev pub made_of : FileDisk F g → ℕ
  made_of disk = disk.tally

  -- whether a write or a sync has failed
  abbrev pub failed_of : FileDisk F g → Bool
  failed_of disk = disk.failed

  -- The functions of the disk model, defined by the calls on the file.

  abbrev pub seen_of : FileDisk F g → List ℕ
  seen_of disk = contents g.held (g.calls disk.file)

  abbrev pub images_of : FileDisk F g → List ℕ → Type 0
  images_of disk = MayLeave g.left g.held (g.calls disk.file)

  abbrev pub moment_of : FileDisk F g → ℕ
  moment_of disk = length (g.calls disk.file)

  abbrev pub images_since_of : FileDisk F g → ℕ → List ℕ → Type 0
  images_since_of disk = MayHaveLeft g.left g.held (g.calls disk.file)

  abbrev pub honest_of : FileDisk F g → Type 0
  honest_of disk = IsHonest g.held (g.calls disk.file)

  -- after a failed write or sync, a call fails without a system call
  abbrev pub StaysFailed : {T E : Type 0} → Result T E → FileDisk F g → FileDisk F g → Type 0
  StaysFailed result old new = failed_of old ≡ true → (is_err result ≡ true) × (g.calls new.file ≡ g.calls old.file)
