-- The refusals of a disk.
use Rattle.wf_value.specs.declared.code.Code.TheVariants.{DeviceFailed, StreamFailed}
use Rattle.wf_value.specs.declared.refusal.Refusal.{Refusal}
use Rattle.wf_value.specs.declared.refusal.Refusal.TheVariants.{Numbered}

-- the refusal of a call in which the device failed
abbrev pub device_failed : Refusal
device_failed = Numbered DeviceFailed

-- the refusal of a failed stream, and of a file that cannot be opened
abbrev pub stream_failed : Refusal
stream_failed = Numbered StreamFailed
