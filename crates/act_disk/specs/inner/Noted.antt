-- A system call, as an entry of a file's list of calls.
use Rattle.act_disk.specs.SystemCalls.{FileCall, Measured, Gave, Wrote, WriteFailed, Grew, GrowthFailed, Synced, SyncFailed}
use Rattle.act_disk.specs.declared.system_call.SystemCall.{SystemCall}
use Rattle.act_disk.specs.declared.system_call.SystemCall.TheVariants as told

abbrev pub call_of : SystemCall → FileCall
call_of (told.Measured len) = Measured len
call_of (told.Gave at bytes) = Gave at bytes.now
call_of (told.Wrote at bytes count) = Wrote at bytes.now count
call_of (told.WriteFailed at bytes) = WriteFailed at bytes.now
call_of (told.Grew len) = Grew len
call_of (told.GrowthFailed len) = GrowthFailed len
call_of told.Synced = Synced
call_of told.SyncFailed = SyncFailed
