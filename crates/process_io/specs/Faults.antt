-- The number of what can't be used.
use Rattle.wf_value.specs.declared.code.Code.{Code}
use Rattle.wf_value.specs.declared.code.Code.TheVariants.{DeviceFailed, DiskNotEmpty, StreamFailed}
use Rattle.process_io.specs.declared.fault.ResourceFault.{ResourceFault}
use Rattle.process_io.specs.declared.fault.ResourceFault.TheVariants.{Exists, File, Locked, Port, Stream, TooLong, Unmeasured}

-- 51 for a file that is longer than the system lets the process write, 55 for one that is to be made and is there already, and 61 for all else
abbrev pub code_of_fault : ResourceFault → Code
code_of_fault (File path error) = StreamFailed
code_of_fault (Locked path) = StreamFailed
code_of_fault (Exists path) = DiskNotEmpty
code_of_fault (Unmeasured path) = StreamFailed
code_of_fault (TooLong path) = DeviceFailed
code_of_fault (Port port error) = StreamFailed
code_of_fault (Stream name error) = StreamFailed
