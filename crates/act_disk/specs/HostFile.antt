-- What contracts see of a system file.
use Rattle.std.specs.Prelude.{List}
use Rattle.act_disk.specs.SystemCalls.{FileCall}
use Rattle.act_disk.specs.declared.host_file.HostFile.{HostFile}

-- the calls made on it, with their answers, newest first
abbrev pub calls_of : {S : Type 0} → HostFile S → List FileCall
calls_of file = file.log.calls
