-- The exit status of each end of a run, and what standard error says of it.
use Rattle.std.specs.Prelude.{ℕ, Option, Some, None}
use Rattle.noise_map.specs.declared.run.status.Status.{Status}
use Rattle.noise_map.specs.declared.run.status.Status.TheVariants as status
use Rattle.noise_map.specs.declared.run.status.Fault.{Fault}
use Rattle.noise_map.specs.declared.run.status.Fault.TheVariants as fault

abbrev pub exit_code_of : Status → ℕ
exit_code_of status.Done = 0
exit_code_of status.SomeRefused = 1
exit_code_of status.Usage = 2
exit_code_of status.ReadFault = 3
exit_code_of status.WriteFault = 4
exit_code_of status.NoMemory = 5
exit_code_of status.InputLimit = 6

abbrev pub fault_of : Status → Option Fault
fault_of status.Done = None
fault_of status.SomeRefused = None
fault_of status.Usage = Some fault.Usage
fault_of status.ReadFault = Some fault.Read
fault_of status.WriteFault = Some fault.Write
fault_of status.NoMemory = Some fault.Memory
fault_of status.InputLimit = Some fault.Limit
