-- The exit codes of the program.
use Rattle.std.specs.Prelude.{ℕ}
use Rattle.mope_base.specs.declared.status.Status.{Status}
use Rattle.mope_base.specs.declared.status.Status.TheVariants.{Done, Usage, Input, Memory, ReadFault, WriteFault}

-- the exit code of a status
abbrev pub code_of : Status → ℕ
code_of Done = 0
code_of Usage = 1
code_of Input = 2
code_of Memory = 3
code_of ReadFault = 4
code_of WriteFault = 5
