-- Why an access is refused: the number of each fault, and what people read of it.
use Rattle.std.specs.Prelude.{ℕ, List, ◌++◌, codes, decimal}
use Rattle.memory.specs.declared.fault.Fault.{Fault}
use Rattle.memory.specs.declared.fault.Fault.TheVariants.{Shape, Absent, ReadOnly, Window, NoOrder}

abbrev pub fault_number : Fault → ℕ
fault_number Shape = 1
fault_number Absent = 2
fault_number ReadOnly = 3
fault_number Window = 4
fault_number NoOrder = 5

abbrev pub fault_reason : Fault → List ℕ
fault_reason Shape = codes "the width is not 1, 2 or 4, or the address is not a multiple of it"
fault_reason Absent = codes "nothing is present at the address"
fault_reason ReadOnly = codes "the address is not writable"
fault_reason Window = codes "the order window is only read, and only in whole words"
fault_reason NoOrder = codes "no order word is waiting"

abbrev pub fault_text : Fault → List ℕ
fault_text f = codes "fault " ++ (decimal (fault_number f) ++ (codes ": " ++ fault_reason f))
