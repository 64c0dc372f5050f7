-- Faults of a check: their numbers, and their names without what they carry.
use Rattle.std.specs.Prelude.{ℕ, List, codes}
use Rattle.lb_health_core.specs.declared.error.CheckError.{CheckError}
use Rattle.lb_health_core.specs.declared.error.CheckError.TheVariants.{Connect, Write, Read, BadHead, HeadTooLarge, Interim, Status}
use Rattle.lb_health_core.specs.declared.error.CheckError.TheVariants.{Rejected}
use Rattle.lb_health_core.specs.declared.error.CheckError.TheVariants.{BadFraming, EndInMessage, BodyTooLarge, OutOfMemory}

-- the number of a fault
abbrev pub fault_number : CheckError → ℕ
fault_number Connect = 1
fault_number Write = 2
fault_number Read = 3
fault_number BadHead = 4
fault_number HeadTooLarge = 5
fault_number Interim = 6
fault_number (Status code) = 7
fault_number Rejected = 8
fault_number BadFraming = 9
fault_number EndInMessage = 10
fault_number BodyTooLarge = 11
fault_number OutOfMemory = 12

-- the name of a fault, without what it carries
abbrev pub fault_name : CheckError → List ℕ
fault_name Connect = codes "Connect"
fault_name Write = codes "Write"
fault_name Read = codes "Read"
fault_name BadHead = codes "BadHead"
fault_name HeadTooLarge = codes "HeadTooLarge"
fault_name Interim = codes "Interim"
fault_name (Status code) = codes "Status"
fault_name Rejected = codes "Rejected"
fault_name BadFraming = codes "BadFraming"
fault_name EndInMessage = codes "EndInMessage"
fault_name BodyTooLarge = codes "BodyTooLarge"
fault_name OutOfMemory = codes "OutOfMemory"
