-- The number of each refusal of the fabric.
use Rattle.std.specs.Prelude.{ℕ}
use Rattle.burst.specs.Rules.{fault_number}
use Rattle.slave.specs.Acts.{number}
use Rattle.fabric.specs.declared.types.FabricFault.{FabricFault}
use Rattle.fabric.specs.declared.types.FabricFault.TheVariants.{Unlawful, LastMark, NotOpen, AlreadyOpen, Source, Full, NoneWaiting, OtherMaster, Place, Below, Slave}

-- the number of a refusal; a slave's own fault keeps its number
abbrev pub fabric_number : FabricFault → ℕ
fabric_number (Unlawful e) = fault_number e
fabric_number LastMark = 8
fabric_number NotOpen = 9
fabric_number AlreadyOpen = 10
fabric_number Source = 11
fabric_number Full = 12
fabric_number NoneWaiting = 13
fabric_number OtherMaster = 14
fabric_number Place = 15
fabric_number Below = 18
fabric_number (Slave e) = number e
