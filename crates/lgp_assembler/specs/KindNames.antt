-- Part of the public promise: the names of the kinds of faults. This project's own choice.
use Rattle.std.specs.Prelude.{ℕ, List, codes}
use Rattle.lgp_assembler.specs.declared.refusal.FaultKind.{FaultKind}
use Rattle.lgp_assembler.specs.declared.refusal.FaultKind.TheVariants.{BadByte, AfterEnd, Extra}
use Rattle.lgp_assembler.specs.declared.refusal.FaultKind.TheVariants.{BadLabel, LabelTwice}
use Rattle.lgp_assembler.specs.declared.refusal.FaultKind.TheVariants.{UnknownOrder, MissingOperand}
use Rattle.lgp_assembler.specs.declared.refusal.FaultKind.TheVariants.{BadOperand, UnknownName}
use Rattle.lgp_assembler.specs.declared.refusal.FaultKind.TheVariants.{OutOfRange, PastEnd}
use Rattle.lgp_assembler.specs.declared.refusal.FaultKind.TheVariants.{InLoader, PlaceTaken, NoEnd}

abbrev pub kind_name : FaultKind → List ℕ
kind_name BadByte = codes "BadByte"
kind_name AfterEnd = codes "AfterEnd"
kind_name Extra = codes "Extra"
kind_name BadLabel = codes "BadLabel"
kind_name LabelTwice = codes "LabelTwice"
kind_name UnknownOrder = codes "UnknownOrder"
kind_name MissingOperand = codes "MissingOperand"
kind_name BadOperand = codes "BadOperand"
kind_name UnknownName = codes "UnknownName"
kind_name OutOfRange = codes "OutOfRange"
kind_name PastEnd = codes "PastEnd"
kind_name InLoader = codes "InLoader"
kind_name PlaceTaken = codes "PlaceTaken"
kind_name NoEnd = codes "NoEnd"
