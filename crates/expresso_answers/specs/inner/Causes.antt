-- Why the bytes of a file stand for nothing.
use Rattle.lang_base.specs.declared.source_fault.SourceFault.{SourceFault}
use Rattle.lang_base.specs.declared.source_fault.SourceError.{SourceError}
use Rattle.lang_base.specs.declared.source_fault.SourceError.TheVariants.{Fault, OutOfMemory}

-- such a fault, unless memory ran out
abbrev pub HasCause : (SourceFault → Type 0) → SourceError → Type 0
HasCause IsFirst (Fault fault) = IsFirst fault
HasCause IsFirst OutOfMemory = Unit {0}
