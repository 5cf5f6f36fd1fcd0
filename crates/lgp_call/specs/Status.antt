-- Part of the public promise: what the status of a call says. They are those of the program.
use Rattle.std.specs.Prelude.{ℕ, if◌then◌else◌, nat_lt}
use Rattle.lgp_stream.specs.declared.stream.StreamFault.{StreamFault}
use Rattle.lgp_stream.specs.declared.stream.StreamFault.TheVariants.{Memory, Read, Write}

-- all replies were given: 0, or 1 where some of them begin with a question mark
abbrev pub answered_status : ℕ → ℕ
answered_status questions = if nat_lt 0 questions then 1 else 0

-- reading failed, which no text of less than 2^32 bytes meets
abbrev pub unread_status : ℕ
unread_status = 2

-- there was not enough memory
abbrev pub memory_status : ℕ
memory_status = 3

-- a fault broke it off: what is answered could not be read, or there was not enough memory
abbrev pub fault_status : StreamFault → ℕ
fault_status Read = unread_status
fault_status (Write count) = memory_status
fault_status Memory = memory_status

-- a session is open there already
abbrev pub open_status : ℕ
open_status = 4

-- no session is open there
abbrev pub closed_status : ℕ
closed_status = 5
