-- What read, write and peek answer, and what they leave, by the meaning of the memory before. One fault rules all three.
use Rattle.std.specs.Prelude.{ℕ, Bool, true, false, List, drop, slice_index, Some, None, Ok, Err, Option, Result}
use Rattle.memory.specs.declared.access.Direction.TheVariants.{Read, Write}
use Rattle.memory.specs.declared.fault.Fault.{Fault}
use Rattle.memory.specs.Access.{granule}
use Rattle.memory.specs.Bytes.{number_at, stored, stored_in}
use Rattle.memory.specs.Meaning.{Meaning, fault}

-- the memory without the first waiting word
abbrev pub word_taken : Meaning → Meaning
word_taken m = record { present = m.present; writable = m.writable; window = m.window; byte = m.byte; waiting = drop 1 m.waiting }

-- the memory with other bytes
abbrev pub with_bytes : Meaning → (ℕ → ℕ) → Meaning
with_bytes m f = record { present = m.present; writable = m.writable; window = m.window; byte = f; waiting = m.waiting }

-- a fault where there is one, else done
abbrev pub refused_or : Option Fault → Result Unit Fault
refused_or (Some f) = Err f
refused_or None = Ok tt

abbrev pub read_by : Option Fault → Bool → Meaning → ℕ → ℕ → Result ℕ Fault
read_by (Some f) window m x w = Err f
read_by None true m x w = Ok (slice_index m.waiting 0)
read_by None false m x w = Ok (number_at m.byte x w)

unfoldable pub read_answer : Meaning → ℕ → ℕ → Result ℕ Fault
read_answer m x w = read_by (fault m Read x w) (m.window (granule x)) m x w

abbrev pub left_by : Option Fault → Bool → Meaning → Meaning
left_by (Some f) window m = m
left_by None true m = word_taken m
left_by None false m = m

unfoldable pub read_after : Meaning → ℕ → ℕ → Meaning
read_after m x w = left_by (fault m Read x w) (m.window (granule x)) m

unfoldable pub write_answer : Meaning → ℕ → ℕ → Result Unit Fault
write_answer m x w = refused_or (fault m Write x w)

abbrev pub written_by : Option Fault → Meaning → ℕ → ℕ → ℕ → Meaning
written_by (Some f) m x w v = m
written_by None m x w v = with_bytes m (stored m.byte x w v)

unfoldable pub write_after : Meaning → ℕ → ℕ → ℕ → Meaning
write_after m x w v = written_by (fault m Write x w) m x w v

-- a list of bytes after a write at this place of it: the write's own bytes are stored, or it is refused and nothing is
abbrev pub stored_or_kept : Option Fault → List ℕ → ℕ → ℕ → ℕ → List ℕ
stored_or_kept (Some f) bs at w v = bs
stored_or_kept None bs at w v = stored_in bs at w v

abbrev pub peek_by : Option Fault → Bool → Meaning → ℕ → ℕ → Option ℕ
peek_by (Some f) window m x w = None
peek_by None true m x w = None
peek_by None false m x w = Some (number_at m.byte x w)

unfoldable pub peek_answer : Meaning → ℕ → ℕ → Option ℕ
peek_answer m x w = peek_by (fault m Read x w) (m.window (granule x)) m x w
