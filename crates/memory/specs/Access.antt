-- Which bytes an access touches, and which accesses there are at all.
use Rattle.std.specs.Prelude.{ℕ, ◌+◌, ◌/◌, ◌%◌, Bool, true, false, ◌&&◌, ◌||◌, ◌==◌, nat_le, nat_lt}
use Rattle.memory.specs.declared.access.Direction.{Direction}
use Rattle.memory.specs.declared.access.Direction.TheVariants.{Read, Write}

-- the widths of an access, in bytes
abbrev pub is_width : ℕ → Bool
is_width w = w == 1 || (w == 2 || w == 4)

-- an address that is a multiple of the width
abbrev pub aligned : ℕ → ℕ → Bool
aligned x w = is_width w && x % w == 0

-- a is one of the w bytes from x on
abbrev pub within : ℕ → ℕ → ℕ → Bool
within x w a = nat_le x a && nat_lt a (x + w)

-- the four bytes that share their marks, by their number
abbrev pub granule : ℕ → ℕ
granule a = a / 4

abbrev pub is_write : Direction → Bool
is_write Read = false
is_write Write = true
