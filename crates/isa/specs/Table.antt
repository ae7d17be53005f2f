-- The table of the kinds: which numbers each field may hold.
use Rattle.std.specs.Prelude.{ℕ, Bool, cond, not, ◌&&◌, ◌||◌, is_some, Some, None, Option, nat_lt}
use Rattle.isa.specs.declared.kind.Kind.{Kind}
use Rattle.isa.specs.declared.kind.Kind.TheVariants.{Halt, Const, Add, Sub, And, Or, Xor, Shl, Shr, Below, Load, Store, Beq, Bne, Jump, Early, Check, Take, Reload, Back}
use Rattle.isa.specs.declared.table.Span.{Span}
use Rattle.isa.specs.declared.table.Row.{Row}

-- a field that the kind does not use has none, and holds 0
abbrev pub span : ℕ → ℕ → Option Span
span l h = Some (record { low = l; high = h })

abbrev pub widths : Option Span
widths = span 0 2

abbrev pub written : Option Span
written = span 1 31

abbrev pub source : Option Span
source = span 0 31

abbrev pub shadow : Option Span
shadow = span 32 63

abbrev pub any : Option Span
any = span 0 63

abbrev pub result : Option Span
result = span 1 63

abbrev pub number : Option Span
number = span 0 65535

abbrev pub row_from : Option Span → Option Span → Option Span → Option Span → Option Span → Row
row_from w x y z i = record { width = w; d = x; a = y; b = z; imm = i }

-- an operation reads shadows only where it writes one
abbrev pub operand : Bool → Option Span
operand high = cond high any source

abbrev pub operation : Bool → Row
operation high = row_from None result (operand high) (operand high) None

-- width, d, a, b and imm of each kind; the flag says that d is above 31
abbrev pub row_of : Kind → Bool → Row
row_of Halt high = row_from None None None None None
row_of Const high = row_from None written None None number
row_of Add high = operation high
row_of Sub high = operation high
row_of And high = operation high
row_of Or high = operation high
row_of Xor high = operation high
row_of Shl high = operation high
row_of Shr high = operation high
row_of Below high = operation high
row_of Load high = row_from widths written source None number
row_of Store high = row_from widths None source source number
row_of Beq high = row_from None None source source number
row_of Bne high = row_from None None source source number
row_of Jump high = row_from None None None None number
row_of Early high = row_from widths shadow any None number
row_of Check high = row_from None written shadow None number
row_of Take high = row_from None written shadow None None
row_of Reload high = row_from widths written source shadow number
row_of Back high = row_from None None None None number

-- x is no number of the span
abbrev pub leaves_out : Span → ℕ → Bool
leaves_out s x = nat_lt x s.low || nat_lt s.high x

-- x is outside the span of its field, or not 0 where the kind does not use the field
abbrev pub outside : Option Span → ℕ → Bool
outside None x = nat_lt 0 x
outside (Some s) x = leaves_out s x

-- the kind uses the field, and x is outside its span
abbrev pub misses : Option Span → ℕ → Bool
misses s x = is_some s && outside s x

-- the kind does not use the field, and x is not 0
abbrev pub strays : Option Span → ℕ → Bool
strays s x = not (is_some s) && outside s x
