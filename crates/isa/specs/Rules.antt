-- The rules by which fields make an instruction, in the order in which they are tried.
use Rattle.std.specs.Prelude.{ℕ, Bool, false, cond, not, ◌&&◌, ◌||◌, Some, None, Option, nat_le, nat_lt}
use Rattle.isa.specs.declared.kind.Kind.{Kind}
use Rattle.isa.specs.declared.kind.Width.{Width}
use Rattle.isa.specs.declared.table.Row.{Row}
use Rattle.isa.specs.declared.fields.Fields.{Fields}
use Rattle.isa.specs.Kinds.{kind_number, kind_at, width_number}
use Rattle.isa.specs.Table.{row_of, outside, misses, strays}

abbrev pub plain : ℕ → ℕ → ℕ → ℕ → ℕ → ℕ → ℕ → Fields
plain k w x y z h i = record { kind = k; width = w; d = x; a = y; b = z; home = h; imm = i }

-- a register that the kind uses is out of range
abbrev pub bad_register : Row → Fields → Bool
bad_register r f = misses r.d f.d || (misses r.a f.a || misses r.b f.b)

-- a field that the kind does not use is not 0, or home or imm is too large
abbrev pub bad_rest : Row → Fields → Bool
bad_rest r f =
    strays r.d f.d || (strays r.a f.a || (strays r.b f.b || (outside r.imm f.imm || nat_lt 1023 f.home)))

-- the first broken rule of a known kind, or 0; the flag says that a zero bit is set beside the fields
abbrev pub broken : Bool → Row → Fields → ℕ
broken stray r f =
    cond (outside r.width f.width) 12 (cond (bad_register r f) 13 (cond (stray || bad_rest r f) 14 0))

abbrev pub broken_at : Option Kind → Bool → Fields → ℕ
broken_at None stray f = 11
broken_at (Some k) stray f = broken stray (row_of k (nat_lt 31 f.d)) f

-- the number of the first broken rule, or 0
abbrev pub refusal : Bool → Fields → ℕ
refusal stray f = broken_at (kind_at f.kind) stray f

-- every field is in its span, and home is a place
abbrev pub fits : Row → Fields → Bool
fits r f =
    not (outside r.width f.width)
    && (not (outside r.d f.d) && (not (outside r.a f.a) && (not (outside r.b f.b) && (not (outside r.imm f.imm) && nat_le f.home 1023))))

-- the rule that an instruction's fields break, home aside, or 0
abbrev pub legal : Kind → Width → ℕ → ℕ → ℕ → ℕ → ℕ
legal k w x y z i = broken false (row_of k (nat_lt 31 x)) (plain (kind_number k) (width_number w) x y z 0 i)
