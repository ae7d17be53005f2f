-- The numbers of the kinds and the widths, and back.
use Rattle.std.specs.Prelude.{ℕ, List, [], ◌∷◌, Option, Result, slice_get}
use Rattle.std.specs.Option.{ok_or}
use Rattle.isa.specs.declared.kind.Kind.{Kind}
use Rattle.isa.specs.declared.kind.Kind.TheVariants.{Halt, Const, Add, Sub, And, Or, Xor, Shl, Shr, Below, Load, Store, Beq, Bne, Jump, Early, Check, Take, Reload, Back}
use Rattle.isa.specs.declared.kind.Width.{Width}
use Rattle.isa.specs.declared.kind.Width.TheVariants.{One, Two, Four}
use Rattle.isa.specs.declared.refusal.WordRefusal.{WordRefusal}
use Rattle.isa.specs.declared.refusal.WordRefusal.TheVariants as refusals

abbrev pub kind_number : Kind → ℕ
kind_number Halt = 0
kind_number Const = 1
kind_number Add = 2
kind_number Sub = 3
kind_number And = 4
kind_number Or = 5
kind_number Xor = 6
kind_number Shl = 7
kind_number Shr = 8
kind_number Below = 9
kind_number Load = 10
kind_number Store = 11
kind_number Beq = 12
kind_number Bne = 13
kind_number Jump = 14
kind_number Early = 15
kind_number Check = 16
kind_number Take = 17
kind_number Reload = 18
kind_number Back = 19

abbrev pub width_number : Width → ℕ
width_number One = 0
width_number Two = 1
width_number Four = 2

abbrev pub width_bytes : Width → ℕ
width_bytes One = 1
width_bytes Two = 2
width_bytes Four = 4

-- the kinds in the order of their numbers
abbrev pub kinds : List Kind
kinds = Halt ∷ Const ∷ Add ∷ Sub ∷ And ∷ Or ∷ Xor ∷ Shl ∷ Shr ∷ Below ∷ Load ∷ Store ∷ Beq ∷ Bne ∷ Jump ∷ Early ∷ Check ∷ Take ∷ Reload ∷ Back ∷ []

abbrev pub kind_at : ℕ → Option Kind
kind_at n = slice_get kinds n

-- what reading a number as a kind answers
abbrev pub kind_read : ℕ → Result Kind WordRefusal
kind_read n = ok_or (kind_at n) refusals.Kind

abbrev pub widths : List Width
widths = One ∷ Two ∷ Four ∷ []

abbrev pub width_at : ℕ → Option Width
width_at n = slice_get widths n

-- what reading a number as a width answers
abbrev pub width_read : ℕ → Result Width WordRefusal
width_read n = ok_or (width_at n) refusals.Width
