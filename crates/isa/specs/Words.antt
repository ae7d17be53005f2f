-- An instruction as fields and as a word, and what composing and unpacking answer.
use Rattle.std.specs.Prelude.{ℕ, Bool, false, cond, not, List, [], ◌∷◌, Ok, Err, Result, ◌==◌, slice_index}
use Rattle.isa.specs.declared.fields.Fields.{Fields}
use Rattle.isa.specs.declared.instruction.Instruction.{Instruction}
use Rattle.isa.specs.declared.refusal.WordRefusal.{WordRefusal}
use Rattle.isa.specs.Kinds.{kind_number, width_number}
use Rattle.isa.specs.Layout.{joined, parted}
use Rattle.isa.specs.Refusals.{refusal_number}
use Rattle.isa.specs.Rules.{plain, refusal}

-- kind 5 bits, width 2, d 6, a 6, b 6, home 10, zero 13, imm 16
abbrev pub layout : List ℕ
layout = 5 ∷ 2 ∷ 6 ∷ 6 ∷ 6 ∷ 10 ∷ 13 ∷ 16 ∷ []

-- fields in the order of the layout, with 0 for the zero bits
abbrev pub slots : Fields → List ℕ
slots f = f.kind ∷ f.width ∷ f.d ∷ f.a ∷ f.b ∷ f.home ∷ 0 ∷ f.imm ∷ []

abbrev pub fields_from : List ℕ → Fields
fields_from xs =
    plain (slice_index xs 0) (slice_index xs 1) (slice_index xs 2) (slice_index xs 3) (slice_index xs 4) (slice_index xs 5) (slice_index xs 7)

abbrev pub fields_in : ℕ → Fields
fields_in w = fields_from (parted layout w)

-- the thirteen zero bits
abbrev pub zeros_from : List ℕ → ℕ
zeros_from xs = slice_index xs 6

abbrev pub zeros_in : ℕ → ℕ
zeros_in w = zeros_from (parted layout w)

abbrev pub fields_of : Instruction → Fields
fields_of i = plain (kind_number i.kind) (width_number i.width) i.d i.a i.b i.home i.imm

-- the word of an instruction
abbrev pub packed : Instruction → ℕ
packed i = joined layout (slots (fields_of i))

-- an answer as the fields of its instruction, or the number of its refusal
abbrev pub answered : Result Instruction WordRefusal → Result Fields ℕ
answered (Ok i) = Ok (fields_of i)
answered (Err e) = Err (refusal_number e)

-- these fields where no rule is broken, or else the number of the first broken one
abbrev pub answer : ℕ → Fields → Result Fields ℕ
answer n f = cond (n == 0) (Ok f) (Err n)

abbrev pub read_as : Bool → Fields → Result Fields ℕ
read_as stray f = answer (refusal stray f) f

-- what composing fields answers
abbrev pub composed : Fields → Result Fields ℕ
composed f = read_as false f

-- what unpacking a word answers
abbrev pub unpacked : ℕ → Result Fields ℕ
unpacked w = read_as (not (zeros_in w == 0)) (fields_in w)
