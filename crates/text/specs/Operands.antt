-- What the operands of an instruction say: none where the text is no such operand.
use Rattle.std.specs.Prelude.{ℕ, ◌-◌, ◌%◌, Bool, if◌then◌else◌, ◌||◌, List, [], ◌∷◌, take, drop, Some, None, codes, Option, ◌==◌, nat_le}
use Rattle.std.specs.Option.{option_and_then, option_map}
use Rattle.std.specs.List.{position_or_len}
use Rattle.std.specs.Str.{byte}
use Rattle.isa.specs.declared.kind.Width.{Width}
use Rattle.isa.specs.declared.kind.Width.TheVariants.{One, Two, Four}
use Rattle.text.specs.declared.operand.Address.{Address}
use Rattle.text.specs.Names.{is_name}
use Rattle.text.specs.Numerals.{numeral_in, number_in}
use Rattle.text.specs.Texts.{strip_prefix, strip_suffix}

-- the number where it is at most `most`
abbrev pub at_most : ℕ → ℕ → Option ℕ
at_most most n = if nat_le n most then Some n else None

-- the same of a number that another step gave
abbrev pub up_to : ℕ → Option ℕ → Option ℕ
up_to most read = option_and_then (at_most most) read

-- r0 to r63
abbrev pub register_in : List ℕ → Option ℕ
register_in bs = up_to 63 (option_and_then (numeral_in 10) (strip_prefix bs (codes "r")))

-- a number of at most `most`
abbrev pub number_up_to : ℕ → List ℕ → Option ℕ
number_up_to most bs = up_to most (number_in bs)

-- the width of so many bytes
abbrev pub width_of : ℕ → Option Width
width_of n =
    if n == 1 then Some One else
    (if n == 2 then Some Two else
    (if n == 4 then Some Four else None))

-- a width in bytes
abbrev pub width_in : List ℕ → Option Width
width_in bs = option_and_then width_of (number_in bs)

-- the place that a target says, 0 where it is a label
abbrev pub target_in : List ℕ → Option ℕ
target_in bs = if is_name bs then Some 0 else number_up_to 65535 bs

-- the home that a word @H gives; none where the word is another
abbrev pub home_in : List ℕ → Option (Option ℕ)
home_in bs = option_map (number_up_to 1023) (strip_prefix bs (codes "@"))

-- plus and minus
abbrev pub is_sign : ℕ → Bool
is_sign c = c == byte "+" || c == byte "-"

-- how many bytes stand before the first sign
abbrev pub plain_front : List ℕ → ℕ
plain_front bs = position_or_len is_sign bs

-- what stands between [ and ]
abbrev pub bracketed_in : List ℕ → Option (List ℕ)
bracketed_in bs =
    option_and_then (λ rest. strip_suffix rest (codes "]")) (strip_prefix bs (codes "["))

-- minus n as 16 bits of two's complement
abbrev pub negated : ℕ → ℕ
negated n = (65536 - n) % 65536

-- an offset after its sign
abbrev pub signed_by : ℕ → List ℕ → Option ℕ
signed_by c ds =
    if c == byte "+" then number_up_to 32767 ds else
    (if c == byte "-" then option_map negated (number_up_to 32768 ds) else None)

-- a signed offset as 16 bits of two's complement, 0 where there is none
abbrev pub offset_in : List ℕ → Option ℕ
offset_in [] = Some 0
offset_in (c ∷ ds) = signed_by c ds

-- an address, where both parts are there
abbrev pub address_of : Option ℕ → Option ℕ → Option Address
address_of None o = None
address_of (Some b) None = None
address_of (Some b) (Some o) = Some (record { base = b; offset = o })

-- a register, and what stands from the first sign on
abbrev pub address_parts : List ℕ → Option Address
address_parts bs =
    address_of (register_in (take (plain_front bs) bs))
    (offset_in (drop (plain_front bs) bs))

-- an address in brackets
abbrev pub address_in : List ℕ → Option Address
address_in bs = option_and_then address_parts (bracketed_in bs)
