-- The number that digits write in a base, and what a 64-bit reader answers of it.
use Rattle.std.specs.Prelude.{ℕ, ◌^◌, Bool, false, if◌then◌else◌, ◌&&◌, List, [], ◌∷◌, length, Some, None, Ok, Err, codes, Option, Result, nat_lt}
use Rattle.std.specs.Char.{is_digit}
use Rattle.std.specs.List.{list_all}
use Rattle.std.specs.Option.{option_map_or}
use Rattle.std.specs.Str.Parse.{digits_value}
use Rattle.text.specs.declared.numeral.Misread.{Misread}
use Rattle.text.specs.declared.numeral.Misread.TheVariants.{NoNumber, TooLarge}
use Rattle.text.specs.Texts.{strip_prefix}

abbrev pub begins_with_digit : ℕ → List ℕ → Bool
begins_with_digit radix [] = false
begins_with_digit radix (c ∷ cs) = is_digit c radix

-- one or more digits of the base
abbrev pub is_numeral : ℕ → List ℕ → Bool
is_numeral radix ds = nat_lt 0 (length ds) && list_all (λ c. is_digit c radix) ds

-- the number that one or more digits write
abbrev pub numeral_in : ℕ → List ℕ → Option ℕ
numeral_in radix ds = if is_numeral radix ds then Some (digits_value radix ds) else None

-- the digits of a word that begins 0x
abbrev pub hex_digits : List ℕ → Option (List ℕ)
hex_digits bs = strip_prefix bs (codes "0x")

-- the number that a word writes: hex digits after 0x, and else the whole word as decimal digits
abbrev pub number_in : List ℕ → Option ℕ
number_in bs = option_map_or (numeral_in 16) (hex_digits bs) (numeral_in 10 bs)

-- what a reader of 64 bits answers of a number
abbrev pub capped : Option ℕ → Result ℕ Misread
capped None = Err NoNumber
capped (Some n) = if nat_lt n (2 ^ 64) then Ok n else Err TooLarge

-- why a text that gives no number of 64 bits gives none: its digits write a larger one, or it is no numeral
abbrev pub misread_of : ℕ → List ℕ → Misread
misread_of radix bs = if is_numeral radix bs then TooLarge else NoNumber

-- a problem for each way to misread
abbrev pub told : {P : Type 0} → Misread → P → P → P
told NoNumber none large = none
told TooLarge none large = large
