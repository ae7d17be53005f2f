-- The packed words of a text, and the lines of a listing.
use Rattle.std.specs.Prelude.{ℕ, ◌-◌, ◌^◌, Bool, true, false, if◌then◌else◌, ◌&&◌, List, [], ◌∷◌, length, is_some, Some, None, Ok, Err, codes, Option, Result, ◌==◌, nat_eq, nat_le, slice_get}
use Rattle.std.proofs.Common.{inl, inr}
use Rattle.std.specs.Bool.{then_some}
use Rattle.std.specs.Option.{option_and_then, option_eq, option_map}
use Rattle.std.specs.Result.{result_ok}
use Rattle.std.specs.Str.{bytes_eq}
use Rattle.isa.specs.declared.fields.Fields.{Fields}
use Rattle.isa.specs.Words.{unpacked}
use Rattle.text.specs.Marks.{before_colon}
use Rattle.text.specs.Numerals.{capped, hex_digits, number_in, numeral_in}
use Rattle.text.specs.Operands.{up_to}
use Rattle.text.specs.Statements.{DraftView, instruction_of}

-- at most sixteen hex digits, which always fit
abbrev pub short_word : List ℕ → Option ℕ
short_word ds = if nat_le (length ds) 16 then up_to (2 ^ 64 - 1) (numeral_in 16 ds) else None

-- a word of 64 bits: 0x and one to sixteen hex digits
abbrev pub word_in : List ℕ → Option ℕ
word_in bs = option_and_then short_word (hex_digits bs)

-- the number of a word such as 13:
abbrev pub number_before_colon : List ℕ → Option ℕ
number_before_colon bs = option_and_then (λ ds. result_ok (capped (number_in ds))) (before_colon bs)

-- the words begin with a refusal's number and a colon
abbrev pub says_refused : ℕ → List (List ℕ) → Bool
says_refused n ws = option_eq nat_eq (option_and_then number_before_colon (slice_get ws 0)) (Some n)

-- what unpacking a word answers is the refusal that the words say
abbrev pub refused_so : Result Fields ℕ → List (List ℕ) → Bool
refused_so (Ok f) ws = false
refused_so (Err n) ws = says_refused n ws

-- what was drafted is this word, and goes to no label
abbrev pub has_word : ℕ → DraftView → Bool
has_word w (inl n) = n == w
has_word w (inr p) = false

-- whether a word's text in a listing agrees: "refused" and how the word is, or the instruction that
-- has this word; the text may be left out
abbrev pub agrees : ℕ → List (List ℕ) → Option Bool
agrees w [] = Some true
agrees w (first ∷ rest) =
    if bytes_eq first (codes "refused") then Some (refused_so (unpacked w) rest)
    else option_map (has_word w) (instruction_of first rest)

-- a packed word whose text agrees
abbrev pub listed_word : List ℕ → List (List ℕ) → Option ℕ
listed_word bs text =
    option_and_then
    (λ w. option_and_then (λ agreed. then_some agreed w) (agrees w text))
    (word_in bs)

-- the word of a listing's line after its number, which has to be its place
abbrev pub placed_word : ℕ → ℕ → List (List ℕ) → Option ℕ
placed_word place n [] = None
placed_word place n (w ∷ text) =
    if is_some (hex_digits w) && n == place then listed_word w text else None

-- a listing's line where it begins with a number, and else an instruction
abbrev pub numbered_draft : ℕ → Option ℕ → List ℕ → List (List ℕ) → Option DraftView
numbered_draft place None first rest = instruction_of first rest
numbered_draft place (Some n) first rest = option_map inl (placed_word place n rest)

-- what a line gives at a place: a packed word where it begins with one, and else a listing's word or
-- an instruction
unfoldable pub draft_at : ℕ → List ℕ → List (List ℕ) → Option DraftView
draft_at place first rest =
    if is_some (hex_digits first) then option_map inl (listed_word first rest)
    else numbered_draft place (result_ok (capped (number_in first))) first rest
