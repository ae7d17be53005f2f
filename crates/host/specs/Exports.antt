-- What the calls for C answer, and what they leave in the slices.
use Rattle.std.specs.Prelude.{ℕ, List, [], ◌∷◌, Ok, Err, Result}
use Rattle.isa.specs.declared.fields.Fields.{Fields}
use Rattle.isa.specs.Words.{unpacked}

-- the values over the front of a list, as many as it has room for
abbrev pub over : List ℕ → List ℕ → List ℕ
over [] xs = xs
over (v ∷ vs) [] = []
over (v ∷ vs) (x ∷ xs) = v ∷ over vs xs

-- 0, or the number of the refusal
abbrev pub number_of : Result Fields ℕ → ℕ
number_of (Ok f) = 0
number_of (Err n) = n

-- the seven fields over the front, or nothing written
abbrev pub fields_over : Result Fields ℕ → List ℕ → List ℕ
fields_over (Ok f) xs = over (f.kind ∷ f.width ∷ f.d ∷ f.a ∷ f.b ∷ f.home ∷ f.imm ∷ []) xs
fields_over (Err n) xs = xs

abbrev pub unpack_number : ℕ → ℕ
unpack_number w = number_of (unpacked w)

abbrev pub unpack_fields : ℕ → List ℕ → List ℕ
unpack_fields w xs = fields_over (unpacked w) xs
