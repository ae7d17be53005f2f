-- A word as fields of fixed sizes in bits, the most significant first.
use Rattle.std.specs.Prelude.{ℕ, ◌+◌, ◌*◌, ◌/◌, ◌%◌, ◌^◌, ◌<◌, List, [], ◌∷◌}

-- the size of all fields
abbrev pub bits : List ℕ → ℕ
bits [] = 0
bits (n ∷ ns) = n + bits ns

-- the word that has these values in fields of these sizes
abbrev pub joined : List ℕ → List ℕ → ℕ
joined [] vs = 0
joined (n ∷ ns) [] = 0
joined (n ∷ ns) (v ∷ vs) = v * 2 ^ bits ns + joined ns vs

-- what a word has in fields of these sizes
abbrev pub parted : List ℕ → ℕ → List ℕ
parted [] w = []
parted (n ∷ ns) w = w / 2 ^ bits ns % 2 ^ n ∷ parted ns w

-- each value fits its field
abbrev pub Fit : List ℕ → List ℕ → Type 0
Fit [] [] = Unit {0}
Fit [] (v ∷ vs) = ⊥
Fit (n ∷ ns) [] = ⊥
Fit (n ∷ ns) (v ∷ vs) = (v < 2 ^ n) × Fit ns vs
