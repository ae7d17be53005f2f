-- The names of labels.
use Rattle.std.specs.Prelude.{ℕ, Bool, false, ◌&&◌, ◌||◌, List, [], ◌∷◌, ◌==◌}
use Rattle.std.specs.Char.{is_ascii_alphabetic, is_ascii_alphanumeric}
use Rattle.std.specs.List.{list_all}
use Rattle.std.specs.Str.{byte}

-- A to Z, a to z and _
abbrev pub is_start : ℕ → Bool
is_start c = is_ascii_alphabetic c || c == byte "_"

-- these, and 0 to 9
abbrev pub is_part : ℕ → Bool
is_part c = is_ascii_alphanumeric c || c == byte "_"

-- a letter or _, and then letters, digits and _
abbrev pub is_name : List ℕ → Bool
is_name [] = false
is_name (c ∷ cs) = is_start c && list_all is_part cs
