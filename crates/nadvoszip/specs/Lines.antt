-- The lines of the input.
use Rattle.std.specs.Prelude.{ℕ, ◌+◌, ◌==◌, List, take, count_by}
use Rattle.std.specs.Str.Lossy.{utf8_valid_len}

-- the line in which bytes stop being text, counted from 1
abbrev pub first_bad_line : List ℕ → ℕ
first_bad_line bytes = count_by (λ c. c == 10) (take (utf8_valid_len bytes) bytes) + 1
