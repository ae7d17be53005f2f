-- Numbers as bytes, the low byte first.
use Rattle.std.specs.Prelude.{◌≡◌, ℕ, zero, suc, ◌+◌, ◌-◌, ◌*◌, ◌/◌, ◌%◌, ◌^◌, ◌≤◌, Bool, true, cond, List, length, slice_index, slice_set}
use Rattle.memory.specs.Access.{is_width, within}

-- byte k of a number
abbrev pub byte_of : ℕ → ℕ → ℕ
byte_of v k = v / 2 ^ (8 * k) % 256

-- the number in w bytes from x on
abbrev pub number_at : (ℕ → ℕ) → ℕ → ℕ → ℕ
number_at f x zero = 0
number_at f x (suc w) = number_at f x w + f (x + w) * 2 ^ (8 * w)

-- the bytes once the low w bytes of v are stored from x on
abbrev pub stored : (ℕ → ℕ) → ℕ → ℕ → ℕ → ℕ → ℕ
stored f x w v a = cond (within x w a) (byte_of v (a - x)) (f a)

-- the same of a list of bytes
abbrev pub stored_in : List ℕ → ℕ → ℕ → ℕ → List ℕ
stored_in bs x zero v = bs
stored_in bs x (suc w) v = slice_set (stored_in bs x w v) (x + w) (byte_of v w)

-- the bytes of a memory over a list: each address that has a value finds it at its place in the list
abbrev pub seen : (ℕ → Bool) → (ℕ → ℕ) → List ℕ → ℕ → ℕ
seen has place bs a = cond (has a) (slice_index bs (place a)) 0

-- w bytes from `at` on lie in the list
pub record Room (bs : List ℕ) (at w : ℕ) : Type 0 where
  pub width : is_width w ≡ true
  pub inside : at + w ≤ length bs
