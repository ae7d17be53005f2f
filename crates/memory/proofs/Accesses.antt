-- Where the bytes of an access lie.
use Rattle.std.specs.Prelude.{◌≡◌, ℕ, ◌+◌, ◌%◌, ◌<◌, ◌≤◌, true, ◌⊎◌, ◌==◌, nat_le, nat_lt}
use Rattle.std.proofs.Common.{inl, inr, arith}
use Rattle.std.proofs.lemmas.Bool.{and_parts, and_from, eqb-true, leb-true, ltb-true, le-leb, lt-ltb, or_cases}
use Rattle.memory.specs.Access.{aligned, granule, is_width, within}

-- the three widths
pub width_cases : (w : ℕ) → is_width w ≡ true → (w ≡ 1) ⊎ ((w ≡ 2) ⊎ (w ≡ 4))
width_cases w e =
    elim (or_cases _ _ e) [
      | inl a ↦ inl (eqb-true w 1 a)
      | inr b ↦ elim (or_cases _ _ b) [ inl p ↦ inr (inl (eqb-true w 2 p)) | inr q ↦ inr (inr (eqb-true w 4 q)) ]
    ]

pub aligned_width : (x w : ℕ) → aligned x w ≡ true → is_width w ≡ true
aligned_width x w e = (and_parts (is_width w) (x % w == 0) e).0

aligned_at : (x w n : ℕ) → aligned x w ≡ true → w ≡ n → x % n ≡ 0
aligned_at x w n e h = rw h at (eqb-true (x % w) 0 (and_parts (is_width w) (x % w == 0) e).1)

-- an access does not leave its granule
pub one_granule : (x w : ℕ) → aligned x w ≡ true → x % 4 + w ≤ 4
one_granule x w e =
    elim (width_cases w (aligned_width x w e)) [
      | inl h ↦ omega arith
      | inr r ↦ elim r [
        | inl h ↦ omega (arith, aligned_at x w 2 e h)
        | inr h ↦ omega (arith, aligned_at x w 4 e h)
      ]
    ]

pub within_bounds : (x w a : ℕ) → within x w a ≡ true → (x ≤ a) × (a < x + w)
within_bounds x w a e = let p = and_parts (nat_le x a) (nat_lt a (x + w)) e in (leb-true x a p.0, ltb-true a (x + w) p.1)

pub within_from : (x w a : ℕ) → x ≤ a → a < x + w → within x w a ≡ true
within_from x w a l h = and_from (nat_le x a) (nat_lt a (x + w)) (le-leb x a l) (lt-ltb a (x + w) h)

pub within_granule : (x w a : ℕ) → aligned x w ≡ true → within x w a ≡ true → granule a ≡ granule x
within_granule x w a e h = let p = within_bounds x w a h in omega (arith, one_granule x w e)
