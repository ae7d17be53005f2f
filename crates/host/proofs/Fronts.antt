-- Values written over the front of a list.
use Rattle.std.proofs.Common.{◌≡◌, ℕ, zero, suc, ◌≤◌, min, List, [], ◌∷◌, ◌++◌, length, take, drop, refl, ap, arith}
use Rattle.host.specs.Exports.{over}

-- the values' common front, and then the rest of the list
pub over_front : (vs xs : List ℕ) (n : ℕ) → n ≡ min (length xs) (length vs) → take n vs ++ drop n xs ≡ over vs xs
over_front [] xs zero e = refl
over_front [] xs (suc n) e = absurd (omega arith)
over_front (v ∷ vs) [] zero e = refl
over_front (v ∷ vs) [] (suc n) e = absurd (omega arith)
over_front (v ∷ vs) (x ∷ xs) zero e = absurd (omega arith)
over_front (v ∷ vs) (x ∷ xs) (suc n) e = ap (λ (ys : List ℕ). v ∷ ys) (over_front vs xs n (omega arith))

-- where either is empty, nothing is written
pub over_none : (vs xs : List ℕ) (n : ℕ) → n ≡ min (length xs) (length vs) → n ≤ 0 → xs ≡ over vs xs
over_none [] xs n e z = refl
over_none (v ∷ vs) [] n e z = refl
over_none (v ∷ vs) (x ∷ xs) n e z = absurd (omega arith)
