use Rattle.std.proofs.Common.{◌≡◌, ℕ, zero, suc, ◌+◌, ◌-◌, ◌≤◌, List, [], ◌∷◌, ◌++◌, length, take, drop, set, refl, ap, arith, rules}
use native.Mathlib.Numerals.{unary_clauses}
use Rattle.memory.specs.Bytes.{byte_of}
use Rattle.memory.proofs.Accesses.{width_cases}
use Rattle.memory.proofs.bytes.store_at.Goals as goal

-- four bytes copied to a place are four bytes set
four : (a : ℕ) (bs : List ℕ) (p q r s : ℕ) → a + 4 ≤ length bs
    → take a bs ++ (p ∷ (q ∷ (r ∷ (s ∷ drop 4 (drop a bs))))) ≡ set (set (set (set bs (a + 0) p) (a + 1) q) (a + 2) r) (a + 3) s
four zero [] p q r s h = absurd (omega arith)
four zero (b ∷ []) p q r s h = absurd (omega arith)
four zero (b ∷ (c ∷ [])) p q r s h = absurd (omega arith)
four zero (b ∷ (c ∷ (d ∷ []))) p q r s h = absurd (omega arith)
four zero (b ∷ (c ∷ (d ∷ (e ∷ bs)))) p q r s h = refl
four (suc a) [] p q r s h = absurd (omega arith)
four (suc a) (b ∷ bs) p q r s h = simp unary_clauses (ap (λ l. b ∷ l) (simp unary_clauses at (four a bs p q r s (omega arith))))

pub returns-in_default : goal.returns-in_default
returns-in_default c =
    let w : c.args.w ≡ 4 = grind (arith, width_cases) in
    let width : c.args.at + 4 - c.args.at ≡ 4 = omega arith in
    let v = c.args.v in
    let copied : c.copy_from_slice-in_default.new.self ≡ byte_of v 0 ∷ (byte_of v 1 ∷ (byte_of v 2 ∷ (byte_of v 3 ∷ []))) = search rules in
    rw (w, width, copied) (four c.args.at c.args.bytes.now (byte_of v 0) (byte_of v 1) (byte_of v 2) (byte_of v 3) (omega arith))
