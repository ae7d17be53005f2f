-- Joining values and parting the word undo each other, for fields of any sizes.
use Rattle.std.proofs.Common.{◌≡◌, ℕ, ◌+◌, ◌*◌, ◌/◌, ◌%◌, ◌^◌, ◌<◌, List, [], ◌∷◌, sym, refl, ap, ◌∙◌, mod-eq_of_lt, mul_assoc, add_comm, arith}
use native.Mathlib.Nat.{add-mul-div_right, add-mul-mod_self_right, mod-one}
use lib.Arith.{digits_lt}
use Rattle.std.proofs.lemmas.Nat.{pow_pos, pow-add, mod-pow-add, shr_high}
use Rattle.isa.specs.Layout.{bits, joined, parted, Fit}

-- what stands above all fields is not seen
parted_above : (ns : List ℕ) (a x : ℕ) → parted ns (a * 2 ^ bits ns + x) ≡ parted ns x
parted_above [] a x = refl
parted_above (n ∷ ns) a x =
    let p : a * 2 ^ (n + bits ns) ≡ a * 2 ^ n * 2 ^ bits ns = ap (λ (y : ℕ). a * y) (pow-add 2 n (bits ns)) ∙ sym (mul_assoc a (2 ^ n) (2 ^ bits ns)) in
    let q : (x + a * 2 ^ n * 2 ^ bits ns) / 2 ^ bits ns ≡ x / 2 ^ bits ns + a * 2 ^ n = add-mul-div_right x (a * 2 ^ n) (pow_pos (bits ns)) in
    let s : (x / 2 ^ bits ns + a * 2 ^ n) % 2 ^ n ≡ x / 2 ^ bits ns % 2 ^ n = add-mul-mod_self_right (x / 2 ^ bits ns) a (2 ^ n) in
    let h = parted_above ns (a * 2 ^ n) x in
    rw (p, h, add_comm (a * 2 ^ n * 2 ^ bits ns) x, q, s)

joined_below : (ns vs : List ℕ) → Fit ns vs → joined ns vs < 2 ^ bits ns
joined_below [] [] t = omega arith
joined_below [] (v ∷ vs) t = absurd t
joined_below (n ∷ ns) [] t = absurd t
joined_below (n ∷ ns) (v ∷ vs) t =
    let h = joined_below ns vs t.1 in
    rw (pow-add 2 n (bits ns)) (digits_lt t.0 h)

-- parting undoes joining
pub parted_joined : (ns vs : List ℕ) → Fit ns vs → parted ns (joined ns vs) ≡ vs
parted_joined [] [] t = refl
parted_joined [] (v ∷ vs) t = absurd t
parted_joined (n ∷ ns) [] t = absurd t
parted_joined (n ∷ ns) (v ∷ vs) t =
    let h = shr_high v (bits ns) (joined ns vs) (joined_below ns vs t.1) in
    let m : v % 2 ^ n ≡ v = mod-eq_of_lt t.0 in
    rw (parted_above ns v (joined ns vs), parted_joined ns vs t.1, h, m)

-- joining undoes parting, up to what stands above all fields
pub joined_parted : (ns : List ℕ) (w : ℕ) → joined ns (parted ns w) ≡ w % 2 ^ bits ns
joined_parted [] w = sym (mod-one w)
joined_parted (n ∷ ns) w = rw (joined_parted ns w, mod-pow-add w n (bits ns))
