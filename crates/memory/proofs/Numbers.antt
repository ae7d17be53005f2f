-- Numbers that are stored and read, byte by byte.
use Rattle.std.specs.Prelude.{◌≡◌, ℕ, zero, suc, ◌+◌, ◌-◌, ◌*◌, ◌%◌, ◌^◌, ◌<◌, ◌≤◌, true, false, cond, ◌≢◌, List, length, slice_index, slice_set, refl}
use Rattle.std.proofs.Common.{sym, ap, ◌∙◌, inl, inr, arith, length-set, get_or-set_same, get_or-set_other}
use Rattle.std.proofs.lemmas.Nat.{mod-pow-add}
use Rattle.std.proofs.lemmas.Bool.{cases_eq}
use Rattle.std.proofs.lemmas.Bool.Decides.{nat_tests}
use Rattle.memory.specs.Access.{within}
use Rattle.memory.specs.Bytes.{byte_of, number_at, stored, stored_in}
use Rattle.memory.proofs.Accesses.{within_from}

-- bytes that agree make the same number
pub number_at_same : (f g : ℕ → ℕ) (x y w : ℕ) → ((k : ℕ) → k < w → f (x + k) ≡ g (y + k)) → number_at f x w ≡ number_at g y w
number_at_same f g x y zero h = refl
number_at_same f g x y (suc w) h =
    let here : f (x + w) ≡ g (y + w) = h w (omega arith) in
    let before : number_at f x w ≡ number_at g y w = number_at_same f g x y w (λ k l. h k (omega arith)) in
    rw (here, before)

pub stored_inside : (f : ℕ → ℕ) (x w v a : ℕ) → within x w a ≡ true → stored f x w v a ≡ byte_of v (a - x)
stored_inside f x w v a e = rw e

pub stored_outside : (f : ℕ → ℕ) (x w v a : ℕ) → within x w a ≡ false → stored f x w v a ≡ f a
stored_outside f x w v a e = rw e

-- one byte more of a number
low_more : (v k : ℕ) → v % 2 ^ (8 * k) + byte_of v k * 2 ^ (8 * k) ≡ v % 2 ^ (8 * suc k)
low_more v k =
    let more : 8 * suc k ≡ 8 + 8 * k = omega arith in
    rw more (omega (arith, mod-pow-add v 8 (8 * k)))

low_read : (f : ℕ → ℕ) (x w v n : ℕ) → n ≤ w → number_at (stored f x w v) x n ≡ v % 2 ^ (8 * n)
low_read f x w v zero h = omega arith
low_read f x w v (suc n) h =
    let in-it : within x w (x + n) ≡ true = within_from x w (x + n) (omega arith) (omega arith) in
    let k : (x + n) - x ≡ n = omega arith in
    let here : stored f x w v (x + n) ≡ byte_of v n = stored_inside f x w v (x + n) in-it ∙ ap (byte_of v) k in
    let before = low_read f x w v n (omega arith) in
    rw (here, before) (low_more v n)

-- what was stored is what is read: the low w bytes
pub read_back : (f : ℕ → ℕ) (x w v : ℕ) → number_at (stored f x w v) x w ≡ v % 2 ^ (8 * w)
read_back f x w v = low_read f x w v w (omega arith)

pub length-stored_in : (bs : List ℕ) (x w v : ℕ) → length (stored_in bs x w v) ≡ length bs
length-stored_in bs x zero v = refl
length-stored_in bs x (suc w) v = length-set (stored_in bs x w v) (x + w) (byte_of v w) ∙ length-stored_in bs x w v

-- one byte more of a number is stored
stored_in_more : (bs before : List ℕ) (x w v a : ℕ) → x + w < length before
    → slice_index before a ≡ stored (λ b. slice_index bs b) x w v a
    → slice_index (slice_set before (x + w) (byte_of v w)) a ≡ stored (λ b. slice_index bs b) x (suc w) v a
stored_in_more bs before x w v a l h =
    elim (cases_eq a (x + w)) [ inl e ↦ here e | inr ne ↦ there ne ]
  where
    here : a ≡ x + w → slice_index (slice_set before (x + w) (byte_of v w)) a ≡ stored (λ b. slice_index bs b) x (suc w) v a
    here e =
        let in-it : within x (suc w) (x + w) ≡ true = within_from x (suc w) (x + w) (omega arith) (omega arith) in
        let k : (x + w) - x ≡ w = omega arith in
        rw e (rw get_or-set_same (sym (stored_inside (λ b. slice_index bs b) x (suc w) v (x + w) in-it ∙ ap (byte_of v) k)))

    there : a ≢ x + w → slice_index (slice_set before (x + w) (byte_of v w)) a ≡ stored (λ b. slice_index bs b) x (suc w) v a
    there ne =
        let same : within x w a ≡ within x (suc w) a = grind (arith, nat_tests) in
        rw get_or-set_other (h ∙ ap (λ t. cond t (byte_of v (a - x)) (slice_index bs a)) same)

-- the list of bytes and the bytes by their address are stored alike
pub get_or-stored_in : (bs : List ℕ) (x w v a : ℕ) → x + w ≤ length bs
    → slice_index (stored_in bs x w v) a ≡ stored (λ b. slice_index bs b) x w v a
get_or-stored_in bs x zero v a h =
    let out : within x 0 a ≡ false = grind (arith, nat_tests) in
    rw out
get_or-stored_in bs x (suc w) v a h =
    stored_in_more bs (stored_in bs x w v) x w v a (omega (arith, length-stored_in bs x w v)) (get_or-stored_in bs x w v a (omega arith))
