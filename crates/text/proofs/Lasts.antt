-- The last word of an instruction and the words before it.
use Rattle.std.proofs.Common.{◌≡◌, ℕ, ◌-◌, List, [], ◌∷◌, ◌++◌, length, slice_get, Some, Option, sym, refl, arith, Bor}
use Rattle.std.proofs.lemmas.List.{length-append, map-append}
use Rattle.std.proofs.Math.Seq.{take-append_seam}
use Rattle.text.specs.Operands.{home_in}
use Rattle.text.specs.Statements.{home_by, home_split}
use Rattle.text.specs.Texts.{texts}

slice_get-seam : (xs : List (List ℕ)) (x : List ℕ) → slice_get (xs ++ x ∷ []) (length xs) ≡ Some x
slice_get-seam [] x = refl
slice_get-seam (y ∷ ys) x = slice_get-seam ys x

home_split-append : (xs : List (List ℕ)) (x : List ℕ) → home_split (xs ++ x ∷ []) ≡ home_by (home_in x) xs (xs ++ x ∷ [])
home_split-append xs x =
    let n : length (xs ++ x ∷ []) - 1 ≡ length xs = omega (arith, length-append xs (x ∷ [])) in
    rw (n, slice_get-seam xs x, take-append_seam xs (x ∷ []))

-- the same of words, where the home of the last one is known
pub home_split_push : (ws front : List (Bor (List ℕ))) (w : Bor (List ℕ)) (home : Option (Option ℕ)) → ws ≡ front ++ w ∷ [] → home ≡ home_in w.now
    → home_by home (texts front) (texts ws) ≡ home_split (texts ws)
home_split_push ws front w home e read =
    rw (e, map-append (λ x. x.now) front (w ∷ []), read) (sym (home_split-append (texts front) w.now))
