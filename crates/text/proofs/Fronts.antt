-- The labels in front of a line.
use Rattle.std.proofs.Common.{◌≡◌, ℕ, ◌+◌, cond, List, [], ◌∷◌, length, drop, take_while, sym, refl, ap, ◌∙◌, Bor}
use Rattle.std.proofs.lemmas.List.{drop-map}
use Rattle.std.proofs.lemmas.List.Folds.{length-prefix_len}
use Rattle.std.specs.List.{prefix_len}
use Rattle.text.specs.Marks.{after_labels, is_label}
use Rattle.text.specs.Texts.{texts}

prefix_len-texts : (ws : List (Bor (List ℕ))) → prefix_len (λ w. is_label w.now) ws ≡ prefix_len is_label (texts ws)
prefix_len-texts [] = refl
prefix_len-texts (w ∷ ws) = ap (λ n. cond (is_label w.now) (1 + n) 0) (prefix_len-texts ws)

-- the words after as many as are labels
pub texts_drop : (ws : List (Bor (List ℕ))) (n : ℕ) → n ≡ length (take_while (λ w. is_label w.now) ws) → texts (drop n ws) ≡ after_labels (texts ws)
texts_drop ws n e =
    sym (drop-map (λ w. w.now) n ws)
    ∙ ap (λ k. drop k (texts ws)) (e ∙ length-prefix_len (λ w. is_label w.now) ws ∙ prefix_len-texts ws)
