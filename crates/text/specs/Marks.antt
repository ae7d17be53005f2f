-- The labels in front of a line, and the table of all labels with where each stands.
use Rattle.std.specs.Prelude.{◌≡◌, ℕ, ◌⊎◌, Bool, List, drop, codes, is_some, Some, Option}
use Rattle.std.specs.declared.cmp.Ordering.{Ordering}
use Rattle.std.specs.Borrow.{Bor}
use Rattle.std.specs.BTreeMap.{Updates, get_by}
use Rattle.std.specs.Cmp.Lexicographic.{slice_cmp}
use Rattle.std.specs.List.{prefix_len}
use Rattle.std.specs.Ordering.{nat_cmp}
use Rattle.text.specs.declared.labels.Labels.{Labels}
use Rattle.text.specs.declared.labels.Mark.{Mark}
use Rattle.text.specs.Texts.{strip_suffix}

-- what stands before a word's last colon, where it ends with one: in front of a line, a label
abbrev pub before_colon : List ℕ → Option (List ℕ)
before_colon word = strip_suffix word (codes ":")

abbrev pub is_label : List ℕ → Bool
is_label word = is_some (before_colon word)

-- the words after the labels in front
abbrev pub after_labels : List (List ℕ) → List (List ℕ)
after_labels words = drop (prefix_len is_label words) words

-- the order of labels, by their bytes
abbrev pub by_bytes : Bor (List ℕ) → Bor (List ℕ) → Ordering
by_bytes x y = slice_cmp nat_cmp x.now y.now

-- the new table is the old one with this mark at the label
abbrev pub Marked : Labels → Labels → Bor (List ℕ) → Mark → Type 0
Marked old new label mark = Updates by_bytes old.marks new.marks label (Some mark)

-- the mark at the label of these bytes
abbrev pub at_label : Labels → List ℕ → Option Mark
at_label labels bytes = get_by (λ key. slice_cmp nat_cmp bytes key.now) labels.marks

-- each label has the mark that it had, or this one
abbrev pub OnlyAdds : Labels → Labels → Mark → Type 0
OnlyAdds old new mark =
    (label : List ℕ) → (at_label new label ≡ at_label old label) ⊎ (at_label new label ≡ Some mark)
