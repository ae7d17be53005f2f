-- The drafts of a program, and the words that they become.
use Rattle.std.specs.Prelude.{◌≡◌, ℕ, ◌+◌, ◌≤◌, List, [], ◌∷◌, ◌++◌, map, length, min, Some, Option, vec_len}
use Rattle.std.specs.Option.{option_and_then}
use Rattle.text.specs.declared.drafts.Drafted.{Drafted}
use Rattle.text.specs.declared.drafts.Drafts.{Drafts}
use Rattle.text.specs.declared.labels.Labels.{Labels}
use Rattle.text.specs.declared.labels.Mark.{Mark}
use Rattle.text.specs.declared.statement.Draft.{Draft}
use Rattle.text.specs.declared.statement.Draft.TheVariants.{Word, Branch}
use Rattle.text.specs.Forms.{word_for}
use Rattle.text.specs.Lines.{draft_at}
use Rattle.text.specs.Marks.{at_label}
use Rattle.text.specs.Statements.{view}

-- the word of a draft: itself, or that of the instruction with the place of its label as the target
unfoldable pub draft_word : Labels → Draft → Option ℕ
draft_word labels (Word w) = Some w
draft_word labels (Branch f l) =
    option_and_then (λ mark. word_for (record f { imm = mark.place })) (at_label labels l.now)

-- each draft becomes the word at its place
abbrev pub AllBecome : Labels → List Drafted → List ℕ → Type 0
AllBecome labels drafts words =
    map (λ w. Some w) words ≡ map (λ d. draft_word labels d.draft) drafts

-- a line's words give what they say at the next place, with the line's number; none give nothing
abbrev pub Gives : ℕ → ℕ → List (List ℕ) → List Drafted → List Drafted → Type 0
Gives place line [] xs ys = ys ≡ xs
Gives place line (first ∷ rest) xs ys =
    (d : Draft) × (Some (view d) ≡ draft_at place first rest)
    × (ys ≡ xs ++ record { draft = d; line = line } ∷ [])

-- what the words of a line add to a program
pub record Added (line : ℕ) (words : List (List ℕ)) (old new : Drafts) : Type 0 where
  pub most : new.most ≡ old.most
  pub len : vec_len new.items ≡ vec_len old.items + min 1 (length words)
  pub items : Gives (vec_len old.items) line words old.items.items new.items.items

-- a line adds at most one instruction
pub record Grown (old new : Drafts) : Type 0 where
  pub most : new.most ≡ old.most
  pub at_least : vec_len old.items ≤ vec_len new.items
  pub at_most : vec_len new.items ≤ vec_len old.items + 1

-- where the labels of a line stand: at the place of the next instruction
abbrev pub next_mark : Drafts → ℕ → Mark
next_mark drafts line = record { place = vec_len drafts.items; line = line }

-- the same program
pub record IsUnchanged (old new : Drafts) : Type 0 where
  pub most : new.most ≡ old.most
  pub len : vec_len new.items ≡ vec_len old.items
  pub items : new.items.items ≡ old.items.items
