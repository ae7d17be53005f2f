-- What the words of an instruction give: a word, or the fields and the label that it goes to.
use Rattle.std.specs.Prelude.{ℕ, ◌-◌, Bool, ◌&&◌, ◌⊎◌, List, length, take, find, slice_get, Some, None, Option, nat_le}
use Rattle.std.proofs.Common.{inl, inr}
use Rattle.std.specs.Bool.{then_some}
use Rattle.std.specs.Str.{bytes_eq}
use Rattle.std.specs.Option.{option_and_then, option_map}
use Rattle.isa.specs.declared.fields.Fields.{Fields}
use Rattle.isa.specs.declared.kind.Kind.{Kind}
use Rattle.isa.specs.Kinds.{kind_number, kinds}
use Rattle.isa.specs.Mnemonics.{mnemonic_of}
use Rattle.text.specs.declared.statement.Draft.{Draft}
use Rattle.text.specs.declared.statement.Draft.TheVariants.{Word, Branch}
use Rattle.text.specs.Forms.{fields_read, form_of, start_of, word_for}
use Rattle.text.specs.Names.{is_name}
use Rattle.text.specs.Operands.{home_in}

-- the last word, if there is one
abbrev pub last_of : List (List ℕ) → Option (List ℕ)
last_of ws = slice_get ws (length ws - 1)

-- the home that was read, or 0 and all words where the last word is none
abbrev pub home_by : Option (Option ℕ) → List (List ℕ) → List (List ℕ) → Option (ℕ × List (List ℕ))
home_by None front ws = Some (0, ws)
home_by (Some o) front ws = option_map (λ h. (h, front)) o

-- the home that the last word gives, 0 where it gives none, and the words before it
abbrev pub home_split : List (List ℕ) → Option (ℕ × List (List ℕ))
home_split ws = home_by (option_and_then home_in (last_of ws)) (take (length ws - 1) ws) ws

-- beq, bne and jump
abbrev pub has_target : Kind → Bool
has_target k = nat_le 12 (kind_number k) && nat_le (kind_number k) 14

-- the last word of such a kind is a label
abbrev pub goes_to_label : Kind → List ℕ → Bool
goes_to_label k w = has_target k && is_name w

-- the label that an instruction goes to
abbrev pub label_in : Kind → List (List ℕ) → Option (List ℕ)
label_in k ws = option_and_then (λ w. then_some (goes_to_label k w) w) (last_of ws)

-- a packed word, or the fields of an instruction with the label that it goes to
abbrev pub DraftView : Type 0
DraftView = ℕ ⊎ (Fields × List ℕ)

-- the word of the fields, or the fields with their label
abbrev pub drafted : Fields → Option (List ℕ) → Option DraftView
drafted f None = option_map inl (word_for f)
drafted f (Some l) = Some (inr (f, l))

-- what a kind gives with the words after its mnemonic: its word, or its fields and the label
unfoldable pub drawn : Kind → List (List ℕ) → Option DraftView
drawn k ws =
    option_and_then
    (λ p. option_and_then
    (λ f. drafted f (label_in k p.1))
    (fields_read (form_of k) (start_of k p.0) p.1))
    (home_split ws)

-- the kind that text calls so
unfoldable pub kind_named : List ℕ → Option Kind
kind_named text = find (λ k. bytes_eq (mnemonic_of k) text) kinds

-- what a mnemonic and the words after it give
abbrev pub instruction_of : List ℕ → List (List ℕ) → Option DraftView
instruction_of mnemonic ws = option_and_then (λ k. drawn k ws) (kind_named mnemonic)

-- a draft in these words
abbrev pub view : Draft → DraftView
view (Word w) = inl w
view (Branch f l) = inr (f, l.now)
