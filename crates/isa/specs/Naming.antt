-- Which kind a text names.
use Rattle.std.specs.Prelude.{◌≡◌, ◌≢◌, ℕ, List, codes, MatchResult, Result}
use Rattle.isa.specs.declared.display.UnknownMnemonic.{UnknownMnemonic}
use Rattle.isa.specs.declared.kind.Kind.{Kind}
use Rattle.isa.specs.Mnemonics.{mnemonic_of}

-- the text is the mnemonic of the kind, or of no kind at all
abbrev pub NamesKind : List ℕ → Result Kind UnknownMnemonic → Type 0
NamesKind text r =
    MatchResult r (λ k. mnemonic_of k ≡ text) (λ _. (k : Kind) → mnemonic_of k ≢ text)

-- what people read where no kind has a mnemonic
abbrev pub unknown_mnemonic_text : List ℕ
unknown_mnemonic_text = codes "no kind has this mnemonic"
