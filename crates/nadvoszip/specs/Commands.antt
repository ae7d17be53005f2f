-- The names and the pages of the commands.
use Rattle.std.specs.Prelude.{◌≡◌, ◌≢◌, ℕ, codes, MatchResult, Result}
use Rattle.std.specs.Prelude.{List as Bytes}
use Rattle.nadvoszip.specs.declared.command.Command.{Command}
use Rattle.nadvoszip.specs.declared.command.Command.TheVariants.{Demonstrate, Pack, List, Help}
use Rattle.nadvoszip.specs.declared.command.UnknownName.{UnknownName}
use Rattle.nadvoszip.specs.declared.help.TheConstants.{GENERAL, PACK, LIST}

-- the page that explains a command
abbrev pub page_of : Command → Bytes ℕ
page_of Pack = PACK.now
page_of List = LIST.now
page_of Demonstrate = GENERAL.now
page_of (Help page) = GENERAL.now

-- the command has this name
abbrev pub IsNamed : Bytes ℕ → Command → Type 0
IsNamed name Pack = name ≡ codes "pack"
IsNamed name List = name ≡ codes "list"
IsNamed name (Help page) = (name ≡ codes "--help") × (page.now ≡ GENERAL.now)
IsNamed name Demonstrate = ⊥

-- the command of the name, or that none has it
abbrev pub NamesCommand : Bytes ℕ → Result Command UnknownName → Type 0
NamesCommand name r =
    MatchResult r (IsNamed name)
    (λ _. (name ≢ codes "pack") × (name ≢ codes "list") × (name ≢ codes "--help"))
