-- The names by which text calls the kinds.
use Rattle.std.specs.Prelude.{ℕ, List, codes}
use Rattle.isa.specs.declared.kind.Kind.{Kind}
use Rattle.isa.specs.declared.kind.Kind.TheVariants.{Halt, Const, Add, Sub, And, Or, Xor, Shl, Shr, Below, Load, Store, Beq, Bne, Jump, Early, Check, Take, Reload, Back}

abbrev pub mnemonic_of : Kind → List ℕ
mnemonic_of Halt = codes "halt"
mnemonic_of Const = codes "const"
mnemonic_of Add = codes "add"
mnemonic_of Sub = codes "sub"
mnemonic_of And = codes "and"
mnemonic_of Or = codes "or"
mnemonic_of Xor = codes "xor"
mnemonic_of Shl = codes "shl"
mnemonic_of Shr = codes "shr"
mnemonic_of Below = codes "below"
mnemonic_of Load = codes "load"
mnemonic_of Store = codes "store"
mnemonic_of Beq = codes "beq"
mnemonic_of Bne = codes "bne"
mnemonic_of Jump = codes "jump"
mnemonic_of Early = codes "early"
mnemonic_of Check = codes "check"
mnemonic_of Take = codes "take"
mnemonic_of Reload = codes "reload"
mnemonic_of Back = codes "back"
