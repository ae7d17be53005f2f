-- What people read of an instruction: its mnemonic, its operands and its home.
use Rattle.std.specs.Prelude.{ℕ, ◌-◌, cond, List, [], ◌++◌, codes, decimal, ◌==◌, nat_lt}
use Rattle.isa.specs.declared.instruction.Instruction.{Instruction}
use Rattle.isa.specs.declared.kind.Kind.{Kind}
use Rattle.isa.specs.declared.kind.Kind.TheVariants.{Halt, Const, Add, Sub, And, Or, Xor, Shl, Shr, Below, Load, Store, Beq, Bne, Jump, Early, Check, Take, Reload, Back}
use Rattle.isa.specs.Kinds.{width_bytes}
use Rattle.isa.specs.Mnemonics.{mnemonic_of}

-- a base register and a signed offset of 16 bits
abbrev pub address_text : ℕ → ℕ → List ℕ
address_text base offset =
    cond (offset == 0) (codes "[r" ++ (decimal base ++ codes "]"))
    (cond (nat_lt offset 32768) (codes "[r" ++ (decimal base ++ (codes "+" ++ (decimal offset ++ codes "]"))))
    (codes "[r" ++ (decimal base ++ (codes "-" ++ (decimal (65536 - offset) ++ codes "]")))))

-- a register with the blank before it
abbrev pub register_text : ℕ → List ℕ
register_text n = codes " r" ++ decimal n

abbrev pub three_text : Instruction → List ℕ
three_text i = register_text i.d ++ (register_text i.a ++ register_text i.b)

abbrev pub load_text : Instruction → List ℕ
load_text i = codes " " ++ (decimal (width_bytes i.width) ++ (register_text i.d ++ (codes " " ++ address_text i.a i.imm)))

abbrev pub branch_text : Instruction → List ℕ
branch_text i = register_text i.a ++ (register_text i.b ++ (codes " " ++ decimal i.imm))

abbrev pub place_text : Instruction → List ℕ
place_text i = codes " " ++ decimal i.imm

-- the operands, each with the blank before it
abbrev pub operands_text : Kind → Instruction → List ℕ
operands_text Halt i = []
operands_text Const i = register_text i.d ++ (codes " " ++ decimal i.imm)
operands_text Add i = three_text i
operands_text Sub i = three_text i
operands_text And i = three_text i
operands_text Or i = three_text i
operands_text Xor i = three_text i
operands_text Shl i = three_text i
operands_text Shr i = three_text i
operands_text Below i = three_text i
operands_text Load i = load_text i
operands_text Store i = codes " " ++ (decimal (width_bytes i.width) ++ (codes " " ++ (address_text i.a i.imm ++ register_text i.b)))
operands_text Beq i = branch_text i
operands_text Bne i = branch_text i
operands_text Jump i = place_text i
operands_text Early i = load_text i
operands_text Check i = register_text i.d ++ (register_text i.a ++ (codes " " ++ decimal i.imm))
operands_text Take i = register_text i.d ++ register_text i.a
operands_text Reload i = codes " " ++ (decimal (width_bytes i.width) ++ (register_text i.d ++ (codes " " ++ (address_text i.a i.imm ++ register_text i.b))))
operands_text Back i = place_text i

-- home only where it is not 0
abbrev pub home_text : ℕ → List ℕ
home_text h = cond (h == 0) [] (codes " @" ++ decimal h)

abbrev pub instruction_text : Instruction → List ℕ
instruction_text i = mnemonic_of i.kind ++ (operands_text i.kind i ++ home_text i.home)
