-- What holds of all instructions and all words: each instruction has one word, and each accepted word one instruction.
use Rattle.std.specs.Prelude.{◌≡◌, ℕ, ◌^◌, ◌<◌, Ok, Result}
use Rattle.isa.specs.declared.fields.Fields.{Fields}
use Rattle.isa.specs.declared.instruction.Instruction.{Instruction}
use Rattle.isa.specs.declared.refusal.WordRefusal.{WordRefusal}
use Rattle.isa.specs.Words.{fields_of, packed, answered, composed, unpacked}

-- these are the fields of some instruction
abbrev pub OfInstruction : Fields → Type 0
OfInstruction f = (i : Instruction) × (fields_of i ≡ f)

pub record OneToOne : Type 0 where
  -- unpacking the word of any instruction gives that instruction
  pub unpacks : (i : Instruction) (r : Result Instruction WordRefusal) → answered r ≡ unpacked (packed i) → r ≡ Ok i
  -- an accepted word is the word of its instruction
  pub packs : (w : ℕ) → w < 2 ^ 64 → (i : Instruction) → unpacked w ≡ Ok (fields_of i) → packed i ≡ w
  -- two instructions with one word are the same
  pub one_instruction : (i j : Instruction) → packed i ≡ packed j → i ≡ j
  -- two words that unpack alike are the same
  pub one_word : (v w : ℕ) → v < 2 ^ 64 → w < 2 ^ 64 → (f : Fields) → unpacked v ≡ Ok f → unpacked w ≡ Ok f → v ≡ w
  -- what an accepted word unpacks to is an instruction
  pub whole : (w : ℕ) (f : Fields) → unpacked w ≡ Ok f → OfInstruction f
  -- an instruction is known by its fields
  pub known : (i j : Instruction) → fields_of i ≡ fields_of j → i ≡ j

-- composing accepts the fields of every instruction and no others, and gives that instruction
pub record ComposesExactly : Type 0 where
  pub accepts : (i : Instruction) (r : Result Instruction WordRefusal) → answered r ≡ composed (fields_of i) → r ≡ Ok i
  pub only : (f g : Fields) → composed f ≡ Ok g → (g ≡ f) × OfInstruction f
