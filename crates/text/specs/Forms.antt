-- Which operands the words after a mnemonic are, and the fields that they give.
use Rattle.std.specs.Prelude.{ℕ, List, [], ◌∷◌, Some, None, Option}
use Rattle.std.specs.Option.{option_and_then, option_map}
use Rattle.std.specs.Result.{result_ok}
use Rattle.isa.specs.declared.fields.Fields.{Fields}
use Rattle.isa.specs.declared.kind.Kind.{Kind}
use Rattle.isa.specs.declared.kind.Kind.TheVariants as kinds
use Rattle.isa.specs.Kinds.{kind_number, width_number}
use Rattle.isa.specs.Layout.{joined}
use Rattle.isa.specs.Rules.{plain}
use Rattle.isa.specs.Words.{composed, layout, slots as parts}
use Rattle.text.specs.declared.form.Slot.{Slot}
use Rattle.text.specs.declared.form.Slot.TheVariants as slots
use Rattle.text.specs.Operands.{register_in, number_up_to, width_in, address_in, target_in}

-- the operands of a kind, in the order of its text
abbrev pub form_of : Kind → List Slot
form_of kinds.Halt = []
form_of kinds.Const = slots.D ∷ slots.Number ∷ []
form_of kinds.Add = slots.D ∷ slots.A ∷ slots.B ∷ []
form_of kinds.Sub = slots.D ∷ slots.A ∷ slots.B ∷ []
form_of kinds.And = slots.D ∷ slots.A ∷ slots.B ∷ []
form_of kinds.Or = slots.D ∷ slots.A ∷ slots.B ∷ []
form_of kinds.Xor = slots.D ∷ slots.A ∷ slots.B ∷ []
form_of kinds.Shl = slots.D ∷ slots.A ∷ slots.B ∷ []
form_of kinds.Shr = slots.D ∷ slots.A ∷ slots.B ∷ []
form_of kinds.Below = slots.D ∷ slots.A ∷ slots.B ∷ []
form_of kinds.Load = slots.Width ∷ slots.D ∷ slots.Address ∷ []
form_of kinds.Store = slots.Width ∷ slots.Address ∷ slots.B ∷ []
form_of kinds.Beq = slots.A ∷ slots.B ∷ slots.Target ∷ []
form_of kinds.Bne = slots.A ∷ slots.B ∷ slots.Target ∷ []
form_of kinds.Jump = slots.Target ∷ []
form_of kinds.Early = slots.Width ∷ slots.D ∷ slots.Address ∷ []
form_of kinds.Check = slots.D ∷ slots.A ∷ slots.Number ∷ []
form_of kinds.Take = slots.D ∷ slots.A ∷ []
form_of kinds.Reload = slots.Width ∷ slots.D ∷ slots.Address ∷ slots.B ∷ []
form_of kinds.Back = slots.Number ∷ []

-- the fields with what a word gives, none where it is no such operand
abbrev pub filled : Slot → Fields → List ℕ → Option Fields
filled slots.D f bs = option_map (λ n. record f { d = n }) (register_in bs)
filled slots.A f bs = option_map (λ n. record f { a = n }) (register_in bs)
filled slots.B f bs = option_map (λ n. record f { b = n }) (register_in bs)
filled slots.Width f bs = option_map (λ w. record f { width = width_number w }) (width_in bs)
filled slots.Address f bs =
    option_map (λ m. record f { a = m.base; imm = m.offset }) (address_in bs)
filled slots.Number f bs = option_map (λ n. record f { imm = n }) (number_up_to 65535 bs)
filled slots.Target f bs = option_map (λ n. record f { imm = n }) (target_in bs)

-- the fields that words give in the order of a form; there are as many words as operands
abbrev pub fields_read : List Slot → Fields → List (List ℕ) → Option Fields
fields_read [] f [] = Some f
fields_read [] f (w ∷ ws) = None
fields_read (s ∷ ss) f [] = None
fields_read (s ∷ ss) f (w ∷ ws) =
    option_and_then (λ g. fields_read ss g ws) (filled s f w)

-- the fields of a kind before its operands are read
abbrev pub start_of : Kind → ℕ → Fields
start_of k h = plain (kind_number k) 0 0 0 0 h 0

-- the word of the fields that composing accepts, where no rule is broken
unfoldable pub word_for : Fields → Option ℕ
word_for f = option_map (λ g. joined layout (parts g)) (result_ok (composed f))
