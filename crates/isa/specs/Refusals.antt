-- Why fields or a word make no instruction: the number of each reason, and what people read of it.
use Rattle.std.specs.Prelude.{ℕ, List, ◌++◌, codes, decimal}
use Rattle.isa.specs.declared.refusal.WordRefusal.{WordRefusal}
use Rattle.isa.specs.declared.refusal.WordRefusal.TheVariants as refusals

abbrev pub refusal_number : WordRefusal → ℕ
refusal_number refusals.Kind = 11
refusal_number refusals.Width = 12
refusal_number refusals.Register = 13
refusal_number refusals.Rest = 14

abbrev pub reason_of : WordRefusal → List ℕ
reason_of refusals.Kind = codes "no kind has this number"
reason_of refusals.Width = codes "the width is above 2, or not 0 in a kind without one"
reason_of refusals.Register = codes "a register is outside the range of its kind"
reason_of refusals.Rest = codes "an unused field or a zero bit is not 0, or home or imm is too large"

abbrev pub refusal_text : WordRefusal → List ℕ
refusal_text e = codes "refused " ++ (decimal (refusal_number e) ++ (codes ": " ++ reason_of e))
