-- As many words as a form has operands.
use Rattle.std.proofs.Common.{◌≡◌, ◌≢◌, ℕ, List, [], ◌∷◌, length, None, Some, Option, refl, arith, Bor}
use Rattle.std.specs.Option.{option_and_then}
use Rattle.isa.specs.declared.fields.Fields.{Fields}
use Rattle.text.specs.declared.form.Slot.{Slot}
use Rattle.text.specs.Forms.{filled, fields_read}
use Rattle.text.specs.Texts.{texts}

option_and_then_none : {X Y : Type 0} (step : X → Option Y) (o : Option X) → ((x : X) → step x ≡ None) → option_and_then step o ≡ None
option_and_then_none step None h = refl
option_and_then_none step (Some x) h = h x

-- fewer or more words than operands
pub fields_read_other : (ss : List Slot) (f : Fields) (ws : List (Bor (List ℕ))) → length ws ≢ length ss → fields_read ss f (texts ws) ≡ None
fields_read_other [] f [] h = absurd (h refl)
fields_read_other [] f (w ∷ ws) h = refl
fields_read_other (s ∷ ss) f [] h = refl
fields_read_other (s ∷ ss) f (w ∷ ws) h = option_and_then_none (λ g. fields_read ss g (texts ws)) (filled s f w.now) (λ g. fields_read_other ss g ws (omega arith))
