-- What reading fields answers, by the first rule that they break.
use Rattle.std.proofs.Common.{◌≡◌, ℕ, ◌<◌, Bool, eqb, ltb, Some, Ok, Err, ◌∙◌, inl, inr, arith}
use Rattle.std.proofs.lemmas.Bool.{cases_Bool, cond-true, cond-false, eqb-true, ne_eqb}
use Rattle.isa.specs.declared.kind.Kind.{Kind}
use Rattle.isa.specs.declared.fields.Fields.{Fields}
use Rattle.isa.specs.Kinds.{kind_at}
use Rattle.isa.specs.Table.{row_of}
use Rattle.isa.specs.Rules.{broken, refusal}
use Rattle.isa.specs.Words.{answer}

pub answer_err : (n m : ℕ) (f : Fields) → n ≡ m → 0 < n → Err m ≡ answer n f
answer_err n m f e h = rw (ne_eqb n 0 (λ z. omega arith), e)

pub answer_ok : (n : ℕ) (f g : Fields) → n ≡ 0 → g ≡ f → Ok g ≡ answer n f
answer_ok n f g e h = rw (e, h)

-- an answer with fields is the fields themselves, and no rule is broken
pub ok_answer : (n : ℕ) (f g : Fields) → Ok g ≡ answer n f → (n ≡ 0) × (g ≡ f)
ok_answer n f g e =
    elim (cases_Bool (eqb n 0)) [
      | inl t ↦ let p = e ∙ cond-true (eqb n 0) (Ok f) (Err n) t in (eqb-true n 0 t, cc)
      | inr t ↦ let p = e ∙ cond-false (eqb n 0) (Ok f) (Err n) t in absurd (grind arith)
    ]

-- the first broken rule of a known kind
pub refusal_at : (k : Kind) (stray : Bool) (f : Fields) → kind_at f.kind ≡ Some k → refusal stray f ≡ broken stray (row_of k (ltb 31 f.d)) f
refusal_at k stray f e = rw e
