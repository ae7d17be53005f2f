-- An instruction field by field: it fits the layout, is known by its fields, and is made of any fields that break no rule.
use Rattle.std.proofs.Common.{◌≡◌, ℕ, ◌<◌, false, ltb, Some, None, Option, sym, refl, ap, ◌∙◌, arith}
use mathlib.Core.HLevel.{is_prop→PathP, ×₃_prop}
use native.Mathlib.Nat.{ℕ_set}
use native.Mathlib.Bridge.{le_prop}
use Rattle.std.proofs.lemmas.Bool.{le-ltb}
use Rattle.isa.specs.declared.kind.Kind.{Kind}
use Rattle.isa.specs.declared.kind.Width.{Width}
use Rattle.isa.specs.declared.fields.Fields.{Fields}
use Rattle.isa.specs.declared.instruction.Instruction.{Instruction}
use Rattle.isa.specs.Kinds.{kind_number, width_number, kind_at, width_at}
use Rattle.isa.specs.Layout.{Fit}
use Rattle.isa.specs.Rules.{plain, refusal, broken_at, legal}
use Rattle.isa.specs.Table.{row_of}
use Rattle.isa.specs.Theorems.{OfInstruction}
use Rattle.isa.specs.Words.{layout, slots, fields_of}
use Rattle.isa.proofs.Answering.{refusal_at}
use Rattle.isa.proofs.Breaks.{Within, within_unbroken, small_within, at_most, narrow, legal_within}
use Rattle.isa.proofs.Numbers.{kind_number_lem, width_number_lem, width_some, kind_below, width_below, same_kind, same_width}

-- an instruction's fields are within the spans of its kind
pub within_of : (i : Instruction) → Within (row_of i.kind (ltb 31 i.d)) (fields_of i)
within_of i =
    let w = within_unbroken (row_of i.kind (ltb 31 i.d)) (plain (kind_number i.kind) (width_number i.width) i.d i.a i.b 0 i.imm) i.lawful in
    record { width = w.width; d = w.d; a = w.a; b = w.b; imm = w.imm; home = le-ltb 1023 i.home (omega (arith, i.placed)) }

-- and fit the layout
pub fit : (i : Instruction) → Fit layout (slots (fields_of i))
fit i =
    let s = small_within (row_of i.kind (ltb 31 i.d)) (fields_of i) (narrow i.kind (ltb 31 i.d)) (within_of i) in
    (kind_below i.kind, (width_below i.width, (s.d, (s.a, (s.b, (s.home, (omega arith, (s.imm, tt))))))))

pub known : (i j : Instruction) → fields_of i ≡ fields_of j → i ≡ j
known i j e =
    let k = same_kind i.kind j.kind (ap (λ (f : Fields). f.kind) e) in
    let w = same_width i.width j.width (ap (λ (f : Fields). f.width) e) in
    λ t. record {
      kind = k t;
      width = w t;
      d = (e t).d;
      a = (e t).a;
      b = (e t).b;
      home = (e t).home;
      imm = (e t).imm;
      lawful = is_prop→PathP (λ t. legal (k t) (w t) (e t).d (e t).a (e t).b (e t).imm ≡ 0) (λ t. ℕ_set _ 0) i.lawful j.lawful t;
      placed = is_prop→PathP (λ t. (e t).home < 1024) (λ t. le_prop) i.placed j.placed t;
      small = is_prop→PathP (λ t. ((e t).d < 64) × ((e t).a < 64) × ((e t).b < 64)) (λ t. ×₃_prop le_prop le_prop le_prop) i.small j.small t;
    }

-- fields that break no rule are those of an instruction
pub instruction_of : (f : Fields) → refusal false f ≡ 0 → OfInstruction f
instruction_of f n = go (kind_at f.kind) refl
  where
    made : (k : Kind) (w : Width) → kind_at f.kind ≡ Some k → width_at f.width ≡ Some w → Within (row_of k (ltb 31 f.d)) f → OfInstruction f
    made k w e u t =
        let p = kind_number_lem f.kind k e in
        let q = width_number_lem f.width w u in
        let s = small_within (row_of k (ltb 31 f.d)) f (narrow k (ltb 31 f.d)) t in (
          record {
            kind = k;
            width = w;
            d = f.d;
            a = f.a;
            b = f.b;
            home = f.home;
            imm = f.imm;
            lawful = legal_within k w f t q;
            placed = s.home;
            small = (s.d, s.a, s.b);
          },
          rw (p, q),
        )

    go : (o : Option Kind) → kind_at f.kind ≡ o → OfInstruction f
    go None e = absurd (let z : ◌≡◌ {A = ℕ} 11 0 = sym (ap (λ (o : Option Kind). broken_at o false f) e) ∙ n in omega arith)
    go (Some k) e =
        let t = within_unbroken (row_of k (ltb 31 f.d)) f (sym (refusal_at k false f e) ∙ n) in
        let w = width_some f.width (omega (arith, at_most (row_of k (ltb 31 f.d)).width f.width t.width, (narrow k (ltb 31 f.d)).width)) in
        made k w.0 e w.1 t
