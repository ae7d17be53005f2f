-- Each instruction has one word, and each accepted word one instruction: the layout's round trip, with no field named.
use Rattle.std.proofs.Common.{◌≡◌, ℕ, ◌^◌, ◌<◌, Bool, true, false, not, eqb, ltb, Some, None, Ok, Err, Option, Result, sym, refl, ap, ◌∙◌, mod-eq_of_lt, arith}
use Rattle.std.proofs.lemmas.Bool.{eqb-true, not-false}
use Rattle.isa.specs.declared.kind.Kind.{Kind}
use Rattle.isa.specs.declared.fields.Fields.{Fields}
use Rattle.isa.specs.declared.instruction.Instruction.{Instruction}
use Rattle.isa.specs.declared.refusal.WordRefusal.{WordRefusal}
use Rattle.isa.specs.Kinds.{kind_at}
use Rattle.isa.specs.Layout.{joined, parted}
use Rattle.isa.specs.Rules.{refusal}
use Rattle.isa.specs.Table.{row_of}
use Rattle.isa.specs.Theorems.{OneToOne, ComposesExactly, OfInstruction}
use Rattle.isa.specs.Words.{layout, slots, fields_from, zeros_from, fields_in, zeros_in, fields_of, packed, answered, read_as, unpacked}
use Rattle.isa.proofs.Answering.{ok_answer, answer_ok, refusal_at}
use Rattle.isa.proofs.Breaks.{unbroken, broken_positive}
use Rattle.isa.proofs.Joins.{parted_joined, joined_parted}
use Rattle.isa.proofs.Numbers.{kind_at_lem}
use Rattle.isa.proofs.Records.{within_of, fit, known, instruction_of}

slots_packed : (i : Instruction) → parted layout (packed i) ≡ slots (fields_of i)
slots_packed i = parted_joined layout (slots (fields_of i)) (fit i)

passes : (i : Instruction) → refusal false (fields_of i) ≡ 0
passes i =
    refusal_at i.kind false (fields_of i) (kind_at_lem i.kind)
    ∙ unbroken (row_of i.kind (ltb 31 i.d)) (fields_of i) (within_of i)

reads : (z : ℕ) (f g : Fields) → z ≡ 0 → f ≡ g → refusal false g ≡ 0 → read_as (not (eqb z 0)) f ≡ Ok g
reads z f g p q r = rw (p, q, r)

unpacks : (i : Instruction) → unpacked (packed i) ≡ Ok (fields_of i)
unpacks i =
    reads (zeros_in (packed i)) (fields_in (packed i)) (fields_of i) (ap zeros_from (slots_packed i))
    (ap fields_from (slots_packed i)) (passes i)

-- a set zero bit is always refused
stray_refused : (f : Fields) → 0 < refusal true f
stray_refused f = go (kind_at f.kind) refl
  where
    go : (o : Option Kind) → kind_at f.kind ≡ o → 0 < refusal true f
    go (Some k) e = rw (refusal_at k true f e) (broken_positive (row_of k (ltb 31 f.d)) f)
    go None e = rw e (omega arith)

-- so an accepted word has none
unstrayed : (stray : Bool) (f : Fields) → refusal stray f ≡ 0 → stray ≡ false
unstrayed true f e = absurd (omega (arith, stray_refused f, e))
unstrayed false f e = refl

-- what an accepted word says: its zero bits are 0, and its fields break no rule
accepted : (w : ℕ) (f : Fields) → unpacked w ≡ Ok f → (zeros_in w ≡ 0) × (f ≡ fields_in w) × (refusal false (fields_in w) ≡ 0)
accepted w f e =
    let a = ok_answer (refusal (not (eqb (zeros_in w) 0)) (fields_in w)) (fields_in w) f (sym e) in
    let s = unstrayed (not (eqb (zeros_in w) 0)) (fields_in w) a.0 in
    (eqb-true (zeros_in w) 0 (not-false _ s), a.1, ap (λ (b : Bool). refusal b (fields_in w)) (sym s) ∙ a.0)

slots_fields : (w : ℕ) → zeros_in w ≡ 0 → slots (fields_in w) ≡ parted layout w
slots_fields w z = rw z

packs : (w : ℕ) → w < 2 ^ 64 → (i : Instruction) → unpacked w ≡ Ok (fields_of i) → packed i ≡ w
packs w h i e =
    let a = accepted w (fields_of i) e in
    ap (λ (f : Fields). joined layout (slots f)) a.1 ∙ ap (joined layout) (slots_fields w a.0) ∙ joined_parted layout w
    ∙ mod-eq_of_lt h

whole : (w : ℕ) (f : Fields) → unpacked w ≡ Ok f → OfInstruction f
whole w f e =
    let a = accepted w f e in
    let i = instruction_of (fields_in w) a.2 in
    (i.0, i.1 ∙ sym a.1)

same_ok : (f g : Fields) → ◌≡◌ {A = Result Fields ℕ} (Ok f) (Ok g) → f ≡ g
same_ok f g e = cc

-- an answer that has an instruction's fields is that instruction
answers : (r : Result Instruction WordRefusal) (i : Instruction) → answered r ≡ Ok (fields_of i) → r ≡ Ok i
answers (Ok j) i e = ap Ok (known j i (same_ok (fields_of j) (fields_of i) e))
answers (Err e) i p = absurd (grind arith)

pub one_to_one : OneToOne
one_to_one =
    record {
      unpacks = λ i r e. answers r i (e ∙ unpacks i);
      packs = packs;
      one_instruction = λ i j e. known i j (same_ok (fields_of i) (fields_of j) (sym (unpacks i) ∙ ap unpacked e ∙ unpacks j));
      one_word = λ v w h l f p q.
          let i = whole v f p in
          sym (packs v h i.0 (p ∙ ap Ok (sym i.1))) ∙ packs w l i.0 (q ∙ ap Ok (sym i.1));
      whole = whole;
      known = known;
    }

pub composes_exactly : ComposesExactly
composes_exactly =
    record {
      accepts = λ i r e. answers r i (e ∙ sym (answer_ok (refusal false (fields_of i)) (fields_of i) (fields_of i) (passes i) refl));
      only = λ f g e. let a = ok_answer (refusal false f) f g (sym e) in (a.1, instruction_of f a.0);
    }
