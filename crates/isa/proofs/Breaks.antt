-- What the rules and the table say together: fields that fit break no rule, and the others break the first that is answered.
use Rattle.std.proofs.Common.{◌≡◌, ℕ, ◌<◌, ◌≤◌, Bool, true, false, cond, not, ◌&&◌, ◌||◌, ltb, leb, is_some, Some, None, Option, sym, refl, ◌∙◌, arith}
use Rattle.std.proofs.lemmas.Bool.{or_parts, and_parts, leb-true, ltb-false, le-leb, le-ltb, not-true, true≢false}
use Rattle.std.proofs.lemmas.Bool.Decides.{nat_tests}
use Rattle.isa.specs.declared.kind.Kind.{Kind}
use Rattle.isa.specs.declared.kind.Width.{Width}
use Rattle.isa.specs.declared.table.Span.{Span}
use Rattle.isa.specs.declared.table.Row.{Row}
use Rattle.isa.specs.declared.fields.Fields.{Fields}
use Rattle.isa.specs.Kinds.{kind_number, width_number}
use Rattle.isa.specs.Table.{row_of, outside, misses, strays}
use Rattle.isa.specs.Rules.{plain, bad_register, bad_rest, broken, fits, legal}
use Rattle.isa.proofs.Numbers.{each_kind}

-- the largest number that a field may hold
abbrev pub top : Option Span → ℕ
top None = 0
top (Some s) = s.high

-- the ends of a row's spans are within the bits of the fields
pub record Narrow (r : Row) : Type 0 where
  pub width : top r.width ≤ 2
  pub d : top r.d ≤ 63
  pub a : top r.a ≤ 63
  pub b : top r.b ≤ 63
  pub imm : top r.imm ≤ 65535

abbrev is_narrow : Row → Bool
is_narrow r =
    leb (top r.width) 2
    && (leb (top r.d) 63 && (leb (top r.a) 63 && (leb (top r.b) 63 && leb (top r.imm) 65535)))

pub narrow : (k : Kind) (h : Bool) → Narrow (row_of k h)
narrow k h =
    let P : Bool → Type 0 = λ b. is_narrow (row_of k b) ≡ true in
    let t : P h = elim h as P [ true ↦ each_kind (λ k. is_narrow (row_of k true)) refl k | false ↦ each_kind (λ k. is_narrow (row_of k false)) refl k ] in
    let r = row_of k h in
    let w = and_parts (leb (top r.width) 2) _ t in
    let d = and_parts (leb (top r.d) 63) _ w.1 in
    let a = and_parts (leb (top r.a) 63) _ d.1 in
    let b = and_parts (leb (top r.b) 63) _ a.1 in
    record {
      width = leb-true _ _ w.0;
      d = leb-true _ _ d.0;
      a = leb-true _ _ a.0;
      b = leb-true _ _ b.0;
      imm = leb-true _ _ b.1;
    }

-- each field is in its span
pub record Within (r : Row) (f : Fields) : Type 0 where
  pub width : outside r.width f.width ≡ false
  pub d : outside r.d f.d ≡ false
  pub a : outside r.a f.a ≡ false
  pub b : outside r.b f.b ≡ false
  pub imm : outside r.imm f.imm ≡ false
  pub home : ltb 1023 f.home ≡ false

pub within_fits : (r : Row) (f : Fields) → fits r f ≡ true → Within r f
within_fits r f t =
    let w = and_parts (not (outside r.width f.width)) _ t in
    let d = and_parts (not (outside r.d f.d)) _ w.1 in
    let a = and_parts (not (outside r.a f.a)) _ d.1 in
    let b = and_parts (not (outside r.b f.b)) _ a.1 in
    let i = and_parts (not (outside r.imm f.imm)) _ b.1 in
    record {
      width = not-true _ w.0;
      d = not-true _ d.0;
      a = not-true _ a.0;
      b = not-true _ b.0;
      imm = not-true _ i.0;
      home = le-ltb 1023 f.home (leb-true _ _ i.1);
    }

-- a field in its span is at most the span's end
pub at_most : (s : Option Span) (x : ℕ) → outside s x ≡ false → x ≤ top s
at_most None x o = ltb-false 0 x o
at_most (Some s) x o = ltb-false s.high x (or_parts (ltb x s.low) _ o).1

-- fields within their spans break no rule
pub unbroken : (r : Row) (f : Fields) → Within r f → broken false r f ≡ 0
unbroken r f w = rw (w.width, w.d, w.a, w.b, w.imm, w.home) (grind (arith, nat_tests))

pub broken_positive : (r : Row) (f : Fields) → 0 < broken true r f
broken_positive r f = grind (arith, nat_tests)

-- the fields fit their bits
pub record Small (f : Fields) : Type 0 where
  pub d : f.d < 64
  pub a : f.a < 64
  pub b : f.b < 64
  pub home : f.home < 1024
  pub imm : f.imm < 65536

pub small_within : (r : Row) (f : Fields) → Narrow r → Within r f → Small f
small_within r f n w =
    record {
      d = omega (arith, n.d, at_most r.d f.d w.d);
      a = omega (arith, n.a, at_most r.a f.a w.a);
      b = omega (arith, n.b, at_most r.b f.b w.b);
      home = omega (arith, ltb-false 1023 f.home w.home);
      imm = omega (arith, n.imm, at_most r.imm f.imm w.imm);
    }

-- fields within the spans of a kind are those of an instruction
pub legal_within : (k : Kind) (w : Width) (f : Fields) → Within (row_of k (ltb 31 f.d)) f → width_number w ≡ f.width → legal k w f.d f.a f.b f.imm ≡ 0
legal_within k w f t e =
    unbroken (row_of k (ltb 31 f.d)) (plain (kind_number k) (width_number w) f.d f.a f.b 0 f.imm)
    record { width = rw e t.width; d = t.d; a = t.a; b = t.b; imm = t.imm; home = refl }

unbroken_parts : (p q s : Bool) → ◌≡◌ {A = ℕ} (cond p 12 (cond q 13 (cond s 14 0))) 0 → (p ≡ false) × (q ≡ false) × (s ≡ false)
unbroken_parts true q s e = absurd (omega arith)
unbroken_parts false true s e = absurd (omega arith)
unbroken_parts false false true e = absurd (omega arith)
unbroken_parts false false false e = (refl, refl, refl)

neither : (used out : Bool) → (used && out) ≡ false → (not used && out) ≡ false → out ≡ false
neither true out p q = p
neither false out p q = q

-- fields that break no rule are within their spans
pub within_unbroken : (r : Row) (f : Fields) → broken false r f ≡ 0 → Within r f
within_unbroken r f e =
    let u = unbroken_parts (outside r.width f.width) (bad_register r f) (bad_rest r f) e in
    let m = or_parts (misses r.d f.d) _ u.1 in
    let m' = or_parts (misses r.a f.a) _ m.1 in
    let s = or_parts (strays r.d f.d) _ u.2 in
    let s' = or_parts (strays r.a f.a) _ s.1 in
    let s'' = or_parts (strays r.b f.b) _ s'.1 in
    let i = or_parts (outside r.imm f.imm) _ s''.1 in
    record {
      width = u.0;
      d = neither (is_some r.d) _ m.0 s.0;
      a = neither (is_some r.a) _ m'.0 s'.0;
      b = neither (is_some r.b) _ m'.1 s''.0;
      imm = i.0;
      home = i.1;
    }

-- and so they fit
fits_within : (r : Row) (f : Fields) → Within r f → fits r f ≡ true
fits_within r f w = rw (w.width, w.d, w.a, w.b, w.imm) (le-leb f.home 1023 (ltb-false 1023 f.home w.home))

-- a zero bit beside fields that break a rule changes nothing
same_break : (p q s : Bool) → ((p ≡ false) × (q ≡ false) × (s ≡ false) → ⊥) → ◌≡◌ {A = ℕ} (cond p 12 (cond q 13 (cond s 14 0))) (cond p 12 (cond q 13 14))
same_break true q s h = refl
same_break false true s h = refl
same_break false false true h = refl
same_break false false false h = absurd (h (refl, refl, refl))

-- where the fields do not fit or a zero bit is set, a bit more there changes nothing
pub first_broken : (stray : Bool) (r : Row) (f : Fields) → (stray || not (fits r f)) ≡ true → broken stray r f ≡ broken true r f
first_broken true r f t = refl
first_broken false r f t =
    same_break (outside r.width f.width) (bad_register r f) (bad_rest r f)
    (λ u. let e : broken false r f ≡ 0 = rw (u.0, u.1, u.2) refl in true≢false (sym (fits_within r f (within_unbroken r f e)) ∙ not-true _ t))
