-- The numbers of the kinds and the widths lead there and back, and a test of all kinds is computed.
use Rattle.std.proofs.Common.{◌≡◌, inl, inr, Bor, ℕ, zero, suc, ◌+◌, ◌<◌, ◌≤◌, Bool, true, ◌&&◌, eqb, ltb, List, [], ◌∷◌, length, Some, None, Ok, Option, sym, refl, ap, ◌∙◌, arith}
use Rattle.std.proofs.lemmas.Bool.{eqb-true, ltb-true, and_parts}
use Rattle.std.proofs.lemmas.Option.{none-some, slice_get_cases, slice_get_past, slice_get_read}
use Rattle.std.specs.List.{list_all, slice_get}
use Rattle.std.specs.Option.{ok_or, option_copied}
use Rattle.std.specs.Result.{result_ok}
use Rattle.std.specs.Slice.{IsItemAt}
use Rattle.isa.specs.declared.kind.Kind.{Kind}
use Rattle.isa.specs.declared.kind.Kind.TheVariants.{Halt, Const, Add, Sub, And, Or, Xor, Shl, Shr, Below, Load, Store, Beq, Bne, Jump, Early, Check, Take, Reload, Back}
use Rattle.isa.specs.declared.kind.Width.{Width}
use Rattle.isa.specs.declared.kind.Width.TheVariants.{One, Two, Four}
use Rattle.isa.specs.declared.refusal.WordRefusal.TheVariants as refusals
use Rattle.isa.specs.Kinds.{kinds, widths, kind_at, width_at, kind_number, kind_read, width_number, width_read}

pub kind_at_lem : (k : Kind) → kind_at (kind_number k) ≡ Some k
kind_at_lem Halt = refl
kind_at_lem Const = refl
kind_at_lem Add = refl
kind_at_lem Sub = refl
kind_at_lem And = refl
kind_at_lem Or = refl
kind_at_lem Xor = refl
kind_at_lem Shl = refl
kind_at_lem Shr = refl
kind_at_lem Below = refl
kind_at_lem Load = refl
kind_at_lem Store = refl
kind_at_lem Beq = refl
kind_at_lem Bne = refl
kind_at_lem Jump = refl
kind_at_lem Early = refl
kind_at_lem Check = refl
kind_at_lem Take = refl
kind_at_lem Reload = refl
kind_at_lem Back = refl

pub width_at_lem : (w : Width) → width_at (width_number w) ≡ Some w
width_at_lem One = refl
width_at_lem Two = refl
width_at_lem Four = refl

-- the entries of the list have the numbers i, i + 1, and so on
abbrev counts : {A : Type 0} → (A → ℕ) → ℕ → List A → Bool
counts f i [] = true
counts f i (x ∷ xs) = eqb (f x) i && counts f (suc i) xs

entry_number : {A : Type 0} (f : A → ℕ) (xs : List A) (i n : ℕ) (k : A) → counts f i xs ≡ true → slice_get xs n ≡ Some k → f k ≡ i + n
entry_number f [] i n k c e = absurd (none-some k e)
entry_number f (x ∷ xs) i zero k c e =
    let h = eqb-true (f x) i (and_parts (eqb (f x) i) (counts f (suc i) xs) c).0 in
    let g : f k ≡ f x = cc in
    omega arith
entry_number f (x ∷ xs) i (suc n) k c e =
    let h = entry_number f xs (suc i) n k (and_parts (eqb (f x) i) (counts f (suc i) xs) c).1 e in
    omega arith

past : {A : Type 0} (xs : List A) (n : ℕ) → slice_get xs n ≡ None → length xs ≤ n
past xs n e = elim (slice_get_cases xs n).1 [ inl h ↦ absurd (none-some h.0 (sym e ∙ h.2)) | inr h ↦ h.0 ]

-- an element that is lent, if there is one, is the entry of the list
pub copied_item : {A : Type 0} (xs : List A) (n : ℕ) (r : Option (Bor A)) → IsItemAt xs n r → option_copied r ≡ slice_get xs n
copied_item xs n None h = sym (slice_get_past xs n h.3)
copied_item xs n (Some x) h = sym (slice_get_read xs (length xs) n x.now refl h.3.0 (h.3.1 x.now))

-- what is answered was there
answered_some : {A E : Type 0} (o : Option A) (e : E) (x : A) → Ok x ≡ ok_or o e → o ≡ Some x
answered_some None e x p = sym (ap result_ok p)
answered_some (Some y) e x p = sym (ap result_ok p)

pub kind_read_ok : (n : ℕ) (k : Kind) → Ok k ≡ kind_read n → kind_at n ≡ Some k
kind_read_ok n k e = answered_some (kind_at n) refusals.Kind k e

pub width_read_ok : (n : ℕ) (w : Width) → Ok w ≡ width_read n → width_at n ≡ Some w
width_read_ok n w e = answered_some (width_at n) refusals.Width w e

pub kind_number_lem : (n : ℕ) (k : Kind) → kind_at n ≡ Some k → kind_number k ≡ n
kind_number_lem n k e = let h = entry_number kind_number kinds 0 n k refl e in omega arith

pub width_number_lem : (n : ℕ) (w : Width) → width_at n ≡ Some w → width_number w ≡ n
width_number_lem n w e = let h = entry_number width_number widths 0 n w refl e in omega arith

pub width_past : (n : ℕ) → width_at n ≡ None → 2 < n
width_past n e = omega (arith, past widths n e)

-- a number up to 2 is a width's
pub width_some : (n : ℕ) → n ≤ 2 → (w : Width) × (width_at n ≡ Some w)
width_some n h = go (width_at n) refl
  where
    go : (o : Option Width) → width_at n ≡ o → (w : Width) × (width_at n ≡ Some w)
    go (Some w) e = (w, e)
    go None e = absurd (omega (arith, width_past n e, h))

pub same_kind : (k l : Kind) → kind_number k ≡ kind_number l → k ≡ l
same_kind k l e = let p : Some k ≡ Some l = sym (kind_at_lem k) ∙ ap kind_at e ∙ kind_at_lem l in cc

pub same_width : (k l : Width) → width_number k ≡ width_number l → k ≡ l
same_width k l e = let p : Some k ≡ Some l = sym (width_at_lem k) ∙ ap width_at e ∙ width_at_lem l in cc

at : {A : Type 0} (p : A → Bool) (xs : List A) → list_all p xs ≡ true → (n : ℕ) (x : A) → slice_get xs n ≡ Some x → p x ≡ true
at p [] t n x e = absurd (none-some x e)
at p (y ∷ ys) t zero x e = let h = (and_parts (p y) (list_all p ys) t).0 in cc
at p (y ∷ ys) t (suc n) x e = at p ys (and_parts (p y) (list_all p ys) t).1 n x e

-- a test that passes at each kind of the list, which is computed, passes at every kind
pub each_kind : (p : Kind → Bool) → list_all p kinds ≡ true → (k : Kind) → p k ≡ true
each_kind p t k = at p kinds t (kind_number k) k (kind_at_lem k)

pub kind_below : (k : Kind) → kind_number k < 32
kind_below k = ltb-true (kind_number k) 32 (each_kind (λ k. ltb (kind_number k) 32) refl k)

pub width_below : (w : Width) → width_number w < 4
width_below One = omega arith
width_below Two = omega arith
width_below Four = omega arith
