-- Accesses in different granules: each is one of three effects, and effects in different granules change places.
use Rattle.std.proofs.Common.{◌≡◌, ℕ, ◌+◌, ◌<◌, Bool, true, false, ◌&&◌, slice_index, Some, None, Ok, Option, sym, refl, ap, ◌∙◌, inl, inr, arith}
use Rattle.std.proofs.Math.Path.{fun_ext}
use Rattle.std.proofs.lemmas.Bool.{both_ways, cases_Bool}
use Rattle.memory.specs.declared.access.Direction.{Direction}
use Rattle.memory.specs.declared.access.Direction.TheVariants.{Read, Write}
use Rattle.memory.specs.declared.fault.Fault.{Fault}
use Rattle.memory.specs.Access.{aligned, granule, within}
use Rattle.memory.specs.Bytes.{number_at, stored}
use Rattle.memory.specs.Calls.{left_by, peek_answer, peek_by, read_after, read_answer, read_by, refused_or, with_bytes, word_taken, write_after, write_answer, written_by}
use Rattle.memory.specs.Meaning.{Meaning, fault}
use Rattle.memory.specs.Theorems.{Access, GranulesApart, after, answer, gave, granule_of, peeking, reading, saw, writing, wrote}
use Rattle.memory.proofs.Accesses.{within_from, within_granule}
use Rattle.memory.proofs.Faulting.{fault_passed}
use Rattle.memory.proofs.Numbers.{number_at_same, stored_outside}

data Effect : Type 0 where
  nothing : Effect
  takes : Effect
  stores : ℕ → ℕ → ℕ → Effect

abbrev apply : Effect → Meaning → Meaning
apply nothing m = m
apply takes m = word_taken m
apply (stores x w v) m = with_bytes m (stored m.byte x w v)

abbrev read_effect : Option Fault → Bool → Effect
read_effect (Some f) b = nothing
read_effect None true = takes
read_effect None false = nothing

abbrev write_effect : Option Fault → ℕ → ℕ → ℕ → Effect
write_effect (Some f) x w v = nothing
write_effect None x w v = stores x w v

abbrev effect : Meaning → Access → Effect
effect m (reading x w) = read_effect (fault m Read x w) (m.window (granule x))
effect m (writing x w v) = write_effect (fault m Write x w) x w v
effect m (peeking x w) = nothing

left_by_effect : (o : Option Fault) (b : Bool) (m : Meaning) → left_by o b m ≡ apply (read_effect o b) m
left_by_effect (Some f) b m = refl
left_by_effect None true m = refl
left_by_effect None false m = refl

written_by_effect : (o : Option Fault) (m : Meaning) (x w v : ℕ) → written_by o m x w v ≡ apply (write_effect o x w v) m
written_by_effect (Some f) m x w v = refl
written_by_effect None m x w v = refl

after_effect : (m : Meaning) (p : Access) → after m p ≡ apply (effect m p) m
unfolding read_after write_after
after_effect m (reading x w) = left_by_effect (fault m Read x w) (m.window (granule x)) m
after_effect m (writing x w v) = written_by_effect (fault m Write x w) m x w v
after_effect m (peeking x w) = refl

-- what is known of an effect: a word is taken at a window, and a store is aligned
abbrev Known : Meaning → ℕ → Effect → Type 0
Known m g nothing = Unit {0}
Known m g takes = m.window g ≡ true
Known m g (stores x w v) = (aligned x w ≡ true) × (granule x ≡ g)

known_read : (o : Option Fault) (b : Bool) (m : Meaning) (g : ℕ) → m.window g ≡ b → Known m g (read_effect o b)
known_read (Some f) b m g e = tt
known_read None true m g e = e
known_read None false m g e = tt

known_write : (o : Option Fault) (m : Meaning) (x w v : ℕ) → (o ≡ None → aligned x w ≡ true) → Known m (granule x) (write_effect o x w v)
known_write (Some f) m x w v h = tt
known_write None m x w v h = (h refl, refl)

known : (m : Meaning) (p : Access) → Known m (granule_of p) (effect m p)
known m (reading x w) = known_read (fault m Read x w) (m.window (granule x)) m (granule x) refl
known m (writing x w v) = known_write (fault m Write x w) m x w v (λ e. (fault_passed m x w Write e).shape)
known m (peeking x w) = tt

-- the bytes of another granule keep their values under a store
other_bytes : (f : ℕ → ℕ) (x w v y u : ℕ) → aligned x w ≡ true → aligned y u ≡ true → (granule x ≡ granule y → ⊥)
    → number_at (stored f x w v) y u ≡ number_at f y u
other_bytes f x w v y u a b ne = number_at_same (stored f x w v) f y y u each
  where
    each : (k : ℕ) → k < u → stored f x w v (y + k) ≡ f (y + k)
    each k l =
        elim (cases_Bool (within x w (y + k))) [
          | inl i ↦ absurd (ne (sym (within_granule x w (y + k) a i) ∙ within_granule y u (y + k) b (within_from y u (y + k) (omega arith) (omega arith))))
          | inr o ↦ stored_outside f x w v (y + k) o
        ]

-- of two granules that are not both windows, where the one is, the other is none
other_is_none : (m : Meaning) (g h : ℕ) → (m.window g && m.window h) ≡ false → m.window g ≡ true → m.window h ≡ false
other_is_none m g h one here = grind arith

windows_same : (m : Meaning) (e : Effect) → (apply e m).window ≡ m.window
windows_same m nothing = refl
windows_same m takes = refl
windows_same m (stores x w v) = refl

fault_taken : (m : Meaning) (d : Direction) (y u : ℕ) → m.window (granule y) ≡ false → fault (word_taken m) d y u ≡ fault m d y u
unfolding fault
fault_taken m d y u h = rw h

fault_same : (m : Meaning) (g : ℕ) (e : Effect) → Known m g e → (d : Direction) (y u : ℕ)
    → (m.window g && m.window (granule y)) ≡ false → fault (apply e m) d y u ≡ fault m d y u
unfolding fault
fault_same m g nothing k d y u one = refl
fault_same m g takes k d y u one = fault_taken m d y u (other_is_none m g (granule y) one k)
fault_same m g (stores x w v) k d y u one = refl

effect_same : (m : Meaning) (g : ℕ) (e : Effect) → Known m g e → (q : Access) → (m.window g && m.window (granule_of q)) ≡ false
    → effect (apply e m) q ≡ effect m q
effect_same m g e k (reading y u) one =
    ap (λ o. read_effect o ((apply e m).window (granule y))) (fault_same m g e k Read y u one)
    ∙ ap (λ (f : ℕ → Bool). read_effect (fault m Read y u) (f (granule y))) (windows_same m e)
effect_same m g e k (writing y u v) one = ap (λ o. write_effect o y u v) (fault_same m g e k Write y u one)
effect_same m g e k (peeking y u) one = refl

words_same : (m : Meaning) (g : ℕ) (e : Effect) → Known m g e → (h : ℕ) → (m.window g && m.window h) ≡ false
    → m.window h ≡ true → (apply e m).waiting ≡ m.waiting
words_same m g nothing k h one here = refl
words_same m g takes k h one here = absurd (both_ways (m.window h) (other_is_none m g h one k) here)
words_same m g (stores x w v) k h one here = refl

number_same : (m : Meaning) (g : ℕ) (e : Effect) → Known m g e → (y u : ℕ) → (g ≡ granule y → ⊥) → aligned y u ≡ true
    → number_at (apply e m).byte y u ≡ number_at m.byte y u
number_same m g nothing k y u ne a = refl
number_same m g takes k y u ne a = refl
number_same m g (stores x w v) k y u ne a = other_bytes m.byte x w v y u k.0 a (λ s. ne (sym k.1 ∙ s))

read_same : (o : Option Fault) (b : Bool) (m n : Meaning) (y u : ℕ)
    → (b ≡ true → n.waiting ≡ m.waiting) → (o ≡ None → number_at n.byte y u ≡ number_at m.byte y u)
    → (read_by o b n y u ≡ read_by o b m y u) × (peek_by o b n y u ≡ peek_by o b m y u)
read_same (Some f) b m n y u words number = (refl, refl)
read_same None true m n y u words number = (ap (λ l. Ok (slice_index l 0)) (words refl), refl)
read_same None false m n y u words number = (ap Ok (number refl), ap Some (number refl))

module _ (m : Meaning) (g : ℕ) (e : Effect) (k : Known m g e) (y u : ℕ) (ne : g ≡ granule y → ⊥) (one : (m.window g && m.window (granule y)) ≡ false) where
  reads_alike : (read_by (fault m Read y u) (m.window (granule y)) (apply e m) y u ≡ read_answer m y u)
      × (peek_by (fault m Read y u) (m.window (granule y)) (apply e m) y u ≡ peek_answer m y u)
  unfolding read_answer peek_answer
  reads_alike =
      read_same (fault m Read y u) (m.window (granule y)) m (apply e m) y u (words_same m g e k (granule y) one)
      (λ o. number_same m g e k y u ne (fault_passed m y u Read o).shape)

  read_alike : read_answer (apply e m) y u ≡ read_answer m y u
  unfolding read_answer
  read_alike =
      ap (λ o. read_by o ((apply e m).window (granule y)) (apply e m) y u) (fault_same m g e k Read y u one)
      ∙ ap (λ (f : ℕ → Bool). read_by (fault m Read y u) (f (granule y)) (apply e m) y u) (windows_same m e) ∙ reads_alike.0

  peek_alike : peek_answer (apply e m) y u ≡ peek_answer m y u
  unfolding peek_answer
  peek_alike =
      ap (λ o. peek_by o ((apply e m).window (granule y)) (apply e m) y u) (fault_same m g e k Read y u one)
      ∙ ap (λ (f : ℕ → Bool). peek_by (fault m Read y u) (f (granule y)) (apply e m) y u) (windows_same m e) ∙ reads_alike.1

  write_alike : write_answer (apply e m) y u ≡ write_answer m y u
  unfolding write_answer
  write_alike = ap refused_or (fault_same m g e k Write y u one)

answer_same : (m : Meaning) (g : ℕ) (e : Effect) → Known m g e → (q : Access) → (g ≡ granule_of q → ⊥)
    → (m.window g && m.window (granule_of q)) ≡ false → answer (apply e m) q ≡ answer m q
answer_same m g e k (reading y u) ne one = ap gave (read_alike m g e k y u ne one)
answer_same m g e k (writing y u v) ne one = ap wrote (write_alike m g e k y u ne one)
answer_same m g e k (peeking y u) ne one = ap saw (peek_alike m g e k y u ne one)

stores_commute : (f : ℕ → ℕ) (x w v y u t a : ℕ) → (within x w a ≡ true → within y u a ≡ true → ⊥)
    → stored (stored f x w v) y u t a ≡ stored (stored f y u t) x w v a
stores_commute f x w v y u t a ne = go (within x w a) (within y u a) refl refl
  where
    go : (i j : Bool) → within x w a ≡ i → within y u a ≡ j → stored (stored f x w v) y u t a ≡ stored (stored f y u t) x w v a
    go true true p q = absurd (ne p q)
    go true false p q = rw (p, q)
    go false true p q = rw (p, q)
    go false false p q = rw (p, q)

-- effects in different granules change places
commute : (m : Meaning) (g h : ℕ) (d e : Effect) → Known m g d → Known m h e → (g ≡ h → ⊥) → apply e (apply d m) ≡ apply d (apply e m)
commute m g h nothing e k l ne = refl
commute m g h takes nothing k l ne = refl
commute m g h takes takes k l ne = refl
commute m g h takes (stores y u t) k l ne = refl
commute m g h (stores x w v) nothing k l ne = refl
commute m g h (stores x w v) takes k l ne = refl
commute m g h (stores x w v) (stores y u t) k l ne =
    ap (with_bytes m) (fun_ext (λ a. stores_commute m.byte x w v y u t a (λ i j.
    ne (sym k.1 ∙ sym (within_granule x w a k.0 i) ∙ within_granule y u a l.0 j ∙ l.1))))

swapped : (a b : Bool) → (a && b) ≡ false → (b && a) ≡ false
swapped a b h = grind arith

one_after_another : (m : Meaning) (p q : Access) → (m.window (granule_of p) && m.window (granule_of q)) ≡ false
    → after (after m p) q ≡ apply (effect m q) (apply (effect m p) m)
one_after_another m p q one =
    ap (λ n. after n q) (after_effect m p)
    ∙ after_effect (apply (effect m p) m) q
    ∙ ap (λ e. apply e (apply (effect m p) m)) (effect_same m (granule_of p) (effect m p) (known m p) q one)

pub granules_apart : GranulesApart
granules_apart = record {
  answers = λ m p q a. ap (λ n. answer n q) (after_effect m p) ∙ answer_same m (granule_of p) (effect m p) (known m p) q a.0 a.1;
  order = λ m p q a.
      one_after_another m p q a.1
      ∙ commute m (granule_of p) (granule_of q) (effect m p) (effect m q) (known m p) (known m q) a.0
      ∙ sym (one_after_another m q p (swapped (m.window (granule_of p)) (m.window (granule_of q)) a.1));
}
