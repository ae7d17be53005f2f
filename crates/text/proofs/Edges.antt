-- The front and the end of a text, and how far a front without signs goes.
use Rattle.std.proofs.Common.{◌≡◌, ℕ, ◌^◌, ◌<◌, ◌≤◌, Bool, false, List, [], ◌∷◌, ◌++◌, reverse, length, take, get_or, eqb, ltb, Some, None, Option, ◌≢◌, refl, ap, sym, ◌∙◌, inl, inr, arith, lit<, Bor, eq-eqb}
use mathlib.Core.List.{reverse-append, reverse-reverse}
use Rattle.std.specs.Char.{char_set_contains}
use Rattle.std.specs.Option.{IsSomeAnd, MatchOption, option_and_then, option_copied, option_map, unwrap_or}
use Rattle.std.specs.Result.{result_ok}
use Rattle.std.specs.Str.{NoCharPasses}
use Rattle.std.specs.Str.Pattern.{FindsBy, FindsCharPrefix, FindsCharSuffix, MatchBeginsAt, StripsPrefix, StripsSuffix}
use Rattle.std.proofs.lemmas.Bool.{cases_Bool, eqb-true}
use Rattle.std.proofs.lemmas.Bool.Decides.{nat_tests}
use Rattle.std.proofs.lemmas.List.{get_or-take, length-take-le}
use Rattle.std.proofs.lemmas.List.Sums.{position_or_len_is}
use Rattle.std.proofs.lemmas.Str.{NoCharPasses-byte}
use Rattle.std.proofs.lemmas.Str.Pattern.{strip_prefix_char, strip_suffix_char}
use Rattle.text.specs.Operands.{is_sign, offset_in, plain_front, width_of}
use Rattle.text.specs.Numerals.{capped}
use Rattle.text.specs.Texts.{strip_prefix, strip_suffix}

strip_prefix-append : (front rest : List ℕ) → strip_prefix (front ++ rest) front ≡ Some rest
strip_prefix-append [] rest = refl
strip_prefix-append (c ∷ cs) rest = rw (eq-eqb c c refl) (strip_prefix-append cs rest)

strip_prefix_none : (bs front : List ℕ) → ((rest : List ℕ) → bs ≢ front ++ rest)
    → strip_prefix bs front ≡ None
strip_prefix_none bs [] h = absurd (h bs refl)
strip_prefix_none [] (c ∷ cs) h = refl
strip_prefix_none (b ∷ bs) (c ∷ cs) h =
    elim (cases_Bool (eqb b c)) [
      | inl e ↦ rw e (strip_prefix_none bs cs (λ rest p. h rest (cc (eqb-true b c e, p))))
      | inr e ↦ rw e
    ]

strip_suffix-append : (front back : List ℕ) → strip_suffix (front ++ back) back ≡ Some front
strip_suffix-append front back =
    ap (λ l. option_map reverse (strip_prefix l (reverse back))) (reverse-append front back)
    ∙ ap (option_map reverse) (strip_prefix-append (reverse back) (reverse front))
    ∙ ap Some (reverse-reverse front)

strip_suffix_none : (bs back : List ℕ) → ((front : List ℕ) → bs ≢ front ++ back)
    → strip_suffix bs back ≡ None
strip_suffix_none bs back h =
    ap (option_map reverse) (strip_prefix_none (reverse bs) (reverse back)
    (λ rest p. h (reverse rest)
    (sym (reverse-reverse bs)
    ∙ ap reverse p
    ∙ reverse-append (reverse back) rest
    ∙ ap (λ l. reverse rest ++ l) (reverse-reverse back))))

-- what `strip_prefix` and `strip_suffix` give at an ASCII character
pub strips_front : (c : ℕ) (bs : List ℕ) (r : Option (Bor (List ℕ)))
    → MatchOption r (FindsCharPrefix c bs None) (λ x. StripsPrefix (FindsCharPrefix c) bs x.now)
    → c < 128 → option_copied r ≡ strip_prefix bs (c ∷ [])
strips_front c bs None h low = sym (strip_prefix_none bs (c ∷ []) (strip_prefix_char c bs None h low))
strips_front c bs (Some x) h low =
    sym (ap (λ l. strip_prefix l (c ∷ [])) (strip_prefix_char c bs (Some x) h low)
    ∙ strip_prefix-append (c ∷ []) x.now)

pub strips_end : (c : ℕ) (bs : List ℕ) (r : Option (Bor (List ℕ)))
    → MatchOption r (FindsCharSuffix c bs None) (λ x. StripsSuffix (FindsCharSuffix c) bs x.now)
    → c < 128 → option_copied r ≡ strip_suffix bs (c ∷ [])
strips_end c bs None h low = sym (strip_suffix_none bs (c ∷ []) (strip_suffix_char c bs None h low))
strips_end c bs (Some x) h low =
    sym (ap (λ l. strip_suffix l (c ∷ [])) (strip_suffix_char c bs (Some x) h low)
    ∙ strip_suffix-append x.now (c ∷ []))

pub strips_colon : (bs : List ℕ) (r : Option (Bor (List ℕ)))
    → MatchOption r (FindsCharSuffix 58 bs None) (λ x. StripsSuffix (FindsCharSuffix 58) bs x.now)
    → option_copied r ≡ strip_suffix bs (58 ∷ [])
strips_colon bs r h = strips_end 58 bs r h (lit< tt)

-- a byte of a text without signs is none
no_sign : (bs : List ℕ) (k : ℕ) → NoCharPasses is_sign bs → k < length bs → is_sign (get_or bs k 0) ≡ false
no_sign bs k none within =
    elim (cases_Bool (ltb (get_or bs k 0) 128)) [
      | inl t ↦ NoCharPasses-byte is_sign bs k none within (grind (arith, nat_tests))
      | inr f ↦ grind (arith, nat_tests)
    ]

-- what a search for one of the two signs says
abbrev FindsSign : List ℕ → Option (ℕ × ℕ) → Type 0
FindsSign bs o = (k : ℕ → Bool) → ((c : ℕ) → char_set_contains (43 ∷ 45 ∷ []) c ≡ k c) → FindsBy k bs o

sign : (bs : List ℕ) (o : Option (ℕ × ℕ)) → FindsSign bs o → FindsBy is_sign bs o
sign bs o h = h is_sign (λ c. grind (arith, nat_tests))

-- where it stops
pub first_sign : (bs : List ℕ) (r : Option ℕ) → MatchOption r (FindsSign bs None) (MatchBeginsAt FindsSign bs)
    → unwrap_or r (length bs) ≡ plain_front bs
first_sign bs None h =
    sym (position_or_len_is is_sign bs (length bs) 0 (omega arith)
    (λ k within. no_sign bs k (sign bs None h) within)
    (λ past. absurd (omega arith)))
first_sign bs (Some i) h =
    let found = sign bs (Some (i, h.0)) h.1 in
    let inside : i ≤ length bs = h.3.0 in
    let shorter : length (take i bs) ≡ i = length-take-le i bs inside in
    sym (position_or_len_is is_sign bs i 0 inside
    (λ k below. sym (ap is_sign (get_or-take i bs k 0 below)) ∙ no_sign (take i bs) k found.0 (omega arith))
    (λ _. let low : found.1.0 < 128 = grind (arith, nat_tests, found.1.1) in
    ap is_sign (found.1.2.byte low) ∙ found.1.1))

-- what begins with no sign is no offset
pub offset_none : (bs : List ℕ) → 0 < length bs → ((rest : List ℕ) → bs ≢ 43 ∷ rest)
    → ((rest : List ℕ) → bs ≢ 45 ∷ rest) → offset_in bs ≡ None
offset_none [] some plus minus = absurd (omega arith)
offset_none (c ∷ ds) some plus minus =
    elim (cases_Bool (eqb c 43)) [
      | inl e ↦ absurd (plus ds (ap (λ x. x ∷ ds) (eqb-true c 43 e)))
      | inr e ↦ elim (cases_Bool (eqb c 45)) [
        | inl f ↦ absurd (minus ds (ap (λ x. x ∷ ds) (eqb-true c 45 f)))
        | inr f ↦ rw (e, f)
      ]
    ]

-- what `and_then` and `map` give, where the closure's answers are those of a function
pub and_then_is : {X Y : Type 0} (f : X → Option Y) (o : Option X) (r : Option Y)
    → MatchOption o (r ≡ None) (λ x. r ≡ f x) → r ≡ option_and_then f o
and_then_is f None r h = h
and_then_is f (Some x) r h = h

pub map_is : {Y Z : Type 0} (f : List ℕ → Z) (view : Y → Z) (o : Option (Bor (List ℕ))) (r : Option Y)
    → MatchOption o (r ≡ None) (λ x. IsSomeAnd r (λ y. view y ≡ f x.now))
    → option_map view r ≡ option_map f (option_copied o)
map_is f view None r h = ap (option_map view) h
map_is f view (Some x) None h = absurd h
map_is f view (Some x) (Some y) h = ap Some h

-- a number too large for 64 bits is no width
pub width_of_capped : (read : Option ℕ)
    → option_and_then width_of (result_ok (capped read)) ≡ option_and_then width_of read
width_of_capped None = refl
width_of_capped (Some n) =
    elim (cases_Bool (ltb n (2 ^ 64))) [ inl t ↦ rw t | inr f ↦ rw f (grind (arith, nat_tests)) ]
