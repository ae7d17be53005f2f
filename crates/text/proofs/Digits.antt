-- What the library reads from digits alone.
use Rattle.std.proofs.Common.{◌≡◌, ℕ, ◌≤◌, ◌^◌, true, false, ltb, List, [], ◌∷◌, length, get_or, Ok, Err, Result, MatchResult, ◌≢◌, refl, sym, arith, inl, inr}
use Rattle.std.specs.Char.{is_digit}
use Rattle.std.specs.List.{list_all}
use Rattle.std.specs.Str.Parse.{AllDigits, IsNumeral, ParsesUnsigned, digits_value, without_leading_plus}
use Rattle.std.proofs.lemmas.Bool.{and_parts, cases_Bool, lt-ltb, true≢false}
use Rattle.std.proofs.lemmas.Bool.Decides.{nat_tests}
use Rattle.std.proofs.lemmas.Str.Parse.{without_leading_plus_none}
use Rattle.text.specs.declared.numeral.Misread.{Misread}
use Rattle.text.specs.declared.numeral.Misread.TheVariants.{NoNumber}
use Rattle.text.specs.Numerals.{begins_with_digit, capped, is_numeral, misread_of, numeral_in}

all_digits : (radix : ℕ) (ds : List ℕ) → list_all (λ c. is_digit c radix) ds ≡ true → AllDigits radix ds
all_digits radix [] good = tt
all_digits radix (c ∷ cs) good = grind (arith, nat_tests, all_digits radix cs)

all_digits_back : (radix : ℕ) (ds : List ℕ) → AllDigits radix ds → list_all (λ c. is_digit c radix) ds ≡ true
all_digits_back radix [] good = refl
all_digits_back radix (c ∷ cs) good = rw (all_digits_back radix cs good.1) (grind (arith, nat_tests))

-- a numeral has a digit, and no byte that is none
parts : (radix : ℕ) (ds : List ℕ) → is_numeral radix ds ≡ true → IsNumeral radix ds
parts radix ds good =
    let both = and_parts (ltb 0 (length ds)) (list_all (λ c. is_digit c radix) ds) good in
    (grind (arith, nat_tests), all_digits radix ds both.1)

whole : (radix : ℕ) (ds : List ℕ) → IsNumeral radix ds → is_numeral radix ds ≡ true
whole radix ds n = rw (lt-ltb 0 (length ds) n.0) (all_digits_back radix ds n.1)

-- what begins with no digit is no numeral
pub none_begins : (radix : ℕ) (ds : List ℕ) → begins_with_digit radix ds ≡ false → Err NoNumber ≡ capped (numeral_in radix ds)
none_begins radix [] f = refl
none_begins radix (c ∷ cs) f =
    let none : is_numeral radix (c ∷ cs) ≡ false = grind (arith, nat_tests) in
    rw none refl

-- a plus is no digit
pub not_plus : (radix : ℕ) (ds : List ℕ) → radix ≤ 36 → begins_with_digit radix ds ≡ true → get_or ds 0 0 ≢ 43
not_plus radix [] low t = absurd (true≢false (sym t))
not_plus radix (c ∷ cs) low t = λ e. grind (arith, nat_tests)

-- what `from_str_radix` answers of a text with no plus in front is its number, and where it answers none, there is none of 64 bits
pub numeral_read : {E : Type 0} (radix : ℕ) (ds : List ℕ) (r : Result ℕ E) (q : Result ℕ Misread)
    → get_or ds 0 0 ≢ 43 → ParsesUnsigned 64 radix ds r
    → MatchResult r (λ x. q ≡ Ok x) (λ _. q ≡ Err (misread_of radix ds)) → q ≡ capped (numeral_in radix ds)
numeral_read radix ds (Ok n) q plus reads is =
    let same : without_leading_plus ds ≡ ds = without_leading_plus_none ds plus in
    let read = rw same at reads in
    let good : is_numeral radix ds ≡ true = whole radix ds read.0.0 in
    let fits : ltb (digits_value radix ds) (2 ^ 64) ≡ true = lt-ltb (digits_value radix ds) (2 ^ 64) read.0.1 in
    rw (good, fits, ← read.1) is
numeral_read radix ds (Err y) q plus reads is =
    let same : without_leading_plus ds ≡ ds = without_leading_plus_none ds plus in
    let read = rw same at reads in
    elim (cases_Bool (is_numeral radix ds)) [
      | inl good ↦
          let large : ltb (digits_value radix ds) (2 ^ 64) ≡ false =
          elim (cases_Bool (ltb (digits_value radix ds) (2 ^ 64))) [
            | inl t ↦ absurd (read (parts radix ds good, grind (arith, nat_tests)))
            | inr f ↦ f
          ] in
          rw (good, large) (rw good at is)
      | inr bad ↦ rw bad (rw bad at is)
    ]
