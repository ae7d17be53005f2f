-- The worked cases, by the definitions that the contracts of the code use.
use Rattle.std.specs.Prelude.{◌≡◌, ℕ, List, [], ◌∷◌, Ok, Err}
use Rattle.isa.specs.Rules.{plain}
use Rattle.isa.specs.Words.{unpacked}

abbrev pub worked_words : List ℕ
worked_words = 0x0808000000000005 ∷ 0x0800000000000005 ∷ 0xA800000000000000 ∷ []

pub record WorkedCases : Type 0 where
  -- 0x0808000000000005 is const r1 5
  pub const_r1_5 : unpacked 0x0808000000000005 ≡ Ok (plain 1 0 1 0 0 0 5)
  -- const into r0 is refused 13
  pub const_into_r0 : unpacked 0x0800000000000005 ≡ Err 13
  -- kind 21 is refused 11
  pub kind_21 : unpacked 0xA800000000000000 ≡ Err 11
