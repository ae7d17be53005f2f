-- A text is searched for among the mnemonics of all kinds.
use Rattle.std.proofs.Common.{rules, tests, ◌≡◌, ◌≢◌, ℕ, ltb, length, List, Some, None, Option, sym, refl, arith}
use Rattle.std.proofs.lemmas.Bool.{ltb-true}
use Rattle.std.proofs.lemmas.Iterator.{YieldsList-from_slice, first_from_find}
use Rattle.std.proofs.lemmas.Iterator.Consumers.{YieldsList-from_copied}
use Rattle.std.proofs.lemmas.Option.{get_or_from_slice_get}
use Rattle.std.specs.List.{AllWithin}
use Rattle.std.specs.Option.{MatchOption, ok_or}
use Rattle.isa.specs.declared.display.UnknownMnemonic.{UnknownMnemonic}
use Rattle.isa.specs.declared.kind.Kind.{Kind}
use Rattle.isa.specs.Kinds.{kinds, kind_number}
use Rattle.isa.specs.Mnemonics.{mnemonic_of}
use Rattle.isa.specs.Naming.{NamesKind}
use Rattle.isa.proofs.Numbers.{each_kind, kind_at_lem}
use Rattle.isa.proofs.display.KindFromStr.from_str.Goals as goal

-- what holds of the whole list holds of every kind
of_each : (P : Kind → Type 0) → AllWithin P kinds 0 (length kinds) → (k : Kind) → P k
of_each P all k =
    rw (sym (get_or_from_slice_get kinds (kind_number k) k k (kind_at_lem k)))
    (all (kind_number k) k (omega arith) (ltb-true (kind_number k) 20 (each_kind (λ k. ltb (kind_number k) 20) refl k)))

named : (Q : Kind → Type 0) (text : List ℕ) (e : UnknownMnemonic) (r : Option Kind) → ((k : Kind) → Q k → mnemonic_of k ≡ text)
    → MatchOption r (AllWithin (λ k. mnemonic_of k ≢ text) kinds 0 (length kinds)) Q → NamesKind text (ok_or r e)
named Q text e None says all = of_each (λ k. mnemonic_of k ≢ text) all
named Q text e (Some k) says found = says k found

pub returns : goal.returns
returns c =
    let first = first_from_find _ _ c.find.result (λ k. mnemonic_of k ≡ c.args.text.now) (λ k. mnemonic_of k ≢ c.args.text.now) c.find.ensures.ran
    (YieldsList-from_copied (YieldsList-from_slice kinds cc)) (λ x q k. search (rules, tests)) (λ x q k. search (rules, tests)) in
    rw c.ok_or.ensures.value (named _ c.args.text.now _ c.find.result (λ k h. h.0) first)
