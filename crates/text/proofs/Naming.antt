-- Which kind a text names.
use Rattle.std.proofs.Common.{◌≡◌, ◌≢◌, inl, inr, ℕ, Bool, false, List, [], ◌∷◌, Some, None, Ok, Err, Result, refl, ap, sym, ◌∙◌}
use Rattle.std.specs.List.{find}
use Rattle.std.specs.Result.{result_ok}
use Rattle.std.specs.Str.{bytes_eq}
use Rattle.std.proofs.lemmas.Slice.Eq.{bytes_eq-Decides}
use Rattle.std.proofs.lemmas.Bool.{cases_Bool}
use Rattle.isa.specs.declared.display.UnknownMnemonic.{UnknownMnemonic}
use Rattle.isa.specs.declared.kind.Kind.{Kind}
use Rattle.isa.specs.declared.kind.Kind.TheVariants.{Halt, Const, Add, Sub, And, Or, Xor, Shl, Shr, Below, Load, Store, Beq, Bne, Jump, Early, Check, Take, Reload, Back}
use Rattle.isa.specs.Kinds.{kinds}
use Rattle.isa.specs.Mnemonics.{mnemonic_of}
use Rattle.isa.specs.Naming.{NamesKind}
use Rattle.text.specs.Statements.{kind_named}

of_mnemonic : (k : Kind) → kind_named (mnemonic_of k) ≡ Some k
unfolding kind_named
of_mnemonic Halt = refl
of_mnemonic Const = refl
of_mnemonic Add = refl
of_mnemonic Sub = refl
of_mnemonic And = refl
of_mnemonic Or = refl
of_mnemonic Xor = refl
of_mnemonic Shl = refl
of_mnemonic Shr = refl
of_mnemonic Below = refl
of_mnemonic Load = refl
of_mnemonic Store = refl
of_mnemonic Beq = refl
of_mnemonic Bne = refl
of_mnemonic Jump = refl
of_mnemonic Early = refl
of_mnemonic Check = refl
of_mnemonic Take = refl
of_mnemonic Reload = refl
of_mnemonic Back = refl

find_none : {X : Type 0} (test : X → Bool) (xs : List X) → ((x : X) → test x ≡ false) → find test xs ≡ None
find_none test [] none = refl
find_none test (x ∷ xs) none = rw (none x) (find_none test xs none)

other : (xs ys : List ℕ) → xs ≢ ys → bytes_eq xs ys ≡ false
other xs ys differ =
    elim (cases_Bool (bytes_eq xs ys)) [
      | inl t ↦ absurd (differ ((bytes_eq-Decides xs ys).0 t))
      | inr f ↦ f
    ]

-- what parsing a mnemonic says
pub kind_named_from : (text : List ℕ) (r : Result Kind UnknownMnemonic) → NamesKind text r → result_ok r ≡ kind_named text
unfolding kind_named
kind_named_from text (Ok k) named = sym (ap kind_named (sym named) ∙ of_mnemonic k)
kind_named_from text (Err e) none = sym (find_none (λ k. bytes_eq (mnemonic_of k) text) kinds (λ k. other (mnemonic_of k) text (none k)))
