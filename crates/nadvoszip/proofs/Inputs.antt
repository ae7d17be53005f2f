-- What was read of an input that is known beforehand.
use Rattle.std.proofs.Common.{◌≡◌, ℕ, ◌<◌, List, [], ◌++◌, length, take, Option, Some, None, option_map, IfSome, Result, Ok, Err, OnOk, is_ok, ap, ◌∙◌, arith}
use Rattle.std.proofs.lemmas.List.{take_all, length-take}

-- less than the limit is all
pub all_under_limit : (known : Option (List ℕ)) (start items : List ℕ) (limit : ℕ) → start ≡ [] → length items < limit → IfSome (option_map (take limit) known) (λ xs. items ≡ start ++ xs) → IfSome known (λ held. items ≡ held)
all_under_limit None start items limit empty less e = tt
all_under_limit (Some held) start items limit empty less e =
    let is : items ≡ take limit held = rw empty at e in
    is ∙ take_all limit held (omega (arith, ap length is, length-take limit held))

-- what holds where a result is `Ok` holds where the same with another error is
pub at_ok : {T E D P : Type 0} (r : Result T E) (s : Result T D) (x : T) → is_ok s ≡ is_ok r → s ≡ Ok x → OnOk r P → P
at_ok (Ok y) s x e w p = p
at_ok (Err y) s x e w p = cc (ap is_ok w)
