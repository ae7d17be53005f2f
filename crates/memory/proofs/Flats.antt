-- The flat memory: where it finds the bytes of an access, and what a write leaves in them.
use Rattle.std.proofs.Common.{◌≡◌, ℕ, ◌+◌, ◌/◌, ◌^◌, ◌<◌, ◌≤◌, min, Bool, true, false, ltb, List, [], length, None, refl, ap, ◌∙◌, arith}
use Rattle.std.proofs.lemmas.Bool.{ltb-true}
use Rattle.memory.specs.declared.access.Direction.{Direction}
use Rattle.memory.specs.Access.{aligned, granule}
use Rattle.memory.specs.Bytes.{seen, stored, stored_in}
use Rattle.memory.specs.Calls.{with_bytes}
use Rattle.memory.specs.Flat.{flat_meaning, is_whole}
use Rattle.memory.specs.Meaning.{fault}
use Rattle.memory.proofs.Accesses.{aligned_width, one_granule, within_bounds, within_granule}
use Rattle.memory.proofs.Faulting.{fault_passed}
use Rattle.memory.proofs.Numbers.{length-stored_in}
use Rattle.memory.proofs.Views.{Found, SideBySide, number_seen, stored_seen}

module _ (bs : List ℕ) (d : Direction) (x w : ℕ) (e : fault (flat_meaning bs) d x w ≡ None) where
  whole : is_whole bs (granule x) ≡ true
  unfolding flat_meaning
  whole = (fault_passed (flat_meaning bs) x w d e).present

  shape : aligned x w ≡ true
  shape = (fault_passed (flat_meaning bs) x w d e).shape

  flat_room : x + w ≤ length bs
  flat_room =
      let l : x / 4 < min (length bs / 4) (2 ^ 30) = ltb-true (x / 4) (min (length bs / 4) (2 ^ 30)) whole in
      omega (arith, one_granule x w shape)

  flat_side : SideBySide (λ a. is_whole bs (granule a)) (λ a. a) x w
  flat_side = record {
    have = λ a i. ap (is_whole bs) (within_granule x w a shape i) ∙ whole;
    follow = λ a i. let b = within_bounds x w a i in omega arith;
    apart = λ a o h. o;
  }

  flat_stored : (v : ℕ) → flat_meaning (stored_in bs x w v) ≡ with_bytes (flat_meaning bs) (stored (flat_meaning bs).byte x w v)
  unfolding flat_meaning
  flat_stored v =
      let same : is_whole (stored_in bs x w v) ≡ is_whole bs = ap (λ n g. ltb g (min (n / 4) (2 ^ 30))) (length-stored_in bs x w v) in
      ap (λ (p : ℕ → Bool). record { present = p; writable = p; window = λ g. false; byte = seen (λ a. p (granule a)) (λ a. a) (stored_in bs x w v); waiting = [] }) same
      ∙ ap (with_bytes (flat_meaning bs)) (stored_seen (λ a. is_whole bs (granule a)) (λ a. a) x w flat_side bs v flat_room)

  pub flat_found : Found flat_meaning bs x x w
  unfolding flat_meaning
  flat_found = record {
    room = record { width = aligned_width x w shape; inside = flat_room };
    plain = refl;
    number = number_seen (λ a. is_whole bs (granule a)) (λ a. a) x w flat_side bs;
    stored = flat_stored;
  }
