-- A byte that has no value counts as 0, in each memory: the law of the interface, where its impls can cite it.
use Rattle.std.specs.Prelude.{◌≡◌, ℕ, ◌/◌, Bool, true, false, cond, not, ◌&&◌, List, Option, slice_index}
use Rattle.std.proofs.Common.{refl, sym, ap, ◌∙◌}
use Rattle.std.proofs.lemmas.Nat.{shr-shr}
use Rattle.memory.specs.declared.page.Page.{Page}
use Rattle.memory.specs.Access.{granule}
use Rattle.memory.specs.Flat.{flat_meaning, is_whole}
use Rattle.memory.specs.Pages.{is_window, page_at, paged_meaning, place_in}

no_value : (has : Bool) (n : ℕ) → (has && not false) ≡ false → cond has n 0 ≡ 0
no_value true n e = ap (λ b. cond b n 0) e
no_value false n e = refl

pub flat_blank : (bs : List ℕ) (a : ℕ)
    → ((flat_meaning bs).present (granule a) && not ((flat_meaning bs).window (granule a))) ≡ false
    → (flat_meaning bs).byte a ≡ 0
unfolding flat_meaning
flat_blank bs a e = no_value (is_whole bs (granule a)) (slice_index bs a) e

-- the page of an address is the page of its granule
pub page_of_granule : (x : ℕ) → x / 256 ≡ granule x / 64
page_of_granule x = sym (shr-shr x 2 6)

pub paged_blank : (ps : List Page) (win : Option ℕ) (bs ws : List ℕ) (a : ℕ)
    → ((paged_meaning ps win bs ws).present (granule a) && not ((paged_meaning ps win bs ws).window (granule a))) ≡ false
    → (paged_meaning ps win bs ws).byte a ≡ 0
unfolding paged_meaning
paged_blank ps win bs ws a e =
    let byte = slice_index bs (place_in ps a) in
    ap (λ p. cond ((page_at ps p).present && not (is_window win (granule a))) byte 0) (page_of_granule a) ∙ ap (λ b. cond b byte 0) e
