-- The paged memory: 64 pages of 256 bytes from address 0, each over a frame of the caller's bytes.
use Rattle.std.specs.Prelude.{◌≡◌, ℕ, zero, suc, ◌+◌, ◌*◌, ◌/◌, ◌%◌, ◌≤◌, Bool, true, false, cond, not, ◌&&◌, List, [], ◌∷◌, ◌++◌, Some, None, Option, ◌==◌, nat_eq, nat_le, slice_index_or}
use Rattle.std.specs.List.{list_any}
use Rattle.std.specs.Option.{option_eq}
use Rattle.memory.specs.declared.page.Page.{Page}
use Rattle.memory.specs.Access.{granule}
use Rattle.memory.specs.Bytes.{seen}
use Rattle.memory.specs.Meaning.{Meaning}

-- a page that nobody gave
abbrev pub no_page : Page
no_page = record { present = false; writable = false; frame = 0 }

abbrev pub page_at : List Page → ℕ → Page
page_at ps p = slice_index_or ps p no_page

-- frame f lies wholly inside n bytes
abbrev pub is_inside : ℕ → ℕ → Bool
is_inside n f = nat_le (256 * f + 256) n

-- the page is present and has frame f
abbrev pub holds_frame : ℕ → Page → Bool
holds_frame f q = q.present && q.frame == f

-- one of these pages does
abbrev pub has_frame : List Page → ℕ → Bool
has_frame ps f = list_any (holds_frame f) ps

-- a page below which the pages `lower` lie: absent unless its frame lies wholly inside and is no lower present page's
abbrev pub settled_page : ℕ → List Page → Page → Page
settled_page n lower q =
    record { present = q.present && (is_inside n q.frame && not (has_frame lower q.frame)); writable = q.writable; frame = q.frame }

-- the first k pages over n bytes, as the caller gave them, from the lowest up
unfoldable pub settled : ℕ → List Page → ℕ → List Page
settled n ps zero = []
settled n ps (suc k) = settled n ps k ++ (settled_page n (settled n ps k) (page_at ps k) ∷ [])

-- every present page's frame lies wholly inside n bytes
abbrev pub FramesInside : ℕ → List Page → Type 0
FramesInside n ps = (p : ℕ) → (page_at ps p).present ≡ true → 256 * (page_at ps p).frame + 256 ≤ n

-- no two present pages have the same frame
abbrev pub FramesApart : List Page → Type 0
FramesApart ps = (p q : ℕ) → (page_at ps p).present ≡ true → (page_at ps q).present ≡ true
    → (page_at ps p).frame ≡ (page_at ps q).frame → p ≡ q

abbrev pub is_window : Option ℕ → ℕ → Bool
is_window win g = option_eq nat_eq win (Some g)

-- where the byte at address a stands in the caller's bytes
abbrev pub place_in : List Page → ℕ → ℕ
place_in ps a = 256 * (page_at ps (a / 256)).frame + a % 256

-- the byte at address a has a value
abbrev pub has_value : List Page → Option ℕ → ℕ → Bool
has_value ps win a = (page_at ps (a / 256)).present && not (is_window win (granule a))

-- a memory over the bytes bs with these settled pages, window granule and waiting words
unfoldable pub paged_meaning : List Page → Option ℕ → List ℕ → List ℕ → Meaning
paged_meaning ps win bs ws =
    record { present = λ g. (page_at ps (g / 64)).present; writable = λ g. (page_at ps (g / 64)).writable; window = is_window win; byte = seen (has_value ps win) (place_in ps) bs; waiting = ws }

-- the granule of a window at this address; a window whose address is not a multiple of 4 is none
abbrev pub window_granule : Option ℕ → Option ℕ
window_granule None = None
window_granule (Some x) = cond (x % 4 == 0) (Some (granule x)) None
