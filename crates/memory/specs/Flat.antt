-- The flat memory over a list of bytes: what it means, and what a write leaves in the list.
use Rattle.std.specs.Prelude.{ℕ, ◌/◌, ◌^◌, min, Bool, false, List, [], length, vec_items, nat_lt}
use Rattle.memory.specs.declared.access.Direction.TheVariants.{Write}
use Rattle.memory.specs.declared.flat.FlatMemory.{FlatMemory}
use Rattle.memory.specs.Access.{granule}
use Rattle.memory.specs.Bytes.{seen}
use Rattle.memory.specs.Calls.{stored_or_kept}
use Rattle.memory.specs.Meaning.{Meaning, fault}

-- g is a whole granule of these bytes, and an address can name it
abbrev pub is_whole : List ℕ → ℕ → Bool
is_whole bs g = nat_lt g (min (length bs / 4) (2 ^ 30))

-- all whole granules present and writable, and no window
unfoldable pub flat_meaning : List ℕ → Meaning
flat_meaning bs =
    record { present = is_whole bs; writable = is_whole bs; window = λ g. false; byte = seen (λ a. is_whole bs (granule a)) (λ a. a) bs; waiting = [] }

-- the caller's bytes, as the memory holds them now
abbrev pub flat_bytes : FlatMemory → List ℕ
flat_bytes s = vec_items s.bytes

abbrev pub flat_meaning_of : FlatMemory → Meaning
flat_meaning_of s = flat_meaning (flat_bytes s)

-- the caller's bytes after a write
unfoldable pub flat_written : List ℕ → ℕ → ℕ → ℕ → List ℕ
flat_written bs x w v = stored_or_kept (fault (flat_meaning bs) Write x w) bs x w v
