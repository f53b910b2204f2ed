-- What a file's extents are once blocks of it were written.
use Rattle.std.specs.Prelude.{◌≡◌, ◌≤◌, ℕ, ◌+◌, ◌-◌, ◌^◌, ◌==◌, ◌&&◌, ◌||◌, Bool, true, not, nat_le, nat_lt, if◌then◌else◌, List, [], ◌∷◌, ◌++◌, Option, Some, None}
use Rattle.std.specs.Int.RustNames.{bit_and}
use Rattle.jfs_bits.specs.declared.extent.Xad.{Xad}
use Rattle.jfs_xtpage.specs.Page.{end_of, rises_from}
use Rattle.jfs_xtree.specs.Cutting.{up_to, kept_below}
use Rattle.jfs_xtree.specs.CutParts.{AllFrom}

-- An extent whose flag has the bit 0x08 isn't recorded: its blocks read as zeros.
abbrev pub is_recorded : Xad → Bool
is_recorded x = not (bit_and x.flag 0x08 == 0x08)

-- an extent from a block of the file on, where it begins below it
abbrev pub from_on : ℕ → Xad → Xad
from_on bound x = if nat_le bound x.offset then x else record { flag = x.flag; offset = bound; at = record { len = end_of x - bound; addr = x.at.addr + (bound - x.offset) } }

-- the extents that end past a block of the file, from it on
abbrev pub kept_from : ℕ → List Xad → List Xad
kept_from bound [] = []
kept_from bound (x ∷ xs) = if nat_le (end_of x) bound then kept_from bound xs else from_on bound x ∷ kept_from bound xs

-- none of these has a block of the file that the extent has
abbrev pub is_hole : Xad → List Xad → Bool
is_hole x [] = true
is_hole x (e ∷ es) = (nat_le (end_of e) x.offset || nat_le (end_of x) e.offset) && is_hole x es

-- It goes on where a recorded extent ends, in the file and on the volume, and one entry has room for both.
abbrev pub continues : Xad → Xad → Bool
continues e x = is_recorded e && (end_of e == x.offset && (e.at.addr + e.at.len == x.at.addr && nat_lt (e.at.len + x.at.len) (2 ^ 24)))

-- an extent and what continues it, as one
abbrev pub merged : Xad → Xad → Xad
merged e x = record { flag = e.flag; offset = e.offset; at = record { len = e.at.len + x.at.len; addr = e.at.addr } }

-- an extent behind others; where it continues the last one, the two are one
abbrev pub joined : List Xad → Xad → List Xad
joined [] x = x ∷ []
joined (e ∷ []) x = if continues e x then merged e x ∷ [] else e ∷ x ∷ []
joined (e ∷ f ∷ es) x = e ∷ joined (f ∷ es) x

-- The extents once the blocks of one are written: it stands in place of what they had of these blocks. One in a hole that continues its recorded left neighbour is merged
-- with it; what wasn't recorded stays an entry of its own; an entry that reached past the blocks keeps its other parts.
abbrev pub with_written : Xad → List Xad → List Xad
with_written x es = (if is_hole x es then joined (kept_below x.offset es) x else kept_below x.offset es ++ x ∷ []) ++ kept_from (end_of x) es

-- and once those of several are, from left to right
abbrev pub with_all_written : List Xad → List Xad → List Xad
with_all_written [] es = es
with_all_written (x ∷ xs) es = with_all_written xs (with_written x es)

-- ---- block by block

-- where a block of the file is on the volume, and whether it is recorded
pub record Place : Type 0 where
  pub block : ℕ
  pub recorded : Bool

abbrev pub has_block : Xad → ℕ → Bool
has_block x k = nat_le x.offset k && nat_lt k (end_of x)

abbrev pub place_in : Xad → ℕ → Place
place_in x k = record { block = x.at.addr + (k - x.offset); recorded = is_recorded x }

-- block `k` of the file; there is none in a hole
abbrev pub place_at : List Xad → ℕ → Option Place
place_at [] k = None
place_at (e ∷ es) k = if has_block e k then Some (place_in e k) else place_at es k

-- each has a length
abbrev pub AllLong : List Xad → Type 0
AllLong [] = Unit {0}
AllLong (e ∷ es) = (1 ≤ e.at.len) × AllLong es

-- A written extent has its blocks, recorded, and each other block of the file is where it was, recorded or not as before.
abbrev pub WritesItsBlocks : Xad → List Xad → Type 0
WritesItsBlocks x es = is_recorded x ≡ true → 1 ≤ x.at.len → AllLong es → (k : ℕ) → place_at (with_written x es) k ≡ (if has_block x k then Some (place_in x k) else place_at es k)

-- ---- an extent in one entry, and in a hole

-- what an entry keeps before an extent that lies in it, and behind it
abbrev pub part_before : Xad → Xad → List Xad
part_before x e = if nat_le x.offset e.offset then [] else up_to x.offset e ∷ []

abbrev pub part_behind : Xad → Xad → List Xad
part_behind x e = if nat_le (end_of e) (end_of x) then [] else from_on (end_of x) e ∷ []

-- each of these ends at or before the bound
abbrev pub AllTo : ℕ → List Xad → Type 0
AllTo bound [] = Unit {0}
AllTo bound (x ∷ xs) = (end_of x ≤ bound) × AllTo bound xs

-- An extent that lies in one entry stands between what the entry keeps, and the other entries stay.
abbrev pub KeepsOtherParts : Xad → Type 0
KeepsOtherParts x = (low : ℕ) (a : List Xad) (e : Xad) (b : List Xad) → rises_from low (a ++ e ∷ b) ≡ true → e.offset ≤ x.offset → end_of x ≤ end_of e
    → with_written x (a ++ e ∷ b) ≡ a ++ (part_before x e ++ x ∷ (part_behind x e ++ b))

-- An extent in a hole stands between the others, or is one with its left neighbour.
abbrev pub GoesIntoHole : Xad → Type 0
GoesIntoHole x = (a b : List Xad) → AllTo x.offset a → AllFrom (end_of x) b → with_written x (a ++ b) ≡ joined a x ++ b
