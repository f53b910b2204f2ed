-- Which pages of the maps an entry changes.
use Rattle.std.specs.Prelude.{◌≡◌, ℕ, zero, suc, ◌+◌, ◌*◌, Bool, true, false, not, ◌&&◌, ◌||◌, ◌==◌, List, [], ◌∷◌}
use Rattle.jfs_bits.specs.Bits.{any_below, is_in_run}
use Rattle.jfs_ranges.specs.declared.edit.Edit.{Edit}
use Rattle.jfs_ranges.specs.declared.edit.Edit.TheVariants.{Lines, NoRedo, Alloc, Free}
use Rattle.jfs_ranges.specs.Apply.{apply_tx}
use Rattle.jfs_iag.specs.Canonical.{has_free_inode, has_free_place}
use Rattle.jfs_steps.specs.bmap.specs.MapFile.{pages_of, is_in_use, tells_of}
use Rattle.jfs_steps.specs.After.{is_extent, place_in}
use Rattle.jfs_recovery.specs.Face.{Pages}
use Rattle.jfs_face.specs.Places.{Places, is_map_page}
use Rattle.jfs_face.specs.Items.{set_by, extent_by}
use Rattle.jfs_face.specs.MapPages.{inode_used_by, IsCanonicalPage}
use Rattle.jfs_face.specs.Volume.{items_on}

-- ---- the block map

-- an edit takes or frees the block
abbrev pub moves : Edit → ℕ → Bool
moves (Lines page kind first bytes) b = is_extent kind first bytes && is_in_run page 4 b
moves (NoRedo page) b = false
moves (Alloc run) b = is_in_run run.addr run.len b
moves (Free run) b = is_in_run run.addr run.len b

abbrev pub any_moves : List Edit → ℕ → Bool
any_moves [] b = false
any_moves (edit ∷ edits) b = moves edit b || any_moves edits b

-- Page `k` of the block map's file changes where it tells of a block that an entry takes or frees.
abbrev pub block_page_changes : Places → List Edit → ℕ → Bool
block_page_changes pl tx k = any_below pl.blocks (λ b. tells_of k b && any_moves tx b)

-- ---- the inode map

-- an edit puts an inode extent into the place
abbrev pub puts : Edit → ℕ → Bool
puts (Lines page kind first bytes) e = is_extent kind first bytes && place_in bytes == e
puts (NoRedo page) e = false
puts (Alloc run) e = false
puts (Free run) e = false

abbrev pub any_puts : List Edit → ℕ → Bool
any_puts [] e = false
any_puts (edit ∷ edits) e = puts edit e || any_puts edits e

abbrev pub differ : Bool → Bool → Bool
differ true b = not b
differ false b = b

-- what inodes and extents are after an entry, by its lines
abbrev pub used_before : Places → Pages → ℕ → Bool
used_before pl s = inode_used_by pl s (items_on pl s)

abbrev pub used_after : Places → Pages → List Edit → ℕ → Bool
used_after pl s tx = inode_used_by pl (λ p. apply_tx p tx (s p)) (λ i. set_by tx i (items_on pl s i))

abbrev pub extent_before : Places → Pages → ℕ → Bool
extent_before pl s k = has_free_place (extent_by (items_on pl s)) k

abbrev pub extent_after : Places → Pages → List Edit → ℕ → Bool
extent_after pl s tx k = has_free_place (extent_by (λ i. set_by tx i (items_on pl s i))) k

-- an inode of IAG `k` comes into use or out of it, or one of its places gets an extent
abbrev pub iag_changes : Places → Pages → List Edit → ℕ → Bool
iag_changes pl s tx k = any_below 4096 (λ i. differ (used_before pl s (4096 * k + i)) (used_after pl s tx (4096 * k + i))) || any_below 128 (λ e. any_puts tx (128 * k + e))

-- An IAG comes into one of the lists of its group, or leaves it: so others' list words change.
abbrev pub lists_change : Places → Pages → List Edit → Bool
lists_change pl s tx = any_below pl.iags (λ k.
    differ (has_free_inode (used_before pl s) (extent_by (items_on pl s)) k) (has_free_inode (used_after pl s tx) (extent_by (λ i. set_by tx i (items_on pl s i))) k)
    || differ (extent_before pl s k) (extent_after pl s tx k))

abbrev pub inode_page_changes : Places → Pages → List Edit → ℕ → Bool
inode_page_changes pl s tx zero = any_below pl.iags (λ k. iag_changes pl s tx k)
inode_page_changes pl s tx (suc k) = iag_changes pl s tx k || lists_change pl s tx

-- ---- both

abbrev pub map_changes : Places → Pages → List Edit → ℕ → Bool
map_changes pl s tx p =
    any_below (pages_of pl.blocks) (λ k. is_in_use pl.blocks k && pl.block_map k == p && block_page_changes pl tx k)
    || any_below (suc pl.iags) (λ k. pl.inode_map k == p && inode_page_changes pl s tx k)

-- The other map pages have the same canonical bytes before the entry and after it.
abbrev pub MarksLaw : Type 0
MarksLaw = (pl : Places) (s : Pages) (tx : List Edit) (p : ℕ) (old new : List ℕ) → is_map_page pl p ≡ true → map_changes pl s tx p ≡ false
    → IsCanonicalPage pl s (items_on pl s) p old → IsCanonicalPage pl (λ q. apply_tx q tx (s q)) (λ i. set_by tx i (items_on pl s i)) p new → new ≡ old
