-- What redo makes of a block's bit in the block map: forwards, and as a choice.
use Rattle.std.specs.Prelude.{◌≡◌, ℕ, ◌-◌, ◌==◌, ◌&&◌, nat_le, nat_lt, Bool, true, false, List, [], ◌∷◌, length, Option, Some, None, if◌then◌else◌}
use Rattle.jfs_bits.specs.declared.descriptor.Pxd.{Pxd}
use Rattle.jfs_bits.specs.declared.rule.PageKind.{PageKind}
use Rattle.jfs_bits.specs.declared.rule.PageKind.TheVariants as kinds
use Rattle.jfs_ranges.specs.declared.edit.Edit.{Edit}
use Rattle.jfs_ranges.specs.declared.edit.Edit.TheVariants.{Lines, NoRedo, Alloc, Free}

abbrev pub has_block : Pxd → ℕ → Bool
has_block run b = nat_le run.addr b && nat_lt (b - run.addr) run.len

-- Lines of an inode page are a new inode extent where they are four pages long. The length alone decides: a record with NEW that has fewer lines is of plain lines.
abbrev pub is_new_extent : PageKind → List ℕ → Bool
is_new_extent kinds.Inode bytes = length bytes == 16384
is_new_extent kinds.Xtree bytes = false
is_new_extent kinds.Dtree bytes = false
is_new_extent kinds.Index bytes = false

-- what an edit says of a block: it is taken, or free, or nothing
abbrev pub mark_of : ℕ → Edit → Option Bool
mark_of b (Lines page kind first bytes) = if is_new_extent kind bytes && has_block (record { len = 4; addr = page }) b then Some true else None
mark_of b (NoRedo page) = None
mark_of b (Alloc run) = if has_block run b then Some true else None
mark_of b (Free run) = if has_block run b then Some false else None

abbrev pub mark_or : Option Bool → Bool → Bool
mark_or (Some mark) was = mark
mark_or None was = was

-- forwards
abbrev pub marked : ℕ → Bool → List Edit → Bool
marked b was [] = was
marked b was (e ∷ es) = marked b (mark_or (mark_of b e) was) es

abbrev pub mark_else : Option Bool → Option Bool → Option Bool
mark_else (Some mark) earlier = Some mark
mark_else None earlier = earlier

-- the last that is said of the block
abbrev pub last_mark : ℕ → List Edit → Option Bool
last_mark b [] = None
last_mark b (e ∷ es) = mark_else (last_mark b es) (mark_of b e)

abbrev pub LastMarkDecides : Type 0
LastMarkDecides = (b : ℕ) (was : Bool) (es : List Edit) → marked b was es ≡ mark_or (last_mark b es) was
