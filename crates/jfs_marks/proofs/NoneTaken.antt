-- A transaction that takes nothing takes no block which an edit before frees.
use Rattle.std.proofs.Common.{◌≡◌, refl, Bool, true, false, true≢false, not, ◌&&◌, ◌||◌, List, [], ◌∷◌}
use Rattle.jfs_bits.specs.declared.descriptor.Pxd.{Pxd}
use Rattle.jfs_ranges.specs.declared.edit.Edit.{Edit}
use Rattle.jfs_ranges.specs.declared.edit.Edit.TheVariants.{Lines, NoRedo, Alloc, Free}
use Rattle.jfs_data_steps.specs.steps.specs.After.{is_extent, four_from}
use Rattle.jfs_marks.specs.Behind.{overlap, takes_any, takes_some, is_taken_in, frees_behind}

both_false : (a b : Bool) → (a || b) ≡ false → (a ≡ false) × (b ≡ false)
both_false true b h = absurd (true≢false h)
both_false false b h = (refl, h)

none_taken : (es : List Edit) (run : Pxd) → takes_some es ≡ false → is_taken_in es run ≡ false
none_taken [] run h = refl
none_taken (Lines page kind first bytes ∷ es) run h = let parts = both_false (is_extent kind first bytes) (takes_some es) h in rw parts.0 (none_taken es run parts.1)
none_taken (NoRedo page ∷ es) run h = none_taken es run h
none_taken (Alloc taken ∷ es) run h = absurd (true≢false h)
none_taken (Free freed ∷ es) run h = none_taken es run h

pub takes_none : (es : List Edit) → takes_some es ≡ false → frees_behind es ≡ true
takes_none [] h = refl
takes_none (Lines page kind first bytes ∷ es) h = takes_none es (both_false (is_extent kind first bytes) (takes_some es) h).1
takes_none (NoRedo page ∷ es) h = takes_none es h
takes_none (Alloc run ∷ es) h = absurd (true≢false h)
takes_none (Free run ∷ es) h = rw (none_taken es run h) (takes_none es h)
