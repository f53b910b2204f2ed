-- A map that an entry doesn't make stale stays.
use Rattle.std.proofs.Common.{◌≡◌, ◌||◌, ◌==◌, ◌&&◌, refl, sym, ap, ◌∙◌, ℕ, Bool, true, false, not, nat_le, if◌then◌else◌, List, [], ◌∷◌, length, set, Option, Some, None, arith}
use Rattle.std.specs.Prelude.{is_some}
use Rattle.std.proofs.lemmas.Bool.{ne_eqb}
use Rattle.jfs_bits.specs.declared.descriptor.Pxd.{Pxd}
use Rattle.jfs_shown.specs.imap.specs.Inodes.{Inodes, is_used}
use Rattle.jfs_marks.specs.Marks.{AreMarked, IsExtended, with_taken_if, with_freed_if}
use Rattle.jfs_marks.specs.declared.marks.InodeMarks.{InodeMarks}
use Rattle.jfs_call.specs.volume.specs.Stale.{changes_blocks, changes_inodes}

pub neither : (a b : Bool) → (a || b) ≡ false → (a ≡ false) × (b ≡ false)
neither false b e = (refl, e)
neither true b e = absurd (cc (e))

-- ---- runs

empty : (runs : List Pxd) → not (length runs == 0) ≡ false → runs ≡ []
empty [] e = refl
empty (run ∷ runs) e = absurd (cc (sym e ∙ ap not (ne_eqb (length (run ∷ runs)) 0 (λ h. absurd (omega (arith, h))))))

pub no_runs : (taken freed : List Pxd) → changes_blocks taken freed ≡ false → (taken ≡ []) × (freed ≡ [])
no_runs taken freed e = let both = neither (not (length taken == 0)) (not (length freed == 0)) e in (empty taken both.0, empty freed both.1)

-- ---- marks

unmarked : (m n mid : Inodes) (extent : Option Pxd) (taken freed : Option ℕ) → (is_some extent || (is_some taken || is_some freed)) ≡ false → IsExtended m extent mid → n ≡ with_freed_if freed (with_taken_if taken mid) → n ≡ m
unmarked m n mid None None None e x is = is ∙ x
unmarked m n mid None None (Some f) e x is = absurd (cc (e))
unmarked m n mid None (Some t) freed e x is = absurd (cc (e))
unmarked m n mid (Some at) taken freed e x is = absurd (cc (e))

pub no_marks : (m : Inodes) (marks : InodeMarks) (n : Inodes) → changes_inodes marks ≡ false → AreMarked m marks n → n ≡ m
no_marks m marks n e a = unmarked m n a.mid marks.extent marks.taken marks.freed e a.extended a.is

extended_groups : (m n : Inodes) (extent : Option Pxd) → IsExtended m extent n → n.iags ≡ m.iags
extended_groups m n None is = ap (λ (x : Inodes). x.iags) is
extended_groups m n (Some at) (e, lowest, is) = ap (λ (x : Inodes). x.iags) is

taken_groups : (m : Inodes) (taken : Option ℕ) → (with_taken_if taken m).iags ≡ m.iags
taken_groups m None = refl
taken_groups m (Some n) = refl

freed_groups : (m : Inodes) (freed : Option ℕ) → (with_freed_if freed m).iags ≡ m.iags
freed_groups m None = refl
freed_groups m (Some n) = by (nat_le 4 n && is_used m n)
  where
    by : (x : Bool) → (if x then record m { taken = set m.taken n false } else m).iags ≡ m.iags
    by true = refl
    by false = refl

-- the inode map has as many groups as before, whatever is marked
pub same_groups : (m : Inodes) (marks : InodeMarks) (n : Inodes) → AreMarked m marks n → n.iags ≡ m.iags
same_groups m marks n a = ap (λ (x : Inodes). x.iags) a.is ∙ freed_groups (with_taken_if marks.taken a.mid) marks.freed ∙ taken_groups a.mid marks.taken ∙ extended_groups m a.mid marks.extent a.extended
