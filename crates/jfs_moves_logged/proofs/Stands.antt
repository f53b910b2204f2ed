-- The directory that loses the old name, once the target is another one: they may be one.
use Rattle.std.proofs.Common.{◌≡◌, ◌≢◌, if◌then◌else◌, ℕ, Bool, true, Some, sym, ap, ◌∙◌, subst, inl, inr, eq-eqb, ne_eqb}
use Rattle.jfs_inode.specs.declared.fields.Dinode.{Dinode}
use Rattle.jfs_rename.specs.rename_steps.specs.Moves.{source_after, less_if}
use Rattle.jfs_rename.specs.rename_steps.specs.declared.moving.Moving.{Moving}
use Rattle.jfs_rename.specs.unlink.specs.loss.specs.objects.specs.Volume.{Volume, home}
use Rattle.jfs_rename.specs.unlink.specs.loss.specs.objects.specs.Objects.{objects, spelled, is_live, has_names}
use Rattle.jfs_rename.specs.unlink.specs.loss.specs.objects.proofs.Sums.{eq_or_not}
use Rattle.jfs_rename.specs.unlink.specs.loss.specs.meaning.specs.Readers.{readers}
use Rattle.jfs_rename.specs.unlink.specs.loss.specs.way.specs.declared.object.Held.{Held}

-- as it stands then, with so many links afterwards
pub record StandsThen (blocks : ℕ) (v w : Volume) (m : ℕ) (less : Bool) (at : Held) : Type 0 where
  pub home_is : home v.extents at.number ≡ Some at.page
  pub here : objects (readers blocks) w at.number ≡ Some (spelled (readers blocks) w.page at.inode)
  pub dir : has_names at.inode ≡ true
  pub live : is_live at.number (record at.inode { nlink = less_if less at.inode.nlink }) ≡ true
  pub apart : at.number ≢ m

module _ (blocks : ℕ) (v w : Volume) (m : ℕ) (less : Bool) (moving : Moving) (target set : Dinode) (is : target ≡ set) where
  abbrev target_with : Dinode → Held
  target_with d = record { number = moving.target.number; page = moving.target.page; inode = d }

  pub stands_then : (moving.source.number ≡ moving.target.number → StandsThen blocks v w m less (record { number = moving.target.number; page = moving.target.page; inode = set })) → (moving.source.number ≢ moving.target.number → StandsThen blocks v w m less moving.source)
      → StandsThen blocks v w m less (source_after moving target)
  stands_then one two = elim (eq_or_not moving.source.number moving.target.number) [
    | inl e ↦ subst (StandsThen blocks v w m less) (sym (ap (λ (x : Bool). if x then target_with target else moving.source) (eq-eqb moving.source.number moving.target.number e) ∙ ap target_with is)) (one e)
    | inr far ↦ subst (StandsThen blocks v w m less) (sym (ap (λ (x : Bool). if x then target_with target else moving.source) (ne_eqb moving.source.number moving.target.number far))) (two far)
  ]
