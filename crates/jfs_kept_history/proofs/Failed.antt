-- Whatever failed, a crash leaves the image's tree, or a disk that is redone to it.
use Rattle.std.proofs.Common.{◌≡◌, ◌⊎◌, ℕ, List, length, take, refl, sym, ap, subst, ◌∙◌, inl, inr, []}
use Rattle.std.proofs.lemmas.List.{get_or-take}
use Rattle.jfs_disk.specs.Image.{Image}
use Rattle.jfs_disk.specs.declared.disk.Fault.{Fault}
use Rattle.jfs_disk.specs.declared.disk.Part.{Part}
use Rattle.jfs_disk.specs.declared.disk.Part.TheVariants.{Whole, Low, High}
use Rattle.jfs_super.specs.declared.fields.Super.{Super}
use Rattle.jfs_legal.specs.served.specs.mounted.specs.Mount.{LeavesLog, LeavesUntouched, WasCut, FoundOn}
use Rattle.jfs_legal.specs.served.specs.mounted.specs.declared.mounted.MountError.TheVariants.{BadImage, Disk, Memory}
use Rattle.jfs_legal.specs.served.specs.mounted.specs.mount_disk.specs.Begun.{marked, LeavesLow}
use Rattle.jfs_legal.specs.served.specs.mounted.proofs.Whole.{whole_law}
use Rattle.jfs_kept_history.specs.Keepable.{IsKeepableImage}
use Rattle.jfs_kept_history.specs.Failed.{IsAsBefore, LeavesNeverMounted, FailedLaw}
use Rattle.jfs_kept_history.proofs.Marked.{redone}
use Rattle.jfs_kept_history.proofs.Stays.{eight, super_size, arrays, as_before}

-- nothing was written
pub as_it_was : (s : Super) (image left : Image) → IsKeepableImage s image → left ≡ image → IsAsBefore s image left
as_it_was s image left c is = subst (λ (im : Image). IsAsBefore s image im) (sym is) (record {
  superblock = c.superblock;
  keepable = c.keepable;
  tree = record { nodes = λ n. refl; bytes = λ n i. refl };
})

module _ (s : Super) (image : Image) (fault : Fault) (left : Image) (c : IsKeepableImage s image) (found : WasCut (Disk fault) → FoundOn s image)
    (low : LeavesLow s image left) (untouched : LeavesUntouched s image (Disk fault) left) (log : LeavesLog s image (Disk fault) left) where
  by_part : (part : Part) → fault.part ≡ part → LeavesNeverMounted s image left
  by_part Whole is = inl (as_it_was s image left c (log.0 is))
  by_part High is = inl (as_before s image c left (untouched is))
  by_part Low is = outcome (whole_law s (take s.logpxd.addr image) (take s.logpxd.addr left) (arrays s image c)
      (ap (λ (page : List ℕ). length page) (get_or-take s.logpxd.addr image 8 [] (eight s image c)) ∙ super_size s image c) low)
    where
      outcome : (take s.logpxd.addr left ≡ take s.logpxd.addr image) ⊎ (take s.logpxd.addr left ≡ marked s (take s.logpxd.addr image)) → LeavesNeverMounted s image left
      outcome (inl stays) = inl (as_before s image c left stays)
      outcome (inr put) = inr (redone s image c left (found (λ e. absurd (cc (is, e)))) put (log.1 is))

pub failed_law : FailedLaw
failed_law s image (BadImage bad) left c found low untouched log = inl (as_it_was s image left c log)
failed_law s image (Disk fault) left c found low untouched log = by_part s image fault left c found low untouched log fault.part refl
failed_law s image Memory left c found low untouched log = inl (as_before s image c left untouched)
