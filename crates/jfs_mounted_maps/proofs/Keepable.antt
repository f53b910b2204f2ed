-- A volume on which a check finds nothing is keepable.
use Rattle.std.proofs.Common.{◌≡◌, ℕ, suc, List, is_some, None, refl, arith}
use Rattle.std.proofs.lemmas.Bool.{eqb-true}
use Rattle.jfs_bits.specs.Broken.{AllHold, Holds}
use Rattle.jfs_super.specs.Rules.{blocks_of}
use Rattle.jfs_super.specs.declared.fields.Super.{Super}
use Rattle.jfs_findings_new.specs.findings.proofs.Tidy.{consistent_law}
use Rattle.jfs_mount.specs.Mount.{place, covered, iags, map_rows, broken_mount}
use Rattle.jfs_mount.specs.Subject.{Subject, subject_of}
use Rattle.jfs_mount.proofs.Passed.{all_pass}
use Rattle.jfs_agree.proofs.Agreed.{sound_law}
use Rattle.jfs_checked_maps.proofs.Past.{past_law}
use Rattle.jfs_shown.specs.bmap.specs.MapFile.{pages_of}
use Rattle.jfs_shown.specs.meaning.specs.Readers.{readers}
use Rattle.jfs_mounted_held.specs.mounted_places.specs.held.specs.survival.specs.face.specs.Mounted.{HasMapPages}
use Rattle.jfs_mounted_held.specs.mounted_places.proofs.Places.{in_file}
use Rattle.jfs_mounted_maps.specs.Keepable.{KeepableLaw}
use Rattle.jfs_mounted_maps.proofs.Rules.{maps_hold}

-- Where no rule of a mount is broken, both maps' files have their pages.
module _ (s : Super) (page : ℕ → List ℕ) (mounts : broken_mount (subject_of s page) ≡ None) where
  abbrev sub : Subject
  sub = subject_of s page

  were : AllHold Holds (map_rows sub)
  were = maps_hold sub mounts

  pub has_map_pages : HasMapPages (readers (blocks_of s)) (blocks_of s) page
  unfolding map_rows covered
  has_map_pages = record {
    block_map = λ k used. all_pass (λ j. is_some (place sub 2 j)) (pages_of (blocks_of s)) k (eqb-true (covered sub 2 (pages_of (blocks_of s))) (pages_of (blocks_of s)) were.0) (in_file (blocks_of s) k used);
    inode_map = λ k within. all_pass (λ j. is_some (place sub 16 j)) (suc (iags sub)) k (eqb-true (covered sub 16 (suc (iags sub))) (suc (iags sub)) were.1.0) (omega (arith, within));
  }

pub keepable_law : KeepableLaw
keepable_law s page volume = record {
  consistent = consistent_law.consistent s page volume;
  files = record { block_map = volume.files 2 (0, omega arith, refl); bad_blocks = volume.files 4 (1, omega arith, refl); inode_map = volume.files 16 (2, omega arith, refl) };
  past = past_law s page (has_map_pages s page volume.mounts) (sound_law.sound (subject_of s page) volume);
}
