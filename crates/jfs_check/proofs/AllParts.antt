-- The findings of all parts.
use Rattle.std.proofs.Common.{◌≡◌, sym, subst, ℕ, List, Ok}
use Rattle.jfs_disk.specs.Image.{Image, page_of}
use Rattle.jfs_super.specs.declared.fields.Super.{Super}
use Rattle.jfs_link_check.specs.objects.specs.Owners.{owners}
use Rattle.jfs_findings.specs.mount_rules.specs.Subject.{Subject, subject_of, volume}
use Rattle.jfs_findings.specs.mount_rules.specs.Steps.{AreRead, Mounts}
use Rattle.jfs_findings.specs.mount_rules.specs.declared.maps.Mounted.{Mounted}
use Rattle.jfs_findings.specs.Gains.{Gains}
use Rattle.jfs_findings.specs.declared.finding.Finding.{Finding}
use Rattle.jfs_link_check.specs.object_check.proofs.Found.{gains_both}
use Rattle.jfs_link_check.specs.owners.specs.Counts.{Counts}
use Rattle.jfs_link_check.specs.Found.{IsOfNames}
use Rattle.jfs_check.specs.Looked.{AreInUse, IsOfTrees, IsOfMaps, IsOfAny, Looked}
use Rattle.jfs_check.specs.declared.look.Look.{Look}

module _ (s : Super) (image : Image) where
  abbrev of_all : Subject
  of_all = subject_of s (page_of image)

  -- what was looked at, then the maps, then what is left of names
  pub all_found : (after : Image) (mounted : Mounted) (look new : Look) (one : List Finding) → after ≡ image → Mounts of_all (Ok mounted) → Looked of_all (IsOfTrees of_all) look
      → (AreRead (subject_of s (page_of after)) mounted.maps → Counts look.census.owners (owners (subject_of s (page_of after)).readers (volume (subject_of s (page_of after)))) → AreInUse (subject_of s (page_of after)) look.used.items
      → Gains (IsOfMaps (subject_of s (page_of after))) look.findings.items one)
      → Gains (IsOfNames of_all) one new.findings.items
      → new.census.owners ≡ look.census.owners → new.used.items ≡ look.used.items → Looked of_all (IsOfAny of_all) new
  all_found after mounted look new one f m k maps_give names owners_stay used_stay =
      let maps = subst (λ (i : Image). (AreRead (subject_of s (page_of i)) mounted.maps → Counts look.census.owners (owners (subject_of s (page_of i)).readers (volume (subject_of s (page_of i)))) → AreInUse (subject_of s (page_of i)) look.used.items
      → Gains (IsOfMaps (subject_of s (page_of i))) look.findings.items one)) f maps_give m.0 k.owners k.used in
      record {
        owners = subst (λ o. Counts o (owners of_all.readers (volume of_all))) (sym owners_stay) k.owners;
        used = subst (λ (xs : List ℕ). AreInUse of_all xs) (sym used_stay) k.used;
        findings = gains_both (gains_both k.findings maps) names;
      }
