-- What stands at a number, and whether it breaks a rule.
use Rattle.std.specs.Prelude.{◌≡◌, ℕ, true, false, List, Some, None}
use Rattle.jfs_bits.specs.Broken.{first_broken}
use Rattle.jfs_disk.specs.Image.{Image, page_of}
use Rattle.jfs_inode.specs.Rules.{rows}
use Rattle.jfs_inode.specs.declared.fields.Dinode.{Dinode}
use Rattle.jfs_reader.specs.objects.specs.Readers.{Readers}
use Rattle.jfs_reader.specs.objects.specs.Volume.{home}
use Rattle.jfs_reader.specs.objects.specs.Objects.{IsWhole, is_live, spelled}
use Rattle.jfs_owners.specs.mount_rules.specs.Subject.{object, volume}
use Rattle.jfs_image.specs.Image.{HasTree, subject_on}
use Rattle.jfs_image.specs.Held.{Breaks}
use Rattle.jfs_image.specs.declared.standing.Judged.{Judged}
use Rattle.jfs_image.specs.declared.standing.Judged.TheVariants as judged

-- an inode in use that breaks no rule, nor does a tree of it
pub record IsSoundInode (r : Readers) (page : ℕ → List ℕ) (n : ℕ) (d : Dinode) : Type 0 where
  pub inode : first_broken (rows d n) ≡ None
  pub whole : IsWhole r (spelled r page d)

abbrev pub JudgesAs : Readers → (ℕ → List ℕ) → ℕ → Dinode → Judged → Type 0
JudgesAs r page n d judged.Missing = ⊥
JudgesAs r page n d judged.Free = is_live n d ≡ false
JudgesAs r page n d (judged.Sound e) = (e ≡ d) × (is_live n d ≡ true) × IsSoundInode r page n d
JudgesAs r page n d judged.Broken = (is_live n d ≡ true) × Breaks r n (spelled r page d)

-- the number has a place
abbrev pub HasHome : Image → ℕ → Type 0
HasHome image n = (p : ℕ) × (home (volume (subject_on image)).extents n ≡ Some p)

abbrev pub Judges : Image → ℕ → Judged → Type 0
Judges image n judged.Missing = home (volume (subject_on image)).extents n ≡ None
Judges image n judged.Free = HasHome image n × (object (subject_on image) n ≡ None)
Judges image n (judged.Sound d) = HasHome image n × (object (subject_on image) n ≡ Some (spelled (subject_on image).readers (page_of image) d)) × IsSoundInode (subject_on image).readers (page_of image) n d
Judges image n judged.Broken = HasTree image → ⊥
