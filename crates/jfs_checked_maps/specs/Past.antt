-- What maps that agree say of blocks past a volume's end.
use Rattle.std.specs.Prelude.{ℕ, List}
use Rattle.jfs_super.specs.Rules.{blocks_of}
use Rattle.jfs_super.specs.declared.fields.Super.{Super}
use Rattle.jfs_findings_new.specs.mount_rules.specs.Subject.{subject_of}
use Rattle.jfs_agree.specs.Agree.{MapsAgree}
use Rattle.jfs_mounted_places.specs.held.specs.survival.specs.face.specs.Mounted.{HasMapPages}
use Rattle.jfs_mounted_places.specs.Mounted.{SetsPast}
use Rattle.jfs_mounted_places.specs.Places.{places_of}
use Rattle.jfs_shown.specs.meaning.specs.Readers.{readers}

-- They are set on its last dmap, where the block map's file has all pages that are in use. (A check finds nothing where no rule of a mount is broken, maps agree, and all else is sound: jfs_agree.)
abbrev pub PastLaw : Type 0
PastLaw = (s : Super) (page : ℕ → List ℕ) → HasMapPages (readers (blocks_of s)) (blocks_of s) page → MapsAgree (subject_of s page) → SetsPast (places_of s page) page
