-- Maps that agree.
use Rattle.jfs_findings_new.specs.findings.proofs.BothWays.{clean_law}
use Rattle.jfs_findings_new.proofs.NewClean.{new_clean}
use Rattle.jfs_findings_new.specs.findings.specs.Clean.{IsSoundVolume}
use Rattle.jfs_kinds.proofs.Single.{has_owners}
use Rattle.jfs_findings_new.specs.mount_rules.specs.Subject.{Subject, volume}
use Rattle.jfs_agree.specs.Agree.{MapsAgree, SoundLaw, NewLaw, OwnedLaw}

sound_agree : (s : Subject) → IsSoundVolume s → MapsAgree s
sound_agree s sound = record { sets = sound.sound.agrees; block_map = sound.block_map; inode_map = sound.inode_map }

pub sound_law : SoundLaw
sound_law = record { sound = sound_agree; clean = λ super pages page accepted none. sound_agree _ (clean_law.sound super pages page accepted none) }

pub new_law : NewLaw
new_law pages v image layout is = sound_agree _ (new_clean pages v image layout is).0

pub owned_law : OwnedLaw
owned_law s agree b = let owners = has_owners s.readers (volume s) agree.sets in record { used = owners.used b; alone = owners.alone b }
