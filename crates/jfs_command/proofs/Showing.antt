-- The command `super` does what it means.
use Rattle.std.proofs.Common.{◌≡◌, [], Ok, refl, sym, ap, ◌∙◌}
use Rattle.jfs_disk.specs.Image.{ArePages}
use Rattle.jfs_disk.specs.declared.disk.Disk.{Ghosts}
use Rattle.jfs_super.specs.declared.fields.Super.{Super}
use Rattle.jfs_super.proofs.Rules.{accepted_pages}
use Rattle.jfs_command.specs.declared.status.Status.TheVariants.{Done}
use Rattle.jfs_command.specs.declared.status.Stop.TheVariants as stops
use Rattle.jfs_command.specs.declared.outcome.End.TheVariants.{Own, Stopped}
use Rattle.jfs_command.specs.declared.outcome.Outcome.{Outcome}
use Rattle.jfs_command.specs.Held.{Held}
use Rattle.jfs_command.specs.Meaning.{Answer, Performs, finished, every_status}
use Rattle.jfs_command.specs.Superblock.{LooksAtSuper, Looks}
use Rattle.jfs_command.specs.Super.{super_text, super_meaning}
use Rattle.jfs_command.proofs.Looking.{Behind, GoesOn, ShowsSame, faults_of, comes, no_memory, seen, goes_on}

-- an accepted superblock is printed
abbrev super_says : Held → Super → Answer → Type 0
super_says held s answer = answer ≡ finished (super_text s)

abbrev pub super_behind : Behind
super_behind = record { looks = LooksAtSuper; says = λ tells. super_says; judged = every_status }

pub super_goes : GoesOn super_behind
super_goes = record {
  page8 = λ held there. (refl, there);
  rests = λ tells a b answer accepted same said. said;
  one = λ tells held x y judged accepted said also. ap (λ (z : Answer). z.status) (said ∙ sym also);
}

pub shown : {D : Type 0} (d : Ghosts D) (old new : D) (s : Super) (outcome : Outcome) → (d.tells → ArePages (d.page_count old) (d.image old)) → Looks d.tells (d.page_count old) (d.image old) (faults_of d old new) (Ok s)
    → ShowsSame d old new outcome → outcome.text.items ≡ super_text s → outcome.end ≡ Own Done → Performs d super_meaning old new outcome
shown d old new s outcome pages looked same is_text is_end =
    let found = seen d old s (d.image old) (faults_of d old new) pages (λ t. refl) looked in
    comes d old new outcome super_behind found.held (finished (super_text s)) super_goes found.is same is_text
    (goes_on super_says found.held s (finished (super_text s)) found.block found.accepted refl) tt looked.4 is_end

pub no_room : {D : Type 0} (d : Ghosts D) (old new : D) (s : Super) (outcome : Outcome) → (d.tells → ArePages (d.page_count old) (d.image old)) → Looks d.tells (d.page_count old) (d.image old) (faults_of d old new) (Ok s)
    → ShowsSame d old new outcome → outcome.text.items ≡ [] → outcome.end ≡ Stopped stops.Memory → Performs d super_meaning old new outcome
no_room d old new s outcome pages looked same no_text is_end =
    no_memory d old new outcome super_behind super_goes pages (accepted_pages s (d.page_count old) looked.3) same no_text is_end
