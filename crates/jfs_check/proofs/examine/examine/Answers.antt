use Rattle.std.proofs.Common.{◌∙◌, sym, subst, Ok}
use Rattle.jfs_disk.specs.Image.{Image, page_of}
use Rattle.jfs_findings.specs.mount_rules.specs.Subject.{subject_of}
use Rattle.jfs_findings.specs.mount_rules.specs.Steps.{Mounts}
use Rattle.jfs_check.specs.Looked.{IsOfAny, Looked}
use Rattle.jfs_check.proofs.Concluded.{concluded}
use Rattle.jfs_check.proofs.examine.examine.Goals as goal

pub returns-clause-checked : goal.returns-clause-checked
returns-clause-checked g c tells =
    let s = c.args.s.now in
    let image = g.V.PageView.image c.args.view.now in
    let one = c.in_ok-mounted.ensures in
    let all = c.in_ok-look.ensures in
    let mounts = subst (Mounts (subject_of s (page_of image))) c.in-Ok.is (one.mounts tells s c.requires.part) in
    let looked = subst (λ (i : Image). (Mounts (subject_of s (page_of i)) (Ok c.in-Ok.mounted) → Looked (subject_of s (page_of i)) (IsOfAny (subject_of s (page_of i))) c.in_ok-look.look)) (one.image tells) (all.found tells) mounts in
    concluded (subject_of s (page_of image)) mounts.1 c.in_ok-look.look c.in-Ok.mounted.maps.inodes.iags c.conclude.result (all.owned ∙ one.count_of_blocks ∙ sym c.requires.part) mounts.0.inodes.iags looked
    c.conclude.ensures.order c.conclude.ensures.same c.conclude.ensures.free c.conclude.ensures.inodes
