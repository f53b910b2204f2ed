use Rattle.std.proofs.Common.{◌∙◌, subst}
use Rattle.jfs_disk.specs.Image.{Image, page_of}
use Rattle.jfs_mount.specs.Subject.{subject_of}
use Rattle.jfs_mount.specs.Steps.{FindsRoot, HasMaps}
use Rattle.jfs_mount.proofs.Order.{maps_are_first, root_decides}
use Rattle.jfs_mount.proofs.mount.mounted.Goals as goal

pub returns-in-Err-clause-mounts : goal.returns-in-Err-clause-mounts
returns-in-Err-clause-mounts g c tells s is =
    let v = subject_of s (page_of (g.V.PageView.image c.args.view.now)) in
    maps_are_first v c.in-Err.bad (subst (HasMaps v) c.in-Err.is (c.in_ok-found.ensures.files tells s is))

pub returns-in-Some-clause-mounts : goal.returns-in-Some-clause-mounts
returns-in-Some-clause-mounts g c tells s is =
    let v = subject_of s (page_of (g.V.PageView.image c.args.view.now)) in
    let has = subst (HasMaps v) c.in-Ok.is (c.in_ok-found.ensures.files tells s is) in
    let root = subst (λ (i : Image). FindsRoot i c.in-Ok.found.maps c.as_slice.result.now c.in_ok-bad.field-0) (c.in_ok-found.ensures.image tells) (c.in_ok-bad.ensures.finds tells) s has.0 in
    root_decides v c.as_slice.result.now c.in_ok-bad.field-0 (c.as_slice.ensures.value ∙ has.2) root has.1 ∙ c.in-Some.is

pub returns-in-None-clause-mounts : goal.returns-in-None-clause-mounts
returns-in-None-clause-mounts g c tells s is =
    let v = subject_of s (page_of (g.V.PageView.image c.args.view.now)) in
    let has = subst (HasMaps v) c.in-Ok.is (c.in_ok-found.ensures.files tells s is) in
    let root = subst (λ (i : Image). FindsRoot i c.in-Ok.found.maps c.as_slice.result.now c.in_ok-bad.field-0) (c.in_ok-found.ensures.image tells) (c.in_ok-bad.ensures.finds tells) s has.0 in
    (has.0, root_decides v c.as_slice.result.now c.in_ok-bad.field-0 (c.as_slice.ensures.value ∙ has.2) root has.1 ∙ c.in-None.is, has.2)
