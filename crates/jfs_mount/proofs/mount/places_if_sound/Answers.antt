use Rattle.std.proofs.Common.{sym, ◌∙◌, subst}
use Rattle.jfs_disk.specs.Image.{Image, page_of}
use Rattle.jfs_mount.specs.Subject.{subject_of}
use Rattle.jfs_mount.specs.Mount.{bmap_row, imap_row, mapsize_row, nextiag_row}
use Rattle.jfs_mount.specs.Steps.{FindsPlaces}
use Rattle.jfs_mount.proofs.Order.{from_extents, from_nextiag, from_mapsize, from_imap, all_rows, fails, after_bmap, after_imap, after_mapsize, maps-found, each}
use Rattle.jfs_mount.proofs.mount.places_if_sound.Goals as goal

pub returns-in-Some-clause-finds : goal.returns-in-Some-clause-finds
returns-in-Some-clause-finds g c tells s is =
    let v = subject_of s (page_of (g.V.PageView.image c.args.view.now)) in
    fails _ (bmap_row v) (from_imap v) c.in-Some.bad (all_rows v) (c.in-Some.ensures v is)

pub returns-in-Some-bad_imap-clause-finds : goal.returns-in-Some-bad_imap-clause-finds
returns-in-Some-bad_imap-clause-finds g c tells s is =
    let v = subject_of s (page_of (g.V.PageView.image c.args.view.now)) in
    fails _ (imap_row v) (from_mapsize v) c.in-Some-bad_imap.bad (after_bmap v (c.in_default.ensures v is)) (c.in-Some-bad_imap.ensures.finds v is)

pub returns-in-Some-2-clause-finds : goal.returns-in-Some-2-clause-finds
returns-in-Some-2-clause-finds g c tells s is =
    let v = subject_of s (page_of (g.V.PageView.image c.args.view.now)) in
    fails _ (mapsize_row v) (from_nextiag v) c.in-Some-2.bad (after_imap v (c.in_default.ensures v is) (c.in_default-bad_imap.ensures.finds v is)) (sym c.in-Some-2.is ∙ c.in_ok-bad.ensures.finds tells s is)

pub returns-in-Some-bad_nextiag-clause-finds : goal.returns-in-Some-bad_nextiag-clause-finds
returns-in-Some-bad_nextiag-clause-finds g c tells s is =
    let v = subject_of s (page_of (g.V.PageView.image c.args.view.now)) in
    fails _ (nextiag_row v) (from_extents v) c.in-Some-bad_nextiag.bad
    (after_mapsize v (c.in_default.ensures v is) (c.in_default-bad_imap.ensures.finds v is) (sym c.in_default-2.is ∙ c.in_ok-bad.ensures.finds tells s is))
    (c.in-Some-bad_nextiag.ensures.finds v is)

pub returns-clause-finds : goal.returns-clause-finds
returns-clause-finds g c tells =
    let image = g.V.PageView.image c.args.view.now in
    let same = c.in_ok-bad.ensures.image tells in
    each c.places_of.result (λ r found.
    maps-found image c.args.maps.now r (λ s is. let v = subject_of s (page_of image) in
    (c.in_default.ensures v is, c.in_default-bad_imap.ensures.finds v is, sym c.in_default-2.is ∙ c.in_ok-bad.ensures.finds tells s is, c.in_default-bad_nextiag.ensures.finds v is))
    (subst (λ (i : Image). FindsPlaces i c.args.maps.now r) same found))
    (c.places_of.ensures.finds tells)
