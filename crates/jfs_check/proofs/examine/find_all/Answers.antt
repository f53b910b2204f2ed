use Rattle.std.proofs.Common.{◌∙◌, ap, sym, subst, refl, ℕ}
use Rattle.jfs_disk.specs.Image.{page_of}
use Rattle.jfs_link_check.specs.objects.specs.Image.{extents_on}
use Rattle.jfs_findings.specs.meaning.specs.Readers.{readers}
use Rattle.jfs_findings.specs.mount_rules.specs.Subject.{subject_of}
use Rattle.jfs_link_check.specs.Notes.{AreNoted}
use Rattle.jfs_check.specs.Looked.{AreInUse}
use Rattle.jfs_check.proofs.AllParts.{all_found}
use Rattle.jfs_check.proofs.examine.find_all.Goals as goal

pub returns-in-Ok-clause-found : goal.returns-in-Ok-clause-found
returns-in-Ok-clause-found g c tells m =
    let s = c.args.s.now in
    let b = g.V.PageView.block_count c.args.view.now in
    let image = g.V.PageView.image c.args.view.now in
    let looked = c.in_ok-look.ensures in
    let value = c.as_slice-places.ensures.value in
    let noted = subst (λ ps. AreNoted b (page_of image) ps c.in_ok-look.look.census.names) (sym value) (looked.noted tells) in
    let places = ap (λ (n : ℕ). extents_on (readers n) (page_of image)) (sym c.requires.part) ∙ sym (value ∙ m.2) in
    all_found s image (g.V.PageView.image c.look_at_all.new.view) c.args.mounted.now c.in_ok-look.look _ c.check_maps.new.findings.items (looked.image tells) m (looked.looked tells m)
    (λ read counts used. c.in_ok-check_maps.ensures.found tells read counts (subst (AreInUse (subject_of s (page_of (g.V.PageView.image c.look_at_all.new.view)))) (sym c.as_slice.ensures.value) used))
    (c.in-Ok.ensures.found b (page_of image) noted s c.requires.part places) refl refl
