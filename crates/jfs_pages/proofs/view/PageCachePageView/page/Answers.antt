use Rattle.std.proofs.Common.{refl, sym, ◌≡◌, List, map}
use Rattle.jfs_ranges.specs.View.{Device}
use Rattle.jfs_pages.specs.declared.dirty.Dirty.{Dirty}
use Rattle.jfs_ranges.proofs.Device.{same_device}
use Rattle.jfs_pages.specs.Kept.{pending_of}
use Rattle.jfs_pages.specs.Whole.{page_of-image_in}
use Rattle.jfs_pages.proofs.Lend.{image-same, carries, bytes-of}
use Rattle.jfs_pages.proofs.view.PageCachePageView.page.Goals as goal

-- the same device and the same dirty pages
same_pending : {crashes : Type 0} {a b : Device crashes} {xs ys : List Dirty} → a ≡ b → xs ≡ ys → record a { pending = map pending_of xs } ≡ record b { pending = map pending_of ys }
same_pending e f = λ i. record (e i) { pending = map pending_of (f i) }

pub returns : goal.returns
returns g c =
    let old = c.args.self.now in
    let new = c.get.follows.lender-at-none in
    let facts = c.get.follows.holds-at-none in
    let image = g.D.Disk.image in (
      (
        refl,
        λ _. tt,
        record {
          same_blocks = facts.0;
          same_image = λ t. image-same old.blocks new.blocks (image old.disk) (image new.disk) old.kept new.kept facts.0 (facts.3 t);
          same_device = same_pending (same_device g.D.Disk old.disk new.disk facts.5 facts.6 facts.4.states) facts.1.dirty;
          count = carries _ _ c.get.result facts.7;
        },
      ),
      record { bytes = bytes-of c.get.result _ _ _ (sym (page_of-image_in old.blocks (image old.disk) old.kept c.args.n c.requires)) c.get.ensures.bytes; after = tt },
    )
