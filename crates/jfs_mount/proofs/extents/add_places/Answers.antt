use Rattle.std.proofs.Common.{◌∙◌, ap, sym, subst, ◌+◌, ◌*◌, ℕ, List, Option}
use Rattle.jfs_bits.specs.Descriptor.{pxd_of}
use Rattle.jfs_reader.specs.objects.specs.Image.{extent_place}
use Rattle.jfs_each.specs.Each.{AllFit}
use Rattle.jfs_mount.specs.Files.{extent_in}
use Rattle.jfs_mount.proofs.Inodes.{one_more, one_fit, one_fits}
use Rattle.jfs_mount.proofs.extents.add_places.Goals as goal

pub loop-k-preserved : goal.loop-k-preserved
loop-k-preserved c =
    let i = c.loop-k.invariant in
    let page = c.args.page.now.0 in
    let items = c.in_ok-push-in-Ok.ensures.items in
    let is = c.get_pxd.ensures.value ∙ ap (λ (bytes : List ℕ). pxd_of bytes (3072 + 8 * c.loop-k.k)) c.bytes-bytes.ensures.value in
    record {
      places = items ∙ one_more (λ k. extent_place (extent_in page k)) c.args.places.now.items c.loop-k.places.items c.loop-k.k c.in-Ok.place i.places (c.in-Ok.ensures.1 ∙ ap extent_place is);
      fits = one_fit c.args.blocks page c.loop-k.k c.get_pxd.result is c.in-Ok.ensures.0 i.fits;
      fit = λ all. subst (λ (places : List (Option ℕ)). AllFit c.args.blocks places) (sym items) (one_fits c.args.blocks c.loop-k.places.items c.in-Ok.place c.get_pxd.result (i.fit all) c.in-Ok.ensures.0 c.in-Ok.ensures.1);
    }
