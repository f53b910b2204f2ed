use Rattle.std.proofs.Common.{◌∙◌, ap, subst, ℕ, List, [], Option}
use Rattle.std.specs.Option.{unwrap_or}
use Rattle.jfs_disk.specs.Image.{page_of}
use Rattle.jfs_reader.specs.objects.specs.Contents.{block_of, bytes_at}
use Rattle.jfs_mount.specs.Files.{AddsIag}
use Rattle.jfs_mount.proofs.extents.add_iag.Goals as goal

pub returns-in-Ok-add_places-clause-adds : goal.returns-in-Ok-add_places-clause-adds
returns-in-Ok-add_places-clause-adds g c tells =
    let page = page_of (g.V.PageView.image c.args.view.now) in
    subst (λ (n : ℕ). AddsIag n (unwrap_or (bytes_at page (block_of c.args.extents.now c.args.j)) []) c.args.places.now.items c.add_places.new.places.items c.in-Ok-add_places.misfit) c.blocks-blocks.ensures
    (subst (λ (bytes : List ℕ). AddsIag c.blocks-blocks.result bytes c.args.places.now.items c.add_places.new.places.items c.in-Ok-add_places.misfit)
    (c.in-Ok.ensures.bytes tells ∙ ap (λ (o : Option ℕ). unwrap_or (bytes_at page o) []) c.in-Some.ensures.page) c.in-Ok-add_places.ensures.adds)
