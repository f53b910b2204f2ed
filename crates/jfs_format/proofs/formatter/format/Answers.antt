use Rattle.std.proofs.Common.{◌∙◌, sym, ap}
use Rattle.jfs_disk.specs.Image.{Image, page_of}
use Rattle.jfs_disk.specs.Crash.{last_of}
use Rattle.jfs_disk.proofs.Flow.{starts, crash-resting}
use Rattle.jfs_format.specs.Layout.{layout_of}
use Rattle.jfs_format.specs.Volume.{wanted, IsOnTheWay}
use Rattle.jfs_format.proofs.Ways.{way-before, way-of, super-read}
use Rattle.jfs_format.proofs.formatter.format.Goals as goal

pub returns-then-pages-lt-LEAST_PAGES-clause-moments : goal.returns-then-pages-lt-LEAST_PAGES-clause-moments
returns-then-pages-lt-LEAST_PAGES-clause-moments g c = λ t k rests.
    let laws = g.met.D.Disk in
    let old = c.args.disk.now in
    let v = wanted (g.D.Disk.page_count old) c.args.uuid c.args.label.now c.args.now in
    starts (IsOnTheWay v (g.D.Disk.image old)) (g.D.Disk.past old) (laws.has_state old k)
    (λ left crash. way-before v (g.D.Disk.image old) left (λ n keeps. ap (λ (im : Image). page_of im n) (crash-resting (last_of (g.D.Disk.past old)) left rests crash ∙ sym (laws.reads_now old k))))

pub returns-in-Ok-clause-moments : goal.returns-in-Ok-clause-moments
returns-in-Ok-clause-moments g c = λ t k rests left since.
    way-of (g.D.Disk.page_count c.args.disk.now) c.args.uuid c.args.label.now c.args.now c.of.result c.as_bytes.result.now c.label_field.result (g.D.Disk.image c.args.disk.now) left
    (c.of.ensures.value ∙ ap layout_of c.pages-pages.ensures) c.as_bytes.ensures c.label_field.ensures (c.in-Ok.ensures.moments t k rests left since)

pub returns-in-Err-clause-moments : goal.returns-in-Err-clause-moments
returns-in-Err-clause-moments g c = λ t k rests left since.
    way-of (g.D.Disk.page_count c.args.disk.now) c.args.uuid c.args.label.now c.args.now c.of.result c.as_bytes.result.now c.label_field.result (g.D.Disk.image c.args.disk.now) left
    (c.of.ensures.value ∙ ap layout_of c.pages-pages.ensures) c.as_bytes.ensures c.label_field.ensures (c.in-Err.ensures.moments t k rests left since)

pub returns-in-Ok-clause-reads : goal.returns-in-Ok-clause-reads
returns-in-Ok-clause-reads g c = λ t.
    super-read (g.D.Disk.page_count c.args.disk.now) c.args.uuid c.args.label.now c.args.now c.of.result c.as_bytes.result.now c.label_field.result (g.D.Disk.image c.write_volume.new.disk)
    (c.of.ensures.value ∙ ap layout_of c.pages-pages.ensures) c.as_bytes.ensures c.label_field.ensures (c.in-Ok.ensures.volume t).super_block c.in-Ok.ensures.reads
