use Rattle.std.proofs.Common.{◌+◌, refl, sym, subst, ℕ, Some, arith}
use Rattle.jfs_disk.specs.Image.{page_of}
use Rattle.jfs_reader.specs.objects.specs.Objects.{spelled}
use Rattle.jfs_reader.specs.objects.specs.Owners.{holds}
use Rattle.jfs_reader.specs.meaning.specs.Readers.{readers}
use Rattle.jfs_owners.specs.Counts.{Adds}
use Rattle.jfs_image.specs.View.{image_of}
use Rattle.jfs_image.specs.Judged.{Judges}
use Rattle.jfs_image.proofs.Tallying.{tallied_missing, tallied_free, tallied_sound}
use Rattle.jfs_image.proofs.tally.count.Goals as goal

pub returns-in-Missing : goal.returns-in-Missing
returns-in-Missing c =
    tallied_missing (image_of c.args.view.now) c.args.n (c.args.n + 1) c.args.tally.now (omega arith) (subst (Judges (image_of c.args.view.now) c.args.n) c.in-Missing.is c.in_ok-judge.ensures) c.requires.before

pub returns-in-Free : goal.returns-in-Free
returns-in-Free c =
    let told = subst (Judges (image_of c.args.view.now) c.args.n) c.in-Free.is c.in_ok-judge.ensures in
    tallied_free (image_of c.args.view.now) c.args.n (c.args.n + 1) c.args.tally.now (record c.args.tally.now { free = c.lowest_of-tally.result }) (omega arith) told.0 told.1 refl c.lowest_of-tally.ensures c.requires.before

pub returns-in_ok-count_object-in-Sound : goal.returns-in_ok-count_object-in-Sound
returns-in_ok-count_object-in-Sound c =
    let told = subst (Judges (image_of c.args.view.now) c.args.n) c.in-Sound.is c.in_ok-judge.ensures in
    tallied_sound (image_of c.args.view.now) c.args.n (c.args.n + 1) c.args.tally.now (record c.args.tally.now { owners = c.count_object.new.owners }) c.in-Sound.d (omega arith) told.0 told.1 told.2
    (subst (λ (k : ℕ). Adds (holds (readers k) (Some (spelled (readers k) (page_of (image_of c.args.view.now)) c.in-Sound.d))) c.args.tally.now.owners c.count_object.new.owners) (sym c.requires.ready.blocks_are) c.in_ok-count_object-in-Sound.ensures)
    refl c.requires.before

pub returns-in-Broken : goal.returns-in-Broken
returns-in-Broken c = subst (Judges (image_of c.args.view.now) c.args.n) c.in-Broken.is c.in_ok-judge.ensures
