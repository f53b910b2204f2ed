use Rattle.std.proofs.Common.{◌∙◌, ◌/◌, ◌%◌, sym, subst}
use Rattle.jfs_reader.specs.objects.specs.Contents.{block_of}
use Rattle.jfs_reader.specs.Reading.{PageIs}
use Rattle.std.proofs.Common.{Err, ℕ}
use Rattle.jfs_image.specs.View.{image_of}
use Rattle.jfs_image.proofs.Viewed.{byte_some, byte_hole, byte_outside}
use Rattle.jfs_image.proofs.content.stored_byte.Goals as goal

pub returns-in-Ok-Some : goal.returns-in-Ok-Some
returns-in-Ok-Some c = c.byte.ensures ∙ byte_some (image_of c.args.view.now) (block_of c.args.extents.now (c.args.i / 4096)) c.in-Ok-Some.n (c.args.i % 4096) (sym c.in-Ok-Some.field-0-is ∙ c.in-Ok-Some.ensures.0)

pub returns-in-Ok-None : goal.returns-in-Ok-None
returns-in-Ok-None c = byte_hole (image_of c.args.view.now) (block_of c.args.extents.now (c.args.i / 4096)) (c.args.i % 4096) (sym c.in-Ok-None.field-0-is ∙ c.in-Ok-None.ensures.0)

pub returns-in-Err : goal.returns-in-Err
returns-in-Err c = byte_outside (image_of c.args.view.now) (block_of c.args.extents.now (c.args.i / 4096)) (c.args.i % 4096) c.in-Err.field-0 (subst (λ (blocks : ℕ). PageIs blocks (block_of c.args.extents.now (c.args.i / 4096)) (Err c.in-Err.field-0)) c.len.ensures c.in-Err.ensures)
