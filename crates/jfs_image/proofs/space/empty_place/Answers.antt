use Rattle.std.proofs.Common.{not, is_some, arith, below_more}
use Rattle.jfs_disk.specs.Image.{page_of}
use Rattle.jfs_reader.specs.objects.specs.Image.{extent_on}
use Rattle.jfs_reader.specs.meaning.specs.Readers.{readers}
use Rattle.jfs_image.specs.View.{image_of, blocks_in}
use Rattle.jfs_image.proofs.Lowest.{lowest_at, lowest_none}
use Rattle.jfs_image.proofs.Spaces.{empty_there, empty_not}
use Rattle.jfs_image.proofs.space.empty_place.Goals as goal

pub loop-e-preserved : goal.loop-e-preserved
loop-e-preserved c = below_more _ _ c.loop-e.invariant (empty_not _ _ _ c.in_ok-place.ensures c.is_none.ensures c.if-is_none.false)

pub returns-then-is_none : goal.returns-then-is_none
returns-then-is_none c =
    lowest_at c.args.places c.loop-e.e (λ e. not (is_some (extent_on (readers (blocks_in c.args.view.now)) (page_of (image_of c.args.view.now)) e))) (let l = c.loop-e-test.true in omega (arith, l))
    (empty_there _ _ _ c.in_ok-place.ensures c.is_none.ensures c.if-is_none.true) c.loop-e.invariant

pub returns : goal.returns
returns c =
    lowest_none c.args.places (λ e. not (is_some (extent_on (readers (blocks_in c.args.view.now)) (page_of (image_of c.args.view.now)) e)))
    (λ k l. c.loop-e.invariant k (let last = c.loop-e-test.false in omega (arith, l, last)))
