use Rattle.std.proofs.Common.{◌≡◌, ◌∙◌, ◌*◌, ℕ, not, is_some, sym, subst, true, false, Option, Some, None, arith}
use Rattle.jfs_disk.specs.Image.{page_of}
use Rattle.jfs_reader.specs.objects.specs.Image.{extent_on}
use Rattle.jfs_reader.specs.meaning.specs.Readers.{readers}
use Rattle.jfs_reader.specs.meaning.specs.Room.{lowest}
use Rattle.jfs_image.specs.View.{image_of, blocks_in}
use Rattle.jfs_image.proofs.Lowest.{lowest_below}
use Rattle.jfs_image.proofs.Spaces.{fresh_free, fresh_none, fresh_place}
use Rattle.jfs_image.proofs.room.fresh.Goals as goal

pub returns-then-is_some : goal.returns-then-is_some
returns-then-is_some c = fresh_free (image_of c.args.opened.now.view) c.args.opened.now c.requires.opened c.args.tally.now c.requires.tallied (let some : is_some c.args.tally.now.free ≡ true = cc (c.is_some.ensures, c.if-is_some.true) in some)

pub returns-then-not-has_run : goal.returns-then-not-has_run
returns-then-not-has_run c =
    fresh_none (image_of c.args.opened.now.view) c.args.opened.now c.requires.opened c.args.tally.now c.has_run.result c.requires.tallied (let full : is_some c.args.tally.now.free ≡ false = cc (c.is_some.ensures, c.if-is_some.false) in full) c.has_run.ensures c.if-not-has_run.true

pub returns-in-Some : goal.returns-in-Some
returns-in-Some c =
    fresh_place (image_of c.args.opened.now.view) c.args.opened.now c.requires.opened c.args.tally.now c.has_run.result (Some c.in-Some.place) c.requires.tallied (let full : is_some c.args.tally.now.free ≡ false = cc (c.is_some.ensures, c.if-is_some.false) in full) c.has_run.ensures c.if-not-has_run.false
    (subst (λ (k : ℕ). Some c.in-Some.place ≡ lowest (128 * c.args.opened.now.map.iags) (λ e. not (is_some (extent_on (readers k) (page_of (image_of c.args.opened.now.view)) e)))) (sym c.requires.opened.ready.blocks_are)
    (sym c.in-Some.is ∙ c.in_ok-found.ensures))

pub returns-in-None : goal.returns-in-None
returns-in-None c =
    fresh_place (image_of c.args.opened.now.view) c.args.opened.now c.requires.opened c.args.tally.now c.has_run.result None c.requires.tallied (let full : is_some c.args.tally.now.free ≡ false = cc (c.is_some.ensures, c.if-is_some.false) in full) c.has_run.ensures c.if-not-has_run.false
    (subst (λ (k : ℕ). (let none : Option ℕ = None in none ≡ lowest (128 * c.args.opened.now.map.iags) (λ e. not (is_some (extent_on (readers k) (page_of (image_of c.args.opened.now.view)) e))))) (sym c.requires.opened.ready.blocks_are)
    (sym c.in-None.is ∙ c.in_ok-found.ensures))

pub overflow_mul-result : goal.overflow_mul-result
overflow_mul-result c =
    let below = lowest_below (128 * c.args.opened.now.map.iags) (λ e. not (is_some (extent_on (readers (blocks_in c.args.opened.now.view)) (page_of (image_of c.args.opened.now.view)) e))) c.in-Some.place (sym c.in-Some.is ∙ c.in_ok-found.ensures) in
    let few = c.requires.few in
    omega (arith, below, few)
