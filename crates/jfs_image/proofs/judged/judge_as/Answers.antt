use Rattle.std.proofs.Common.{refl, subst, sym, ◌∙◌}
use Rattle.jfs_disk.specs.Image.{page_of}
use Rattle.jfs_reader.specs.meaning.specs.Readers.{readers}
use Rattle.jfs_image.specs.View.{image_of, blocks_in}
use Rattle.jfs_image.specs.Held.{NamesMay, ExtentsMay}
use Rattle.jfs_image.proofs.Holding.{broken_inode, broken_names, broken_extents}
use Rattle.jfs_image.proofs.Judging.{sound_inode}
use Rattle.jfs_image.proofs.judged.judge_as.Goals as goal

pub returns-then-not-keeps_rules : goal.returns-then-not-keeps_rules
returns-then-not-keeps_rules c = (
  sym c.is_live.ensures ∙ c.if-not-is_live.false,
  broken_inode (readers (blocks_in c.args.view.now)) (page_of (image_of c.args.view.now)) c.args.n c.args.d.now c.keeps_rules.result c.keeps_rules.ensures c.if-not-keeps_rules.true,
)

pub returns-in_default : goal.returns-in_default
returns-in_default c = (
  sym c.is_live.ensures ∙ c.if-not-is_live.false,
  broken_names (readers (blocks_in c.args.view.now)) (page_of (image_of c.args.view.now)) c.args.n c.args.d.now
      (subst (NamesMay (readers (blocks_in c.args.view.now)) (page_of (image_of c.args.view.now)) c.args.d.now) c.in_default.is c.in_ok-names.ensures),
)

pub returns-in_default-2 : goal.returns-in_default-2
returns-in_default-2 c = (
  sym c.is_live.ensures ∙ c.if-not-is_live.false,
  broken_extents (readers (blocks_in c.args.view.now)) (page_of (image_of c.args.view.now)) c.args.n c.args.d.now
      (subst (ExtentsMay (readers (blocks_in c.args.view.now)) (page_of (image_of c.args.view.now)) c.args.d.now) c.in_default-2.is c.in_ok-extents.ensures),
)

pub returns : goal.returns
returns c = (
  refl,
  sym c.is_live.ensures ∙ c.if-not-is_live.false,
  sound_inode (readers (blocks_in c.args.view.now)) (page_of (image_of c.args.view.now)) c.args.n c.args.d.now c.keeps_rules.result c.in-Some.names c.in-Some-2.extents c.keeps_rules.ensures c.if-not-keeps_rules.false
      (subst (NamesMay (readers (blocks_in c.args.view.now)) (page_of (image_of c.args.view.now)) c.args.d.now) c.in-Some.is c.in_ok-names.ensures)
      (subst (ExtentsMay (readers (blocks_in c.args.view.now)) (page_of (image_of c.args.view.now)) c.args.d.now) c.in-Some-2.is c.in_ok-extents.ensures),
)
