use Rattle.jfs_bits.specs.Bits.{is_taken}
use Rattle.jfs_map_check.proofs.IagPages.{free_is, missing_most, extents_is, iag_decided}
use Rattle.jfs_map_check.proofs.iag_page.judge_iag.Goals as goal

pub overflow_sub-result : goal.overflow_sub-result
overflow_sub-result c = missing_most (is_taken c.args.set.now) c.args.number c.args.page.now.0 c.iag_canonical.new.page.0 c.read_iag-have.result c.read_iag-want.result c.read_iag-have.ensures.value c.read_iag-want.ensures.value c.iag_canonical.ensures

pub returns-clause-canonical : goal.returns-clause-canonical
returns-clause-canonical c = iag_decided (is_taken c.args.set.now) c.args.number c.args.page.now.0 c.iag_canonical.new.page.0 c.read_iag-have.result c.read_iag-want.result c.read_iag-have.ensures.value c.read_iag-want.ensures.value c.iag_canonical.ensures c.same_iag.result c.same_iag.ensures

pub returns-clause-extents : goal.returns-clause-extents
returns-clause-extents c = extents_is (is_taken c.args.set.now) c.args.number c.args.page.now.0 c.iag_canonical.new.page.0 c.read_iag-have.result c.read_iag-want.result c.read_iag-have.ensures.value c.read_iag-want.ensures.value c.iag_canonical.ensures

pub returns-clause-free : goal.returns-clause-free
returns-clause-free c = free_is (is_taken c.args.set.now) c.args.number c.args.page.now.0 c.iag_canonical.new.page.0 c.read_iag-have.result c.read_iag-want.result c.read_iag-have.ensures.value c.read_iag-want.ensures.value c.iag_canonical.ensures
