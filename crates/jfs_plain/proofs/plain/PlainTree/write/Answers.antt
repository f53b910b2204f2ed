use Rattle.std.proofs.Common.{◌≡◌, ◌∙◌, ◌+◌, rules, length, Some, ◌<◌, ◌^◌}
use Rattle.jfs_plain.specs.Step.{is_short, blocks_in, size_after}
use Rattle.jfs_plain.specs.Plain.{ample}
use Rattle.jfs_plain.proofs.Chained.{became, and_changed, then_ok, then_within, unless_false}
use Rattle.jfs_plain.proofs.Splice.{enough}
use Rattle.jfs_plain.proofs.plain.PlainTree.write.Goals as goal

pub returns-clause-answer : goal.returns-clause-answer
returns-clause-answer c =
    let size : size_after c.args.self.now.file_limit c.in_ok-n.node.now.size (c.args.offset + length c.args.bytes.now) ≡ Some c.in-Some.size = search rules in
    let fits : c.args.offset + length c.args.bytes.now < 2 ^ 64 = search rules in (
      _,
      then_ok _ c.in_ok-n.ensures.ok ∙ then_within _ size
          ∙ unless_false (is_short (ample c.args.self.now.file_limit c.args.supply.inode) (blocks_in c.args.offset (length c.args.bytes.now) + 8)) _ _ (enough c.args.offset (length c.args.bytes.now) fits),
      and_changed _ _ (became c.in_ok-put.ensures.ok) c.resize.ensures,
    )
