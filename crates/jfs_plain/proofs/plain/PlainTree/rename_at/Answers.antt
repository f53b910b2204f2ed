use Rattle.std.proofs.Common.{◌≡◌, ◌==◌, true, false, None, rules}
use Rattle.jfs_plain.specs.Tree.{place_at, found_at}
use Rattle.jfs_plain.specs.Step.{occupant, links_of, why_barred, why_kept}
use Rattle.jfs_plain.specs.Plain.{ample, tree_of}
use Rattle.jfs_plain.proofs.Chained.{same, became, and_shifts, and_displaced, and_departs, to_same, to_free, to_taken}
use Rattle.jfs_plain.proofs.plain.PlainTree.rename_at.Goals as goal

pub returns-then-old-n-clause-answer : goal.returns-then-old-n-clause-answer
returns-then-old-n-clause-answer c =
    let is : (c.in-Some.old == c.args.n) ≡ true = search rules in
    (_, to_same (ample c.args.self.now.file_limit c.args.supply.inode) (tree_of c.args.self.now) c.args.n c.args.is_dir c.args.inside (place_at c.args.from.0 c.args.from.1.now) (place_at c.args.to.0 c.args.to.1.now) c.args.supply.now (occupant (tree_of c.args.self.now) (place_at c.args.to.0 c.args.to.1.now)) (found_at c.in-Some.old c.in-Some.node.now) c.in-Some.ensures.some is, same _)

pub returns-in_ok-gain-in-None-clause-answer : goal.returns-in_ok-gain-in-None-clause-answer
returns-in_ok-gain-in-None-clause-answer c =
    let free : why_barred c.args.is_dir c.args.inside (c.args.from.0 == c.args.to.0) (links_of (tree_of c.args.self.now) c.args.to.0) ≡ None = search rules in (
      _,
      to_free c.args.self.now.file_limit c.args.supply.inode (tree_of c.args.self.now) c.args.n c.args.is_dir c.args.inside (place_at c.args.from.0 c.args.from.1.now) (place_at c.args.to.0 c.args.to.1.now) c.args.supply.now (occupant (tree_of c.args.self.now) (place_at c.args.to.0 c.args.to.1.now)) c.in-None.ensures.none free,
      and_departs c.args.n c.args.is_dir (place_at c.args.from.0 c.args.from.1.now) c.args.to.0 c.args.supply.now (and_shifts c.args.is_dir c.args.from.0 c.args.to.0 (became c.in_ok-gain-in-None.ensures.ok) c.shift.ensures) c.depart.ensures,
    )

pub returns-in_default-why_kept-clause-answer : goal.returns-in_default-why_kept-clause-answer
returns-in_default-why_kept-clause-answer c =
    let other : (c.in-Some.old == c.args.n) ≡ false = search rules in
    let kept : why_kept c.args.self.now.file_limit c.args.is_dir c.args.inside c.in-Some.node.now ≡ None = search rules in (
      _,
      to_taken c.args.self.now.file_limit c.args.supply.inode (tree_of c.args.self.now) c.args.n c.args.is_dir c.args.inside (place_at c.args.from.0 c.args.from.1.now) (place_at c.args.to.0 c.args.to.1.now) c.args.supply.now (occupant (tree_of c.args.self.now) (place_at c.args.to.0 c.args.to.1.now)) (found_at c.in-Some.old c.in-Some.node.now) c.in-Some.ensures.some other kept,
      and_departs c.args.n c.args.is_dir (place_at c.args.from.0 c.args.from.1.now) c.args.to.0 c.args.supply.now (and_displaced c.in-Some.old c.args.is_dir c.in-Some.node.now.links c.args.from.0 c.args.supply.now (became c.lead.ensures) c.displace.ensures) c.depart-in-Some.ensures,
    )
