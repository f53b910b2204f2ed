-- One inode more, and all of them.
use Rattle.std.proofs.Common.{length, ap, ◌∙◌, ◌++◌, arith}
use Rattle.jfs_link_check.proofs.All.{none_left, one_left, all_found}
use Rattle.jfs_link_check.proofs.links.check_links.Goals as goal

pub loop-n-init : goal.loop-n-init
loop-n-init c = record { found = λ names all past. none_left names (length c.args.names.now.counts.counts) c.args.places.now c.args.names.now.uses _ }

pub loop-n-preserved : goal.loop-n-preserved
loop-n-preserved c = record {
  found = λ names all past. one_left names (length c.args.names.now.counts.counts) c.args.places.now c.args.names.now.uses c.loop-n.n _ c.loop-n.findings.items c.judge.new.findings.items (c.loop-n.invariant.found names all past)
      (c.in_ok-judge.ensures names all (past c.loop-n.n));
}

pub returns : goal.returns
returns c = record {
  found = all_found c.args.names.now c.args.places.now c.loop-n.n c.args.findings.now.items c.extend_from_slice.new.self.items c.loop-n.findings.items
      (c.in-Ok.ensures.items ∙ ap (λ fs. c.args.findings.now.items ++ fs) c.as_slice.ensures.value)
      (let past = c.loop-n-test.false in let most = c.loop-n.auto.n-end in let size = c.len-n-end.ensures in omega (arith, past, most, size))
      c.loop-n.invariant.found;
}
