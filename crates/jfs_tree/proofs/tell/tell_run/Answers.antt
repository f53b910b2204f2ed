use Rattle.std.proofs.Common.{◌∙◌, ap, ◌++◌, ◌*◌, ◌-◌, ℕ, List, take, drop}
use Rattle.jfs_tree.proofs.Telling.{run_pushed, others_pushed}
use Rattle.jfs_tree.proofs.tell.tell_run.Goals as goal

pub returns-clause-told : goal.returns-clause-told
returns-clause-told c = run_pushed c.args.n c.args.kind c.args.tx.now c.push.new.self c.args.size c.args.first c.args.end c.extend_from_slice.new.self c.args.new.now.0 c.push.result c.requires.size.0 c.requires.size.1 c.requires.order c.requires.within c.push.ensures.ok
    (c.bytes-sized.ensures.size, c.in_ok-extend_from_slice.ensures.ok ∙ ap (λ (t : List ℕ). t ++ take (c.args.size * c.args.end - c.args.size * c.args.first) (drop (c.args.size * c.args.first) c.args.new.now.0)) c.new-bytes.ensures)

pub returns-clause-others : goal.returns-clause-others
returns-clause-others c = others_pushed c.args.n c.args.kind c.args.tx.now c.push.new.self c.args.size c.args.first c.args.end c.extend_from_slice.new.self c.args.new.now.0 c.push.result c.requires.size.0 c.requires.size.1 c.requires.order c.requires.within c.push.ensures.ok
    (c.bytes-sized.ensures.size, c.in_ok-extend_from_slice.ensures.ok ∙ ap (λ (t : List ℕ). t ++ take (c.args.size * c.args.end - c.args.size * c.args.first) (drop (c.args.size * c.args.first) c.args.new.now.0)) c.new-bytes.ensures)
