use Rattle.std.proofs.Common.{ap, sym, ◌∙◌, [], ◌∷◌, ◌++◌}
use Rattle.jfs_written.proofs.Steps.{joined_pushed, apart_pushed}
use Rattle.jfs_written.proofs.parts.push_joined.Goals as goal

pub returns-then-continues : goal.returns-then-continues
returns-then-continues c =
    joined_pushed c.args.list.now.items c.pop.new.self.items c.push-then-continues.new.self.items c.in-Some.last c.args.x c.in-Some.ensures.items (sym c.continues.ensures ∙ c.if-continues.true)
    (c.in_ok-push-2.ensures.items ∙ ap (λ y. c.pop.new.self.items ++ y ∷ []) c.merged.ensures)

pub returns : goal.returns
returns c =
    apart_pushed c.args.list.now.items c.pop.new.self.items c.push-2.new.self.items c.push-3.new.self.items c.in-Some.last c.args.x c.in-Some.ensures.items (sym c.continues.ensures ∙ c.if-continues.false) c.in_ok-push-3.ensures.items
    c.in_ok-push-4.ensures.items
