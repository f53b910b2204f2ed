use Rattle.std.proofs.Common.{◌≡◌, ◌+◌, ◌∙◌, inl, inr, sym, arith}
use Rattle.std.proofs.lemmas.Bool.{cases_lt}
use Rattle.jfs_bmap.specs.Set.{taken_at}
use Rattle.jfs_bmap.proofs.Views.{length-held, taken_at-past}
use Rattle.jfs_bmap.proofs.Grows.{is_free-none, is_free-more}
use Rattle.jfs_bmap.proofs.map_pages.MapPages.free_front.Goals as goal

pub loop-n-init : goal.loop-n-init
loop-n-init c = is_free-none (taken_at c.args.self.now) c.args.first

pub returns-then-is_taken-clause-within : goal.returns-then-is_taken-clause-within
returns-then-is_taken-clause-within c some =
    let size = length-held c.self.inside.blocks c.self.inside.dmaps.items c.args.self.now c.self.view_is in
    omega arith

pub loop-n-preserved : goal.loop-n-preserved
loop-n-preserved c = is_free-more (taken_at c.args.self.now) c.args.first c.loop-n.n c.loop-n.invariant (sym c.is_taken.ensures ∙ c.if-is_taken.false)

pub returns-clause-front : goal.returns-clause-front
returns-clause-front c =
    let size = length-held c.self.inside.blocks c.self.inside.dmaps.items c.args.self.now c.self.view_is in
    let all : c.loop-n.n ≡ c.min-most.result = omega arith in
    record {
      most = omega arith;
      free = rw all at c.loop-n.invariant;
      end = elim (cases_lt c.min-most.result c.args.most) [
        | inl h ↦ inr (taken_at-past c.args.self.now (c.args.first + c.min-most.result) (omega arith))
        | inr h ↦ inl (omega arith)
      ];
    }

pub returns-clause-within : goal.returns-clause-within
returns-clause-within c some =
    let size = length-held c.self.inside.blocks c.self.inside.dmaps.items c.args.self.now c.self.view_is in
    omega arith
