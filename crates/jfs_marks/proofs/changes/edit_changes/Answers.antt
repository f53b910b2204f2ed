use Rattle.std.proofs.Common.{◌≡◌, ◌∙◌, ap, ◌+◌, ℕ, arith, add-one, rules}
use Rattle.jfs_disk.specs.Image.{Image, page_of}
use Rattle.jfs_marks.specs.declared.changes.Changes.{Changes}
use Rattle.jfs_marks.specs.Changes.{page_changes, pages_changes, pages_told, first_told}
use Rattle.jfs_marks.proofs.changes.edit_changes.Goals as goal

pub loop-i-preserved : goal.loop-i-preserved
loop-i-preserved g c = record {
  image = search rules;
  count_of_blocks = search rules;
  device = search rules;
  fault = search rules;
  changes = λ tells. rw add-one (
      let blocks = g.V.PageView.block_count c.args.view.now in
      let pages = page_of (g.V.PageView.image c.args.view.now) in
      let page = λ (b : ℕ) (image : Image) (p : ℕ) (now : Changes). page_changes b (page_of image) c.args.change.inodes.now c.args.change.founded c.args.change.tx.now c.args.change.written.now p now in
      let first : first_told c.args.edit.now ≡ c.in-Lines.page = ap first_told c.in-Lines.is in
      let at : c.from.result + c.from-in-loop-i.result ≡ first_told c.args.edit.now + c.loop-i.i = omega (arith, first, c.from.ensures, c.from-in-loop-i.ensures) in
      c.in-Ok.ensures.changes tells
      ∙ ap (λ (b : ℕ). page b (g.V.PageView.image c.loop-i.view) (c.from.result + c.from-in-loop-i.result) c.loop-i.changes) c.loop-i.invariant.count_of_blocks
      ∙ ap (λ (image : Image). page blocks image (c.from.result + c.from-in-loop-i.result) c.loop-i.changes) (c.loop-i.invariant.image tells)
      ∙ ap (λ (p : ℕ). page blocks (g.V.PageView.image c.args.view.now) p c.loop-i.changes) at
      ∙ ap (λ (now : Changes). page blocks (g.V.PageView.image c.args.view.now) (first_told c.args.edit.now + c.loop-i.i) now) (c.loop-i.invariant.changes tells));
}

pub returns-clause-changes : goal.returns-clause-changes
returns-clause-changes g c = λ tells.
    let all : c.loop-i.i ≡ pages_told c.args.edit.now = omega (arith, c.pages_told-i-end.ensures.value) in
    c.loop-i.invariant.changes tells ∙ ap (λ (k : ℕ). pages_changes (g.V.PageView.block_count c.args.view.now) (page_of (g.V.PageView.image c.args.view.now)) c.args.change.inodes.now c.args.change.founded c.args.change.tx.now c.args.change.written.now (first_told c.args.edit.now) k c.args.changes) all
