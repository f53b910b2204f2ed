use Rattle.std.proofs.Common.{◌≡◌, ◌∙◌, sym, ap, subst, ◌+◌, ◌-◌, ◌==◌, ◌++◌, ◌∷◌, take, drop, arith}
use Rattle.jfs_bits.specs.declared.extent.Xad.{Xad}
use Rattle.jfs_xtpage.specs.Page.{entries_of, entry_of, count_of}
use Rattle.jfs_xtpage.specs.declared.head.XtHead.{XtHead}
use Rattle.jfs_xtree.specs.Node.{with_at, lowered, child_entry}
use Rattle.jfs_xtree.proofs.Inners.{takes_of, child_parted}
use Rattle.jfs_xtree.proofs.Forms.{kind_through}
use Rattle.jfs_xtree.proofs.Halves.{full_count, both_counts, child_appends, inner_fills}
use Rattle.jfs_xtree.proofs.Frames.{page_kept, page_new}
use Rattle.jfs_xtree.proofs.form.XtPagesPageForm.split_child.Goals as goal

pub returns-clause-parts : goal.returns-clause-parts
returns-clause-parts c = λ all at rise.
    let takes = takes_of c.args.self.now.form c.args.self.now.blocks c.args.bytes.now c.args.place _ all at rise in
    let within = takes.within in
    let v = c.get_u16.ensures.value in
    let f = c.from.ensures in
    let m = c.min-before.ensures in
    let is : c.min-before.result ≡ c.args.place = omega (arith, within, v, f, m) in
    child_parted c.args.self.now.form c.args.self.now.blocks c.args.bytes.now c.make_way.new.bytes c.part.new.bytes c.part.new.right c.args.place c.args.child.now.key c.args.child.now.page c.part.result all at rise c.requires.within
    (subst (λ p. entries_of c.make_way.new.bytes ≡ take p (entries_of c.args.bytes.now) ++ lowered (p == 0) c.args.child.now.key (entry_of c.args.bytes.now p) ∷ drop (p + 1) (entries_of c.args.bytes.now)) is c.make_way.ensures.entries)
    (kind_through c.args.bytes.now c.make_way.new.bytes c.part.new.bytes c.make_way.ensures.head c.part.ensures.left) c.part.ensures.right
    (ap (λ p. with_at (entries_of c.make_way.new.bytes) (p + 1) (child_entry c.args.child.now.key c.args.child.now.page)) (sym is) ∙ ap (λ (x : Xad). with_at (entries_of c.make_way.new.bytes) (c.min-before.result + 1) x) (sym c.child_entry.ensures.is) ∙ c.part.ensures.rows) c.part.ensures.some c.part.ensures.begins

pub returns-clause-fills : goal.returns-clause-fills
returns-clause-fills c = λ appends least fills all at rise past.
    let within = (takes_of c.args.self.now.form c.args.self.now.blocks c.args.bytes.now c.args.place _ all at rise).within in
    let v = c.get_u16.ensures.value in
    let f = c.from.ensures in
    let m = c.min-before.ensures in
    let same : count_of c.make_way.new.bytes ≡ count_of c.args.bytes.now = ap (λ (h : XtHead). h.nextindex - 2) c.make_way.ensures.head in
    inner_fills least c.args.self.now.form c.args.self.now.blocks c.part.new.bytes c.part.new.right c.args.last all c.part.result (returns-clause-parts c all at rise)
    (both_counts appends least fills c.args.last (c.min-before.result + 1) (count_of c.make_way.new.bytes) (count_of c.part.new.bytes) (count_of c.part.new.right)
    (same ∙ full_count c.args.self.now.form c.args.bytes.now c.requires.below c.requires.full) (omega (arith, same, within, v, f, m)) c.part.ensures.last c.part.ensures.halves
    (λ e. let q = past e in (q.0, (let k = child_appends c.args.self.now.form c.args.self.now.blocks c.args.bytes.now c.args.place _ all at q.1 in omega (arith, k, same, within, v, f, m)))))

pub returns-clause-frame : goal.returns-clause-frame
returns-clause-frame c =
    page_kept c.args.self.now.form c.args.bytes.now c.part.new.bytes c.requires.below (c.part.ensures.left.max ∙ ap (λ (h : XtHead). h.maxentry) c.make_way.ensures.head) (c.part.ensures.own.0 ∙ ap (λ (h : XtHead). h.at) c.make_way.ensures.head)

pub returns-clause-new : goal.returns-clause-new
returns-clause-new c = λ all at rise. page_new c.args.self.now.form c.part.new.right c.args.q c.requires.below c.part.ensures.right.1 c.part.ensures.own.1
