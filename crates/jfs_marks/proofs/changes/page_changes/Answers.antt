use Rattle.std.proofs.Common.{◌≡◌, ◌∙◌, sym, ap, not, ◌&&◌, nat_lt, if◌then◌else◌, Bool, true, false, List, ℕ, arith}
use Rattle.std.proofs.lemmas.Bool.{lt-ltb}
use Rattle.jfs_disk.specs.Image.{page_of}
use Rattle.jfs_ranges.specs.Apply.{apply_tx}
use Rattle.jfs_data_steps.specs.After.{is_put}
use Rattle.jfs_marks.specs.Changes.{slots_changes, too_many}
use Rattle.jfs_marks.proofs.changes.page_changes.Goals as goal

pub returns-clause-changes : goal.returns-clause-changes
returns-clause-changes g c = λ tells.
    let p = c.args.p in
    let page : List ℕ = page_of (g.V.PageView.image c.args.view.now) p in
    let slots = λ (before after : List ℕ). slots_changes c.args.change.inodes.now c.args.change.founded p before after 8 c.args.changes in
    let bytes : c.in-Ok.page.now.0 ≡ page = c.in-Ok.ensures.bytes tells in
    let after : c.apply.new.page.0 ≡ apply_tx p c.args.change.tx.now page = c.apply.ensures ∙ ap (λ (x : List ℕ). apply_tx p c.args.change.tx.now x) bytes in
    let within : nat_lt p (g.V.PageView.block_count c.args.view.now) ≡ true = lt-ltb p (g.V.PageView.block_count c.args.view.now) (omega (arith, c.if-p-from.false, c.from.ensures, c.blocks-2.ensures)) in
    let apart : is_put p c.args.change.written.now ≡ false = sym c.is_put.ensures ∙ c.if-is_put.false in
    c.slots_changes.ensures ∙ ap (λ (x : List ℕ). slots x c.apply.new.page.0) bytes ∙ ap (λ (x : List ℕ). slots page x) after
    ∙ sym (ap (λ (x : Bool). if x && not (is_put p c.args.change.written.now) then slots page (apply_tx p c.args.change.tx.now page) else too_many) within
    ∙ ap (λ (x : Bool). if not x then slots page (apply_tx p c.args.change.tx.now page) else too_many) apart)
