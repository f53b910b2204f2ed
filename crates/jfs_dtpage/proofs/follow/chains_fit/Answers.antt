use Rattle.std.proofs.Common.{◌⊎◌, ◌<◌, Bool, refl, subst, arith}
use Rattle.jfs_dtpage.specs.Form.{count_of}
use Rattle.jfs_dtpage.specs.Met.{HasMet, IsTaken}
use Rattle.jfs_dtpage.specs.Page.{chain_of, Ends}
use Rattle.jfs_dtpage.proofs.Meeting.{all_start, all_more, all_broken, all_met}
use Rattle.jfs_dtpage.proofs.follow.chains_fit.Goals as goal

pub loop-place-init : goal.loop-place-init
loop-place-init c = all_start c.args.form c.args.bytes.now c.args.left.now c.requires.first

pub returns-then-not-entry_fits-clause-no : goal.returns-then-not-entry_fits-clause-no
returns-then-not-entry_fits-clause-no c = λ e fit.
    let h : c.loop-place.place < count_of c.args.bytes.now = let t = c.loop-place-test.true in omega (arith, t, c.count_of-place-end.ensures) in
    all_broken c.args.form c.args.bytes.now c.loop-place.left c.loop-place.place c.slot_at.result h c.slot_at.ensures c.loop-place.invariant
    (subst (λ (leaf : Bool). (Ends leaf c.args.bytes.now c.slot_at.result → ⊥) ⊎ IsTaken c.loop-place.left (chain_of leaf c.args.bytes.now c.slot_at.result)) c.is_leaf-leaf.ensures (c.if-not-entry_fits.ensures.no refl)) fit

pub loop-place-preserved : goal.loop-place-preserved
loop-place-preserved c =
    let h : c.loop-place.place < count_of c.args.bytes.now = let t = c.loop-place-test.true in omega (arith, t, c.count_of-place-end.ensures) in
    let y = c.if-not-entry_fits.ensures.yes refl in
    all_more c.args.form c.args.bytes.now c.loop-place.left c.entry_fits.new.left c.loop-place.place c.slot_at.result h c.slot_at.ensures c.loop-place.invariant
    (subst (λ (leaf : Bool). Ends leaf c.args.bytes.now c.slot_at.result) c.is_leaf-leaf.ensures y.0)
    (subst (λ (leaf : Bool). HasMet c.loop-place.left c.entry_fits.new.left (chain_of leaf c.args.bytes.now c.slot_at.result)) c.is_leaf-leaf.ensures y.1)

pub returns-clause-yes : goal.returns-clause-yes
returns-clause-yes c = λ e.
    all_met c.args.form c.args.bytes.now c.loop-place.left c.loop-place.place (let t = c.loop-place-test.false in omega (arith, t, c.count_of-place-end.ensures)) c.loop-place.invariant
