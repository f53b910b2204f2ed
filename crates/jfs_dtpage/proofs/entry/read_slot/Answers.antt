use Rattle.std.proofs.Common.{ℕ, Bool, ap, sym, ◌∙◌, subst}
use Rattle.jfs_dtpage.specs.Form.{is_leaf}
use Rattle.jfs_dtpage.specs.Slots.{AreWithin}
use Rattle.jfs_dtpage.specs.Page.{chain_of, name_of}
use Rattle.jfs_dtpage.proofs.Pages.{chain_within, name_is}
use Rattle.jfs_dtpage.proofs.entry.read_slot.Goals as goal

pub read_name-requires-clause-within : goal.read_name-requires-clause-within
read_name-requires-clause-within c =
    subst (λ (b : Bool). AreWithin c.args.bytes.now (chain_of b c.args.bytes.now c.slot_at.result)) (sym c.is_leaf.ensures)
    (subst (λ (s : ℕ). AreWithin c.args.bytes.now (chain_of (is_leaf c.args.bytes.now) c.args.bytes.now s)) (sym c.slot_at.ensures) (chain_within c.args.form c.args.bytes.now c.args.place c.requires.size c.requires.chains c.requires.place))

pub returns-clause-name : goal.returns-clause-name
returns-clause-name c =
    c.read_name.ensures.name ∙ ap (λ (b : Bool). name_of b c.args.bytes.now c.slot_at.result) c.is_leaf.ensures ∙ ap (λ (s : ℕ). name_of (is_leaf c.args.bytes.now) c.args.bytes.now s) c.slot_at.ensures
    ∙ sym (name_is c.args.form c.args.bytes.now c.args.place c.requires.place)
