use Rattle.std.proofs.Common.{◌≡◌, ◌-◌, ◌*◌, ◌∙◌, ℕ, List, length, get_or, refl, ap, arith}
use Rattle.std.specs.Prelude.{replicate}
use Rattle.jfs_bits.specs.Field.{range_of}
use Rattle.jfs_bits.specs.Bits.{is_taken}
use Rattle.jfs_bits.proofs.Parts.{range_of-replicate}
use Rattle.jfs_iag.specs.declared.control.InodeControl.{InodeControl}
use Rattle.jfs_iag.specs.Iag.{no_run}
use Rattle.jfs_iag.proofs.Carried.{control-carried}
use Rattle.jfs_imap.specs.Inodes.{inodes_of, is_used, extent_at}
use Rattle.jfs_imap.proofs.Listed.{same-sets}
use Rattle.jfs_imap.proofs.inode_map.InodeMap.write_control.Goals as goal

zeros : (page : List ℕ) (size : ℕ) → page ≡ replicate size 0 → size ≡ 4096 → range_of page 32 2016 ≡ replicate 2016 0
zeros page size e n = ap (λ (z : List ℕ). range_of z 32 2016) e ∙ range_of-replicate size 32 2016 0 (omega arith)

pub returns : goal.returns
returns c =
    let i = c.self.inside in
    let m = inodes_of i.set.items i.extents.items i.iags i.agsize i.numag in
    let fields : InodeControl = record { freeiag = 4294967295; nextiag = i.iags; numinos = 32 * c.extents_there.result; numfree = c.free_inodes.result; nbperiext = 4; l2nbperiext = 2; diskblock = 0; maxag = i.numag - 1; groups = c.groups_of-groups.result } in
    rw (← c.self.view_is) (record {
      size = c.write_inode_control.ensures.size;
      fields = fields;
      held = c.write_inode_control.ensures.value;
      canonical = control-carried (is_taken i.set.items) (is_used m) (λ e. get_or i.extents.items e no_run) (extent_at m) i.iags i.numag fields (same-sets i.set.items i.extents.items i.iags i.agsize i.numag) (record {
        freeiag = refl;
        nextiag = refl;
        numinos = ap (λ (z : ℕ). 32 * z) (rw c.as_slice-extents.ensures.value at c.extents_there.ensures.value);
        numfree = rw (c.as_slice-set.ensures.value, c.as_slice-extents.ensures.value) at c.free_inodes.ensures;
        nbperiext = refl;
        l2nbperiext = refl;
        diskblock = refl;
        maxag = refl;
        groups = rw (c.as_slice-set.ensures.value, c.as_slice-extents.ensures.value) at c.groups_of-groups.ensures;
      });
      pad = c.write_inode_control.ensures.pad ∙ zeros c.fill.new.self (length c.args.page.now.0) (c.fill.ensures.after (λ y h. h)) (omega arith);
    })
