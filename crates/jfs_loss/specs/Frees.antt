-- All that an object has is freed: the pages of its tree, its data and its attributes. A directory without names has no page.
use Rattle.std.specs.Prelude.{◌≡◌, ℕ, ◌+◌, ◌==◌, ◌&&◌, nat_le, if◌then◌else◌, Bool, true, false, List, [], ◌∷◌, ◌++◌}
use Rattle.std.specs.Int.RustNames.{bit_and}
use Rattle.jfs_bits.specs.declared.descriptor.Pxd.{Pxd}
use Rattle.jfs_bits.specs.declared.extent.Dxd.{Dxd}
use Rattle.jfs_inode.specs.declared.fields.Dinode.{Dinode}
use Rattle.jfs_ranges.specs.declared.edit.Edit.{Edit}
use Rattle.jfs_lead_steps.specs.xtree.specs.Cutting.{CutsExtents, TellsCut, run_frees}
use Rattle.jfs_lead_steps.specs.xtree.specs.CutMet.{FreesOnce}
use Rattle.jfs_lead_steps.specs.objects.specs.Objects.{has_extents}
use Rattle.jfs_lead_steps.specs.meaning.specs.Readers.{root_of}

-- The run of a descriptor of attributes, where its flag has the bit 0x20. One without a length, or that passes the blocks of the file system part, has no blocks to give back.
abbrev pub run_of : ℕ → Dxd → List Pxd
run_of blocks d = if bit_and d.flag 0x20 == 0x20 && (nat_le 1 d.at.len && nat_le (d.at.addr + d.at.len) blocks) then d.at ∷ [] else []

abbrev pub attribute_runs : ℕ → Dinode → List Pxd
attribute_runs blocks d = run_of blocks d.acl ++ run_of blocks d.ea

-- An object that has extents is cut at its first block; another has nothing to cut.
abbrev pub CutsIf : Bool → ℕ → (ℕ → List ℕ) → List ℕ → List Edit → Type 0
CutsIf true blocks pages root tx = ((after : List ℕ) × CutsExtents blocks pages 0 root after [] tx) × TellsCut blocks pages [] tx × FreesOnce blocks pages 0 root [] tx
CutsIf false blocks pages root tx = tx ≡ []

-- The edits free the object's tree pages and data, and then its attributes.
abbrev pub FreesObject : ℕ → (ℕ → List ℕ) → Dinode → List Edit → Type 0
FreesObject blocks pages d tx = (cut : List Edit) × CutsIf (has_extents d) blocks pages (root_of d) cut × (tx ≡ cut ++ run_frees (attribute_runs blocks d))
