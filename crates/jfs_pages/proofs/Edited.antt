-- Pages that were read, and edits of them.
use Rattle.std.proofs.Common.{◌≡◌, ℕ, Bool, true, false, List, length, if◌then◌else◌, Option, Some, None, option_map, refl, sym, ap, ◌∙◌}
use Rattle.jfs_ranges.specs.declared.edit.Edit.{Edit}
use Rattle.jfs_ranges.specs.Apply.{apply_edit, touches_edit}
use Rattle.jfs_ranges.proofs.Overlaid.{apply_edit-untouched}

-- each page that was read has 4,096 bytes
abbrev pub AreSized : (ℕ → Option (List ℕ)) → Type 0
AreSized pages = (n : ℕ) (bytes : List ℕ) → pages n ≡ Some bytes → length bytes ≡ 4096

-- a page that an edit doesn't touch is as it was
untouched : (n : ℕ) (edit : Edit) (page : Option (List ℕ)) → ((bytes : List ℕ) → page ≡ Some bytes → length bytes ≡ 4096) → touches_edit n edit ≡ false → option_map (apply_edit n edit) page ≡ page
untouched n edit None size h = refl
untouched n edit (Some bytes) size h = ap (λ (b : List ℕ). Some b) (apply_edit-untouched n edit bytes (size bytes refl) h)

-- the pages that an edit touches, one by one, are all its pages
pub edited : (n : ℕ) (edit : Edit) (touched : Bool) (old new : Option (List ℕ)) → ((bytes : List ℕ) → old ≡ Some bytes → length bytes ≡ 4096) → touches_edit n edit ≡ touched →
    new ≡ (if touched then option_map (apply_edit n edit) old else old) → new ≡ option_map (apply_edit n edit) old
edited n edit true old new size t e = e
edited n edit false old new size t e = e ∙ sym (untouched n edit old size t)
