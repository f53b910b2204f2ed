-- What a file's extents are once a range of its blocks is written.
use Rattle.std.specs.Prelude.{List, [], ◌∷◌, ◌++◌}
use Rattle.jfs_bits.specs.declared.extent.Xad.{Xad}
use Rattle.jfs_xtpage.specs.Page.{end_of}
use Rattle.jfs_xtree.specs.Cutting.{kept_below}
use Rattle.jfs_xtree.specs.Writing.{kept_from, with_all_written}

-- The parts into which the entries of a list cut extents: what the extents have before the first entry, what they have in it, and the parts of what they have behind it. So
-- each part lies in one entry or in a hole.
abbrev pub parts_of : List Xad → List Xad → List Xad
parts_of [] xs = xs
parts_of (e ∷ es) xs = kept_below e.offset xs ++ (kept_below (end_of e) (kept_from e.offset xs) ++ parts_of es (kept_from (end_of e) xs))

-- The entries once the blocks of a range are written: its extents, cut where an entry begins or ends, are written from left to right. Two entries never become one by this,
-- also where the range goes on from one to the other.
abbrev pub with_range : List Xad → List Xad → List Xad
with_range xs es = with_all_written (parts_of es xs) es
