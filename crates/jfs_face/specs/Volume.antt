-- A volume as the core of log redo sees it.
use Rattle.std.specs.Prelude.{ℕ, Bool, false, ◌||◌, ◌&&◌, List, map}
use Rattle.std.specs.List.{range_with_len}
use Rattle.jfs_ranges.specs.declared.edit.Edit.{Edit}
use Rattle.jfs_ranges.specs.Apply.{apply_tx, touches_tx}
use Rattle.jfs_steps.specs.objects.specs.Readers.{Readers}
use Rattle.jfs_steps.specs.objects.specs.Volume.{Volume}
use Rattle.jfs_steps.specs.objects.specs.Image.{extent_place}
use Rattle.jfs_recovery.specs.kinds.specs.Owner.{owner_of}
use Rattle.jfs_recovery.specs.Face.{Face, Pages, Item, Value}
use Rattle.jfs_recovery.specs.records.specs.Redo.{closes_in}
use Rattle.jfs_recovery.specs.Lines.{rest_of}
use Rattle.jfs_face.specs.Places.{Places, is_map_page, is_fixed_page}
use Rattle.jfs_face.specs.Items.{home, cell, read, set_by, extent_by, places}
use Rattle.jfs_face.specs.MapPages.{has_inodes, IsCanonicalPage}

-- what pages say the maps keep
abbrev pub items_on : Places → Pages → Item → Value
items_on pl s i = read pl i (s (home pl i))

-- Pages, inode extents and areas alone say who owns a block.
abbrev pub volume_with : Places → Pages → Volume
volume_with pl s = record {
  page = s;
  extents = map (λ e. extent_place (extent_by (items_on pl s) e)) (range_with_len 0 (places pl));
  area = pl.area;
  used = λ b. false;
  in_use = λ n. false;
}

-- A page is dirty with an entry that has lines of it or a NoRedo, or that is told to change it as a map's page.
abbrev pub face_of : Readers → Places → (Pages → List Edit → ℕ → Bool) → Face
face_of r pl changes = record {
  owner = λ s b. owner_of r (volume_with pl s) b;
  lines = λ tx p a. apply_tx p tx a;
  closes = λ tx p. closes_in p tx;
  redoes = λ tx p a. apply_tx p (rest_of p tx) a;
  touches = λ s tx p. touches_tx p tx || closes_in p tx || (is_map_page pl p && changes s tx p);
  is_map = is_map_page pl;
  is_fixed = is_fixed_page pl;
  home = home pl;
  cell = cell;
  read = read pl;
  sets = set_by;
  has_inodes = has_inodes pl;
  IsMap = IsCanonicalPage pl;
}
