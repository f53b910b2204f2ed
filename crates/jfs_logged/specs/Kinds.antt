-- Which changes of one object keep the kinds of its blocks.
use Rattle.std.specs.Prelude.{◌≡◌, ℕ, false, Some}
use Rattle.jfs_recovery.specs.objects.specs.Readers.{Readers}
use Rattle.jfs_recovery.specs.objects.specs.Volume.{Volume}
use Rattle.jfs_recovery.specs.objects.specs.Objects.{Object, objects}
use Rattle.jfs_recovery.specs.objects.specs.Owners.{attributes_held, data_held}
use Rattle.jfs_recovery.specs.objects.specs.Laws.{ChangesOne}
use Rattle.jfs_recovery.specs.kinds.specs.Owner.{is_regular_file}
use Rattle.jfs_recovery.specs.kinds.specs.Laws.{KeepsKinds}

-- an object with the trees and the type of another one
pub record HasTrees (o x : Object) : Type 0 where
  pub names : x.names ≡ o.names
  pub extents : x.extents ≡ o.extents
  pub regular : is_regular_file x ≡ is_regular_file o

-- A directory or a link, before and after, with the same attributes, and the same extents of its target.
pub record HasNoData (r : Readers) (o x : Object) : Type 0 where
  pub before : is_regular_file o ≡ false
  pub after : is_regular_file x ≡ false
  pub targets : (b : ℕ) → data_held r x b ≡ data_held r o b
  pub attributes : (b : ℕ) → attributes_held x b ≡ attributes_held o b

-- So an inode that is written keeps them, and so does a directory that gets or loses pages.
pub record KindsLaw : Type 0 where
  pub trees : (r : Readers) (v w : Volume) (o x : Object) → HasTrees o x → KeepsKinds r v w (Some o) (Some x)
  pub no_data : (r : Readers) (v w : Volume) (n : ℕ) (o x : Object) → objects r v n ≡ Some o → ChangesOne r v w n (Some x) → HasNoData r o x → KeepsKinds r v w (Some o) (Some x)
