-- What a call is that writes no data.
use Rattle.std.specs.Prelude.{◌≡◌, ℕ, List, []}
use Rattle.jfs_ranges.specs.declared.edit.Edit.{Edit}
use Rattle.jfs_truncate.specs.objects.specs.Volume.{Volume}
use Rattle.jfs_chmod.specs.steps.specs.After.{after_call}
use Rattle.jfs_truncate.specs.data_steps.specs.After.{after_writes}

-- the volume after it is the one after its transaction
abbrev pub NoDataLaw : Type 0
NoDataLaw = (blocks : ℕ) (tx : List Edit) (v : Volume) → after_writes blocks [] tx v ≡ after_call blocks tx v
