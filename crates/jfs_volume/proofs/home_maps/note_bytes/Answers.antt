use Rattle.std.proofs.Common.{◌<◌, List, ℕ, subst}
use Rattle.std.specs.List.{slice_index}
use Rattle.jfs_volume.proofs.home_maps.note_bytes.Goals as goal

pub returns-clause-bytes : goal.returns-clause-bytes
returns-clause-bytes c n = subst (λ (bytes : List ℕ). slice_index bytes n < 256) c.bytes.ensures.value (c.are_bytes.ensures n)
