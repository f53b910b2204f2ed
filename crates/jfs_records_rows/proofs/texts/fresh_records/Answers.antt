use Rattle.jfs_records.proofs.FromText.{of_reading}
use Rattle.jfs_records_rows.proofs.texts.fresh_records.Goals as goal

pub read_records-requires : goal.read_records-requires
read_records-requires g c = of_reading _ _ _ _ c.in-Ok.ensures.read.2
