-- Blocks that are to be written.
use Rattle.std.specs.Prelude.{ℕ, ◌&&◌, Bool, true, nat_lt, List, [], ◌∷◌}
use Rattle.jfs_write_pages.specs.data_steps.specs.declared.pages.DataPage.{DataPage}

-- each lies within so many
abbrev pub lie_within : ℕ → List DataPage → Bool
lie_within blocks [] = true
lie_within blocks (d ∷ ds) = nat_lt d.block blocks && lie_within blocks ds
