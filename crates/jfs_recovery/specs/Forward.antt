-- The entries applied forwards, every line of them.
use Rattle.std.specs.Prelude.{ℕ, List, [], ◌∷◌}
use Rattle.jfs_ranges.specs.declared.edit.Edit.{Edit}
use Rattle.jfs_recovery.specs.Face.{Face}

unfoldable pub forward_page : Face → ℕ → List ℕ → List (List Edit) → List ℕ
forward_page f p now [] = now
forward_page f p now (tx ∷ txs) = forward_page f p (f.lines tx p now) txs
