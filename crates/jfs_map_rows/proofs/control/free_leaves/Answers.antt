use Rattle.std.proofs.Common.{ℕ, replicate, refl, inl, inr, arith}
use Rattle.std.specs.Prelude.{ℤ, pos, negsuc}
use Rattle.std.proofs.lemmas.Bool.{cases_lt}
use Rattle.std.proofs.lemmas.List.{get_or-replicate, get_or_past, length-replicate}
use Rattle.jfs_dmapctl.specs.Control.{IsValue, value_at}
use Rattle.jfs_map_rows.proofs.control.free_leaves.Goals as goal

free : (v : ℕ) → IsValue 0 (value_at (replicate 1024 (pos 13)) v)
free v = elim (cases_lt v 1024) [
  | inl b ↦ rw (get_or-replicate {A = ℤ} 1024 v (pos 13) (negsuc 0) b) (omega arith)
  | inr b ↦ rw (get_or_past (replicate 1024 (pos 13)) v (negsuc 0) (rw (length-replicate {A = ℤ} 1024 (pos 13)) b)) refl
]

pub returns : goal.returns
returns c v = free v
