-- Free blocks of the volume.
use Rattle.std.proofs.Common.{◌≡◌, ◌≤◌, sym, subst, ℕ, zero, suc, ◌+◌, List, [], ◌∷◌, ◌++◌, arith}
use Rattle.jfs_bits.specs.declared.descriptor.Pxd.{Pxd}
use Rattle.jfs_xtree.specs.page_tree.specs.Form.{AllBelow}
use Rattle.jfs_xtree.specs.page_tree.specs.Fresh.{run_from, blocks_of}

run_within : (bound a n : ℕ) (more : List ℕ) → a + n ≤ bound → AllBelow bound more → AllBelow bound (run_from a n ++ more)
run_within bound a zero more l h = h
run_within bound a (suc n) more l h = (omega (arith, l), run_within bound (suc a) n more (omega (arith, l)) h)

pub free_within : (fresh : List Pxd) → ((addr : ℕ) × (addr ≤ 488) × (fresh ≡ record { len = 24; addr = addr } ∷ [])) → AllBelow 8192 (blocks_of fresh)
free_within fresh (addr, low, is) = subst (λ ps. AllBelow 8192 (blocks_of ps)) (sym is) (run_within 8192 addr 24 [] (omega (arith, low)) tt)
