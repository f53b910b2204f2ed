-- Free blocks that become pages, and edits that lead the volume's pages to others.
use Rattle.std.specs.Prelude.{◌≡◌, ◌<◌, ℕ, zero, suc, List, [], ◌∷◌, ◌++◌, length, ⊤}
use Rattle.jfs_bits.specs.declared.descriptor.Pxd.{Pxd}
use Rattle.jfs_ranges.specs.declared.edit.Edit.{Edit}
use Rattle.jfs_ranges.specs.declared.edit.Edit.TheVariants.{Alloc}
use Rattle.jfs_ranges.specs.Apply.{apply_tx}
use Rattle.jfs_tree.specs.Tell.{TellsThen}
use Rattle.jfs_tree.specs.Walk.{Child, Node, Inner}

-- the blocks of a run, and of runs
abbrev pub run_from : ℕ → ℕ → List ℕ
run_from addr zero = []
run_from addr (suc n) = addr ∷ run_from (suc addr) n

abbrev pub blocks_of : List Pxd → List ℕ
blocks_of [] = []
blocks_of (p ∷ ps) = run_from p.addr p.len ++ blocks_of ps

-- the edits that take these blocks, one by one
abbrev pub allocs_of : List ℕ → List Edit
allocs_of [] = []
allocs_of (n ∷ ns) = Alloc (record { len = 1; addr = n }) ∷ allocs_of ns

-- Blocks were taken from the front, in their order. Lines were appended, and then the edits that take these blocks; nothing else.
abbrev pub TakenInOrder : List ℕ → List ℕ → List Edit → List Edit → Type 0
TakenInOrder free left tx later = (taken : List ℕ) × (free ≡ taken ++ left) × TellsThen (allocs_of taken) tx later

-- the edits lead these pages to those
abbrev pub LeadsTo : ℕ → (ℕ → List ℕ) → List Edit → (ℕ → List ℕ) → Type 0
LeadsTo blocks base tx pages = (m : ℕ) → m < blocks → (length (base m) ≡ 4096) × (apply_tx m tx (base m) ≡ pages m)

abbrev pub after_tx : (ℕ → List ℕ) → List Edit → ℕ → List ℕ
after_tx base tx n = apply_tx n tx (base n)

-- each child's page lies below the bound
abbrev pub AllPages : {P : Type 0} → ℕ → List (Child P) → Type 0
AllPages bound [] = ⊤
AllPages bound (c ∷ cs) = (c.page < bound) × AllPages bound cs

abbrev pub HasPages : {P E : Type 0} → ℕ → Node P E → Type 0
HasPages {P} bound node = (cs : List (Child P)) → node ≡ Inner cs → AllPages bound cs
