-- Who owns a block. An owner counts once for each place that names the block.
use Rattle.std.specs.Prelude.{◌≡◌, ℕ, zero, suc, ◌+◌, Bool, true, false, ◌&&◌, ◌==◌, nat_le, nat_lt, if◌then◌else◌, List, [], ◌∷◌, is_some, Option, Some, None, Result, Ok, Err}
use Rattle.std.specs.Int.RustNames.{bit_and}
use Rattle.jfs_bits.specs.declared.descriptor.Pxd.{Pxd}
use Rattle.jfs_bits.specs.declared.extent.Xad.{Xad}
use Rattle.jfs_bits.specs.declared.extent.Dxd.{Dxd}
use Rattle.jfs_bits.specs.declared.rule.Rule.{Rule}
use Rattle.jfs_objects.specs.Readers.{Readers}
use Rattle.jfs_objects.specs.Volume.{Volume, room}
use Rattle.jfs_objects.specs.Objects.{Object, IsWhole, objects, met, listed}

-- A tree that breaks a rule owns nothing.
abbrev pub unless_broken : {E : Type 0} → Result (List E) (ℕ × Rule) → ℕ → ℕ
unless_broken (Ok es) count = count
unless_broken (Err fault) count = 0

abbrev pub entries : {E : Type 0} → Result (List E) (ℕ × Rule) → List E
entries (Ok es) = es
entries (Err fault) = []

abbrev pub run_has : Pxd → ℕ → ℕ
run_has run b = if nat_le run.addr b && nat_lt b (run.addr + run.len) then 1 else 0

-- how often extents have a block
abbrev pub covers : ℕ → List Xad → ℕ
covers b [] = 0
covers b (e ∷ es) = run_has e.at b + covers b es

-- A descriptor of attributes names a run where its flag has the bit 0x20.
abbrev pub dxd_has : Dxd → ℕ → ℕ
dxd_has d b = if bit_and d.flag 0x20 == 0x20 then run_has d.at b else 0

-- An object owns its tree pages, its data and its attributes.
abbrev pub tree_held : Readers → Object → ℕ → ℕ
tree_held r o b = unless_broken (listed r.names_order o.names) (met o.names b) + unless_broken (listed r.extents_order o.extents) (met o.extents b)

abbrev pub data_held : Readers → Object → ℕ → ℕ
data_held r o b = covers b (entries (listed r.extents_order o.extents))

abbrev pub attributes_held : Object → ℕ → ℕ
attributes_held o b = dxd_has o.inode.acl b + dxd_has o.inode.ea b

-- how often a block is data of an object
unfoldable pub is_data : Readers → Option Object → ℕ → ℕ
is_data r None b = 0
is_data r (Some o) b = data_held r o b

-- how often an object has a block
unfoldable pub holds : Readers → Option Object → ℕ → ℕ
holds r None b = 0
holds r (Some o) b = tree_held r o b + data_held r o b + attributes_held o b

-- an inode extent has four blocks
abbrev pub extent_has : Option ℕ → ℕ → ℕ
extent_has None b = 0
extent_has (Some first) b = if nat_le first b && nat_lt b (first + 4) then 1 else 0

abbrev pub extents_have : List (Option ℕ) → ℕ → ℕ
extents_have [] b = 0
extents_have (e ∷ es) b = extent_has e b + extents_have es b

unfoldable pub sum_below : ℕ → (ℕ → ℕ) → ℕ
sum_below zero f = 0
sum_below (suc n) f = sum_below n f + f n

-- how often a block is named outside of objects
abbrev pub fixed : Volume → ℕ → ℕ
fixed v b = v.area b + extents_have v.extents b

-- how many owners a block has
abbrev pub owners : Readers → Volume → ℕ → ℕ
owners r v b = fixed v b + sum_below (room v) (λ n. holds r (objects r v n) b)

abbrev pub bit : Bool → ℕ
bit true = 1
bit false = 0

-- Maps agree: each block in use has one owner, and no other block has any; the inodes in use are the objects'.
pub record Agrees (r : Readers) (v : Volume) : Type 0 where
  pub blocks : (b : ℕ) → owners r v b ≡ bit (v.used b)
  pub inodes : (n : ℕ) → v.in_use n ≡ is_some (objects r v n)

-- Maps agree, and no tree breaks a rule.
pub record IsSound (r : Readers) (v : Volume) : Type 0 where
  pub agrees : Agrees r v
  pub whole : (n : ℕ) (o : Object) → objects r v n ≡ Some o → IsWhole r o
