-- A small face, to see that the laws can hold: page 0 is the only map page, page 1 says who owns the others.
use Rattle.std.specs.Prelude.{◌≡◌, ℕ, zero, suc, false, ◌==◌, if◌then◌else◌, List, get_or, replicate, Option, Some, None}
use Rattle.jfs_ranges.specs.Apply.{apply_tx, touches_tx}
use Rattle.jfs_kinds.specs.Owner.{Owner}
use Rattle.jfs_recovery.specs.Face.{Face, Item, Pages}
use Rattle.jfs_recovery.specs.Face.Value.{InUse}
use Rattle.jfs_kinds.specs.Owner.Owner.{Area, Inodes, Tree, Data}
use Rattle.jfs_records.specs.Redo.{closes_in}
use Rattle.jfs_recovery.specs.Lines.{rest_of}

abbrev pub by_number : ℕ → Option Owner
by_number zero = None
by_number (suc zero) = Some (Tree 5)
by_number (suc (suc k)) = Some (Data 6)

abbrev pub small_owner : Pages → ℕ → Option Owner
small_owner s p = if p == 0 then Some Area else (if p == 1 then Some Inodes else by_number (get_or (s 1) p 0))

abbrev pub zeros : List ℕ
zeros = replicate 4096 0

abbrev pub small_volume : Face
small_volume = record {
  owner = small_owner;
  lines = λ tx p a. apply_tx p tx a;
  closes = λ tx p. closes_in p tx;
  redoes = λ tx p a. apply_tx p (rest_of p tx) a;
  touches = λ s tx p. touches_tx p tx;
  is_map = λ p. p == 0;
  is_fixed = λ p. false;
  home = λ i. 0;
  cell = λ i. 0;
  read = λ i a. InUse false;
  sets = λ tx i x. InUse false;
  has_inodes = λ items q. false;
  IsMap = λ s items p a. (a ≡ zeros) × ((i : Item) → items i ≡ InUse false);
}
