-- What an inode spells depends on its footprint alone.
use Rattle.std.proofs.Common.{◌≡◌, ◌<◌, refl, ap, ap₂, ℕ, ◌+◌, Bool, true, false, if◌then◌else◌, List, [], arith}
use Rattle.jfs_bits.specs.declared.extent.Xad.{Xad}
use Rattle.jfs_inode.specs.declared.fields.Dinode.{Dinode}
use Rattle.jfs_name.specs.declared.name.NameEntry.{NameEntry}
use Rattle.jfs_tree.specs.Walk.{Node, Marks, Scale}
use Rattle.jfs_tree.specs.Spells.{tree_of, footprint as root_footprint}
use Rattle.jfs_tree.proofs.Footprint.{tree_frame}
use Rattle.jfs_objects.specs.Readers.{Readers}
use Rattle.jfs_objects.specs.Objects.{has_names, has_extents, names_of, extents_of, spelled, footprint, met}

-- one of the object's walks, where it has one
walk_of : {P E : Type 0} → Scale P E → (List ℕ → Node P E) → (ℕ → List ℕ) → Node P E → Bool → Marks P E
walk_of s reader page root b = if b then tree_of s (λ b. reader (page b)) root else []

same_walk : {P E : Type 0} (s : Scale P E) (reader : List ℕ → Node P E) (old new : ℕ → List ℕ) (root : Node P E) (there : Bool)
    → ((b : ℕ) → 0 < met (walk_of s reader old root there) b → new b ≡ old b) → walk_of s reader new root there ≡ walk_of s reader old root there
unfolding walk_of root_footprint
same_walk s reader old new root false h = refl
same_walk s reader old new root true h = tree_frame s (λ b. reader (old b)) (λ b. reader (new b)) root (λ b t. ap reader (h b t))

pub same_spelled : (r : Readers) (old new : ℕ → List ℕ) (d : Dinode) → ((b : ℕ) → 0 < footprint (spelled r old d) b → new b ≡ old b) → spelled r new d ≡ spelled r old d
unfolding spelled footprint walk_of
same_spelled r old new d h =
    ap₂ (λ (names : Marks (List ℕ) NameEntry) (extents : Marks ℕ Xad). record { inode = d; names = names; extents = extents })
    (same_walk r.names_order r.names_page old new (r.names_root d) (has_names d) (λ b t. h b (more (met (names_of r old d) b) (met (extents_of r old d) b) t)))
    (same_walk r.extents_order r.extents_page old new (r.extents_root d) (has_extents d) (λ b t. h b (less (met (names_of r old d) b) (met (extents_of r old d) b) t)))
  where
    more : (x y : ℕ) → 0 < x → 0 < x + y
    more x y l = omega (arith, l)

    less : (x y : ℕ) → 0 < y → 0 < x + y
    less x y l = omega (arith, l)
