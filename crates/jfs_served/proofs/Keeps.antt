-- What a volume holds stays where its maps tell of the same objects and its pages are read alike.
use Rattle.std.proofs.Common.{◌≡◌, ◌≤◌, ◌^◌, ◌&&◌, refl, sym, ap, ap₂, ◌∙◌, subst, ℕ, Bool, true, nat_lt, List, length, map, arith}
use Rattle.std.specs.List.{AllByRecursion}
use Rattle.jfs_disk.specs.Image.{Image, page_of}
use Rattle.jfs_shown.specs.imap.specs.Inodes.{Inodes, is_used}
use Rattle.jfs_shown.specs.bmap.specs.States.{BlockState, is_owned}
use Rattle.jfs_shown.specs.map_files.specs.declared.map_file.MapFiles.{MapFiles}
use Rattle.jfs_shown.specs.objects.specs.Image.{extent_place}
use Rattle.jfs_shown.specs.objects.specs.Volume.{Volume}
use Rattle.jfs_shown.specs.meaning.specs.Readers.{readers}
use Rattle.jfs_shown.specs.meaning.specs.Tree.{tree_on}
use Rattle.jfs_shown.specs.meaning.specs.Room.{room_on}
use Rattle.jfs_shown.specs.meaning.specs.Consistent.{IsConsistent}
use Rattle.jfs_shown.specs.way.specs.Volume.{PlacesWithin}
use Rattle.jfs_room.specs.Laws.{NoneReserved}
use Rattle.jfs_alike.specs.Alike.{AreAlike, MeanTheSame}
use Rattle.jfs_alike.proofs.Alike.{alike_law}
use Rattle.jfs_entered.specs.Marked.{HasBits}
use Rattle.jfs_call.specs.files.specs.Outcome.{AreBetweenCalls}
use Rattle.jfs_call.specs.volume.specs.Asked.{maps_in}
use Rattle.jfs_call.specs.volume.specs.MapsHome.{HoldsNone}
use Rattle.jfs_call.specs.halves.specs.Parts.{Parts}
use Rattle.jfs_call.specs.halves.specs.declared.freed.FreedPage.{FreedPage}
use Rattle.jfs_call.specs.plain.specs.Moves.{Same}
use Rattle.jfs_served.specs.Holds.{blocks_at, volume_at, tree_at, room_at, IsBusyPage, HoldsTree, MayServe, KeepsFiles, KeepsTree, StaysServing}
use Rattle.jfs_served.specs.Laws.{AgainLaw}
use Rattle.jfs_served.proofs.Files.{unchanged, files_stay}
use Rattle.jfs_served.proofs.Room.{same_room}

-- as file calls take it
pub between : (area : ℕ → ℕ) (log_pages : ℕ) (p : Parts) → MayServe area log_pages p → AreBetweenCalls (blocks_at p) (maps_in p)
between area log_pages p may = record { rest = record { none = may.none; places = may.holds.few }; within = may.holds.places }

-- the same blocks have owners, the inode map and the limit stay, and pages that objects are read from
pub record Rests (area : ℕ → ℕ) (old new : Parts) : Type 0 where
  pub size : blocks_at new ≡ blocks_at old
  pub owned : (b : ℕ) → is_owned new.map b ≡ is_owned old.map b
  pub inodes : new.inodes ≡ old.inodes
  pub limit : new.limit ≡ old.limit
  pub blocks : new.blocks ≡ old.blocks
  pub freed : AllByRecursion (IsBusyPage new.map) new.freed
  pub areas : (b : ℕ) → area b ≡ 0 → HoldsNone new.files b
  pub view : (b : ℕ) → (volume_at area old).used b ≡ true → area b ≡ 0 → page_of new.view b ≡ page_of old.view b
  pub known : KeepsFiles area old new

pub kept : (area : ℕ → ℕ) (log_pages : ℕ) (old new : Parts) → HoldsTree area log_pages old → Rests area old new → KeepsTree area log_pages old new
kept area log_pages old new h r = record {
  holds = record {
    consistent = subst (λ (k : ℕ). IsConsistent (readers k) (volume_at area new)) (sym r.size) means.consistent;
    limit = r.limit ∙ h.limit;
    within = omega (arith, h.within, r.size, r.blocks);
    places = subst (λ (m : Inodes). PlacesWithin (blocks_at new) m) (sym r.inodes) (subst (λ (k : ℕ). PlacesWithin k old.inodes) (sym r.size) h.places);
    few = subst (λ (m : Inodes). length m.extents ≤ 2 ^ 27) (sym r.inodes) h.few;
    bits = subst (λ (m : Inodes). HasBits m) (sym r.inodes) h.bits;
    freed = r.freed;
    areas = r.areas;
  };
  alike = alike;
  tree = subst (λ (k : ℕ). Same (tree_at area old) (tree_on (readers k) (volume_at area new))) (sym r.size) means.tree;
  room = subst (λ (k : ℕ). room_on (readers k) (volume_at area new) k log_pages ≡ room_at area log_pages old) (sym r.size)
      (same_room (blocks_at old) (volume_at area old) (volume_at area new) h.consistent.sound alike means log_pages);
  files = r.known;
}
  where
    alike : AreAlike (volume_at area old) (volume_at area new)
    alike = record {
      extents = ap (λ (m : Inodes). map extent_place m.extents) r.inodes;
      area = λ b. refl;
      used = λ b. ap₂ (λ (k : ℕ) (x : Bool). nat_lt b k && x) r.size (r.owned b);
      in_use = λ n. ap (λ (m : Inodes). is_used m n) r.inodes;
      pages = r.view;
    }

    means : MeanTheSame (readers (blocks_at old)) (volume_at area old) (volume_at area new)
    means = alike_law (readers (blocks_at old)) (volume_at area old) (volume_at area new) h.consistent alike

-- all that a volume holds stays
pub record Alone (old new : Parts) : Type 0 where
  pub states : new.map.states ≡ old.map.states
  pub inodes : new.inodes ≡ old.inodes
  pub limit : new.limit ≡ old.limit
  pub blocks : new.blocks ≡ old.blocks
  pub freed : new.freed ≡ old.freed
  pub files : new.files ≡ old.files
  pub view : new.view ≡ old.view

pub alone : (area : ℕ → ℕ) (log_pages : ℕ) (old new : Parts) → HoldsTree area log_pages old → Alone old new → StaysServing area log_pages old new
alone area log_pages old new h a = record {
  keeps = kept area log_pages old new h (record {
    size = size;
    owned = owned;
    inodes = a.inodes;
    limit = a.limit;
    blocks = a.blocks;
    freed = subst (λ (ss : List BlockState). AllByRecursion (IsBusyPage (record old.map { states = ss })) new.freed) (sym a.states) (subst (λ (fs : List FreedPage). AllByRecursion (IsBusyPage old.map) fs) (sym a.freed) h.freed);
    areas = λ b z. subst (λ (f : MapFiles). HoldsNone f b) (sym a.files) (h.areas b z);
    view = λ b u z. ap (λ (image : Image). page_of image b) a.view;
    known = files_stay area log_pages old new h (unchanged area old new (λ b more. ap (λ (image : Image). page_of image b) a.view) a.files size owned a.inodes);
  });
  none = λ none. subst (λ (ss : List BlockState). NoneReserved (record old.map { states = ss })) (sym a.states) none;
}
  where
    size : blocks_at new ≡ blocks_at old
    size = ap (λ (ss : List BlockState). length ss) a.states

    owned : (b : ℕ) → is_owned new.map b ≡ is_owned old.map b
    owned b = ap (λ (ss : List BlockState). is_owned (record old.map { states = ss }) b) a.states

-- ---- one after the other

alike_again : (u v w : Volume) → AreAlike u v → AreAlike v w → AreAlike u w
alike_again u v w x y = record {
  extents = y.extents ∙ x.extents;
  area = λ b. y.area b ∙ x.area b;
  used = λ b. y.used b ∙ x.used b;
  in_use = λ n. y.in_use n ∙ x.in_use n;
  pages = λ b used zero. y.pages b (x.used b ∙ used) (x.area b ∙ zero) ∙ x.pages b used zero;
}

pub again_law : AgainLaw
again_law area log_pages old mid new x y = record {
  keeps = record {
    holds = y.keeps.holds;
    alike = alike_again (volume_at area old) (volume_at area mid) (volume_at area new) x.keeps.alike y.keeps.alike;
    tree = record { nodes = λ n. y.keeps.tree.nodes n ∙ x.keeps.tree.nodes n; bytes = λ n i. y.keeps.tree.bytes n i ∙ x.keeps.tree.bytes n i };
    room = y.keeps.room ∙ x.keeps.room;
    files = λ s knows. y.keeps.files s (x.keeps.files s knows);
  };
  none = λ none. y.none (x.none none);
}
