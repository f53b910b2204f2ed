-- What stays where a group is written, entries are acknowledged, pages go home and a SYNCPT is logged.
use Rattle.std.proofs.Common.{◌≡◌, ◌⊎◌, ℕ, false, true≢false, slice_get, Result, Ok, Err, refl, sym, ap, ◌∙◌, inl, inr, subst}
use Rattle.std.specs.Prelude.{OnOk}
use Rattle.jfs_disk.specs.Image.{Image, page_of}
use Rattle.jfs_disk.specs.declared.disk.Fault.{Fault}
use Rattle.jfs_volume.specs.bmap.specs.States.{Blocks, blocks_settled}
use Rattle.jfs_volume.specs.map_files.specs.imap.specs.Inodes.{Inodes}
use Rattle.jfs_volume.specs.map_files.specs.declared.map_file.MapFiles.{MapFiles}
use Rattle.jfs_volume.specs.halves.specs.Parts.{Parts}
use Rattle.jfs_volume.specs.Told.{still_freed}
use Rattle.jfs_volume.specs.MapsHome.{KeepsMemory, KeepsPlaces, ShowsAfter, HoldsNone, AreApart, ShowsBlockMap, ShowsInodeMap, with_written}
use Rattle.jfs_volume.specs.Settles.{Settles, SettlesTo, KeepsMap, StaysShown, HomesAlone, is_freed}
use Rattle.jfs_volume_calls.specs.Halts.{GroupParts, PointParts}
use Rattle.jfs_volume_calls.specs.Written.{KeepsPages, LeavesMaps}

-- what of the parts no group, no page that goes home and no SYNCPT changes
record Alike (old new : Parts) : Type 0 where
  entries : new.entries ≡ old.entries
  appended : new.appended ≡ old.appended
  inodes : new.inodes ≡ old.inodes
  limit : new.limit ≡ old.limit
  blocks : new.blocks ≡ old.blocks
  count : new.count ≡ old.count
  room : new.room ≡ old.room
  map : new.map ≡ old.map
  freed : new.freed ≡ old.freed

-- so do parts that are these
alike_by : (old new next : Parts) → new ≡ next → Alike old next → Alike old new
alike_by old new next e k = subst (λ (p : Parts). Alike old p) (sym e) k

carried : (a b c : Parts) → Alike b c → KeepsMap a b ⊎ ((n : ℕ) × SettlesTo n a b) → KeepsMap a c ⊎ ((n : ℕ) × SettlesTo n a c)
carried a b c k (inl h) = inl (record { map = k.map ∙ h.map; freed = k.freed ∙ h.freed })
carried a b c k (inr h) = inr (h.0, record { map = k.map ∙ h.1.map; freed = k.freed ∙ h.1.freed })

onward : (a b c : Parts) → Settles a b → Alike b c → Settles a c
onward a b c s k = record {
  entries = k.entries ∙ s.entries;
  appended = k.appended ∙ s.appended;
  inodes = k.inodes ∙ s.inodes;
  limit = k.limit ∙ s.limit;
  blocks = k.blocks ∙ s.blocks;
  count = k.count ∙ s.count;
  room = k.room ∙ s.room;
  map = carried a b c k s.map;
}

stays : (a : Parts) → Settles a a
stays a = record { entries = refl; appended = refl; inodes = refl; limit = refl; blocks = refl; count = refl; room = refl; map = inl (record { map = refl; freed = refl }) }

group_alike : (old new : Parts) → GroupParts old new → Alike old new
group_alike old new g = alike_by old new (record old { taken = new.taken; text = new.text; halted = new.halted }) g
    (record { entries = refl; appended = refl; inodes = refl; limit = refl; blocks = refl; count = refl; room = refl; map = refl; freed = refl })

-- ---- a group

pub group_settles : (old new : Parts) → GroupParts old new → Settles old new
group_settles old new g = onward old old new (stays old) (group_alike old new g)

pub group_pages : (tells : Type 0) (old new : Parts) → GroupParts old new → KeepsPages tells old new
group_pages tells old new g = record { files = ap (λ (p : Parts). p.files) g; view = λ k q f. ap (λ (p : Parts). page_of p.view q) g }

-- so what is shown stays
pub shown : (tells : Type 0) (old new : Parts) → KeepsPages tells old new → StaysShown tells old new
shown tells old new k = record {
  block_places = ap (λ (f : MapFiles). f.blocks.places) k.files;
  inode_places = ap (λ (f : MapFiles). f.inodes.places) k.files;
  view = λ t q f none. k.view t q f;
}

-- ---- all entries are acknowledged

-- what `told_all` changes
abbrev pub ToldParts : Parts → Parts → Type 0
ToldParts old new = new ≡ record old { view = new.view; dirty = new.dirty; told = old.taken; map = blocks_settled old.taken old.map; freed = still_freed old.taken old.freed }

pub told_settles : (old group new : Parts) → GroupParts old group → ToldParts group new → Settles old new
told_settles old group new g t =
    let k = group_alike old group g in
    record {
      entries = ap (λ (p : Parts). p.entries) t ∙ k.entries;
      appended = ap (λ (p : Parts). p.appended) t ∙ k.appended;
      inodes = ap (λ (p : Parts). p.inodes) t ∙ k.inodes;
      limit = ap (λ (p : Parts). p.limit) t ∙ k.limit;
      blocks = ap (λ (p : Parts). p.blocks) t ∙ k.blocks;
      count = ap (λ (p : Parts). p.count) t ∙ k.count;
      room = ap (λ (p : Parts). p.room) t ∙ k.room;
      map = inr (
        group.taken,
        record {
          map = ap (λ (p : Parts). p.map) t ∙ ap (blocks_settled group.taken) k.map;
          freed = ap (λ (p : Parts). p.freed) t ∙ ap (still_freed group.taken) k.freed;
        },
      );
    }

pub told_pages : (tells : Type 0) (old group new : Parts) → GroupParts old group → ToldParts group new
    → (tells → (q : ℕ) → is_freed group.freed q ≡ false → page_of new.view q ≡ page_of group.view q) → KeepsPages tells old new
told_pages tells old group new g t shows = record {
  files = ap (λ (p : Parts). p.files) t ∙ ap (λ (p : Parts). p.files) g;
  view = λ k q f. shows k q (ap (λ (p : Parts). is_freed p.freed q) g ∙ f) ∙ ap (λ (p : Parts). page_of p.view q) g;
}

-- ---- pages go home

pub homed : (tells : Type 0) (a b c : Parts) → Settles a b → HomesAlone tells b c → Settles a c
homed tells a b c s alone = onward a b c s
    (alike_by b c (record b { view = c.view; dirty = c.dirty; disk = c.disk; past = c.past; faults = c.faults; halted = c.halted }) alone.parts
    (record { entries = refl; appended = refl; inodes = refl; limit = refl; blocks = refl; count = refl; room = refl; map = refl; freed = refl }))

pub mapped : (a b c : Parts) → Settles a b → KeepsMemory b c → Settles a c
mapped a b c s kept = onward a b c s
    (alike_by b c (record b { view = c.view; disk = c.disk; past = c.past; faults = c.faults; files = c.files; halted = c.halted }) kept
    (record { entries = refl; appended = refl; inodes = refl; limit = refl; blocks = refl; count = refl; room = refl; map = refl; freed = refl }))

pub pointed : (a b c : Parts) → Settles a b → PointParts b c → Settles a c
pointed a b c s p = onward a b c s
    (alike_by b c (record b { points = c.points; known = c.known; taken = c.taken; text = c.text; halted = c.halted }) p
    (record { entries = refl; appended = refl; inodes = refl; limit = refl; blocks = refl; count = refl; room = refl; map = refl; freed = refl }))

-- ---- a syncpoint

-- what an answer says where it is good holds, if it holds anyhow
pub anyhow : {X : Type 0} (result : Result (Unit {0}) Fault) → X → OnOk result X
anyhow (Ok done) x = x
anyhow (Err fault) x = tt

-- ---- the maps' pages

-- the same maps are shown by the same pages of the same files
blocks_alike : (p q : Parts) → q.map ≡ p.map → q.files ≡ p.files → q.view ≡ p.view → ShowsBlockMap p → ShowsBlockMap q
blocks_alike p q map files view shows =
    subst (λ (m : Blocks). ShowsBlockMap (record p { map = m; files = q.files; view = q.view })) (sym map)
    (subst (λ (f : MapFiles). ShowsBlockMap (record p { files = f; view = q.view })) (sym files) (subst (λ (v : Image). ShowsBlockMap (record p { view = v })) (sym view) shows))

inodes_alike : (p q : Parts) → q.inodes ≡ p.inodes → q.files ≡ p.files → q.view ≡ p.view → ShowsInodeMap p → ShowsInodeMap q
inodes_alike p q inodes files view shows =
    subst (λ (m : Inodes). ShowsInodeMap (record p { inodes = m; files = q.files; view = q.view })) (sym inodes)
    (subst (λ (f : MapFiles). ShowsInodeMap (record p { files = f; view = q.view })) (sym files) (subst (λ (v : Image). ShowsInodeMap (record p { view = v })) (sym view) shows))

-- What is so of the maps' files and of what is shown where a syncpoint stands, whether or not it goes on.
pub record Stands (tells : Type 0) (old new : Parts) : Type 0 where
  pub shown : StaysShown tells old new
  pub leaves : tells → LeavesMaps old new

-- before the pages of the maps are written
pub as_kept : (tells : Type 0) (old new : Parts) → KeepsPages tells old new → Stands tells old new
as_kept tells old new k = record {
  shown = shown tells old new k;
  leaves = λ t. record {
    block_map = λ own e fresh. absurd (true≢false (sym e ∙ sym (ap (λ (f : MapFiles). f.blocks.stale) k.files) ∙ fresh));
    inode_map = λ own e fresh. absurd (true≢false (sym e ∙ sym (ap (λ (f : MapFiles). f.inodes.stale) k.files) ∙ fresh));
    block_pages = λ own e n b at free. k.view t b free;
    inode_pages = λ own e n b at free. k.view t b free;
  };
}

-- pages that go home are shown as before
pub kept_home : (tells : Type 0) (a b c : Parts) → KeepsPages tells a b → HomesAlone tells b c → KeepsPages tells a c
kept_home tells a b c k h = record {
  files = ap (λ (p : Parts). p.files) h.parts ∙ k.files;
  view = λ t q free. ap (λ (v : Image). page_of v q) (h.view t) ∙ k.view t q free;
}

-- once they are written, or some of them
pub maps_stand : (tells : Type 0) (a home maps : Parts) → KeepsPages tells a home → KeepsPlaces home maps → (tells → ShowsAfter home maps) → Stands tells a maps
maps_stand tells a home maps k places shows = record {
  shown = record {
    block_places = places.blocks ∙ ap (λ (f : MapFiles). f.blocks.places) k.files;
    inode_places = places.inodes ∙ ap (λ (f : MapFiles). f.inodes.places) k.files;
    view = λ t q free none. (shows t).others q (subst (λ (f : MapFiles). HoldsNone f q) (sym k.files) none) ∙ k.view t q free;
  };
  leaves = λ t. record {
    block_map = λ own e fresh. (shows t).block_map (apart own) (ap (λ (f : MapFiles). f.blocks.stale) k.files ∙ e) fresh;
    inode_map = λ own e fresh. (shows t).inode_map (apart own) (ap (λ (f : MapFiles). f.inodes.stale) k.files ∙ e) fresh;
    block_pages = λ own e n b at free. (shows t).block_pages (apart own) (ap (λ (f : MapFiles). f.blocks.stale) k.files ∙ e) n b (ap (λ (f : MapFiles). slice_get f.blocks.places n) k.files ∙ at) ∙ k.view t b free;
    inode_pages = λ own e n b at free. (shows t).inode_pages (apart own) (ap (λ (f : MapFiles). f.inodes.stale) k.files ∙ e) n b (ap (λ (f : MapFiles). slice_get f.inodes.places n) k.files ∙ at) ∙ k.view t b free;
  };
}
  where
    apart : AreApart a.files → AreApart home.files
    apart own = subst (λ (f : MapFiles). AreApart f) (sym k.files) own

-- The same parts of the volume as these, as far as that goes.
pub record SameShown (tells : Type 0) (old new : Parts) : Type 0 where
  pub files : new.files ≡ old.files
  pub map : new.map ≡ old.map
  pub inodes : new.inodes ≡ old.inodes
  pub view : tells → new.view ≡ old.view

pub same_home : (tells : Type 0) (old new : Parts) → HomesAlone tells old new → SameShown tells old new
same_home tells old new h = record { files = ap (λ (p : Parts). p.files) h.parts; map = ap (λ (p : Parts). p.map) h.parts; inodes = ap (λ (p : Parts). p.inodes) h.parts; view = h.view }

pub same_point : (tells : Type 0) (old new : Parts) → PointParts old new → SameShown tells old new
same_point tells old new p = record { files = ap (λ (x : Parts). x.files) p; map = ap (λ (x : Parts). x.map) p; inodes = ap (λ (x : Parts). x.inodes) p; view = λ t. ap (λ (x : Parts). x.view) p }

pub stand_on : (tells : Type 0) (a b c : Parts) → Stands tells a b → SameShown tells b c → Stands tells a c
stand_on tells a b c s same = record {
  shown = record {
    block_places = ap (λ (f : MapFiles). f.blocks.places) same.files ∙ s.shown.block_places;
    inode_places = ap (λ (f : MapFiles). f.inodes.places) same.files ∙ s.shown.inode_places;
    view = λ t q free none. ap (λ (v : Image). page_of v q) (same.view t) ∙ s.shown.view t q free none;
  };
  leaves = λ t. record {
    block_map = λ own e fresh. blocks_alike b c same.map same.files (same.view t) ((s.leaves t).block_map own e (sym (ap (λ (f : MapFiles). f.blocks.stale) same.files) ∙ fresh));
    inode_map = λ own e fresh. inodes_alike b c same.inodes same.files (same.view t) ((s.leaves t).inode_map own e (sym (ap (λ (f : MapFiles). f.inodes.stale) same.files) ∙ fresh));
    block_pages = λ own e n q at free. ap (λ (v : Image). page_of v q) (same.view t) ∙ (s.leaves t).block_pages own e n q at free;
    inode_pages = λ own e n q at free. ap (λ (v : Image). page_of v q) (same.view t) ∙ (s.leaves t).inode_pages own e n q at free;
  };
}

-- all of it
pub written_files : (tells : Type 0) (a home maps low end : Parts) → KeepsPages tells a home → maps.files ≡ with_written home.files → SameShown tells maps low → SameShown tells low end → end.files ≡ with_written a.files
written_files tells a home maps low end k written l p = p.files ∙ l.files ∙ written ∙ ap with_written k.files
