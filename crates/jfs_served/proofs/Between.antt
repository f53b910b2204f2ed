-- What is acknowledged, goes home or joins alone leaves the tree.
use Rattle.std.specs.Bool.{⊤}
use Rattle.std.proofs.Common.{◌≡◌, ◌⊎◌, ◌==◌, ◌||◌, refl, sym, ap, ◌∙◌, subst, ℕ, Bool, true, false, nat_lt, nat_le, if◌then◌else◌, List, [], ◌∷◌, length, slice_get, inl, inr, arith}
use Rattle.std.specs.List.{AllByRecursion}
use Rattle.std.proofs.lemmas.Bool.{and_parts, eqb-true, ltb-true, leb-true}
use Rattle.jfs_shown.specs.bmap.specs.States.{Blocks, BlockState, Free, Owned, Reserved, Busy, state_of, is_owned, is_owned_state, settled_state, blocks_settled}
use Rattle.jfs_shown.specs.meaning.specs.Readers.{readers}
use Rattle.jfs_unmount.specs.Synced.{NoneFreed}
use Rattle.jfs_unmount.proofs.Synced.{settled_at, settled_owned, settled_size, still_known_law as still_known}
use Rattle.jfs_room.specs.Laws.{NoneReserved}
use Rattle.jfs_call.specs.volume.specs.Settles.{is_freed, Settles, SettlesTo, KeepsMap, StaysShown}
use Rattle.jfs_call.specs.volume_calls.specs.Written.{KeepsPages, LeavesMaps}
use Rattle.jfs_call.specs.volume_calls.proofs.Kept.{shown}
use Rattle.jfs_call.specs.volume.specs.Told.{still_freed}
use Rattle.jfs_call.specs.halves.specs.Parts.{Parts}
use Rattle.jfs_call.specs.halves.specs.declared.freed.FreedPage.{FreedPage}
use Rattle.jfs_served.specs.Holds.{blocks_at, volume_at, IsBusyPage, HoldsTree, KeepsFiles, StaysServing}
use Rattle.jfs_served.specs.Laws.{AskedLaw, JoinedLaw, AcknowledgedLaw, PointedLaw, HandedOutLaw, HomeLaw}
use Rattle.jfs_served.proofs.Files.{area_used, unchanged, consistent_in, files_stay}
use Rattle.jfs_served.proofs.Keeps.{kept, alone}

pub asked_law : AskedLaw
asked_law area log_pages old new h asked same = alone area log_pages old new h (record {
  states = ap (λ (m : Blocks). m.states) same;
  inodes = ap (λ (p : Parts). p.inodes) asked.parts;
  limit = ap (λ (p : Parts). p.limit) asked.parts;
  blocks = ap (λ (p : Parts). p.blocks) asked.parts;
  freed = ap (λ (p : Parts). p.freed) asked.parts;
  files = ap (λ (p : Parts). p.files) asked.parts;
  view = asked.view;
})

pub joined_law : JoinedLaw
joined_law area log_pages entry old new h is = alone area log_pages old new h (record {
  states = ap (λ (p : Parts). p.map.states) is;
  inodes = ap (λ (p : Parts). p.inodes) is;
  limit = ap (λ (p : Parts). p.limit) is;
  blocks = ap (λ (p : Parts). p.blocks) is;
  freed = ap (λ (p : Parts). p.freed) is;
  files = ap (λ (p : Parts). p.files) is;
  view = ap (λ (p : Parts). p.view) is;
})

pub home_law : HomeLaw
home_law area log_pages old new h home = alone area log_pages old new h (record {
  states = ap (λ (p : Parts). p.map.states) home.parts;
  inodes = ap (λ (p : Parts). p.inodes) home.parts;
  limit = ap (λ (p : Parts). p.limit) home.parts;
  blocks = ap (λ (p : Parts). p.blocks) home.parts;
  freed = ap (λ (p : Parts). p.freed) home.parts;
  files = ap (λ (p : Parts). p.files) home.parts;
  view = home.view tt;
})

pub handed_out_law : HandedOutLaw
handed_out_law area log_pages old new h is = alone area log_pages old new h (record {
  states = ap (λ (p : Parts). p.map.states) is;
  inodes = ap (λ (p : Parts). p.inodes) is;
  limit = ap (λ (p : Parts). p.limit) is;
  blocks = ap (λ (p : Parts). p.blocks) is;
  freed = ap (λ (p : Parts). p.freed) is;
  files = ap (λ (p : Parts). p.files) is;
  view = ap (λ (p : Parts). p.view) is;
})

-- ---- acknowledged

none_comes : (n : ℕ) (s : BlockState) → settled_state n s ≡ Reserved → s ≡ Reserved
none_comes n Free e = absurd (cc (e))
none_comes n Owned e = absurd (cc (e))
none_comes n Reserved e = refl
none_comes n (Busy entry) e = by (nat_le entry n) e
  where
    by : (x : Bool) → (if x then Free else Busy entry) ≡ Reserved → Busy entry ≡ Reserved
    by true e = absurd (cc (e))
    by false e = e

-- a page stays busy whose entry isn't acknowledged
busy_later : (n entry : ℕ) → nat_lt n entry ≡ true → settled_state n (Busy entry) ≡ Busy entry
busy_later n entry later = by (nat_le entry n) refl
  where
    by : (x : Bool) → nat_le entry n ≡ x → (if x then Free else Busy entry) ≡ Busy entry
    by false e = refl
    by true e = let l = leb-true entry n e in let m = ltb-true n entry later in absurd (omega (arith, l, m))

still_busy : (n : ℕ) (m : Blocks) (fs : List FreedPage) → AllByRecursion (IsBusyPage m) fs → AllByRecursion (IsBusyPage (blocks_settled n m)) (still_freed n fs)
still_busy n m [] all = tt
still_busy n m (f ∷ fs) all = by (nat_lt n f.by_entry) refl (still_busy n m fs all.1)
  where
    by : (x : Bool) → nat_lt n f.by_entry ≡ x → AllByRecursion (IsBusyPage (blocks_settled n m)) (still_freed n fs) → AllByRecursion (IsBusyPage (blocks_settled n m)) (if x then f ∷ still_freed n fs else still_freed n fs)
    by true e rest = (settled_at n m f.page ∙ ap (λ (s : BlockState). settled_state n s) all.0 ∙ busy_later n f.by_entry e, rest)
    by false e rest = rest

-- a page that is in use isn't freed
pub not_freed : (m : Blocks) (fs : List FreedPage) (q : ℕ) → AllByRecursion (IsBusyPage m) fs → is_owned m q ≡ true → is_freed fs q ≡ false
not_freed m [] q all owned = refl
not_freed m (f ∷ fs) q all owned = by (f.page == q) refl (not_freed m fs q all.1 owned)
  where
    by : (x : Bool) → (f.page == q) ≡ x → is_freed fs q ≡ false → (x || is_freed fs q) ≡ false
    by true e rest = let busy : state_of m q ≡ Busy f.by_entry = subst (λ (b : ℕ). state_of m b ≡ Busy f.by_entry) (eqb-true f.page q e) all.0 in absurd (cc (owned, ap is_owned_state busy))
    by false e rest = rest

-- so none of a fixed area is
pub none_freed : (area : ℕ → ℕ) (log_pages : ℕ) (p : Parts) → HoldsTree area log_pages p → NoneFreed area p
none_freed area log_pages p h b more = not_freed p.map p.freed b h.freed (and_parts (nat_lt b (blocks_at p)) (is_owned p.map b) (area_used (readers (blocks_at p)) (volume_at area p) h.consistent.sound.agrees b more)).1

module _ (area : ℕ → ℕ) (log_pages : ℕ) (old new : Parts) (h : HoldsTree area log_pages old) (s : Settles old new) where
  size_by : KeepsMap old new ⊎ ((n : ℕ) × SettlesTo n old new) → blocks_at new ≡ blocks_at old
  size_by (inl k) = ap (λ (m : Blocks). length m.states) k.map
  size_by (inr (n, t)) = ap (λ (m : Blocks). length m.states) t.map ∙ settled_size n old.map

  owned_by : (b : ℕ) → KeepsMap old new ⊎ ((n : ℕ) × SettlesTo n old new) → is_owned new.map b ≡ is_owned old.map b
  owned_by b (inl k) = ap (λ (m : Blocks). is_owned m b) k.map
  owned_by b (inr (n, t)) = ap (λ (m : Blocks). is_owned m b) t.map ∙ settled_owned n old.map b

  freed_by : KeepsMap old new ⊎ ((n : ℕ) × SettlesTo n old new) → AllByRecursion (IsBusyPage new.map) new.freed
  freed_by (inl k) = subst (λ (m : Blocks). AllByRecursion (IsBusyPage m) new.freed) (sym k.map) (subst (λ (fs : List FreedPage). AllByRecursion (IsBusyPage old.map) fs) (sym k.freed) h.freed)
  freed_by (inr (n, t)) = subst (λ (m : Blocks). AllByRecursion (IsBusyPage m) new.freed) (sym t.map)
      (subst (λ (fs : List FreedPage). AllByRecursion (IsBusyPage (blocks_settled n old.map)) fs) (sym t.freed) (still_busy n old.map old.freed h.freed))

  none_by : KeepsMap old new ⊎ ((n : ℕ) × SettlesTo n old new) → NoneReserved old.map → NoneReserved new.map
  none_by (inl k) none = subst (λ (m : Blocks). NoneReserved m) (sym k.map) none
  none_by (inr (n, t)) none = λ b e. none b (none_comes n (state_of old.map b) (sym (settled_at n old.map b) ∙ sym (ap (λ (m : Blocks). state_of m b) t.map) ∙ e))

  settled : StaysShown ⊤ old new → KeepsFiles area old new → StaysServing area log_pages old new
  settled shown known = record {
    keeps = kept area log_pages old new h (record {
      size = size_by s.map;
      owned = λ b. owned_by b s.map;
      inodes = s.inodes;
      limit = s.limit;
      blocks = s.blocks;
      freed = freed_by s.map;
      areas = λ b zero. (let none = h.areas b zero in (
        (λ n g. none.0 n (ap (λ (ps : List ℕ). slice_get ps n) (sym shown.block_places) ∙ g)),
        (λ n g. none.1 n (ap (λ (ps : List ℕ). slice_get ps n) (sym shown.inode_places) ∙ g)),
      ));
      view = λ b used zero. shown.view tt b (not_freed old.map old.freed b h.freed (and_parts (nat_lt b (blocks_at old)) (is_owned old.map b) used).1) (h.areas b zero);
      known = known;
    });
    none = none_by s.map;
  }

  pub acknowledged : KeepsPages ⊤ old new → StaysServing area log_pages old new
  acknowledged k = settled (shown ⊤ old new k)
      (files_stay area log_pages old new h (unchanged area old new (λ b more. k.view tt b (none_freed area log_pages old h b more)) k.files (size_by s.map) (λ b. owned_by b s.map) s.inodes))

  pub pointed : StaysShown ⊤ old new → LeavesMaps old new → StaysServing area log_pages old new
  pointed shown maps = settled shown (λ super knows. still_known super area old new knows (consistent_in super area log_pages old h knows) (none_freed area log_pages old h) s shown maps)

pub acknowledged_law : AcknowledgedLaw
acknowledged_law area log_pages old new h s k = acknowledged area log_pages old new h s k

pub pointed_law : PointedLaw
pointed_law area log_pages old new h s shown maps = pointed area log_pages old new h s shown maps
