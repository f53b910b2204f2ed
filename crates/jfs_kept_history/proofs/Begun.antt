-- A volume that was just mounted is kept.
use Rattle.std.specs.Bool.{⊤}
use Rattle.std.proofs.Common.{◌≡◌, ◌≤◌, ◌-◌, [], ℕ, true, length, take, refl, sym, ap, subst, ◌∙◌, arith}
use Rattle.jfs_disk.specs.Image.{Image, page_of}
use Rattle.jfs_super.specs.Geometry.{IsLayout, geometry_of}
use Rattle.jfs_super.specs.Rules.{blocks_of}
use Rattle.jfs_super.specs.Super.{super_of}
use Rattle.jfs_super.specs.declared.fields.Super.{Super}
use Rattle.jfs_super.proofs.Rules.{accepted_layout}
use Rattle.jfs_log_window.proofs.Events.{events_begin}
use Rattle.jfs_legal.specs.served.specs.halves.specs.Entry.{Shown}
use Rattle.jfs_legal.specs.served.specs.halves.specs.Log.{LogParts}
use Rattle.jfs_legal.specs.served.specs.halves.specs.Parts.{Parts, StandsFor}
use Rattle.jfs_legal.specs.served.specs.Legal.{IsLegal}
use Rattle.jfs_legal.specs.served.specs.mounted.specs.Mount.{IsMountOf}
use Rattle.jfs_legal.specs.served.specs.Holds.{volume_at}
use Rattle.jfs_legal.specs.served.specs.shown.specs.meaning.specs.Consistent.{IsConsistent}
use Rattle.jfs_legal.specs.served.specs.shown.specs.meaning.specs.Image as meaning
use Rattle.jfs_legal.specs.served.specs.shown.specs.meaning.specs.Readers.{readers}
use Rattle.jfs_legal.specs.served.specs.shown.specs.objects.specs.Volume.{Volume}
use Rattle.jfs_legal.specs.served.specs.shown.specs.way.specs.Volume.{volume_of}
use Rattle.jfs_calls_kept.specs.entries_kept.proofs.Newest.{newest_law}
use Rattle.jfs_mounted_maps.specs.mounted_held.specs.Mounted.{low_of, from_mount}
use Rattle.jfs_mounted_maps.specs.mounted_held.specs.mounted_places.specs.Mounted.{mount_of}
use Rattle.jfs_mounted_maps.specs.Keepable.{IsKeepableMount, IsHeldFromMount}
use Rattle.jfs_mounted_maps.proofs.Mounted.{mounted_law, sound, superblock_law}
use Rattle.jfs_mounted_pages.proofs.Mounted.{mounted_law as pages_law}
use Rattle.jfs_points_kept.specs.kept_volumes.specs.Keeper.{Keeper}
use Rattle.jfs_points_kept.specs.kept_volumes.specs.Kept.{IsHeldAtRest, IsKept}
use Rattle.jfs_points_kept.specs.kept_volumes.specs.Rest.{IsAtRest}
use Rattle.jfs_points_kept.specs.kept_volumes.specs.joined_held.specs.Held.{blocks_at}
use Rattle.jfs_kept_history.specs.Kept.{Reaches}
use Rattle.jfs_kept_history.specs.Laws.{BeginLaw}
use Rattle.jfs_kept_history.proofs.Keepable.{mount_to_keep}

module _ (s : Super) (old : Image) (p : Parts) (log : LogParts) (m : IsMountOf ⊤ ⊥ s old p log) (to : IsKeepableMount s old m.pages) where
  abbrev ring : ℕ
  ring = s.logpxd.len - 2

  abbrev area : ℕ → ℕ
  area = (meaning.volume_of s (page_of old)).area

  abbrev pub keeper : Keeper
  keeper = record { both = (from_mount s old m).both; core = (from_mount s old m).core; volumes = (from_mount s old m).volumes }

  layout : IsLayout (geometry_of s)
  layout = accepted_layout s (length old) to.accepted

  size : blocks_at p ≡ blocks_of s
  size = ap (λ map. length map.states) m.has_maps.0 ∙ m.rest.number

  start : IsHeldFromMount s old p log m
  start = mounted_law s old p log m to

  shown : Shown
  shown = record { pages = m.pages; map = m.maps.blocks; inodes = m.maps.inodes }

  rest : IsAtRest (blocks_at p) keeper.both
  unfolding shown
  rest =
      let shortest = layout.shortest in
      let longest = layout.longest in
      let most = layout.most in record {
        none = record { durable = refl; points = refl; stable = refl; group = refl };
        runs = refl;
        events = events_begin ring shown;
        size = omega (arith, size, most);
        some = omega (arith, shortest);
        most = omega (arith, longest);
        fit = (omega arith, tt);
        waits = tt;
        half = (omega (arith, shortest), omega (arith, shortest));
        place = refl;
      }

  pub rests : StandsFor true true p keeper.both.volume → IsHeldAtRest (mount_of s (low_of m.pages)) area p keeper
  rests stands = record { held = start.held; stands = stands; rest = rest; maps = start.maps }

  pub kept : StandsFor true true p keeper.both.volume → IsKept (mount_of s (low_of m.pages)) area p keeper
  kept stands = record { rests = rests stands; pages = pages_law s (length old) old p log m (sound s old p log m to) start.maps.extents }

  consistent : StandsFor true true p keeper.both.volume → IsConsistent (readers (blocks_of s)) (volume_at area p)
  consistent stands = subst (λ (v : Volume). IsConsistent (readers (blocks_of s)) v) (λ i. volume_of (page_of (sym (stands.view refl) i)) area (sym m.has_maps.0 i) (sym m.has_maps.1 i)) (m.keeps tt to.keepable.consistent).consistent

  pub reached : StandsFor true true p keeper.both.volume → (k : ℕ) → k ≤ 0 → Reaches s (page_of old) p (take k []) (keeper.volumes k)
  reached stands k within = subst (λ (n : ℕ). Reaches s (page_of old) p (take n []) (keeper.volumes n)) (let none : 0 ≡ k = omega (arith, within) in none)
      (record { last = p; legal = IsLegal.starts; blocks = size; same = newest_law (mount_of s (low_of m.pages)) area p keeper (rests stands); consistent = consistent stands })

-- the mount, of a disk that tells its contents
abbrev told_mount : (tells crashes : Type 0) → tells → (s : Super) (old : Image) (p : Parts) (log : LogParts) → IsMountOf tells crashes s old p log → IsMountOf ⊤ ⊥ s old p log
told_mount tells crashes told s old p log m = record {
  pages = m.pages;
  maps = m.maps;
  fresh = λ seen asked t c. m.fresh seen asked (λ e. told) (λ e. absurd (c e));
  log_fresh = λ seen asked t c. m.log_fresh seen asked (λ e. told) (λ e. absurd (c e));
  marked = λ t. m.marked told;
  superblock = λ t. m.superblock told;
  rest = m.rest;
  has_maps = m.has_maps;
  found = λ t. m.found told;
  keeps = λ t. m.keeps told;
}

pub begin_law : (tells crashes : Type 0) → BeginLaw tells crashes
begin_law tells crashes t c s old p log m image =
    let to = mount_to_keep tells crashes t s old p log m image in
    let told = told_mount tells crashes t s old p log m in
    let stands = m.fresh true true (λ _. t) (λ _. c) in record {
      low = low_of m.pages;
      keeper = keeper s old p log told to;
      superblock = ap super_of (superblock_law s old p log told to) ∙ m.superblock t;
      kept = kept s old p log told to stands;
      history = refl;
      points_are = refl;
      reached = reached s old p log told to stands;
    }
