-- The window of the history that a log commits which a crash left.
use Rattle.std.proofs.Common.{◌≡◌, ◌<◌, ◌-◌, ℕ, List, ◌∷◌, map, drop, refl, sym, ◌∙◌, subst, inl, inr, arith}
use Rattle.jfs_bits.specs.Field.{AreBytes}
use Rattle.jfs_disk.specs.Image.{Image, page_of}
use Rattle.jfs_ranges.specs.declared.edit.Edit.{Edit}
use Rattle.jfs_super.specs.Rules.{blocks_of}
use Rattle.jfs_super.specs.declared.fields.Super.{Super}
use Rattle.jfs_records.specs.Committed.{committed}
use Rattle.jfs_records.specs.logpages.specs.Back.{Met}
use Rattle.jfs_records.specs.logpages.specs.declared.ring_text.RingText.{RingText}
use Rattle.jfs_records.specs.logpages.specs.ReadLog.{IsReadAs}
use Rattle.jfs_log_window.specs.Window.{IsLogOfHalves, CommitsWindow}
use Rattle.jfs_log_window.proofs.Window.{window_law, rest_law}
use Rattle.jfs_log_readings.specs.Readings.{committed_by, IsUnbroken}
use Rattle.jfs_log_readings.proofs.Found.{found_law}
use Rattle.jfs_log_readings.proofs.Readings.{reading_law, unbroken_law}
use Rattle.jfs_redo.specs.Log.{AreCommitted}
use Rattle.jfs_held_maps.specs.mounted_places.specs.held.specs.survival.specs.halves.specs.Half.{Halves}
use Rattle.jfs_crashes_redone.specs.Crashed.{IsLogLeft, HasCrashed}

window_of : (ring blocks : ℕ) (log : Image) (both : Halves) → IsLogOfHalves ring blocks both → IsLogLeft ring both log → CommitsWindow ring blocks log both
window_of ring blocks log both is (inl (front, high, number, prefix)) = window_law ring blocks high log front both is number prefix
window_of ring blocks log both is (inr (last, front, ends, same, holds)) =
    subst (λ (k : ℕ). CommitsWindow k blocks log both) same (rest_law last blocks log front ends both (subst (λ (k : ℕ). IsLogOfHalves k blocks both) (sym same) is) holds)

module _ (s : Super) (both : Halves) (old : Image) (crashed : HasCrashed s both old) where
  abbrev pub pages : ℕ
  pages = s.logpxd.len

  abbrev pub log : Image
  log = drop s.logpxd.addr old

  pub window : CommitsWindow (pages - 2) (blocks_of s) log both
  window = window_of (pages - 2) (blocks_of s) log both crashed.log_is crashed.log

  more : 2 < pages
  more = let some = crashed.log_is.some in omega (arith, some)

  -- whatever a reading commits is that window
  pub is_window : (txs : List (List Edit)) → AreCommitted pages (blocks_of s) log txs → txs ≡ committed_by window
  is_window txs is = is.are ∙ reading_law pages (blocks_of s) log both is.read more window is.reads

  -- and there is one
  pub commits : ((p : ℕ) → AreBytes (page_of log p)) → (txs : List (List Edit)) × AreCommitted pages (blocks_of s) log txs
  commits bytes = by (found_law pages (blocks_of s) log both crashed.log_is.some crashed.log_is.most bytes window crashed.log_super crashed.log_label)
    where
      by : (read : RingText) × IsReadAs pages (blocks_of s) log read → (txs : List (List Edit)) × AreCommitted pages (blocks_of s) log txs
      by (read, is) = (committed (map (λ (m : Met). m.is) (is.m ∷ is.ms)), record { read = read; reads = is; are = refl })

  pub unbroken_log : IsUnbroken pages (blocks_of s) log
  unbroken_log = unbroken_law pages (blocks_of s) log both more window crashed.log_super crashed.log_label
