-- Pages of a kept volume that go home, those of the maps behind them, and a sync.
use Rattle.std.proofs.Common.{◌≡◌, ℕ, List, None, Result, Ok, Err, sym, ap, ◌∙◌}
use Rattle.std.specs.Prelude.{OnOk}
use Rattle.jfs_disk.specs.declared.disk.Fault.{Fault}
use Rattle.jfs_kept_history.specs.legal.specs.served.specs.call.specs.halves.specs.Parts.{Parts, OfEachHalf}
use Rattle.jfs_kept_history.specs.legal.specs.served.specs.call.specs.volume.specs.MapsHome.{MapsHome, KeepsMemory, KeepsPlaces, with_written}
use Rattle.jfs_kept_history.specs.legal.specs.served.specs.call.specs.volume.specs.Settle.{AllHome, SyncIs}
use Rattle.jfs_kept_history.specs.legal.specs.served.specs.call.specs.volume.specs.Settles.{HomesAlone, HaltsAt}
use Rattle.jfs_kept_history.specs.legal.specs.served.specs.call.specs.volume.specs.map_files.specs.declared.map_file.MapFiles.{MapFiles}
use Rattle.jfs_kept_history.specs.legal.specs.served.specs.call.specs.volume.specs.pages.specs.Dirty.{dirty_of}
use Rattle.jfs_kept_history.specs.legal.specs.served.specs.call.specs.volume.specs.pages.specs.declared.dirty.Dirty.{Dirty}
use Rattle.jfs_kept_history.proofs.Steps as steps
use Rattle.jfs_shared.specs.Settled.{KeepsHistory, SettlesHistory}

-- dirty pages, or some of them where a write fails
pub homes : (tells crashes : Type 0) (old new : Parts) (result : Result (Unit {0}) Fault) → old.told ≡ old.appended → OfEachHalf tells crashes old (λ seen asked half. AllHome seen asked old new half result) → HomesAlone tells old new → HaltsAt old.halted new.halted result
    → KeepsHistory tells crashes old new
homes tells crashes old new result told home alone halts t c s page start list points k = steps.home_all tells crashes t c s page start list points old new result k told home alone halts

module _ (tells crashes : Type 0) (old mid : Parts) (told : old.told ≡ old.appended) (runs : old.halted ≡ None) (home : OfEachHalf tells crashes old (λ seen asked half. AllHome seen asked old mid half (Ok tt))) (alone : HomesAlone tells old mid) (halts : mid.halted ≡ old.halted) where
  mid_told : mid.told ≡ mid.appended
  mid_told = ap (λ (p : Parts). p.told) alone.parts ∙ told ∙ sym (ap (λ (p : Parts). p.appended) alone.parts)

  -- those of the maps, or some of them
  pub maps : (new : Parts) (result : Result (Unit {0}) Fault) → OfEachHalf tells crashes mid (λ seen asked half. MapsHome seen asked mid new half result) → KeepsMemory mid new → KeepsPlaces mid new → OnOk result (new.files ≡ with_written mid.files) → HaltsAt mid.halted new.halted result
      → KeepsHistory tells crashes old new
  maps new result maps_home memory places written maps_halts t c s page start list points k =
      steps.home_maps tells crashes t c s page start list points mid new result (homes tells crashes old mid (Ok tt) told home alone halts t c s page start list points k) mid_told (halts ∙ runs) maps_home memory places written maps_halts

  module _ (clean : (p : ℕ) → dirty_of mid.dirty p ≡ None) (last : Parts) (maps_home : OfEachHalf tells crashes mid (λ seen asked half. MapsHome seen asked mid last half (Ok tt))) (memory : KeepsMemory mid last) (places : KeepsPlaces mid last) (written : last.files ≡ with_written mid.files) (maps_halts : last.halted ≡ mid.halted)
      (new : Parts) (sync_alone : HomesAlone tells last new) where
    kept : KeepsHistory tells crashes old last
    kept = maps last (Ok tt) maps_home memory places written maps_halts

    last_told : last.told ≡ last.appended
    last_told = ap (λ (p : Parts). p.told) memory ∙ mid_told ∙ sym (ap (λ (p : Parts). p.appended) memory)

    -- the low part is synced
    pub synced : (result : Result (Unit {0}) Fault) → OfEachHalf tells crashes last (λ seen asked half. SyncIs seen asked last new half result) → HaltsAt last.halted new.halted result → KeepsHistory tells crashes old new
    synced result sync sync_halts t c s page start list points k =
        steps.synced tells crashes t c s page start list points last new result (kept t c s page start list points k) sync sync_alone sync_halts

    pub settles : (result : Result (Unit {0}) Fault) → OfEachHalf tells crashes last (λ seen asked half. SyncIs seen asked last new half result) → HaltsAt last.halted new.halted result → OnOk result (SettlesHistory tells crashes old new)
    settles (Ok done) sync sync_halts = λ t c s page start list points k.
        steps.settled tells crashes t c s page start list points last new (kept t c s page start list points k) last_told
        (λ p. ap (λ (ds : List Dirty). dirty_of ds p) (ap (λ (x : Parts). x.dirty) memory) ∙ clean p)
        (ap (λ (f : MapFiles). f.blocks.stale) written) (ap (λ (f : MapFiles). f.inodes.stale) written) (maps_halts ∙ halts ∙ runs) sync sync_alone sync_halts
    settles (Err fault) sync sync_halts = tt
