-- Pages that go home, syncs and syncpoints of a volume that is kept.
use Rattle.std.specs.Bool.{⊤}
use Rattle.std.proofs.Common.{◌≡◌, ◌∷◌, [], ◌++◌, ℕ, true, List, length, map, refl, sym, ap, subst, ◌∙◌, arith}
use Rattle.jfs_disk.specs.Crash.{DiskState, last_of, settled as settled_state}
use Rattle.jfs_disk.specs.Moment.{IsResting}
use Rattle.jfs_super.specs.declared.fields.Super.{Super}
use Rattle.jfs_logpages.specs.Records.{log_text}
use Rattle.jfs_records.specs.Entries.{Item, entry, point, log_records}
use Rattle.jfs_records.proofs.ReadBack.{length-items}
use Rattle.jfs_legal.specs.served.specs.crash_core.specs.Core.{Block}
use Rattle.jfs_legal.specs.served.specs.crash_core.specs.Step.{synced as synced_block}
use Rattle.jfs_legal.specs.served.specs.halves.specs.Half.{VolumeHalf, all_synced}
use Rattle.jfs_legal.specs.served.specs.halves.specs.Parts.{Parts, StandsFor}
use Rattle.jfs_legal.specs.served.specs.volume.specs.Settles.{HomesAlone}
use Rattle.jfs_legal.specs.served.specs.shown.specs.meaning.specs.Image as meaning
use Rattle.jfs_points_kept.proofs.Homes.{home_all_law, sync_law}
use Rattle.jfs_points_kept.proofs.Written.{home_maps_law}
use Rattle.jfs_points_kept.proofs.Points.{settled_law, point_law, know_law}
use Rattle.jfs_points_kept.specs.pages_held.specs.Homes.{AllTold}
use Rattle.jfs_mounted_maps.specs.mounted_held.specs.mounted_places.specs.Mounted.{mount_of}
use Rattle.jfs_kept_history.specs.Kept.{Lasting, IsKeptSince}
use Rattle.jfs_kept_history.specs.Laws as laws
use Rattle.jfs_kept_history.proofs.Same.{as_many, same_entries, stepped}

-- a text without bytes has no items
no_items : (ring place : ℕ) (items : List Item) → log_text (log_records ring place items) ≡ [] → items ≡ []
no_items ring place [] e = refl
no_items ring place (entry n tx ∷ is) e = absurd (let k : ⊥ = omega (arith, ap (λ (b : List ℕ). length b) e, length-items ring place (entry n tx ∷ is)) in k)
no_items ring place (point sync ∷ is) e = absurd (let k : ⊥ = omega (arith, ap (λ (b : List ℕ). length b) e, length-items ring place (point sync ∷ is)) in k)

-- what a disk that tells says of pages that go home
seen : (tells : Type 0) → tells → (old new : Parts) → HomesAlone tells old new → HomesAlone ⊤ old new
seen tells t old new h = record { parts = h.parts; view = λ _. h.view t }

module _ (s : Super) (page : ℕ → List ℕ) (start : Parts) (list : List Lasting) (points : List ℕ) (old : Parts) (k : IsKeptSince s page start list points old) where
  -- all is acknowledged in what keeps it
  all_told : old.told ≡ old.appended → AllTold k.keeper.both
  all_told e = sym k.kept.rests.stands.told ∙ e ∙ k.kept.rests.stands.appended

pub home_all : (tells crashes : Type 0) → laws.HomeAllLaw tells crashes
home_all tells crashes t c s page start list points old new result k told homes alone halts =
    stepped s page start list points old k new (home_all_law (mount_of s k.low) (meaning.volume_of s page).area old new k.keeper result k.kept (all_told s page start list points old k told)
    (homes true true (λ _. t) (λ _. c) k.keeper.both.volume k.kept.rests.stands) (seen tells t old new alone) halts)

pub home_maps : (tells crashes : Type 0) → laws.HomeMapsLaw tells crashes
home_maps tells crashes t c s page start list points old new result k told runs homes memory places written halts =
    stepped s page start list points old k new (home_maps_law (mount_of s k.low) (meaning.volume_of s page).area old new k.keeper result k.kept (all_told s page start list points old k told) runs
    (homes true true (λ _. t) (λ _. c) k.keeper.both.volume k.kept.rests.stands) memory places written halts)

pub synced : (tells crashes : Type 0) → laws.SyncLaw tells crashes
synced tells crashes t c s page start list points old new result k sync alone halts =
    stepped s page start list points old k new (sync_law (mount_of s k.low) (meaning.volume_of s page).area old new k.keeper result k.kept
    (sync true true (λ _. t) (λ _. c) k.keeper.both.volume k.kept.rests.stands) (seen tells t old new alone) halts)

-- a disk whose blocks were all synced
synced_rest : (blocks : List Block) → map (λ (b : Block). b.pages) (map synced_block blocks) ≡ settled_state (map (λ (b : Block). b.pages) (map synced_block blocks))
unfolding settled_state
synced_rest [] = refl
synced_rest (b ∷ bs) = ap (λ (state : DiskState). (synced_block b).pages ∷ state) (synced_rest bs)

low_rests : (new : Parts) (half : VolumeHalf) → StandsFor true true new (all_synced half) → IsResting (last_of new.past)
low_rests new half stands = subst IsResting (sym (stands.low refl refl)) (synced_rest half.blocks)

pub settled : (tells crashes : Type 0) → laws.SettledLaw tells crashes
settled tells crashes t c s page start list points old new k told clean blocks inodes runs sync alone halts =
    let moves = sync true true (λ _. t) (λ _. c) k.keeper.both.volume k.kept.rests.stands in
    let done = settled_law (mount_of s k.low) (meaning.volume_of s page).area old new k.keeper k.kept moves (seen tells t old new alone) halts
    (all_told s page start list points old k told) clean blocks inodes runs in
    record { since = stepped s page start list points old k new done.0; settled = done.1; rests = low_rests new k.keeper.both.volume moves.stands }

pub pointed : (tells crashes : Type 0) → laws.PointLaw tells crashes
pointed tells crashes t c s page start list points old new k empty made e =
    let x = k.since.keeper in
    let stands = k.since.kept.rests.stands in
    let steps = point_law (mount_of s k.since.low) (meaning.volume_of s page).area old new x k.since.kept k.settled
    (no_items x.both.volume.waiting.ring x.both.volume.waiting.place x.both.volume.waiting.items (sym stands.text.bytes ∙ empty))
    (made true true (λ _. t) (λ _. c) x.both.volume stands k.settled.half) e in
    subst (λ (n : ℕ). IsKeptSince s page start list (points ++ n ∷ []) new) (as_many s page start list points old k.since)
    (same_entries s page start list points old k.since new (length x.both.volume.history ∷ []) steps.keeper steps.kept steps.grows)

pub known : (tells crashes : Type 0) → laws.KnowLaw tells crashes
known tells crashes t c s page start list points old new k knows e =
    stepped s page start list points old k new (know_law (mount_of s k.low) (meaning.volume_of s page).area old new k.keeper k.kept (knows true true (λ _. t) (λ _. c) k.keeper.both.volume k.kept.rests.stands) e)
