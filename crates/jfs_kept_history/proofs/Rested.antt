-- Whatever a crash leaves of a kept volume whose log runs is redone to its history.
use Rattle.std.proofs.Common.{◌≡◌, ◌≤◌, ◌-◌, ◌*◌, ◌∷◌, [], ◌++◌, ℕ, List, length, take, drop, replicate, refl, sym, ap, subst, ◌∙◌, inl, inr, arith}
use Rattle.std.proofs.lemmas.List.{length-replicate, length-take, get_or-take}
use Rattle.jfs_disk.specs.Crash.{DiskState, IsCrashImage}
use Rattle.jfs_disk.specs.Image.{Image, page_of}
use Rattle.jfs_super.specs.Rules.{blocks_of}
use Rattle.jfs_super.specs.declared.fields.Super.{Super}
use Rattle.jfs_logfmt.specs.Super.{is_log_super, log_super_of}
use Rattle.jfs_logfmt.specs.declared.log_super.LogSuper.{LogSuper}
use Rattle.jfs_logfmt.proofs.ReadBack.{LogSuperInRange, log_super_of-puts, is_log_super-puts}
use Rattle.jfs_logpages.specs.Fresh.{fresh_super, super_page, own_label}
use Rattle.jfs_logpages.specs.Group.{Holds}
use Rattle.jfs_logpages.specs.ReadLog.{HasSuper, label_of}
use Rattle.jfs_logpages.specs.Records.{log_text}
use Rattle.jfs_records.specs.Entries.{Item, point, log_records}
use Rattle.jfs_groups.specs.Text.{text_with, items_with}
use Rattle.jfs_log_window.specs.Window.{IsLogOfHalves, stable_text}
use Rattle.jfs_crashes_redone.specs.Crashed.{HasCrashed, IsLogLeft}
use Rattle.jfs_legal.specs.served.specs.halves.specs.Half.{LogHalf, Halves}
use Rattle.jfs_legal.specs.served.specs.halves.specs.Parts.{Parts}
use Rattle.jfs_legal.specs.served.specs.shown.specs.meaning.specs.Image as meaning
use Rattle.jfs_mounted_maps.specs.mounted_held.specs.mounted_places.specs.Mounted.{mount_of}
use Rattle.jfs_points_kept.specs.kept_volumes.specs.Logs.{with_log, IsGroup, IsLogBeside}
use Rattle.jfs_points_kept.specs.kept_volumes.proofs.Besides.{beside_law}
use Rattle.jfs_kept_history.specs.Crash.{IsRedoneToHistory}
use Rattle.jfs_kept_history.specs.Kept.{Lasting, noted_in, IsKeptSince}
use Rattle.jfs_kept_history.specs.Rested.{HasBothParts, HasRested, RestedLaw}
use Rattle.jfs_kept_history.proofs.Crash.{crash_law}
use Rattle.jfs_kept_history.proofs.Items.{items_law}

-- ---- the superblock of a log

record HasOwn (pages : ℕ) (log : Image) : Type 0 where
  has : HasSuper pages log
  label : label_of log ≡ own_label

has_own : (pages : ℕ) (uuid : List ℕ) (log : Image) → pages ≤ 65537 → length uuid ≡ 16 → page_of log 1 ≡ super_page pages uuid → HasOwn pages log
has_own pages uuid log small long is =
    let zeros = length-replicate {A = ℕ} 4096 0 in
    let range : LogSuperInRange (fresh_super pages uuid) = record { serial = omega arith; size = omega (arith, small); state = omega arith; uuid = long; label = refl } in
    let read : log_super_of (page_of log 1) ≡ fresh_super pages uuid = ap (λ (p : List ℕ). log_super_of p) is ∙ log_super_of-puts (fresh_super pages uuid) (replicate 4096 0) range zeros in
    record {
      has = (ap (λ (p : List ℕ). is_log_super p) is ∙ is_log_super-puts (fresh_super pages uuid) (replicate 4096 0) range zeros, ap (λ (t : LogSuper). t.size) read);
      label = ap (λ (t : LogSuper). t.label) read;
    }

module _ (s : Super) (page : ℕ → List ℕ) (start : Parts) (list : List Lasting) (points : List ℕ) (p : Parts) (old : Image) (long : length s.uuid ≡ 16) (k : IsKeptSince s page start list points p) (parts : HasBothParts s p old) where
  abbrev both : Halves
  both = k.keeper.both

  abbrev pub ring : ℕ
  ring = s.logpxd.len - 2

  -- the log's text begins behind zeros
  abbrev pub before : List ℕ
  before = replicate (4080 * (ring - 1)) 0

  -- whatever the log is, beside what keeps the volume
  module _ (log : LogHalf) (beside : IsLogBeside k.keeper log) (left : IsLogLeft ring (with_log log both) (drop s.logpxd.addr old)) where
    log_is : IsLogOfHalves ring (blocks_of s) (with_log log both)
    log_is = subst {A = ℕ × ℕ} (λ z. IsLogOfHalves z.0 z.1 (with_log log both)) (λ i. (same_ring i, same_blocks i)) (beside_law (mount_of s k.low) (meaning.volume_of s page).area p k.keeper log k.kept.rests beside).log_is
      where
        same_ring : both.volume.waiting.ring ≡ ring
        same_ring = sym k.kept.rests.stands.text.ring ∙ parts.ring

        same_blocks : length p.map.states ≡ blocks_of s
        same_blocks = sym k.kept.rests.held.blocks

    own : HasOwn s.logpxd.len (drop s.logpxd.addr old)
    own = has_own s.logpxd.len s.uuid (drop s.logpxd.addr old) (let most = log_is.most in omega (arith, most)) long parts.log_super

    crashed : HasCrashed s (with_log log both) old
    crashed = record {
      low = take s.logpxd.addr old;
      crash = subst (λ (state : DiskState). IsCrashImage state (take s.logpxd.addr old)) (k.kept.rests.stands.low refl refl) parts.low;
      same = λ n small. sym (get_or-take s.logpxd.addr old n [] (let size = length-take s.logpxd.addr old in omega (arith, size, small)));
      log_is = log_is;
      log = left;
      log_super = own.has;
      log_label = own.label;
    }

    pub redone_with : IsRedoneToHistory s page start list log.durable old
    redone_with = crash_law s page start list points p log old k beside crashed

-- ---- a log that runs

module _ (s : Super) (page : ℕ → List ℕ) (start : Parts) (list : List Lasting) (points : List ℕ) (p : Parts) (old : Image) (long : length s.uuid ≡ 16) (k : IsKeptSince s page start list points p) (r : HasRested s list points p old) where
  -- it is what keeps the volume
  rests_beside : IsLogBeside k.keeper k.keeper.both.log
  rests_beside =
      let rest = k.kept.rests.rest in
      let core = k.kept.rests.held.held.core_is in
      let within = core.sound.counts.told_durable in
      record {
        events = rest.events;
        group = subst IsGroup (sym rest.none.group) (inl tt);
        told = omega (arith, within, core.told, core.durable);
      }

  abbrev zeros_of : List ℕ
  zeros_of = before s page start list points p old long k r.parts

  text_is : text_with (s.logpxd.len - 2) (items_with noted_in 0 (take p.taken list) points) ≡ stable_text r.last.ring zeros_of k.keeper.both.log
  text_is =
      ap (λ (n : ℕ). zeros_of ++ log_text (log_records (s.logpxd.len - 2) n (point 0 ∷ items_with noted_in 0 (take p.taken list) points))) (sym (length-replicate {A = ℕ} (4080 * (s.logpxd.len - 2 - 1)) 0))
      ∙ ap (λ (is : List Item). zeros_of ++ log_text (log_records (s.logpxd.len - 2) (length zeros_of) is)) (sym (items_law s page start list points p k))
      ∙ ap (λ (n : ℕ). zeros_of ++ log_text (log_records n (length zeros_of) k.keeper.both.log.items)) (sym r.last_ring)

  rested_left : IsLogLeft (s.logpxd.len - 2) k.keeper.both (drop s.logpxd.addr old)
  rested_left = inr (r.last, zeros_of, r.log.ends, r.last_ring, subst (λ (text : List ℕ). Holds r.last text r.log.ends (drop s.logpxd.addr old)) text_is r.log.holds)

  pub redone : IsRedoneToHistory s page start list p.taken old
  redone = subst (λ (n : ℕ). IsRedoneToHistory s page start list n old) (k.kept.rests.rest.none.durable ∙ sym k.kept.rests.stands.taken)
      (redone_with s page start list points p old long k r.parts k.keeper.both.log rests_beside rested_left)

pub rested_law : (tells crashes : Type 0) → RestedLaw tells crashes
rested_law tells crashes t c s page start list points p old long k r = redone s page start list points p old long k r
