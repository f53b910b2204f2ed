-- A volume that was just mounted, and never shared: whatever a crash leaves is redone to it.
use Rattle.std.proofs.Common.{◌≡◌, ◌-◌, ◌*◌, ◌++◌, ◌∷◌, [], ℕ, zero, suc, true, false, List, length, map, take, drop, replicate, refl, sym, ap, subst, ◌∙◌, arith, append-nil}
use Rattle.std.proofs.lemmas.List.{length-map}
use Rattle.jfs_disk.specs.Crash.{DiskState, IsCrashImage, resting, at_rest, last_of, seen_of}
use Rattle.jfs_disk.specs.Image.{Image, page_of}
use Rattle.jfs_disk.specs.Moment.{IsResting}
use Rattle.jfs_disk.proofs.Flow.{crash-resting}
use Rattle.jfs_super.specs.declared.fields.Super.{Super}
use Rattle.jfs_logfmt.specs.Written.{text_of}
use Rattle.jfs_logpages.specs.Fresh.{first_record}
use Rattle.jfs_logpages.specs.Group.{Holds}
use Rattle.jfs_logpages.specs.Ring.{fresh_ends}
use Rattle.jfs_mount_disk.proofs.Left.{crash_low, crash_high}
use Rattle.jfs_kept_history.specs.legal.specs.served.specs.crash_core.specs.Core.{Block, fresh_block}
use Rattle.jfs_kept_history.specs.legal.specs.served.specs.halves.specs.Log.{LogParts}
use Rattle.jfs_kept_history.specs.legal.specs.served.specs.halves.specs.Parts.{Parts}
use Rattle.jfs_kept_history.specs.legal.specs.served.specs.shown.specs.meaning.specs.Image.{volume_of}
use Rattle.jfs_groups.specs.Text.{HoldsText}
use Rattle.jfs_kept_history.specs.Crash.{IsRedoneToHistory}
use Rattle.jfs_kept_history.specs.Keepable.{IsKeepableImage}
use Rattle.jfs_kept_history.specs.Kept.{Lasting, noted_in}
use Rattle.jfs_kept_history.specs.Rested.{HasBothParts, HasRested}
use Rattle.jfs_kept_history.proofs.Keepable.{uuid_size}
use Rattle.jfs_kept_history.proofs.Marked.{rests as rests_all}
use Rattle.jfs_kept_history.proofs.Rested.{rested_law}
use Rattle.jfs_kept_history.proofs.Unmounts.{unmounted_again_law}
use Rattle.jfs_shared.specs.Left.{IsLeftUncalled, UncalledLaw}
use Rattle.jfs_shared.specs.Shared.{IsKeptServed}
use Rattle.jfs_shared.specs.Start.{IsJustMounted}
use Rattle.jfs_shared.proofs.Begun.{kept, holds, rests, log_stands}
use Rattle.jfs_shared.proofs.Served.{history_law}

-- of a fresh volume nothing is pending
low_fresh : (pages : Image) → map (λ (block : Block). block.pages) (map fresh_block pages) ≡ at_rest pages
low_fresh [] = refl
low_fresh (page ∷ pages) = ap (λ (rest : DiskState). resting page ∷ rest) (low_fresh pages)

none_of : (n : ℕ) → take {A = Lasting} n [] ≡ []
none_of zero = refl
none_of (suc n) = refl

module _ (tells crashes : Type 0) (t : tells) (asked : crashes) (s : Super) (image : Image) (volume : Parts) (log : LogParts) (m : IsJustMounted tells crashes s image volume log) (reads : log.image ≡ seen_of (last_of log.past)) (checked : IsKeepableImage s image) where
  abbrev low : DiskState
  low = last_of volume.past

  abbrev high : DiskState
  high = last_of log.past

  k : IsKeptServed s image false [] [] volume
  k = kept tells crashes s image volume log m t asked checked

  low_long : length low ≡ s.logpxd.addr
  low_long =
      let stands = k.since.kept.rests.stands in
      ap (λ (state : DiskState). length state) (stands.low refl refl) ∙ length-map k.since.keeper.both.volume.blocks (λ (block : Block). block.pages) ∙ stands.number ∙ k.blocks

  module _ (left : Image) (crash : IsCrashImage (low ++ high) left) where
    log_is : log.image ≡ drop s.logpxd.addr left
    log_is = reads ∙ sym (crash-resting high (drop s.logpxd.addr left) (rests tells crashes s image volume log m asked) (crash_high low high left crash s.logpxd.addr low_long))

    parts : HasBothParts s volume left
    parts = record {
      ring = k.ring;
      blocks = k.blocks;
      low = crash_low low high left crash s.logpxd.addr low_long;
      log_super = ap (λ (im : Image). page_of im 1) (sym log_is) ∙ (m.fresh t).super_block;
    }

    rested : HasRested s [] [] volume left
    rested = record {
      parts = parts;
      last = log.last;
      last_ring = (log_stands tells crashes s image volume log m).ring;
      log = subst (λ (list : List Lasting). HoldsText noted_in (s.logpxd.len - 2) list [] log.last (drop s.logpxd.addr left)) (sym (none_of volume.taken)) (record {
        counts = omega arith;
        ends = fresh_ends (s.logpxd.len - 2);
        -- a text of one record ends with nothing
        holds = subst (λ (text : List ℕ). Holds log.last (replicate (4080 * (s.logpxd.len - 2 - 1)) 0 ++ text) (fresh_ends (s.logpxd.len - 2)) (drop s.logpxd.addr left)) (sym (append-nil (text_of first_record)))
            (subst (λ (im : Image). Holds log.last (replicate (4080 * (s.logpxd.len - 2 - 1)) 0 ++ text_of first_record) (fresh_ends (s.logpxd.len - 2)) im) log_is (holds tells crashes s image volume log m t));
      });
    }

  none_taken : volume.taken ≡ 0
  none_taken = (m.mount.fresh true true (λ _. t) (λ _. asked)).taken

  pub uncalled : IsLeftUncalled s image volume log
  uncalled = record {
    left = record {
      start = k.served.start;
      holds = k.served.holds;
      runs = k.served.runs;
      legal = history_law false (volume_of s (page_of image)).area s.logpxd.len k.served.start [] volume k.served.goes_on;
      redone = λ left crash. subst (λ (n : ℕ). IsRedoneToHistory s (page_of image) k.served.start [] n left) none_taken (rested_law tells crashes t asked s (page_of image) k.served.start [] [] volume left (uuid_size s image checked) k.since (rested left crash));
    };
    again = unmounted_again_law s (page_of image) k.served.start [] [] volume k.since;
    rests = subst (λ (state : DiskState). IsResting state) (sym low_is) (rests_all m.mount.pages);
  }
    where
      low_is : last_of volume.past ≡ at_rest m.mount.pages
      low_is = (m.mount.fresh true true (λ _. t) (λ _. asked)).low refl refl ∙ low_fresh m.mount.pages

pub uncalled_law : (tells crashes : Type 0) → UncalledLaw tells crashes
uncalled_law tells crashes t asked s image volume log m reads checked = uncalled tells crashes t asked s image volume log m reads checked
