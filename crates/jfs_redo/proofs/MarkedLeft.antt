-- What a crash leaves while the superblock is marked: its page is as it was, or as it was written, since all of its fields stand in the first sector.
use Rattle.std.proofs.Common.{◌≡◌, ◌⊎◌, ◌<◌, ◌≤◌, ◌+◌, ℕ, zero, suc, List, [], ◌∷◌, ◌++◌, length, set, refl, sym, ap, subst, ◌∙◌, inl, inr, arith}
use Rattle.std.proofs.lemmas.List.{set-get_or, append_assoc}
use Rattle.jfs_bits.specs.Field.{range_of}
use Rattle.jfs_bits.specs.Piece.{puts, Place}
use Rattle.jfs_bits.proofs.Descriptors.{length-pxd_bytes, length-moment_bytes}
use Rattle.jfs_bits.proofs.Parts.{length-range_of}
use Rattle.jfs_bits.proofs.Places.{range-same}
use Rattle.jfs_bits.proofs.Pieces.{ArePlaced, range_of-puts_other}
use Rattle.jfs_disk.specs.Image.{Image, page_of}
use Rattle.jfs_disk.specs.Crash.{DiskState, AllSince, TearsPage, torn, written, failed, settled, seen_of, last_of}
use Rattle.jfs_disk.specs.Moment.{IsResting}
use Rattle.jfs_disk.specs.Seen.{seen_of-written}
use Rattle.jfs_disk.proofs.Tearing.{torn-none, length-torn}
use Rattle.jfs_disk.proofs.Flow.{goes_on, crash-settled, crash-resting-written, crash-resting-failed}
use Rattle.jfs_super.specs.Super.{super_of, pieces}
use Rattle.jfs_super.specs.declared.fields.Super.{Super}
use Rattle.jfs_redo.specs.Mixed.{sector}
use Rattle.jfs_redo.specs.Moments.{MarksPage}
use Rattle.jfs_redo.proofs.Sectors.{front_sector, torn_sector, sector_from, same_page}

places : List Place
places = (0, 4) ∷ (4, 4) ∷ (8, 8) ∷ (16, 4) ∷ (20, 2) ∷ (22, 2) ∷ (24, 4) ∷ (28, 2) ∷ (32, 4) ∷ (36, 4) ∷ (40, 4) ∷ (44, 4) ∷ (48, 8) ∷ (56, 8) ∷ (64, 4) ∷ (68, 4) ∷ (72, 8) ∷ (80, 8) ∷ (88, 8) ∷ (96, 4) ∷ (100, 1) ∷ (101, 11) ∷ (112, 8) ∷ (120, 8) ∷ (128, 8) ∷ (136, 16) ∷ (152, 16) ∷ (168, 16) ∷ []

-- the pieces of a superblock that a page has
module _ (c : Super) (page old : List ℕ) (size : length old ≡ 4096) (long : length page ≡ 4096) (are : page ≡ puts (pieces c) old) (read : super_of page ≡ c) where
  array : (at width : ℕ) → at + width ≤ 4096 → length (range_of page at width) ≡ width
  array at width within = length-range_of page at width (omega (arith, within, long))

  placed : ArePlaced (pieces c) places
  unfolding pieces places
  placed =
      let pack = ap (λ (s : Super). length s.fpack) (sym read) ∙ array 101 11 (omega arith) in
      let uuid = ap (λ (s : Super). length s.uuid) (sym read) ∙ array 136 16 (omega arith) in
      let label = ap (λ (s : Super). length s.label) (sym read) ∙ array 152 16 (omega arith) in
      let loguuid = ap (λ (s : Super). length s.loguuid) (sym read) ∙ array 168 16 (omega arith) in
      (refl, refl, (refl, refl, (refl, refl, (refl, refl, (refl, refl, (refl, refl, (refl, refl, (refl, refl, (refl, refl, (refl, refl, (refl, refl, (refl, refl, (refl, length-pxd_bytes c.ait2, (refl, length-pxd_bytes c.aim2, (refl, refl, (refl, refl, (refl, length-pxd_bytes c.logpxd, (refl, length-pxd_bytes c.fsckpxd, (refl, length-moment_bytes c.time, (refl, refl, (refl, refl, (refl, pack, (refl, refl, (refl, length-pxd_bytes c.xfsckpxd, (refl, length-pxd_bytes c.xlogpxd, (refl, uuid, (refl, label, (refl, loguuid, tt))))))))))))))))))))))))))))

  -- behind the first sector nothing is written
  behind : range_of page 512 3584 ≡ range_of old 512 3584
  unfolding places
  behind = ap (λ (bytes : List ℕ). range_of bytes 512 3584) are ∙ range_of-puts_other (pieces c) places old 512 3584 placed (rw size refl) refl

  later_sector : (i : ℕ) → i < 7 → sector (suc i) old ≡ sector (suc i) page
  later_sector i low = sector_from (suc i) old page (omega (arith, low)) size long (λ k from to. sym (range-same 512 3584 page old behind k (omega (arith, from)) (omega (arith, to, low))))

  pub torn_page : (k : ℕ) → k ≤ 8 → (torn k page old ≡ old) ⊎ (torn k page old ≡ page)
  torn_page zero few = inl (torn-none page old)
  torn_page (suc k) few = inr (same_page (torn (suc k) page old) page (length-torn (suc k) page old few long size) long each)
    where
      each : (i : ℕ) → i < 8 → sector i (torn (suc k) page old) ≡ sector i page
      each zero low = front_sector (suc k) page old 0 few low long size (omega arith)
      each (suc i) low = elim (torn_sector (suc k) page old (suc i) few low long size) [ inl new ↦ new | inr was ↦ was ∙ later_sector i (omega (arith, low)) ]

  -- the page of an image
  module _ (image : Image) (at : page_of image 8 ≡ old) where
    pub torn_image : (left : Image) → TearsPage 8 page image left → (left ≡ image) ⊎ (left ≡ set image 8 page)
    torn_image left (k, few, is) =
        let here : torn k page (page_of image 8) ≡ torn k page old = ap (torn k page) at in
        elim (torn_page k few) [
          | inl same ↦ inl (is ∙ ap (set image 8) (here ∙ same ∙ sym at) ∙ set-get_or image 8 [])
          | inr new ↦ inr (is ∙ ap (set image 8) (here ∙ new))
        ]

    -- the moments of a call that marks the page and syncs, on a disk with nothing pending
    pub marked_since : (P : Image → Type 0) (past new : List DiskState) (t : ℕ) → IsResting (last_of past) → image ≡ seen_of (last_of past) → 8 < length (last_of past) → AllSince P past t → P image → P (set image 8 page) → MarksPage page past new → AllSince P new t
    marked_since P past new t rests seen there all was now marks = by marks
      where
        state : DiskState
        state = last_of past

        here : length (page_of (seen_of state) 8) ≡ 4096
        here = ap (λ (i : Image). length (page_of i 8)) (sym seen) ∙ ap (λ (bytes : List ℕ). length bytes) at ∙ size

        either : (left : Image) → (left ≡ image) ⊎ (left ≡ set image 8 page) → P left
        either left (inl same) = subst P (sym same) was
        either left (inr set_is) = subst P (sym set_is) now

        tears : (left : Image) → TearsPage 8 page (seen_of state) left → P left
        tears left tear = either left (torn_image left (subst (λ (i : Image). TearsPage 8 page i left) (sym seen) tear))

        wrote : AllSince P (past ++ written 8 page state ∷ []) t
        wrote = goes_on P past (written 8 page state) t all (λ left crash. tears left (crash-resting-written 8 page state left rests there long here crash))

        by : MarksPage page past new → AllSince P new t
        by (inl (inl same)) = subst (λ (states : List DiskState). AllSince P states t) (sym same) all
        by (inl (inr (part, few, is))) = subst (λ (states : List DiskState). AllSince P states t) (sym is)
            (goes_on P past (failed 8 page part state) t all (λ left crash. tears left (crash-resting-failed 8 page part state left few rests there long here crash)))
        by (inr (inl is)) = subst (λ (states : List DiskState). AllSince P states t) (sym is) wrote
        by (inr (inr is)) = subst (λ (states : List DiskState). AllSince P states t) (sym (is ∙ sym (append_assoc past (written 8 page state ∷ []) (settled (written 8 page state) ∷ []))))
            (goes_on P (past ++ written 8 page state ∷ []) (settled (written 8 page state)) t wrote (λ left crash.
            subst P (sym (crash-settled (written 8 page state) left crash ∙ seen_of-written 8 page state ∙ ap (λ (i : Image). set i 8 page) (sym seen))) now))
