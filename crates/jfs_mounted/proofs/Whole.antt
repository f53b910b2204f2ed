-- All fields of a superblock stand in the first sector of its page.
use Rattle.std.proofs.Common.{◌≡◌, ◌⊎◌, refl, sym, ap, ◌∙◌, ℕ, zero, suc, ◌+◌, ◌*◌, List, [], ◌∷◌, ◌++◌, length, take, drop, set, inl, inr, arith}
use Rattle.std.proofs.lemmas.List.{take-append-drop, drop-drop, set-get_or, length-drop, take_all}
use Rattle.jfs_bits.specs.Field.{range_of}
use Rattle.jfs_bits.specs.Piece.{Place}
use Rattle.jfs_bits.proofs.Descriptors.{length-pxd_bytes, length-moment_bytes}
use Rattle.jfs_bits.proofs.Pieces.{ArePlaced, length-puts, range_of-puts_other}
use Rattle.jfs_disk.specs.Image.{page_of}
use Rattle.jfs_disk.specs.Crash.{torn}
use Rattle.jfs_super.specs.declared.fields.Super.{Super}
use Rattle.jfs_super.specs.declared.fields.TheConstants.VolumeState.{MOUNTED}
use Rattle.jfs_super.specs.Super.{pieces}
use Rattle.jfs_mount_disk.specs.Begun.{marked, marked_page}
use Rattle.jfs_mounted.specs.Crashes.{HasArrays, WholeLaw}

places : List Place
places = (0, 4) ∷ (4, 4) ∷ (8, 8) ∷ (16, 4) ∷ (20, 2) ∷ (22, 2) ∷ (24, 4) ∷ (28, 2) ∷ (32, 4) ∷ (36, 4) ∷ (40, 4) ∷ (44, 4) ∷ (48, 8) ∷ (56, 8) ∷ (64, 4) ∷ (68, 4) ∷ (72, 8) ∷ (80, 8) ∷ (88, 8) ∷ (96, 4) ∷ (100, 1) ∷ (101, 11) ∷ (112, 8) ∷ (120, 8) ∷ (128, 8) ∷ (136, 16) ∷ (152, 16) ∷ (168, 16) ∷ []

placed : (s : Super) → HasArrays s → ArePlaced (pieces s) places
unfolding pieces places
placed s a = (refl, refl, (refl, refl, (refl, refl, (refl, refl, (refl, refl, (refl, refl, (refl, refl, (refl, refl, (refl, refl, (refl, refl, (refl, refl, (refl, refl, (refl, length-pxd_bytes s.ait2, (refl, length-pxd_bytes s.aim2, (refl, refl, (refl, refl, (refl, length-pxd_bytes s.logpxd, (refl, length-pxd_bytes s.fsckpxd, (refl, length-moment_bytes s.time, (refl, refl, (refl, refl, (refl, a.fpack, (refl, refl, (refl, length-pxd_bytes s.xfsckpxd, (refl, length-pxd_bytes s.xlogpxd, (refl, a.uuid, (refl, a.label, (refl, a.loguuid, tt))))))))))))))))))))))))))))

module _ (s : Super) (page : List ℕ) (a : HasArrays s) (size : length page ≡ 4096) where
  abbrev new : List ℕ
  new = marked_page s page

  arrays : HasArrays (record s { state = MOUNTED })
  arrays = record { fpack = a.fpack; uuid = a.uuid; label = a.label; loguuid = a.loguuid }

  pub new_size : length new ≡ 4096
  unfolding places
  new_size = length-puts (pieces (record s { state = MOUNTED })) places page (placed (record s { state = MOUNTED }) arrays) (rw size refl) ∙ size

  behind : drop 512 new ≡ drop 512 page
  unfolding range_of places
  behind = sym (all new new_size) ∙ range_of-puts_other (pieces (record s { state = MOUNTED })) places page 512 3584 (placed (record s { state = MOUNTED }) arrays) (rw size refl) refl ∙ all page size
    where
      all : (p : List ℕ) → length p ≡ 4096 → take 3584 (drop 512 p) ≡ drop 512 p
      all p e = take_all 3584 (drop 512 p) (omega (arith, length-drop 512 p, e))

  pub whole : (sectors : ℕ) → (torn sectors new page ≡ page) ⊎ (torn sectors new page ≡ new)
  unfolding torn
  whole zero = inl refl
  whole (suc k) = inr (ap (λ (rest : List ℕ). take (512 * suc k) new ++ rest) (sym rest) ∙ take-append-drop (512 * suc k) new)
    where
      rest : drop (512 * suc k) new ≡ drop (512 * suc k) page
      rest = let e : 512 * suc k ≡ 512 + 512 * k = omega arith in
          ap (λ (n : ℕ). drop n new) e ∙ sym (drop-drop (512 * k) 512 new) ∙ ap (λ (l : List ℕ). drop (512 * k) l) behind ∙ drop-drop (512 * k) 512 page ∙ ap (λ (n : ℕ). drop n page) (sym e)

pub whole_law : WholeLaw
whole_law s old left a size partly = by (whole s (page_of old 8) a size partly.0)
  where
    by : (torn partly.0 (marked_page s (page_of old 8)) (page_of old 8) ≡ page_of old 8) ⊎ (torn partly.0 (marked_page s (page_of old 8)) (page_of old 8) ≡ marked_page s (page_of old 8)) → (left ≡ old) ⊎ (left ≡ marked s old)
    by (inl e) = inl (partly.2 ∙ ap (λ (page : List ℕ). set old 8 page) e ∙ set-get_or old 8 [])
    by (inr e) = inr (partly.2 ∙ ap (λ (page : List ℕ). set old 8 page) e)
