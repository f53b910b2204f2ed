-- The fields of a page that do not follow from its set, read after they were put.
use Rattle.std.proofs.Common.{◌≡◌, ◌<◌, ◌^◌, ℕ, List, [], ◌∷◌, length, refl, ◌∙◌, arith}
use Rattle.jfs_bits.specs.Field.{field_of, range_of}
use Rattle.jfs_bits.specs.Piece.{Piece, puts, Place}
use Rattle.jfs_bits.proofs.Pieces.{length-puts, range_of-puts, range_of-puts_other}
use Rattle.jfs_buddy.proofs.Parts.{number-read}
use Rattle.jfs_dmap.specs.Dmap.{head_of}

places : List Place
places = (0, 4) ∷ (8, 8) ∷ (16, 4) ∷ (20, 4) ∷ (24, 4) ∷ (28, 4) ∷ (32, 1) ∷ []

pub record Head (start nblocks : ℕ) (before page : List ℕ) : Type 0 where
  pub size : length page ≡ 4096
  pub blocks : field_of page 0 4 ≡ nblocks
  pub first : field_of page 8 8 ≡ start
  pub leaves : field_of page 16 4 ≡ 256
  pub l2_leaves : field_of page 20 4 ≡ 8
  pub first_leaf : field_of page 24 4 ≡ 85
  pub height : field_of page 28 4 ≡ 4
  pub whole : field_of page 32 1 ≡ 5
  pub pad : range_of page 374 1674 ≡ range_of before 374 1674

pub head-put : (start nblocks : ℕ) (page : List ℕ) → length page ≡ 4096 → nblocks < 2 ^ 32 → start < 2 ^ 64 → Head start nblocks page (puts (head_of start nblocks) page)
unfolding head_of places
head-put start nblocks page size n s =
    let none : Piece = record { at = 0; bytes = [] } in
    let piece = λ (i : ℕ) (h : i < 7). range_of-puts (head_of start nblocks) places page i none h (refl, refl, (refl, refl, (refl, refl, (refl, refl, (refl, refl, (refl, refl, (refl, refl, tt))))))) (rw size refl) refl in
    record {
      size = length-puts (head_of start nblocks) places page (refl, refl, (refl, refl, (refl, refl, (refl, refl, (refl, refl, (refl, refl, (refl, refl, tt))))))) (rw size refl) ∙ size;
      blocks = number-read (puts (head_of start nblocks) page) 0 4 nblocks (piece 0 (omega arith)) n;
      first = number-read (puts (head_of start nblocks) page) 8 8 start (piece 1 (omega arith)) s;
      leaves = number-read (puts (head_of start nblocks) page) 16 4 256 (piece 2 (omega arith)) (omega arith);
      l2_leaves = number-read (puts (head_of start nblocks) page) 20 4 8 (piece 3 (omega arith)) (omega arith);
      first_leaf = number-read (puts (head_of start nblocks) page) 24 4 85 (piece 4 (omega arith)) (omega arith);
      height = number-read (puts (head_of start nblocks) page) 28 4 4 (piece 5 (omega arith)) (omega arith);
      whole = number-read (puts (head_of start nblocks) page) 32 1 5 (piece 6 (omega arith)) (omega arith);
      pad = range_of-puts_other (head_of start nblocks) places page 374 1674 (refl, refl, (refl, refl, (refl, refl, (refl, refl, (refl, refl, (refl, refl, (refl, refl, tt))))))) (rw size refl) refl;
    }
