-- The fields before the groups' counts, read after they were put.
use Rattle.std.proofs.Common.{◌≡◌, ◌<◌, ℕ, List, [], ◌∷◌, length, refl, ◌∙◌, arith}
use Rattle.jfs_bits.specs.Field.{field_of, range_of}
use Rattle.jfs_bits.specs.Piece.{Piece, puts, Place}
use Rattle.jfs_bits.proofs.Pieces.{ArePlaced, length-puts, range_of-puts, range_of-puts_other}
use Rattle.jfs_buddy.proofs.Parts.{number-read}
use Rattle.jfs_dmapctl.specs.declared.map_control.MapControl.{MapControl}
use Rattle.jfs_dmapctl.specs.MapControl.{front_of, FitsFront}

places : List Place
places = (0, 8) ∷ (8, 8) ∷ (16, 4) ∷ (20, 4) ∷ (24, 4) ∷ (28, 4) ∷ (32, 4) ∷ (36, 4) ∷ (40, 4) ∷ (44, 4) ∷ (48, 4) ∷ (52, 4) ∷ []

pub record Front (m : MapControl) (before page : List ℕ) : Type 0 where
  pub size : length page ≡ 4096
  pub mapsize : field_of page 0 8 ≡ m.mapsize
  pub nfree : field_of page 8 8 ≡ m.nfree
  pub l2nbperpage : field_of page 16 4 ≡ m.l2nbperpage
  pub numag : field_of page 20 4 ≡ m.numag
  pub maxlevel : field_of page 24 4 ≡ m.maxlevel
  pub maxag : field_of page 28 4 ≡ m.maxag
  pub agpref : field_of page 32 4 ≡ m.agpref
  pub aglevel : field_of page 36 4 ≡ m.aglevel
  pub agheight : field_of page 40 4 ≡ m.agheight
  pub agwidth : field_of page 44 4 ≡ m.agwidth
  pub agstart : field_of page 48 4 ≡ m.agstart
  pub agl2size : field_of page 52 4 ≡ m.agl2size
  pub pad : range_of page 1089 3007 ≡ range_of before 1089 3007

placed : (m : MapControl) → ArePlaced (front_of m) places
unfolding front_of places
placed m = (refl, refl, (refl, refl, (refl, refl, (refl, refl, (refl, refl, (refl, refl, (refl, refl, (refl, refl, (refl, refl, (refl, refl, (refl, refl, (refl, refl, tt))))))))))))

pub front-put : (m : MapControl) (page : List ℕ) → length page ≡ 4096 → FitsFront m → Front m page (puts (front_of m) page)
unfolding front_of places
front-put m page size f =
    let none : Piece = record { at = 0; bytes = [] } in
    let after = puts (front_of m) page in
    let piece = λ (i : ℕ) (h : i < 12). range_of-puts (front_of m) places page i none h (placed m) (rw size refl) refl in
    record {
      size = length-puts (front_of m) places page (placed m) (rw size refl) ∙ size;
      mapsize = number-read after 0 8 m.mapsize (piece 0 (omega arith)) f.mapsize;
      nfree = number-read after 8 8 m.nfree (piece 1 (omega arith)) f.nfree;
      l2nbperpage = number-read after 16 4 m.l2nbperpage (piece 2 (omega arith)) f.l2nbperpage;
      numag = number-read after 20 4 m.numag (piece 3 (omega arith)) f.numag;
      maxlevel = number-read after 24 4 m.maxlevel (piece 4 (omega arith)) f.maxlevel;
      maxag = number-read after 28 4 m.maxag (piece 5 (omega arith)) f.maxag;
      agpref = number-read after 32 4 m.agpref (piece 6 (omega arith)) f.agpref;
      aglevel = number-read after 36 4 m.aglevel (piece 7 (omega arith)) f.aglevel;
      agheight = number-read after 40 4 m.agheight (piece 8 (omega arith)) f.agheight;
      agwidth = number-read after 44 4 m.agwidth (piece 9 (omega arith)) f.agwidth;
      agstart = number-read after 48 4 m.agstart (piece 10 (omega arith)) f.agstart;
      agl2size = number-read after 52 4 m.agl2size (piece 11 (omega arith)) f.agl2size;
      pad = range_of-puts_other (front_of m) places page 1089 3007 (placed m) (rw size refl) refl;
    }
