-- The fields of an inode allocation group, read after they were put.
use Rattle.std.proofs.Common.{◌≡◌, ◌<◌, ◌≤◌, ◌+◌, ◌*◌, ℕ, List, [], ◌∷◌, length, get_or, refl, sym, ◌∙◌, arith}
use Rattle.jfs_bits.specs.Field.{range_of}
use Rattle.jfs_bits.specs.Descriptor.{pxd_of}
use Rattle.jfs_bits.specs.Piece.{puts}
use Rattle.jfs_bits.proofs.Parts.{field-from_range}
use Rattle.jfs_bits.proofs.Pieces.{AreLaidOut, range_at-puts, field_of-puts, range_of-puts_other, length-puts}
use Rattle.jfs_iag.specs.declared.iag.Iag.{Iag}
use Rattle.jfs_iag.specs.Iag.{IsIag, FitsFront, front_of, no_run}

laid_out : (i : Iag) (page : List ℕ) → FitsFront i → length page ≡ 4096 → AreLaidOut (front_of i) (length page)
unfolding front_of
laid_out i page f size = record {
  places = (0, 8) ∷ (8, 4) ∷ (12, 4) ∷ (16, 4) ∷ (20, 4) ∷ (24, 4) ∷ (28, 4) ∷ (32, 16) ∷ (48, 16) ∷ (64, 4) ∷ (68, 4) ∷ (2048, 512) ∷ (2560, 512) ∷ [];
  placed = (refl, refl, (refl, refl, (refl, refl, (refl, refl, (refl, refl, (refl, refl, (refl, refl, (refl, f.inosmap, (refl, f.extsmap, (refl, refl, (refl, refl, (refl, f.wmap, (refl, f.pmap, tt)))))))))))));
  within = rw size refl;
  apart = refl;
}

-- a page that has these fields, and the extents behind them
pub iag-put : (i : Iag) (page new : List ℕ) → FitsFront i → length page ≡ 4096
    → ((p n : ℕ) → p + n ≤ 3072 → range_of new p n ≡ range_of (puts (front_of i) page) p n)
    → ((e : ℕ) → e < 128 → pxd_of new (3072 + 8 * e) ≡ get_or i.inoext e no_run)
    → IsIag i new
unfolding front_of
iag-put i page new f size stays extents =
    let ps = front_of i in
    let laid = laid_out i page f size in
    let field_stays = λ (p n : ℕ) (h : p + n ≤ 3072). field-from_range new (puts ps page) p n (stays p n h) in
    record {
      agstart = sym (field_stays 0 8 (omega arith) ∙ field_of-puts ps page 0 0 8 i.agstart laid (refl, refl) f.agstart);
      iagnum = sym (field_stays 8 4 (omega arith) ∙ field_of-puts ps page 1 8 4 i.iagnum laid (refl, refl) f.iagnum);
      inofreefwd = sym (field_stays 12 4 (omega arith) ∙ field_of-puts ps page 2 12 4 i.inofreefwd laid (refl, refl) f.inofreefwd);
      inofreeback = sym (field_stays 16 4 (omega arith) ∙ field_of-puts ps page 3 16 4 i.inofreeback laid (refl, refl) f.inofreeback);
      extfreefwd = sym (field_stays 20 4 (omega arith) ∙ field_of-puts ps page 4 20 4 i.extfreefwd laid (refl, refl) f.extfreefwd);
      extfreeback = sym (field_stays 24 4 (omega arith) ∙ field_of-puts ps page 5 24 4 i.extfreeback laid (refl, refl) f.extfreeback);
      iagfree = sym (field_stays 28 4 (omega arith) ∙ field_of-puts ps page 6 28 4 i.iagfree laid (refl, refl) f.iagfree);
      inosmap = sym (stays 32 16 (omega arith) ∙ range_at-puts ps page 7 32 16 i.inosmap laid (refl, refl) f.inosmap);
      extsmap = sym (stays 48 16 (omega arith) ∙ range_at-puts ps page 8 48 16 i.extsmap laid (refl, refl) f.extsmap);
      nfreeinos = sym (field_stays 64 4 (omega arith) ∙ field_of-puts ps page 9 64 4 i.nfreeinos laid (refl, refl) f.nfreeinos);
      nfreeexts = sym (field_stays 68 4 (omega arith) ∙ field_of-puts ps page 10 68 4 i.nfreeexts laid (refl, refl) f.nfreeexts);
      wmap = sym (stays 2048 512 (omega arith) ∙ range_at-puts ps page 11 2048 512 i.wmap laid (refl, refl) f.wmap);
      pmap = sym (stays 2560 512 (omega arith) ∙ range_at-puts ps page 12 2560 512 i.pmap laid (refl, refl) f.pmap);
      inoext = λ e h. sym (extents e h);
    }

pub front-pad : (i : Iag) (page : List ℕ) → FitsFront i → length page ≡ 4096 → range_of (puts (front_of i) page) 72 1976 ≡ range_of page 72 1976
unfolding front_of laid_out
front-pad i page f size = let laid = laid_out i page f size in range_of-puts_other (front_of i) laid.places page 72 1976 laid.placed laid.within refl

pub front-size : (i : Iag) (page : List ℕ) → FitsFront i → length page ≡ 4096 → length (puts (front_of i) page) ≡ 4096
front-size i page f size = let laid = laid_out i page f size in length-puts (front_of i) laid.places page laid.placed laid.within ∙ size
