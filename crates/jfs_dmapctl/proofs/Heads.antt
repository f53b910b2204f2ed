-- The fields of a control page that do not follow from its leaves, read after they were put; what stays when the tree changes.
use Rattle.std.proofs.Common.{◌≡◌, ◌<◌, ◌≤◌, ◌+◌, ℕ, ◌⊎◌, inl, inr, List, [], ◌∷◌, length, refl, sym, ◌∙◌, arith}
use Rattle.jfs_bits.specs.Field.{field_of, put_bytes, range_of}
use Rattle.jfs_bits.specs.Piece.{Piece, puts, Place}
use Rattle.jfs_bits.proofs.Pieces.{length-puts, range_of-puts, range_of-puts_other}
use Rattle.jfs_buddy.proofs.Parts.{number-read, range-beside, field-from_range}
use Rattle.jfs_dmapctl.specs.Control.{whole_of, head_of, tree_of, IsControl}

places : List Place
places = (0, 4) ∷ (4, 4) ∷ (8, 4) ∷ (12, 4) ∷ (16, 1) ∷ []

pub record Head (level : ℕ) (before page : List ℕ) : Type 0 where
  pub size : length page ≡ 4096
  pub leaves : field_of page 0 4 ≡ 1024
  pub l2_leaves : field_of page 4 4 ≡ 10
  pub first_leaf : field_of page 8 4 ≡ 341
  pub height : field_of page 12 4 ≡ 5
  pub whole : field_of page 16 1 ≡ whole_of level
  pub pad : range_of page 1382 2714 ≡ range_of before 1382 2714

pub head-put : (level : ℕ) (page : List ℕ) → length page ≡ 4096 → level ≤ 2 → Head level page (puts (head_of level) page)
unfolding head_of places
head-put level page size known =
    let none : Piece = record { at = 0; bytes = [] } in
    let piece = λ (i : ℕ) (h : i < 5). range_of-puts (head_of level) places page i none h (refl, refl, (refl, refl, (refl, refl, (refl, refl, (refl, refl, tt))))) (rw size refl) refl in
    record {
      size = length-puts (head_of level) places page (refl, refl, (refl, refl, (refl, refl, (refl, refl, (refl, refl, tt))))) (rw size refl) ∙ size;
      leaves = number-read (puts (head_of level) page) 0 4 1024 (piece 0 (omega arith)) (omega arith);
      l2_leaves = number-read (puts (head_of level) page) 4 4 10 (piece 1 (omega arith)) (omega arith);
      first_leaf = number-read (puts (head_of level) page) 8 4 341 (piece 2 (omega arith)) (omega arith);
      height = number-read (puts (head_of level) page) 12 4 5 (piece 3 (omega arith)) (omega arith);
      whole = number-read (puts (head_of level) page) 16 1 (whole_of level) (piece 4 (omega arith)) (omega arith);
      pad = range_of-puts_other (head_of level) places page 1382 2714 (refl, refl, (refl, refl, (refl, refl, (refl, refl, (refl, refl, tt))))) (rw size refl) refl;
    }

-- only the tree changes
pub head-stays : (level : ℕ) (before old new : List ℕ) → Head level before old → length new ≡ 4096 → new ≡ put_bytes 17 (tree_of new) old → Head level before new
head-stays level before old new h size stays =
    let beside = λ (p n : ℕ) (side : (p + n ≤ 17) ⊎ (17 + 1365 ≤ p)). range-beside 17 1365 p n old new (h.size ∙ sym size) (omega (arith, h.size)) stays side in
    let field = λ (p n : ℕ) (side : p + n ≤ 17). field-from_range new old p n (beside p n (inl side)) in
    record {
      size = size;
      leaves = field 0 4 (omega arith) ∙ h.leaves;
      l2_leaves = field 4 4 (omega arith) ∙ h.l2_leaves;
      first_leaf = field 8 4 (omega arith) ∙ h.first_leaf;
      height = field 12 4 (omega arith) ∙ h.height;
      whole = field 16 1 (omega arith) ∙ h.whole;
      pad = beside 1382 2714 (inr (omega arith)) ∙ h.pad;
    }

pub head-of : (level : ℕ) (own : ℕ → ℕ) (page : List ℕ) → IsControl level own page → Head level page page
head-of level own page t = record { size = t.size; leaves = t.leaves; l2_leaves = t.l2_leaves; first_leaf = t.first_leaf; height = t.height; whole = t.whole; pad = refl }
