-- The bytes of a control page of a level are the canonical page over these leaves.
use Rattle.std.proofs.Common.{◌≡◌, ◌≤◌, ◌+◌, ℕ, true, List, [], ◌∷◌, length, refl, sym, ◌∙◌, subst, arith}
use Rattle.jfs_bits.specs.Field.{AreBytes, range_of}
use Rattle.jfs_bits.specs.Piece.{Piece, puts, Place, is_apart_from_all}
use Rattle.jfs_bits.proofs.Parts.{field-from_range}
use Rattle.jfs_bits.proofs.Pieces.{AreLaidOut, length-puts, range_of-puts_other, range_at-puts}
use Rattle.jfs_buddy.specs.Buddy.{IsBuddyTree}
use Rattle.jfs_bmap.specs.dmapctl.specs.Control.{whole_of, head_of, tree_of, IsControl}
use Rattle.jfs_bmap.specs.dmapctl.proofs.Heads.{head-put}
use Rattle.jfs_map_bytes.specs.Parts.{zeros}
use Rattle.jfs_map_bytes.specs.Tree.{tree_bytes}
use Rattle.jfs_map_bytes.specs.BlockMap.{control_parts, control_bytes}
use Rattle.jfs_map_bytes.proofs.Bytes.{bytes-puts, bytes-little, bytes-zeros, length-zeros, range-zeros}
use Rattle.jfs_map_bytes.proofs.Tree.{length-tree, bytes-tree, tree-is}

places : List Place
places = (17, 1365) ∷ []

record Held (level : ℕ) (own : ℕ → ℕ) (before page : List ℕ) : Type 0 where
  size : length page ≡ 4096
  beside : (at width : ℕ) → is_apart_from_all (at, width) places ≡ true → range_of page at width ≡ range_of before at width
  tree : tree_of page ≡ tree_bytes 5 (whole_of level + 1) own

held : (level : ℕ) (own : ℕ → ℕ) (before : List ℕ) → length before ≡ 4096 → Held level own before (puts (control_parts level own) before)
unfolding control_parts places
held level own before size =
    let parts : List Piece = control_parts level own in
    let laid : AreLaidOut parts (length before) = record { places = places; placed = (refl, length-tree 5 (whole_of level + 1) own, tt); within = rw size refl; apart = refl } in
    record {
      size = length-puts parts places before laid.placed laid.within ∙ size;
      beside = λ at width clear. range_of-puts_other parts places before at width laid.placed laid.within clear;
      tree = range_at-puts parts before 0 17 1365 (tree_bytes 5 (whole_of level + 1) own) laid (refl, refl) (length-tree 5 (whole_of level + 1) own);
    }

pub control-is : (level : ℕ) (own : ℕ → ℕ) → level ≤ 2 → ((v : ℕ) → own v ≤ whole_of level + 1) → IsControl level own (control_bytes level own)
unfolding control_bytes places
control-is level own known bounded =
    let before : List ℕ = puts (head_of level) zeros in
    let page : List ℕ = puts (control_parts level own) before in
    let head = head-put level zeros length-zeros known in
    let h = held level own before head.size in
    let field = λ (at width : ℕ) (clear : is_apart_from_all (at, width) places ≡ true). field-from_range page before at width (h.beside at width clear) in
    record {
      size = h.size;
      known = known;
      leaves = field 0 4 refl ∙ head.leaves;
      l2_leaves = field 4 4 refl ∙ head.l2_leaves;
      first_leaf = field 8 4 refl ∙ head.first_leaf;
      height = field 12 4 refl ∙ head.height;
      whole = field 16 1 refl ∙ head.whole;
      tree = subst (λ (z : List ℕ). IsBuddyTree 5 (whole_of level + 1) own z) (sym h.tree) (tree-is 5 (whole_of level + 1) own bounded (omega arith));
      pad = h.beside 1382 2714 refl ∙ head.pad ∙ range-zeros 1382 2714 (omega arith);
    }

pub control-bytes : (level : ℕ) (own : ℕ → ℕ) → AreBytes (control_bytes level own)
unfolding control_bytes control_parts head_of
control-bytes level own =
    bytes-puts (control_parts level own) (puts (head_of level) zeros) (bytes-tree 5 (whole_of level + 1) own, tt)
    (bytes-puts (head_of level) zeros (bytes-little 4 1024, (bytes-little 4 10, (bytes-little 4 341, (bytes-little 4 5, (bytes-little 1 (whole_of level), tt))))) bytes-zeros)
