-- Canonical control pages over the same leaves hold the same bytes.
use Rattle.std.proofs.Common.{◌≡◌, ◌+◌, ℕ, inl, inr, List, sym, ◌∙◌, arith}
use Rattle.std.proofs.lemmas.Bool.{cases_lt}
use Rattle.std.proofs.lemmas.Grind.{same_number_lists}
use Rattle.jfs_buddy.specs.Laws.{AreBytes}
use Rattle.jfs_buddy.proofs.Same.{trees-same}
use Rattle.jfs_buddy.proofs.Places.{SameAt, field-same, range-same, bytes-within}
use Rattle.jfs_dmapctl.specs.Control.{whole_of, tree_of, IsControl}
use Rattle.jfs_dmapctl.specs.Laws.{ControlsAgree}

tree-same : (level : ℕ) (own : ℕ → ℕ) (one other : List ℕ) → AreBytes one → AreBytes other → IsControl level own one → IsControl level own other → tree_of one ≡ tree_of other
tree-same level own one other bytes others a b =
    trees-same 5 (whole_of level + 1) own (tree_of one) (tree_of other)
    (bytes-within one 17 1365 (omega (arith, a.size)) bytes) (bytes-within other 17 1365 (omega (arith, b.size)) others) a.tree b.tree

place-same : (level : ℕ) (own : ℕ → ℕ) (one other : List ℕ) → AreBytes one → AreBytes other → IsControl level own one → IsControl level own other → SameAt one other 0 4096
place-same level own one other bytes others a b k from to =
    elim (cases_lt k 4) [
      | inl h ↦ field-same 0 4 one other bytes others (a.leaves ∙ sym b.leaves) k from h
      | inr f4 ↦
          elim (cases_lt k 8) [
            | inl h ↦ field-same 4 4 one other bytes others (a.l2_leaves ∙ sym b.l2_leaves) k f4 h
            | inr f8 ↦
                elim (cases_lt k 12) [
                  | inl h ↦ field-same 8 4 one other bytes others (a.first_leaf ∙ sym b.first_leaf) k f8 h
                  | inr f12 ↦
                      elim (cases_lt k 16) [
                        | inl h ↦ field-same 12 4 one other bytes others (a.height ∙ sym b.height) k f12 h
                        | inr f16 ↦
                            elim (cases_lt k 17) [
                              | inl h ↦ field-same 16 1 one other bytes others (a.whole ∙ sym b.whole) k f16 h
                              | inr f17 ↦
                                  elim (cases_lt k 1382) [
                                    | inl h ↦ range-same 17 1365 one other (tree-same level own one other bytes others a b) k f17 h
                                    | inr f ↦ range-same 1382 2714 one other (a.pad ∙ sym b.pad) k f to
                                  ]
                            ]
                      ]
                ]
          ]
    ]

pub controls-same : ControlsAgree
controls-same level own one other bytes others a b =
    same_number_lists one other (a.size ∙ sym b.size) (λ k h. place-same level own one other bytes others a b k (omega arith) (omega (arith, a.size, h)))
