-- Canonical pages of the same set hold the same bytes: part by part.
use Rattle.std.proofs.Common.{◌≡◌, ◌<◌, ℕ, not, inl, inr, List, sym, ap, ◌∙◌, arith}
use Rattle.std.proofs.lemmas.Bool.{cases_lt}
use Rattle.std.proofs.lemmas.Grind.{same_number_lists}
use Rattle.jfs_bits.specs.Field.{field_of}
use Rattle.jfs_buddy.specs.Laws.{AreBytes}
use Rattle.jfs_buddy.specs.Tree.{rank_of}
use Rattle.jfs_bits.specs.Bits.{max_bud_of}
use Rattle.jfs_buddy.proofs.Same.{trees-same}
use Rattle.jfs_buddy.proofs.Finds.{tree-same}
use Rattle.jfs_buddy.proofs.Places.{SameAt, field-same, range-same, bytes-within}
use Rattle.jfs_dmap.specs.Dmap.{blocks_of, first_block_of, map_of, tree_of, taken_in, word_rank, IsDmap}
use Rattle.jfs_dmap.specs.Laws.{PagesAgree}
use Rattle.jfs_bits.proofs.Counts.{count_below-same}
use Rattle.jfs_dmap.proofs.Same.{word-same, map-same}

-- two pages of the same set
record Pair (one other : List ℕ) : Type 0 where
  bytes : AreBytes one
  others : AreBytes other
  a : IsDmap one
  b : IsDmap other
  blocks : blocks_of one ≡ blocks_of other
  first_block : first_block_of one ≡ first_block_of other
  taken : (i : ℕ) → i < 8192 → taken_in one i ≡ taken_in other i

-- blocks past the end are taken in both
taken-same : (one other : List ℕ) → IsDmap one → IsDmap other → blocks_of one ≡ blocks_of other → ((i : ℕ) → i < blocks_of one → taken_in one i ≡ taken_in other i) → (i : ℕ) → i < 8192 → taken_in one i ≡ taken_in other i
taken-same one other a b blocks same i within =
    elim (cases_lt i (blocks_of one)) [ inl h ↦ same i h | inr past ↦ a.past i past within ∙ sym (b.past i (rw blocks at past) within) ]

free-same : (one other : List ℕ) → Pair one other → field_of one 4 4 ≡ field_of other 4 4
free-same one other p =
    p.a.free ∙ (count_below-same 8192 (λ i. not (taken_in one i)) (λ i. not (taken_in other i)) (λ i h. ap not (p.taken i h)) ∙ sym p.b.free)

ranks-same : (one other : List ℕ) → Pair one other → (v : ℕ) → v < 256 → word_rank (map_of one) v ≡ word_rank (map_of other) v
ranks-same one other p v h =
    let mine = bytes-within one 2048 1024 (omega (arith, p.a.size)) p.bytes in
    let theirs = bytes-within other 2048 1024 (omega (arith, p.b.size)) p.others in
    ap (λ (z : ℕ). rank_of (max_bud_of z)) (word-same (map_of one) (map_of other) v mine theirs h p.taken)

held-tree : (one other : List ℕ) → Pair one other → tree_of one ≡ tree_of other
held-tree one other p =
    trees-same 4 6 (word_rank (map_of other)) (tree_of one) (tree_of other)
    (bytes-within one 33 341 (omega (arith, p.a.size)) p.bytes) (bytes-within other 33 341 (omega (arith, p.b.size)) p.others)
    (tree-same 4 6 (word_rank (map_of one)) (word_rank (map_of other)) (tree_of one) (ranks-same one other p) p.b.tree.bounded p.a.tree)
    p.b.tree

head-same : (one other : List ℕ) → Pair one other → SameAt one other 0 33
head-same one other p k from to =
    elim (cases_lt k 4) [
      | inl h ↦ field-same 0 4 one other p.bytes p.others p.blocks k from h
      | inr f4 ↦
          elim (cases_lt k 8) [
            | inl h ↦ field-same 4 4 one other p.bytes p.others (free-same one other p) k f4 h
            | inr f8 ↦
                elim (cases_lt k 16) [
                  | inl h ↦ field-same 8 8 one other p.bytes p.others p.first_block k f8 h
                  | inr f16 ↦
                      elim (cases_lt k 20) [
                        | inl h ↦ field-same 16 4 one other p.bytes p.others (p.a.leaves ∙ sym p.b.leaves) k f16 h
                        | inr f20 ↦
                            elim (cases_lt k 24) [
                              | inl h ↦ field-same 20 4 one other p.bytes p.others (p.a.l2_leaves ∙ sym p.b.l2_leaves) k f20 h
                              | inr f24 ↦
                                  elim (cases_lt k 28) [
                                    | inl h ↦ field-same 24 4 one other p.bytes p.others (p.a.first_leaf ∙ sym p.b.first_leaf) k f24 h
                                    | inr f28 ↦
                                        elim (cases_lt k 32) [
                                          | inl h ↦ field-same 28 4 one other p.bytes p.others (p.a.height ∙ sym p.b.height) k f28 h
                                          | inr f ↦ field-same 32 1 one other p.bytes p.others (p.a.whole ∙ sym p.b.whole) k f to
                                        ]
                                  ]
                            ]
                      ]
                ]
          ]
    ]

place-same : (one other : List ℕ) → Pair one other → SameAt one other 0 4096
place-same one other p k from to =
    elim (cases_lt k 33) [
      | inl h ↦ head-same one other p k from h
      | inr f33 ↦
          elim (cases_lt k 374) [
            | inl h ↦ range-same 33 341 one other (held-tree one other p) k f33 h
            | inr f374 ↦
                elim (cases_lt k 2048) [
                  | inl h ↦ range-same 374 1674 one other (p.a.pad ∙ sym p.b.pad) k f374 h
                  | inr f2048 ↦
                      elim (cases_lt k 3072) [
                        | inl h ↦ map-same 2048 one other p.bytes p.others (omega (arith, p.a.size)) (omega (arith, p.b.size)) p.taken k f2048 h
                        | inr f ↦ map-same 3072 one other p.bytes p.others (omega (arith, p.a.size)) (omega (arith, p.b.size)) (λ i h. p.a.same i ∙ (p.taken i h ∙ sym (p.b.same i))) k f to
                      ]
                ]
          ]
    ]

pub pages-same : PagesAgree
pages-same one other bytes others a b blocks first taken =
    let p : Pair one other = record { bytes = bytes; others = others; a = a; b = b; blocks = blocks; first_block = first; taken = taken-same one other a b blocks taken } in
    same_number_lists one other (a.size ∙ sym b.size) (λ k h. place-same one other p k (omega arith) (omega (arith, a.size, h)))
