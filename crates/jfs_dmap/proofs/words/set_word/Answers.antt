use Rattle.std.proofs.Common.{◌≡◌, ◌*◌, ◌≤◌, ◌∙◌, length, List, ℕ, sym, ap, arith}
use Rattle.jfs_bits.specs.Field.{put_bytes, range_of}
use Rattle.jfs_bits.specs.Bits.{max_bud_of}
use Rattle.jfs_bits.proofs.Fields.{put_between}
use Rattle.jfs_buddy.specs.Tree.{rank_of}
use Rattle.jfs_dmap.specs.Dmap.{map_of, tree_of, word_rank}
use Rattle.jfs_buddy.proofs.Parts.{part-is, part-held, part-put, length-range_of, field-in_part}
use Rattle.jfs_dmap.proofs.Buds.{rank-most}
use Rattle.jfs_dmap.proofs.words.set_word.Goals as goal

size_is : (new bytes : List ℕ) → length new ≡ length (range_of bytes 33 341) → length bytes ≡ 4096 → length new ≡ 341
size_is new bytes e h = e ∙ length-range_of bytes 33 341 (omega arith)

pub returns-clause-tree : goal.returns-clause-tree
returns-clause-tree c own t =
    let slice = part-is c.args.bytes.now 33 341 in
    let size = size_is c.set_leaf.new.tree c.args.bytes.now (rw slice at c.set_leaf.auto.tree) c.requires.size in
    let rank : c.rank_of_word-rank.result ≡ word_rank (map_of c.args.bytes.now) c.args.word =
    c.rank_of_word-rank.ensures ∙ ap (λ (z : ℕ). rank_of (max_bud_of z)) (c.get_u32.ensures.value ∙ sym (field-in_part c.args.bytes.now 2048 1024 (4 * c.args.word) 4 (omega arith))) in
    let small : c.rank_of_word-rank.result ≤ 6 = omega (arith, c.rank_of_word-rank.ensures, rank-most c.get_u32.result) in
    let held : tree_of (put_bytes 33 c.set_leaf.new.tree c.args.bytes.now) ≡ c.set_leaf.new.tree = part-held 33 341 c.set_leaf.new.tree c.args.bytes.now size (omega (arith, c.requires.size)) in
    rw (put_between 33 341 c.set_leaf.new.tree c.args.bytes.now size, held, ← rank) (c.set_leaf.ensures own (omega arith) small (rw slice t))

pub returns-clause-stays : goal.returns-clause-stays
returns-clause-stays c =
    let slice = part-is c.args.bytes.now 33 341 in
    let size = size_is c.set_leaf.new.tree c.args.bytes.now (rw slice at c.set_leaf.auto.tree) c.requires.size in
    rw (put_between 33 341 c.set_leaf.new.tree c.args.bytes.now size) (part-put 33 341 c.set_leaf.new.tree c.args.bytes.now size (omega (arith, c.requires.size)))
