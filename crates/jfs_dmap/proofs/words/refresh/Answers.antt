use Rattle.std.proofs.Common.{◌≡◌, ◌∙◌, refl, inr, arith}
use Rattle.jfs_dmap.specs.Dmap.{map_of, tree_of, word_rank}
use Rattle.jfs_buddy.proofs.Parts.{part-kept, part-again, range-beside}
use Rattle.jfs_buddy.proofs.Renewals.{renewed, renew-starts, renew-goes_on, renew-ends}
use Rattle.jfs_dmap.proofs.Buds.{word_rank-most}
use Rattle.jfs_dmap.proofs.words.refresh.Goals as goal

pub loop-word-init : goal.loop-word-init
loop-word-init c = record {
  stays = part-kept 33 341 c.args.bytes.now (omega (arith, c.requires.size));
  map = refl;
  tree = λ own same t. renew-starts 4 6 own (word_rank (map_of c.args.bytes.now)) (tree_of c.args.bytes.now) c.args.first c.args.last (word_rank-most (map_of c.args.bytes.now)) same t;
}

pub loop-word-preserved : goal.loop-word-preserved
loop-word-preserved c =
    let i = c.loop-word.invariant in
    let map : map_of c.set_word.new.bytes ≡ map_of c.loop-word.bytes = range-beside 33 341 2048 1024 c.loop-word.bytes c.set_word.new.bytes (omega arith) (omega (arith, c.requires.size)) c.set_word.ensures.stays (inr (omega arith)) in
    record {
      stays = part-again 33 341 c.args.bytes.now c.loop-word.bytes c.set_word.new.bytes (omega arith) (omega arith) (omega (arith, c.requires.size)) i.stays c.set_word.ensures.stays;
      map = map ∙ i.map;
      tree = λ own same t. renew-goes_on 4 6 own (word_rank (map_of c.args.bytes.now)) (tree_of c.set_word.new.bytes) c.loop-word.word t.bounded (word_rank-most (map_of c.args.bytes.now)) (rw (← i.map) (c.set_word.ensures.tree (renewed own (word_rank (map_of c.loop-word.bytes)) c.loop-word.word) (rw i.map (i.tree own same t))));
    }

pub returns-clause-tree : goal.returns-clause-tree
returns-clause-tree c own same t =
    renew-ends 4 6 own (word_rank (map_of c.args.bytes.now)) (tree_of c.loop-word.bytes) c.args.first c.args.last c.loop-word.word c.loop-word-test.false (word_rank-most (map_of c.args.bytes.now)) same (c.loop-word.invariant.tree own same t)
