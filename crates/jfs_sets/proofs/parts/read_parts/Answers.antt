use Rattle.std.proofs.Common.{◌≡◌, ◌+◌, ◌*◌, ◌++◌, ℕ, List, Option, length, refl, sym, ap, ◌∙◌, arith}
use Rattle.std.specs.Option.{option_map}
use Rattle.std.proofs.Math.Nat.{mul-suc}
use Rattle.std.proofs.lemmas.List.{length-append}
use Rattle.jfs_bits.specs.Field.{range_of}
use Rattle.jfs_disk.specs.Image.{Image, page_of}
use Rattle.jfs_mount.specs.objects.specs.Contents.{block_of, bytes_at}
use Rattle.jfs_sets.specs.Parts.{or_zeros, part_of}
use Rattle.jfs_sets.proofs.Bits.{reading-none, reading-next, reading-all, read-part, no-outside}
use Rattle.jfs_sets.proofs.parts.read_parts.Goals as goal

pub loop-k-init : goal.loop-k-init
loop-k-init g c = record {
  rest = λ j h. refl;
  image = λ tells. refl;
  count_of_blocks = refl;
  device = refl;
  fault = refl;
  size = rw c.new-bytes.ensures.items (omega arith);
  reading = λ tells. rw c.new-bytes.ensures.items (reading-none g.row.N (part_of (page_of (g.V.PageView.image c.args.view.now)) c.args.extents.now c.args.at g.row.N) c.args.first c.args.pages);
}

pub loop-k-preserved : goal.loop-k-preserved
loop-k-preserved g c =
    let i = c.loop-k.invariant in
    let e = c.in-Ok.ensures in
    let j = c.from.result + c.from-in-loop-k.result in
    let j_is : j ≡ c.args.first + c.loop-k.k = omega (arith, c.from.ensures, c.from-in-loop-k.ensures) in
    let same = c.from_block-rest.ensures.same in
    let part = c.in-Ok.part in
    let bytes = c.loop-k.bytes.items in
    let len : length (or_zeros g.row.N part) ≡ g.row.N = omega (arith, length-append bytes (or_zeros g.row.N part), ap (λ (z : List ℕ). length z) c.in-Ok-push_part.ensures.bytes, c.in-Ok-push_part.ensures.size) in
    record {
      rest = λ n h. same n (omega (arith, j_is, h)) ∙ i.rest n (omega (arith, h));
      image = λ tells. e.image tells ∙ i.image tells;
      count_of_blocks = e.count_of_blocks ∙ i.count_of_blocks;
      device = e.device ∙ i.device;
      fault = e.fault ∙ i.fault;
      size = omega (arith, c.in-Ok-push_part.ensures.size, i.size, mul-suc g.row.N c.loop-k.k);
      reading = λ tells.
          let pages = page_of (g.V.PageView.image c.args.view.now) in
          let is = read-part pages (page_of (g.V.PageView.image c.loop-k.view)) c.args.extents.now c.from_block-rest.result.now c.args.at g.row.N j (c.args.first + c.loop-k.k) part (ap page_of (i.image tells)) (same j (omega (arith, j_is)) ∙ i.rest j (omega (arith, j_is))) j_is (e.part tells) in
          rw c.in-Ok-push_part.ensures.bytes (reading-next g.row.N (part_of pages c.args.extents.now c.args.at g.row.N) c.args.first c.args.pages c.loop-k.k bytes (or_zeros g.row.N part) c.loop-k-test.true is len (i.reading tells));
    }

pub returns-clause-parts : goal.returns-clause-parts
returns-clause-parts g c = λ tells.
    let part = part_of (page_of (g.V.PageView.image c.args.view.now)) c.args.extents.now c.args.at g.row.N in
    let end : c.loop-k.k ≡ c.args.pages = omega arith in
    reading-all g.row.N part c.args.first c.args.pages c.loop-k.bytes.items (rw end at (c.loop-k.invariant.reading tells))

pub unreachable-requires : goal.unreachable-requires
unreachable-requires g c =
    let i = c.loop-k.invariant in
    let j = c.from.result + c.from-in-loop-k.result in
    let here = c.from_block-rest.ensures.same j (omega arith) ∙ i.rest j (omega (arith, c.from.ensures, c.from-in-loop-k.ensures)) in
    no-outside (g.V.PageView.block_count c.args.view.now) (g.V.PageView.block_count c.loop-k.view) (block_of c.args.extents.now j) (block_of c.from_block-rest.result.now j) i.count_of_blocks here (c.requires.within j) (rw c.in-Err-Outside.field-0-is at c.in-Err-Outside.ensures.outside)
