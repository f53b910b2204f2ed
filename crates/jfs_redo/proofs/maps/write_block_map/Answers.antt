use Rattle.std.proofs.Common.{◌≡◌, ◌≤◌, ◌∙◌, ℕ, length, refl, sym, ap, subst, arith}
use Rattle.std.specs.Prelude.{Option}
use Rattle.jfs_bmap.specs.Set.{taken_at}
use Rattle.jfs_bmap.specs.MapFile.{IsMapPage, is_in_use, pages_of}
use Rattle.jfs_redo_steps.specs.objects.specs.Contents.{block_of}
use Rattle.jfs_redo.specs.Put.{ArePut, InBytes, IsPut, place_if}
use Rattle.jfs_redo.specs.Partly.{PutsFile, PutsPage}
use Rattle.jfs_redo.proofs.Keeps.{keeps_none, keeps_on, keeps_more, puts_one}
use Rattle.jfs_redo.proofs.Puts.{none-put, stepped, placed_within, behind-joins}
use Rattle.jfs_redo.proofs.maps.write_block_map.Goals as goal

pub write_if_in_use-requires-clause-lies : goal.write_if_in_use-requires-clause-lies
write_if_in_use-requires-clause-lies g c =
    let same = c.from_block-rest.ensures.same c.loop-k.k (omega (arith, c.from.ensures)) in
    λ b is. c.requires.lie c.loop-k.k b (sym (same ∙ c.loop-k.invariant.3 c.loop-k.k (omega arith)) ∙ is)

pub loop-k-preserved : goal.loop-k-preserved
loop-k-preserved g c =
    let i = c.loop-k.invariant in
    let rest = λ (j : ℕ) (h : c.loop-k.k ≤ j). c.from_block-rest.ensures.same j (omega (arith, c.from.ensures, h)) ∙ i.3 j h in
    let owned = c.args.map.now.owned in
    let place = λ (k : ℕ). place_if (is_in_use (length owned) k) (block_of c.args.extents.now k) in
    let page = InBytes (IsMapPage (length owned) c.args.map.now.agsize (taken_at owned)) in (
      c.in-Ok.ensures.pages ∙ i.0,
      c.in-Ok.ensures.room ∙ i.1,
      c.in-Ok.ensures.cause.ok ∙ i.2,
      λ j h. rest j (omega (arith, h)),
      λ tells.
          let whole = g.met.D.Disk.has_pages c.loop-k.disk tells in
          let put : IsPut (place c.loop-k.k) (page c.loop-k.k) (g.D.Disk.image c.loop-k.disk) (g.D.Disk.image c.write_if_in_use.new.disk) = subst (λ (o : Option ℕ). IsPut (place_if (is_in_use (length owned) c.loop-k.k) o) (page c.loop-k.k) (g.D.Disk.image c.loop-k.disk) (g.D.Disk.image c.write_if_in_use.new.disk)) (rest c.loop-k.k (omega arith)) (c.in-Ok.ensures.put tells) in
          stepped c.loop-k.k place page (g.D.Disk.image c.args.disk.now) (g.D.Disk.image c.loop-k.disk) (g.D.Disk.image c.write_if_in_use.new.disk) c.args.blocks
          (omega (arith, whole.number, c.requires.within, i.0))
          (placed_within c.args.blocks (is_in_use (length owned) c.loop-k.k) (block_of c.args.extents.now c.loop-k.k) (λ p is. c.requires.lie c.loop-k.k p is)) put (i.4 tells),
      λ tells. behind-joins c.args.blocks (g.D.Disk.image c.args.disk.now) (g.D.Disk.image c.loop-k.disk) (g.D.Disk.image c.write_if_in_use.new.disk) (i.5 tells) (c.in-Ok.ensures.behind tells),
      λ tells crashes.
          (let all = PutsFile (pages_of (length owned)) place page in
          keeps_on c.args.blocks all (g.D.Disk.past c.args.disk.now) (g.D.Disk.past c.loop-k.disk) (g.D.Disk.past c.write_if_in_use.new.disk) (i.6 tells crashes)
          (keeps_more c.args.blocks (PutsPage (place_if (is_in_use (length owned) c.loop-k.k) (block_of c.from_block-rest.result.now c.loop-k.k)) (page c.loop-k.k)) all (g.D.Disk.past c.loop-k.disk) (g.D.Disk.past c.write_if_in_use.new.disk)
          (puts_one (pages_of (length owned)) c.loop-k.k place page (place_if (is_in_use (length owned) c.loop-k.k) (block_of c.from_block-rest.result.now c.loop-k.k)) (omega (arith, c.loop-k-test.true, c.loop-k.auto.k-end, c.pages-k-end.ensures))
          (ap (place_if (is_in_use (length owned) c.loop-k.k)) (rest c.loop-k.k (omega arith))))
          (c.write_if_in_use.ensures.moments tells crashes))),
    )

pub returns-clause-put : goal.returns-clause-put
returns-clause-put g c tells =
    let owned = c.args.map.now.owned in
    let place = λ (k : ℕ). place_if (is_in_use (length owned) k) (block_of c.args.extents.now k) in
    let all : c.loop-k.k ≡ pages_of (length owned) = omega (arith, c.loop-k-test.false, c.loop-k.auto.k-end, c.pages-k-end.ensures) in
    subst (λ (n : ℕ). ArePut n place (InBytes (IsMapPage (length owned) c.args.map.now.agsize (taken_at owned))) (g.D.Disk.image c.args.disk.now) (g.D.Disk.image c.loop-k.disk)) all (c.loop-k.invariant.4 tells)

pub loop-k-init : goal.loop-k-init
loop-k-init g c =
    let owned = c.args.map.now.owned in
    let place = λ (k : ℕ). place_if (is_in_use (length owned) k) (block_of c.args.extents.now k) in
    let page = InBytes (IsMapPage (length owned) c.args.map.now.agsize (taken_at owned)) in (
      refl,
      refl,
      refl,
      λ j above. refl,
      λ tells. none-put place page (g.D.Disk.image c.args.disk.now),
      λ tells p past. refl,
      λ tells crashes. keeps_none c.args.blocks (PutsFile (pages_of (length owned)) place page) (g.D.Disk.past c.args.disk.now) (g.D.Disk.past c.args.disk.now) refl,
    )

pub returns-in-Err-clause-moments : goal.returns-in-Err-clause-moments
returns-in-Err-clause-moments g c = λ tells crashes.
    let i = c.loop-k.invariant in
    let rest = λ (j : ℕ) (h : c.loop-k.k ≤ j). c.from_block-rest.ensures.same j (omega (arith, c.from.ensures, h)) ∙ i.3 j h in
    let owned = c.args.map.now.owned in
    let place = λ (k : ℕ). place_if (is_in_use (length owned) k) (block_of c.args.extents.now k) in
    let page = InBytes (IsMapPage (length owned) c.args.map.now.agsize (taken_at owned)) in
    (let all = PutsFile (pages_of (length owned)) place page in
    keeps_on c.args.blocks all (g.D.Disk.past c.args.disk.now) (g.D.Disk.past c.loop-k.disk) (g.D.Disk.past c.write_if_in_use.new.disk) (i.6 tells crashes)
    (keeps_more c.args.blocks (PutsPage (place_if (is_in_use (length owned) c.loop-k.k) (block_of c.from_block-rest.result.now c.loop-k.k)) (page c.loop-k.k)) all (g.D.Disk.past c.loop-k.disk) (g.D.Disk.past c.write_if_in_use.new.disk)
    (puts_one (pages_of (length owned)) c.loop-k.k place page (place_if (is_in_use (length owned) c.loop-k.k) (block_of c.from_block-rest.result.now c.loop-k.k)) (omega (arith, c.loop-k-test.true, c.loop-k.auto.k-end, c.pages-k-end.ensures))
    (ap (place_if (is_in_use (length owned) c.loop-k.k)) (rest c.loop-k.k (omega arith))))
    (c.write_if_in_use.ensures.moments tells crashes)))
