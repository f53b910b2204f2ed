use Rattle.std.proofs.Common.{◌≡◌, ◌≤◌, ◌∙◌, ℕ, suc, List, refl, sym, ap, subst, arith}
use Rattle.std.specs.Prelude.{Option}
use Rattle.jfs_imap.specs.Inodes.{IsInodePage}
use Rattle.jfs_redo_steps.specs.objects.specs.Contents.{block_of}
use Rattle.jfs_redo.specs.Put.{InBytes, put_at}
use Rattle.jfs_redo.specs.Partly.{PutsFile, PutsPage}
use Rattle.jfs_redo.proofs.Keeps.{keeps_none, keeps_on, keeps_more}
use Rattle.jfs_redo.proofs.Puts.{none-put, stepped, behind-joins}
use Rattle.jfs_redo.proofs.maps.write_inode_map.Goals as goal

pub write_at-requires-clause-lies : goal.write_at-requires-clause-lies
write_at-requires-clause-lies g c =
    let k : c.from-in-loop-k.result ≡ c.loop-k.k = c.from-in-loop-k.ensures in
    let same = c.from_block-rest.ensures.same c.from-in-loop-k.result (omega (arith, c.from.ensures, k)) in
    λ b is. c.requires.lie c.from-in-loop-k.result b (sym (same ∙ c.loop-k.invariant.3 c.from-in-loop-k.result (omega (arith, k))) ∙ is)

pub loop-k-preserved : goal.loop-k-preserved
loop-k-preserved g c =
    let i = c.loop-k.invariant in
    let k : c.from-in-loop-k.result ≡ c.loop-k.k = c.from-in-loop-k.ensures in
    let rest = λ (j : ℕ) (h : c.loop-k.k ≤ j). c.from_block-rest.ensures.same j (omega (arith, c.from.ensures, h)) ∙ i.3 j h in (
      c.in-Ok.ensures.pages ∙ i.0,
      c.in-Ok.ensures.room ∙ i.1,
      c.in-Ok.ensures.cause.ok ∙ i.2,
      λ j h. rest j (omega (arith, h)),
      λ tells.
          let whole = g.met.D.Disk.has_pages c.loop-k.disk tells in
          let place : block_of c.from_block-rest.result.now c.from-in-loop-k.result ≡ block_of c.args.extents.now c.loop-k.k = ap (λ (n : ℕ). block_of c.from_block-rest.result.now n) k ∙ rest c.loop-k.k (omega arith) in
          stepped c.loop-k.k (block_of c.args.extents.now) (InBytes (IsInodePage c.args.map.now)) (g.D.Disk.image c.args.disk.now) (g.D.Disk.image c.loop-k.disk) (g.D.Disk.image c.write_at.new.disk) c.args.blocks
          (omega (arith, whole.number, c.requires.within, i.0)) (λ p is. c.requires.lie c.loop-k.k p is)
          (record { page = c.write_page.new.page.0; is = λ p is. (c.write_page.ensures, c.in-Ok.ensures.bytes); now = subst (λ (o : Option ℕ). g.D.Disk.image c.write_at.new.disk ≡ put_at o c.write_page.new.page.0 (g.D.Disk.image c.loop-k.disk)) place (c.in-Ok.ensures.put tells) })
          (i.4 tells),
      λ tells. behind-joins c.args.blocks (g.D.Disk.image c.args.disk.now) (g.D.Disk.image c.loop-k.disk) (g.D.Disk.image c.write_at.new.disk) (i.5 tells) (c.in-Ok.ensures.behind tells),
      λ tells crashes.
          (let all = PutsFile (suc c.args.iags) (block_of c.args.extents.now) (InBytes (IsInodePage c.args.map.now)) in
          let few = PutsPage (block_of c.from_block-rest.result.now c.from-in-loop-k.result) (λ (bytes : List ℕ). bytes ≡ c.write_page.new.page.0) in
          keeps_on c.args.blocks all (g.D.Disk.past c.args.disk.now) (g.D.Disk.past c.loop-k.disk) (g.D.Disk.past c.write_at.new.disk) (i.6 tells crashes)
          (keeps_more c.args.blocks few all (g.D.Disk.past c.loop-k.disk) (g.D.Disk.past c.write_at.new.disk)
          (λ p bytes is. (
            c.loop-k.k,
            omega (arith, c.loop-k-test.true, c.loop-k.auto.k-end),
            sym (rest c.loop-k.k (omega arith)) ∙ ap (block_of c.from_block-rest.result.now) (sym k) ∙ is.0,
            subst (InBytes (IsInodePage c.args.map.now) c.loop-k.k) (sym is.1) (c.write_page.ensures, c.write_at.ensures.bytes),
          ))
          (c.write_at.ensures.moments tells crashes))),
    )

pub loop-k-init : goal.loop-k-init
loop-k-init g c = (
  refl,
  refl,
  refl,
  λ j above. refl,
  λ tells. none-put (block_of c.args.extents.now) (InBytes (IsInodePage c.args.map.now)) (g.D.Disk.image c.args.disk.now),
  λ tells p past. refl,
  λ tells crashes. keeps_none c.args.blocks (PutsFile (suc c.args.iags) (block_of c.args.extents.now) (InBytes (IsInodePage c.args.map.now))) (g.D.Disk.past c.args.disk.now) (g.D.Disk.past c.args.disk.now) refl,
)

pub returns-in-Err-clause-moments : goal.returns-in-Err-clause-moments
returns-in-Err-clause-moments g c = λ tells crashes.
    let i = c.loop-k.invariant in
    let k : c.from-in-loop-k.result ≡ c.loop-k.k = c.from-in-loop-k.ensures in
    let rest = λ (j : ℕ) (h : c.loop-k.k ≤ j). c.from_block-rest.ensures.same j (omega (arith, c.from.ensures, h)) ∙ i.3 j h in
    (let all = PutsFile (suc c.args.iags) (block_of c.args.extents.now) (InBytes (IsInodePage c.args.map.now)) in
    let few = PutsPage (block_of c.from_block-rest.result.now c.from-in-loop-k.result) (λ (bytes : List ℕ). bytes ≡ c.write_page.new.page.0) in
    keeps_on c.args.blocks all (g.D.Disk.past c.args.disk.now) (g.D.Disk.past c.loop-k.disk) (g.D.Disk.past c.write_at.new.disk) (i.6 tells crashes)
    (keeps_more c.args.blocks few all (g.D.Disk.past c.loop-k.disk) (g.D.Disk.past c.write_at.new.disk)
    (λ p bytes is. (
      c.loop-k.k,
      omega (arith, c.loop-k-test.true, c.loop-k.auto.k-end),
      sym (rest c.loop-k.k (omega arith)) ∙ ap (block_of c.from_block-rest.result.now) (sym k) ∙ is.0,
      subst (InBytes (IsInodePage c.args.map.now) c.loop-k.k) (sym is.1) (c.write_page.ensures, c.write_at.ensures.bytes),
    ))
    (c.write_at.ensures.moments tells crashes)))
