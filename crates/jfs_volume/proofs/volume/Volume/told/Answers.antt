use Rattle.std.proofs.Common.{◌≡◌, ◌<◌, ℕ, false, List, length, slice_get, Some, [], refl, sym, ap, subst, ◌≤◌, ◌∙◌, rules, arith}
use Rattle.jfs_volume.proofs.Counts.{tells_moves, freed_moves}
use Rattle.jfs_bmap.specs.States.{blocks_settled}
use Rattle.jfs_halves.specs.declared.freed.FreedPage.{FreedPage}
use Rattle.jfs_halves.specs.Parts.{Parts}
use Rattle.jfs_volume.specs.Settles.{is_freed}
use Rattle.jfs_volume.specs.Told.{AreLater, still_freed}
use Rattle.jfs_volume.proofs.Later.{later_at, later_stay}
use Rattle.jfs_volume.proofs.Dropping.{dropped_more, stays_undropped, place_of}
use Rattle.jfs_volume.proofs.volume.Volume.told.Goals as goal

pub returns-then-are_forgotten : goal.returns-then-are_forgotten
returns-then-are_forgotten g c =
    let p = c.args.self.now in
    let all : AreLater c.args.n p.freed = subst (λ (fs : List FreedPage). AreLater c.args.n fs) (ap (λ (q : Parts). q.freed) c.acknowledge.ensures) (c.are_forgotten.ensures.later (search (rules))) in
    rw c.acknowledge.ensures (record {
      told = λ seen asked told crashes half s. ([], tells_moves seen asked p half c.args.n s c.requires.0 c.requires.1);
      dropped = λ i f at early may. let late = later_at c.args.n p.freed i f all at in absurd (omega (arith, late, early));
      shows = λ t q none. refl;
      parts = ap (λ (fs : List FreedPage). record p { told = c.args.n; map = blocks_settled c.args.n p.map; freed = fs }) (sym (later_stay c.args.n p.freed all));
    })

pub loop-i-init : goal.loop-i-init
loop-i-init g c = rw c.acknowledge.ensures (record {
  parts = refl;
  told = λ seen asked told crashes half s. ([], tells_moves seen asked c.args.self.now half c.args.n s c.requires.0 c.requires.1);
  shows = λ t q none. refl;
  dropped = λ j f h. absurd (omega (arith, h));
})

pub loop-i-preserved : goal.loop-i-preserved
loop-i-preserved g c =
    let inv = c.loop-i.invariant in
    let e = c.drop_at.ensures in
    record {
      parts = e.parts ∙ ap (λ (p : Parts). record p { view = c.drop_at.new.self.view; dirty = c.drop_at.new.self.dirty }) inv.parts;
      told = λ seen asked told crashes half s.
          let w = inv.told seen asked told crashes half s in
          dropped_more seen asked c.args.self.now c.loop-i.self c.drop_at.new.self half c.args.n w.0 w.1 (e.drop seen asked told crashes _ w.1.stands);
      shows = λ t q none. e.shows t q (subst (λ (fs : List FreedPage). is_freed fs q ≡ false) (sym (ap (λ (p : Parts). p.freed) inv.parts)) none) ∙ inv.shows t q none;
      dropped = λ j f h at early may. stays_undropped c.args.self.now.freed c.loop-i.self c.drop_at.new.self c.args.n c.loop-i.i j f
          inv.dropped e.others (λ here. e.gone f (ap (λ (p : Parts). slice_get p.freed c.loop-i.i) inv.parts ∙ here) (subst (λ (n : ℕ). f.by_entry ≤ n) (sym (ap (λ (p : Parts). p.told) inv.parts)) early)) h at early may;
    }

pub forget_freed-requires : goal.forget_freed-requires
forget_freed-requires g c = let told = ap (λ (p : Parts). p.told) c.loop-i.invariant.parts in omega (arith, told)

pub returns : goal.returns
returns g c =
    let inv = c.loop-i.invariant in
    let count : c.freed_count-count.result ≡ length c.args.self.now.freed = c.freed_count-count.ensures ∙ ap (λ (p : Parts). length p.freed) c.acknowledge.ensures in
    let passed : (i : ℕ) (f : FreedPage) → slice_get c.args.self.now.freed i ≡ Some f → i < c.loop-i.i = λ i f at. let inside = place_of c.args.self.now.freed i f at in omega (arith, inside, count, c.loop-i-test.false) in
    rw c.forget_freed.ensures (record {
      told = λ seen asked told crashes half s. let w = inv.told seen asked told crashes half s in (w.0, freed_moves seen asked c.args.self.now c.loop-i.self half c.args.n _ w.1);
      dropped = λ i f at early may. inv.dropped i f (passed i f at) at early may;
      shows = λ t q none. inv.shows t q none;
      parts = ap (λ (p : Parts). record p { freed = still_freed c.args.n p.freed }) inv.parts;
    })
