use Rattle.std.proofs.Common.{◌≡◌, ◌∙◌, ℕ, Bool, true, List, length, sym, ap, subst}
use Rattle.jfs_bmap.specs.Set.{taken_at}
use Rattle.jfs_bmap.specs.MapFile.{IsMapPage, is_in_use}
use Rattle.jfs_redo_steps.specs.objects.specs.Contents.{block_of}
use Rattle.jfs_redo.specs.Put.{InBytes, place_if}
use Rattle.jfs_redo.specs.Partly.{PutsPage}
use Rattle.jfs_redo.proofs.Keeps.{keeps_more}
use Rattle.jfs_redo.proofs.maps.write_if_in_use.Goals as goal

pub returns-in-Ok-clause-moments : goal.returns-in-Ok-clause-moments
returns-in-Ok-clause-moments g c = λ tells crashes.
    let used : is_in_use (length c.args.map.now.owned) c.args.k ≡ true = sym c.is_in_use.ensures ∙ c.if-not-is_in_use.false in
    let k : c.from.result ≡ c.args.k = c.from.ensures in
    keeps_more c.args.blocks (PutsPage (block_of c.args.extents.now c.from.result) (λ (page : List ℕ). page ≡ c.write_page.new.page.0))
    (PutsPage (place_if (is_in_use (length c.args.map.now.owned) c.args.k) (block_of c.args.extents.now c.args.k)) (InBytes (IsMapPage (length c.args.map.now.owned) c.args.map.now.agsize (taken_at c.args.map.now.owned)) c.args.k))
    (g.D.Disk.past c.args.disk.now) (g.D.Disk.past c.write_at.new.disk)
    (λ p bytes is. (
      ap (λ (t : Bool). place_if t (block_of c.args.extents.now c.args.k)) used ∙ ap (block_of c.args.extents.now) (sym k) ∙ is.0,
      subst (InBytes (IsMapPage (length c.args.map.now.owned) c.args.map.now.agsize (taken_at c.args.map.now.owned)) c.args.k) (sym is.1) (c.write_page.ensures, c.write_at.ensures.bytes),
    ))
    (c.write_at.ensures.moments tells crashes)

pub returns-in-Err-clause-moments : goal.returns-in-Err-clause-moments
returns-in-Err-clause-moments g c = λ tells crashes.
    let used : is_in_use (length c.args.map.now.owned) c.args.k ≡ true = sym c.is_in_use.ensures ∙ c.if-not-is_in_use.false in
    let k : c.from.result ≡ c.args.k = c.from.ensures in
    keeps_more c.args.blocks (PutsPage (block_of c.args.extents.now c.from.result) (λ (page : List ℕ). page ≡ c.write_page.new.page.0))
    (PutsPage (place_if (is_in_use (length c.args.map.now.owned) c.args.k) (block_of c.args.extents.now c.args.k)) (InBytes (IsMapPage (length c.args.map.now.owned) c.args.map.now.agsize (taken_at c.args.map.now.owned)) c.args.k))
    (g.D.Disk.past c.args.disk.now) (g.D.Disk.past c.write_at.new.disk)
    (λ p bytes is. (
      ap (λ (t : Bool). place_if t (block_of c.args.extents.now c.args.k)) used ∙ ap (block_of c.args.extents.now) (sym k) ∙ is.0,
      subst (InBytes (IsMapPage (length c.args.map.now.owned) c.args.map.now.agsize (taken_at c.args.map.now.owned)) c.args.k) (sym is.1) (c.write_page.ensures, c.write_at.ensures.bytes),
    ))
    (c.write_at.ensures.moments tells crashes)
