use Rattle.std.proofs.Common.{◌∙◌, List, ℕ, get_or, refl, ap}
use Rattle.jfs_bits.specs.Bits.{is_taken}
use Rattle.jfs_bits.specs.declared.descriptor.Pxd.{Pxd}
use Rattle.jfs_iag.specs.Iag.{no_run}
use Rattle.jfs_iag.proofs.Maps.{whole-range}
use Rattle.jfs_iag.proofs.canonical.iag_of.Goals as goal

pub returns-clause-canonical : goal.returns-clause-canonical
returns-clause-canonical c =
    let whole = whole-range c.args.set.now 512 c.requires.set in
    record {
      agstart = refl;
      iagnum = refl;
      inofreefwd = refl;
      inofreeback = refl;
      extfreefwd = refl;
      extfreeback = refl;
      iagfree = refl;
      inosmap = c.full_extents.ensures;
      extsmap = c.present_extents.ensures;
      nfreeinos = c.free_inodes.ensures;
      nfreeexts = c.free_places.ensures;
      wmap = λ n h. ap (λ (z : List ℕ). is_taken z n) (c.get_array.ensures ∙ whole);
      pmap = λ n h. ap (λ (z : List ℕ). is_taken z n) (c.get_array-2.ensures ∙ whole);
      inoext = λ e h. ap (λ (z : List Pxd). get_or z e no_run) c.copy_from_slice.ensures.after;
    }
