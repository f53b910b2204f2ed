use Rattle.std.proofs.Common.{◌≡◌, ◌<◌, ◌++◌, ℕ, true, map}
use Rattle.std.specs.List.{range_with_len}
use Rattle.jfs_reader.specs.objects.specs.Image.{extent_place}
use Rattle.jfs_each.specs.Each.{AllFit}
use Rattle.jfs_mount.specs.Files.{extent_in, fits_in}
use Rattle.jfs_mount.proofs.extents.add_places.Given as goal

abbrev pub invariant-loop-k : goal.invariant-loop-k
invariant-loop-k l = record {
  places : l.places.items ≡ l.fn.places.items ++ map (λ k. extent_place (extent_in l.page.0 k)) (range_with_len 0 l.k);
  fits : (k : ℕ) → k < l.k → fits_in l.blocks (extent_in l.page.0 k) ≡ true;
  fit : AllFit l.blocks l.fn.places.items → AllFit l.blocks l.places.items;
}
