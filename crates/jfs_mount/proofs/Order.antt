-- The rows of a mount, one after another, up to the first that is broken.
use Rattle.std.proofs.Common.{◌≡◌, refl, sym, ap, ◌∙◌, ℕ, List, [], ◌∷◌, Option, Some, None}
use Rattle.jfs_bits.specs.Broken.{Row, first_broken}
use Rattle.jfs_bits.proofs.Broken.{later, earlier}
use Rattle.jfs_reader.specs.objects.specs.Volume.{home}
use Rattle.jfs_mount.specs.Subject.{Subject, subject_of, volume}
use Rattle.jfs_mount.specs.Mount.{BadMount, bmap_row, imap_row, mapsize_row, nextiag_row, extents_row, root_row, map_rows, mount_rows, broken_maps, broken_mount}
use Rattle.jfs_mount.specs.Steps.{AreRead, FindsPlaces, FindsMaps, broken}
use Rattle.jfs_mount.specs.declared.bad.BadMount.{BadMount as Bad}
use Rattle.jfs_mount.specs.declared.maps.Maps.{Maps}
use Rattle.jfs_disk.specs.Image.{Image, page_of}
use Rattle.jfs_super.specs.declared.fields.Super.{Super}
use Rattle.std.specs.Global.{Vec}
use Rattle.std.specs.Prelude.{Result, Ok, Err, IfOk}

-- the rows on the maps from each one on
abbrev pub from_extents : Subject → List (Row BadMount)
from_extents s = extents_row s ∷ []

abbrev pub from_nextiag : Subject → List (Row BadMount)
from_nextiag s = nextiag_row s ∷ from_extents s

abbrev pub from_mapsize : Subject → List (Row BadMount)
from_mapsize s = mapsize_row s ∷ from_nextiag s

abbrev pub from_imap : Subject → List (Row BadMount)
from_imap s = imap_row s ∷ from_mapsize s

pub all_rows : (s : Subject) → broken_maps s ≡ first_broken (bmap_row s ∷ from_imap s)
unfolding map_rows
all_rows s = refl

-- the root's rule stands behind them
abbrev from_root : Subject → List (Row BadMount)
from_root s = root_row s (home (volume s).extents 2) ∷ []

pub root_is_last : (s : Subject) → broken_maps s ≡ None → broken_mount s ≡ first_broken (from_root s)
unfolding map_rows mount_rows
root_is_last s none = later (map_rows s) (from_root s) none

pub maps_are_first : (s : Subject) (bad : BadMount) → broken_maps s ≡ Some bad → broken_mount s ≡ Some bad
unfolding map_rows mount_rows
maps_are_first s bad is = earlier (map_rows s) (from_root s) bad is

-- a rule that holds leaves the answer to the rules after it
pub passes : (m : Option BadMount) (r : Row BadMount) (rows : List (Row BadMount)) → m ≡ first_broken (r ∷ rows) → None ≡ broken r → m ≡ first_broken rows
passes m r rows e h = e ∙ later (r ∷ []) rows (sym h)

pub fails : (m : Option BadMount) (r : Row BadMount) (rows : List (Row BadMount)) (bad : BadMount) → m ≡ first_broken (r ∷ rows) → Some bad ≡ broken r → m ≡ Some bad
fails m r rows bad e h = e ∙ earlier (r ∷ []) rows bad (sym h)

module _ (s : Subject) (bmap : None ≡ broken (bmap_row s)) where
  pub after_bmap : broken_maps s ≡ first_broken (from_imap s)
  after_bmap = passes _ (bmap_row s) (from_imap s) (all_rows s) bmap

  module _ (imap : None ≡ broken (imap_row s)) where
    pub after_imap : broken_maps s ≡ first_broken (from_mapsize s)
    after_imap = passes _ (imap_row s) (from_mapsize s) after_bmap imap

    module _ (mapsize : None ≡ broken (mapsize_row s)) where
      pub after_mapsize : broken_maps s ≡ first_broken (from_nextiag s)
      after_mapsize = passes _ (mapsize_row s) (from_nextiag s) after_imap mapsize

      module _ (nextiag : None ≡ broken (nextiag_row s)) where
        pub after_nextiag : broken_maps s ≡ first_broken (from_extents s)
        after_nextiag = passes _ (nextiag_row s) (from_extents s) after_mapsize nextiag

        pub after_extents : None ≡ broken (extents_row s) → broken_maps s ≡ None
        after_extents extents = passes _ (extents_row s) [] after_nextiag extents

-- so it decides where the maps break no rule
pub root_decides : (s : Subject) (places : List (Option ℕ)) (o : Option BadMount) → places ≡ (volume s).extents → o ≡ broken (root_row s (home places 2)) → broken_maps s ≡ None → broken_mount s ≡ o
root_decides s places o e h none = root_is_last s none ∙ sym (ap (λ (places : List (Option ℕ)). broken (root_row s (home places 2))) e) ∙ sym h

-- ---- what the rule on inode extents leaves of the maps' rules

-- the four rules before it hold
abbrev AreWhole : Subject → Type 0
AreWhole s = (None ≡ broken (bmap_row s)) × (None ≡ broken (imap_row s)) × (None ≡ broken (mapsize_row s)) × (None ≡ broken (nextiag_row s))

pub maps-found : (image : Image) (maps : Maps) (r : Result (Vec (Option ℕ)) Bad) → ((s : Super) → AreRead (subject_of s (page_of image)) maps → AreWhole (subject_of s (page_of image))) → FindsPlaces image maps r → FindsMaps image maps r
maps-found image maps (Ok places) whole found = λ s is.
    let v = subject_of s (page_of image) in
    let h = whole s is in
    let at = found s is in
    (after_extents v h.0 h.1 h.2 h.3 at.0, at.1)
maps-found image maps (Err bad) whole found = λ s is.
    let v = subject_of s (page_of image) in
    let h = whole s is in
    fails _ (extents_row v) [] bad (after_nextiag v h.0 h.1 h.2 h.3) (found s is)

-- what holds of an answer, where there is one
pub each : {X E : Type 0} {P Q : X → Type 0} (r : Result X E) → ((x : X) → P x → Q x) → IfOk r P → IfOk r Q
each (Ok x) f h = f x h
each (Err e) f h = tt
