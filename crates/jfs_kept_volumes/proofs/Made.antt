-- Changes that may be made lead to a keeper.
use Rattle.std.proofs.Common.{◌≡◌, List, [], ◌∷◌, length, refl, sym, ap, ◌∙◌, arith}
use Rattle.jfs_commits_held.specs.volume_calls.specs.volume.specs.data_steps.specs.meaning.specs.Readers.{readers}
use Rattle.jfs_commits_held.specs.joined_held.specs.held.specs.Held.{Mount, Held, face_at}
use Rattle.jfs_commits_held.specs.joined_held.specs.held.specs.Changes.{Made, steps_of, next, after}
use Rattle.jfs_commits_held.specs.joined_held.specs.held.proofs.Crash.{run_law}
use Rattle.jfs_commits_held.specs.joined_held.specs.held.proofs.Kept.{replaced, part_size}
use Rattle.jfs_commits_held.specs.joined_held.specs.Held.{blocks_at, volume_at, held_at}
use Rattle.jfs_held_maps.proofs.Kept.{mounted_stays, run_law as run_maps}
use Rattle.jfs_kept_volumes.specs.Steps.{StartLaw, MadeLaw}
use Rattle.jfs_kept_volumes.proofs.Maps.{of_volume}
use Rattle.jfs_kept_volumes.proofs.Rests.{begin_law}

pub same_part : (m : Mount) (x : Held) (ds : List Made) → length (after m x ds).both.volume.blocks ≡ length x.both.volume.blocks
same_part m x [] = refl
same_part m x (d ∷ ds) = same_part m (next m x d.change d.volume) ds ∙ part_size x.both d.change

pub same_mounted : (m : Mount) (x : Held) (ds : List Made) → (after m x ds).core.mounted ≡ x.core.mounted
same_mounted m x [] = refl
same_mounted m x (d ∷ ds) = same_mounted m (next m x d.change d.volume) ds ∙ mounted_stays (face_at m) x.core (steps_of m x d.change)

pub made_law : MadeLaw
made_law m area old new ds x is may stands rest sizes same =
    let h = held_at x.both x.core x.volumes area old in
    record {
      held = record {
        held = replaced m (after m h ds) (volume_at area new) (run_law m h ds is.held.held may).held same;
        readers_are = ap readers sizes.blocks ∙ is.held.readers_are;
        blocks = is.held.blocks ∙ sym sizes.blocks;
        extents = sizes.extents ∙ is.held.extents;
        within = (let low = is.held.within in let a = sizes.blocks in let b = same_part m h ds in omega (arith, low, a, b));
      };
      stands = stands;
      rest = rest;
      maps = of_volume m (after m h ds) (volume_at area new) (after m h ds).volumes (run_maps m h ds is.held.held is.maps may);
    }

pub start_law : StartLaw
start_law m area p ring shown core volumes held maps stands some most small = record { held = held; stands = stands; rest = begin_law (blocks_at p) ring shown small some most; maps = maps }
