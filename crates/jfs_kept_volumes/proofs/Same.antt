-- Parts that hold the same volume.
use Rattle.std.proofs.Common.{◌&&◌, nat_lt, length, map, refl, ap}
use Rattle.jfs_disk.specs.Image.{Image, page_of}
use Rattle.jfs_commits_held.specs.volume_calls.specs.volume.specs.bmap.specs.States.{Blocks, is_owned}
use Rattle.jfs_commits_held.specs.volume_calls.specs.volume.specs.map_files.specs.imap.specs.Inodes.{Inodes}
use Rattle.jfs_commits_held.specs.volume_calls.specs.volume.specs.data_steps.specs.objects.specs.Image.{extent_place}
use Rattle.jfs_commits_held.specs.volume_calls.specs.volume.specs.data_steps.specs.way.specs.Volume.{volume_of}
use Rattle.jfs_commits_held.proofs.Settled.{size, same_now}
use Rattle.jfs_kept_volumes.specs.Steps.{SameLaw, SettledLaw}

pub same_law : SameLaw
same_law area old new view map_is inodes = record {
  sizes = record { blocks = ap (λ (k : Blocks). length k.states) map_is; extents = ap (λ (i : Inodes). length i.extents) inodes };
  same = record {
    extents = ap (λ (i : Inodes). map extent_place i.extents) inodes;
    area = λ b. refl;
    used = λ b. ap (λ (k : Blocks). nat_lt b (length k.states) && is_owned k b) map_is;
    in_use = λ n. ap (λ (i : Inodes). (volume_of (page_of old.view) area old.map i).in_use n) inodes;
    pages = λ b used. ap (λ (image : Image). page_of image b) view;
  };
}

pub settled_law : SettledLaw
settled_law area old new busy settles keeps = record {
  sizes = record { blocks = size area old new busy settles keeps; extents = ap (λ (i : Inodes). length i.extents) settles.inodes };
  same = same_now area old new busy settles keeps;
}
