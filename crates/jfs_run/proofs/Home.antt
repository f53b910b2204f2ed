-- A volume that was just mounted has all its pages at home.
use Rattle.std.proofs.Common.{◌≡◌, ◌∙◌, ℕ, [], ◌∷◌, map, false, get_or, zero, suc, Option, Some, None, refl, ap}
use Rattle.std.proofs.lemmas.Bool.{false≢true}
use Rattle.jfs_disk.specs.Image.{Image}
use Rattle.jfs_super.specs.declared.fields.Super.{Super}
use Rattle.jfs_server.specs.shared.specs.Start.{IsJustMounted}
use Rattle.jfs_server.specs.shared.specs.legal.specs.served.specs.crash_core.specs.Core.{fresh_block, no_block}
use Rattle.jfs_server.specs.shared.specs.legal.specs.served.specs.halves.specs.Log.{LogParts}
use Rattle.jfs_server.specs.shared.specs.legal.specs.served.specs.halves.specs.Parts.{Parts, span_of}
use Rattle.jfs_server.specs.shared.specs.legal.specs.served.specs.unmount.specs.Unmount.{IsAllHome}
use Rattle.jfs_server.specs.shared.specs.legal.specs.served.specs.volume.specs.map_files.specs.declared.map_file.MapFiles.{MapFiles}
use Rattle.jfs_server.specs.shared.specs.legal.specs.served.specs.volume.specs.pages.specs.Dirty.{dirty_of}
use Rattle.jfs_server.specs.shared.specs.legal.specs.served.specs.volume.specs.pages.specs.declared.dirty.Dirty.{Dirty}

-- a page of a fresh volume isn't dirty
fresh_dirty : (pages : Image) (q : ℕ) → (get_or (map fresh_block pages) q no_block).dirty ≡ None
fresh_dirty [] q = refl
fresh_dirty (page ∷ pages) zero = refl
fresh_dirty (page ∷ pages) (suc q) = fresh_dirty pages q

no_span : (dirty : Option Dirty) → span_of dirty ≡ None → dirty ≡ None
no_span None e = refl
no_span (Some d) e = absurd (cc (e))

pub fresh_home : (tells crashes : Type 0) (s : Super) (image : Image) (p : Parts) (log : LogParts) → IsJustMounted tells crashes s image p log → IsAllHome p
fresh_home tells crashes s image p log j =
    let m = j.mount in
    let stands = m.fresh false false (λ e. absurd (false≢true e)) (λ e. absurd (false≢true e)) in
    record {
      clean = λ q. no_span (dirty_of p.dirty q) (stands.dirty q ∙ fresh_dirty m.pages q);
      block_map = ap (λ (f : MapFiles). f.blocks.stale) m.has_maps.3 ∙ m.rest.fresh.0;
      inode_map = ap (λ (f : MapFiles). f.inodes.stale) m.has_maps.3 ∙ m.rest.fresh.1;
    }
