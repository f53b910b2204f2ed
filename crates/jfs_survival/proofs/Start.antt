-- A volume that was just mounted.
use Rattle.std.proofs.Common.{◌≡◌, ◌<◌, ℕ, true, List, [], length, map, get_or, None, refl, sym, ap, ◌∙◌, arith}
use Rattle.std.proofs.lemmas.List.{length-map, get_or-map}
use Rattle.jfs_disk.specs.Image.{page_of}
use Rattle.jfs_disk.specs.Crash.{resting}
use Rattle.jfs_face.specs.recovery.specs.crash_core.specs.Core.{fresh_block, no_block}
use Rattle.jfs_logged.specs.halves.specs.Entry.{Shown}
use Rattle.jfs_logged.specs.halves.specs.Laws.{fresh_halves}
use Rattle.jfs_face.specs.recovery.specs.Face.{Face, IsFace, Pages, item}
use Rattle.jfs_face.specs.recovery.specs.Core.{matters_at}
use Rattle.jfs_face.specs.recovery.specs.Mount.{fresh, IsMounted}
use Rattle.jfs_face.specs.recovery.proofs.Mount.{fresh_kept}
use Rattle.jfs_face.proofs.Whole.{is_face}
use Rattle.jfs_survival.specs.Stands.{IsBlockOf, lines_at, IsCoreOf}
use Rattle.jfs_survival.specs.Laws.{StartLaw}
use Rattle.jfs_survival.proofs.Blocks.{no_some, none_is, moved}

module _ (f : Face) (laws : IsFace f) (ring : ℕ) (shown : Shown) (low s : Pages) (mounted : IsMounted f low s) (canonical : (p : ℕ) → f.is_map p ≡ true → f.IsMap s (item f s) p (s p))
    (low_is : (p : ℕ) → p < length shown.pages → low p ≡ page_of shown.pages p) where
  many : length (map fresh_block shown.pages) ≡ length shown.pages
  many = length-map shown.pages fresh_block

  block : (p : ℕ) → p < length shown.pages → IsBlockOf (f.is_map p) (matters_at f (fresh f low s) p) (lines_at (fresh f low s) p) 0 (s p) ((fresh f low s).slots p) (fresh_block (page_of shown.pages p)) (page_of shown.pages p)
  block p l = record {
    written = ap resting (low_is p l);
    map_clean = λ e. refl;
    synced = λ e none. refl;
    size = λ e. ap (λ (a : List ℕ). length a) (sym (low_is p l)) ∙ mounted.sizes p;
    shown_is = λ e there. sym (low_is p l) ∙ sym (mounted.start.pages p e);
    dirty = λ e there some. none_is None refl some;
    later = λ e span d there. no_some span d;
    quiet = λ own d. no_some own d;
  }

  pub started : IsCoreOf f (fresh_halves ring shown) (fresh f low s)
  started = record {
    sound = fresh_kept f laws low s mounted canonical;
    history = refl;
    taken = refl;
    durable = refl;
    told = refl;
    grouped = refl;
    syncpoints = refl;
    points_taken = refl;
    points_stable = refl;
    number = sym many;
    each = λ p l. (let there : p < length shown.pages = omega (arith, l, many) in
        moved (f.is_map p) (matters_at f (fresh f low s) p) (lines_at (fresh f low s) p) 0 (s p) ((fresh f low s).slots p) ((fresh f low s).slots p) (fresh_block (page_of shown.pages p)) (get_or (map fresh_block shown.pages) p no_block) (page_of shown.pages p) (page_of shown.pages p)
        refl (get_or-map fresh_block shown.pages p [] no_block there) refl (block p there));
    past = λ p l. record { dirty = refl; unsynced = refl };
  }

pub start_law : StartLaw
start_law r pl changes ring shown low s areas mounted canonical low_is = started _ (is_face r pl changes areas) ring shown low s mounted canonical low_is
