-- The parts of a volume that was just mounted.
use Rattle.std.proofs.Common.{◌≡◌, ◌<◌, ◌+◌, ◌-◌, ◌*◌, ℕ, zero, suc, Bool, true, [], ◌∷◌, length, map, get_or, None, refl, sym, ap, ◌∙◌, arith}
use Rattle.std.proofs.lemmas.List.{length-map, get_or-map, ext_get_or}
use Rattle.jfs_disk.specs.Image.{Image, page_of}
use Rattle.jfs_disk.specs.Crash.{DiskState, seen_of, last_of, resting, settled}
use Rattle.jfs_disk.specs.Moment.{IsResting}
use Rattle.jfs_halves.specs.crash_core.specs.Core.{Block, no_block, fresh_block}
use Rattle.jfs_halves.specs.Laws.{fresh_halves}
use Rattle.jfs_halves.specs.Parts.{Parts, StandsFor}

fresh-dirty : (pages : Image) (q : ℕ) → (get_or (map fresh_block pages) q no_block).dirty ≡ None
fresh-dirty [] q = refl
fresh-dirty (page ∷ pages) zero = refl
fresh-dirty (page ∷ pages) (suc q) = fresh-dirty pages q

fresh-seen : (pages : Image) (q : ℕ) → q < length pages → (get_or (map fresh_block pages) q no_block).pages.seen ≡ page_of pages q
fresh-seen pages q h = ap (λ (b : Block). b.pages.seen) (get_or-map fresh_block pages q [] no_block h)

fresh-low : (pages : Image) → map (λ (b : Block). b.pages) (map fresh_block pages) ≡ map resting pages
fresh-low [] = refl
fresh-low (page ∷ pages) = ap (λ (rest : DiskState). resting page ∷ rest) (fresh-low pages)

settled-seen : (state : DiskState) → settled state ≡ map resting (seen_of state)
unfolding settled
settled-seen [] = refl
settled-seen (page ∷ state) = let rest = settled-seen state in ap (λ (pages : DiskState). resting page.seen ∷ pages) rest

-- the parts of a volume over pages that are all clean
pub record IsFresh (seen asked : Bool) (ring : ℕ) (p : Parts) : Type 0 where
  pub counts : (p.appended ≡ 0) × (p.taken ≡ 0) × (p.told ≡ 0) × (p.points ≡ 1) × (p.known ≡ 1) × (p.halted ≡ None)
  pub empty : (p.dirty ≡ []) × (p.entries ≡ []) × (p.freed ≡ [])
  pub text : p.text ≡ record { ring = ring; place = 4080 * (ring - 1) + 36; sync = 4080 * (ring - 1); bytes = []; ends = []; last = 0 }
  pub number : length p.view ≡ p.blocks
  pub disk : seen ≡ true → (q : ℕ) → q < p.blocks → page_of p.disk q ≡ page_of p.view q
  pub low : seen ≡ true → asked ≡ true → (length p.disk ≡ p.blocks) × IsResting (last_of p.past) × (p.disk ≡ seen_of (last_of p.past))

pub fresh_stands : (seen asked : Bool) (ring : ℕ) (p : Parts) → IsFresh seen asked ring p → StandsFor seen asked p (fresh_halves ring (record { pages = p.view; map = p.map; inodes = p.inodes })).volume
fresh_stands seen asked ring p f = record {
  appended = f.counts.0;
  taken = f.counts.1;
  told = f.counts.2;
  points = f.counts.3;
  known = f.counts.4;
  number = length-map p.view fresh_block ∙ f.number;
  halted = f.counts.5;
  dirty = λ q. rw f.empty.0 (sym (fresh-dirty p.view q));
  block_map = record { states = refl; agsize = refl };
  inodes = refl;
  handed = omega arith;
  entries = f.empty.1;
  text = rw f.text (record { ring = refl; place = refl; sync = refl; bytes = refl; ends = refl; last = refl });
  freed = rw f.empty.2 tt;
  view = λ t. refl;
  disk = λ t q h. f.disk t q (inside q h) ∙ sym (fresh-seen p.view q (omega (arith, h, length-map p.view fresh_block)));
  low = λ t k. (f.low t k).1 ∙ settled-seen (last_of p.past) ∙ ap (λ (pages : Image). map resting pages) (sym (f.low t k).2 ∙ same t k) ∙ sym (fresh-low p.view);
}
  where
    inside : (q : ℕ) → q < length (map fresh_block p.view) → q < p.blocks
    inside q h = omega (arith, h, length-map p.view fresh_block, f.number)

    same : seen ≡ true → asked ≡ true → p.disk ≡ p.view
    same t k = let size = (f.low t k).0 in ext_get_or [] p.disk p.view (omega (arith, size, f.number)) (λ q h. f.disk t q (omega (arith, h, size)))
