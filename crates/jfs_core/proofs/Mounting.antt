-- The pages of a volume as it is mounted, in a loop that goes over them.
use Rattle.std.proofs.Common.{false, ◌≡◌, ◌<◌, ◌≤◌, ◌⊎◌, inl, inr, ◌+◌, ℕ, List, [], ◌∷◌, ◌++◌, length, take, get_or, map, None, refl, sym, ap, ◌∙◌, subst, arith}
use Rattle.std.proofs.lemmas.List.{get_or-map, length-map, map_push, take_more, take_all}
use Rattle.std.proofs.lemmas.Bool.{cases_lt}
use Rattle.jfs_disk.specs.Image.{Image, page_of}
use Rattle.jfs_disk.specs.declared.page.Page.{Page}
use Rattle.jfs_core.specs.Core.{Block, fresh_block, fresh_core}
use Rattle.jfs_disk.specs.Pages.{contents}
use Rattle.jfs_core.specs.Image.{History}

-- the first i pages are mounted
pub record AreMounted (low : Image) (i : ℕ) (mounted : Image) (blocks : List Block) : Type 0 where
  pub images : mounted ≡ take i low
  pub fresh : blocks ≡ map fresh_block (take i low)
  pub sizes : (k : ℕ) → k < i → length (page_of low k) ≡ 4096

pub AreMounted-more : (low : Image) (i : ℕ) (mounted more : Image) (blocks after : List Block) → i < length low → AreMounted low i mounted blocks →
    more ≡ mounted ++ page_of low i ∷ [] → after ≡ blocks ++ fresh_block (page_of low i) ∷ [] → length (page_of low i) ≡ 4096 → AreMounted low (i + 1) more after
AreMounted-more low i mounted more blocks after h are e f size =
    let next = take_more low i [] h in
    record {
      images = e ∙ ap (λ (xs : Image). xs ++ page_of low i ∷ []) are.images ∙ sym next;
      fresh = f ∙ ap (λ (xs : List Block). xs ++ fresh_block (page_of low i) ∷ []) are.fresh ∙ sym (map_push fresh_block (take i low) (page_of low i)) ∙ ap (λ (xs : Image). map fresh_block xs) (sym next);
      sizes = λ k l. at k (cases_lt k i) l;
    }
  where
    at : (k : ℕ) → (k < i) ⊎ (i ≤ k) → k < i + 1 → length (page_of low k) ≡ 4096
    at k (inl l) w = are.sizes k l
    at k (inr l) w = let same : i ≡ k = omega arith in subst (λ (x : ℕ). length (page_of low x) ≡ 4096) same size

-- one more of the pages in memory
pub AreMounted-page : (low items : List Page) (i : ℕ) (d : Page) (mounted more : Image) (blocks after : List Block) → items ≡ low → i < length items → AreMounted (contents low) i mounted blocks →
    more ≡ mounted ++ (get_or items i d).0 ∷ [] → after ≡ blocks ++ fresh_block (get_or items i d).0 ∷ [] → length (get_or items i d).0 ≡ 4096 → AreMounted (contents low) (i + 1) more after
AreMounted-page low items i d mounted more blocks after same h are e f size =
    let within : i < length low = omega (arith, ap (λ (ps : List Page). length ps) same) in
    let page : (get_or items i d).0 ≡ page_of (contents low) i = ap (λ (ps : List Page). (get_or ps i d).0) same ∙ sym (get_or-map (λ (p : Page). p.0) low i d [] within) in
    AreMounted-more (contents low) i mounted more blocks after (omega (arith, length-map low (λ (p : Page). p.0))) are
    (e ∙ ap (λ (bytes : List ℕ). mounted ++ bytes ∷ []) page) (f ∙ ap (λ (bytes : List ℕ). blocks ++ fresh_block bytes ∷ []) page) (ap (λ (bytes : List ℕ). length bytes) (sym page) ∙ size)

-- all pages are mounted
pub core_mounted : (low : Image) (i : ℕ) (mounted : Image) (blocks : List Block) (history : History) (points : List ℕ) → length low ≤ i → AreMounted low i mounted blocks → history ≡ [] → points ≡ 0 ∷ [] →
    record { mounted = mounted; history = history; taken = 0; durable = 0; told = 0; grouped = false; syncpoints = points; points_taken = 1; points_stable = 1; blocks = blocks; low_halted = None; log_halted = None } ≡ fresh_core low
core_mounted low i mounted blocks history points h are empty one =
    let all : take i low ≡ low = take_all i low h in
    let images : mounted ≡ low = are.images ∙ all in
    let fresh : blocks ≡ map fresh_block low = are.fresh ∙ ap (λ (xs : Image). map fresh_block xs) all in
    rw (images, fresh, empty, one) refl
