-- One crash by choices is one that a crash may leave.
use Rattle.std.proofs.Common.{◌≡◌, ◌<◌, ◌≤◌, ◌+◌, ◌-◌, ℕ, zero, suc, List, [], ◌∷◌, length, take, drop, get_or, refl, sym, ap, ◌∙◌, subst, arith}
use Rattle.std.proofs.lemmas.List.{drop-take, ext_get_or, length-map}
use Rattle.jfs_disk.specs.Image.{Image, page_of}
use Rattle.jfs_disk.specs.Crash.{PageHistory, seen_of, IsCrashPage, IsCrashImage, torn}
use Rattle.jfs_disk.specs.Choice.{left_by, choice_of, IsChosen}
use Rattle.jfs_disk.specs.declared.choice.Choice.{Choice}
use Rattle.jfs_core.specs.Image.{History, image_after, page_after}
use Rattle.jfs_core.specs.Core.{Core, Block, block_of, no_block, low_of, core_image, IsInBounds}
use Rattle.jfs_core.specs.Left.{stable_count, IsCrash, chosen_from, redone_from}
use Rattle.jfs_core.specs.Sound.{IsSound, IsLogImage, redone_image}
use Rattle.jfs_core.proofs.Bytes.{page_of-image_after, length-image_after}
use Rattle.jfs_disk.specs.Seen.{page_of-seen_of}
use Rattle.jfs_disk.proofs.Crashed.{IsCrashImage-chosen}
use Rattle.jfs_core.proofs.Device.{history_of-low}
use Rattle.jfs_core.proofs.Redo.{always_recovers, agreement_is_equality}

-- ---- page by page

length-chosen_from : (choices : List Choice) (n : ℕ) (blocks : List Block) → length (chosen_from choices n blocks) ≡ length blocks
length-chosen_from choices n [] = refl
length-chosen_from choices n (block ∷ blocks) = ap (λ (k : ℕ). suc k) (length-chosen_from choices (suc n) blocks)

length-redone_from : (choices : List Choice) (entries : History) (n : ℕ) (blocks : List Block) → length (redone_from choices entries n blocks) ≡ length blocks
length-redone_from choices entries n [] = refl
length-redone_from choices entries n (block ∷ blocks) = ap (λ (k : ℕ). suc k) (length-redone_from choices entries (suc n) blocks)

abbrev left_at : List Choice → Block → ℕ → List ℕ
left_at choices block n = left_by (choice_of choices n) block.pages block.pages.seen

page_of-chosen_from : (choices : List Choice) (n : ℕ) (blocks : List Block) (p : ℕ) → p < length blocks → page_of (chosen_from choices n blocks) p ≡ left_at choices (get_or blocks p no_block) (n + p)
page_of-chosen_from choices n [] p h = absurd (omega arith)
page_of-chosen_from choices n (block ∷ blocks) zero h = let e : n + 0 ≡ n = omega arith in rw e refl
page_of-chosen_from choices n (block ∷ blocks) (suc p) h =
    let e : n + suc p ≡ suc n + p = omega arith in
    rw e (page_of-chosen_from choices (suc n) blocks p (omega arith))

page_of-redone_from : (choices : List Choice) (entries : History) (n : ℕ) (blocks : List Block) (p : ℕ) → p < length blocks → page_of (redone_from choices entries n blocks) p ≡ page_after (n + p) entries (left_at choices (get_or blocks p no_block) (n + p))
page_of-redone_from choices entries n [] p h = absurd (omega arith)
page_of-redone_from choices entries n (block ∷ blocks) zero h = let e : n + 0 ≡ n = omega arith in rw e refl
page_of-redone_from choices entries n (block ∷ blocks) (suc p) h =
    let e : n + suc p ≡ suc n + p = omega arith in
    rw e (page_of-redone_from choices entries (suc n) blocks p (omega arith))

redone_is : (choices : List Choice) (entries : History) (blocks : List Block) → redone_from choices entries 0 blocks ≡ image_after entries (chosen_from choices 0 blocks)
redone_is choices entries blocks =
    let one = redone_from choices entries 0 blocks in
    let low = chosen_from choices 0 blocks in
    let one_length : length one ≡ length blocks = length-redone_from choices entries 0 blocks in
    let low_length : length low ≡ length blocks = length-chosen_from choices 0 blocks in
    let two_length : length (image_after entries low) ≡ length blocks = length-image_after entries low ∙ low_length in
    ext_get_or [] one (image_after entries low) (one_length ∙ sym two_length) (λ p l.
    let h : p < length blocks = omega (arith, l, one_length) in
    let place : 0 + p ≡ p = omega arith in
    page_of-redone_from choices entries 0 blocks p h
    ∙ ap (λ (q : ℕ). page_after q entries (left_at choices (get_or blocks p no_block) (0 + p))) place
    ∙ ap (λ (page : List ℕ). page_after p entries page) (sym (page_of-chosen_from choices 0 blocks p h))
    ∙ sym (page_of-image_after entries low p (omega (arith, low_length, h))))

-- ---- what is left

length-low : (core : Core) → length (low_of core) ≡ length core.blocks
length-low core = length-map core.blocks (λ (b : Block). b.pages)

is_chosen : (core : Core) (choices : List Choice) → IsChosen choices (low_of core) (chosen_from choices 0 core.blocks)
is_chosen core choices = record {
  number = length-chosen_from choices 0 core.blocks ∙ sym (length-low core);
  each = λ p l.
      let h : p < length core.blocks = omega (arith, l, length-low core) in
      let place : 0 + p ≡ p = omega arith in
      page_of-chosen_from choices 0 core.blocks p h
      ∙ ap (λ (q : ℕ). left_at choices (block_of core p) q) place
      ∙ ap (λ (page : PageHistory). left_by (choice_of choices p) page page.seen) (sym (history_of-low core p));
}

-- what a read gives is left by a crash too
reads_crash : (core : Core) → IsSound core → IsCrashImage (low_of core) (seen_of (low_of core))
unfolding torn
reads_crash core sound = record {
  number = length-map (low_of core) (λ (page : PageHistory). page.seen);
  each = λ p l.
      let h : p < length core.blocks = omega (arith, l, length-low core) in
      let page = (block_of core p).pages in
      let ok = sound.kept.blocks p h in
      let seen : page_of (seen_of (low_of core)) p ≡ page.seen = page_of-seen_of (low_of core) p ∙ ap (λ (x : PageHistory). x.seen) (history_of-low core p) in
      let P : PageHistory → Type 0 = λ x. IsCrashPage x (page_of (seen_of (low_of core)) p) in
      subst P (sym (history_of-low core p))
      (record { base = ok.readable.0; top = ok.readable.0; sectors = 0; older = omega arith; there = ok.readable.1; within = omega arith; content = seen ∙ ok.readable.2 });
}

pub is_crash : (core : Core) (choices : List Choice) (n : ℕ) (image : Image) → IsSound core → core.durable ≤ n → n ≤ core.taken →
    image ≡ redone_from choices (drop (stable_count core) (take n core.history)) 0 core.blocks → IsCrash core choices n image
is_crash core choices n image sound durable taken e =
    let c = stable_count core in
    let low = chosen_from choices 0 core.blocks in
    let left = IsCrashImage-chosen choices (low_of core) low (reads_crash core sound) (is_chosen core choices) in
    let points = sound.kept.bounds.points in
    let log : IsLogImage core c n = record {
      count = (core.points_stable - 1, omega arith, omega (arith, points.mounted, points.stable_taken), refl);
      durable = durable;
      taken = taken;
    } in
    record {
      low = low;
      chosen = is_chosen core choices;
      left = left;
      log = log;
      redone = e ∙ redone_is choices (drop c (take n core.history)) core.blocks;
      recovered = always_recovers core sound low c n left log;
    }

pub stable_told : (core : Core) → IsInBounds core → stable_count core ≤ core.told
stable_told core bounds = bounds.points.acknowledged (core.points_stable - 1) (omega arith)

-- the same from the parts that the code reads
pub crash_from_parts : (core : Core) (choices : List Choice) (n durable taken from : ℕ) (history : History) (blocks : List Block) (image : Image) → IsSound core →
    durable ≡ core.durable → taken ≡ core.taken → from ≡ stable_count core → history ≡ core.history → blocks ≡ core.blocks → durable ≤ n → n ≤ taken →
    image ≡ redone_from choices (take (n - from) (drop from history)) 0 blocks → IsCrash core choices n image
crash_from_parts core choices n durable taken from history blocks image sound d t f h b low high e =
    let c = stable_count core in
    let bounds = sound.kept.bounds in
    let early : c ≤ n = omega (arith, stable_told core bounds, bounds.counts.told_durable, d, low) in
    let whole : c + (n - c) ≡ n = omega arith in
    let log : take (n - c) (drop c core.history) ≡ drop c (take n core.history) =
    sym (drop-take c (n - c) core.history) ∙ ap (λ (k : ℕ). drop c (take k core.history)) whole in
    is_crash core choices n image sound (omega (arith, d, low)) (omega (arith, t, high))
    (e ∙ ap (λ (k : ℕ). redone_from choices (take (n - k) (drop k history)) 0 blocks) f
    ∙ ap (λ (xs : History). redone_from choices (take (n - c) (drop c xs)) 0 blocks) h
    ∙ ap (λ (bs : List Block). redone_from choices (take (n - c) (drop c core.history)) 0 bs) b
    ∙ ap (λ (xs : History). redone_from choices xs 0 core.blocks) log)

-- what is left is the image after the first n entries
pub crash_image : (core : Core) (choices : List Choice) (n : ℕ) (image : Image) → IsCrash core choices n image → image ≡ core_image core n
crash_image core choices n image left = left.redone ∙ agreement_is_equality (redone_image core left.low (stable_count core) n) (core_image core n) left.recovered
