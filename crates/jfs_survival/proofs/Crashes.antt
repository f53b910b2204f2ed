-- What a crash leaves of a mounted volume is what it may leave of the core.
use Rattle.std.proofs.Common.{◌≡◌, ◌<◌, ◌≤◌, ◌⊎◌, ◌*◌, nat_lt, ℕ, true, false, List, length, map, get_or, sym, ◌∙◌, subst, inl, inr, arith}
use Rattle.std.proofs.lemmas.Bool.{cases_Bool, ltb-true, cond-true, cond-false}
use Rattle.std.proofs.lemmas.List.{length-map, get_or-map, take-append-drop}
use Rattle.jfs_disk.specs.Image.{Image, page_of}
use Rattle.jfs_disk.specs.Crash.{PageHistory, IsCrashPage, IsCrashImage, content_of, no_page, torn}
use Rattle.jfs_face.specs.recovery.specs.crash_core.specs.Core.{Block, no_block}
use Rattle.jfs_logged.specs.halves.specs.Half.{Halves, low_in}
use Rattle.jfs_face.specs.recovery.specs.Face.{Face}
use Rattle.jfs_face.specs.recovery.specs.Core.{Core, after_steps}
use Rattle.jfs_face.specs.recovery.specs.Sound.{IsLeft}
use Rattle.jfs_face.specs.Volume.{face_of}
use Rattle.jfs_face.proofs.Recovered.{recovered}
use Rattle.jfs_survival.specs.Stands.{IsCoreOf}
use Rattle.jfs_survival.specs.Laws.{left_by, CrashLaw}

torn_same : (s : ℕ) (a : List ℕ) → torn s a a ≡ a
unfolding torn
torn_same s a = take-append-drop (512 * s) a

-- what a read gives is what a crash may leave
seen_is_left : (page : PageHistory) → ((j : ℕ) × (j ≤ length page.writes) × (page.seen ≡ content_of page j)) → IsCrashPage page page.seen
seen_is_left page readable = record {
  base = readable.0;
  top = readable.0;
  sectors = 0;
  older = omega arith;
  there = readable.1;
  within = omega arith;
  content = readable.2 ∙ sym (torn_same 0 (content_of page readable.0));
}

pub left : (f : Face) (both : Halves) (core : Core) → IsCoreOf f both core → (low : Image) → IsCrashImage (low_in both.volume) low → IsLeft core (left_by core low)
left f both core is low crash p = at (cases_Bool (nat_lt p (length low)))
  where
    blocks : List Block
    blocks = both.volume.blocks

    many : length (low_in both.volume) ≡ length blocks
    many = length-map blocks (λ (b : Block). b.pages)

    at : (nat_lt p (length low) ≡ true) ⊎ (nat_lt p (length low) ≡ false) → IsCrashPage (core.slots p).block.pages (left_by core low p)
    at (inl this) =
        let number = crash.number in
        let there : p < length blocks = let l = ltb-true p (length low) this in omega (arith, l, number, many) in
        let page : get_or (low_in both.volume) p no_page ≡ (get_or blocks p no_block).pages = get_or-map (λ (b : Block). b.pages) blocks p no_block no_page there in
        subst (λ (a : List ℕ). IsCrashPage (core.slots p).block.pages a) (sym (cond-true (nat_lt p (length low)) (page_of low p) (core.slots p).block.pages.seen this))
        (subst (λ (h : PageHistory). IsCrashPage h (page_of low p)) (page ∙ sym (is.each p there).written) (crash.each p (omega (arith, there, many))))
    at (inr not_this) =
        subst (λ (a : List ℕ). IsCrashPage (core.slots p).block.pages a) (sym (cond-false (nat_lt p (length low)) (page_of low p) (core.slots p).block.pages.seen not_this))
        (seen_is_left (core.slots p).block.pages (is.sound.slots p).ok.readable)

pub crash_law : CrashLaw
crash_law r blocks agsize numag table map pl changes both core list steps is run low crash c n log redone is_redone at =
    recovered r blocks agsize numag table map pl changes core steps is.sound run.allowed (left_by (after_steps (face_of r pl changes) core steps) low) c n redone
    (left (face_of r pl changes) _ (after_steps (face_of r pl changes) core steps) run.core_is low crash) log is_redone at
