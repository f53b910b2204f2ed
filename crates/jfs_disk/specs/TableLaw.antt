-- For the prover: what holds of every disk in memory, from its slots.
use Rattle.std.specs.Prelude.{◌≡◌, ◌<◌, ℕ, List, length, get_or, Option, Some, None, Box}
use Rattle.std.specs.Global.{Global}
use Rattle.std.proofs.Common.{sym, ap, ◌∙◌, subst, arith}
use Rattle.std.proofs.lemmas.List.{length-map, length-replicate}
use Rattle.std.proofs.lemmas.List.FromFn.{get_or-map-range_with_len, length-map-range_with_len}
use Rattle.jfs_disk.specs.Image.{page_of, ArePages}
use Rattle.jfs_disk.specs.Crash.{PageHistory, DiskState, history_of, no_page, seen_of, torn, last_of, IsCrashPage, IsCrashImage}
use Rattle.jfs_disk.specs.Seen.{page_of-seen_of}
use Rattle.jfs_disk.specs.Table.{page_in, page_at, state_in}
use Rattle.jfs_disk.specs.declared.slot.PageSlot.{PageSlot}

pub history-state_in : (count : ℕ) (slots : List (Option (Box PageSlot Global))) (n : ℕ) → n < count → history_of (state_in count slots) n ≡ page_at slots n
history-state_in count slots n h = get_or-map-range_with_len (λ (k : ℕ). page_at slots k) 0 count n n no_page h (omega arith)

pub length-state_in : (count : ℕ) (slots : List (Option (Box PageSlot Global))) → length (state_in count slots) ≡ count
length-state_in count slots = length-map-range_with_len (λ (k : ℕ). page_at slots k) 0 count

page-seen : (place : Option (Box PageSlot Global)) → length (page_in place).seen ≡ 4096
page-seen None = length-replicate {A = ℕ} 4096 0
page-seen (Some slot) = slot.value.sizes slot.value.shown slot.value.there

-- what a read gives is one of the contents
page-kept : (place : Option (Box PageSlot Global)) (left : List ℕ) → left ≡ (page_in place).seen → IsCrashPage (page_in place) left
unfolding torn
page-kept None left e = record { base = 0; top = 0; sectors = 0; older = omega arith; there = omega arith; within = omega arith; content = e }
page-kept (Some slot) left e = record {
  base = slot.value.shown;
  top = slot.value.shown;
  sectors = 0;
  older = omega arith;
  there = omega (arith, slot.value.there, length-map slot.value.writes.items (λ page. page.value.0));
  within = omega arith;
  content = e;
}

whole-state : (count : ℕ) (slots : List (Option (Box PageSlot Global))) → ArePages count (seen_of (state_in count slots))
whole-state count slots = record {
  number = length-map (state_in count slots) (λ (page : PageHistory). page.seen) ∙ length-state_in count slots;
  sizes = λ n h. ap (λ (bytes : List ℕ). length bytes) (page_of-seen_of (state_in count slots) n ∙ ap (λ (page : PageHistory). page.seen) (history-state_in count slots n h))
      ∙ page-seen (get_or slots n None);
}

crash-state : (count : ℕ) (slots : List (Option (Box PageSlot Global))) → IsCrashImage (state_in count slots) (seen_of (state_in count slots))
crash-state count slots = record {
  number = length-map (state_in count slots) (λ (page : PageHistory). page.seen);
  each = λ n h.
      let there : n < count = omega (arith, length-state_in count slots) in
      let here = history-state_in count slots n there in
      subst (λ (page : PageHistory). IsCrashPage page (page_of (seen_of (state_in count slots)) n)) (sym here)
      (page-kept (get_or slots n None) (page_of (seen_of (state_in count slots)) n)
      (page_of-seen_of (state_in count slots) n ∙ ap (λ (page : PageHistory). page.seen) here));
}

pub whole_of : (count : ℕ) (slots : List (Option (Box PageSlot Global))) (past : List DiskState) → last_of past ≡ state_in count slots → ArePages count (seen_of (last_of past))
whole_of count slots past now = subst (λ (state : DiskState). ArePages count (seen_of state)) (sym now) (whole-state count slots)

pub reads_crash_of : (count : ℕ) (slots : List (Option (Box PageSlot Global))) (past : List DiskState) → last_of past ≡ state_in count slots → IsCrashImage (last_of past) (seen_of (last_of past))
reads_crash_of count slots past now = subst (λ (state : DiskState). IsCrashImage state (seen_of state)) (sym now) (crash-state count slots)
