-- Blocks that are written past the log.
use Rattle.std.proofs.Common.{◌≡◌, ◌<◌, ◌≤◌, ◌⊎◌, ◌==◌, ◌++◌, ◌∷◌, [], ℕ, Bool, true, false, List, length, set, get_or, Option, None, refl, sym, ap, ◌∙◌, inl, inr, arith}
use Rattle.std.proofs.lemmas.Bool.{cases_eq, eqb-true}
use Rattle.std.proofs.lemmas.List.{append-nil, length-set, map-set, get_or-set_same, get_or-set_other, ext_get_or}
use Rattle.jfs_disk.specs.Image.{Image, page_of}
use Rattle.jfs_disk.specs.Crash.{DiskState, PageHistory, last_of, seen_of, torn, written, failed, page_written, page_failed, TearsPage, LeavesTorn}
use Rattle.jfs_disk.specs.declared.disk.Fault.{Fault}
use Rattle.jfs_disk.specs.Seen.{seen_of-failed}
use Rattle.jfs_disk.proofs.Outcomes.{last_of-push}
use Rattle.jfs_bmap.specs.States.{BlockState, state_of, is_busy_state}
use Rattle.jfs_pages.specs.declared.dirty.Dirty.{Dirty}
use Rattle.jfs_pages.specs.Dirty.{dirty_of}
use Rattle.jfs_halves.specs.crash_core.specs.declared.block.Span.{Span}
use Rattle.jfs_halves.specs.crash_core.specs.Core.{Block, no_block}
use Rattle.jfs_halves.specs.crash_core.specs.Step.{halted_by, sent_home, failed_home}
use Rattle.jfs_halves.specs.Half.{VolumeHalf, block_in, low_in, data_written, data_torn}
use Rattle.jfs_halves.specs.Parts.{Parts, StandsFor, span_of}
use Rattle.jfs_halves.specs.Change.{Writes, WriteTears, Stops, MayWrite}
use Rattle.jfs_halves.specs.Moves.{Moves}
use Rattle.jfs_volume.proofs.Stand.{one, block-set, span-same, history_of-low}
use Rattle.jfs_volume.proofs.Homing.{seen-set}

abbrev dirty_part : Block → Option Span
dirty_part block = block.dirty

abbrev pages_in : Block → PageHistory
pages_in block = block.pages

low-written : (half : VolumeHalf) (n : ℕ) (bytes : List ℕ) → low_in (data_written n bytes half) ≡ written n bytes (low_in half)
unfolding written
low-written half n bytes =
    let e = history_of-low half n in
    map-set pages_in half.blocks n (sent_home bytes (block_in half n)) ∙ ap (λ (history : PageHistory). set (low_in half) n (page_written bytes history)) (sym e)

low-failed : (half : VolumeHalf) (n : ℕ) (bytes : List ℕ) (sectors : ℕ) (fault : Fault) → low_in (data_torn n bytes sectors fault half) ≡ failed n bytes sectors (low_in half)
unfolding failed
low-failed half n bytes sectors fault =
    let e = history_of-low half n in
    map-set pages_in half.blocks n (failed_home bytes sectors (block_in half n)) ∙ ap (λ (history : PageHistory). set (low_in half) n (page_failed bytes sectors history)) (sym e)

-- Block n can be written: it is there, isn't busy, no entry holds changes of it, and nothing has halted.
pub record IsOpen (n : ℕ) (p : Parts) : Type 0 where
  pub there : n < p.blocks
  pub clean : dirty_of p.dirty n ≡ None
  pub not_busy : is_busy_state (state_of p.map n) ≡ false
  pub runs : p.halted ≡ None

may_write : (seen asked : Bool) (p : Parts) (half : VolumeHalf) (n : ℕ) → StandsFor seen asked p half → IsOpen n p → MayWrite half n
may_write seen asked p half n s may = record {
  there = omega (arith, may.there, s.number);
  not_busy = ap (λ (states : List BlockState). is_busy_state (state_of (record p.map { states = states }) n)) (sym s.block_map.states) ∙ may.not_busy;
  clean = sym (s.dirty n) ∙ ap span_of may.clean;
  runs = sym s.halted ∙ may.runs;
}

-- the parts after a write, or one that failed
pub record IsSentData (seen : Bool) (n : ℕ) (p q : Parts) : Type 0 where
  pub may : IsOpen n p
  pub inside : seen ≡ true → n < length p.disk
  pub parts : q ≡ record p { view = q.view; disk = q.disk; past = q.past; faults = q.faults; halted = q.halted }

-- the block is as dirty as it was
dirty-stays : (half : VolumeHalf) (n m : ℕ) (block : Block) (d : List Dirty) → n < length half.blocks → block.dirty ≡ (block_in half n).dirty → span_of (dirty_of d m) ≡ (block_in half m).dirty →
    span_of (dirty_of d m) ≡ (get_or (set half.blocks n block) m no_block).dirty
dirty-stays half n m block d within same e =
    span-same (n == m) (dirty_of d m) block (block_in half m) (λ i. same ∙ at (cases_eq n m) i) e ∙ ap dirty_part (sym (block-set half.blocks n m block within))
  where
    at : (n ≡ m) ⊎ ((n ≡ m) → ⊥) → n == m ≡ true → (block_in half n).dirty ≡ (block_in half m).dirty
    at (inl i) _ = ap (λ (k : ℕ). (block_in half k).dirty) i
    at (inr i) j = absurd (i (eqb-true n m j))

pub write_moves : (seen asked : Bool) (p q : Parts) (half : VolumeHalf) (n : ℕ) (bytes : List ℕ) → StandsFor seen asked p half → IsSentData seen n p q → q.halted ≡ p.halted →
    (seen ≡ true → q.view ≡ set p.view n bytes) → (seen ≡ true → q.disk ≡ set p.disk n bytes) →
    (seen ≡ true → asked ≡ true → q.past ≡ p.past ++ written n bytes (last_of p.past) ∷ []) → Moves seen asked p q half (Writes n bytes ∷ [])
write_moves seen asked p q half n bytes s sent halts view disk wrote =
    let states : seen ≡ true → asked ≡ true → q.past ≡ p.past ++ low_in (data_written n bytes half) ∷ [] = λ t k.
    wrote t k ∙ ap (λ (state : DiskState). p.past ++ state ∷ []) (ap (λ (state : DiskState). written n bytes state) (s.low t k) ∙ sym (low-written half n bytes)) in
    let may = may_write seen asked p half n s sent.may in
    let within : n < length half.blocks = may.there in
    let block = sent_home bytes (block_in half n) in
    one seen asked p q half (Writes n bytes) may
    (record {
      appended = ap (λ (r : Parts). r.appended) sent.parts ∙ s.appended;
      taken = ap (λ (r : Parts). r.taken) sent.parts ∙ s.taken;
      told = ap (λ (r : Parts). r.told) sent.parts ∙ s.told;
      points = ap (λ (r : Parts). r.points) sent.parts ∙ s.points;
      known = ap (λ (r : Parts). r.known) sent.parts ∙ s.known;
      number = length-set half.blocks n block ∙ s.number ∙ sym (ap (λ (r : Parts). r.blocks) sent.parts);
      halted = halts ∙ s.halted;
      dirty = λ m. ap (λ (r : Parts). span_of (dirty_of r.dirty m)) sent.parts ∙ dirty-stays half n m block p.dirty within (sym may.clean) (s.dirty m);
      block_map = rw sent.parts s.block_map;
      inodes = ap (λ (r : Parts). r.inodes) sent.parts ∙ s.inodes;
      handed = s.handed;
      entries = ap (λ (r : Parts). r.entries) sent.parts ∙ s.entries;
      text = rw sent.parts s.text;
      freed = rw sent.parts s.freed;
      view = λ t. view t ∙ ap (λ (image : Image). set image n bytes) (s.view t);
      disk = λ t m h. seen-set p.disk q.disk n bytes half.blocks block within (sent.inside t) (disk t) refl (s.disk t) m (omega (arith, h, length-set half.blocks n block));
      low = λ t k. ap last_of (states t k) ∙ last_of-push p.past (low_in (data_written n bytes half));
    })
    states

-- ---- the write fails

torn_moves : (seen asked : Bool) (p q : Parts) (half : VolumeHalf) (n : ℕ) (bytes : List ℕ) (sectors : ℕ) (fault : Fault) → StandsFor seen asked p half → IsSentData seen n p q → q.halted ≡ halted_by fault p.halted → sectors ≤ 8 →
    (seen ≡ true → q.view ≡ set p.view n (page_of q.disk n)) → (seen ≡ true → q.disk ≡ set p.disk n (torn sectors bytes (page_of p.disk n))) →
    (seen ≡ true → asked ≡ true → q.past ≡ p.past ++ failed n bytes sectors (last_of p.past) ∷ []) → Moves seen asked p q half (WriteTears n bytes sectors fault ∷ [])
torn_moves seen asked p q half n bytes sectors fault s sent halts few view disk wrote =
    let states : seen ≡ true → asked ≡ true → q.past ≡ p.past ++ low_in (data_torn n bytes sectors fault half) ∷ [] = λ t k.
    wrote t k ∙ ap (λ (state : DiskState). p.past ++ state ∷ []) (ap (λ (state : DiskState). failed n bytes sectors state) (s.low t k) ∙ sym (low-failed half n bytes sectors fault)) in
    let may = may_write seen asked p half n s sent.may in
    let within : n < length half.blocks = may.there in
    let block = failed_home bytes sectors (block_in half n) in
    let left : seen ≡ true → q.disk ≡ set p.disk n (torn sectors bytes (block_in half n).pages.seen) = λ t. disk t ∙ ap (λ (old : List ℕ). set p.disk n (torn sectors bytes old)) (s.disk t n within) in
    one seen asked p q half (WriteTears n bytes sectors fault) (few, may)
    (record {
      appended = ap (λ (r : Parts). r.appended) sent.parts ∙ s.appended;
      taken = ap (λ (r : Parts). r.taken) sent.parts ∙ s.taken;
      told = ap (λ (r : Parts). r.told) sent.parts ∙ s.told;
      points = ap (λ (r : Parts). r.points) sent.parts ∙ s.points;
      known = ap (λ (r : Parts). r.known) sent.parts ∙ s.known;
      number = length-set half.blocks n block ∙ s.number ∙ sym (ap (λ (r : Parts). r.blocks) sent.parts);
      halted = halts ∙ ap (halted_by fault) s.halted;
      dirty = λ m. ap (λ (r : Parts). span_of (dirty_of r.dirty m)) sent.parts ∙ dirty-stays half n m block p.dirty within refl (s.dirty m);
      block_map = rw sent.parts s.block_map;
      inodes = ap (λ (r : Parts). r.inodes) sent.parts ∙ s.inodes;
      handed = s.handed;
      entries = ap (λ (r : Parts). r.entries) sent.parts ∙ s.entries;
      text = rw sent.parts s.text;
      freed = rw sent.parts s.freed;
      view = λ t. view t ∙ ap (λ (image : Image). set image n (page_of q.disk n)) (s.view t)
          ∙ ap (λ (page : List ℕ). set half.shown.pages n page) (ap (λ (image : Image). page_of image n) (left t) ∙ get_or-set_same p.disk n (torn sectors bytes (block_in half n).pages.seen) [] (sent.inside t));
      disk = λ t m h. seen-set p.disk q.disk n (torn sectors bytes (block_in half n).pages.seen) half.blocks block within (sent.inside t) (left t) refl (s.disk t) m (omega (arith, h, length-set half.blocks n block));
      low = λ t k. ap last_of (states t k) ∙ last_of-push p.past (low_in (data_torn n bytes sectors fault half));
    })
    states

-- a page is put where it was
set-back : (image : Image) (n : ℕ) (page : List ℕ) → n < length image → page_of image n ≡ page → set image n page ≡ image
set-back image n page h is = ext_get_or [] (set image n page) image (length-set image n page) (λ m k. at m (cases_eq n m))
  where
    at : (m : ℕ) → (n ≡ m) ⊎ ((n ≡ m) → ⊥) → get_or (set image n page) m [] ≡ get_or image m []
    at m (inl e) = rw (sym e) (get_or-set_same image n page [] h ∙ sym is)
    at m (inr d) = get_or-set_other image n m page [] (λ e. d (sym e))

stops_moves : (seen asked : Bool) (p q : Parts) (half : VolumeHalf) (n : ℕ) (fault : Fault) → StandsFor seen asked p half → IsSentData seen n p q → q.halted ≡ halted_by fault p.halted →
    (seen ≡ true → q.view ≡ p.view) → (seen ≡ true → q.disk ≡ p.disk) → (seen ≡ true → asked ≡ true → q.past ≡ p.past) → Moves seen asked p q half (Stops fault ∷ [])
stops_moves seen asked p q half n fault s sent halts view disk same =
    one seen asked p q half (Stops fault) tt
    (record {
      appended = ap (λ (r : Parts). r.appended) sent.parts ∙ s.appended;
      taken = ap (λ (r : Parts). r.taken) sent.parts ∙ s.taken;
      told = ap (λ (r : Parts). r.told) sent.parts ∙ s.told;
      points = ap (λ (r : Parts). r.points) sent.parts ∙ s.points;
      known = ap (λ (r : Parts). r.known) sent.parts ∙ s.known;
      number = s.number ∙ sym (ap (λ (r : Parts). r.blocks) sent.parts);
      halted = halts ∙ ap (halted_by fault) s.halted;
      dirty = λ m. ap (λ (r : Parts). span_of (dirty_of r.dirty m)) sent.parts ∙ s.dirty m;
      block_map = rw sent.parts s.block_map;
      inodes = ap (λ (r : Parts). r.inodes) sent.parts ∙ s.inodes;
      handed = s.handed;
      entries = ap (λ (r : Parts). r.entries) sent.parts ∙ s.entries;
      text = rw sent.parts s.text;
      freed = rw sent.parts s.freed;
      view = λ t. view t ∙ s.view t;
      disk = λ t m h. ap (λ (image : Image). page_of image m) (disk t) ∙ s.disk t m h;
      low = λ t k. ap last_of (same t k) ∙ s.low t k;
    })
    (λ t k. same t k ∙ sym (append-nil p.past))

-- the write of block n failed: it tore, or the disk found no memory to have it pending
abbrev pub FailsToWrite : (seen asked : Bool) → ℕ → List ℕ → Fault → Parts → Parts → VolumeHalf → Type 0
FailsToWrite seen asked n bytes fault p q half = ((sectors : ℕ) × Moves seen asked p q half (WriteTears n bytes sectors fault ∷ [])) ⊎ Moves seen asked p q half (Stops fault ∷ [])

-- what a write that failed left, where that is told
pub record IsLeft (seen asked : Bool) (n : ℕ) (bytes : List ℕ) (p q : Parts) : Type 0 where
  pub view : seen ≡ true → q.view ≡ set p.view n (page_of q.disk n)
  pub shown : seen ≡ true → page_of p.view n ≡ page_of p.disk n
  pub whole : seen ≡ true → n < length p.view
  pub reads : seen ≡ true → TearsPage n bytes p.disk q.disk
  pub leaves : asked ≡ true → LeavesTorn n bytes p.past q.past
  pub before : asked ≡ true → p.disk ≡ seen_of (last_of p.past)
  pub now : asked ≡ true → q.disk ≡ seen_of (last_of q.past)

pub write_fails : (seen asked : Bool) (p q : Parts) (half : VolumeHalf) (n : ℕ) (bytes : List ℕ) (fault : Fault) → StandsFor seen asked p half → IsSentData seen n p q → q.halted ≡ halted_by fault p.halted → IsLeft seen asked n bytes p q →
    FailsToWrite seen asked n bytes fault p q half
write_fails false asked p q half n bytes fault s sent halts left = inr (stops_moves false asked p q half n fault s sent halts (λ t. absurd (cc)) (λ t. absurd (cc)) (λ t k. absurd (cc)))
write_fails true false p q half n bytes fault s sent halts left =
    let w = left.reads refl in
    inl (w.0, torn_moves true false p q half n bytes w.0 fault s sent halts w.1 left.view (λ t. w.2) (λ t k. absurd (cc)))
write_fails true true p q half n bytes fault s sent halts left = at (left.leaves refl)
  where
    at : LeavesTorn n bytes p.past q.past → FailsToWrite true true n bytes fault p q half
    at (inl same) =
        let disk : q.disk ≡ p.disk = left.now refl ∙ ap (λ (past : List DiskState). seen_of (last_of past)) same ∙ sym (left.before refl) in
        inr (stops_moves true true p q half n fault s sent halts
        (λ t. left.view t ∙ ap (λ (image : Image). set p.view n (page_of image n)) disk ∙ set-back p.view n (page_of p.disk n) (left.whole t) (left.shown t)) (λ t. disk) (λ t k. same))
    at (inr w) = inl (
      w.0,
      torn_moves true true p q half n bytes w.0 fault s sent halts w.1 left.view
          (λ t. left.now refl ∙ ap (λ (past : List DiskState). seen_of (last_of past)) w.2 ∙ ap seen_of (last_of-push p.past (failed n bytes w.0 (last_of p.past)))
          ∙ seen_of-failed n bytes w.0 (last_of p.past) ∙ ap (λ (image : Image). set image n (torn w.0 bytes (page_of image n))) (sym (left.before refl)))
          (λ t k. w.2),
    )
