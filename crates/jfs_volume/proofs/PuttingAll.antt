-- Blocks of files that are written, as changes of a half.
use Rattle.std.proofs.Common.{◌≡◌, ◌<◌, ◌≤◌, ◌==◌, ◌||◌, ◌++◌, ◌∷◌, [], ℕ, Bool, true, false, List, length, set, None, refl, sym, ap, ◌∙◌, inl, inr, subst, arith}
use Rattle.std.proofs.lemmas.Bool.{eq-eqb, or_right}
use Rattle.std.proofs.lemmas.List.{length-set}
use Rattle.jfs_disk.specs.Image.{Image, page_of}
use Rattle.jfs_disk.specs.Crash.{DiskState, last_of, seen_of, TearsPage, LeavesTorn}
use Rattle.jfs_disk.specs.declared.disk.Fault.{Fault}
use Rattle.jfs_marks.specs.data_steps.specs.After.{is_put, LieWithin}
use Rattle.jfs_marks.specs.data_steps.specs.declared.pages.DataPage.{DataPage}
use Rattle.jfs_halves.specs.crash_core.specs.Step.{halted_by}
use Rattle.jfs_halves.specs.Half.{VolumeHalf}
use Rattle.jfs_halves.specs.Parts.{Parts, StandsFor, Asked}
use Rattle.jfs_halves.specs.Change.{WriteTears, Stops, after as after_list}
use Rattle.jfs_halves.specs.Moves.{Moves}
use Rattle.jfs_halves.proofs.Joined.{join}
use Rattle.jfs_volume.specs.Append.{IsWritable}
use Rattle.jfs_volume.specs.Data.{Store, AreClean, put_pages, states_written, ArePut, AreTorn}
use Rattle.jfs_volume.specs.Written.{writes, StopsAt, StopsWriting, stops, tears}
use Rattle.jfs_volume.proofs.Writing.{IsOpen, write_fails, FailsToWrite}
use Rattle.jfs_volume.proofs.Putting.{puts_moves}

length-put : (contents : List DataPage) (image : Image) → length (put_pages contents image) ≡ length image
length-put [] image = refl
length-put (d ∷ ds) image = length-put ds (set image d.block d.page.0) ∙ length-set image d.block d.page.0

is_put-front : (front more : List DataPage) (b : ℕ) → is_put b front ≡ true → is_put b (front ++ more) ≡ true
is_put-front [] more b e = absurd (cc)
is_put-front (d ∷ front) more b e = at (d.block == b) e (is_put-front front more b)
  where
    at : (x : Bool) → (x || is_put b front) ≡ true → (is_put b front ≡ true → is_put b (front ++ more) ≡ true) → (x || is_put b (front ++ more)) ≡ true
    at true e rest = refl
    at false e rest = rest e

is_put-at : (front more : List DataPage) (d : DataPage) → is_put d.block (front ++ d ∷ more) ≡ true
is_put-at [] more d = ap (λ (b : Bool). b || is_put d.block more) (eq-eqb d.block d.block refl)
is_put-at (x ∷ front) more d = or_right (x.block == d.block) (is_put d.block (front ++ d ∷ more)) (is_put-at front more d)

lie-front : (blocks : ℕ) (front more : List DataPage) → LieWithin blocks (front ++ more) → LieWithin blocks front
lie-front blocks [] more lie = tt
lie-front blocks (d ∷ front) more lie = (lie.0, lie-front blocks front more lie.1)

lie-at : (blocks : ℕ) (front more : List DataPage) (d : DataPage) → LieWithin blocks (front ++ d ∷ more) → d.block < blocks
lie-at blocks [] more d lie = lie.0
lie-at blocks (x ∷ front) more d lie = lie-at blocks front more d lie.1

-- what a cache has, and the parts, where that is told
pub record IsStoreOf (seen asked : Bool) (store : Store) (p : Parts) : Type 0 where
  pub view : seen ≡ true → store.view ≡ p.view
  pub disk : seen ≡ true → store.disk ≡ p.disk
  pub past : seen ≡ true → asked ≡ true → store.past ≡ p.past

clean_of : (contents : List DataPage) (p : Parts) → IsWritable contents p → AreClean contents p.dirty
clean_of contents p may b put = (may b put).0

pub data_moves : {tells crashes : Type 0} (seen asked : Bool) → Asked seen tells → Asked asked crashes → (contents : List DataPage) (before after : Store) (p q : Parts) (half : VolumeHalf) → StandsFor seen asked p half → p.halted ≡ None →
    LieWithin p.blocks contents → IsWritable contents p → (seen ≡ true → p.blocks ≤ length p.disk) → q ≡ record p { view = q.view; disk = q.disk; past = q.past; faults = q.faults } →
    IsStoreOf seen asked before p → IsStoreOf seen asked after q → ArePut tells crashes contents p.dirty before after → Moves seen asked p q half (writes contents)
data_moves seen asked told crashes contents before after p q half s runs lie may whole parts first last put =
    puts_moves seen asked contents p q half s runs lie may whole parts
    (λ t. sym (last.view t) ∙ put.view (told t) (clean_of contents p may) ∙ ap (put_pages contents) (first.view t))
    (λ t. sym (last.disk t) ∙ put.disk (told t) ∙ ap (put_pages contents) (first.disk t))
    (λ t k. sym (last.past t k) ∙ put.past (crashes k) ∙ ap (states_written contents) (first.past t k))

-- the parts with what a cache has
abbrev with_store : Store → Parts → Parts
with_store store p = record p { view = store.view; disk = store.disk; past = store.past }

stops_so : (seen asked : Bool) (next : DataPage) (fault : Fault) (p mid q : Parts) (half : VolumeHalf) (front : List DataPage) → Moves seen asked p mid half (writes front) → FailsToWrite seen asked next.block next.page.0 fault mid q (after_list half (writes front)) →
    StopsAt seen asked front next p q half fault
stops_so seen asked next fault p mid q half front m (inl w) =
    record { last = WriteTears next.block next.page.0 w.0 fault; is = tears w.0; moves = join seen asked p mid q half (writes front) (WriteTears next.block next.page.0 w.0 fault ∷ []) m w.1 }
stops_so seen asked next fault p mid q half front m (inr w) =
    record { last = Stops fault; is = stops; moves = join seen asked p mid q half (writes front) (Stops fault ∷ []) m w }

pub data_stops : {tells crashes : Type 0} (seen asked : Bool) → Asked seen tells → Asked asked crashes → (contents : List DataPage) (before after : Store) (p q : Parts) (half : VolumeHalf) (fault : Fault) → StandsFor seen asked p half → p.halted ≡ None →
    LieWithin p.blocks contents → IsWritable contents p → (seen ≡ true → (p.blocks ≤ length p.disk) × (length p.view ≡ p.blocks)) →
    q ≡ record p { view = q.view; disk = q.disk; past = q.past; faults = q.faults; halted = q.halted } → q.halted ≡ halted_by fault p.halted →
    IsStoreOf seen asked before p → (after.view ≡ q.view) × (after.disk ≡ q.disk) × (after.past ≡ q.past) → AreTorn tells crashes contents p.dirty before after → StopsWriting seen asked contents p q half fault
data_stops seen asked told crashes contents before after p q half fault s runs lie may whole parts halts first last t =
    record {
      front = t.front;
      next = t.stopped;
      rest = t.rest;
      split = t.split;
      stops = stops_so seen asked t.stopped fault p mid q half t.front moves
          (write_fails seen asked mid q (after_front) n bytes fault moves.stands (record { may = here; inside = λ k. let w = (whole k).0 in omega (arith, here.there, w, length-put t.front p.disk, ap length (sizes k)); parts = parts }) halts
          (record {
            view = λ k. sym last.0 ∙ t.torn.view (told k) here.clean ∙ ap (λ (image : Image). set t.mid.view n (page_of image n)) last.1;
            shown = λ k. t.torn.shown (told k) here.clean;
            whole = λ k. let w = (whole k).1 in omega (arith, here.there, w, ap length (t.put.view (told k) (clean_of t.front p fronts) ∙ ap (put_pages t.front) (first.view k)), length-put t.front p.view);
            reads = λ k. subst (λ (image : Image). TearsPage n bytes t.mid.disk image) last.1 (t.torn.disk (told k));
            leaves = λ k. subst (λ (past : List DiskState). LeavesTorn n bytes t.mid.past past) last.2 (t.torn.past (crashes k));
            before = λ k. t.torn.before (crashes k);
            now = λ k. sym last.1 ∙ t.torn.now (crashes k) ∙ ap (λ (past : List DiskState). seen_of (last_of past)) last.2;
          }));
    }
  where
    n : ℕ
    n = t.stopped.block

    bytes : List ℕ
    bytes = t.stopped.page.0

    mid : Parts
    mid = with_store t.mid p

    opened : IsWritable (t.front ++ t.stopped ∷ t.rest) p
    opened = subst (λ (ds : List DataPage). IsWritable ds p) t.split may

    fronts : IsWritable t.front p
    fronts b put = opened b (is_put-front t.front (t.stopped ∷ t.rest) b put)

    lies : LieWithin p.blocks (t.front ++ t.stopped ∷ t.rest)
    lies = subst (LieWithin p.blocks) t.split lie

    sizes : seen ≡ true → t.mid.disk ≡ put_pages t.front p.disk
    sizes k = t.put.disk (told k) ∙ ap (put_pages t.front) (first.disk k)

    moves : Moves seen asked p mid half (writes t.front)
    moves = data_moves seen asked told crashes t.front before t.mid p mid half s runs (lie-front p.blocks t.front (t.stopped ∷ t.rest) lies) fronts (λ k. (whole k).0) refl first
        (record { view = λ k. refl; disk = λ k. refl; past = λ k l. refl }) t.put

    after_front : VolumeHalf
    after_front = after_list half (writes t.front)

    here : IsOpen n mid
    here = let w = opened n (is_put-at t.front t.rest t.stopped) in record { there = lie-at p.blocks t.front t.rest t.stopped lies; clean = w.0; not_busy = w.1; runs = runs }
