-- The volume after a transaction.
use Rattle.std.proofs.Common.{◌≡◌, ◌<◌, ◌≤◌, refl, sym, ap, ◌∙◌, subst, ℕ, ◌+◌, Bool, true, false, true≢false, not, ◌&&◌, ◌||◌, nat_le, nat_lt, if◌then◌else◌, List, [], ◌∷◌, ◌++◌, set, is_some, Option, Some, arith, zero, suc, length, take, drop, ◌-◌, ◌*◌, ◌==◌, eqb-true}
use Rattle.jfs_bits.specs.declared.descriptor.Pxd.{Pxd}
use Rattle.jfs_bits.specs.Line.{line_size}
use Rattle.jfs_bits.specs.declared.rule.PageKind.{PageKind}
use Rattle.jfs_bits.specs.declared.rule.PageKind.TheVariants as kinds
use Rattle.jfs_ranges.specs.declared.edit.Edit.{Edit}
use Rattle.jfs_ranges.specs.declared.edit.Edit.TheVariants.{Lines, NoRedo, Alloc, Free}
use Rattle.jfs_ranges.proofs.OnTop.{put_onto}
use Rattle.jfs_ranges.specs.Laid.{put_tx}
use Rattle.jfs_way.specs.page_tree.specs.Tell.{IsRuns, lines_from}
use Rattle.jfs_way.specs.objects.specs.Volume.{Volume, home}
use Rattle.jfs_way.specs.objects.specs.Objects.{Object, objects, object_in}
use Rattle.jfs_way.specs.objects.specs.Owners.{bit, run_has}
use Rattle.jfs_way.specs.meaning.specs.Readers.{readers}
use Rattle.jfs_steps.specs.After.{is_extent, place_in, four_from, with_run, without_run, used_after, extents_after, after_edits, after_call, takes, frees}
use Rattle.jfs_way.specs.plain.specs.Tree.{Tree}
use Rattle.jfs_steps.specs.Put.{TellsLines}
use Rattle.jfs_way.specs.plain.specs.Step.{Outcome}
use Rattle.jfs_steps.specs.Call.{IsDone}
use Rattle.jfs_steps.specs.Laws.{AppendLaw, CountLaw, LeavesSets, LinesLaw, AfterLaw}

pub same_volume : (v w : Volume) → v.page ≡ w.page → v.extents ≡ w.extents → v.area ≡ w.area → v.used ≡ w.used → v.in_use ≡ w.in_use → v ≡ w
same_volume v w page extents area used in_use = λ i. record { page = page i; extents = extents i; area = area i; used = used i; in_use = in_use i }

-- ---- one transaction on top of another

pub used_onto : (tx more : List Edit) (used : ℕ → Bool) → used_after (tx ++ more) used ≡ used_after more (used_after tx used)
used_onto [] more used = refl
used_onto (Lines page kind first bytes ∷ tx) more used = used_onto tx more (if is_extent kind first bytes then with_run (four_from page) used else used)
used_onto (NoRedo page ∷ tx) more used = used_onto tx more used
used_onto (Alloc run ∷ tx) more used = used_onto tx more (with_run run used)
used_onto (Free run ∷ tx) more used = used_onto tx more (without_run run used)

pub extents_onto : (tx more : List Edit) (extents : List (Option ℕ)) → extents_after (tx ++ more) extents ≡ extents_after more (extents_after tx extents)
extents_onto [] more extents = refl
extents_onto (Lines page kind first bytes ∷ tx) more extents = extents_onto tx more (if is_extent kind first bytes then set extents (place_in bytes) (Some page) else extents)
extents_onto (NoRedo page ∷ tx) more extents = extents_onto tx more extents
extents_onto (Alloc run ∷ tx) more extents = extents_onto tx more extents
extents_onto (Free run ∷ tx) more extents = extents_onto tx more extents

-- the objects are those of the pages and the inode extents
pub same_objects : (blocks : ℕ) (v w : Volume) → v.page ≡ w.page → v.extents ≡ w.extents → (n : ℕ) → objects (readers blocks) v n ≡ objects (readers blocks) w n
unfolding objects
same_objects blocks v w page extents n = λ i. object_in (readers blocks) (page i) n (home (extents i) n)

pub appended : AppendLaw
appended blocks tx more v = same_volume (after_call blocks (tx ++ more) v) (after_call blocks more (after_call blocks tx v))
    (put_onto blocks tx more v.page) (extents_onto tx more v.extents) refl (used_onto tx more v.used)
    (λ i n. is_some (same_objects blocks (after_edits blocks (tx ++ more) v) (after_edits blocks more (after_call blocks tx v)) (put_onto blocks tx more v.page) (extents_onto tx more v.extents) n i))

-- ---- counts

taken_one : (run : Pxd) (used : ℕ → Bool) (b : ℕ) → (0 < run_has run b → used b ≡ false) → bit (with_run run used b) ≡ bit (used b) + run_has run b
taken_one run used b fresh = by (nat_le run.addr b && nat_lt b (run.addr + run.len)) (used b) fresh
  where
    by : (x y : Bool) → (0 < (if x then 1 else 0) → y ≡ false) → bit (x || y) ≡ bit y + (if x then 1 else 0)
    by true true h = absurd (true≢false (h (omega arith)))
    by true false h = refl
    by false true h = refl
    by false false h = refl

freed_one : (run : Pxd) (used : ℕ → Bool) (b : ℕ) → (0 < run_has run b → used b ≡ true) → bit (without_run run used b) + run_has run b ≡ bit (used b)
freed_one run used b owned = by (nat_le run.addr b && nat_lt b (run.addr + run.len)) (used b) owned
  where
    by : (x y : Bool) → (0 < (if x then 1 else 0) → y ≡ true) → bit (not x && y) + (if x then 1 else 0) ≡ bit y
    by true true h = refl
    by true false h = absurd (true≢false (sym (h (omega arith))))
    by false true h = refl
    by false false h = refl

bit_zero : (x : Bool) → bit x ≡ 0 → x ≡ false
bit_zero true h = absurd (omega (arith, h))
bit_zero false h = refl

bit_some : (x : Bool) → 0 < bit x → x ≡ true
bit_some true h = refl
bit_some false h = absurd (omega (arith, h))

pub same_bits : (x y : Bool) → bit x ≡ bit y → x ≡ y
same_bits true true h = refl
same_bits true false h = absurd (omega (arith, h))
same_bits false true h = absurd (omega (arith, h))
same_bits false false h = refl

-- what is said of block b of the edits that follow: how often they take it and free it
abbrev Counts : ℕ → ((ℕ → Bool) → Bool) → ℕ → ℕ → Type 0
Counts b now t f = (used : ℕ → Bool) → (0 < t → used b ≡ false) → (0 < f → used b ≡ true) → t + f ≤ 1 → bit (now used) + f ≡ bit (used b) + t

taken_then : (b : ℕ) (now : (ℕ → Bool) → Bool) (t f : ℕ) (run : Pxd) → Counts b now t f → Counts b (λ used. now (with_run run used)) (run_has run b + t) f
taken_then b now t f run rest used fresh owned once =
    let here = taken_one run used b (λ h. fresh (omega (arith, h))) in
    let later = rest (with_run run used)
    (λ h. bit_zero (with_run run used b) (let e = ap bit (fresh (omega (arith, h))) in omega (arith, here, e, once, h)))
    (λ h. bit_some (with_run run used b) (let e = ap bit (owned h) in omega (arith, here, e)))
    (omega (arith, once)) in
    omega (arith, here, later)

freed_then : (b : ℕ) (now : (ℕ → Bool) → Bool) (t f : ℕ) (run : Pxd) → Counts b now t f → Counts b (λ used. now (without_run run used)) t (run_has run b + f)
freed_then b now t f run rest used fresh owned once =
    let here = freed_one run used b (λ h. owned (omega (arith, h))) in
    let later = rest (without_run run used)
    (λ h. bit_zero (without_run run used b) (let e = ap bit (fresh h) in omega (arith, here, e)))
    (λ h. bit_some (without_run run used b) (let e = ap bit (owned (omega (arith, h))) in omega (arith, here, e, once, h)))
    (omega (arith, once)) in
    omega (arith, here, later)

count_at : (b : ℕ) (tx : List Edit) → Counts b (λ used. used_after tx used b) (takes tx b) (frees tx b)
count_at b [] used fresh owned once = refl
count_at b (Lines page kind first bytes ∷ tx) used fresh owned once = by (is_extent kind first bytes) (count_at b tx) used fresh owned once
  where
    by : (x : Bool) → Counts b (λ used. used_after tx used b) (takes tx b) (frees tx b)
        → Counts b (λ used. used_after tx (if x then with_run (four_from page) used else used) b) ((if x then run_has (four_from page) b else 0) + takes tx b) (frees tx b)
    by true rest = taken_then b (λ used. used_after tx used b) (takes tx b) (frees tx b) (four_from page) rest
    by false rest = λ used fresh owned once. (let e = rest used (λ h. fresh (omega (arith, h))) owned (omega (arith, once)) in omega (arith, e))
count_at b (NoRedo page ∷ tx) used fresh owned once = count_at b tx used fresh owned once
count_at b (Alloc run ∷ tx) used fresh owned once = taken_then b (λ used. used_after tx used b) (takes tx b) (frees tx b) run (count_at b tx) used fresh owned once
count_at b (Free run ∷ tx) used fresh owned once = freed_then b (λ used. used_after tx used b) (takes tx b) (frees tx b) run (count_at b tx) used fresh owned once

pub counts : CountLaw
counts tx used fair b = count_at b tx used (fair.fresh b) (fair.owned b) (fair.once b)

-- ---- lines alone

pub lines_alone : LinesLaw
lines_alone [] h = record { used = λ used. refl; extents = λ extents. refl; takes_none = λ b. refl; frees_none = λ b. refl }
lines_alone (Lines page kind first bytes ∷ tx) h = let rest = lines_alone tx h.1 in record {
  used = λ used. ap (λ (x : Bool). used_after tx (if x then with_run (four_from page) used else used)) h.0 ∙ rest.used used;
  extents = λ extents. ap (λ (x : Bool). extents_after tx (if x then set extents (place_in bytes) (Some page) else extents)) h.0 ∙ rest.extents extents;
  takes_none = λ b. (let e = ap (λ (x : Bool). if x then run_has (four_from page) b else 0) h.0 in let z = rest.takes_none b in omega (arith, e, z));
  frees_none = rest.frees_none;
}
lines_alone (NoRedo page ∷ tx) h = let rest = lines_alone tx h in record { used = rest.used; extents = rest.extents; takes_none = rest.takes_none; frees_none = rest.frees_none }
lines_alone (Alloc run ∷ tx) h = absurd h
lines_alone (Free run ∷ tx) h = absurd h

pub leaves_onto : (tx more : List Edit) → LeavesSets tx → LeavesSets more → LeavesSets (tx ++ more)
leaves_onto [] more h g = g
leaves_onto (Lines page kind first bytes ∷ tx) more h g = (h.0, leaves_onto tx more h.1 g)
leaves_onto (NoRedo page ∷ tx) more h g = leaves_onto tx more h g
leaves_onto (Alloc run ∷ tx) more h g = absurd h
leaves_onto (Free run ∷ tx) more h g = absurd h

-- runs of lines of one page are no new inode extent: they are too short
abbrev IsNever : PageKind → Type 0
IsNever kind = (first : ℕ) (bytes : List ℕ) → length bytes ≤ 4096 → is_extent kind first bytes ≡ false

never : (kind : PageKind) → IsNever kind
never kinds.Inode first bytes few = by (first == 0) (length bytes == 16384) (λ e. eqb-true (length bytes) 16384 e)
  where
    by : (x y : Bool) → (y ≡ true → length bytes ≡ 16384) → (x && y) ≡ false
    by false y h = refl
    by true false h = refl
    by true true h = absurd (let e = h refl in omega (arith, few, e))
never kinds.Xtree first bytes few = refl
never kinds.Dtree first bytes few = refl
never kinds.Index first bytes few = refl

take_short : (n : ℕ) (xs : List ℕ) → length (take n xs) ≤ n
take_short zero xs = omega arith
take_short (suc n) [] = omega arith
take_short (suc n) (x ∷ xs) = omega (arith, take_short n xs)

short_lines : (size first end : ℕ) (page : List ℕ) → size * end ≤ 4096 → length (lines_from size first end page) ≤ 4096
short_lines size first end page l = let t = take_short (size * end - size * first) (drop (size * first) page) in omega (arith, l, t)

pub runs_leave : (n : ℕ) (kind : PageKind) (old new : List ℕ) (first : ℕ) (edits : List Edit) → IsRuns n kind old new first edits → LeavesSets edits
runs_leave n kind old new first [] h = tt
runs_leave n kind old new first (Lines page own at bytes ∷ edits) h =
    (never own at bytes (subst (λ (x : List ℕ). length x ≤ 4096) (sym h.4.3) (short_lines (line_size kind) at h.4.0 new h.4.2)), runs_leave n kind old new h.4.0 edits h.4.6)
runs_leave n kind old new first (NoRedo page ∷ edits) h = absurd h
runs_leave n kind old new first (Alloc run ∷ edits) h = absurd h
runs_leave n kind old new first (Free run ∷ edits) h = absurd h

pub lines_leave : (blocks : ℕ) (pages : ℕ → List ℕ) (page : ℕ) (tx later : List Edit) → LeavesSets tx → TellsLines blocks pages page tx later → LeavesSets later
lines_leave blocks pages page tx later leaves tells = subst LeavesSets (sym tells.1) (leaves_onto tx tells.0 leaves (runs_leave page kinds.Inode (put_tx blocks tx pages page) (put_tx blocks later pages page) 0 tells.0 tells.2))

-- ---- the volume after

pub after_is : AfterLaw
after_is blocks tx v w h = same_volume w (after_call blocks tx v) h.page h.extents h.area (λ i b. h.used b i)
    (λ i n. (h.in_use n ∙ ap (λ (o : Option Object). is_some o) (same_objects blocks w (after_edits blocks tx v) h.page h.extents n)) i)

-- a call that is done is so on the volume after its transaction
pub done_after : (blocks : ℕ) (tx : List Edit) (v w : Volume) (plain : Tree → Outcome) → w.page ≡ put_tx blocks tx v.page → w.extents ≡ extents_after tx v.extents → w.area ≡ v.area
    → ((b : ℕ) → w.used b ≡ used_after tx v.used b) → IsDone blocks v w plain → IsDone blocks v (after_call blocks tx v) plain
done_after blocks tx v w plain page extents area used done = subst (λ (x : Volume). IsDone blocks v x plain)
    (after_is blocks tx v w (record { page = page; extents = extents; area = area; used = used; in_use = done.consistent.sound.agrees.inodes })) done
