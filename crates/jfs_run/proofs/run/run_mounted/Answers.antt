use Rattle.std.proofs.Common.{◌≡◌, ◌⊎◌, ◌≤◌, ◌∙◌, ◌++◌, ℕ, Bool, List, length, true, false, refl, sym, ap, subst, inl, inr, arith}
use Rattle.std.specs.List.{AllByRecursion}
use Rattle.std.proofs.lemmas.Bool.{false≢true}
use Rattle.std.proofs.lemmas.List.{length-map}
use Rattle.std.specs.Global.{Vec}
use Rattle.jfs_bits.specs.Count.{Rose}
use Rattle.jfs_disk.specs.Crash.{DiskState, IsCrashImage, Leaves, last_of}
use Rattle.jfs_disk.specs.Image.{Image, page_of}
use Rattle.jfs_super.specs.Rules.{blocks_of}
use Rattle.jfs_super.specs.Super.{super_of}
use Rattle.jfs_super.specs.declared.fields.TheConstants.VolumeState.{CLEAN}
use Rattle.jfs_plain.specs.declared.call.Entry.{Entry}
use Rattle.jfs_plain.specs.declared.call.Line.{Line}
use Rattle.jfs_mount.specs.meaning.specs.Image.{IsConsistentImage}
use Rattle.jfs_mount.specs.meaning.specs.Readers.{readers}
use Rattle.jfs_server.specs.declared.stopping.Ending.{Ending}
use Rattle.jfs_server.specs.declared.stopping.Ending.TheVariants.{Home, Left, Full}
use Rattle.jfs_server.specs.shared.specs.kept_history.specs.Keepable.{IsKeepableImage}
use Rattle.jfs_server.specs.shared.specs.kept_history.specs.mounted_maps.specs.Keepable.{IsKeepable}
use Rattle.jfs_server.specs.shared.specs.kept_history.specs.Crash.{IsRedoneToHistory}
use Rattle.jfs_server.specs.shared.specs.legal.proofs.Known.{laws}
use Rattle.jfs_server.specs.shared.specs.legal.specs.served.specs.shown.specs.kinds.specs.Images.{HasWholeFiles}
use Rattle.jfs_server.specs.shared.specs.legal.specs.served.specs.unmount.specs.Unmount.{IsMarkedLeft, MayBeMarked}
use Rattle.jfs_server.specs.shared.specs.legal.specs.served.specs.volume_calls.specs.Together.{log_parts}
use Rattle.jfs_run.specs.Calls.{Calls}
use Rattle.jfs_run.specs.Ending.{IsEnded, RunSince, is_home, is_full, end_after}
use Rattle.jfs_run.specs.Left.{IsLeftWith, IsLeftRun, IsUnmountedBehind, LeavesRun}
use Rattle.jfs_run.specs.Legal.{EndsOnTree}
use Rattle.jfs_run.specs.Mounted.{State, state, PartRose}
use Rattle.jfs_run.specs.Run.{seen}
use Rattle.jfs_run.specs.Serving.{IsHomeFor, IsCalled}
use Rattle.jfs_run.specs.Tasks.{plan_of}
use Rattle.jfs_run.specs.Telling.{marks_of, told_from, marks_in, marks_left}
use Rattle.jfs_run.specs.declared.run.RunEnd.{RunEnd}
use Rattle.jfs_run.specs.declared.run.RunEnd.TheVariants as ends
use Rattle.jfs_run.proofs.Ended.{HasRun, AreThrough, joint, has_run, rising, run_ends, done_through, through_of, home_of, at_last, with_lines, no_part, unrisen}
use Rattle.jfs_run.proofs.Legally.{legal_run, ends_on, keepable_on}
use Rattle.jfs_run.proofs.Told.{told_within}
use Rattle.jfs_run.proofs.run.run_mounted.Given.{Over}
use Rattle.jfs_run.proofs.run.run_mounted.Goals as goal

pub tell-requires-clause-clients : goal.tell-requires-clause-clients
tell-requires-clause-clients g c =
    let many = c.serve-mounted.ensures.served.few.0 in
    let most = c.requires.plan.clients.1 in
    let same = length-map c.args.scripts.now (λ (script : Vec Line). script.items) in
    let slice = ap length c.as_slice-2.ensures.value in
    omega (arith, many, most, same, slice)

pub tell-requires-clause-room : goal.tell-requires-clause-room
tell-requires-clause-room g c =
    let few = c.serve-mounted.ensures.served.few.1 in
    let room = c.requires.capacity.0 in
    let none = ap length c.requires.none in
    let len = c.args.taken.told.ok.0 in
    let slice = ap (λ ms. marks_left (marks_in ms)) c.as_slice-2.ensures.value in
    omega (arith, few, room, none, len, slice)

-- ---- the run

abbrev first : (g : Over) → goal.After-drop-marks g → State
first g c = state g.D.Disk c.args.m.volume c.args.m.log

abbrev last : (g : Over) → goal.After-drop-marks g → State
last g c = state g.D.Disk c.serve-mounted.result.mounted.volume c.serve-mounted.result.mounted.log

told_is : (g : Over) (c : goal.After-drop-marks g) → c.tell.new.told.items ≡ told_from 1 c.serve-mounted.result.mounted.log.durable (marks_of (marks_in c.serve-mounted.new.marks.items) c.serve-mounted.result.history.items)
told_is g c =
    let x = c.serve-mounted.result in
    let marks = c.serve-mounted.new.marks.items in
    c.tell.ensures ∙ ap (λ (ns : List ℕ). ns ++ told_from 1 c.durable.result (marks_of (marks_in c.as_slice-2.result.now) c.as_slice.result.now)) c.requires.none
    ∙ subst {A = ℕ × List (Vec Bool) × List Entry} (λ z. told_from 1 z.0 (marks_of (marks_in z.1) z.2) ≡ told_from 1 x.mounted.log.durable (marks_of (marks_in marks) x.history.items)) (λ i. (sym c.durable.ensures i, sym c.as_slice-2.ensures.value i, sym c.as_slice.ensures.value i)) refl

run_of : (g : Over) (c : goal.After-drop-marks g) → HasRun (plan_of c.args.scripts.now) (first g c) c.serve-mounted.result.history.items c.tell.new.told.items c.serve-mounted.result.is_whole (last g c)
run_of g c =
    has_run g.D.Disk c.args.scripts.now c.args.now g.I.MountedFrom.image g.I.MountedFrom.block (first g c) c.serve-mounted.new.marks.items c.serve-mounted.result c.tell.new.told.items (told_is g c) c.args.is_left c.serve-mounted.ensures.served

-- the run is through where each line has its entry, and the history goes on
through : (g : Over) (c : goal.After-drop-marks g) → c.are_through-is_through.result ≡ true → AreThrough c.serve-mounted.result.is_whole c.serve-mounted.result.is_broken_off
through g c e = through_of c.serve-mounted.result.is_whole c.serve-mounted.result.is_broken_off (sym c.are_through-is_through.ensures ∙ e)

run : (g : Over) (c : goal.After-drop-marks g) → HasRun (plan_of c.args.scripts.now) (first g c) c.serve-mounted.result.history.items c.tell.new.told.items c.are_through-is_through.result (last g c)
run g c = with_lines (plan_of c.args.scripts.now) (first g c) (last g c) c.serve-mounted.result.history.items c.tell.new.told.items c.serve-mounted.result.is_whole c.are_through-is_through.result (λ e. (through g c e).whole) (run_of g c)

end_is : (g : Over) (c : goal.After-drop-marks g) → c.end_after-end.result ≡ end_after c.are_through-is_through.result c.is_full.result c.args.before (g.D.Disk.fault_count c.end-disk.result)
end_is g c = c.end_after-end.ensures ∙ ap (λ (n : ℕ). end_after c.are_through-is_through.result c.is_full.result c.args.before n) c.faults.ensures

-- ---- where all pages are home

at_home : (g : Over) (c : goal.After-drop-marks g) → c.is_home.result ≡ true → IsHomeFor c.args.is_left c.serve-mounted.result.mounted.volume
at_home g c e = c.serve-mounted.ensures.served.home (home_of c.serve-mounted.result.ending (sym c.is_home.ensures ∙ e))

pub end-disk-requires-clause-home : goal.end-disk-requires-clause-home
end-disk-requires-clause-home g c e = (c.serve-mounted.ensures.served.home (home_of c.serve-mounted.result.ending (sym c.is_home.ensures ∙ e))).home

-- it is so where the volume isn't to be left and the log isn't full, or a count rose
comes_home : (g : Over) (c : goal.After-drop-marks g) → c.args.is_left ≡ false → c.is_full.result ≡ false → PartRose (first g c) (last g c) ⊎ (c.is_home.result ≡ true)
comes_home g c left room = by c.serve-mounted.result.ending refl
  where
    by : (e : Ending) → c.serve-mounted.result.ending ≡ e → PartRose (first g c) (last g c) ⊎ (c.is_home.result ≡ true)
    by Home is = inr (c.is_home.ensures ∙ ap is_home is)
    by Full is = absurd (false≢true (sym room ∙ c.is_full.ensures ∙ ap is_full is))
    by Left is = sides (c.serve-mounted.ensures.served.left_for is)
      where
        sides : (c.args.is_left ≡ true) ⊎ PartRose (first g c) (last g c) → PartRose (first g c) (last g c) ⊎ (c.is_home.result ≡ true)
        sides (inl asked) = absurd (false≢true (sym left ∙ asked))
        sides (inr rose) = inl rose

pub returns-clause-ran : goal.returns-clause-ran
returns-clause-ran g c =
    let d = g.D.Disk in
    let x = c.serve-mounted.result in
    rw (c.end_after-end.ensures, c.faults.ensures)
    (run_ends d.tells d.tells_crashes c.args.taken.superblock.0 (plan_of c.args.scripts.now) c.args.is_left c.is_full.result (first g c) (last g c) c.args.before c.requires.before c.ranges.before.fits
    x.history.items c.tell.new.told.items c.are_through-is_through.result (run g c) (seen d c.end-disk.result) c.end-disk.ensures.faults
    (λ left room. ended_by (comes_home g c left room)))
  where
    ended_by : PartRose (first g c) (last g c) ⊎ (c.is_home.result ≡ true) → PartRose (first g c) (last g c) ⊎ (Rose (joint (last g c)) (g.D.Disk.fault_count c.end-disk.result) ⊎ IsEnded g.D.Disk.tells g.D.Disk.tells_crashes c.args.taken.superblock.0 (joint (last g c)) (seen g.D.Disk c.end-disk.result))
    ended_by (inl rose) = inl rose
    ended_by (inr home) = inr (c.end-disk.ensures.ended home)

pub returns-clause-legal : goal.returns-clause-legal
returns-clause-legal g c = λ t consistent.
    let x = c.serve-mounted.result in
    legal_run g.I.MountedFrom.block (page_of g.I.MountedFrom.image) c.args.now x.history.items x.mounted.volume (c.serve-mounted.ensures.served.calls.replied t consistent)

-- what the server says of its calls
abbrev Called : (g : Over) → goal.After-drop-marks g → Type 0
Called g c = IsCalled g.D.Disk c.args.scripts.now c.args.now g.I.MountedFrom.image g.I.MountedFrom.block (first g c) c.serve-mounted.new.marks.items c.serve-mounted.result

-- an image with the superblock's page of a clean volume and the pages that the volume shows
on_tree : (g : Over) (c : goal.After-drop-marks g) → Called g c → g.D.Disk.tells → IsConsistentImage g.I.MountedFrom.block (page_of g.I.MountedFrom.image) → HasWholeFiles (readers (blocks_of g.I.MountedFrom.block)) (page_of g.I.MountedFrom.image)
    → super_of c.args.taken.superblock.0 ≡ record g.I.MountedFrom.block { state = CLEAN } → c.is_home.result ≡ true → (left : Image) → IsMarkedLeft c.args.taken.superblock.0 c.serve-mounted.result.mounted.volume left
    → EndsOnTree g.I.MountedFrom.block (page_of g.I.MountedFrom.image) c.args.now c.serve-mounted.result.history.items left
on_tree g c k t consistent whole_trees is home left marked =
    let x = c.serve-mounted.result in
    let s = g.I.MountedFrom.block in
    let image = g.I.MountedFrom.image in
    let at = at_home g c home in
    ends_on s (page_of image) c.args.now x.history.items x.mounted.volume (k.replied t consistent) laws c.args.taken.superblock.0 left whole_trees is at.home at.runs marked

keepable_again : (g : Over) (c : goal.After-drop-marks g) → Called g c → g.D.Disk.tells → g.D.Disk.tells_crashes → IsKeepableImage g.I.MountedFrom.block g.I.MountedFrom.image → super_of c.args.taken.superblock.0 ≡ record g.I.MountedFrom.block { state = CLEAN }
    → c.is_home.result ≡ true → (left : Image) → IsMarkedLeft c.args.taken.superblock.0 c.serve-mounted.result.mounted.volume left → IsKeepable g.I.MountedFrom.block (page_of left)
keepable_again g c k t crashes checked is home left marked =
    let x = c.serve-mounted.result in
    let s = g.I.MountedFrom.block in
    let image = g.I.MountedFrom.image in
    let at = at_home g c home in
    keepable_on s (page_of image) c.args.now x.history.items x.mounted.volume (k.replied t (checked.keepable.consistent)) laws c.args.taken.superblock.0 left (checked.keepable.files) is at.home at.runs marked (k.again t crashes checked)

-- the disk itself, where the run is done and the volume wasn't to be left
marked_now : (g : Over) (c : goal.After-drop-marks g) → g.D.Disk.tells → c.end_after-end.result ≡ ends.Done → c.args.is_left ≡ false → (c.is_home.result ≡ true) × IsMarkedLeft c.args.taken.superblock.0 c.serve-mounted.result.mounted.volume (g.D.Disk.image c.end-disk.result)
marked_now g c t done left =
    let d = g.D.Disk in
    let history = c.serve-mounted.result.history.items in
    let told = c.tell.new.told.items in
    let is_through = c.are_through-is_through.result in
    let total : ℕ = d.fault_count c.end-disk.result in
    let plan = plan_of c.args.scripts.now in
    let passed = done_through is_through c.is_full.result c.args.before total (sym (end_is g c) ∙ done) in
    let no_more = no_part (first g c) (last g c) c.args.before c.requires.before c.ranges.before.fits plan history told is_through (run g c) total c.end-disk.ensures.faults passed.same passed.below in
    let home = at_last (c.is_home.result ≡ true) no_more (comes_home g c left passed.room) in
    (home, unrisen (first g c) (last g c) c.args.before c.requires.before c.ranges.before.fits plan history told is_through (run g c) total c.end-disk.ensures.faults passed.same passed.below (c.end-disk.ensures.marked t home))

pub returns-clause-again : goal.returns-clause-again
returns-clause-again g c = λ t crashes checked is done left.
    let marked = marked_now g c t done left in
    keepable_again g c c.serve-mounted.ensures.served.calls t crashes checked is marked.0 (g.D.Disk.image c.end-disk.result) marked.1

pub returns-clause-leaves : goal.returns-clause-leaves
returns-clause-leaves g c = λ t is done left consistent whole_trees.
    let marked = marked_now g c t done left in
    on_tree g c c.serve-mounted.ensures.served.calls t consistent whole_trees is marked.0 (g.D.Disk.image c.end-disk.result) marked.1

-- ---- what a crash leaves

-- what its log says is durable
durable_is : (g : Over) (c : goal.After-drop-marks g) → AllByRecursion (λ (k : ℕ). k ≤ c.serve-mounted.result.mounted.log.durable) c.tell.new.told.items
durable_is g c =
    subst (λ (ns : List ℕ). AllByRecursion (λ (k : ℕ). k ≤ c.serve-mounted.result.mounted.log.durable) ns) (sym (told_is g c))
    (told_within 1 c.serve-mounted.result.mounted.log.durable (marks_of (marks_in c.serve-mounted.new.marks.items) c.serve-mounted.result.history.items))

abbrev calls : (g : Over) → goal.After-drop-marks g → Calls
calls g c = record { history = c.serve-mounted.result.history.items; told = c.tell.new.told.items }

abbrev state_now : (g : Over) → goal.After-drop-marks g → DiskState
state_now g c = last_of (g.D.Disk.past c.end-disk.result)

module _ (g : Over) (c : goal.After-drop-marks g) (k : Called g c) (t : g.D.Disk.tells) (crashes : g.D.Disk.tells_crashes) (checked : IsKeepableImage g.I.MountedFrom.block g.I.MountedFrom.image)
    (is : super_of c.args.taken.superblock.0 ≡ record g.I.MountedFrom.block { state = CLEAN }) where
  with_all : IsLeftWith g.I.MountedFrom.block g.I.MountedFrom.image c.args.now c.serve-mounted.result.history.items c.serve-mounted.result.mounted.log.durable
      (last_of c.serve-mounted.result.mounted.volume.past ++ last_of (g.D.Disk.past c.serve-mounted.result.mounted.log.part))
  with_all = k.left t crashes checked

  abbrev MayLeave : Image → Type 0
  MayLeave image = IsRedoneToHistory g.I.MountedFrom.block (page_of g.I.MountedFrom.image) with_all.follows.start with_all.list c.serve-mounted.result.mounted.log.durable image
      ⊎ ((c.args.is_left ≡ false) × IsUnmountedBehind g.I.MountedFrom.block g.I.MountedFrom.image c.args.now c.serve-mounted.result.history.items image)

  by_marks : c.is_home.result ≡ true → (image : Image) → MayBeMarked c.args.taken.superblock.0 c.serve-mounted.result.mounted.volume (log_parts g.D.Disk c.serve-mounted.result.mounted.log) image → MayLeave image
  by_marks home image (inl was) = inl (with_all.redone image was)
  by_marks home image (inr marked) = inr (
    (at_home g c home).asked,
    record {
      ends = on_tree g c k t (checked.keepable.consistent) (checked.keepable.files) is home image marked;
      keepable = keepable_again g c k t crashes checked is home image marked;
    },
  )

  leaves_by : (b : Bool) → c.is_home.result ≡ b → Leaves MayLeave (state_now g c)
  leaves_by true home image crash = by_marks home image (c.end-disk.ensures.crash t crashes home (k.rests t crashes (home_of c.serve-mounted.result.ending (sym c.is_home.ensures ∙ home)) checked) image crash)
  leaves_by false away image crash = inl (with_all.redone image (subst (λ (st : DiskState). IsCrashImage st image) (c.end-disk.ensures.left crashes away) crash))

  pub left_run : IsLeftRun g.I.MountedFrom.block g.I.MountedFrom.image c.args.now c.args.is_left (calls g c) (state_now g c)
  left_run = record {
    durable = c.serve-mounted.result.mounted.log.durable;
    told_are = durable_is g c;
    ended = record { follows = with_all.follows; list = with_all.list; entries_are = with_all.entries_are; left = leaves_by c.is_home.result refl };
  }

pub returns-clause-left : goal.returns-clause-left
returns-clause-left g c = λ t crashes checked is. by (left_run g c c.serve-mounted.ensures.served.calls t crashes checked is) c.end_after-end.result refl
  where
    by : IsLeftRun g.I.MountedFrom.block g.I.MountedFrom.image c.args.now c.args.is_left (calls g c) (state_now g c) → (e : RunEnd) → c.end_after-end.result ≡ e → LeavesRun ⊥ g.I.MountedFrom.block g.I.MountedFrom.image c.args.now c.args.is_left (calls g c) (state_now g c) e
    by left ends.Done is = left
    by left ends.Disk is = inr left
    by left ends.Memory is = inr left
    by left (ends.BadImage bad) is = absurd (subst (λ (e : RunEnd). RunSince g.D.Disk.tells g.D.Disk.tells_crashes c.args.taken.superblock.0 (plan_of c.args.scripts.now) c.args.is_left c.args.before (seen g.D.Disk c.end-disk.result) (calls g c) e) is (returns-clause-ran g c))

pub returns-clause-rising : goal.returns-clause-rising
returns-clause-rising g c = rising c.serve-mounted.result.history.items c.tell.new.told.items (run g c).first_told
