-- The low part is synced, and a SYNCPT is made, on a volume that is kept.
use Rattle.std.proofs.Common.{◌≡◌, ◌⊎◌, ◌<◌, ◌≤◌, ◌==◌, ◌&&◌, not, refl, sym, ap, ◌∙◌, subst, ℕ, Bool, true, false, true≢false, List, [], ◌∷◌, ◌++◌, length, map, append-nil, get_or, Option, Some, None, is_some, Ok, inl, inr, arith}
use Rattle.std.proofs.lemmas.Bool.{or_cases, ne_eqb, eq-eqb}
use Rattle.std.proofs.lemmas.List.{length_push, get_or-map, length-map}
use Rattle.jfs_kept_volumes.proofs.Made.{made_law, same_mounted}
use Rattle.jfs_kept_volumes.proofs.Rests.{rest_law, point_law as points_rest}
use Rattle.jfs_kept_volumes.proofs.Same.{same_law}
use Rattle.jfs_kept_volumes.specs.Keeper.{Keeper, kept_after}
use Rattle.jfs_kept_volumes.specs.Rest.{IsAtRest}
use Rattle.jfs_kept_volumes.specs.Steps.{KeepsVolume}
use Rattle.jfs_kept_volumes.specs.commits_held.specs.volume_calls.specs.Together.{NoGroup}
use Rattle.jfs_kept_volumes.specs.commits_held.specs.volume_calls.specs.crash_core.specs.Core.{Block, no_block}
use Rattle.jfs_kept_volumes.specs.commits_held.specs.volume_calls.specs.crash_core.specs.Step.{BeginsPast, synced}
use Rattle.jfs_kept_volumes.specs.commits_held.specs.volume_calls.specs.crash_core.specs.declared.block.Span.{Span}
use Rattle.jfs_kept_volumes.specs.commits_held.specs.volume_calls.specs.halves.specs.Both.{BothChange, Changes, GroupIsWritten, changed}
use Rattle.jfs_kept_volumes.specs.commits_held.specs.volume_calls.specs.halves.specs.Change.{Takes, Syncs, Points, Knows}
use Rattle.jfs_kept_volumes.specs.commits_held.specs.volume_calls.specs.halves.specs.Half.{Halves, is_open}
use Rattle.jfs_kept_volumes.specs.commits_held.specs.volume_calls.specs.halves.specs.Parts.{Parts, span_of}
use Rattle.jfs_kept_volumes.specs.commits_held.specs.volume_calls.specs.volume.specs.data_steps.specs.objects.specs.Volume.{Volume}
use Rattle.jfs_kept_volumes.specs.pages_held.proofs.Beside.{beside_law}
use Rattle.jfs_kept_volumes.specs.pages_held.proofs.Homing.{itself}
use Rattle.jfs_kept_volumes.specs.pages_held.proofs.Stay.{stay_law}
use Rattle.jfs_kept_volumes.specs.pages_held.specs.Beside.{AreBeside, KeepsFiles}
use Rattle.jfs_kept_volumes.specs.pages_held.specs.joined_held.specs.Held.{blocks_at, volume_at, held_at}
use Rattle.jfs_kept_volumes.specs.pages_held.specs.joined_held.specs.held.proofs.Crash.{run_law}
use Rattle.jfs_kept_volumes.specs.pages_held.specs.joined_held.specs.held.specs.Changes.{leaving, AllMay}
use Rattle.jfs_kept_volumes.specs.pages_held.specs.joined_held.specs.held.specs.Held.{Mount, Held, face_at}
use Rattle.jfs_kept_volumes.specs.pages_held.specs.joined_held.specs.held.specs.survival.proofs.Changes.{counted}
use Rattle.jfs_kept_volumes.specs.pages_held.specs.joined_held.specs.held.specs.survival.specs.recovery.specs.Core.{count}
use Rattle.jfs_kept_volumes.specs.pages_held.specs.joined_held.specs.held.specs.survival.specs.face.specs.Places.{is_block_page, is_inode_page, is_map_page}
use Rattle.jfs_points_kept.proofs.Homes.{halts_stay, KeptBy, kept_by}
use Rattle.jfs_kept_volumes.specs.Kept.{IsHeldAtRest, IsKept}
use Rattle.jfs_points_kept.specs.Steps.{SettledLaw, PointLaw, KnowLaw}

-- ---- settled

none_of : (d : Option Span) → is_some d ≡ false → d ≡ None
none_of None e = refl
none_of (Some span) e = absurd (true≢false e)

past_none : (n : ℕ) (d : Option Span) → d ≡ None → BeginsPast n d
past_none n d e = subst (λ (o : Option Span). BeginsPast n o) (sym e) tt

pub settled_law : SettledLaw
settled_law m area old new x kept moves alone halts told clean blocks inodes runs =
    let list : List BothChange = Changes Syncs ∷ [] in
    let v = volume_at area old in
    let y : Keeper = kept_after m area old x (leaving v list) in
    let k : KeptBy m area new x y = kept_by m area old new x kept alone (halts_stay old.halted new.halted (Ok tt) halts) (Syncs ∷ []) (tt, tt) moves ((moves.fit.0, tt), itself v, tt) in
    (record { keeper = y; kept = k.kept; grows = k.grows }, record { half = (told, λ p l. half p l); maps = λ p is. (past_none (count y.core) (x.core.slots p).block.dirty (map_clean p is), tt) })
  where
    half : (p : ℕ) → p < length (map synced x.both.volume.blocks) → ((get_or (map synced x.both.volume.blocks) p no_block).dirty ≡ None) × ((get_or (map synced x.both.volume.blocks) p no_block).unsynced ≡ None)
    half p l =
        let low : p < length x.both.volume.blocks = (let s = length-map x.both.volume.blocks synced in omega (arith, l, s)) in
        let is = get_or-map synced x.both.volume.blocks p no_block no_block low in
        (ap (λ (b : Block). b.dirty) is ∙ sym (kept.rests.stands.dirty p) ∙ ap span_of (clean p), ap (λ (b : Block). b.unsynced) is)

    map_clean : (p : ℕ) → is_map_page m.places p ≡ true → (x.core.slots p).block.dirty ≡ None
    map_clean p is = by (or_cases (is_block_page m.places p) (is_inode_page m.places p) is)
      where
        by : (is_block_page m.places p ≡ true) ⊎ (is_inode_page m.places p ≡ true) → (x.core.slots p).block.dirty ≡ None
        by (inl e) = none_of (x.core.slots p).block.dirty (kept.pages.marked.block_map runs p e ∙ blocks)
        by (inr e) = none_of (x.core.slots p).block.dirty (kept.pages.marked.inode_map runs p e ∙ inodes)

-- ---- a step whose parts show what they did

module _ (m : Mount) (area : ℕ → ℕ) (old new : Parts) (x : Keeper) (kept : IsKept m area old x) (list : List BothChange) where
  abbrev z : Held
  z = held_at x.both x.core x.volumes area old

  abbrev v : Volume
  v = volume_at area old

  abbrev y : Keeper
  y = kept_after m area old x (leaving v list)

  pub pages_stay : AllMay m z (leaving v list) → AreBeside m.places (leaving v list) → KeepsFiles old new → IsHeldAtRest m area new y → IsKept m area new y
  pages_stay may beside files rests =
      let marks = beside_law m z (leaving v list) kept.rests.held.held may beside in
      record { rests = rests; pages = stay_law m area old new x.both y.both x.core y.core x.volumes y.volumes kept.rests.held rests.held files marks.0 marks.1 kept.pages }

  pub volumes_stay : AllMay m z (leaving v list) → (k : ℕ) → k ≤ length x.both.volume.history → y.volumes k ≡ x.volumes k
  volumes_stay may k l = (run_law m z (leaving v list) kept.rests.held.held may).volumes k (let n = counted (face_at m) x.both x.core kept.rests.held.held.core_is in omega (arith, l, n))

-- ---- a SYNCPT

closed : (both : Halves) → NoGroup both → is_open (changed both (Changes Points)) ≡ false
closed both none = rw (eq-eqb both.log.durable both.volume.taken none.durable, eq-eqb both.log.stable both.log.points_taken (none.stable ∙ sym none.points)) refl

opens : (both : Halves) → NoGroup both → is_open (changed (changed both (Changes Points)) (Changes Takes)) ≡ true
opens both none = ap not (ap (λ (b : Bool). both.log.durable == length both.volume.history && b) differ ∙ and_false (both.log.durable == length both.volume.history))
  where
    differ : (both.log.stable == length (both.volume.points ++ length both.volume.history ∷ [])) ≡ false
    differ = ne_eqb both.log.stable (length (both.volume.points ++ length both.volume.history ∷ [])) (λ e. (let more = length_push both.volume.points (length both.volume.history) in let s = none.stable in omega (arith, e, more, s)))

    and_false : (b : Bool) → (b && false) ≡ false
    and_false true = refl
    and_false false = refl

pub point_law : PointLaw
point_law m area old new x kept settled empty moves parts =
    let list : List BothChange = Changes Points ∷ Changes Takes ∷ GroupIsWritten ∷ [] in
    let v = volume_at area old in
    let rest = kept.rests.rest in
    let may : AllMay m (held_at x.both x.core x.volumes area old) (leaving v list) =
    ((settled.half, tt), (settled.maps, itself v), ((tt, closed x.both rest.none), itself v, ((opens x.both rest.none, rest.runs), itself v, tt))) in
    let stays : KeepsVolume area old new = same_law area old new (ap (λ (p : Parts). p.view) parts) (ap (λ (p : Parts). p.map) parts) (ap (λ (p : Parts). p.inodes) parts) in
    let rests : IsHeldAtRest m area new (kept_after m area old x (leaving v list)) = made_law m area old new (leaving v list) x kept.rests may moves.stands
    (subst (λ (n : ℕ). IsAtRest n (changed (changed (changed x.both (Changes Points)) (Changes Takes)) GroupIsWritten)) (sym stays.sizes.blocks) (points_rest (blocks_at old) x.both rest empty settled.half)) stays.sizes stays.same in
    record {
      keeper = kept_after m area old x (leaving v list);
      kept = pages_stay m area old new x kept list may (tt, (tt, (tt, tt))) (record {
        files = ap (λ (p : Parts). p.files) parts;
        agsize = ap (λ (p : Parts). p.map.agsize) parts;
        inodes = ap (λ (p : Parts). p.inodes) parts;
        halted = λ e. sym (ap (λ (p : Parts). p.halted) parts) ∙ e;
      }) rests;
      grows = record { history = sym (append-nil x.both.volume.history); points_are = refl; volumes = volumes_stay m area old new x kept list may; mounted = same_mounted m (held_at x.both x.core x.volumes area old) (leaving v list) };
    }

pub know_law : KnowLaw
know_law m area old new x kept moves parts =
    let list : List BothChange = Changes Knows ∷ [] in
    let v = volume_at area old in
    let rest = kept.rests.rest in
    let may : AllMay m (held_at x.both x.core x.volumes area old) (leaving v list) = ((tt, rest.none.stable), itself v, tt) in
    let stays : KeepsVolume area old new = same_law area old new (ap (λ (p : Parts). p.view) parts) (ap (λ (p : Parts). p.map) parts) (ap (λ (p : Parts). p.inodes) parts) in
    let rests : IsHeldAtRest m area new (kept_after m area old x (leaving v list)) = made_law m area old new (leaving v list) x kept.rests may moves.stands
    (subst (λ (n : ℕ). IsAtRest n (changed x.both (Changes Knows))) (sym stays.sizes.blocks) (rest_law (blocks_at old) x.both Knows rest tt tt)) stays.sizes stays.same in
    record {
      keeper = kept_after m area old x (leaving v list);
      kept = pages_stay m area old new x kept list may (tt, tt) (record {
        files = ap (λ (p : Parts). p.files) parts;
        agsize = ap (λ (p : Parts). p.map.agsize) parts;
        inodes = ap (λ (p : Parts). p.inodes) parts;
        halted = λ e. sym (ap (λ (p : Parts). p.halted) parts) ∙ e;
      }) rests;
      grows = record { history = sym (append-nil x.both.volume.history); points_are = sym (append-nil x.both.volume.points); volumes = volumes_stay m area old new x kept list may; mounted = same_mounted m (held_at x.both x.core x.volumes area old) (leaving v list) };
    }
