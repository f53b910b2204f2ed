-- A group of all that waits: its write, and what volume and log stand for then.
use Rattle.std.proofs.Common.{◌≡◌, ◌≤◌, ◌<◌, ◌⊎◌, ℕ, suc, ◌+◌, ◌*◌, ◌^◌, List, [], ◌∷◌, ◌++◌, length, None, false, inr, sym, ap, subst, ◌∙◌, arith, append-nil}
use Rattle.jfs_disk.specs.Image.{page_of}
use Rattle.jfs_disk.specs.declared.disk.Disk.{Ghosts}
use Rattle.jfs_disk.specs.declared.disk.Fault.{Fault}
use Rattle.jfs_logfmt.specs.declared.log_record.Record.TheVariants.{SyncPt}
use Rattle.jfs_logpages.specs.declared.group_text.GroupText.{GroupText}
use Rattle.jfs_logpages.specs.Group.{pages_of, room_of, position_of}
use Rattle.jfs_logpages.specs.Records.{log_text}
use Rattle.jfs_records.specs.Entries.{point}
use Rattle.jfs_records.proofs.ReadBack.{length-items}
use Rattle.jfs_groups.specs.Group.{IsGroupOf, Halts}
use Rattle.jfs_groups.specs.Points.{halt_mark, syncs}
use Rattle.jfs_groups.specs.Log.{LogStandsFor, data_of}
use Rattle.jfs_groups.specs.Written.{IsGroupWritten, IsGroupLost}
use Rattle.jfs_groups.specs.declared.log.SharedLog.{SharedLog}
use Rattle.jfs_groups.proofs.Points.{marked_all}
use Rattle.jfs_groups.proofs.Stands.{may_write, written_stands, more_lost, group_lost, lost_stands}
use Rattle.jfs_kept_history.specs.legal.specs.served.specs.call.specs.halves.specs.Change.{MayPoint, Takes, Points, Knows}
use Rattle.jfs_kept_history.specs.legal.specs.served.specs.call.specs.halves.specs.Moves.{Moves}
use Rattle.jfs_kept_history.specs.legal.specs.served.specs.call.specs.halves.specs.Parts.{Parts, OfEachHalf}
use Rattle.jfs_kept_history.specs.legal.specs.served.specs.call.specs.volume.specs.bmap.specs.States.{blocks_settled}
use Rattle.jfs_kept_history.specs.legal.specs.served.specs.call.specs.volume.specs.Room.{IsWithinRoom}
use Rattle.jfs_kept_history.specs.legal.specs.served.specs.call.specs.volume.specs.Settle.{with_point}
use Rattle.jfs_kept_history.specs.legal.specs.served.specs.call.specs.volume.specs.Settles.{is_freed}
use Rattle.jfs_kept_history.specs.legal.specs.served.specs.call.specs.volume.specs.Told.{IsTold, still_freed}
use Rattle.jfs_shared.specs.Base.{start_of, log_start_of}
use Rattle.jfs_shared.specs.Both.{Seen, AreOf, AreTogether, Written, Lost, Committed, Pointed, PartlyPointed}
use Rattle.jfs_shared.specs.Settled.{MaySettle}
use Rattle.jfs_shared.specs.Shared.{logs_of, IsShared, Stands, standing, log_standing}
use Rattle.jfs_shared.specs.declared.point_group.PointGroup.{PointGroup}
use Rattle.jfs_shared.specs.declared.shared.SharedVolume.{SharedVolume}
use Rattle.jfs_shared.proofs.Logged.{all_taken, pointed_stands, lost_point}
use Rattle.jfs_shared.proofs.Points.{all_syncs, synced_more}
use Rattle.jfs_shared.proofs.Text.{reaches}
use Rattle.jfs_shared.proofs.Stands.{group_stands, group_is, told_stands, point_stands, known_stands}

-- what a volume hands out as a group
pub record IsTakenFrom (tells crashes : Type 0) (old new : Parts) (group : GroupText) : Type 0 where
  pub bytes : group.bytes.items ≡ old.text.bytes
  pub ends : group.ends.items ≡ old.text.ends
  pub last : group.last ≡ old.appended
  pub room : IsWithinRoom old.text.ring old.text.sync old.text.place (length group.bytes.items)
  pub parts : new ≡ record old { taken = old.appended; text = record old.text { place = old.text.place + length old.text.bytes; bytes = []; ends = [] } }
  pub moves : OfEachHalf tells crashes old (λ seen asked half. Moves seen asked old new half (Takes ∷ []))

module _ {D : Type 0} (d : Ghosts D) (x : SharedVolume D) (y : SharedLog D d) (runs : y.side.halted ≡ None) where
  -- ---- a group

  module _ (new : Parts) (group : GroupText) (t : IsTakenFrom d.tells d.tells_crashes x.volume new group) where
    module _ (n : Seen) (k : AreOf (standing d) (log_standing d) n x y) where
      is_group : IsGroupOf logs_of (start_of n.base).log.ring n.list n.taken (syncs n.points) group
      is_group = group_is d.tells d.tells_crashes n.base n.list n.taken n.told n.points n.known x.points x.is_broken_off x.volume k.volume group t.bytes t.ends t.last t.room

      taken : IsShared d.tells d.tells_crashes n.base n.list (length n.list) n.told n.points n.known x.points x.is_broken_off new
      taken = group_stands d.tells d.tells_crashes n.base n.list n.taken n.told n.points n.known x.points x.is_broken_off x.volume k.volume new t.parts (subst (λ (b : List ℕ). IsWithinRoom x.volume.text.ring x.volume.text.sync x.volume.text.place (length b)) t.bytes t.room) t.moves

    pub may : AreTogether (standing d) (log_standing d) x y
        → (pages_of (length group.bytes.items) ≤ room_of y.side.last.ring) × (y.side.durable ≤ group.last) × (position_of y.side.last + length group.bytes.items ≤ 4080 * 2 ^ 32)
    may (n, k) = may_write logs_of d.tells d.tells_crashes (log_start_of n.base) (data_of d y) n.log_list n.list n.taken n.durable n.points n.stable group k.front k.log runs (is_group n k)

    pub written : (y' : SharedLog D d) → IsGroupWritten d.tells d.tells_crashes group (data_of d y) (data_of d y') → (n : Seen) → AreOf (standing d) (log_standing d) n x y → Written (standing d) (log_standing d) n (record x { volume = new }) y'
    written y' w n k = (
      taken n k,
      written_stands logs_of d.tells d.tells_crashes (log_start_of n.base) (data_of d y) (data_of d y') n.log_list n.list n.taken n.durable n.points n.stable group k.front k.log runs (is_group n k) w,
    )

    pub lost : (y' : SharedLog D d) (fault : Fault) (last : SharedVolume D) → Halts (standing d) (λ v. v.points) (record x { volume = new }) last → IsGroupLost d.tells d.tells_crashes group fault (data_of d y) (data_of d y') → (n : Seen) → AreOf (standing d) (log_standing d) n x y
        → Lost (standing d) (log_standing d) n last y'
    lost y' fault last halts w n k =
        let g = halts n.base n.list (length n.list) n.told n.points n.known (taken n k) in (
          g.0,
          g.1,
          g.2,
          lost_stands logs_of d.tells d.tells_crashes (log_start_of n.base) (data_of d y) (data_of d y') n.log_list n.list n.taken (length n.list) n.durable n.points g.0 n.stable group fault k.log runs w
              (λ t c. more_lost logs_of d.tells d.tells_crashes (log_start_of n.base).ring (data_of d y').past n.list n.list (length n.list) n.durable n.points g.0 n.stable ([], append-nil n.list) (marked_all n.points g.0 g.1)
              (group_lost logs_of d.tells d.tells_crashes (log_start_of n.base) (data_of d y) (data_of d y') n.log_list n.list n.taken n.durable n.points n.stable group fault k.front k.log runs (is_group n k) w t c)),
        )

    pub may_halt : AreTogether (standing d) (log_standing d) x y → Stands d (record x { volume = new })
    may_halt (n, k) = (n.base, n.list, length n.list, n.told, n.points, n.known, taken n k)

  -- groups have taken all
  pub idle : x.volume.taken ≡ x.volume.appended → (n : Seen) → AreOf (standing d) (log_standing d) n x y → Written (standing d) (log_standing d) n x y
  idle e n k = (
    subst (λ (m : ℕ). IsShared d.tells d.tells_crashes n.base n.list m n.told n.points n.known x.points x.is_broken_off x.volume) all k.volume,
    all_taken logs_of d.tells d.tells_crashes (log_start_of n.base) (data_of d y) (data_of d y) n.log_list n.taken n.durable n.points n.stable k.log runs n.list k.front all,
  )
    where
      all : n.taken ≡ length n.list
      all = sym k.volume.taken_is ∙ e ∙ k.volume.appended

  -- ---- a SYNCPT

  module _ (group : GroupText) (bytes : group.bytes.items ≡ log_text (SyncPt 0 ∷ [])) (last : group.last ≡ x.volume.appended) where
    pub point_size : length group.bytes.items ≡ 36
    point_size = ap (λ (b : List ℕ). length b) bytes ∙ length-items 0 0 (point 0 ∷ [])

    module _ (small : x.volume.appended < 2 ^ 64) (empty : x.volume.text.bytes ≡ []) (told : x.volume.told ≡ x.volume.appended) (pointed : Parts) (e : pointed ≡ with_point x.volume) (moves : OfEachHalf d.tells d.tells_crashes x.volume (λ seen asked half. MayPoint half → Moves seen asked x.volume pointed half (Points ∷ Takes ∷ [])))
        (n : Seen) (k : AreOf (standing d) (log_standing d) n x y) (home : MaySettle d.tells d.tells_crashes n x) where
      all_told : n.told ≡ length n.list
      all_told = sym k.volume.told_is ∙ told ∙ k.volume.appended

      all : n.taken ≡ length n.list
      all = let a = k.volume.told_within in let b = k.volume.taken_within in omega (arith, a, b, all_told)

      few : length n.list < 2 ^ 64
      few = omega (arith, small, k.volume.appended)

      pub stands : IsShared d.tells d.tells_crashes n.base n.list (length n.list) (length n.list) (n.points ++ length n.list ∷ []) n.known (x.points + 1) x.is_broken_off pointed
      stands = subst (λ (m : ℕ). IsShared d.tells d.tells_crashes n.base n.list (length n.list) m (n.points ++ length n.list ∷ []) n.known (x.points + 1) x.is_broken_off pointed) all_told
          (point_stands d.tells d.tells_crashes n.base n.list n.taken n.told n.points n.known x.points x.is_broken_off x.volume k.volume pointed few all empty e moves home)

      all_known : syncs (n.points ++ length n.list ∷ []) ≡ suc (length n.points)
      all_known = omega (arith, synced_more n.points (length n.list) few, all_syncs n.points (k.log.runs runs).unmarked)

      log : LogStandsFor logs_of d.tells d.tells_crashes (log_start_of n.base) (data_of d y) n.list (length n.list) (length n.list) n.points n.stable
      log = all_taken logs_of d.tells d.tells_crashes (log_start_of n.base) (data_of d y) (data_of d y) n.log_list n.taken n.durable n.points n.stable k.log runs n.list k.front all

      pub pointed_both : (known : Parts) → known ≡ record pointed { known = pointed.points } → OfEachHalf d.tells d.tells_crashes pointed (λ seen asked half. Moves seen asked pointed known half (Knows ∷ [])) → (y' : SharedLog D d) → IsGroupWritten d.tells d.tells_crashes group (data_of d y) (data_of d y')
          → Pointed (standing d) (log_standing d) n (record x { volume = known; points = x.points + 1 }) (record y' { points = y'.points + 1 })
      pointed_both known is knows y' w = (
        subst (λ (m : ℕ). IsShared d.tells d.tells_crashes n.base n.list (length n.list) (length n.list) (n.points ++ length n.list ∷ []) m (x.points + 1) x.is_broken_off known) all_known
            (known_stands d.tells d.tells_crashes n.base n.list (length n.list) (length n.list) (n.points ++ length n.list ∷ []) n.known (x.points + 1) x.is_broken_off pointed stands known is knows),
        pointed_stands logs_of d.tells d.tells_crashes (log_start_of n.base) (data_of d y) (data_of d y') n.list (length n.list) (length n.list) n.points n.stable log runs group few bytes point_size (last ∙ k.volume.appended) w,
      )

      pub pointed_lost : (group_now : PointGroup) (later_volume : SharedVolume D) → Halts (standing d) (λ v. v.points) (record x { volume = pointed; point = group_now; points = x.points + 1 }) later_volume → (y' : SharedLog D d) (fault : Fault) → group.ends.items ≡ 36 ∷ [] → IsGroupLost d.tells d.tells_crashes group fault (data_of d y) (data_of d y')
          → PartlyPointed (standing d) (log_standing d) n later_volume y'
      pointed_lost group_now later_volume halts y' fault ends w = record {
        told_now = length n.list;
        durable_now = length n.list;
        points_now = halted.0;
        volume = halted.2;
        log = lost_point logs_of d.tells d.tells_crashes (log_start_of n.base) (data_of d y) (data_of d y') n.list (length n.list) (length n.list) n.points n.stable log runs group fault halted.0 bytes ends (marked_all (n.points ++ length n.list ∷ []) halted.0 halted.1) w;
        told_grows = let a = k.volume.told_within in let b = k.volume.taken_within in omega (arith, a, b);
        durable_grows = let b = k.volume.taken_within in omega (arith, b, durable_taken);
        told_within = omega arith;
        durable_within = omega arith;
        points_grow = inr halted.1;
      }
        where
          halted : (later : List ℕ) × ((later ≡ n.points ++ length n.list ∷ []) ⊎ (later ≡ (n.points ++ length n.list ∷ []) ++ halt_mark ∷ [])) × IsShared d.tells d.tells_crashes n.base n.list (length n.list) (length n.list) later n.known later_volume.points later_volume.is_broken_off later_volume.volume × (later_volume.points ≡ length later)
          halted = halts n.base n.list (length n.list) (length n.list) (n.points ++ length n.list ∷ []) n.known stands

          durable_taken : n.durable ≡ n.taken
          durable_taken = (k.log.runs runs).taken_all

-- ---- all entries are acknowledged

module _ {D : Type 0} (d : Ghosts D) (x : SharedVolume D) (y : SharedLog D d) (x' : SharedVolume D) (y' : SharedLog D d) where
  pub may_tell : AreTogether (standing d) (log_standing d) x y → ((n : Seen) → AreOf (standing d) (log_standing d) n x y → Written (standing d) (log_standing d) n x' y') → (all : ℕ) → all ≡ x'.volume.appended → (x'.volume.told ≤ all) × (all ≤ x'.volume.taken)
  may_tell (n, k) write all is =
      let s = (write n k).0 in
      let told = s.told_is in
      let taken = s.taken_is in
      let appended = s.appended in
      let within = s.told_within in (omega (arith, is, told, appended, within), omega (arith, is, taken, appended))

  pub told_all : (n : Seen) → Written (standing d) (log_standing d) n x' y' → (all : ℕ) → all ≡ x'.volume.appended → (new : Parts)
      → new ≡ record x'.volume { view = new.view; dirty = new.dirty; told = all; map = blocks_settled all x'.volume.map; freed = still_freed all x'.volume.freed }
      → (d.tells → (q : ℕ) → is_freed x'.volume.freed q ≡ false → page_of new.view q ≡ page_of x'.volume.view q)
      → OfEachHalf d.tells d.tells_crashes x'.volume (λ seen asked half. IsTold seen asked all x'.volume new half)
      → Committed (standing d) (log_standing d) n (record x' { volume = new }) y'
  told_all n w all is new e shows tell = (
    subst (λ (m : ℕ). IsShared d.tells d.tells_crashes n.base n.list (length n.list) m n.points n.known x'.points x'.is_broken_off new) all_is
        (told_stands d.tells d.tells_crashes n.base n.list (length n.list) n.told n.points n.known x'.points x'.is_broken_off x'.volume w.0 all new (omega (arith, all_is)) e shows tell),
    w.1,
  )
    where
      all_is : all ≡ length n.list
      all_is = is ∙ w.0.appended

-- ---- a SYNCPT may be written

module _ {D : Type 0} (d : Ghosts D) (x : SharedVolume D) (y : SharedLog D d) (runs : y.side.halted ≡ None) (empty : x.volume.text.bytes ≡ []) (told : x.volume.told ≡ x.volume.appended) (room : x.volume.text.place + 72 ≤ 4080 * 2 ^ 32) where
  -- the log's text ends where the volume's begins, and the syncpoints lie within
  pub record Meets : Type 0 where
    pub place : position_of y.side.last ≡ x.volume.text.place
    pub durable : y.side.durable ≤ x.volume.appended
    pub points : 36 * x.points ≤ x.volume.text.place
    pub log_points : y.points ≡ x.points

  pub meets : AreTogether (standing d) (log_standing d) x y → Meets
  meets (n, k) =
      let s = k.volume in
      let told_is = s.told_is in
      let appended = s.appended in
      let told_within = s.told_within in
      let taken_within = s.taken_within in
      let taken_is = s.taken_is in
      let both = idle d x y runs (omega (arith, told, told_is, appended, told_within, taken_within, taken_is)) n k in
      let r = both.1.runs runs in
      let end = reaches (start_of n.base).log.ring n.list n.taken (syncs n.points) x.volume.text s.text s.taken_within in
      let none = ap (λ (b : List ℕ). length b) empty in
      let points_are = s.points_are in
      let count = both.1.count in
      let place = r.place in
      let stable = both.1.stable in
      let stable_all = r.stable_all in
      record {
        place = omega (arith, place, end, none);
        durable = omega (arith, count, appended);
        points = omega (arith, end, none, points_are, all_syncs n.points r.unmarked);
        log_points = omega (arith, stable, stable_all, points_are);
      }
