-- Changes of both halves, one after another.
use Rattle.std.proofs.Common.{◌≡◌, ◌+◌, ◌++◌, ◌==◌, ◌&&◌, ℕ, Bool, true, false, not, List, [], ◌∷◌, length, map, None, Result, Ok, Err, refl, sym, ap, ◌∙◌, inl, inr, subst, arith}
use Rattle.std.proofs.lemmas.Bool.{ne_eqb}
use Rattle.std.proofs.lemmas.List.{append-nil, length-append}
use Rattle.jfs_disk.specs.Crash.{DiskState}
use Rattle.jfs_disk.specs.declared.disk.Fault.{Fault}
use Rattle.jfs_logfmt.specs.declared.log_record.Record.TheVariants.{SyncPt}
use Rattle.jfs_logpages.specs.declared.fault.LogFault.{LogFault}
use Rattle.jfs_logpages.specs.Group.{position_of}
use Rattle.jfs_logpages.specs.Records.{log_text}
use Rattle.jfs_volume.specs.records.specs.Entries.{Item, entry, point, log_records, text_size}
use Rattle.jfs_volume.specs.records.proofs.ReadBack.{length-items, text_size-append}
use Rattle.jfs_volume.specs.halves.specs.Half.{VolumeHalf, Halves, is_open, told_upto, all_synced}
use Rattle.jfs_volume.specs.halves.specs.Change.{Change, Takes, Tells, GoesHome, Drops, Stops, LogStops, Syncs, Points, Knows, MayPoint, changed as changed_volume, after as after_volume, Writes}
use Rattle.jfs_volume.specs.halves.specs.Both.{BothChange, Changes, GroupIsWritten, GroupFails, changed, after}
use Rattle.jfs_volume.specs.halves.specs.Parts.{Parts, StandsFor}
use Rattle.jfs_volume.specs.halves.specs.Log.{LogParts, LogStandsFor}
use Rattle.jfs_volume.specs.halves.specs.Moves.{Moves, MovesBoth}
use Rattle.jfs_volume.specs.halves.proofs.Joined.{join_both, after_both-join, after-join}
use Rattle.jfs_volume.specs.pages.specs.Dirty.{dirty_of}
use Rattle.jfs_volume.specs.Told.{drops}
use Rattle.jfs_volume.specs.Settle.{go_home, IsStop, stops, tears}
use Rattle.jfs_volume.proofs.Settling.{may_point}
use Rattle.jfs_volume.specs.data_steps.specs.declared.pages.DataPage.{DataPage}
use Rattle.jfs_volume.specs.Written.{writes, IsWriteStop, stops as write_stops, tears as write_tears}
use Rattle.jfs_volume_calls.specs.Together.{NoGroup}
use Rattle.jfs_volume_calls.specs.Commit.{Closes, group, committing, MayBeWritten, IsCommitted, GroupIs, WriteIs}
use Rattle.jfs_volume_calls.specs.Syncpoint.{point_taken, point_known, homing, settling, AreMapPages, AreFirstMapPages, IsStopped, low_fails, maps_fail, sync_fails, point_fails, IsSyncpoint, PointIs, SyncpointIs}
use Rattle.jfs_volume_calls.proofs.Lift.{AreQuiet, IsQuiet, after_lift, log_kept, lift}
use Rattle.jfs_volume_calls.proofs.Written.{not_open, opened_by_entry, takes_log, written_stands, lost_stands, IsGroupWritten, IsGroupLost}

pub closes_join : (seen asked : Bool) (old mid new : Parts) (middle log : LogParts) (both : Halves) (xs ys : List BothChange) → Closes seen asked old mid middle both xs → Closes seen asked mid new log (after both xs) ys → Closes seen asked old new log both (xs ++ ys)
closes_join seen asked old mid new middle log both xs ys a b = record {
  moves = join_both seen asked old mid new middle log both xs ys a.moves b.moves;
  closed = subst NoGroup (sym (after_both-join both xs ys)) b.closed;
}

-- ---- changes in which the log has no part

pub quiet_drops : (pages : List ℕ) → AreQuiet (drops pages)
quiet_drops [] = tt
quiet_drops (p ∷ pages) = (tt, quiet_drops pages)

pub quiet_homes : (pages : List ℕ) → AreQuiet (go_home pages)
quiet_homes [] = tt
quiet_homes (p ∷ pages) = (tt, quiet_homes pages)

pub quiet_append : (xs ys : List Change) → AreQuiet xs → AreQuiet ys → AreQuiet (xs ++ ys)
quiet_append [] ys a b = b
quiet_append (x ∷ xs) ys a b = (a.0, quiet_append xs ys a.1 b)

pub quiet_writes : (maps : List DataPage) → AreQuiet (writes maps)
quiet_writes [] = tt
quiet_writes (d ∷ maps) = (tt, quiet_writes maps)

pub quiet_homing : (homes : List ℕ) (maps : List DataPage) → AreQuiet (homing homes maps)
quiet_homing homes maps = quiet_append (go_home homes) (writes maps) (quiet_homes homes) (quiet_writes maps)

quiet_write_stop : (fault : Fault) (d : DataPage) (c : Change) → IsWriteStop fault d c → IsQuiet c
quiet_write_stop fault d _ write_stops = tt
quiet_write_stop fault d _ (write_tears sectors) = tt

pub quiet_stop : (fault : Fault) (c : Change) → IsStop fault c → IsQuiet c
quiet_stop fault _ stops = tt
quiet_stop fault _ (tears n sectors) = tt

-- what no page that goes home or is dropped changes
record SameCounts (a b : VolumeHalf) : Type 0 where
  pub taken : a.taken ≡ b.taken
  pub points : a.points ≡ b.points
  pub history : length a.history ≡ length b.history

counts_dropped : (half : VolumeHalf) (pages : List ℕ) → SameCounts (after_volume half (drops pages)) half
counts_dropped half [] = record { taken = refl; points = refl; history = refl }
counts_dropped half (p ∷ pages) = let rest = counts_dropped (changed_volume half (Drops p)) pages in record { taken = rest.taken; points = rest.points; history = rest.history }

-- nor one that is written
counts_written : (half : VolumeHalf) (maps : List DataPage) → SameCounts (after_volume half (writes maps ++ Syncs ∷ [])) half
counts_written half [] = record { taken = refl; points = refl; history = refl }
counts_written half (d ∷ maps) = let rest = counts_written (changed_volume half (Writes d.block d.page.0)) maps in record { taken = rest.taken; points = rest.points; history = rest.history }

counts_settled : (half : VolumeHalf) (homes : List ℕ) (maps : List DataPage) → SameCounts (after_volume half (homing homes maps ++ Syncs ∷ [])) half
counts_settled half [] maps = counts_written half maps
counts_settled half (p ∷ homes) maps = let rest = counts_settled (changed_volume half (GoesHome p)) homes maps in record { taken = rest.taken; points = rest.points; history = rest.history }

closed_beside : (both : Halves) (half : VolumeHalf) → NoGroup both → SameCounts half both.volume → NoGroup (record { volume = half; log = both.log })
closed_beside both half none same = record {
  durable = none.durable ∙ sym same.taken;
  points = none.points ∙ sym (ap (λ (points : List ℕ). length points) same.points);
  stable = none.stable ∙ sym (ap (λ (points : List ℕ). length points) same.points);
  group = none.group;
}

-- ---- entries are acknowledged

pub told_closes : (seen asked : Bool) (old new : Parts) (l : LogParts) (both : Halves) (n : ℕ) (pages : List ℕ) → n ≡ both.log.durable → LogStandsFor seen asked l both → NoGroup both → Moves seen asked old new both.volume (Tells n ∷ drops pages) →
    Closes seen asked old new l both (Changes (Tells n) ∷ map Changes (drops pages))
told_closes seen asked old new l both n pages durable s none m = record {
  moves = record {
    fit = ((m.fit.0, durable), rest.fit);
    stands = rest.stands;
    log_stands = rest.log_stands;
    past = λ t k. rest.past t k;
  };
  closed = subst NoGroup (sym (after_lift told both.log (drops pages) (quiet_drops pages))) (closed_beside both (after_volume told (drops pages)) none counts);
}
  where
    told : VolumeHalf
    told = told_upto n both.volume

    counts : SameCounts (after_volume told (drops pages)) both.volume
    counts = let same = counts_dropped told pages in record { taken = same.taken; points = same.points; history = same.history }

    rest : MovesBoth seen asked old new l (record { volume = told; log = both.log }) (map Changes (drops pages))
    rest = lift seen asked old new l (record { volume = told; log = both.log }) (drops pages) (quiet_drops pages) (record { fit = m.fit.1; stands = m.stands; past = m.past }) (log_kept seen asked l both told s (record { ring = refl; place = refl }))

-- ---- a group is taken and written

-- what will be written is what waits
group_text : (seen asked : Bool) (p : Parts) (l : LogParts) (both : Halves) → StandsFor seen asked p both.volume → LogStandsFor seen asked l both → NoGroup both → both.log.log_halted ≡ None →
    p.text.bytes ≡ log_text (log_records both.volume.waiting.ring (position_of l.last) (both.log.group ++ both.volume.waiting.items))
group_text seen asked p l both s t none runs =
    let place : both.volume.waiting.place ≡ position_of l.last = let at = t.place runs in omega (arith, at, ap text_size none.group) in
    s.text.bytes
    ∙ ap (λ (at : ℕ). log_text (log_records both.volume.waiting.ring at both.volume.waiting.items)) place
    ∙ ap (λ (items : List Item). log_text (log_records both.volume.waiting.ring (position_of l.last) (items ++ both.volume.waiting.items))) (sym none.group)

pub group_closes : (seen asked : Bool) (old new : Parts) (l m : LogParts) (both : Halves) → StandsFor seen asked old both.volume → LogStandsFor seen asked l both → NoGroup both → l.halted ≡ None → (old.taken ≡ old.appended → ⊥) →
    Moves seen asked old new both.volume (Takes ∷ []) → IsGroupWritten seen asked old.text.bytes old.appended l m → Closes seen asked old new m both group
group_closes seen asked old new l m both s t none runs some taken w =
    let running : both.log.log_halted ≡ None = sym t.halted ∙ runs in
    record {
      moves = record {
        fit = ((tt, not_open both none), ((opened_by_entry both none (λ e. some (s.taken ∙ e ∙ sym s.appended)), running), tt));
        stands = taken.stands;
        log_stands = written_stands seen asked old.text.bytes old.appended l m (changed both (Changes Takes)) (takes_log seen asked l both t none) running w s.appended (group_text seen asked old l both s t none running);
        past = taken.past;
      };
      closed = record { durable = refl; points = refl; stable = refl; group = refl };
    }

pub group_lost : (seen asked : Bool) (old mid new : Parts) (l m : LogParts) (both : Halves) (fault : Fault) → StandsFor seen asked old both.volume → LogStandsFor seen asked l both → NoGroup both → l.halted ≡ None → (old.taken ≡ old.appended → ⊥) →
    Moves seen asked old mid both.volume (Takes ∷ []) → Moves seen asked mid new (after_volume both.volume (Takes ∷ [])) (LogStops fault ∷ []) → IsGroupLost fault l m → MovesBoth seen asked old new m both (Changes Takes ∷ GroupFails fault ∷ [])
group_lost seen asked old mid new l m both fault s t none runs some taken stopped lost =
    let running : both.log.log_halted ≡ None = sym t.halted ∙ runs in
    record {
      fit = ((tt, not_open both none), ((opened_by_entry both none (λ e. some (s.taken ∙ e ∙ sym s.appended)), running), tt));
      stands = stopped.stands;
      log_stands = lost_stands seen asked fault l m (changed both (Changes Takes)) (takes_log seen asked l both t none) running lost;
      past = λ a b. stopped.past a b ∙ ap (λ (states : List DiskState). states ++ []) (taken.past a b) ∙ append-nil (old.past ++ []);
    }

-- ---- a SYNCPT is taken and written

empty_items : (items : List Item) → text_size items ≡ 0 → items ≡ []
empty_items [] e = refl
empty_items (entry n tx ∷ items) e = absurd (omega (arith, e))
empty_items (point at ∷ items) e = absurd (omega (arith, e))

nothing_waits : (seen asked : Bool) (p : Parts) (half : VolumeHalf) → StandsFor seen asked p half → p.text.bytes ≡ [] → half.waiting.items ≡ []
nothing_waits seen asked p half s empty = empty_items half.waiting.items (sym (length-items half.waiting.ring half.waiting.place half.waiting.items) ∙ ap (λ (bytes : List ℕ). length bytes) (sym s.text.bytes ∙ empty))

abbrev pointed : Halves → Halves
pointed both = after both point_taken

point_open : (both : Halves) → NoGroup both → is_open (pointed both) ≡ true
point_open both none = more (length both.volume.points) (length (both.volume.points ++ length both.volume.history ∷ [])) (both.log.durable == length both.volume.history) both.log.stable none.stable (length-append both.volume.points (length both.volume.history ∷ []))
  where
    more : (m k : ℕ) (same : Bool) (stable : ℕ) → stable ≡ m → k ≡ m + 1 → not (same && stable == k) ≡ true
    more m k same stable e f = rw (ne_eqb stable k (λ g. absurd (omega (arith, e, f, g)))) (both_ways same)
      where
        both_ways : (b : Bool) → not (b && false) ≡ true
        both_ways true = refl
        both_ways false = refl

point_log : (seen asked : Bool) (p : Parts) (l : LogParts) (both : Halves) → StandsFor seen asked p both.volume → LogStandsFor seen asked l both → NoGroup both → p.text.bytes ≡ [] → LogStandsFor seen asked l (pointed both)
point_log seen asked p l both s t none empty = record {
  durable = t.durable;
  halted = t.halted;
  ring = t.ring;
  place = λ runs. let before = t.place runs in omega (arith, before, ap text_size none.group, text_size-append both.log.group (both.volume.waiting.items ++ point 0 ∷ []));
  items = λ a runs. let h = t.items a runs in record { front = h.front; begins = h.begins; ends = h.ends; holds = h.holds };
  resting = t.resting;
}

point_bytes : (seen asked : Bool) (p : Parts) (l : LogParts) (both : Halves) → StandsFor seen asked p both.volume → NoGroup both → p.text.bytes ≡ [] → log_text (SyncPt 0 ∷ []) ≡ log_text (log_records both.volume.waiting.ring (position_of l.last) (both.log.group ++ (both.volume.waiting.items ++ point 0 ∷ [])))
point_bytes seen asked p l both s none empty = rw (none.group, nothing_waits seen asked p both.volume s empty) refl

pub point_closes : (seen asked : Bool) (old mid new : Parts) (l m : LogParts) (both : Halves) → StandsFor seen asked old both.volume → LogStandsFor seen asked l both → NoGroup both → l.halted ≡ None → old.text.bytes ≡ [] → MayPoint both.volume →
    Moves seen asked old mid both.volume (Points ∷ Takes ∷ []) → Moves seen asked mid new (after_volume both.volume (Points ∷ Takes ∷ [])) (Knows ∷ []) → IsGroupWritten seen asked (log_text (SyncPt 0 ∷ [])) old.appended l m → Closes seen asked old new m both (point_taken ++ point_known)
point_closes seen asked old mid new l m both s t none runs empty may taken known w =
    let running : both.log.log_halted ≡ None = sym t.halted ∙ runs in
    record {
      moves = record {
        fit = ((may, tt), ((tt, not_open both none), ((point_open both none, running), ((tt, refl), tt))));
        stands = known.stands;
        log_stands = log_kept seen asked m (after both (point_taken ++ GroupIsWritten ∷ [])) (after_volume both.volume (Points ∷ Takes ∷ Knows ∷ []))
            (written_stands seen asked (log_text (SyncPt 0 ∷ [])) old.appended l m (pointed both) (point_log seen asked old l both s t none empty) running w s.appended (point_bytes seen asked old l both s none empty))
            (record { ring = refl; place = refl });
        past = λ a b. known.past a b ∙ ap (λ (states : List DiskState). states ++ []) (taken.past a b) ∙ append-nil (old.past ++ []);
      };
      closed = record { durable = refl; points = refl; stable = refl; group = refl };
    }

pub point_lost : (seen asked : Bool) (old mid new : Parts) (l m : LogParts) (both : Halves) (fault : Fault) → StandsFor seen asked old both.volume → LogStandsFor seen asked l both → NoGroup both → l.halted ≡ None → old.text.bytes ≡ [] → MayPoint both.volume →
    Moves seen asked old mid both.volume (Points ∷ Takes ∷ []) → Moves seen asked mid new (after_volume both.volume (Points ∷ Takes ∷ [])) (LogStops fault ∷ []) → IsGroupLost fault l m → MovesBoth seen asked old new m both (point_taken ++ GroupFails fault ∷ [])
point_lost seen asked old mid new l m both fault s t none runs empty may taken stopped lost =
    let running : both.log.log_halted ≡ None = sym t.halted ∙ runs in
    record {
      fit = ((may, tt), ((tt, not_open both none), ((point_open both none, running), tt)));
      stands = stopped.stands;
      log_stands = lost_stands seen asked fault l m (pointed both) (point_log seen asked old l both s t none empty) running lost;
      past = λ a b. stopped.past a b ∙ ap (λ (states : List DiskState). states ++ []) (taken.past a b) ∙ append-nil (old.past ++ []);
    }

-- ---- pages go home and are synced

quiet_settling : (homes : List ℕ) (maps : List DataPage) → AreQuiet (homing homes maps ++ Syncs ∷ [])
quiet_settling homes maps = quiet_append (homing homes maps) (Syncs ∷ []) (quiet_homing homes maps) (tt, tt)

pub settled_closes : (seen asked : Bool) (old new : Parts) (l : LogParts) (both : Halves) (homes : List ℕ) (maps : List DataPage) → LogStandsFor seen asked l both → NoGroup both → Moves seen asked old new both.volume (homing homes maps ++ Syncs ∷ []) → Closes seen asked old new l both (settling homes maps)
settled_closes seen asked old new l both homes maps s none m = record {
  moves = lift seen asked old new l both (homing homes maps ++ Syncs ∷ []) (quiet_settling homes maps) m s;
  closed = subst NoGroup (sym (after_lift both.volume both.log (homing homes maps ++ Syncs ∷ []) (quiet_settling homes maps))) (closed_beside both (after_volume both.volume (homing homes maps ++ Syncs ∷ [])) none (counts_settled both.volume homes maps));
}

-- then redo may begin behind all entries
pub settled_may : (seen asked : Bool) (low : Parts) (both : Halves) (homes : List ℕ) (maps : List DataPage) → StandsFor seen asked low (after both (settling homes maps)).volume → low.told ≡ low.appended → ((q : ℕ) → dirty_of low.dirty q ≡ None) → MayPoint (after both (settling homes maps)).volume
settled_may seen asked low both homes maps s told clean = subst MayPoint (sym same) (may_point seen asked low (after_volume both.volume (homing homes maps)) (subst (λ (half : VolumeHalf). StandsFor seen asked low half) same s) told clean)
  where
    same : (after both (settling homes maps)).volume ≡ all_synced (after_volume both.volume (homing homes maps))
    same = ap (λ (h : Halves). h.volume) (after_lift both.volume both.log (homing homes maps ++ Syncs ∷ []) (quiet_settling homes maps)) ∙ after-join both.volume (homing homes maps) (Syncs ∷ [])

-- ---- a commit

pub commit_closes : (seen asked : Bool) (old mid new : Parts) (l : LogParts) (both : Halves) (pages : List ℕ) → StandsFor seen asked old both.volume → (w : MayBeWritten seen asked old mid l both) → mid.taken ≡ old.appended →
    Moves seen asked mid new (after both w.written).volume (Tells mid.taken ∷ drops pages) → IsCommitted seen asked old new l both
commit_closes seen asked old mid new l both pages s w reached m =
    let later = after both w.written in
    let told = told_closes seen asked mid new l later mid.taken pages (w.closes.moves.stands.taken ∙ sym w.closes.closed.durable) w.closes.moves.log_stands w.closes.closed m in
    record {
      written = w.written;
      is = w.is;
      pages = pages;
      closes = closes_join seen asked old mid new l l both w.written (Changes (Tells (length both.volume.history)) ∷ map Changes (drops pages)) w.closes
          (subst (λ (n : ℕ). Closes seen asked mid new l later (Changes (Tells n) ∷ map Changes (drops pages))) (reached ∙ s.appended) told);
    }

-- nothing is written
pub idle_closes : (seen asked : Bool) (p : Parts) (l : LogParts) (both : Halves) → StandsFor seen asked p both.volume → LogStandsFor seen asked l both → NoGroup both → MayBeWritten seen asked p p l both
idle_closes seen asked p l both s t none = record {
  written = [];
  is = inl refl;
  closes = record { moves = record { fit = tt; stands = s; log_stands = t; past = λ a b. sym (append-nil p.past) }; closed = none };
}

-- ---- a syncpoint: from its commit on

pub syncpoint_closes : (seen asked : Bool) (old mid low new : Parts) (l m : LogParts) (both : Halves) (homes : List ℕ) (maps : List DataPage) (committed : IsCommitted seen asked old mid l both) →
    Closes seen asked mid low l (after both (committing committed.written (length both.volume.history) committed.pages)) (settling homes maps) →
    Closes seen asked low new m (after (after both (committing committed.written (length both.volume.history) committed.pages)) (settling homes maps)) (point_taken ++ point_known) → AreMapPages old new maps → IsSyncpoint seen asked old new m both
syncpoint_closes seen asked old mid low new l m both homes maps committed settled pointed are = record {
  written = committed.written;
  is = committed.is;
  pages = committed.pages;
  homes = homes;
  maps = maps;
  maps_are = are;
  closes = closes_join seen asked old mid new l m both (committing committed.written (length both.volume.history) committed.pages) (settling homes maps ++ (point_taken ++ point_known)) committed.closes
      (closes_join seen asked mid low new l m (after both (committing committed.written (length both.volume.history) committed.pages)) (settling homes maps) (point_taken ++ point_known) settled pointed);
}

pub low_stops : (seen asked : Bool) (old mid new : Parts) (l : LogParts) (both : Halves) (fault : Fault) (homes : List ℕ) (last : Change) → IsStop fault last → (committed : IsCommitted seen asked old mid l both) →
    Moves seen asked mid new (after both (committing committed.written (length both.volume.history) committed.pages)).volume (go_home homes ++ last ∷ []) →
    (list : List BothChange) × IsStopped old new (length both.volume.history) fault list × MovesBoth seen asked old new l both list
low_stops seen asked old mid new l both fault homes last stop committed m =
    let front = committing committed.written (length both.volume.history) committed.pages in
    let rest = lift seen asked mid new l (after both front) (go_home homes ++ last ∷ []) (quiet_append (go_home homes) (last ∷ []) (quiet_homes homes) (quiet_stop fault last stop, tt)) m committed.closes.moves.log_stands in
    (front ++ map Changes (go_home homes ++ last ∷ []), low_fails committed.written committed.pages homes last committed.is stop, join_both seen asked old mid new l l both front (map Changes (go_home homes ++ last ∷ [])) committed.closes.moves rest)

-- pages of the maps were written, and then one change more was made of the volume's half
maps_end : (seen asked : Bool) (old mid new : Parts) (l : LogParts) (both : Halves) (homes : List ℕ) (maps : List DataPage) (last : Change) → IsQuiet last → (committed : IsCommitted seen asked old mid l both) →
    Moves seen asked mid new (after both (committing committed.written (length both.volume.history) committed.pages)).volume (homing homes maps ++ last ∷ []) →
    MovesBoth seen asked old new l both (committing committed.written (length both.volume.history) committed.pages ++ map Changes (homing homes maps ++ last ∷ []))
maps_end seen asked old mid new l both homes maps last quiet committed m =
    let front = committing committed.written (length both.volume.history) committed.pages in
    let rest = lift seen asked mid new l (after both front) (homing homes maps ++ last ∷ []) (quiet_append (homing homes maps) (last ∷ []) (quiet_homing homes maps) (quiet, tt)) m committed.closes.moves.log_stands in
    join_both seen asked old mid new l l both front (map Changes (homing homes maps ++ last ∷ [])) committed.closes.moves rest

pub maps_stop : (seen asked : Bool) (old mid new : Parts) (l : LogParts) (both : Halves) (fault : Fault) (homes : List ℕ) (pages : List DataPage) (next : DataPage) (last : Change) → IsWriteStop fault next last → AreFirstMapPages old new (pages ++ next ∷ []) →
    (committed : IsCommitted seen asked old mid l both) → Moves seen asked mid new (after both (committing committed.written (length both.volume.history) committed.pages)).volume (homing homes pages ++ last ∷ []) →
    (list : List BothChange) × IsStopped old new (length both.volume.history) fault list × MovesBoth seen asked old new l both list
maps_stop seen asked old mid new l both fault homes pages next last stop are committed m = (
  committing committed.written (length both.volume.history) committed.pages ++ map Changes (homing homes pages ++ last ∷ []),
  maps_fail committed.written committed.pages homes pages next last committed.is are stop,
  maps_end seen asked old mid new l both homes pages last (quiet_write_stop fault next last stop) committed m,
)

pub sync_stops : (seen asked : Bool) (old mid new : Parts) (l : LogParts) (both : Halves) (fault : Fault) (homes : List ℕ) (maps : List DataPage) → AreMapPages old new maps → (committed : IsCommitted seen asked old mid l both) →
    Moves seen asked mid new (after both (committing committed.written (length both.volume.history) committed.pages)).volume (homing homes maps ++ Stops fault ∷ []) →
    (list : List BothChange) × IsStopped old new (length both.volume.history) fault list × MovesBoth seen asked old new l both list
sync_stops seen asked old mid new l both fault homes maps are committed m = (
  committing committed.written (length both.volume.history) committed.pages ++ map Changes (homing homes maps ++ Stops fault ∷ []),
  sync_fails committed.written committed.pages homes maps committed.is are,
  maps_end seen asked old mid new l both homes maps (Stops fault) tt committed m,
)

pub point_stops : (seen asked : Bool) (old mid low new : Parts) (l m : LogParts) (both : Halves) (fault : Fault) (homes : List ℕ) (maps : List DataPage) (committed : IsCommitted seen asked old mid l both) →
    Closes seen asked mid low l (after both (committing committed.written (length both.volume.history) committed.pages)) (settling homes maps) →
    MovesBoth seen asked low new m (after (after both (committing committed.written (length both.volume.history) committed.pages)) (settling homes maps)) (point_taken ++ GroupFails fault ∷ []) → AreMapPages old new maps →
    (list : List BothChange) × IsStopped old new (length both.volume.history) fault list × MovesBoth seen asked old new m both list
point_stops seen asked old mid low new l m both fault homes maps committed settled lost are =
    let front = committing committed.written (length both.volume.history) committed.pages in (
      front ++ (settling homes maps ++ (point_taken ++ GroupFails fault ∷ [])),
      point_fails committed.written committed.pages homes maps committed.is are,
      join_both seen asked old mid new l m both front (settling homes maps ++ (point_taken ++ GroupFails fault ∷ [])) committed.closes.moves
          (join_both seen asked mid low new l m (after both front) (settling homes maps) (point_taken ++ GroupFails fault ∷ []) settled.moves lost),
    )

pub written_group : (seen asked : Bool) (old new : Parts) (log : LogParts) (both : Halves) (result : Result (Unit {0}) LogFault) → GroupIs seen asked old new log both result → WriteIs seen asked old new log both result
written_group seen asked old new log both (Ok done) is = record { written = group; is = inr refl; closes = is }
written_group seen asked old new log both (Err why) is = is

pub syncpoint_ends : (seen asked : Bool) (old mid low new : Parts) (l m : LogParts) (both : Halves) (homes : List ℕ) (maps : List DataPage) (committed : IsCommitted seen asked old mid l both) →
    Closes seen asked mid low l (after both (committing committed.written (length both.volume.history) committed.pages)) (settling homes maps) → (result : Result (Unit {0}) Fault) →
    PointIs seen asked low new m (after (after both (committing committed.written (length both.volume.history) committed.pages)) (settling homes maps)) result → AreMapPages old new maps → SyncpointIs seen asked old new m both result
syncpoint_ends seen asked old mid low new l m both homes maps committed settled (Ok done) is are = syncpoint_closes seen asked old mid low new l m both homes maps committed settled is are
syncpoint_ends seen asked old mid low new l m both homes maps committed settled (Err fault) is are = point_stops seen asked old mid low new l m both fault homes maps committed settled is are
