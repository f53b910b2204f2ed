-- What a commit or a syncpoint makes of both values, in the words of many clients' calls.
use Rattle.std.proofs.Common.{◌⊎◌, ℕ, suc, List, [], ◌∷◌, ◌++◌, length, inl, inr, append-nil, append_assoc, refl, sym, ◌∙◌, arith}
use Rattle.std.proofs.lemmas.List.{length-append}
use Rattle.jfs_disk.specs.declared.disk.Disk.{Ghosts}
use Rattle.jfs_groups.proofs.Leading.{behind_all}
use Rattle.jfs_groups.specs.declared.log.SharedLog.{SharedLog}
use Rattle.jfs_serving.specs.Room.{Seen, AreOf, AreTogether, MakesRoom}
use Rattle.jfs_serving.proofs.Numbers.{front_is_short}
use Rattle.jfs_shared.specs.Both as shared
use Rattle.jfs_shared.specs.Both.{MayBeMarked}
use Rattle.jfs_shared.specs.Entries.{Recorded}
use Rattle.jfs_shared.specs.Shared.{standing as shared_standing}
use Rattle.jfs_shared.specs.declared.shared.SharedVolume.{SharedVolume}
use Rattle.jfs_turns.specs.Lists.{IsPrefix}
use Rattle.jfs_server.specs.Served.{standing, log_standing}
use Rattle.jfs_server.specs.declared.served.ServedVolume.{ServedVolume}

abbrev pub seen : Seen Recorded → shared.Seen
seen n = record { base = n.base; list = n.list; log_list = n.log_list; taken = n.taken; told = n.told; durable = n.durable; points = n.points; known = n.known; stable = n.stable }

-- a syncpoint more or none, and a mark or none, only go on
pointed_on : (points later : List ℕ) (n : ℕ) → MayBeMarked points later ⊎ MayBeMarked (points ++ n ∷ []) later → IsPrefix points later
pointed_on points later n (inl same) = behind_all points later same
pointed_on points later n (inr one) = let on = behind_all (points ++ n ∷ []) later one in (n ∷ on.0, sym (append_assoc points (n ∷ []) on.0) ∙ on.1)

abbrev pub counted : {D : Type 0} → ServedVolume D → ℕ
counted v = v.shared.points

module _ {D : Type 0} (d : Ghosts D) (x : SharedVolume D) (y : SharedLog D d) where
  pub are : (n : Seen Recorded) → AreOf (standing d) (log_standing d) n (record { shared = x }) y → shared.AreOf (shared_standing d) (log_standing d) (seen n) x y
  are n k = record { volume = k.volume; log = k.log; front = k.front; told_within = k.told_within }

  pub together : AreTogether (standing d) (log_standing d) (record { shared = x }) y → shared.AreTogether (shared_standing d) (log_standing d) x y
  together (n, k) = (seen n, are n k)

  module _ (x' : SharedVolume D) (y' : SharedLog D d) where
    abbrev Makes : Type 0
    Makes = MakesRoom (standing d) (log_standing d) counted (record { shared = x }) y (record { shared = x' }) y'

    pub committed : ((n : shared.Seen) → shared.AreOf (shared_standing d) (log_standing d) n x y → shared.Committed (shared_standing d) (log_standing d) n x' y') → Makes
    committed c = λ n k. let both = c (seen n) (are n k) in (
      n.points,
      record {
        told = length n.list;
        durable = length n.list;
        known = n.known;
        stable = n.stable;
        volume = both.0;
        log = both.1;
        counted = both.0.points_are;
        told_within = omega arith;
        durable_grows = k.durable_within;
        durable_within = omega arith;
        points_grow = ([], append-nil n.points);
        known_within = k.known_within;
        stable_grows = omega arith;
        stable_within = k.stable_within;
      },
    )

    pub lost : ((n : shared.Seen) → shared.AreOf (shared_standing d) (log_standing d) n x y → shared.Lost (shared_standing d) (log_standing d) n x' y') → Makes
    lost c = λ n k. let both = c (seen n) (are n k) in (
      both.0,
      record {
        told = n.told;
        durable = n.durable;
        known = n.known;
        stable = n.stable;
        volume = both.2;
        log = both.3;
        counted = both.2.points_are;
        told_within = k.told_within;
        durable_grows = omega arith;
        durable_within = k.durable_within;
        points_grow = behind_all n.points both.0 both.1;
        known_within = k.known_within;
        stable_grows = omega arith;
        stable_within = let w = k.stable_within in omega (arith, w, front_is_short n.points both.0 (behind_all n.points both.0 both.1));
      },
    )

    pub pointed : ((n : shared.Seen) → shared.AreOf (shared_standing d) (log_standing d) n x y → shared.Pointed (shared_standing d) (log_standing d) n x' y') → Makes
    pointed c = λ n k. let both = c (seen n) (are n k) in (
      n.points ++ length n.list ∷ [],
      record {
        told = length n.list;
        durable = length n.list;
        known = suc (length n.points);
        stable = suc (length n.points);
        volume = both.0;
        log = both.1;
        counted = both.0.points_are;
        told_within = omega arith;
        durable_grows = k.durable_within;
        durable_within = omega arith;
        points_grow = (length n.list ∷ [], refl);
        known_within = omega arith;
        stable_grows = let w = k.stable_within in omega (arith, w);
        stable_within = omega (arith, length-append n.points (length n.list ∷ []));
      },
    )

    pub partly : ((n : shared.Seen) → shared.AreOf (shared_standing d) (log_standing d) n x y → shared.PartlyPointed (shared_standing d) (log_standing d) n x' y') → Makes
    partly c = λ n k. let p = c (seen n) (are n k) in (
      p.points_now,
      record {
        told = p.told_now;
        durable = p.durable_now;
        known = n.known;
        stable = n.stable;
        volume = p.volume;
        log = p.log;
        counted = p.volume.points_are;
        told_within = p.told_within;
        durable_grows = p.durable_grows;
        durable_within = p.durable_within;
        points_grow = pointed_on n.points p.points_now (length n.list) p.points_grow;
        known_within = k.known_within;
        stable_grows = omega arith;
        stable_within = let w = k.stable_within in omega (arith, w, front_is_short n.points p.points_now (pointed_on n.points p.points_now (length n.list) p.points_grow));
      },
    )
