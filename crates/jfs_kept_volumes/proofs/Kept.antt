-- Quiet changes keep a volume that is kept.
use Rattle.std.proofs.Common.{◌≡◌, ℕ, Bool, true, List, [], ◌∷◌, sym, subst}
use Rattle.std.specs.List.{AllByRecursion}
use Rattle.jfs_commits_held.specs.volume_calls.specs.halves.specs.Half.{VolumeHalf}
use Rattle.jfs_commits_held.specs.volume_calls.specs.halves.specs.Change.{Change, Enters, Takes, Tells, HandsOut, GoesHome, Tears, Drops, Writes, WriteTears, Stops, LogStops, Syncs, Points, Knows}
use Rattle.jfs_pages_held.specs.Beside.{NoEntries, DirtyStays}
use Rattle.jfs_pages_held.proofs.Beside.{dirty_law}
use Rattle.jfs_pages_held.proofs.Stay.{stay_law}
use Rattle.jfs_kept_volumes.specs.Steps.{IsQuiet, KeptQuietLaw}
use Rattle.jfs_kept_volumes.proofs.Quiet.{quiet_law}

no_entries : (list : List Change) → AllByRecursion IsQuiet list → NoEntries list
no_entries [] all = tt
no_entries (Enters h ∷ cs) all = absurd all.0
no_entries (Takes ∷ cs) all = (tt, no_entries cs all.1)
no_entries (Tells n ∷ cs) all = (tt, no_entries cs all.1)
no_entries (HandsOut ∷ cs) all = (tt, no_entries cs all.1)
no_entries (GoesHome p ∷ cs) all = (tt, no_entries cs all.1)
no_entries (Tears p sectors fault ∷ cs) all = (tt, no_entries cs all.1)
no_entries (Drops p ∷ cs) all = (tt, no_entries cs all.1)
no_entries (Writes p bytes ∷ cs) all = (tt, no_entries cs all.1)
no_entries (WriteTears p bytes sectors fault ∷ cs) all = (tt, no_entries cs all.1)
no_entries (Stops fault ∷ cs) all = (tt, no_entries cs all.1)
no_entries (LogStops fault ∷ cs) all = (tt, no_entries cs all.1)
no_entries (Syncs ∷ cs) all = (tt, no_entries cs all.1)
no_entries (Points ∷ cs) all = (tt, no_entries cs all.1)
no_entries (Knows ∷ cs) all = (tt, no_entries cs all.1)

pub kept_quiet_law : KeptQuietLaw
kept_quiet_law m area old new list x is room silent moves keeps files =
    let gone = quiet_law m area old new list x is.rests room silent moves keeps in
    let y = gone.keeper in
    let dirty : DirtyStays x.both.volume y.both.volume = subst (λ (half : VolumeHalf). DirtyStays x.both.volume half) (sym gone.goes.half) (dirty_law x.both.volume list (no_entries list silent)) in
    record {
      keeper = y;
      kept = record { rests = gone.goes.rests; pages = stay_law m area old new x.both y.both x.core y.core x.volumes y.volumes is.rests.held gone.goes.rests.held files gone.marks dirty is.pages };
      grows = gone.goes.grows;
    }
