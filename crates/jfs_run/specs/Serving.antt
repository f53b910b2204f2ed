-- What a server leaves behind the calls of a run's clients.
use Rattle.std.specs.Prelude.{◌≡◌, ◌⊎◌, ◌≤◌, ◌==◌, ◌++◌, [], ◌∷◌, ℕ, suc, Bool, true, false, List, length, take, vec_capacity, None}
use Rattle.std.specs.Bool.{MatchBool}
use Rattle.std.specs.Global.{Vec}
use Rattle.jfs_bits.specs.declared.descriptor.Moment.{Moment}
use Rattle.jfs_disk.specs.Crash.{last_of}
use Rattle.jfs_disk.specs.Image.{Image, page_of}
use Rattle.jfs_disk.specs.Moment.{IsResting}
use Rattle.jfs_disk.specs.declared.disk.Disk.{Ghosts}
use Rattle.jfs_super.specs.declared.fields.Super.{Super}
use Rattle.jfs_plain.specs.declared.call.Line.{Line}
use Rattle.jfs_server.specs.shared.specs.Entries.{Recorded}
use Rattle.jfs_server.specs.shared.specs.Shared.{entries_in}
use Rattle.jfs_server.specs.shared.specs.kept_history.specs.Keepable.{IsKeepableImage}
use Rattle.jfs_server.specs.shared.specs.kept_history.specs.Unmounted.{LeavesKeepable}
use Rattle.jfs_server.specs.shared.specs.legal.specs.served.specs.shown.specs.meaning.specs.Image.{IsConsistentImage}
use Rattle.jfs_server.specs.shared.specs.legal.specs.served.specs.halves.specs.Parts.{Parts}
use Rattle.jfs_server.specs.shared.specs.legal.specs.served.specs.unmount.specs.Unmount.{IsAllHome}
use Rattle.jfs_run.specs.Calls.{IsEntryOf, IsTakenAs, AreOfClients, any_failed}
use Rattle.jfs_run.specs.Legal.{HasReplied}
use Rattle.jfs_run.specs.Left.{IsLeftWith}
use Rattle.jfs_run.specs.Mounted.{State, state, PartRose, Since}
use Rattle.jfs_run.specs.Tasks.{plan_of, lines_in}
use Rattle.jfs_run.specs.Telling.{marks_in, marks_left, AreAsMany}
use Rattle.jfs_server.specs.declared.stopping.Ending.TheVariants.{Home, Left}
use Rattle.jfs_run.specs.declared.serving.Called.{Called}

-- ---- the entries of a list, with their marks: whether a client's entry couldn't be made durable, and how many entries are durable

module _ (now : Moment) (failed : Bool) (durable : ℕ) where
  -- An entry of the client's line, handed at this moment. One that is marked had to be made durable, and is, where none failed.
  pub record IsMarked (client number : ℕ) (l : Line) (mark : Bool) (e : Recorded) : Type 0 where
    pub entry : IsEntryOf client l e.entry
    pub moment : e.now ≡ now
    pub taken : IsTakenAs e.entry mark
    pub reached : mark ≡ true → failed ≡ false → number ≤ durable

  -- In a list whose first entry has this number, the client's entries are those of these lines with these marks, in their order, whatever entries of others stand between.
  abbrev pub AreMarked : ℕ → ℕ → List Line → List Bool → List Recorded → Type 0
  AreMarked client n lines marks [] = (lines ≡ []) × (marks ≡ [])
  AreMarked client n lines marks (e ∷ es) = MatchBool (e.entry.client == client)
      ((l : Line) × (ls : List Line) × (m : Bool) × (ms : List Bool) × (lines ≡ l ∷ ls) × (marks ≡ m ∷ ms) × IsMarked client n l m e × AreMarked client (suc n) ls ms es)
      (AreMarked client (suc n) lines marks es)

  -- so for each client from k on
  abbrev pub EachMarked : ℕ → ℕ → List (List Line) → List (List Bool) → List Recorded → Type 0
  EachMarked k n [] [] es = Unit {0}
  EachMarked k n (lines ∷ plan) (marks ∷ more) es = AreMarked k n lines marks es × EachMarked (suc k) n plan more es
  EachMarked k n _ _ es = ⊥

-- each is a front of that
abbrev pub AreFronts : List (List Line) → List (List Line) → Type 0
AreFronts [] [] = Unit {0}
AreFronts (front ∷ fronts) (lines ∷ plan) = ((n : ℕ) × (n ≤ length lines) × (front ≡ take n lines)) × AreFronts fronts plan
AreFronts _ _ = ⊥

-- The entries of the list are those of a front of each client's lines.
pub record AreCalled (now : Moment) (failed : Bool) (durable : ℕ) (plan : List (List Line)) (marks : List (List Bool)) (list : List Recorded) : Type 0 where
  pub fronts : List (List Line)
  pub are_fronts : AreFronts fronts plan
  pub each : EachMarked now failed durable 1 1 fronts marks list
  pub others : AreOfClients (length plan) (entries_in list)

-- each script has room for a mark of each of its lines
abbrev pub HaveRoom : List (Vec Line) → List (Vec Bool) → Type 0
HaveRoom [] [] = Unit {0}
HaveRoom (script ∷ scripts) (marks ∷ more) = (marks.items ≡ []) × (length script.items ≤ vec_capacity marks) × HaveRoom scripts more
HaveRoom _ _ = ⊥

-- ---- what is left

-- The volume wasn't to be left: all its pages are home, and it runs.
pub record IsHomeFor (is_left : Bool) (p : Parts) : Type 0 where
  pub asked : is_left ≡ false
  pub home : IsAllHome p
  pub runs : p.halted ≡ None

module _ {D : Type 0} (d : Ghosts D) where
  -- The history is that of a list which the clients' calls made, of a volume that was mounted from this image and had this state.
  pub record IsCalled (scripts : List (Vec Line)) (now : Moment) (image : Image) (s : Super) (old : State) (marks : List (Vec Bool)) (x : Called D d) : Type 0 where
    pub list : List Recorded
    pub history : x.history.items ≡ entries_in list
    pub appended : x.mounted.volume.appended ≡ length list
    pub are : AreCalled now x.failed x.mounted.log.durable (plan_of scripts) (marks_in marks) list
    pub whole : x.is_whole ≡ true → AreAsMany scripts marks
    -- where an entry couldn't be made durable all are, or a call on the disk failed
    pub reached : x.failed ≡ true → (x.mounted.log.durable ≡ length list) ⊎ PartRose old (state d x.mounted.volume x.mounted.log)
    pub replied : d.tells → IsConsistentImage s (page_of image) → HasReplied s (page_of image) now x.history.items x.mounted.volume
    pub left : d.tells → d.tells_crashes → IsKeepableImage s image
        → IsLeftWith s image now x.history.items x.mounted.log.durable (last_of x.mounted.volume.past ++ last_of (d.past x.mounted.log.part))
    -- an image that the volume leaves when it is unmounted is keepable again
    pub again : d.tells → d.tells_crashes → IsKeepableImage s image → LeavesKeepable s (page_of image) x.mounted.volume
    -- where all pages are home, none of the volume's part is pending
    pub rests : d.tells → d.tells_crashes → x.ending ≡ Home → IsKeepableImage s image → IsResting (last_of x.mounted.volume.past)

  -- Its calls are such, and there are no more marks than lines; unless a call on the disk failed, no call was refused for a fault.
  pub record IsServed (scripts : List (Vec Line)) (now : Moment) (is_left : Bool) (image : Image) (s : Super) (old : State) (marks : List (Vec Bool)) (x : Called D d) : Type 0 where
    pub calls : IsCalled scripts now image s old marks x
    pub few : (length marks ≡ length scripts) × (marks_left (marks_in marks) ≤ lines_in (plan_of scripts))
    pub since : Since old (state d x.mounted.volume x.mounted.log)
    pub calm : (any_failed x.history.items ≡ false) ⊎ PartRose old (state d x.mounted.volume x.mounted.log)
    pub home : x.ending ≡ Home → IsHomeFor is_left x.mounted.volume
    -- pages may be dirty where the volume was to be left, or a call on the disk failed
    pub left_for : x.ending ≡ Left → (is_left ≡ true) ⊎ PartRose old (state d x.mounted.volume x.mounted.log)
