-- What each call answers whatever the volume holds.
use Rattle.std.specs.Prelude.{◌≡◌, ◌⊎◌, ℕ, Bool, true, false, List, [], length, replicate, Result, Ok, Err}
use Rattle.std.specs.Borrow.{Bor}
use Rattle.jfs_bits.specs.declared.descriptor.Moment.{Moment}
use Rattle.jfs_imap.specs.Inodes.{Inodes}
use Rattle.jfs_create.specs.bmap.specs.States.{Blocks}
use Rattle.jfs_ranges.specs.declared.edit.Edit.{Edit}
use Rattle.jfs_plain.specs.declared.call.Call.{Call}
use Rattle.jfs_plain.specs.declared.call.Call.TheVariants as calls
use Rattle.jfs_plain.specs.declared.refusal.Refusal.{Refusal}
use Rattle.jfs_plain.specs.declared.reply.Reply.{Reply}
use Rattle.jfs_plain.specs.declared.reply.Reply.TheVariants.{Done, Bytes, Attr, Names, Target, Refused}
use Rattle.jfs_look.specs.way.specs.Answer.{is_open, Answers}
use Rattle.jfs_look.specs.way.specs.Way.{path_of}
use Rattle.jfs_look.specs.way.specs.declared.object.Held.{Held}
use Rattle.jfs_chmod.specs.Call.{SetsMode}
use Rattle.jfs_create.specs.Reserved.{IsMade, IsStopped}
use Rattle.jfs_create.specs.declared.new.NewObject.{NewObject}
use Rattle.jfs_create.specs.declared.new.NewObject.TheVariants.{File, Directory, Link}
use Rattle.jfs_create.specs.declared.reserve.Stop.TheVariants as stops
use Rattle.jfs_create.specs.link.specs.Link.{LinksAs}
use Rattle.jfs_create.specs.link.specs.declared.linking.Linked.TheVariants as linked
use Rattle.jfs_look.specs.Look.{stat_at, names_at}
use Rattle.jfs_truncate.specs.read.specs.Read.{read_at}
use Rattle.jfs_readlink.specs.Target.{target_at}
use Rattle.jfs_rename.specs.unlink.specs.Call.{Unlinks, unlink_of, Removes, rmdir_of}
use Rattle.jfs_truncate.specs.Call.{truncate_of, Truncates}
use Rattle.jfs_files.specs.Bytes.{MeetsBytes}
use Rattle.jfs_files.specs.Renames.{MeetsRename}
use Rattle.jfs_map_files.specs.declared.maps.Maps.{Maps}
use Rattle.jfs_files.specs.declared.outcome.FileOutcome.{FileOutcome}
use Rattle.jfs_files.specs.declared.outcome.FileOutcome.TheVariants.{Changed, Same, NeedsLog}

-- ---- kinds of calls

-- those that only look
abbrev pub looks : Call → Bool
looks (calls.Read path offset count) = true
looks (calls.Stat path) = true
looks (calls.List path) = true
looks (calls.Readlink path) = true
looks _ = false

-- those that change the tree and take no block
abbrev pub takes_none : Call → Bool
takes_none (calls.Unlink path) = true
takes_none (calls.Rmdir path) = true
takes_none (calls.Chmod path mode) = true
takes_none _ = false

-- those that give a name
abbrev pub gives_name : Call → Bool
gives_name (calls.Mkdir path mode) = true
gives_name (calls.Create path mode) = true
gives_name (calls.Symlink path target) = true
gives_name (calls.Link from to) = true
gives_name _ = false

-- ---- their answers

-- what is told, or why it is refused, as a reply
abbrev pub replied : {X : Type 0} → (X → Reply) → Result X Refusal → Reply
replied f (Ok x) = f x
replied f (Err why) = Refused why

-- the reply is this one, or it is refused for a fault or want of memory
abbrev pub OrOpen : Reply → Reply → Type 0
OrOpen given (Refused why) = (given ≡ Refused why) ⊎ (is_open why ≡ true)
OrOpen given reply = given ≡ reply

-- what a call that only looks is told
abbrev pub looked : ℕ → (ℕ → List ℕ) → Inodes → Call → Reply
looked blocks pages inodes (calls.Read path offset count) = replied (λ bytes. Bytes bytes) (read_at blocks pages inodes path offset count)
looked blocks pages inodes (calls.Stat path) = replied (λ stat. Attr stat) (stat_at blocks pages inodes path)
looked blocks pages inodes (calls.List path) = replied (λ names. Names names) (names_at blocks pages inodes path)
looked blocks pages inodes (calls.Readlink path) = replied (λ target. Target target) (target_at blocks pages inodes path)
looked blocks pages inodes _ = Done

-- nothing changes
abbrev pub Tells : Reply → FileOutcome → Type 0
Tells given (Same reply) = OrOpen given reply
Tells given (Changed tx blocks) = ⊥
Tells given NeedsLog = ⊥

-- it is refused as the walk of a path is
abbrev pub IsRefusedBy : Result Held Refusal → Reply → Type 0
IsRefusedBy way (Refused why) = Answers way (Err why)
IsRefusedBy way _ = ⊥

-- The transaction does what is said of it, and no block of a file is written; or the call is refused.
abbrev pub MeetsChange : (List Edit → Type 0) → Result Held Refusal → FileOutcome → Type 0
MeetsChange does way (Changed tx written) = does tx × (written ≡ [])
MeetsChange does way (Same reply) = IsRefusedBy way reply
MeetsChange does way NeedsLog = ⊥

abbrev pub MeetsMode : ℕ → (ℕ → List ℕ) → Inodes → List (List ℕ) → ℕ → Moment → FileOutcome → Type 0
MeetsMode blocks pages inodes path mode now outcome = MeetsChange (SetsMode blocks pages inodes path mode now) (path_of blocks pages inodes path) outcome

-- The file at the end of a path gets a size, by this data and this transaction; or it is refused.
abbrev pub MeetsSize : ℕ → (ℕ → List ℕ) → Maps → List (List ℕ) → ℕ → Moment → FileOutcome → Type 0
MeetsSize blocks pages maps path size now (Changed tx written) = Truncates blocks pages maps.inodes path size maps.file_limit now (record { tx = tx; blocks = written })
MeetsSize blocks pages maps path size now (Same reply) = IsRefusedBy (truncate_of blocks pages maps.inodes path size maps.file_limit) reply
MeetsSize blocks pages maps path size now NeedsLog = ⊥

-- it is refused as a link is
abbrev pub IsLinkRefused : ℕ → (ℕ → List ℕ) → Maps → List (List ℕ) → List (List ℕ) → Moment → Reply → Type 0
IsLinkRefused blocks pages maps from to now (Refused why) = LinksAs blocks pages maps.blocks maps.inodes from to now (Err why)
IsLinkRefused blocks pages maps from to now _ = ⊥

-- The object is made, with the map that its transaction leads to; or it is refused, or a commit is due, each for its cause.
abbrev pub IsNewRefused : ℕ → (ℕ → List ℕ) → Maps → List (List ℕ) → NewObject → Moment → Reply → Type 0
IsNewRefused blocks pages maps path object now (Refused why) = IsStopped blocks pages maps.inodes path object now maps.blocks (stops.Refused why)
IsNewRefused blocks pages maps path object now _ = ⊥

abbrev pub MeetsNew : ℕ → (ℕ → List ℕ) → Maps → List (List ℕ) → Moment → FileOutcome → NewObject → Type 0
MeetsNew blocks pages maps path now (Changed tx written) object = ((after : Blocks) × IsMade blocks pages maps.inodes path object now maps.blocks after tx) × (written ≡ [])
MeetsNew blocks pages maps path now (Same reply) object = IsNewRefused blocks pages maps path object now reply
MeetsNew blocks pages maps path now NeedsLog object = IsStopped blocks pages maps.inodes path object now maps.blocks stops.NeedsLog

-- a link with these bytes as its target
abbrev pub WithTarget : List ℕ → (NewObject → Type 0) → Type 0
WithTarget target fact = (bytes : Bor (List ℕ)) × (bytes.now ≡ target) × fact (Link bytes)

abbrev pub MeetsLink : ℕ → (ℕ → List ℕ) → Maps → List (List ℕ) → List (List ℕ) → Moment → FileOutcome → Type 0
MeetsLink blocks pages maps from to now (Changed tx written) = LinksAs blocks pages maps.blocks maps.inodes from to now (Ok (linked.Done tx)) × (written ≡ [])
MeetsLink blocks pages maps from to now (Same reply) = IsLinkRefused blocks pages maps from to now reply
MeetsLink blocks pages maps from to now NeedsLog = LinksAs blocks pages maps.blocks maps.inodes from to now (Ok linked.NeedsLog)

abbrev pub Meets : ℕ → (ℕ → List ℕ) → Maps → Call → Moment → FileOutcome → Type 0
Meets blocks pages maps (calls.Mkdir path mode) now outcome = MeetsNew blocks pages maps path now outcome (Directory mode)
Meets blocks pages maps (calls.Create path mode) now outcome = MeetsNew blocks pages maps path now outcome (File mode)
Meets blocks pages maps (calls.Symlink path target) now outcome = WithTarget target (MeetsNew blocks pages maps path now outcome)
Meets blocks pages maps (calls.Link from to) now outcome = MeetsLink blocks pages maps from to now outcome
Meets blocks pages maps (calls.Rename from to) now outcome = MeetsRename blocks pages maps from to now outcome
Meets blocks pages maps (calls.Unlink path) now outcome = MeetsChange (Unlinks blocks pages maps.inodes path maps.file_limit now) (unlink_of blocks pages maps.inodes path maps.file_limit) outcome
Meets blocks pages maps (calls.Rmdir path) now outcome = MeetsChange (Removes blocks pages maps.inodes path now) (rmdir_of blocks pages maps.inodes path) outcome
Meets blocks pages maps (calls.Chmod path mode) now outcome = MeetsMode blocks pages maps.inodes path mode now outcome
Meets blocks pages maps (calls.Truncate path size) now outcome = MeetsSize blocks pages maps path size now outcome
Meets blocks pages maps (calls.Write path offset new) now outcome = MeetsBytes blocks pages maps path offset new (length new) now outcome
Meets blocks pages maps (calls.Fill path offset count byte) now outcome = MeetsBytes blocks pages maps path offset (replicate count byte) count now outcome
Meets blocks pages maps (calls.Read path offset count) now outcome = Tells (looked blocks pages maps.inodes (calls.Read path offset count)) outcome
Meets blocks pages maps (calls.Stat path) now outcome = Tells (looked blocks pages maps.inodes (calls.Stat path)) outcome
Meets blocks pages maps (calls.List path) now outcome = Tells (looked blocks pages maps.inodes (calls.List path)) outcome
Meets blocks pages maps (calls.Readlink path) now outcome = Tells (looked blocks pages maps.inodes (calls.Readlink path)) outcome
Meets blocks pages maps calls.Sync now outcome = Tells Done outcome
