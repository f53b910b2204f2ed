-- What each call does to a file tree, and when it is refused: the causes stand in the order in which they are looked at. (POSIX: mkdir, open with O_CREAT and
-- O_EXCL, symlink, link, unlink, rmdir, rename, chmod, pwrite, truncate, pread, stat, readdir, readlink, sync.)
use Rattle.std.specs.Prelude.{◌≡◌, ℕ, zero, suc, ◌+◌, ◌-◌, ◌/◌, Bool, not, ◌&&◌, ◌||◌, ◌==◌, nat_le, nat_lt, if◌then◌else◌, length, replicate, min, max, List, [], ◌∷◌, Option, Some, None, Result, Ok, Err}
use Rattle.jfs_bits.specs.declared.descriptor.Moment.{Moment}
use Rattle.jfs_name.specs.declared.name.NameEntry.{NameEntry}
use Rattle.jfs_plain.specs.Tree.{Tree, is_dir, is_file, is_link, and_then, Found, object, Place, place, at_place, new_place, passes}
use Rattle.jfs_plain.specs.Moves.{stamped, gains, loses, leads, rises, falls, permits, sized, arrives, displaced, shifts, new_directory, new_file, new_link, changed, made, dropped, unnamed, filled, cut, Same}
use Rattle.jfs_plain.specs.declared.call.Call.{Call}
use Rattle.jfs_plain.specs.declared.call.Call.TheVariants as calls
use Rattle.jfs_plain.specs.declared.node.Node.{Node}
use Rattle.jfs_plain.specs.declared.refusal.Refusal.{Refusal}
use Rattle.jfs_plain.specs.declared.refusal.Refusal.TheVariants.{NotDir, IsDir, NotFile, NotEmpty, TooManyLinks, FileTooBig, IntoItself, NoSpace, NoInodes, TooDeep}
use Rattle.jfs_plain.specs.declared.reply.Reply.{Reply}
use Rattle.jfs_plain.specs.declared.reply.Reply.TheVariants.{Done, Bytes, Attr, Names, Target, Refused}
use Rattle.jfs_plain.specs.declared.reply.Stat.{Stat}

-- The room of a volume: the greatest size of a file, the number of free blocks, whether the tree of a directory can't take a name, and the inode that a new object gets.
pub record Room : Type 0 where
  pub limit : ℕ
  pub free : ℕ
  pub deep : ℕ → List ℕ → Bool
  pub inode : Option ℕ

-- a reply and the tree after it, or a refusal, which leaves the tree
abbrev pub Outcome : Type 0
Outcome = Result (Reply × Tree) Refusal

-- refused for this cause, if it is there; else the rest
abbrev pub refuse : Bool → Refusal → Outcome → Outcome
refuse cause why rest = if cause then Err why else rest

-- ---- causes

-- the greatest link count
abbrev pub is_full : ℕ → Bool
is_full links = nat_le 65535 links

abbrev pub links_in : Option Node → ℕ
links_in None = 0
links_in (Some o) = o.links

abbrev pub links_of : Tree → ℕ → ℕ
links_of t n = links_in (t.nodes n)

-- 64 blocks are always kept
abbrev pub is_short : Room → ℕ → Bool
is_short room need = nat_lt room.free (need + 64)

abbrev pub why_short : Room → ℕ → Option Refusal
why_short room need = if is_short room need then Some (NoSpace room.free) else None

abbrev pub is_deep : Room → Place → Bool
is_deep room p = room.deep p.dir p.name

abbrev pub has_names : Node → Bool
has_names o = not (length o.names == 0)

-- how many blocks a range of bytes touches
abbrev pub blocks_in : ℕ → ℕ → ℕ
blocks_in offset count = (offset + count - 1) / 4096 + 1 - offset / 4096

-- ---- how many blocks a call may need: for an object with its name, for a name, and for bytes of a file

abbrev pub need_of_object : ℕ
need_of_object = 12

abbrev pub need_of_name : ℕ
need_of_name = 8

abbrev pub need_of_bytes : ℕ → ℕ → ℕ
need_of_bytes offset count = blocks_in offset count + 8

abbrev pub need : Call → ℕ
need (calls.Mkdir path mode) = need_of_object
need (calls.Create path mode) = need_of_object
need (calls.Symlink path target) = need_of_object
need (calls.Link from to) = need_of_name
need (calls.Rename from to) = need_of_name
need (calls.Write path offset new) = need_of_bytes offset (length new)
need (calls.Fill path offset count byte) = need_of_bytes offset count
need _ = 0

-- a file that is above the limit, with its last name
abbrev pub is_last_of_big : ℕ → Node → Bool
is_last_of_big limit o = is_file o.kind && nat_le o.links 1 && nat_lt limit o.size

-- ---- new names

abbrev pub entry_as : List ℕ → ℕ → NameEntry
entry_as name n = record { name = name; inode = n }

abbrev pub gained : Place → ℕ → Moment → Tree → Tree
gained p n now t = changed p.dir (gains (entry_as p.name n) now) t

abbrev pub lost : Place → Moment → Tree → Tree
lost p now t = changed p.dir (loses p.name now) t

abbrev pub with_fresh : Option ℕ → (ℕ → Outcome) → Outcome
with_fresh None f = Err NoInodes
with_fresh (Some n) f = f n

-- a new object at a place, and what else becomes of the tree
abbrev pub makes : Room → Place → Moment → Node → (Tree → Tree) → Tree → Outcome
makes room p now o after t =
    refuse (is_short room need_of_object) (NoSpace room.free)
    (with_fresh room.inode (λ n. refuse (is_deep room p) (TooDeep p.dir)
    (Ok (Done, after (gained p n now (made n o t))))))

abbrev pub mkdir : Room → Tree → List (List ℕ) → ℕ → Moment → Outcome
mkdir room t path mode now = and_then (new_place t path) (λ p.
    refuse (is_full (links_of t p.dir)) TooManyLinks
    (makes room p now (new_directory mode p.dir now) (λ u. changed p.dir rises u) t))

abbrev pub create : Room → Tree → List (List ℕ) → ℕ → Moment → Outcome
create room t path mode now = and_then (new_place t path) (λ p. makes room p now (new_file mode now) (λ u. u) t)

abbrev pub symlink : Room → Tree → List (List ℕ) → List ℕ → Moment → Outcome
symlink room t path target now = and_then (new_place t path) (λ p. makes room p now (new_link target now) (λ u. u) t)

abbrev pub link : Room → Tree → List (List ℕ) → List (List ℕ) → Moment → Outcome
link room t from to now = and_then (object t from) (λ o.
    refuse (is_dir o.node.kind) IsDir
    (and_then (new_place t to) (λ p.
    refuse (is_full o.node.links) TooManyLinks
    (refuse (is_short room need_of_name) (NoSpace room.free)
    (refuse (is_deep room p) (TooDeep p.dir)
    (Ok (Done, changed o.inode (stamped now) (changed o.inode rises (gained p o.inode now t)))))))))

-- ---- names that go

abbrev pub unlink : Room → Tree → List (List ℕ) → Moment → Outcome
unlink room t path now = and_then (object t path) (λ o.
    refuse (is_dir o.node.kind) IsDir
    (refuse (is_last_of_big room.limit o.node) FileTooBig
    (and_then (place t path) (λ p. Ok (Done, unnamed o.inode o.node.links now (lost p now t))))))

abbrev pub rmdir : Tree → List (List ℕ) → Moment → Outcome
rmdir t path now =
    refuse (length path == 0) IntoItself
    (and_then (object t path) (λ o.
    refuse (not (is_dir o.node.kind)) NotDir
    (refuse (has_names o.node) NotEmpty
    (and_then (place t path) (λ p. Ok (Done, dropped o.inode (changed p.dir falls (lost p now t))))))))

-- ---- rename

-- what a name leads to
abbrev pub found_of : Option ℕ → Option Node → Option Found
found_of None old = None
found_of (Some n) None = None
found_of (Some n) (Some old) = Some (record { inode = n; node = old })

abbrev pub node_of : Tree → Option ℕ → Option Node
node_of t None = None
node_of t (Some n) = t.nodes n

abbrev pub occupant : Tree → Place → Option Found
occupant t p = found_of (at_place t p) (node_of t (at_place t p))

-- An object that has its new name loses the old one.
abbrev pub departs : ℕ → Bool → Place → ℕ → Moment → Tree → Tree
departs n is_dir p to now t = lost p now (arrives n is_dir to now t)

-- Why an object can't go where nothing is: it is a directory that would come below itself, or its new directory has too many.
abbrev pub why_barred : Bool → Bool → Bool → ℕ → Option Refusal
why_barred by_dir inside stays links =
    if by_dir && inside then Some IntoItself else
    if by_dir && not stays && is_full links then Some TooManyLinks else None

-- Why it can't take the name of another: what stands there has to be of the same kind, and without names.
abbrev pub why_kept : ℕ → Bool → Bool → Node → Option Refusal
why_kept limit by_dir inside old =
    if by_dir && inside then Some IntoItself else
    if not by_dir && is_dir old.kind then Some IsDir else
    if by_dir && not (is_dir old.kind) then Some NotDir else
    if by_dir && has_names old then Some NotEmpty else
    if is_last_of_big limit old then Some FileTooBig else None

abbrev pub unless : Option Refusal → Outcome → Outcome
unless None rest = rest
unless (Some why) rest = Err why

-- Object n, from its place to one where nothing is, or something. Two names of one object: nothing changes.
abbrev pub renamed : Room → Tree → ℕ → Bool → Bool → Place → Place → Moment → Option Found → Outcome
renamed room t n by_dir inside p q now None =
    unless (why_barred by_dir inside (p.dir == q.dir) (links_of t q.dir))
    (refuse (is_short room need_of_name) (NoSpace room.free)
    (refuse (is_deep room q) (TooDeep q.dir)
    (Ok (Done, departs n by_dir p q.dir now (shifts by_dir p.dir q.dir (gained q n now t))))))
renamed room t n by_dir inside p q now (Some old) =
    if old.inode == n then Ok (Done, t) else
    (unless (why_kept room.limit by_dir inside old.node)
    (refuse (is_short room need_of_name) (NoSpace room.free)
    (refuse (is_deep room q) (TooDeep q.dir)
    (Ok (Done, departs n by_dir p q.dir now (displaced old.inode by_dir old.node.links p.dir now (changed q.dir (leads q.name n now) t)))))))

abbrev pub rename : Room → Tree → List (List ℕ) → List (List ℕ) → Moment → Outcome
rename room t from to now = and_then (object t from) (λ o.
    refuse (length from == 0 || length to == 0) IntoItself
    (and_then (place t from) (λ p. and_then (place t to) (λ q. renamed room t o.inode (is_dir o.node.kind) (passes t to o.inode) p q now (occupant t q)))))

-- ---- attributes and contents

abbrev pub chmod : Tree → List (List ℕ) → ℕ → Moment → Outcome
chmod t path mode now = and_then (object t path) (λ o. Ok (Done, changed o.inode (stamped now) (changed o.inode (permits mode) t)))

-- a regular file is wanted
abbrev pub if_file : Found → Result Found Refusal
if_file o = if is_dir o.node.kind then Err IsDir else if not (is_file o.node.kind) then Err NotFile else Ok o

abbrev pub file : Tree → List (List ℕ) → Result Found Refusal
file t path = and_then (object t path) if_file

-- the size of a file that is to reach to an end, if the limit allows it
abbrev pub size_after : ℕ → ℕ → ℕ → Option ℕ
size_after limit size end = if nat_lt limit (max size end) then None else Some (max size end)

abbrev pub within_limit : Option ℕ → (ℕ → Outcome) → Outcome
within_limit None f = Err FileTooBig
within_limit (Some size) f = f size

abbrev pub write : Room → Tree → List (List ℕ) → ℕ → List ℕ → Moment → Outcome
write room t path offset new now = and_then (file t path) (λ o. within_limit (size_after room.limit o.node.size (offset + length new)) (λ size.
    refuse (is_short room (need_of_bytes offset (length new))) (NoSpace room.free)
    (Ok (Done, changed o.inode (sized size now) (filled o.inode offset new t)))))

abbrev pub truncate : Room → Tree → List (List ℕ) → ℕ → Moment → Outcome
truncate room t path size now = and_then (file t path) (λ o.
    refuse (nat_lt room.limit (max o.node.size size)) FileTooBig
    (Ok (Done, changed o.inode (sized size now) (cut o.inode size t))))

-- the bytes from an offset on
unfoldable pub bytes_from : (ℕ → ℕ) → ℕ → ℕ → List ℕ
bytes_from f offset zero = []
bytes_from f offset (suc count) = f offset ∷ bytes_from f (suc offset) count

-- up to the end of the file
abbrev pub read : Tree → List (List ℕ) → ℕ → ℕ → Outcome
read t path offset count = and_then (file t path) (λ o. Ok (Bytes (bytes_from (t.bytes o.inode) offset (min count (o.node.size - offset))), t))

-- ---- what is asked

-- a directory's size isn't told
abbrev pub shown_size : Node → ℕ
shown_size o = if is_dir o.kind then 0 else o.size

abbrev pub stat_of : ℕ → Node → Stat
stat_of n o = record { kind = o.kind; mode = o.mode; nlink = o.links; uid = o.uid; gid = o.gid; size = shown_size o; inode = n; mtime = o.times.modified }

abbrev pub stat : Tree → List (List ℕ) → Outcome
stat t path = and_then (object t path) (λ o. Ok (Attr (stat_of o.inode o.node), t))

abbrev pub listed : Tree → List (List ℕ) → Outcome
listed t path = and_then (object t path) (λ o. refuse (not (is_dir o.node.kind)) NotDir (Ok (Names o.node.names, t)))

abbrev pub readlink : Tree → List (List ℕ) → Outcome
readlink t path = and_then (object t path) (λ o. refuse (not (is_link o.node.kind)) NotFile (Ok (Target o.node.target, t)))

-- ---- every call

abbrev pub outcome : Room → Tree → Call → Moment → Outcome
outcome room t (calls.Mkdir path mode) now = mkdir room t path mode now
outcome room t (calls.Create path mode) now = create room t path mode now
outcome room t (calls.Symlink path target) now = symlink room t path target now
outcome room t (calls.Link from to) now = link room t from to now
outcome room t (calls.Unlink path) now = unlink room t path now
outcome room t (calls.Rmdir path) now = rmdir t path now
outcome room t (calls.Rename from to) now = rename room t from to now
outcome room t (calls.Chmod path mode) now = chmod t path mode now
outcome room t (calls.Write path offset new) now = write room t path offset new now
outcome room t (calls.Fill path offset count byte) now = write room t path offset (replicate count byte) now
outcome room t (calls.Truncate path size) now = truncate room t path size now
outcome room t (calls.Read path offset count) now = read t path offset count
outcome room t (calls.Stat path) now = stat t path
outcome room t (calls.List path) now = listed t path
outcome room t (calls.Readlink path) now = readlink t path
outcome room t calls.Sync now = Ok (Done, t)

-- the reply is that of an outcome, and so is the tree
abbrev pub Answers : Tree → Outcome → Reply → Tree → Type 0
Answers t (Err why) reply u = (reply ≡ Refused why) × Same t u
Answers t (Ok result) reply u = (reply ≡ result.0) × Same result.1 u

-- The plain step: of this tree, with this room, the call gets this reply, and leaves that tree.
abbrev pub PlainStep : Tree → Room → Call → Moment → Reply → Tree → Type 0
PlainStep t room call now reply u = Answers t (outcome room t call now) reply u
