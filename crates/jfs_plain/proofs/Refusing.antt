-- No plain step answers a fault, damage or want of memory.
use Rattle.std.proofs.Common.{◌≡◌, ◌∙◌, refl, ap, ℕ, Bool, true, false, not, nat_lt, ◌==◌, ◌&&◌, ◌||◌, length, replicate, max, if◌then◌else◌, List, [], ◌∷◌, Option, Some, None, Result, Ok, Err}
use Rattle.jfs_bits.specs.declared.descriptor.Moment.{Moment}
use Rattle.jfs_name.specs.Directory.{named}
use Rattle.jfs_plain.specs.Tree.{Tree, root, is_dir, is_file, is_link, and_then, wanted, enter_from, enter, walk, Found, found, object, Place, place_as, in_directory, place_from, place, at_place, unless_there, new_place, passes}
use Rattle.jfs_plain.specs.Moves.{Same, new_directory, new_file, new_link, changed, rises}
use Rattle.jfs_plain.specs.Step.{Room, Outcome, refuse, is_full, is_short, is_deep, links_of, has_names, is_last_of_big, need_of_object, need_of_name, need_of_bytes, with_fresh, makes, occupant, why_barred, why_kept, unless, renamed, if_file, file, size_after, within_limit, write, outcome, Answers, PlainStep}
use Rattle.jfs_plain.specs.CallStep.{no_cause, CallStep, CallStepLaw, RefusalLaw}
use Rattle.jfs_plain.specs.declared.call.Call.{Call}
use Rattle.jfs_plain.specs.declared.call.Call.TheVariants as calls
use Rattle.jfs_plain.specs.declared.node.Node.{Node}
use Rattle.jfs_plain.specs.declared.refusal.Refusal.{Refusal}
use Rattle.jfs_plain.specs.declared.refusal.Refusal.TheVariants as refusals
use Rattle.jfs_plain.specs.declared.reply.Reply.{Reply}
use Rattle.jfs_plain.specs.declared.reply.Reply.TheVariants as replies

-- the refusals of plain steps
abbrev is_plain : Refusal → Bool
is_plain (refusals.ReadOnly fault) = false
is_plain (refusals.IoFault fault) = false
is_plain refusals.OutOfMemory = false
is_plain (refusals.Damaged page rule) = false
is_plain _ = true

abbrev is_plain_reply : Reply → Bool
is_plain_reply (replies.Refused why) = is_plain why
is_plain_reply _ = true

abbrev is_answer : Reply → Bool
is_answer (replies.Refused why) = false
is_answer _ = true

-- what is looked for is found, or the refusal is a plain one
abbrev IsFound : {X : Type 0} → Result X Refusal → Type 0
IsFound (Ok x) = Unit {0}
IsFound (Err why) = is_plain why ≡ true

abbrev IsProper : Outcome → Type 0
IsProper (Ok result) = is_answer result.0 ≡ true
IsProper (Err why) = is_plain why ≡ true

abbrev IsProperCause : Option Refusal → Type 0
IsProperCause None = Unit {0}
IsProperCause (Some why) = is_plain why ≡ true

-- ---- what is looked for

found_then : {X Y : Type 0} (r : Result X Refusal) (f : X → Result Y Refusal) → IsFound r → ((x : X) → IsFound (f x)) → IsFound (and_then r f)
found_then (Ok x) f r h = h x
found_then (Err why) f r h = r

found_where : {X : Type 0} (b : Bool) (r s : Result X Refusal) → IsFound r → IsFound s → IsFound (if b then r else s)
found_where true r s p q = p
found_where false r s p q = q

is_wanted : (n : Option ℕ) → IsFound (wanted n)
is_wanted None = refl
is_wanted (Some n) = tt

enters_from : (o : Option Node) (name : List ℕ) → IsFound (enter_from o name)
enters_from None name = refl
enters_from (Some o) name = found_where (is_dir o.kind) (wanted (named name o.names)) (Err refusals.NotDir) (is_wanted (named name o.names)) refl

walks : (t : Tree) (n : ℕ) (names : List (List ℕ)) → IsFound (walk t n names)
walks t n [] = tt
walks t n (name ∷ names) = found_then (enter t n name) (λ m. walk t m names) (enters_from (t.nodes n) name) (λ m. walks t m names)

is_there : (n : ℕ) (o : Option Node) → IsFound (found n o)
is_there n None = refl
is_there n (Some o) = tt

has_object : (t : Tree) (path : List (List ℕ)) → IsFound (object t path)
has_object t path = found_then (walk t root path) (λ n. found n (t.nodes n)) (walks t root path) (λ n. is_there n (t.nodes n))

is_directory : (o : Option Node) (n : ℕ) (name : List ℕ) → IsFound (in_directory o (place_as n name))
is_directory None n name = refl
is_directory (Some o) n name = found_where (is_dir o.kind) (place_as n name) (Err refusals.NotDir) tt refl

places : (t : Tree) (n : ℕ) (name : List ℕ) (names : List (List ℕ)) → IsFound (place_from t n name names)
places t n name [] = is_directory (t.nodes n) n name
places t n name (next ∷ names) = found_then (enter t n name) (λ m. place_from t m next names) (enters_from (t.nodes n) name) (λ m. places t m next names)

has_place : (t : Tree) (path : List (List ℕ)) → IsFound (place t path)
has_place t [] = refl
has_place t (name ∷ names) = places t root name names

is_new : (n : Option ℕ) (p : Place) → IsFound (unless_there n p)
is_new None p = tt
is_new (Some n) p = refl

has_new_place : (t : Tree) (path : List (List ℕ)) → IsFound (new_place t path)
has_new_place t path = found_then (place t path) (λ p. unless_there (at_place t p) p) (has_place t path) (λ p. is_new (at_place t p) p)

is_a_file : (o : Found) → IsFound (if_file o)
is_a_file o = found_where (is_dir o.node.kind) (Err refusals.IsDir) (if not (is_file o.node.kind) then Err refusals.NotFile else Ok o) refl (found_where (not (is_file o.node.kind)) (Err refusals.NotFile) (Ok o) refl tt)

has_file : (t : Tree) (path : List (List ℕ)) → IsFound (file t path)
has_file t path = found_then (object t path) if_file (has_object t path) is_a_file

-- ---- what is decided

after : {X : Type 0} (r : Result X Refusal) (f : X → Outcome) → IsFound r → ((x : X) → IsProper (f x)) → IsProper (and_then r f)
after (Ok x) f r h = h x
after (Err why) f r h = r

past : (b : Bool) (why : Refusal) (rest : Outcome) → is_plain why ≡ true → IsProper rest → IsProper (refuse b why rest)
past true why rest p h = p
past false why rest p h = h

past_cause : (cause : Option Refusal) (rest : Outcome) → IsProperCause cause → IsProper rest → IsProper (unless cause rest)
past_cause None rest p h = h
past_cause (Some why) rest p h = p

cause_where : (b : Bool) (why : Refusal) (rest : Option Refusal) → is_plain why ≡ true → IsProperCause rest → IsProperCause (if b then Some why else rest)
cause_where true why rest p h = p
cause_where false why rest p h = h

either : (b : Bool) (x y : Outcome) → IsProper x → IsProper y → IsProper (if b then x else y)
either true x y p q = p
either false x y p q = q

with_inode : (n : Option ℕ) (f : ℕ → Outcome) → ((k : ℕ) → IsProper (f k)) → IsProper (with_fresh n f)
with_inode None f h = refl
with_inode (Some n) f h = h n

within : (size : Option ℕ) (f : ℕ → Outcome) → ((k : ℕ) → IsProper (f k)) → IsProper (within_limit size f)
within None f h = refl
within (Some size) f h = h size

making : (room : Room) (p : Place) (now : Moment) (o : Node) (more : Tree → Tree) (t : Tree) → IsProper (makes room p now o more t)
making room p now o more t = past (is_short room need_of_object) _ _ refl (with_inode room.inode _ (λ n. past (is_deep room p) _ _ refl refl))

-- a call that takes a name: space and depth are looked at
naming : (room : Room) (p : Place) (u : Tree) → IsProper (refuse (is_short room need_of_name) (refusals.NoSpace room.free) (refuse (is_deep room p) (refusals.TooDeep p.dir) (Ok (replies.Done, u))))
naming room p u = past (is_short room need_of_name) _ _ refl (past (is_deep room p) _ _ refl refl)

barred : (by_dir inside stays : Bool) (links : ℕ) → IsProperCause (why_barred by_dir inside stays links)
barred by_dir inside stays links = cause_where (by_dir && inside) _ _ refl (cause_where (by_dir && not stays && is_full links) _ _ refl tt)

kept : (limit : ℕ) (by_dir inside : Bool) (o : Node) → IsProperCause (why_kept limit by_dir inside o)
kept limit by_dir inside o =
    cause_where (by_dir && inside) _ _ refl (cause_where (not by_dir && is_dir o.kind) _ _ refl (cause_where (by_dir && not (is_dir o.kind)) _ _ refl
    (cause_where (by_dir && has_names o) _ _ refl (cause_where (is_last_of_big limit o) _ _ refl tt))))

renaming : (room : Room) (t : Tree) (n : ℕ) (by_dir inside : Bool) (p q : Place) (now : Moment) (o : Option Found) → IsProper (renamed room t n by_dir inside p q now o)
renaming room t n by_dir inside p q now None = past_cause (why_barred by_dir inside (p.dir == q.dir) (links_of t q.dir)) _ (barred by_dir inside (p.dir == q.dir) (links_of t q.dir)) (naming room q _)
renaming room t n by_dir inside p q now (Some old) = either (old.inode == n) _ _ refl (past_cause (why_kept room.limit by_dir inside old.node) _ (kept room.limit by_dir inside old.node) (naming room q _))

-- ---- every call

writing : (room : Room) (t : Tree) (path : List (List ℕ)) (offset : ℕ) (new : List ℕ) (now : Moment) → IsProper (write room t path offset new now)
writing room t path offset new now = after (file t path) _ (has_file t path) (λ o. within (size_after room.limit o.node.size _) _ (λ size. past (is_short room (need_of_bytes offset (length new))) _ _ refl refl))

proper : (room : Room) (t : Tree) (call : Call) (now : Moment) → IsProper (outcome room t call now)
proper room t (calls.Mkdir path mode) now = after (new_place t path) _ (has_new_place t path) (λ p. past (is_full (links_of t p.dir)) _ _ refl (making room p now (new_directory mode p.dir now) (λ u. changed p.dir rises u) t))
proper room t (calls.Create path mode) now = after (new_place t path) _ (has_new_place t path) (λ p. making room p now (new_file mode now) (λ u. u) t)
proper room t (calls.Symlink path target) now = after (new_place t path) _ (has_new_place t path) (λ p. making room p now (new_link target now) (λ u. u) t)
proper room t (calls.Link from to) now = after (object t from) _ (has_object t from) (λ o. past (is_dir o.node.kind) _ _ refl (after (new_place t to) _ (has_new_place t to) (λ p. past (is_full o.node.links) _ _ refl (naming room p _))))
proper room t (calls.Unlink path) now = after (object t path) _ (has_object t path) (λ o. past (is_dir o.node.kind) _ _ refl (past (is_last_of_big room.limit o.node) _ _ refl (after (place t path) _ (has_place t path) (λ p. refl))))
proper room t (calls.Rmdir path) now = past (length path == 0) _ _ refl (after (object t path) _ (has_object t path) (λ o. past (not (is_dir o.node.kind)) _ _ refl (past (has_names o.node) _ _ refl (after (place t path) _ (has_place t path) (λ p. refl)))))
proper room t (calls.Rename from to) now = after (object t from) _ (has_object t from) (λ o. past (length from == 0 || length to == 0) _ _ refl (after (place t from) _ (has_place t from) (λ p. after (place t to) _ (has_place t to) (λ q.
    renaming room t o.inode (is_dir o.node.kind) (passes t to o.inode) p q now (occupant t q)))))
proper room t (calls.Chmod path mode) now = after (object t path) _ (has_object t path) (λ o. refl)
proper room t (calls.Write path offset new) now = writing room t path offset new now
proper room t (calls.Fill path offset count byte) now = writing room t path offset (replicate count byte) now
proper room t (calls.Truncate path size) now = after (file t path) _ (has_file t path) (λ o. past (nat_lt room.limit (max o.node.size size)) _ _ refl refl)
proper room t (calls.Read path offset count) now = after (file t path) _ (has_file t path) (λ o. refl)
proper room t (calls.Stat path) now = after (object t path) _ (has_object t path) (λ o. refl)
proper room t (calls.List path) now = after (object t path) _ (has_object t path) (λ o. past (not (is_dir o.node.kind)) _ _ refl refl)
proper room t (calls.Readlink path) now = after (object t path) _ (has_object t path) (λ o. past (not (is_link o.node.kind)) _ _ refl refl)
proper room t calls.Sync now = refl

-- ---- what is answered

plain_of_answer : (reply : Reply) → is_answer reply ≡ true → is_plain_reply reply ≡ true
plain_of_answer (replies.Refused why) e = cc
plain_of_answer _ e = refl

answered : (t u : Tree) (out : Outcome) (reply : Reply) → IsProper out → Answers t out reply u → is_plain_reply reply ≡ true
answered t u (Ok result) reply p (is, same) = ap is_plain_reply is ∙ plain_of_answer result.0 p
answered t u (Err why) reply p (is, same) = ap is_plain_reply is ∙ p

left : (t u : Tree) (out : Outcome) (why : Refusal) → IsProper out → Answers t out (replies.Refused why) u → Same t u
left t u (Ok result) why p (is, same) = let e = ap is_answer is ∙ p in absurd cc
left t u (Err other) why p (is, same) = same

plain_is_call : (t u : Tree) (room : Room) (call : Call) (now : Moment) (reply : Reply) → PlainStep t room call now reply u → CallStep no_cause t room call now reply u
plain_is_call t u room call now (replies.Refused (refusals.ReadOnly fault)) step = let e = answered t u (outcome room t call now) _ (proper room t call now) step in absurd cc
plain_is_call t u room call now (replies.Refused (refusals.IoFault fault)) step = let e = answered t u (outcome room t call now) _ (proper room t call now) step in absurd cc
plain_is_call t u room call now (replies.Refused (refusals.Damaged page rule)) step = let e = answered t u (outcome room t call now) _ (proper room t call now) step in absurd cc
plain_is_call t u room call now (replies.Refused why) step = step
plain_is_call t u room call now reply step = step

call_is_plain : (t u : Tree) (room : Room) (call : Call) (now : Moment) (reply : Reply) → CallStep no_cause t room call now reply u → PlainStep t room call now reply u
call_is_plain t u room call now (replies.Refused (refusals.ReadOnly fault)) step = absurd step.0
call_is_plain t u room call now (replies.Refused (refusals.IoFault fault)) step = absurd step.0
call_is_plain t u room call now (replies.Refused (refusals.Damaged page rule)) step = absurd step.0
call_is_plain t u room call now (replies.Refused why) step = step
call_is_plain t u room call now reply step = step

pub one_step : CallStepLaw
one_step = record { plain_is_call = plain_is_call; call_is_plain = call_is_plain }

pub refusal_leaves : RefusalLaw
refusal_leaves t u room call now (refusals.ReadOnly fault) other step = step.2
refusal_leaves t u room call now (refusals.IoFault fault) other step = absurd cc
refusal_leaves t u room call now (refusals.Damaged page rule) other step = step.1
refusal_leaves t u room call now why other step = left t u (outcome room t call now) why (proper room t call now) step
