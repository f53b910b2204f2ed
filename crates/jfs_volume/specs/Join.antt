-- An entry that changes nothing joins.
use Rattle.std.specs.Prelude.{◌≡◌, ◌∷◌, ◌++◌, ◌+◌, [], ℕ, suc, Bool, false, length}
use Rattle.jfs_bits.specs.declared.descriptor.Moment.{Moment}
use Rattle.jfs_plain.specs.declared.call.Entry.{Entry}
use Rattle.jfs_plain.specs.declared.call.Request.{Request}
use Rattle.jfs_plain.specs.declared.reply.Reply.{Reply}
use Rattle.jfs_halves.specs.Entry.{Happened}
use Rattle.jfs_halves.specs.Half.{VolumeHalf}
use Rattle.jfs_halves.specs.Parts.{Parts}
use Rattle.jfs_halves.specs.Change.{Enters}
use Rattle.jfs_halves.specs.Moves.{Moves}
use Rattle.jfs_volume.specs.declared.outcome.Outcome.{Outcome}
use Rattle.jfs_volume.specs.declared.outcome.Outcome.TheVariants.{Replied, NoMemory}

-- a call of a client that is answered and changes nothing: it has no record in the log
abbrev pub unchanged : ℕ → ℕ → Request → Moment → Reply → VolumeHalf → Happened
unchanged client line request now reply half = record {
  client = client;
  line = line;
  call = request.call;
  lazy = request.lazy;
  now = now;
  reply = reply;
  noted = [];
  logs = false;
  after = half.shown;
}

-- the entry joins, and its number is told; or memory ran out, and nothing changes
abbrev pub Joins : (seen asked : Bool) → Happened → Parts → Parts → VolumeHalf → Outcome → Type 0
Joins seen asked h old new half (Replied number) = Moves seen asked old new half (Enters h ∷ []) × (number ≡ suc (length half.history))
Joins seen asked h old new half NoMemory = Moves seen asked old new half []

-- the parts with one entry more, which has no record
abbrev pub with_entry : Entry → Parts → Parts
with_entry entry p = record p { appended = p.appended + 1; entries = p.entries ++ entry ∷ []; text = record p.text { last = p.appended + 1 } }

-- the entry of a call of a client with its reply
abbrev pub entry_with : ℕ → ℕ → Request → Reply → Entry
entry_with client line request reply = record { client = client; line = line; call = request.call; lazy = request.lazy; reply = reply }

-- the parts then, whether they stand for a half or not
abbrev pub JoinsParts : Entry → Parts → Parts → Outcome → Type 0
JoinsParts entry old new (Replied number) = (new ≡ with_entry entry old) × (number ≡ new.appended)
JoinsParts entry old new NoMemory = new ≡ old
