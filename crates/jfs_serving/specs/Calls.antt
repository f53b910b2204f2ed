-- What a call of a client makes of the list that a volume stands for.
use Rattle.std.specs.Prelude.{◌≡◌, ℕ, suc, Bool, true, false, List, [], ◌∷◌, ◌++◌, length}
use Rattle.jfs_bits.specs.declared.descriptor.Moment.{Moment}
use Rattle.jfs_plain.specs.CallStep.{writes}
use Rattle.jfs_plain.specs.declared.call.Call.{Call}
use Rattle.jfs_plain.specs.declared.call.Call.TheVariants as calls
use Rattle.jfs_plain.specs.declared.call.Entry.{Entry}
use Rattle.jfs_plain.specs.declared.call.Request.{Request}
use Rattle.jfs_plain.specs.declared.reply.Reply.{Reply}
use Rattle.jfs_plain.specs.declared.reply.Reply.TheVariants.{Done}
use Rattle.jfs_turns.specs.Lists.{Base}
use Rattle.jfs_turns.specs.Standing.{Standing}
use Rattle.jfs_groups.specs.Group.{Stays}
use Rattle.jfs_serving.specs.declared.serves.Given.{Given}
use Rattle.jfs_serving.specs.declared.serves.Given.TheVariants.{Replied, NeedsLog, NoMemory}

-- what a client asks for, by which line, and when
pub record Asked : Type 0 where
  pub client : ℕ
  pub line : ℕ
  pub request : Request
  pub now : Moment

abbrev pub asked : ℕ → ℕ → Request → Moment → Asked
asked client line request now = record { client = client; line = line; request = request; now = now }

abbrev pub entry_of : Asked → Reply → Entry
entry_of a reply = record { client = a.client; line = a.line; call = a.request.call; lazy = a.request.lazy; reply = reply }

abbrev pub is_rename : Call → Bool
is_rename (calls.Rename from to) = true
is_rename _ = false

-- A call waits to be durable only where it is done, may change the tree or is `sync`, and isn't lazy. One that is so and doesn't wait is a rename.
abbrev pub MayWait : Request → Reply → Type 0
MayWait request reply = (reply ≡ Done) × (writes request.call ≡ true) × (request.lazy ≡ false)

abbrev pub MayGoOn : Request → Reply → Type 0
MayGoOn request reply = MayWait request reply → is_rename request.call ≡ true

abbrev pub WaitsIf : Bool → Request → Reply → Type 0
WaitsIf true request reply = MayWait request reply
WaitsIf false request reply = MayGoOn request reply

module _ {E : Type 0} (client : E → ℕ) (entry : E → Entry) (moment : E → Moment) where
  -- an entry of the call, with its moment and this reply
  pub record IsEntryOf (a : Asked) (reply : Reply) (e : E) : Type 0 where
    pub client_is : client e ≡ a.client
    pub entry_is : entry e ≡ entry_of a reply
    pub moment_is : moment e ≡ a.now

module _ {V E : Type 0} (stands : Standing V E) where
  -- Whatever list it stood for, it stands for that and one entry more, whose number it is.
  abbrev pub Joins : E → ℕ → V → V → Type 0
  Joins e number old new = (base : Base) (list : List E) (taken told : ℕ) (points : List ℕ) (known : ℕ) → stands old base list taken told points known → stands new base (list ++ e ∷ []) taken told points known × (number ≡ suc (length list))

-- Exactly a call that is replied has an entry.
abbrev pub CallIs : {V E : Type 0} → (E → ℕ) → (E → Entry) → (E → Moment) → Standing V E → Asked → V → V → Given → Type 0
CallIs {V} {E} client entry moment stands a old new (Replied reply number waits) = (e : E) × IsEntryOf client entry moment a reply e × Joins stands e number old new × WaitsIf waits a.request reply
CallIs client entry moment stands a old new NeedsLog = Stays stands old new
CallIs client entry moment stands a old new NoMemory = Stays stands old new
