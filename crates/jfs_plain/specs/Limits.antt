-- What calls may say: the condition of every call that is handed one.
use Rattle.std.specs.Prelude.{◌<◌, ◌≤◌, ◌+◌, ◌^◌, ℕ, List, [], ◌∷◌, length, true, false, Bool}
use Rattle.jfs_name.specs.Text.{IsPath}
use Rattle.jfs_plain.specs.Call.{is_changing}
use Rattle.jfs_plain.specs.declared.call.Call.{Call}
use Rattle.jfs_plain.specs.declared.call.Call.TheVariants as calls
use Rattle.jfs_plain.specs.declared.call.Request.{Request}

-- names that some text of at most 4,095 bytes spells
abbrev pub FitsPath : List (List ℕ) → Type 0
FitsPath names = (text : List ℕ) × IsPath text names

-- each of these names has 255 units at most
abbrev pub AreShort : List (List ℕ) → Type 0
AreShort [] = Unit {0}
AreShort (name ∷ names) = (length name ≤ 255) × AreShort names

-- twelve bits
abbrev pub FitsMode : ℕ → Type 0
FitsMode mode = mode < 4096

abbrev pub FitsTarget : List ℕ → Type 0
FitsTarget target = (0 < length target) × (length target ≤ 255)

-- bytes to be written: 1 to 4,096
abbrev pub FitsBytes : List ℕ → Type 0
FitsBytes bytes = (0 < length bytes) × (length bytes ≤ 4096)

-- 1 to so many bytes, of which none lies at or past 2 to the power of 64
abbrev pub FitsRange : ℕ → ℕ → ℕ → Type 0
FitsRange most offset count = (0 < count) × (count ≤ most) × (offset + count < 2 ^ 64)

abbrev pub FitsCall : Call → Type 0
FitsCall (calls.Mkdir path mode) = FitsPath path × FitsMode mode
FitsCall (calls.Create path mode) = FitsPath path × FitsMode mode
FitsCall (calls.Symlink path target) = FitsPath path × FitsTarget target
FitsCall (calls.Link from to) = FitsPath from × FitsPath to
FitsCall (calls.Unlink path) = FitsPath path
FitsCall (calls.Rmdir path) = FitsPath path
FitsCall (calls.Rename from to) = FitsPath from × FitsPath to
FitsCall (calls.Chmod path mode) = FitsPath path × FitsMode mode
FitsCall (calls.Write path offset bytes) = FitsPath path × FitsBytes bytes
FitsCall (calls.Fill path offset count byte) = FitsPath path × FitsRange 65536 offset count
FitsCall (calls.Truncate path size) = FitsPath path
FitsCall (calls.Read path offset count) = FitsPath path × FitsRange 4096 offset count
FitsCall (calls.Stat path) = FitsPath path
FitsCall (calls.List path) = FitsPath path
FitsCall (calls.Readlink path) = FitsPath path
FitsCall calls.Sync = Unit {0}

-- a lazy call that changes nothing isn't asked for
abbrev FitsLazy : Bool → Bool → Type 0
FitsLazy true false = ⊥
FitsLazy lazy changing = Unit {0}

abbrev pub FitsRequest : Request → Type 0
FitsRequest request = FitsCall request.call × FitsLazy request.lazy (is_changing request.call)
