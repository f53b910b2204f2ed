-- The text of a history's entry.
use Rattle.std.specs.Prelude.{ℕ, ◌+◌, ◌/◌, ◌%◌, ◌&&◌, not, nat_le, ◌==◌, Bool, if◌then◌else◌, List, [], ◌∷◌, ◌++◌, length, codes}
use Rattle.std.specs.List.{flat_map}
use Rattle.std.specs.Fmt.{decimal}
use Rattle.hex.specs.Hex.{encode_lower}
use Rattle.jfs_bits.specs.Rule as rule
use Rattle.jfs_disk.specs.declared.disk.Part.{Part}
use Rattle.jfs_disk.specs.declared.disk.Part.TheVariants as parts
use Rattle.jfs_name.specs.Spelled.{spelled, digit_byte}
use Rattle.jfs_name.specs.declared.name.NameEntry.{NameEntry}
use Rattle.jfs_plain.specs.declared.call.Entry.{Entry}
use Rattle.jfs_plain.specs.declared.refusal.Refusal.{Refusal}
use Rattle.jfs_plain.specs.declared.refusal.Refusal.TheVariants as refusals
use Rattle.jfs_plain.specs.declared.reply.NodeKind.{NodeKind}
use Rattle.jfs_plain.specs.declared.reply.NodeKind.TheVariants as kinds
use Rattle.jfs_plain.specs.declared.reply.Stat.{Stat}
use Rattle.jfs_plain.specs.declared.reply.Reply.{Reply}
use Rattle.jfs_plain.specs.declared.reply.Reply.TheVariants as replies
use Rattle.jfs_plain.specs.Refusal.{number_of, name_of}

abbrev pub kind_text : NodeKind → List ℕ
kind_text kinds.Dir = codes "dir"
kind_text kinds.File = codes "file"
kind_text kinds.Link = codes "link"
kind_text kinds.Other = codes "other"

-- the lowest twelve bits as four octal digits
abbrev pub octal_text : ℕ → List ℕ
octal_text n = (48 + n / 512 % 8) ∷ (48 + n / 64 % 8) ∷ (48 + n / 8 % 8) ∷ (48 + n % 8) ∷ []

-- a space and a number
abbrev pub number_text : ℕ → List ℕ
number_text n = 32 ∷ decimal n

unfoldable pub stat_text : Stat → List ℕ
stat_text s =
    codes "stat " ++ kind_text s.kind ++ codes " " ++ octal_text s.mode ++ number_text s.nlink ++ number_text s.uid ++ number_text s.gid
    ++ number_text s.size ++ number_text s.inode ++ number_text s.mtime.sec

-- two digits a byte, or a dash
abbrev pub hex_text : List ℕ → List ℕ
hex_text [] = codes "-"
hex_text (b ∷ bs) = encode_lower (b ∷ bs)

-- a byte of a target: itself where it is visible and no `%`, else `%` and its two digits
unfoldable pub target_byte : ℕ → List ℕ
target_byte b = if nat_le 0x21 b && nat_le b 0x7E && not (b == 0x25) then b ∷ [] else 0x25 ∷ digit_byte (b / 16) ∷ digit_byte (b % 16) ∷ []

abbrev pub name_text : NameEntry → List ℕ
name_text e = 32 ∷ spelled e.name

abbrev pub part_text : Part → List ℕ
part_text parts.High = codes "log"
part_text parts.Low = codes "low"
part_text parts.Whole = codes "low"

-- the values of a refusal
abbrev pub values_text : Refusal → List ℕ
values_text (refusals.NoSpace free) = number_text free
values_text (refusals.ReadOnly fault) = codes " " ++ part_text fault.part ++ number_text fault.count
values_text (refusals.IoFault fault) = codes " " ++ part_text fault.part ++ number_text fault.count
values_text (refusals.Damaged page broken) = number_text page ++ codes " " ++ rule.name_of broken
values_text (refusals.TooDeep inode) = number_text inode
values_text _ = []

unfoldable pub refusal_text : Refusal → List ℕ
refusal_text r = codes "refused" ++ number_text (number_of r) ++ codes " " ++ name_of r ++ values_text r

abbrev pub reply_text : Reply → List ℕ
reply_text replies.Done = codes "ok"
reply_text (replies.Bytes bytes) = codes "bytes " ++ hex_text bytes
reply_text (replies.Attr stat) = stat_text stat
reply_text (replies.Names names) = codes "names" ++ number_text (length names) ++ flat_map name_text names
reply_text (replies.Target target) = codes "target " ++ flat_map target_byte target
reply_text (replies.Refused refusal) = refusal_text refusal

abbrev pub ack_text : Bool → List ℕ
ack_text durable = if durable then codes " +" else codes " -"

-- the line of an entry: its number, its client and line, its reply, and whether it was acknowledged as durable
unfoldable pub entry_text : Entry → ℕ → Bool → List ℕ
entry_text e number durable = decimal number ++ number_text e.client ++ codes "." ++ decimal e.line ++ codes " " ++ reply_text e.reply ++ ack_text durable ++ 10 ∷ []
