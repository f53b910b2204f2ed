-- The printed records of a log. (JFS Log.)
use Rattle.std.specs.Prelude.{ℕ, ◌/◌, Bool, if◌then◌else◌, List, [], ◌∷◌, ◌++◌, length, codes}
use Rattle.std.specs.List.{flat_map}
use Rattle.std.specs.Fmt.{decimal}
use Rattle.jfs_bits.specs.declared.descriptor.Pxd.{Pxd}
use Rattle.jfs_bits.specs.declared.list.LineRange.{LineRange}
use Rattle.jfs_bits.specs.declared.rule.PageKind.{PageKind}
use Rattle.jfs_bits.specs.declared.rule.PageKind.TheVariants as kinds
use Rattle.jfs_bits.specs.Line.{line_size}
use Rattle.jfs_logfmt.specs.declared.log_record.Record.{Record}
use Rattle.jfs_logfmt.specs.declared.log_record.Record.TheVariants as records
use Rattle.jfs_logpages.specs.Back.{Met, tid_of, address_at}

-- a space and a word
abbrev pub word : List ℕ → List ℕ
word text = 32 ∷ text

abbrev pub number_word : ℕ → List ℕ
number_word n = word (decimal n)

abbrev pub type_name : Record → List ℕ
type_name (records.Redo tid back fileset inode kind new_page at ranges) = codes "REDOPAGE"
type_name (records.NoRedo tid back fileset inode kind at) = codes "NOREDOPAGE"
type_name (records.Update tid back fileset inode alloc list) = codes "UPDATEMAP"
type_name (records.Commit tid back) = codes "COMMIT"
type_name (records.SyncPt sync) = codes "SYNCPT"

abbrev pub kind_name : PageKind → List ℕ
kind_name kinds.Inode = codes "INODE"
kind_name kinds.Xtree = codes "XTREE"
kind_name kinds.Dtree = codes "DTREE"
kind_name kinds.Index = codes "INDEX"

-- the kind of a page that the transaction may have allocated
abbrev pub page_name : PageKind → Bool → List ℕ
page_name kind new_page = if new_page then kind_name kind ++ codes "+NEW" else kind_name kind

-- fileset and inode
abbrev pub owner_words : ℕ → ℕ → List ℕ
owner_words fileset inode = number_word fileset ++ number_word inode

-- a page: its kind, its address, and how many pages stand there
abbrev pub page_words : List ℕ → Pxd → List ℕ
page_words kind at = word kind ++ number_word at.addr ++ number_word at.len

-- a range of lines of so many bytes: the first line, and how many lines
abbrev pub range_word : ℕ → LineRange → List ℕ
range_word size range = number_word range.first ++ (43 ∷ decimal (length range.bytes / size))

-- a run of blocks: its address and its length
abbrev pub run_word : Pxd → List ℕ
run_word run = number_word run.addr ++ (58 ∷ decimal run.len)

-- what a record says beside its transaction
abbrev pub words_of : Record → List ℕ
words_of (records.Redo tid back fileset inode kind new_page at ranges) =
    owner_words fileset inode ++ page_words (page_name kind new_page) at ++ flat_map (range_word (line_size kind)) ranges
words_of (records.NoRedo tid back fileset inode kind at) = owner_words fileset inode ++ page_words (kind_name kind) at
words_of (records.Update tid back fileset inode alloc list) =
    owner_words fileset inode ++ word (if alloc then codes "ALLOC" else codes "FREE") ++ flat_map run_word list
words_of (records.Commit tid back) = []
words_of (records.SyncPt sync) = number_word sync

-- a line: the record's address, its transaction, its type, and what it says
unfoldable pub record_line : ℕ → Record → List ℕ
record_line address r = decimal address ++ number_word (tid_of r) ++ word (type_name r) ++ words_of r ++ 10 ∷ []

-- the lines of records of a ring's text whose first page has number `first`
abbrev pub record_lines : ℕ → ℕ → List Met → List ℕ
record_lines ring first records = flat_map (λ m. record_line (address_at ring first m.end) m.is) records

-- how many records there are, and the address where they end
abbrev pub last_line : ℕ → ℕ → List ℕ
last_line count end = codes "log " ++ decimal count ++ codes " records, end " ++ decimal end ++ 10 ∷ []

-- the whole text of the records of a ring's text of so many bytes
abbrev pub log_text : ℕ → ℕ → ℕ → List Met → List ℕ
log_text ring first size records = record_lines ring first records ++ last_line (length records) (address_at ring first size)
