-- What edits of one page do.
use Rattle.std.specs.Prelude.{◌≡◌, ◌≢◌, ◌<◌, ◌≤◌, ◌-◌, ◌*◌, ◌==◌, ◌||◌, nat_le, ℕ, Bool, true, false, if◌then◌else◌, List, [], ◌∷◌, ◌++◌, length, take, drop}
use Rattle.std.specs.List.{list_any}
use Rattle.jfs_disk.specs.Image.{Image, page_of}
use Rattle.jfs_tree.specs.Draft.{shown}
use Rattle.jfs_tree.specs.declared.draft.Drafted.{Drafted}
use Rattle.jfs_bits.specs.declared.rule.PageKind.{PageKind}
use Rattle.jfs_bits.specs.Line.{line_size}
use Rattle.jfs_ranges.specs.declared.edit.Edit.{Edit}
use Rattle.jfs_ranges.specs.declared.edit.Edit.TheVariants.{Lines, NoRedo, Alloc, Free}
use Rattle.jfs_ranges.specs.Apply.{apply_tx}

-- whether a page is among these
abbrev pub occurs : ℕ → List Drafted → Bool
occurs n [] = false
occurs n (d ∷ ds) = if d.number == n then true else occurs n ds

-- what was added changes no page but this one
abbrev pub LeavesOthers : ℕ → List Edit → List Edit → Type 0
LeavesOthers n tx later = (m : ℕ) → m ≢ n → (content : List ℕ) → length content ≡ 4096 → apply_tx m later content ≡ apply_tx m tx content

-- Where the edits before lead a page to what the view shows, all of them lead it to what the draft shows; another page stays.
abbrev pub TellsDraft : ℕ → Image → List Drafted → List Edit → List Edit → Type 0
TellsDraft blocks image drafts tx later = (m : ℕ) → m < blocks → (content : List ℕ) → length content ≡ 4096 → apply_tx m tx content ≡ page_of image m → apply_tx m later content ≡ shown drafts image m

abbrev pub TellsOne : ℕ → Image → ℕ → List ℕ → List Edit → List Edit → Type 0
TellsOne blocks image n page tx later = ((content : List ℕ) → n < blocks → length content ≡ 4096 → apply_tx n tx content ≡ page_of image n → apply_tx n later content ≡ page) × LeavesOthers n tx later

-- bytes of a page, line by line, so many bytes a line
abbrev pub lines_from : ℕ → ℕ → ℕ → List ℕ → List ℕ
lines_from size first end page = take (size * end - size * first) (drop (size * first) page)

abbrev pub SameLine : ℕ → ℕ → List ℕ → List ℕ → Type 0
SameLine size i old new = take size (drop (size * i) new) ≡ take size (drop (size * i) old)

-- The edits of a page, from one of its lines on: the runs of lines that changed, each as long as can be, and nothing else.
abbrev pub IsRuns : ℕ → PageKind → List ℕ → List ℕ → ℕ → List Edit → Type 0
IsRuns n kind old new first [] = (i : ℕ) → first ≤ i → line_size kind * i < 4096 → SameLine (line_size kind) i old new
IsRuns n kind old new first (Lines page own at bytes ∷ edits) = (page ≡ n) × (own ≡ kind) × (first ≤ at)
    × ((i : ℕ) → first ≤ i → i < at → line_size kind * i < 4096 → SameLine (line_size kind) i old new)
    × ((end : ℕ) × (at < end) × (line_size kind * end ≤ 4096) × (bytes ≡ lines_from (line_size kind) at end new)
    × ((i : ℕ) → at ≤ i → i < end → SameLine (line_size kind) i old new → ⊥)
    × (line_size kind * end < 4096 → SameLine (line_size kind) end old new) × IsRuns n kind old new end edits)
IsRuns n kind old new first (NoRedo page ∷ edits) = ⊥
IsRuns n kind old new first (Alloc blocks ∷ edits) = ⊥
IsRuns n kind old new first (Free blocks ∷ edits) = ⊥

-- these edits were appended, and they are the page's runs
abbrev pub TellsRuns : ℕ → PageKind → List ℕ → List ℕ → List Edit → List Edit → Type 0
TellsRuns n kind old new tx later = (edits : List Edit) × (later ≡ tx ++ edits) × IsRuns n kind old new 0 edits

-- the whole page was appended
abbrev pub TellsWhole : ℕ → PageKind → List ℕ → List Edit → List Edit → Type 0
TellsWhole n kind new tx later = later ≡ tx ++ Lines n kind 0 new ∷ []

-- whether a number is among these
abbrev pub is_in : ℕ → List ℕ → Bool
is_in n taken = list_any (λ m. m == n) taken

-- the edits of a page that was taken: it is told whole; of another its runs
abbrev pub PageEdits : Bool → ℕ → PageKind → List ℕ → List ℕ → List Edit → Type 0
PageEdits true n kind old new edits = edits ≡ Lines n kind 0 new ∷ []
PageEdits false n kind old new edits = IsRuns n kind old new 0 edits

abbrev pub TellsPage : Image → List ℕ → PageKind → ℕ → List ℕ → List Edit → List Edit → Type 0
TellsPage image taken kind n new tx later = (edits : List Edit) × (later ≡ tx ++ edits) × PageEdits (is_in n taken) n kind (page_of image n) new edits

-- whether a page of a draft is none of the volume's, or stands behind a newer one of its number
abbrev pub is_hidden : ℕ → List Drafted → ℕ → Bool
is_hidden blocks newer n = nat_le blocks n || occurs n newer

-- a hidden page isn't told
abbrev pub DraftedEdits : Bool → Image → List ℕ → PageKind → ℕ → List ℕ → List Edit → Type 0
DraftedEdits true image taken kind n new edits = edits ≡ []
DraftedEdits false image taken kind n new edits = PageEdits (is_in n taken) n kind (page_of image n) new edits

-- The edits of a draft behind these newer pages: those of each page as it is now, and nothing else.
abbrev pub DraftEdits : ℕ → Image → List ℕ → PageKind → List Drafted → List Drafted → List Edit → Type 0
DraftEdits blocks image taken kind newer [] edits = edits ≡ []
DraftEdits blocks image taken kind newer (d ∷ ds) edits = (own : List Edit) × (rest : List Edit) × (edits ≡ own ++ rest)
    × DraftedEdits (is_hidden blocks newer d.number) image taken kind d.number d.page.0 own × DraftEdits blocks image taken kind (newer ++ d ∷ []) ds rest

-- these edits were appended, and they are the draft's
abbrev pub TellsExactly : ℕ → Image → List ℕ → PageKind → List Drafted → List Edit → List Edit → Type 0
TellsExactly blocks image taken kind drafts tx later = (edits : List Edit) × (later ≡ tx ++ edits) × DraftEdits blocks image taken kind [] drafts edits

-- edits of lines alone
abbrev pub AllLines : List Edit → Type 0
AllLines [] = Unit {0}
AllLines (Lines page kind first bytes ∷ edits) = AllLines edits
AllLines (NoRedo page ∷ edits) = ⊥
AllLines (Alloc blocks ∷ edits) = ⊥
AllLines (Free blocks ∷ edits) = ⊥

-- lines were appended, and nothing else
abbrev pub TellsLines : List Edit → List Edit → Type 0
TellsLines tx later = (lines : List Edit) × AllLines lines × (later ≡ tx ++ lines)

-- lines were appended, and then these edits; nothing else
abbrev pub TellsThen : List Edit → List Edit → List Edit → Type 0
TellsThen last tx later = (lines : List Edit) × AllLines lines × (later ≡ tx ++ (lines ++ last))

-- for the prover alone: a page whose first lines are the new ones has more of them
abbrev pub Turns : ℕ → ℕ → ℕ → ℕ → List ℕ → List Edit → List Edit → Type 0
Turns n size first end new tx later = (content old : List ℕ) → length old ≡ 4096 → apply_tx n tx content ≡ take (size * first) new ++ drop (size * first) old → apply_tx n later content ≡ take (size * end) new ++ drop (size * end) old
