-- The volume's image after entries of the history.
use Rattle.std.specs.Prelude.{◌≡◌, ◌<◌, ℕ, suc, Bool, List, [], ◌∷◌, length}
use Rattle.jfs_disk.specs.Image.{Image, page_of}
use Rattle.jfs_ranges.specs.declared.edit.Edit.{Edit}
use Rattle.jfs_ranges.specs.Apply.{apply_tx, touches_tx}
use Rattle.jfs_core.specs.declared.entry.Entry.{Entry}

-- the entries, the oldest first
abbrev pub History : Type 0
History = List Entry

-- ---- one entry

-- every page from page n on, after a transaction
abbrev pub pages_after : ℕ → List Edit → Image → Image
pages_after n tx [] = []
pages_after n tx (page ∷ pages) = apply_tx n tx page ∷ pages_after (suc n) tx pages

-- an image after one entry
abbrev pub image_step : Image → Entry → Image
image_step image entry = pages_after 0 entry.tx image

-- whether an entry changes page p of an image
abbrev pub pages_changed : Image → Entry → ℕ → Bool
pages_changed image entry p = touches_tx p entry.tx

-- ---- entries

-- an image after entries, the first of them first
abbrev pub image_after : History → Image → Image
image_after [] image = image
image_after (entry ∷ entries) image = image_after entries (image_step image entry)

-- page n alone after entries: a line's bytes depend on no other page
abbrev pub page_after : ℕ → History → List ℕ → List ℕ
page_after n [] page = page
page_after n (entry ∷ entries) page = page_after n entries (apply_tx n entry.tx page)

-- ---- the pages that matter

-- Page p of an image holds inodes, or is one of a tree or a map: a crash may not lose it. With lines alone every page is one.
abbrev pub IsMeta : Image → ℕ → Type 0
IsMeta image p = Unit {0}

-- an image has as many pages as another, and the same bytes in each page that matters there
pub record AgreesOnMeta (image wanted : Image) : Type 0 where
  pub number : length image ≡ length wanted
  pub pages : (p : ℕ) → p < length wanted → IsMeta wanted p → page_of image p ≡ page_of wanted p
