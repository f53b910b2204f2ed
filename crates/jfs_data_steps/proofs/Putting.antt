-- Data that is put into blocks, beside a transaction that leaves these blocks.
use Rattle.std.proofs.Common.{◌≡◌, refl, sym, ap, ◌∙◌, ℕ, ◌==◌, ◌||◌, Bool, true, false, nat_lt, if◌then◌else◌, List, [], ◌∷◌, length}
use Rattle.jfs_ranges.specs.declared.edit.Edit.{Edit}
use Rattle.jfs_ranges.specs.Apply.{apply_tx}
use Rattle.jfs_ranges.specs.Laid.{put_tx}
use Rattle.jfs_data_steps.specs.declared.pages.DataPage.{DataPage}
use Rattle.jfs_data_steps.specs.After.{is_put, AreWholePages, page_put, put_data, LeavesPage}
use Rattle.jfs_data_steps.specs.Laws.{OthersLaw}

-- ---- one block

pub put_off : (ds : List DataPage) (b : ℕ) (page : List ℕ) → is_put b ds ≡ false → page_put ds b page ≡ page
put_off [] b page h = refl
put_off (d ∷ ds) b page h = by (d.block == b) (put_off ds b page) h
  where
    by : (x : Bool) → (is_put b ds ≡ false → page_put ds b page ≡ page) → (x || is_put b ds) ≡ false → page_put ds b (if x then d.page.0 else page) ≡ page
    by true rest h = absurd (cc (h))
    by false rest h = rest h

-- a block that is put holds what was put, whatever it held
pub put_on : (ds : List DataPage) (b : ℕ) (x y : List ℕ) → is_put b ds ≡ true → page_put ds b x ≡ page_put ds b y
put_on [] b x y h = absurd (cc (h))
put_on (d ∷ ds) b x y h = by (d.block == b) (put_on ds b x y) h
  where
    by : (t : Bool) → (is_put b ds ≡ true → page_put ds b x ≡ page_put ds b y) → (t || is_put b ds) ≡ true → page_put ds b (if t then d.page.0 else x) ≡ page_put ds b (if t then d.page.0 else y)
    by true rest h = refl
    by false rest h = rest h

put_length : (ds : List DataPage) (b : ℕ) (page : List ℕ) → AreWholePages ds → length page ≡ 4096 → length (page_put ds b page) ≡ 4096
put_length [] b page whole size = size
put_length (d ∷ ds) b page whole size = put_length ds b (if d.block == b then d.page.0 else page) whole.1 (by (d.block == b))
  where
    by : (x : Bool) → length (if x then d.page.0 else page) ≡ 4096
    by true = whole.0
    by false = size

pub put_whole : (ds : List DataPage) (b : ℕ) (page : List ℕ) → AreWholePages ds → is_put b ds ≡ true → length (page_put ds b page) ≡ 4096
put_whole [] b page whole h = absurd (cc (h))
put_whole (d ∷ ds) b page whole h = by (d.block == b) (put_whole ds b page whole.1) h
  where
    by : (x : Bool) → (is_put b ds ≡ true → length (page_put ds b page) ≡ 4096) → (x || is_put b ds) ≡ true → length (page_put ds b (if x then d.page.0 else page)) ≡ 4096
    by true rest h = put_length ds b d.page.0 whole.1 whole.0
    by false rest h = rest h

pub others_law : OthersLaw
others_law ds pages b h = put_off ds b (pages b) h

-- ---- and a transaction

-- Data is put before a transaction or after it: the same, where the transaction leaves its blocks.
pub either_order : (blocks : ℕ) (ds : List DataPage) (tx : List Edit) (pages : ℕ → List ℕ) → AreWholePages ds → ((b : ℕ) → is_put b ds ≡ true → LeavesPage b tx)
    → put_data ds (put_tx blocks tx pages) ≡ put_tx blocks tx (put_data ds pages)
either_order blocks ds tx pages whole leaves = λ i b. at b (is_put b ds) refl i
  where
    told : (b : ℕ) → is_put b ds ≡ true → (x : Bool) → (if x then apply_tx b tx (put_data ds pages b) else put_data ds pages b) ≡ put_data ds pages b
    told b e true = leaves b e (put_data ds pages b) (put_whole ds b (pages b) whole e)
    told b e false = refl

    at : (b : ℕ) (x : Bool) → is_put b ds ≡ x → put_data ds (put_tx blocks tx pages) b ≡ put_tx blocks tx (put_data ds pages) b
    at b true e = put_on ds b (put_tx blocks tx pages b) (pages b) e ∙ sym (told b e (nat_lt b blocks))
    at b false e = put_off ds b (put_tx blocks tx pages b) e ∙ sym (ap (λ (page : List ℕ). if nat_lt b blocks then apply_tx b tx page else page) (put_off ds b (pages b) e))
