-- A disk that may not tell what it holds, and what was read of it: something that it may hold.
use Rattle.std.proofs.Common.{◌≡◌, ◌<◌, ◌≤◌, ◌+◌, ◌⊎◌, ℕ, zero, suc, Bool, true, false, List, [], ◌∷◌, ◌++◌, length, take, replicate, inl, inr, refl, sym, ap, ◌∙◌, arith}
use Rattle.std.specs.Prelude.{nat_le}
use Rattle.std.proofs.lemmas.Bool.{cases_eq, leb-true, leb-false}
use Rattle.std.proofs.lemmas.List.{length-append, length-replicate, length-take-le, take-append-le, ext_get_or}
use Rattle.std.proofs.Math.Seq.{take-length}
use Rattle.jfs_disk.specs.Image.{Image, page_of, ArePages}
use Rattle.jfs_disk.specs.declared.disk.Disk.{Ghosts}
use Rattle.jfs_logpages.proofs.Shown.{with_page, with_page-there, with_page-other, with_page-same}
use Rattle.jfs_command.specs.Held.{Held, IsHeld}
use Rattle.jfs_command.specs.Superblock.{IsPage8}

-- ---- pages by their number

abbrev pub pages_from : ℕ → ℕ → (ℕ → List ℕ) → Image
pages_from at zero f = []
pages_from at (suc n) f = f at ∷ pages_from (suc at) n f

pub page-from : (at n k : ℕ) (f : ℕ → List ℕ) → k < n → page_of (pages_from at n f) k ≡ f (at + k)
page-from at zero k f lt = absurd (omega (arith, lt))
page-from at (suc n) zero f lt = ap (λ (m : ℕ). f m) (let e : at ≡ at + 0 = omega arith in e)
page-from at (suc n) (suc k) f lt = page-from (suc at) n k f (omega (arith, lt)) ∙ ap (λ (m : ℕ). f m) (let e : suc at + k ≡ at + suc k = omega arith in e)

length-from : (at n : ℕ) (f : ℕ → List ℕ) → length (pages_from at n f) ≡ n
length-from at zero f = refl
length-from at (suc n) f = ap suc (length-from (suc at) n f)

-- ---- whole pages

-- a whole page of these bytes: cut, or with zeros behind
abbrev whole_page : List ℕ → List ℕ
whole_page bytes = take 4096 (bytes ++ replicate 4096 0)

is_whole : (bytes : List ℕ) → length (whole_page bytes) ≡ 4096
is_whole bytes = let n = length-append bytes (replicate 4096 0) in let m = length-replicate {A = ℕ} 4096 0 in length-take-le 4096 (bytes ++ replicate 4096 0) (omega (arith, n, m))

same_page : (bytes : List ℕ) → length bytes ≡ 4096 → whole_page bytes ≡ bytes
same_page bytes size = take-append-le 4096 bytes (replicate 4096 0) (omega (arith, size)) ∙ ap (λ (n : ℕ). take n bytes) (sym size) ∙ take-length bytes

-- so many pages of an image, each made whole
abbrev wholes : ℕ → Image → Image
wholes count image = pages_from 0 count (λ n. whole_page (page_of image n))

page-wholes : (count : ℕ) (image : Image) (n : ℕ) → n < count → page_of (wholes count image) n ≡ whole_page (page_of image n)
page-wholes count image n lt = page-from 0 count n (λ m. whole_page (page_of image m)) lt ∙ ap (λ (m : ℕ). whole_page (page_of image m)) (let e : 0 + n ≡ n = omega arith in e)

same-wholes : (count : ℕ) (image : Image) → ArePages count image → wholes count image ≡ image
same-wholes count image pages =
    let long = length-from 0 count (λ n. whole_page (page_of image n)) in
    ext_get_or [] (wholes count image) image (long ∙ sym pages.number)
    (λ n lt. let there : n < count = omega (arith, lt, long) in page-wholes count image n there ∙ same_page (page_of image n) (pages.sizes n there))

-- what a disk holds whose pages are these
abbrev pub held_as : {D : Type 0} → Ghosts D → D → Image → Held
held_as d disk image = record { pages = d.page_count disk; image = image; past = d.past disk }

-- What a disk holds of which this page 8 was read, where it has one, and something else of this image, of which it has the whole pages behind page 8.
pub record HasPage8 {D : Type 0} (d : Ghosts D) (disk : D) (image : Image) (page : List ℕ) : Type 0 where
  pub shown : Image
  pub is : IsHeld d disk (held_as d disk shown)
  pub there : 9 ≤ d.page_count disk → page_of shown 8 ≡ page
  pub behind : (n : ℕ) → 8 < n → n < d.page_count disk → length (page_of image n) ≡ 4096 → page_of shown n ≡ page_of image n

pub has_page8 : {D : Type 0} (d : Ghosts D) (disk : D) (image : Image) (page : List ℕ) → (d.tells → ArePages (d.page_count disk) (d.image disk)) → (d.tells → image ≡ d.image disk)
    → IsPage8 d.tells (d.page_count disk) (d.image disk) page → HasPage8 d disk image page
has_page8 d disk image page pages same is = chosen (nat_le 9 count) refl
  where
    count : ℕ
    count = d.page_count disk

    told : d.tells → wholes count image ≡ d.image disk
    told t = ap (λ (i : Image). wholes count i) (same t) ∙ same-wholes count (d.image disk) (pages t)

    kept : (n : ℕ) → n < count → length (page_of image n) ≡ 4096 → page_of (wholes count image) n ≡ page_of image n
    kept n there size = page-wholes count image n there ∙ same_page (page_of image n) size

    each : (n : ℕ) → n < count → length (page_of (wholes count image) n) ≡ 4096
    each n there = ap (λ (p : List ℕ). length p) (page-wholes count image n there) ∙ is_whole (page_of image n)

    with8 : (n : ℕ) → (n ≡ 8) ⊎ (n ≡ 8 → ⊥) → n < count → length (page_of (with_page (wholes count image) 8 page) n) ≡ 4096
    with8 n (inl e) there = ap (λ (m : ℕ). length (page_of (with_page (wholes count image) 8 page) m)) e ∙ ap (λ (p : List ℕ). length p) (with_page-there (wholes count image) 8 page) ∙ is.0
    with8 n (inr apart) there = ap (λ (p : List ℕ). length p) (with_page-other (wholes count image) 8 n page apart) ∙ each n there

    chosen : (b : Bool) → nat_le 9 count ≡ b → HasPage8 d disk image page
    chosen true e =
        let there = leb-true 9 count e in
        record {
          shown = with_page (wholes count image) 8 page;
          is = record {
            pages = refl;
            image = λ t. ap (λ (i : Image). with_page i 8 page) (told t) ∙ ap (λ (p : List ℕ). with_page (d.image disk) 8 p) (is.1 t there)
                ∙ with_page-same (d.image disk) 8 (let n = (pages t).number in omega (arith, n, there));
            past = λ t. refl;
            whole = λ n less. with8 n (cases_eq n 8) less;
          };
          there = λ _. with_page-there (wholes count image) 8 page;
          behind = λ n less within size. with_page-other (wholes count image) 8 n page (λ e. omega (arith, e, less)) ∙ kept n within size;
        }
    chosen false e = record {
      shown = wholes count image;
      is = record { pages = refl; image = told; past = λ t. refl; whole = each };
      there = λ there. absurd (omega (arith, there, leb-false 9 count e));
      behind = λ n less within size. kept n within size;
    }

-- something that the disk may hold
pub some_held : {D : Type 0} (d : Ghosts D) (disk : D) → (d.tells → ArePages (d.page_count disk) (d.image disk)) → HasPage8 d disk (d.image disk) (whole_page (page_of (d.image disk) 8))
some_held d disk pages =
    has_page8 d disk (d.image disk) (whole_page (page_of (d.image disk) 8)) pages (λ t. refl)
    (is_whole (page_of (d.image disk) 8), λ t there. same_page (page_of (d.image disk) 8) ((pages t).sizes 8 (omega (arith, there))))
