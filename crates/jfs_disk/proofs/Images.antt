-- Images of pages of 4,096 bytes.
use Rattle.std.proofs.Common.{◌≡◌, ◌<◌, ◌≤◌, ◌+◌, ◌-◌, ℕ, List, [], length, get_or, take, drop, ap, sym, ◌∙◌, ◌⊎◌, inl, inr, arith}
use Rattle.std.proofs.Math.ListN.{set, replicate}
use Rattle.std.proofs.lemmas.List.{length-set, get_or-set_same, get_or-set_other, get_or-replicate, length-replicate, map-set, take-map, drop-map, length-take-le, length-drop, get_or-take, get_or-drop}
use Rattle.std.proofs.lemmas.Bool.{cases_eq}
use Rattle.jfs_disk.specs.Image.{Image, page_of, ArePages, zeros}
use Rattle.jfs_disk.specs.Pages.{contents}
use Rattle.jfs_disk.specs.declared.page.Page.{Page}

pub ArePages-zeros : (count : ℕ) → ArePages count (zeros count)
ArePages-zeros count = record {
  number = length-replicate count (replicate 4096 0);
  sizes = λ n h. ap length (get_or-replicate {A = List ℕ} count n (replicate 4096 0) [] h) ∙ length-replicate {A = ℕ} 4096 0;
}

size-set : (image : Image) (n m : ℕ) (bytes : List ℕ) → m < length image → length bytes ≡ 4096 → length (page_of image m) ≡ 4096 → (m ≡ n) ⊎ (m ≡ n → ⊥) → length (page_of (set image n bytes) m) ≡ 4096
size-set image n m bytes h size old (inl e) =
    ap length (ap (λ (k : ℕ). get_or (set image n bytes) k []) e ∙ get_or-set_same image n bytes [] (omega arith)) ∙ size
size-set image n m bytes h size old (inr other) = ap length (get_or-set_other image n m bytes [] other) ∙ old

-- a page of the right size is put there
pub ArePages-set : (count : ℕ) (image : Image) (n : ℕ) (bytes : List ℕ) → ArePages count image → length bytes ≡ 4096 → ArePages count (set image n bytes)
ArePages-set count image n bytes whole size = record {
  number = length-set image n bytes ∙ whole.number;
  sizes = λ m h. size-set image n m bytes (omega arith) size (whole.sizes m h) (cases_eq m n);
}

pub contents-set : (pages : List Page) (n : ℕ) (page : Page) → contents (set pages n page) ≡ set (contents pages) n page.0
contents-set pages n page = map-set (λ (p : Page). p.0) pages n page

-- ---- pages before one and from it on

pub contents-take : (pages kept : List Page) (at : ℕ) → kept ≡ take at pages → contents kept ≡ take at (contents pages)
contents-take pages kept at e = ap contents e ∙ sym (take-map (λ (p : Page). p.0) at pages)

pub contents-drop : (pages rest : List Page) (at : ℕ) → rest ≡ drop at pages → contents rest ≡ drop at (contents pages)
contents-drop pages rest at e = ap contents e ∙ sym (drop-map (λ (p : Page). p.0) at pages)

pub ArePages-take : (count at : ℕ) (image low : Image) → ArePages count image → at ≤ count → low ≡ take at image → ArePages at low
ArePages-take count at image low whole h e = rw e (record {
  number = length-take-le at image (omega (arith, whole.number));
  sizes = λ n g. ap (λ (bytes : List ℕ). length bytes) (get_or-take at image n [] g) ∙ whole.sizes n (omega arith);
})

pub ArePages-drop : (count at : ℕ) (image high : Image) → ArePages count image → at ≤ count → high ≡ drop at image → ArePages (count - at) high
ArePages-drop count at image high whole h e = rw e (record {
  number = omega (arith, length-drop at image, whole.number);
  sizes = λ n g. ap (λ (bytes : List ℕ). length bytes) (get_or-drop at image n []) ∙ whole.sizes (at + n) (omega arith);
})
