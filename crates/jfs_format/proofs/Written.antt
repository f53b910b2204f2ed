-- One write after another.
use Rattle.std.proofs.Common.{◌≡◌, ◌≤◌, ◌<◌, ◌+◌, ℕ, List, [], length, refl, ◌∙◌, ◌⊎◌, inl, inr, arith}
use Rattle.std.proofs.Math.ListN.{set}
use Rattle.std.proofs.lemmas.Bool.{cases_lt}
use Rattle.std.proofs.lemmas.List.{get_or-set_other}
use Rattle.jfs_disk.specs.declared.disk.Disk.{Ghosts}
use Rattle.jfs_disk.specs.Image.{Image, page_of}
use Rattle.jfs_logpages.specs.Fresh.{IsOutside, OthersStay}
use Rattle.jfs_logpages.proofs.Histories.{histories-same, histories-fewer, histories-join}
use Rattle.jfs_format.specs.Volume.{HasPages}
use Rattle.jfs_format.specs.Wrote.{WroteWithin}

-- a part of a range
pub outside-part : (first count low size n : ℕ) → first ≤ low → low + size ≤ first + count → IsOutside first count n → IsOutside low size n
outside-part first count low size n h g (inl below) = inl (omega (arith, below, h))
outside-part first count low size n h g (inr above) = inr (omega (arith, above, g))

pub inside : (first count n : ℕ) → first ≤ n → n < first + count → IsOutside first count n → ⊥
inside first count n h g (inl low) = omega (arith, low)
inside first count n h g (inr high) = omega (arith, high)

pub wrote-nothing : {D : Type 0} (d : Ghosts D) (first count : ℕ) (disk : D) → WroteWithin d first count disk disk
wrote-nothing d first count disk = record { pages = refl; others = λ t n side. refl; past = λ k. histories-same (IsOutside first count) (d.past disk) }

-- two writes within one range
pub wrote-then : {D : Type 0} (d : Ghosts D) (first count a m b n : ℕ) (old mid new : D) → (d.tells_crashes → 0 < length (d.past old)) → first ≤ a → a + m ≤ first + count → first ≤ b → b + n ≤ first + count
    → WroteWithin d a m old mid → WroteWithin d b n mid new → WroteWithin d first count old new
wrote-then d first count a m b n old mid new some la ha lb hb one two = record {
  pages = two.pages ∙ one.pages;
  others = λ t k side. two.others t k (outside-part first count b n k lb hb side) ∙ one.others t k (outside-part first count a m k la ha side);
  past = λ c. histories-join (IsOutside first count) (d.past old) (d.past mid) (d.past new) (some c)
      (histories-fewer (IsOutside a m) (IsOutside first count) (d.past old) (d.past mid) (λ k side. outside-part first count a m k la ha side) (one.past c))
      (histories-fewer (IsOutside b n) (IsOutside first count) (d.past mid) (d.past new) (λ k side. outside-part first count b n k lb hb side) (two.past c));
}

-- a wider range
pub wrote-part : {D : Type 0} (d : Ghosts D) (first count a m : ℕ) (old new : D) → first ≤ a → a + m ≤ first + count → WroteWithin d a m old new → WroteWithin d first count old new
wrote-part d first count a m old new la ha one = record {
  pages = one.pages;
  others = λ t k side. one.others t k (outside-part first count a m k la ha side);
  past = λ c. histories-fewer (IsOutside a m) (IsOutside first count) (d.past old) (d.past new) (λ k side. outside-part first count a m k la ha side) (one.past c);
}

-- ---- pages that were written stay so

pub has-kept : (first count a m : ℕ) (Is : ℕ → List ℕ → Type 0) (old new : Image) → (first + count ≤ a) ⊎ (a + m ≤ first) → OthersStay a m old new → HasPages first count Is old → HasPages first count Is new
has-kept first count a m Is old new (inl before) stay has k h = rw (stay (first + k) (inl (omega (arith, before)))) (has k h)
has-kept first count a m Is old new (inr behind) stay has k h = rw (stay (first + k) (inr (omega (arith, behind)))) (has k h)

-- one page more
pub has-more : (first k : ℕ) (Is : ℕ → List ℕ → Type 0) (old new : Image) (page : List ℕ) → OthersStay (first + k) 1 old new → page_of new (first + k) ≡ page → Is k page → HasPages first k Is old → HasPages first (k + 1) Is new
has-more first k Is old new page stay e is has j h = by (cases_lt j k)
  where
    by : (j < k) ⊎ (k ≤ j) → Is j (page_of new (first + j))
    by (inl low) = rw (stay (first + j) (inl (omega (arith, low)))) (has j low)
    by (inr high) = let same : j ≡ k = omega arith in rw (same, e) is

-- ---- one page

pub others-put : (n : ℕ) (image new : Image) (page : List ℕ) → new ≡ set image n page → OthersStay n 1 image new
others-put n image new page e k side = rw e (get_or-set_other image n k page [] (λ same. inside n 1 n (omega arith) (omega arith) (rw same at side)))
