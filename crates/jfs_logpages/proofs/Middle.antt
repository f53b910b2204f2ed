-- The ring while pages are written.
use Rattle.std.proofs.Common.{◌≡◌, ◌≤◌, ◌<◌, ◌+◌, ◌-◌, ◌*◌, ◌/◌, ◌%◌, ℕ, zero, suc, List, [], length, set, refl, sym, ap, subst, ◌∙◌, ◌⊎◌, inl, inr, arith}
use Rattle.std.proofs.Math.Nat.{mul-le-mul_left, div-add-mod}
use Rattle.std.proofs.lemmas.Bool.{cases_lt, cases_eq}
use Rattle.std.proofs.lemmas.List.{get_or-set_same, get_or-set_other}
use Rattle.jfs_disk.specs.Image.{Image, page_of}
use Rattle.jfs_disk.specs.Crash.{torn}
use Rattle.jfs_logpages.specs.Ring.{slot, tail_number, eor_at, last_end, IsNumbered, IsPageOf, IsWritten, IsRing, Shows, Mid, GoesOn}
use Rattle.jfs_logpages.proofs.TornPage.{reads-written, torn-rewrite, MayStand}

-- numbers less than a ring apart have different places
pub places-apart : (ring k m : ℕ) → k < m → m < k + ring → k % ring ≡ m % ring → ⊥
places-apart ring k m low high same = by (cases_lt (k / ring) (m / ring))
  where
    by : (k / ring < m / ring) ⊎ (m / ring ≤ k / ring) → ⊥
    by (inl less) =
        let more : ring * suc (k / ring) ≤ ring * (m / ring) = mul-le-mul_left ring less in
        omega (arith, more, div-add-mod k ring, div-add-mod m ring)
    by (inr more) =
        let less : ring * (m / ring) ≤ ring * (k / ring) = mul-le-mul_left ring more in
        omega (arith, less, div-add-mod k ring, div-add-mod m ring)

pub slot-same : (ring : ℕ) (image : Image) (q k : ℕ) (page : List ℕ) → 2 + q % ring < length image → k % ring ≡ q % ring → slot ring (set image (2 + q % ring) page) k ≡ page
slot-same ring image q k page h same =
    ap (λ (n : ℕ). page_of (set image (2 + q % ring) page) (2 + n)) same ∙ get_or-set_same image (2 + q % ring) page [] h

pub slot-other : (ring : ℕ) (image : Image) (q k : ℕ) (page : List ℕ) → (k % ring ≡ q % ring → ⊥) → slot ring (set image (2 + q % ring) page) k ≡ slot ring image k
slot-other ring image q k page apart = get_or-set_other image (2 + q % ring) (2 + k % ring) page [] (λ e. apart (omega arith))

-- ---- further pages

pub mid-start : (ring : ℕ) (text ends : List ℕ) (q : ℕ) (image : Image) → ((k : ℕ) → length (slot ring image k) ≡ 4096) → IsRing ring text ends q image → Mid ring text ends q q image
mid-start ring text ends q image sizes is = record {
  sizes = sizes;
  base = λ k h g. reads-written text ends k (slot ring image k) (is.each k h (omega arith));
  each = λ k h g. absurd (omega arith);
  none = is.none;
}

-- the next page isn't there yet
pub mid-open : (ring : ℕ) (text ends : List ℕ) (low q : ℕ) (image : Image) → Mid ring text ends low q image → Mid ring text ends low (suc q) image
mid-open ring text ends low q image mid = record {
  sizes = mid.sizes;
  base = mid.base;
  each = λ k h g. by k h g (cases_eq k (suc q));
  none = λ k h. mid.none k (omega arith);
}
  where
    by : (k : ℕ) → low < k → k ≤ suc q → (k ≡ suc q) ⊎ (k ≡ suc q → ⊥) → (IsWritten text ends k (slot ring image k)) ⊎ (tail_number (slot ring image k) ≡ k → ⊥)
    by k h g (inl same) = inr (mid.none k (omega arith))
    by k h g (inr other) = mid.each k h (omega arith)

pub mid-stands : (ring : ℕ) (text ends : List ℕ) (low q : ℕ) (image : Image) → low < q → Mid ring text ends low q image → MayStand ring text ends q (slot ring image q)
mid-stands ring text ends low q image h mid = record {
  size = mid.sizes q;
  stand = mid.each q h (omega arith);
  none = λ r g e place. mid.none r g (ap (λ (n : ℕ). tail_number (page_of image (2 + n))) place ∙ e);
}

-- page q is put at its place
pub mid-put : (ring : ℕ) (text ends : List ℕ) (low q : ℕ) (image : Image) (page : List ℕ) → 2 + q % ring < length image → low < q → q ≤ low + ring / 2 → MayStand ring text ends q page
    → Mid ring text ends low q image → Mid ring text ends low q (set image (2 + q % ring) page)
mid-put ring text ends low q image page there above near stands mid = record {
  sizes = λ k. sizes k (cases_eq (k % ring) (q % ring));
  base = λ k h g. subst (λ (p : List ℕ). IsPageOf text ends k p) (sym (slot-other ring image q k page (places-apart ring k q (omega arith) (omega arith)))) (mid.base k h g);
  each = λ k h g. each k h g (cases_eq k q);
  none = λ k h. none k h (cases_eq (k % ring) (q % ring));
}
  where
    sizes : (k : ℕ) → (k % ring ≡ q % ring) ⊎ (k % ring ≡ q % ring → ⊥) → length (slot ring (set image (2 + q % ring) page) k) ≡ 4096
    sizes k (inl same) = ap (λ (p : List ℕ). length p) (slot-same ring image q k page there same) ∙ stands.size
    sizes k (inr apart) = ap (λ (p : List ℕ). length p) (slot-other ring image q k page apart) ∙ mid.sizes k

    each : (k : ℕ) → low < k → k ≤ q → (k ≡ q) ⊎ (k ≡ q → ⊥) → (IsWritten text ends k (slot ring (set image (2 + q % ring) page) k)) ⊎ (tail_number (slot ring (set image (2 + q % ring) page) k) ≡ k → ⊥)
    each k h g (inl same) =
        let here : slot ring (set image (2 + q % ring) page) k ≡ page = slot-same ring image q k page there (ap (λ (n : ℕ). n % ring) same) in
        rw (here, same) stands.stand
    each k h g (inr other) =
        let here : slot ring (set image (2 + q % ring) page) k ≡ slot ring image k = slot-other ring image q k page (places-apart ring k q (omega arith) (omega arith)) in
        rw here (mid.each k h g)

    none : (k : ℕ) → q < k → (k % ring ≡ q % ring) ⊎ (k % ring ≡ q % ring → ⊥) → tail_number (slot ring (set image (2 + q % ring) page) k) ≡ k → ⊥
    none k h (inl same) e = stands.none k h (sym (ap (λ (p : List ℕ). tail_number p) (slot-same ring image q k page there same)) ∙ e) same
    none k h (inr apart) e = mid.none k h (sym (ap (λ (p : List ℕ). tail_number p) (slot-other ring image q k page apart)) ∙ e)

-- the next page is written
pub ring-put : (ring : ℕ) (text ends : List ℕ) (q : ℕ) (image : Image) (page : List ℕ) → 2 ≤ ring → 2 + suc q % ring < length image → IsRing ring text ends q image → IsWritten text ends (suc q) page
    → IsRing ring text ends (suc q) (set image (2 + suc q % ring) page)
ring-put ring text ends q image page some there is w = record {
  each = λ k h g. each k h g (cases_eq k (suc q));
  none = λ k h. none k h (cases_eq (k % ring) (suc q % ring));
}
  where
    each : (k : ℕ) → k ≤ suc q → suc q < k + ring → (k ≡ suc q) ⊎ (k ≡ suc q → ⊥) → IsWritten text ends k (slot ring (set image (2 + suc q % ring) page) k)
    each k h g (inl same) =
        let here : slot ring (set image (2 + suc q % ring) page) k ≡ page = slot-same ring image (suc q) k page there (ap (λ (n : ℕ). n % ring) same) in
        rw (here, same) w
    each k h g (inr other) =
        let here : slot ring (set image (2 + suc q % ring) page) k ≡ slot ring image k = slot-other ring image (suc q) k page (places-apart ring k (suc q) (omega arith) (omega arith)) in
        rw here (is.each k (omega arith) (omega arith))

    none : (k : ℕ) → suc q < k → (k % ring ≡ suc q % ring) ⊎ (k % ring ≡ suc q % ring → ⊥) → tail_number (slot ring (set image (2 + suc q % ring) page) k) ≡ k → ⊥
    none k h (inl same) e = omega (arith, w.number.1, ap (λ (p : List ℕ). tail_number p) (slot-same ring image (suc q) k page there same))
    none k h (inr apart) e = is.none k (omega arith) (sym (ap (λ (p : List ℕ). tail_number p) (slot-other ring image (suc q) k page apart)) ∙ e)

-- it shows the pages up to some number: those before the first that is lost
pub record ShowsFrom (ring : ℕ) (text ends : List ℕ) (low high : ℕ) (image : Image) : Type 0 where
  pub last : ℕ
  pub above : low ≤ last
  pub below : last ≤ high
  pub shows : Shows ring text ends last image

pub mid-shows : (ring : ℕ) (text ends : List ℕ) (low high : ℕ) (image : Image) → 2 ≤ ring → ring / 2 ≤ low + 1 → low ≤ high → high < low + ring / 2 → Mid ring text ends low high image → ShowsFrom ring text ends low high image
mid-shows ring text ends low high image some long order near mid = go (high - low) low (omega arith) (omega arith) (λ k h g. absurd (omega arith))
  where
    upto : (q : ℕ) → low ≤ q → q ≤ high → ((k : ℕ) → low < k → k ≤ q → IsWritten text ends k (slot ring image k)) → (IsNumbered (suc q) (slot ring image (suc q)) → ⊥) → ShowsFrom ring text ends low high image
    upto q l u there next = record {
      last = q;
      above = l;
      below = u;
      shows = record {
        long = omega arith;
        each = λ k h g. each k h g (cases_lt low k);
        next = next;
        none = λ k h numbered. mid.none k (omega arith) numbered.1;
      };
    }
      where
        each : (k : ℕ) → k ≤ q → q < k + ring / 2 → (low < k) ⊎ (k ≤ low) → IsPageOf text ends k (slot ring image k)
        each k h g (inl later) = reads-written text ends k (slot ring image k) (there k later h)
        each k h g (inr old) = mid.base k old (omega arith)

    go : (n q : ℕ) → q + n ≡ high → low ≤ q → ((k : ℕ) → low < k → k ≤ q → IsWritten text ends k (slot ring image k)) → ShowsFrom ring text ends low high image
    go zero q e l there = upto q l (omega arith) there (λ numbered. mid.none (suc q) (omega arith) numbered.1)
    go (suc n) q e l there = by (mid.each (suc q) (omega arith) (omega arith)) (λ here. go n (suc q) (omega arith) (omega arith) here)
      where
        grown : IsWritten text ends (suc q) (slot ring image (suc q)) → (k : ℕ) → low < k → k ≤ suc q → (k ≡ suc q) ⊎ (k ≡ suc q → ⊥) → IsWritten text ends k (slot ring image k)
        grown w k h g (inl same) = rw same w
        grown w k h g (inr other) = there k h (omega arith)

        by : (IsWritten text ends (suc q) (slot ring image (suc q))) ⊎ (tail_number (slot ring image (suc q)) ≡ suc q → ⊥)
            → (((k : ℕ) → low < k → k ≤ suc q → IsWritten text ends k (slot ring image k)) → ShowsFrom ring text ends low high image) → ShowsFrom ring text ends low high image
        by (inl w) on = on (λ k h g. grown w k h g (cases_eq k (suc q)))
        by (inr lost) on = upto q l (omega arith) there (λ numbered. lost numbered.1)

-- ---- the last page is rewritten

-- pages before the last are those of the longer text
pub written-on : (text ends more later : List ℕ) (k : ℕ) (page : List ℕ) → GoesOn text ends more later → 4080 * suc k ≤ length text → IsWritten text ends k page → IsWritten more later k page
written-on text ends more later k page on full w =
    let same : last_end later (4080 * suc k) ≡ last_end ends (4080 * suc k) = on.ends_same (4080 * suc k) full in
    record {
      size = w.size;
      number = w.number;
      head_eor = omega (arith, w.head_eor, same);
      tail_eor = omega (arith, w.tail_eor, same);
      begins = λ i h g. w.begins i h (omega arith) ∙ sym ((on.longer (4080 * k + i) (omega arith)).1);
    }

pub rewritten : (ring : ℕ) (text ends more later : List ℕ) (q : ℕ) (image : Image) (page : List ℕ) → 2 ≤ ring → 2 + q % ring < length image → 4080 * q < length text → GoesOn text ends more later
    → IsRing ring text ends q image → IsWritten more later q page → IsRing ring more later q (set image (2 + q % ring) page)
rewritten ring text ends more later q image page some there full on is w = record {
  each = λ k h g. each k h g (cases_eq k q);
  none = λ k h. none k h (cases_eq (k % ring) (q % ring));
}
  where
    each : (k : ℕ) → k ≤ q → q < k + ring → (k ≡ q) ⊎ (k ≡ q → ⊥) → IsWritten more later k (slot ring (set image (2 + q % ring) page) k)
    each k h g (inl same) =
        let here : slot ring (set image (2 + q % ring) page) k ≡ page = slot-same ring image q k page there (ap (λ (n : ℕ). n % ring) same) in
        rw (here, same) w
    each k h g (inr other) =
        let here : slot ring (set image (2 + q % ring) page) k ≡ slot ring image k = slot-other ring image q k page (places-apart ring k q (omega arith) (omega arith)) in
        rw here (written-on text ends more later k (slot ring image k) on (omega arith) (is.each k h g))

    none : (k : ℕ) → q < k → (k % ring ≡ q % ring) ⊎ (k % ring ≡ q % ring → ⊥) → tail_number (slot ring (set image (2 + q % ring) page) k) ≡ k → ⊥
    none k h (inl same) e = omega (arith, w.number.1, ap (λ (p : List ℕ). tail_number p) (slot-same ring image q k page there same))
    none k h (inr apart) e = is.none k h (sym (ap (λ (p : List ℕ). tail_number p) (slot-other ring image q k page apart)) ∙ e)

-- where the last page is full, the ring is that of the longer text too
pub ring-goes-on : (ring : ℕ) (text ends more later : List ℕ) (q : ℕ) (image : Image) → length text ≡ 4080 * suc q → GoesOn text ends more later → IsRing ring text ends q image → IsRing ring more later q image
ring-goes-on ring text ends more later q image full on is = record {
  each = λ k h g. written-on text ends more later k (slot ring image k) on (omega arith) (is.each k h g);
  none = is.none;
}

-- torn, it shows the old text or the new one
pub rewrite-shows : (ring : ℕ) (text ends more later : List ℕ) (q k : ℕ) (image : Image) (page : List ℕ) → 2 ≤ ring → ring / 2 ≤ q + 1 → k ≤ 8 → 2 + q % ring < length image → 4080 * q < length text
    → GoesOn text ends more later → eor_at ends q ≤ eor_at later q → IsRing ring text ends q image → IsWritten more later q page
    → (Shows ring text ends q (set image (2 + q % ring) (torn k page (slot ring image q)))) ⊎ (Shows ring more later q (set image (2 + q % ring) (torn k page (slot ring image q))))
rewrite-shows ring text ends more later q k image page some long within there full on up is w =
    by (torn-rewrite text more ends later q k page old within (is.each q (omega arith) (omega arith)) w up on.longer)
  where
    old : List ℕ
    old = slot ring image q

    left : Image
    left = set image (2 + q % ring) (torn k page old)

    here : slot ring left q ≡ torn k page old
    here = slot-same ring image q q (torn k page old) there refl

    other : (j : ℕ) → j < q → q < j + ring → slot ring left j ≡ slot ring image j
    other j h g = slot-other ring image q j (torn k page old) (places-apart ring j q h g)

    tail : tail_number (torn k page old) ≡ q → (j : ℕ) → q < j → (j % ring ≡ q % ring) ⊎ (j % ring ≡ q % ring → ⊥) → tail_number (slot ring left j) ≡ j → ⊥
    tail number j h (inl same) e = omega (arith, number, ap (λ (p : List ℕ). tail_number p) (slot-same ring image q j (torn k page old) there same))
    tail number j h (inr apart) e = is.none j h (sym (ap (λ (p : List ℕ). tail_number p) (slot-other ring image q j (torn k page old) apart)) ∙ e)

    shown : (text ends : List ℕ) → IsPageOf text ends q (torn k page old) → ((j : ℕ) → j < q → q < j + ring → IsPageOf text ends j (slot ring image j)) → Shows ring text ends q left
    shown text ends reads before = record {
      long = long;
      each = λ j h g. each j h g (cases_eq j q);
      next = λ numbered. tail reads.number.1 (suc q) (omega arith) (cases_eq (suc q % ring) (q % ring)) numbered.1;
      none = λ j h numbered. tail reads.number.1 j (omega arith) (cases_eq (j % ring) (q % ring)) numbered.1;
    }
      where
        each : (j : ℕ) → j ≤ q → q < j + ring / 2 → (j ≡ q) ⊎ (j ≡ q → ⊥) → IsPageOf text ends j (slot ring left j)
        each j h g (inl same) = rw (same, here) reads
        each j h g (inr apart) = rw (other j (omega arith) (omega arith)) (before j (omega arith) (omega arith))

    by : (IsPageOf text ends q (torn k page old)) ⊎ (IsPageOf more later q (torn k page old)) → (Shows ring text ends q left) ⊎ (Shows ring more later q left)
    by (inl was) = inl (shown text ends was (λ j h g. reads-written text ends j (slot ring image j) (is.each j (omega arith) g)))
    by (inr new) = inr (shown more later new (λ j h g. reads-written more later j (slot ring image j) (written-on text ends more later j (slot ring image j) on (omega arith) (is.each j (omega arith) g))))
