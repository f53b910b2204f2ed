-- A torn page of the ring.
use Rattle.std.proofs.Common.{◌≡◌, ◌≤◌, ◌<◌, ◌+◌, ◌*◌, ◌%◌, ℕ, List, length, get_or, refl, sym, ap, subst, ◌∙◌, ◌⊎◌, inl, inr, arith}
use Rattle.std.proofs.lemmas.Bool.{cases_lt}
use Rattle.jfs_disk.specs.Crash.{torn}
use Rattle.jfs_disk.proofs.Tearing.{torn-none, torn-whole, length-torn}
use Rattle.jfs_logpages.specs.Ring.{tail_number, eor_at, IsPageOf, IsWritten}
use Rattle.jfs_logpages.proofs.Torn.{byte-front, byte-back, field-front, field-back}

pub reads-written : (text ends : List ℕ) (q : ℕ) (page : List ℕ) → IsWritten text ends q page → IsPageOf text ends q page
reads-written text ends q page w = record {
  size = w.size;
  number = w.number;
  eor = omega (arith, w.head_eor, w.tail_eor);
  begins = w.begins;
}

-- no sector, all of them, or some
pub data Tear (k : ℕ) (new old page : List ℕ) : Type 0 where
  is_old : page ≡ old → Tear k new old page
  is_new : page ≡ new → Tear k new old page
  is_mixed : 1 ≤ k → k ≤ 7 → Tear k new old page

pub tear-of : (k : ℕ) (new old : List ℕ) → k ≤ 8 → length new ≡ 4096 → length old ≡ 4096 → Tear k new old (torn k new old)
tear-of k new old h sn so = low (cases_lt k 1)
  where
    high : 1 ≤ k → (k < 8) ⊎ (8 ≤ k) → Tear k new old (torn k new old)
    high l (inl u) = is_mixed l (omega arith)
    high l (inr u) = let e : k ≡ 8 = omega arith in is_new (ap (λ (n : ℕ). torn n new old) e ∙ torn-whole new old sn so)

    low : (k < 1) ⊎ (1 ≤ k) → Tear k new old (torn k new old)
    low (inl u) = let e : k ≡ 0 = omega arith in is_old (ap (λ (n : ℕ). torn n new old) e ∙ torn-none new old)
    low (inr l) = high l (cases_lt k 8)

-- bytes that both contents share
shared : (k j x : ℕ) (new old : List ℕ) → k ≤ 8 → length new ≡ 4096 → get_or new j 0 ≡ x → get_or old j 0 ≡ x → get_or (torn k new old) j 0 ≡ x
shared k j x new old h sn a b = by (cases_lt j (512 * k))
  where
    by : (j < 512 * k) ⊎ (512 * k ≤ j) → get_or (torn k new old) j 0 ≡ x
    by (inl front) = byte-front k j new old front (omega arith) ∙ a
    by (inr back) = byte-back k j new old back (omega arith) ∙ b

-- a rewritten last page reads as the old one or the new one
pub torn-rewrite : (text more ends later : List ℕ) (q k : ℕ) (new old : List ℕ) → k ≤ 8 → IsWritten text ends q old → IsWritten more later q new
    → eor_at ends q ≤ eor_at later q → ((i : ℕ) → i < length text → (i < length more) × (get_or more i 0 ≡ get_or text i 0))
    → (IsPageOf text ends q (torn k new old)) ⊎ (IsPageOf more later q (torn k new old))
torn-rewrite text more ends later q k new old h was is up longer = by (torn k new old) (tear-of k new old h is.size was.size) refl
  where
    by : (page : List ℕ) → Tear k new old page → page ≡ torn k new old → (IsPageOf text ends q page) ⊎ (IsPageOf more later q page)
    by page (is_old e) t = inl (subst (λ (p : List ℕ). IsPageOf text ends q p) (sym e) (reads-written text ends q old was))
    by page (is_new e) t = inr (subst (λ (p : List ℕ). IsPageOf more later q p) (sym e) (reads-written more later q new is))
    by page (is_mixed l u) t = inl (subst (λ (p : List ℕ). IsPageOf text ends q p) (sym t) (record {
      size = length-torn k new old h is.size was.size;
      number = (field-front k 0 4 new old (omega arith) (omega (arith, is.size)) ∙ is.number.0, field-back k 4088 4 new old (omega arith) (omega (arith, is.size)) ∙ was.number.1);
      eor = omega (arith, is.head_eor, was.tail_eor, up, field-front k 6 2 new old (omega arith) (omega (arith, is.size)), field-back k 4094 2 new old (omega arith) (omega (arith, is.size)));
      begins = λ i g m. shared k (8 + i) (get_or text (4080 * q + i) 0) new old h is.size
          (is.begins i g (longer (4080 * q + i) m).0 ∙ (longer (4080 * q + i) m).1) (was.begins i g m);
    }))

-- ---- a further page

-- page q is there, or not; and no later page is at its place
pub record MayStand (ring : ℕ) (text ends : List ℕ) (q : ℕ) (page : List ℕ) : Type 0 where
  pub size : length page ≡ 4096
  pub stand : (IsWritten text ends q page) ⊎ (tail_number page ≡ q → ⊥)
  pub none : (r : ℕ) → q < r → tail_number page ≡ r → r % ring ≡ q % ring → ⊥

pub stands-written : (ring : ℕ) (text ends : List ℕ) (q : ℕ) (page : List ℕ) → IsWritten text ends q page → MayStand ring text ends q page
stands-written ring text ends q page w = record { size = w.size; stand = inl w; none = λ r h e place. omega (arith, w.number.1) }

-- both contents are the page
torn-both : (text ends : List ℕ) (q k : ℕ) (a b : List ℕ) → 1 ≤ k → k ≤ 7 → IsWritten text ends q a → IsWritten text ends q b → IsWritten text ends q (torn k a b)
torn-both text ends q k a b l u wa wb = record {
  size = length-torn k a b (omega arith) wa.size wb.size;
  number = (field-front k 0 4 a b (omega arith) (omega (arith, wa.size)) ∙ wa.number.0, field-back k 4088 4 a b (omega arith) (omega (arith, wa.size)) ∙ wb.number.1);
  head_eor = field-front k 6 2 a b (omega arith) (omega (arith, wa.size)) ∙ wa.head_eor;
  tail_eor = field-back k 4094 2 a b (omega arith) (omega (arith, wa.size)) ∙ wb.tail_eor;
  begins = λ i g m. shared k (8 + i) (get_or text (4080 * q + i) 0) a b (omega arith) wa.size (wa.begins i g m) (wb.begins i g m);
}

-- a page that is written over one that isn't there, or whole over any
pub torn-stands : (ring : ℕ) (text ends : List ℕ) (q k : ℕ) (a b : List ℕ) → k ≤ 8 → MayStand ring text ends q a → MayStand ring text ends q b
    → (IsWritten text ends q a) ⊎ (tail_number b ≡ q → ⊥) → MayStand ring text ends q (torn k a b)
torn-stands ring text ends q k a b h ma mb order = by (torn k a b) (tear-of k a b h ma.size mb.size) refl
  where
    mixed : 1 ≤ k → k ≤ 7 → (IsWritten text ends q a) ⊎ (tail_number b ≡ q → ⊥) → (IsWritten text ends q b) ⊎ (tail_number b ≡ q → ⊥) → (IsWritten text ends q (torn k a b)) ⊎ (tail_number (torn k a b) ≡ q → ⊥)
    mixed l u (inr absent) other = inr (λ e. absent (sym (field-back k 4088 4 a b (omega arith) (omega (arith, ma.size))) ∙ e))
    mixed l u (inl wa) (inr absent) = inr (λ e. absent (sym (field-back k 4088 4 a b (omega arith) (omega (arith, ma.size))) ∙ e))
    mixed l u (inl wa) (inl wb) = inl (torn-both text ends q k a b l u wa wb)

    by : (page : List ℕ) → Tear k a b page → page ≡ torn k a b → MayStand ring text ends q (torn k a b)
    by page (is_old e) t = subst (λ (p : List ℕ). MayStand ring text ends q p) (sym e ∙ t) mb
    by page (is_new e) t = subst (λ (p : List ℕ). MayStand ring text ends q p) (sym e ∙ t) ma
    by page (is_mixed l u) t = record {
      size = length-torn k a b h ma.size mb.size;
      stand = mixed l u order mb.stand;
      none = λ r g e place. mb.none r g (sym (field-back k 4088 4 a b (omega arith) (omega (arith, ma.size))) ∙ e) place;
    }
