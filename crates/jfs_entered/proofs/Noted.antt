-- What is noted of the inodes on the pages that a transaction changes: all that comes into use and goes out of it, and nothing else.
use Rattle.std.proofs.Common.{◌≡◌, ◌<◌, ◌⊎◌, inl, inr, refl, sym, ap, subst, ℕ, zero, suc, ◌+◌, Bool, true, false, not, ◌&&◌, ◌==◌, nat_lt, if◌then◌else◌, List, [], ◌∷◌, Option, Some, None, arith, eqb-true}
use Rattle.jfs_marks.specs.imap.specs.Inodes.{Inodes}
use Rattle.jfs_ranges.specs.declared.edit.Edit.{Edit}
use Rattle.jfs_ranges.specs.Apply.{apply_tx}
use Rattle.jfs_marks.specs.data_steps.specs.After.{is_put}
use Rattle.jfs_marks.specs.data_steps.specs.declared.pages.DataPage.{DataPage}
use Rattle.jfs_marks.specs.declared.founded.Founded.{Founded}
use Rattle.jfs_marks.specs.declared.founded.Founded.TheVariants as founded
use Rattle.jfs_marks.specs.declared.changes.Met.{Met}
use Rattle.jfs_marks.specs.declared.changes.Met.TheVariants.{Nothing, One, Several}
use Rattle.jfs_marks.specs.declared.changes.Changes.{Changes}
use Rattle.jfs_marks.specs.Standing.{standing}
use Rattle.jfs_marks.specs.Changes.{met_with, met_if, same_number, no_changes, too_many, noted_change, slots_changes, page_changes, pages_told, first_told, pages_changes, edits_changes, tx_changes}

-- ---- what is met stays met

-- one number more was met, or another one
abbrev pub Reached : Option ℕ → Met → Type 0
Reached None m = Unit {0}
Reached (Some n) m = (m ≡ One n) ⊎ (m ≡ Several)

abbrev pub Grows : Met → Met → Type 0
Grows Nothing m = Unit {0}
Grows (One n) m = (m ≡ One n) ⊎ (m ≡ Several)
Grows Several m = m ≡ Several

grows_same : (m : Met) → Grows m m
grows_same Nothing = tt
grows_same (One n) = inl refl
grows_same Several = refl

grows_several : (m : Met) → Grows m Several
grows_several Nothing = tt
grows_several (One n) = inr refl
grows_several Several = refl

grows_on : (a b c : Met) → Grows a b → Grows b c → Grows a c
grows_on Nothing b c g h = tt
grows_on (One n) b c (inl e) h = subst (λ (m : Met). Grows m c) e h
grows_on (One n) b c (inr e) h = inr (subst (λ (m : Met). Grows m c) e h)
grows_on Several b c g h = subst (λ (m : Met). Grows m c) g h

reached_on : (x : Option ℕ) (a b : Met) → Reached x a → Grows a b → Reached x b
reached_on None a b r g = tt
reached_on (Some n) a b (inl e) g = subst (λ (m : Met). Grows m b) e g
reached_on (Some n) a b (inr e) g = inr (subst (λ (m : Met). Grows m b) e g)

grows_with : (n : ℕ) (m : Met) → Grows m (met_with n m)
grows_with n Nothing = tt
grows_with n (One m) = by (n == m)
  where
    by : (x : Bool) → ((if x then One m else Several) ≡ One m) ⊎ ((if x then One m else Several) ≡ Several)
    by true = inl refl
    by false = inr refl
grows_with n Several = refl

grows_if : (x : Option ℕ) (m : Met) → Grows m (met_if x m)
grows_if None m = grows_same m
grows_if (Some n) m = grows_with n m

reached_with : (n : ℕ) (m : Met) → Reached (Some n) (met_with n m)
reached_with n Nothing = inl refl
reached_with n (One m) = by (n == m) (λ e. eqb-true n m e)
  where
    by : (x : Bool) → (x ≡ true → n ≡ m) → ((if x then One m else Several) ≡ One n) ⊎ ((if x then One m else Several) ≡ Several)
    by true e = inl (ap (λ (k : ℕ). One k) (sym (e refl)))
    by false e = inr refl
reached_with n Several = inr refl

reached_if : (x : Option ℕ) (m : Met) → Reached x (met_if x m)
reached_if None m = tt
reached_if (Some n) m = reached_with n m

-- both
pub record Rises (a b : Changes) : Type 0 where
  pub taken : Grows a.taken b.taken
  pub freed : Grows a.freed b.freed

rises_same : (c : Changes) → Rises c c
rises_same c = record { taken = grows_same c.taken; freed = grows_same c.freed }

rises_on : (a b c : Changes) → Rises a b → Rises b c → Rises a c
rises_on a b c g h = record { taken = grows_on a.taken b.taken c.taken g.taken h.taken; freed = grows_on a.freed b.freed c.freed g.freed h.freed }

-- ---- where a number comes from

-- the one that was met is such a number
abbrev pub From : (ℕ → Type 0) → Met → Type 0
From P Nothing = Unit {0}
From P (One n) = P n
From P Several = Unit {0}

from_with : (P : ℕ → Type 0) (n : ℕ) (m : Met) → P n → From P m → From P (met_with n m)
from_with P n Nothing p h = p
from_with P n (One m) p h = by (n == m)
  where
    by : (x : Bool) → From P (if x then One m else Several)
    by true = h
    by false = tt
from_with P n Several p h = tt

from_if : (P : ℕ → Type 0) (x : Option ℕ) (m : Met) → ((n : ℕ) → x ≡ Some n → P n) → From P m → From P (met_if x m)
from_if P None m p h = h
from_if P (Some n) m p h = from_with P n m (p n refl) h

-- ---- the pages of a transaction

-- one of an edit's pages
pub record VisitsBy (p : ℕ) (e : Edit) : Type 0 where
  pub place : ℕ
  pub few : place < pages_told e
  pub is : p ≡ first_told e + place

abbrev pub Visits : ℕ → List Edit → Type 0
Visits p [] = ⊥
Visits p (e ∷ es) = VisitsBy p e ⊎ Visits p es

module _ (blocks : ℕ) (pages : ℕ → List ℕ) (inodes : Inodes) (f : Founded) (tx : List Edit) (ds : List DataPage) where
  -- the inode in use in a slot of a page, before and after
  abbrev pub was : ℕ → ℕ → Option ℕ
  was p k = standing inodes founded.Nothing p (pages p) k

  abbrev pub now : ℕ → ℕ → Option ℕ
  now p k = standing inodes f p (apply_tx p tx (pages p)) k

  -- the page may be looked at
  abbrev pub looked : ℕ → Bool
  looked p = nat_lt p blocks && not (is_put p ds)

  abbrev slots : ℕ → ℕ → Changes → Changes
  slots p k c = slots_changes inodes f p (pages p) (apply_tx p tx (pages p)) k c

  -- ---- all that changes is noted

  -- a slot of a page was looked at
  pub record Seen (p k : ℕ) (c : Changes) : Type 0 where
    pub looked_at : (looked p ≡ true) ⊎ (c.taken ≡ Several)
    pub slot : (same_number (was p k) (now p k) ≡ true) ⊎ (Reached (now p k) c.taken × Reached (was p k) c.freed)

  seen_on : (p k : ℕ) (a b : Changes) → Seen p k a → Rises a b → Seen p k b
  seen_on p k a b s r = record { looked_at = at s.looked_at; slot = in_slot s.slot }
    where
      at : (looked p ≡ true) ⊎ (a.taken ≡ Several) → (looked p ≡ true) ⊎ (b.taken ≡ Several)
      at (inl e) = inl e
      at (inr e) = inr (subst (λ (m : Met). Grows m b.taken) e r.taken)

      in_slot : (same_number (was p k) (now p k) ≡ true) ⊎ (Reached (now p k) a.taken × Reached (was p k) a.freed) → (same_number (was p k) (now p k) ≡ true) ⊎ (Reached (now p k) b.taken × Reached (was p k) b.freed)
      in_slot (inl e) = inl e
      in_slot (inr e) = inr (reached_on (now p k) a.taken b.taken e.0 r.taken, reached_on (was p k) a.freed b.freed e.1 r.freed)

  rises_one : (x y : Option ℕ) (c : Changes) → Rises c (noted_change x y c)
  rises_one x y c = by (same_number x y)
    where
      by : (b : Bool) → Rises c (if b then c else record { taken = met_if y c.taken; freed = met_if x c.freed })
      by true = rises_same c
      by false = record { taken = grows_if y c.taken; freed = grows_if x c.freed }

  rises_slots : (p k : ℕ) (c : Changes) → Rises c (slots p k c)
  rises_slots p zero c = rises_same c
  rises_slots p (suc k) c = rises_on c (slots p k c) (slots p (suc k) c) (rises_slots p k c) (rises_one (was p k) (now p k) (slots p k c))

  seen_one : (p k : ℕ) (c : Changes) → looked p ≡ true → Seen p k (noted_change (was p k) (now p k) c)
  seen_one p k c l = record { looked_at = inl l; slot = by (same_number (was p k) (now p k)) refl }
    where
      by : (b : Bool) → same_number (was p k) (now p k) ≡ b
          → (same_number (was p k) (now p k) ≡ true)
          ⊎ (Reached (now p k) (if b then c else record { taken = met_if (now p k) c.taken; freed = met_if (was p k) c.freed }).taken
          × Reached (was p k) (if b then c else record { taken = met_if (now p k) c.taken; freed = met_if (was p k) c.freed }).freed)
      by true e = inl e
      by false e = inr (reached_if (now p k) c.taken, reached_if (was p k) c.freed)

  seen_slots : (p n k : ℕ) (c : Changes) → looked p ≡ true → k < n → Seen p k (slots p n c)
  seen_slots p zero k c l h = absurd (omega (arith, h))
  seen_slots p (suc n) k c l h = by (last k n h) (λ m. seen_slots p n k c l m)
    where
      last : (k n : ℕ) → k < suc n → (k ≡ n) ⊎ (k < n)
      last k n h = grind arith

      by : (k ≡ n) ⊎ (k < n) → (k < n → Seen p k (slots p n c)) → Seen p k (slots p (suc n) c)
      by (inl e) rest = subst (λ (j : ℕ). Seen p j (slots p (suc n) c)) (sym e) (seen_one p n (slots p n c) l)
      by (inr m) rest = seen_on p k (slots p n c) (slots p (suc n) c) (rest m) (rises_one (was p n) (now p n) (slots p n c))

  rises_many : (c : Changes) → Rises c too_many
  rises_many c = record { taken = grows_several c.taken; freed = grows_several c.freed }

  seen_many : (p k : ℕ) → Seen p k too_many
  seen_many p k = record { looked_at = inr refl; slot = inr (any (now p k), any (was p k)) }
    where
      any : (x : Option ℕ) → Reached x Several
      any None = tt
      any (Some n) = inr refl

  abbrev page : ℕ → Changes → Changes
  page p c = page_changes blocks pages inodes f tx ds p c

  rises_page : (p : ℕ) (c : Changes) → Rises c (page p c)
  rises_page p c = by (looked p)
    where
      by : (b : Bool) → Rises c (if b then slots p 8 c else too_many)
      by true = rises_slots p 8 c
      by false = rises_many c

  seen_page : (p k : ℕ) (c : Changes) → k < 8 → Seen p k (page p c)
  seen_page p k c h = by (looked p) refl
    where
      by : (b : Bool) → looked p ≡ b → Seen p k (if b then slots p 8 c else too_many)
      by true e = seen_slots p 8 k c e h
      by false e = seen_many p k

  abbrev some_pages : ℕ → ℕ → Changes → Changes
  some_pages p n c = pages_changes blocks pages inodes f tx ds p n c

  rises_pages : (p n : ℕ) (c : Changes) → Rises c (some_pages p n c)
  rises_pages p zero c = rises_same c
  rises_pages p (suc n) c = rises_on c (some_pages p n c) (some_pages p (suc n) c) (rises_pages p n c) (rises_page (p + n) (some_pages p n c))

  seen_pages : (p n i k : ℕ) (c : Changes) → i < n → k < 8 → Seen (p + i) k (some_pages p n c)
  seen_pages p zero i k c h l = absurd (omega (arith, h))
  seen_pages p (suc n) i k c h l = by (last i n h) (λ m. seen_pages p n i k c m l)
    where
      last : (k n : ℕ) → k < suc n → (k ≡ n) ⊎ (k < n)
      last k n h = grind arith

      by : (i ≡ n) ⊎ (i < n) → (i < n → Seen (p + i) k (some_pages p n c)) → Seen (p + i) k (some_pages p (suc n) c)
      by (inl e) rest = subst (λ (j : ℕ). Seen (p + j) k (some_pages p (suc n) c)) (sym e) (seen_page (p + n) k (some_pages p n c) l)
      by (inr m) rest = seen_on (p + i) k (some_pages p n c) (some_pages p (suc n) c) (rest m) (rises_page (p + n) (some_pages p n c))

  abbrev edits : List Edit → Changes → Changes
  edits es c = edits_changes blocks pages inodes f tx ds es c

  rises_edits : (es : List Edit) (c : Changes) → Rises c (edits es c)
  rises_edits [] c = rises_same c
  rises_edits (e ∷ es) c = let d = some_pages (first_told e) (pages_told e) c in rises_on c d (edits es d) (rises_pages (first_told e) (pages_told e) c) (rises_edits es d)

  seen_edits : (es : List Edit) (p k : ℕ) (c : Changes) → Visits p es → k < 8 → Seen p k (edits es c)
  seen_edits [] p k c v l = absurd v
  seen_edits (e ∷ es) p k c (inl v) l = let d = some_pages (first_told e) (pages_told e) c in seen_on p k d (edits es d)
      (subst (λ (q : ℕ). Seen q k d) (sym v.is) (seen_pages (first_told e) (pages_told e) v.place k c v.few l)) (rises_edits es d)
  seen_edits (e ∷ es) p k c (inr v) l = seen_edits es p k (some_pages (first_told e) (pages_told e) c) v l

  -- ---- and nothing else is

  pub record Comes (n : ℕ) : Type 0 where
    pub page_of_it : ℕ
    pub slot : ℕ
    pub few : slot < 8
    pub looked_at : looked page_of_it ≡ true
    pub stands : now page_of_it slot ≡ Some n
    pub other : same_number (was page_of_it slot) (now page_of_it slot) ≡ false

  pub record Goes (n : ℕ) : Type 0 where
    pub page_of_it : ℕ
    pub slot : ℕ
    pub few : slot < 8
    pub looked_at : looked page_of_it ≡ true
    pub stood : was page_of_it slot ≡ Some n
    pub other : same_number (was page_of_it slot) (now page_of_it slot) ≡ false

  pub record Stems (c : Changes) : Type 0 where
    pub taken : From Comes c.taken
    pub freed : From Goes c.freed

  stems_one : (p k : ℕ) (c : Changes) → looked p ≡ true → k < 8 → Stems c → Stems (noted_change (was p k) (now p k) c)
  stems_one p k c l h s = by (same_number (was p k) (now p k)) refl
    where
      by : (b : Bool) → same_number (was p k) (now p k) ≡ b → Stems (if b then c else record { taken = met_if (now p k) c.taken; freed = met_if (was p k) c.freed })
      by true e = s
      by false e = record {
        taken = from_if Comes (now p k) c.taken (λ n is. record { page_of_it = p; slot = k; few = h; looked_at = l; stands = is; other = e }) s.taken;
        freed = from_if Goes (was p k) c.freed (λ n is. record { page_of_it = p; slot = k; few = h; looked_at = l; stood = is; other = e }) s.freed;
      }

  stems_slots : (p n : ℕ) (c : Changes) → looked p ≡ true → n < 9 → Stems c → Stems (slots p n c)
  stems_slots p zero c l h s = s
  stems_slots p (suc n) c l h s = stems_one p n (slots p n c) l (omega (arith, h)) (stems_slots p n c l (omega (arith, h)) s)

  stems_page : (p : ℕ) (c : Changes) → Stems c → Stems (page p c)
  stems_page p c s = by (looked p) refl
    where
      by : (b : Bool) → looked p ≡ b → Stems (if b then slots p 8 c else too_many)
      by true e = stems_slots p 8 c e (omega arith) s
      by false e = record { taken = tt; freed = tt }

  stems_pages : (p n : ℕ) (c : Changes) → Stems c → Stems (some_pages p n c)
  stems_pages p zero c s = s
  stems_pages p (suc n) c s = stems_page (p + n) (some_pages p n c) (stems_pages p n c s)

  stems_edits : (es : List Edit) (c : Changes) → Stems c → Stems (edits es c)
  stems_edits [] c s = s
  stems_edits (e ∷ es) c s = stems_edits es (some_pages (first_told e) (pages_told e) c) (stems_pages (first_told e) (pages_told e) c s)

  pub stems : Stems (tx_changes blocks pages inodes f tx ds)
  stems = stems_edits tx no_changes (record { taken = tt; freed = tt })

  pub seen : (p k : ℕ) → Visits p tx → k < 8 → Seen p k (tx_changes blocks pages inodes f tx ds)
  seen p k v l = seen_edits tx p k no_changes v l
