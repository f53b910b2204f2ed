-- Visits one after the other.
use Rattle.std.proofs.Common.{◌≡◌, ◌+◌, ◌<◌, ◌≤◌, ◌*◌, ◌/◌, ◌%◌, ℕ, zero, suc, Option, Some, None, List, refl, sym, ap, subst, ◌∙◌, arith}
use Rattle.std.specs.Prelude.{get_or}
use Rattle.jfs_disk.specs.Image.{Image, page_of}
use Rattle.jfs_inode.specs.declared.fields.Dinode.{Dinode}
use Rattle.jfs_objects.specs.Volume.{home, slot_of}
use Rattle.jfs_each.specs.Each.{Found, live_in, found_at, Step, Visits, VisitsPlace}

module _ {W : Type 0} (sees : W → ℕ → Found → W → Type 0) where
  -- what is found where matters only for the numbers that are visited
  pub visits_same : (f h : ℕ → Option Found) (from count : ℕ) (old new : W) → ((n : ℕ) → from ≤ n → n < from + count → f n ≡ h n) → Visits sees f from count old new → Visits sees h from count old new
  unfolding Visits
  visits_same f h from zero old new same v = v
  visits_same f h from (suc count) old new same v =
      (v.0, visits_same f h from count old v.0 (λ n low high. same n low (omega (arith, high))) v.1, subst (λ (o : Option Found). Step sees (from + count) o v.0 new) (same (from + count) (omega arith) (omega arith)) v.2)

  pub visits_none : (f : ℕ → Option Found) (from : ℕ) (old : W) → Visits sees f from 0 old old
  unfolding Visits
  visits_none f from old = refl

  pub visits_next : (f : ℕ → Option Found) (from count : ℕ) (old mid new : W) → Visits sees f from count old mid → Step sees (from + count) (f (from + count)) mid new → Visits sees f from (count + 1) old new
  unfolding Visits
  visits_next f from count old mid new v s = subst (λ (n : ℕ). Visits sees f from n old new) (let e : suc count ≡ count + 1 = omega arith in e) (next v s)
    where
      next : Visits sees f from count old mid → Step sees (from + count) (f (from + count)) mid new → Visits sees f from (suc count) old new
      next v s = (mid, v, s)

  -- so many, and then so many more
  pub visits_on : (f : ℕ → Option Found) (from a b : ℕ) (old mid new : W) → Visits sees f from a old mid → Visits sees f (from + a) b mid new → Visits sees f from (a + b) old new
  unfolding Visits
  visits_on f from a zero old mid new v w = subst (λ (n : ℕ). Visits sees f from n old new) (let e : a ≡ a + 0 = omega arith in e) (subst (λ (x : W). Visits sees f from a old x) (sym w) v)
  visits_on f from a (suc b) old mid new v w =
      subst (λ (n : ℕ). Visits sees f from n old new) (let e : suc (a + b) ≡ a + suc b = omega arith in e)
      (w.0, visits_on f from a b old mid w.0 v w.1, subst (λ (n : ℕ). Step sees n (f n) w.0 new) (let e : from + a + b ≡ from + (a + b) = omega arith in e) w.2)

  -- numbers at which nothing is found are passed over
  pub visits_nothing : (f : ℕ → Option Found) (from count : ℕ) (old : W) → ((n : ℕ) → from ≤ n → n < from + count → f n ≡ None) → Visits sees f from count old old
  unfolding Visits
  visits_nothing f from zero old none = refl
  visits_nothing f from (suc count) old none = (old, visits_nothing f from count old (λ n low high. none n low (omega (arith, high))), rw (none (from + count) (omega arith) (omega arith)) refl)

pub visits_after : {W : Type 0} (sees : W → ℕ → Found → W → Type 0) (f : ℕ → Option Found) (a b : ℕ) (old mid new : W) → Visits sees f 0 a old mid → Visits sees f a b mid new → Visits sees f 0 (a + b) old new
visits_after sees f a b old mid new v w = visits_on sees f 0 a b old mid new v (subst (λ (n : ℕ). Visits sees f n b mid new) (let e : a ≡ 0 + a = omega arith in e) w)

-- what is so of a view that hasn't changed what it tells
pub moved : {W : Type 0} (sees : ℕ → Image → W → ℕ → Found → W → Type 0) (b c : ℕ) (i j : Image) (P : (W → ℕ → Found → W → Type 0) → (ℕ → List ℕ) → Type 0) → c ≡ b → j ≡ i → P (sees c j) (page_of j) → P (sees b i) (page_of i)
moved sees b c i j P e f h = subst (λ (n : ℕ). P (sees n i) (page_of i)) e (subst (λ (k : Image). P (sees c k) (page_of k)) f h)

-- ---- a page

-- what was read of slot `k` of the copy stands in the place of an inode
pub in_slot : (old new : ℕ → List ℕ) (copy : List ℕ) (slot : Dinode) (p from k : ℕ) → copy ≡ old p → new ≡ old → from % 8 ≡ 0 → k < 8 → slot ≡ slot_of copy k → slot ≡ slot_of (new p) ((from + k) % 8)
in_slot old new copy slot p from k is same aligned less read = read ∙ ap (λ (b : List ℕ). slot_of b k) (is ∙ ap (λ (f : ℕ → List ℕ). f p) (sym same)) ∙ ap (λ (m : ℕ). slot_of (new p) m) (let e : k ≡ (from + k) % 8 = omega (arith, aligned, less) in e)

-- ---- an extent

in_place : (e d n : ℕ) → 32 * e + 8 * d ≤ n → n < 32 * e + 8 * d + 8 → d < 4 → n % 32 / 8 ≡ d
in_place e d n low high less = omega (arith, low, high, less)

in_extent : (e n : ℕ) → 32 * e ≤ n → n < 32 * e + 32 → n / 32 ≡ e
in_extent e n low high = omega (arith, low, high)

-- page `d` of an extent
pub page_visits : {W : Type 0} (sees : W → ℕ → Found → W → Type 0) (page : ℕ → List ℕ) (first e d : ℕ) (old mid new : W) → d < 4
    → Visits sees (λ n. live_in page n (Some (first + n % 32 / 8))) (32 * e) (8 * d) old mid → Visits sees (λ n. live_in page n (Some (first + d))) (32 * e + 8 * d) 8 mid new
    → Visits sees (λ n. live_in page n (Some (first + n % 32 / 8))) (32 * e) (8 * (d + 1)) old new
page_visits sees page first e d old mid new less before now =
    subst (λ (c : ℕ). Visits sees (λ n. live_in page n (Some (first + n % 32 / 8))) (32 * e) c old new) (let q : 8 * d + 8 ≡ 8 * (d + 1) = omega arith in q)
    (visits_on sees (λ n. live_in page n (Some (first + n % 32 / 8))) (32 * e) (8 * d) 8 old mid new before
    (visits_same sees (λ n. live_in page n (Some (first + d))) (λ n. live_in page n (Some (first + n % 32 / 8))) (32 * e + 8 * d) 8 mid new
    (λ n low high. ap (λ (x : ℕ). live_in page n (Some (first + x))) (sym (in_place e d n low high less))) now))

home_at : (places : List (Option ℕ)) (n e first : ℕ) → n / 32 ≡ e → get_or places e None ≡ Some first → home places n ≡ Some (first + n % 32 / 8)
home_at places n e first at is = rw (at, is) refl

home_none : (places : List (Option ℕ)) (n e : ℕ) → n / 32 ≡ e → get_or places e None ≡ None → home places n ≡ None
home_none places n e at is = rw (at, is) refl

-- extent `e`, where it is there
pub extent_visits : {W : Type 0} (sees : W → ℕ → Found → W → Type 0) (page : ℕ → List ℕ) (places : List (Option ℕ)) (first e : ℕ) (old mid new : W) → get_or places e None ≡ Some first
    → Visits sees (found_at page places) 0 (32 * e) old mid → Visits sees (λ n. live_in page n (Some (first + n % 32 / 8))) (32 * e) 32 mid new
    → Visits sees (found_at page places) 0 (32 * (e + 1)) old new
extent_visits sees page places first e old mid new is before now =
    subst (λ (c : ℕ). Visits sees (found_at page places) 0 c old new) (let q : 32 * e + 32 ≡ 32 * (e + 1) = omega arith in q)
    (visits_after sees (found_at page places) (32 * e) 32 old mid new before
    (visits_same sees (λ n. live_in page n (Some (first + n % 32 / 8))) (found_at page places) (32 * e) 32 mid new
    (λ n low high. ap (λ (o : Option ℕ). live_in page n o) (sym (home_at places n e first (in_extent e n low high) is))) now))

-- and where it isn't
pub no_extent_visits : {W : Type 0} (sees : W → ℕ → Found → W → Type 0) (page : ℕ → List ℕ) (places : List (Option ℕ)) (e : ℕ) (old new : W) → get_or places e None ≡ None
    → Visits sees (found_at page places) 0 (32 * e) old new → Visits sees (found_at page places) 0 (32 * (e + 1)) old new
no_extent_visits sees page places e old new is before =
    subst (λ (c : ℕ). Visits sees (found_at page places) 0 c old new) (let q : 32 * e + 32 ≡ 32 * (e + 1) = omega arith in q)
    (visits_after sees (found_at page places) (32 * e) 32 old new new before
    (visits_nothing sees (found_at page places) (32 * e) 32 new (λ n low high. ap (λ (o : Option ℕ). live_in page n o) (home_none places n e (in_extent e n low high) is))))

-- one place more, whether there is an extent or not
pub place_visits : {W : Type 0} (sees : W → ℕ → Found → W → Type 0) (page : ℕ → List ℕ) (places : List (Option ℕ)) (place : Option ℕ) (e : ℕ) (old mid new : W) → get_or places e None ≡ place
    → Visits sees (found_at page places) 0 (32 * e) old mid → VisitsPlace sees page e place mid new → Visits sees (found_at page places) 0 (32 * (e + 1)) old new
place_visits {W} sees page places None e old mid new is before now = no_extent_visits sees page places e old new is (subst (λ (x : W). Visits sees (found_at page places) 0 (32 * e) old x) (sym now) before)
place_visits sees page places (Some first) e old mid new is before now = extent_visits sees page places first e old mid new is before now

-- ---- all of them

-- what each step keeps is so after all
pub visits_keep : {W : Type 0} (sees : W → ℕ → Found → W → Type 0) (f : ℕ → Option Found) (P : ℕ → W → Type 0) (old : W) → P 0 old → (count : ℕ) → ((n : ℕ) (w u : W) → n < count → P n w → Step sees n (f n) w u → P (suc n) u)
    → (new : W) → Visits sees f 0 count old new → P count new
unfolding Visits
visits_keep sees f P old start zero step new v = subst (P 0) (sym v) start
visits_keep sees f P old start (suc count) step new v =
    let e : 0 + count ≡ count = omega arith in
    step count v.0 new (omega arith) (visits_keep sees f P old start count (λ n w u l. step n w u (omega (arith, l))) v.0 v.1) (subst (λ (n : ℕ). Step sees n (f n) v.0 new) e v.2)
