-- The marks that a transaction gets, and that they fit the map.
use Rattle.std.proofs.Common.{◌≡◌, ◌<◌, ◌≤◌, ◌⊎◌, inl, inr, refl, sym, ap, ◌∙◌, subst, ℕ, ◌+◌, ◌*◌, ◌/◌, ◌^◌, Bool, true, false, true≢false, not, ◌&&◌, ◌==◌, if◌then◌else◌, length, get_or, set, map, Option, Some, None, arith, eqb-true}
use Rattle.std.specs.List.{range_with_len}
use Rattle.std.proofs.lemmas.Bool.{cases_lt, le-leb, lt-ltb}
use Rattle.std.proofs.lemmas.List.{get_or-set_same, get_or_past}
use Rattle.std.proofs.lemmas.List.FromFn.{get_or-map-range_with_len, length-map-range_with_len}
use Rattle.jfs_bits.specs.Bits.{is_in_run}
use Rattle.jfs_bits.specs.declared.descriptor.Pxd.{Pxd}
use Rattle.jfs_iag.specs.Iag.{no_run}
use Rattle.jfs_imap.specs.Inodes.{Inodes, is_used, is_free, extent_at, with_extent, IsLowestPlace, IsPick}
use Rattle.jfs_imap.specs.declared.inode_map.Pick.{Pick}
use Rattle.jfs_imap.specs.declared.inode_map.Pick.TheVariants.{Number, NeedsExtent, NoInodes}
use Rattle.jfs_data_steps.specs.steps.specs.After.{four_from}
use Rattle.jfs_marks.specs.declared.founded.Founded.{Founded}
use Rattle.jfs_marks.specs.declared.founded.Founded.TheVariants as founded
use Rattle.jfs_marks.specs.declared.founded.NewExtent.{NewExtent}
use Rattle.jfs_marks.specs.declared.changes.Met.{Met}
use Rattle.jfs_marks.specs.declared.changes.Met.TheVariants as met
use Rattle.jfs_marks.specs.declared.changes.Changes.{Changes}
use Rattle.jfs_marks.specs.declared.marks.InodeMarks.{InodeMarks}
use Rattle.jfs_marks.specs.declared.marking.Marking.TheVariants.{Fits, Unfit}
use Rattle.jfs_marks.specs.Founded.{FitsFounded}
use Rattle.jfs_marks.specs.Marks.{FitsMarks}
use Rattle.jfs_marks.specs.Marking.{marks, without_extent, in_extent, with_extent as with_extent_marks, with_freed, marking_for, marking_by, FitsMarking}

-- ---- an extent that is added

pub lowest_is : (m : Inodes) (a b : ℕ) → IsLowestPlace m a → IsLowestPlace m b → a ≡ b
lowest_is m a b l h = by (cases_lt a b) (cases_lt b a)
  where
    by : (a < b) ⊎ (b ≤ a) → (b < a) ⊎ (a ≤ b) → a ≡ b
    by (inl x) y = let there = h.2 a x in absurd (true≢false (sym there ∙ l.1))
    by (inr x) (inl y) = let there = l.2 b y in absurd (true≢false (sym there ∙ h.1))
    by (inr x) (inr y) = omega (arith, x, y)

-- the inodes of a new extent aren't in use, and all others are as they were
pub used_with : (m : Inodes) (e : ℕ) (at : Pxd) (i : ℕ) → is_used (with_extent e at m) i ≡ (not (is_in_run (32 * e) 32 i) && is_used m i)
used_with m e at i = elim (cases_lt i (length m.taken)) [
  | inl l ↦ get_or-map-range_with_len (λ (k : ℕ). not (is_in_run (32 * e) 32 k) && is_used m k) 0 (length m.taken) i i false l (omega arith)
  | inr l ↦ get_or_past (map (λ (k : ℕ). not (is_in_run (32 * e) 32 k) && is_used m k) (range_with_len 0 (length m.taken))) i false
      (let n = length-map-range_with_len (λ (k : ℕ). not (is_in_run (32 * e) 32 k) && is_used m k) 0 (length m.taken) in omega (arith, l, n))
      ∙ sym (ap (λ (x : Bool). not (is_in_run (32 * e) 32 i) && x) (get_or_past m.taken i false l) ∙ none (not (is_in_run (32 * e) 32 i)))
]
  where
    none : (x : Bool) → (x && false) ≡ false
    none true = refl
    none false = refl

pub in_place : (e i : ℕ) → i / 32 ≡ e → is_in_run (32 * e) 32 i ≡ true
in_place e i h = rw (le-leb (32 * e) i (omega (arith, h)), lt-ltb i (32 * e + 32) (omega (arith, h))) refl

-- so an inode of it is free
fresh_free : (m : Inodes) (e : ℕ) (first n : ℕ) → e < length m.extents → n / 32 ≡ e → is_free (with_extent e (four_from first) m) n ≡ true
fresh_free m e first n l h = rw (at_place, used_with m e (four_from first) n, in_place e n h) refl
  where
    at_place : extent_at (with_extent e (four_from first) m) (n / 32) ≡ four_from first
    at_place = ap (λ (k : ℕ). get_or (set m.extents e (four_from first)) k no_run) h ∙ get_or-set_same m.extents e (four_from first) no_run l

-- ---- the marks

none_fits : (m : Inodes) (freed : Option ℕ) → FitsMarks m (record { extent = None; taken = None; freed = freed })
none_fits m freed = record { extent = tt; taken = λ mid is. tt }

without_fits : (m : Inodes) (pick : Pick) (taken : Met) (freed : Option ℕ) → IsPick m pick → FitsMarking m (without_extent pick taken freed)
without_fits m pick met.Nothing freed p = none_fits m freed
without_fits m pick met.Several freed p = tt
without_fits m NoInodes (met.One n) freed p = tt
without_fits m (NeedsExtent place) (met.One n) freed p = tt
without_fits m (Number k) (met.One n) freed p = by (n == k) refl
  where
    by : (x : Bool) → (n == k) ≡ x → FitsMarking m (if x then marks None (Some n) freed else Unfit)
    by false e = tt
    by true e = record { extent = tt; taken = λ mid is. subst (λ (x : Inodes). is_free x n ≡ true) (sym is) (ap (λ (j : ℕ). is_free m j) (eqb-true n k e) ∙ p.0) }

in_fits : (m : Inodes) (x : NewExtent) (taken : Met) (freed : Option ℕ) → IsLowestPlace m x.place → x.first < 2 ^ 32 → FitsMarking m (in_extent x taken freed)
in_fits m x met.Several freed low small = tt
in_fits m x met.Nothing freed low small = record {
  extent = ((x.place, low.0, low.1), record { len = omega arith; addr = omega (arith, small) }, refl);
  taken = λ mid is. tt;
}
in_fits m x (met.One n) freed low small = by (n / 32 == x.place) refl
  where
    by : (b : Bool) → (n / 32 == x.place) ≡ b → FitsMarking m (if b then marks (Some (four_from x.first)) (Some n) freed else Unfit)
    by false e = tt
    by true e = record {
      extent = ((x.place, low.0, low.1), record { len = omega arith; addr = omega (arith, small) }, refl);
      taken = λ mid is. subst (λ (y : Inodes). is_free y n ≡ true) (sym is.2)
          (let same = lowest_is m is.0 x.place is.1 low in fresh_free m is.0 x.first n (let l = low.0 in omega (arith, same, l)) (eqb-true (n / 32) x.place e ∙ sym same));
    }

with_fits : (m : Inodes) (pick : Pick) (x : NewExtent) (taken : Met) (freed : Option ℕ) → IsPick m pick → x.first < 2 ^ 32 → FitsMarking m (with_extent_marks pick x taken freed)
with_fits m NoInodes x taken freed p small = tt
with_fits m (Number k) x taken freed p small = tt
with_fits m (NeedsExtent place) x taken freed p small = by (place == x.place) refl
  where
    by : (b : Bool) → (place == x.place) ≡ b → FitsMarking m (if b then in_extent x taken freed else Unfit)
    by false e = tt
    by true e = in_fits m x taken freed (subst (λ (k : ℕ). IsLowestPlace m k) (eqb-true place x.place e) p.1) small

freed_fits : (m : Inodes) (pick : Pick) (f : Founded) (taken : Met) (freed : Option ℕ) → IsPick m pick → FitsFounded f → FitsMarking m (with_freed pick f taken freed)
freed_fits m pick founded.Nothing taken freed p small = without_fits m pick taken freed p
freed_fits m pick (founded.One x) taken freed p small = with_fits m pick x taken freed p small
freed_fits m pick founded.Several taken freed p small = tt

for_fits : (m : Inodes) (pick : Pick) (f : Founded) (taken freed : Met) → IsPick m pick → FitsFounded f → FitsMarking m (marking_for pick f taken freed)
for_fits m pick f taken met.Nothing p small = freed_fits m pick f taken None p small
for_fits m pick f taken (met.One n) p small = freed_fits m pick f taken (Some n) p small
for_fits m pick f taken met.Several p small = tt

pub marking_fits : (m : Inodes) (pick : Pick) (f : Founded) (c : Changes) → IsPick m pick → FitsFounded f → FitsMarking m (marking_by pick f c)
marking_fits m pick f c p small = for_fits m pick f c.taken c.freed p small

-- ---- what marks that fit say

abbrev pub met_of : Option ℕ → Met
met_of None = met.Nothing
met_of (Some n) = met.One n

-- the extent is the one that is founded, in the lowest place
abbrev pub IsFoundedAs : Inodes → Founded → Option Pxd → Type 0
IsFoundedAs m founded.Nothing extent = extent ≡ None
IsFoundedAs m (founded.One x) extent = (extent ≡ Some (four_from x.first)) × IsLowestPlace m x.place
IsFoundedAs m founded.Several extent = ⊥

pub record Says (m : Inodes) (f : Founded) (taken freed : Met) (marks : InodeMarks) : Type 0 where
  pub taken_is : taken ≡ met_of marks.taken
  pub freed_is : freed ≡ met_of marks.freed
  pub extent_is : IsFoundedAs m f marks.extent

same_marks : {a b : InodeMarks} → Fits a ≡ Fits b → a ≡ b
same_marks h = cc (h)

says_same : (m : Inodes) (f : Founded) (taken freed : Met) (a b : InodeMarks) → Fits a ≡ Fits b → Says m f taken freed a → Says m f taken freed b
says_same m f taken freed a b e s = subst (λ (x : InodeMarks). Says m f taken freed x) (same_marks e) s

without_says : (m : Inodes) (pick : Pick) (taken : Met) (freed : Option ℕ) (marks : InodeMarks) → without_extent pick taken freed ≡ Fits marks → Says m founded.Nothing taken (met_of freed) marks
without_says m pick met.Nothing freed marks e = says_same m founded.Nothing met.Nothing (met_of freed) (record { extent = None; taken = None; freed = freed }) marks e (record { taken_is = refl; freed_is = refl; extent_is = refl })
without_says m pick met.Several freed marks e = absurd (cc (e))
without_says m NoInodes (met.One n) freed marks e = absurd (cc (e))
without_says m (NeedsExtent place) (met.One n) freed marks e = absurd (cc (e))
without_says m (Number k) (met.One n) freed marks e = by (n == k) e
  where
    by : (x : Bool) → (if x then Fits (record { extent = None; taken = Some n; freed = freed }) else Unfit) ≡ Fits marks → Says m founded.Nothing (met.One n) (met_of freed) marks
    by false e = absurd (cc (e))
    by true e = says_same m founded.Nothing (met.One n) (met_of freed) (record { extent = None; taken = Some n; freed = freed }) marks e (record { taken_is = refl; freed_is = refl; extent_is = refl })

in_says : (m : Inodes) (x : NewExtent) (taken : Met) (freed : Option ℕ) (marks : InodeMarks) → IsLowestPlace m x.place → in_extent x taken freed ≡ Fits marks → Says m (founded.One x) taken (met_of freed) marks
in_says m x met.Several freed marks low e = absurd (cc (e))
in_says m x met.Nothing freed marks low e = says_same m (founded.One x) met.Nothing (met_of freed) (record { extent = Some (four_from x.first); taken = None; freed = freed }) marks e
    (record { taken_is = refl; freed_is = refl; extent_is = (refl, low) })
in_says m x (met.One n) freed marks low e = by (n / 32 == x.place) e
  where
    by : (b : Bool) → (if b then Fits (record { extent = Some (four_from x.first); taken = Some n; freed = freed }) else Unfit) ≡ Fits marks → Says m (founded.One x) (met.One n) (met_of freed) marks
    by false e = absurd (cc (e))
    by true e = says_same m (founded.One x) (met.One n) (met_of freed) (record { extent = Some (four_from x.first); taken = Some n; freed = freed }) marks e
        (record { taken_is = refl; freed_is = refl; extent_is = (refl, low) })

with_says : (m : Inodes) (pick : Pick) (x : NewExtent) (taken : Met) (freed : Option ℕ) (marks : InodeMarks) → IsPick m pick → with_extent_marks pick x taken freed ≡ Fits marks → Says m (founded.One x) taken (met_of freed) marks
with_says m NoInodes x taken freed marks p e = absurd (cc (e))
with_says m (Number k) x taken freed marks p e = absurd (cc (e))
with_says m (NeedsExtent place) x taken freed marks p e = by (place == x.place) refl e
  where
    by : (b : Bool) → (place == x.place) ≡ b → (if b then in_extent x taken freed else Unfit) ≡ Fits marks → Says m (founded.One x) taken (met_of freed) marks
    by false h e = absurd (cc (e))
    by true h e = in_says m x taken freed marks (subst (λ (k : ℕ). IsLowestPlace m k) (eqb-true place x.place h) p.1) e

freed_says : (m : Inodes) (pick : Pick) (f : Founded) (taken : Met) (freed : Option ℕ) (marks : InodeMarks) → IsPick m pick → with_freed pick f taken freed ≡ Fits marks → Says m f taken (met_of freed) marks
freed_says m pick founded.Nothing taken freed marks p e = without_says m pick taken freed marks e
freed_says m pick (founded.One x) taken freed marks p e = with_says m pick x taken freed marks p e
freed_says m pick founded.Several taken freed marks p e = absurd (cc (e))

pub says : (m : Inodes) (pick : Pick) (f : Founded) (taken freed : Met) (marks : InodeMarks) → IsPick m pick → marking_for pick f taken freed ≡ Fits marks → Says m f taken freed marks
says m pick f taken met.Nothing marks p e = freed_says m pick f taken None marks p e
says m pick f taken (met.One n) marks p e = freed_says m pick f taken (Some n) marks p e
says m pick f taken met.Several marks p e = absurd (cc (e))
