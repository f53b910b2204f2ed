-- What the lines of an entry make of a page that memory shows.
use Rattle.std.proofs.Common.{◌≡◌, ◌<◌, ◌⊎◌, ◌||◌, ◌&&◌, ℕ, suc, Bool, true, false, List, length, replicate, refl, sym, ap, ◌∙◌, inl, inr, arith}
use Rattle.std.proofs.lemmas.Bool.{cases_Bool}
use Rattle.std.proofs.lemmas.List.{ext_get_or, get_or-replicate, length-replicate}
use Rattle.jfs_ranges.specs.declared.edit.Edit.{Edit}
use Rattle.jfs_ranges.specs.Apply.{apply_tx, touches_tx}
use Rattle.jfs_face.specs.recovery.specs.crash_core.proofs.Bytes.{apply_tx-untouched}
use Rattle.jfs_face.specs.recovery.specs.records.specs.Redo.{closes_in}
use Rattle.jfs_face.specs.recovery.specs.Lines.{rest_of}
use Rattle.jfs_logged.specs.halves.specs.Marks.{frees_page}
use Rattle.jfs_face.specs.recovery.specs.Face.{Face, IsFace, Pages, Gives, Passes, byte, matters}
use Rattle.jfs_face.specs.recovery.specs.Core.{IsLogged}
use Rattle.jfs_face.specs.recovery.specs.objects.specs.Readers.{Readers}
use Rattle.jfs_face.specs.Places.{Places, is_map_page}
use Rattle.jfs_face.specs.Volume.{face_of}
use Rattle.jfs_logged.proofs.Joined.{rest_untouched, freed_rest}

-- A face whose lines are edits, and whose pages are touched by lines and by NoRedos; a page of a map beside that as the face has it.
pub record ReadsLines (f : Face) : Type 0 where
  pub lines : (tx : List Edit) (p : ℕ) (a : List ℕ) → f.lines tx p a ≡ apply_tx p tx a
  pub touched : (s : Pages) (tx : List Edit) (p : ℕ) → f.touches s tx p ≡ false → touches_tx p tx ≡ false
  pub redoes : (tx : List Edit) (p : ℕ) (a : List ℕ) → f.redoes tx p a ≡ apply_tx p (rest_of p tx) a
  pub closes : (tx : List Edit) (p : ℕ) → f.closes tx p ≡ closes_in p tx
  pub by : (s : Pages) (tx : List Edit) (p : ℕ) → f.is_map p ≡ false → f.touches s tx p ≡ true → touches_tx p tx ≡ false → f.closes tx p ≡ true

pub reads_lines : (r : Readers) (pl : Places) (changes : Pages → List Edit → ℕ → Bool) → ReadsLines (face_of r pl changes)
reads_lines r pl changes = record {
  lines = λ tx p a. refl;
  redoes = λ tx p a. refl;
  closes = λ tx p. refl;
  touched = λ s tx p e. none (touches_tx p tx) (closes_in p tx) (is_map_page pl p && changes s tx p) e;
  by = λ s tx p page e zero. closed (touches_tx p tx) (closes_in p tx) (is_map_page pl p) (changes s tx p) page e zero;
}
  where
    none : (a b c : Bool) → (a || b || c) ≡ false → a ≡ false
    none true true true e = cc
    none true true false e = cc
    none true false true e = cc
    none true false false e = cc
    none false b c e = refl

    closed : (a b c d : Bool) → c ≡ false → (a || b || (c && d)) ≡ true → a ≡ false → b ≡ true
    closed true b c d e h z = absurd (cc (z))
    closed false true c d e h z = refl
    closed false false true d e h z = absurd (cc (e))
    closed false false false d e h z = absurd (cc (h))

-- a page of one byte
abbrev page_of_one : ℕ → List ℕ
page_of_one x = replicate 4096 x

size_of_one : (x : ℕ) → length (page_of_one x) ≡ 4096
size_of_one x = length-replicate {A = ℕ} 4096 x

-- A page that redo of an entry gives whole, its lines give too, whatever stood there.
pub whole_lines : (f : Face) → IsFace f → (tx : List Edit) (p : ℕ) (page : List ℕ) → length page ≡ 4096 → ((a : List ℕ) (i : ℕ) → length a ≡ 4096 → i < 4096 → byte (f.redoes tx p a) i ≡ byte page i)
    → (b : List ℕ) → length b ≡ 4096 → f.lines tx p b ≡ page
whole_lines f laws tx p page size gives b b_size =
    ext_get_or 0 (f.lines tx p b) page (laws.size_lines tx p b b_size ∙ sym size) (λ i l. at i (let s = laws.size_lines tx p b b_size in omega (arith, l, s)) (laws.bytes tx p i (let s = laws.size_lines tx p b b_size in omega (arith, l, s))))
  where
    at : (i : ℕ) → i < 4096 → Gives f tx p i ⊎ Passes f tx p i → byte (f.lines tx p b) i ≡ byte page i
    at i l (inl given) = sym (given b b b_size b_size) ∙ gives b i b_size l
    at i l (inr passes) =
        let x = suc (byte page i) in
        let other = passes.redo (page_of_one x) (size_of_one x) in
        let here = gives (page_of_one x) i (size_of_one x) l in
        let is = get_or-replicate {A = ℕ} 4096 i x 0 l in
        absurd (omega (arith, other, here, is))

-- what gives a page whole doesn't leave whatever stands there
pub not_left : {A : Type 0} (g : List ℕ → List ℕ) (page : List ℕ) → ((a : List ℕ) (i : ℕ) → length a ≡ 4096 → i < 4096 → byte (g a) i ≡ byte page i) → ((a : List ℕ) → length a ≡ 4096 → g a ≡ a) → A
not_left g page gives leaves =
    let first : (x : ℕ) → x ≡ byte page 0 = λ x.
    (let is = get_or-replicate {A = ℕ} 4096 0 x 0 (omega arith) in
    let left = ap (λ (a : List ℕ). byte a 0) (leaves (page_of_one x) (size_of_one x)) in
    let given = gives (page_of_one x) 0 (size_of_one x) (omega arith) in
    omega (arith, is, left, given)) in
    let zero_is = first 0 in
    let one_is = first 1 in
    absurd (omega (arith, zero_is, one_is))

-- An entry that leaves each page of redo as it was, and has a NoRedo of it or found it not to matter, leaves it one that doesn't matter.
leaves_free : (f : Face) → (s : Pages) (tx : List Edit) (t : Pages) (p : ℕ) → IsLogged f s tx t p → (f.closes tx p ≡ true) ⊎ (matters f s p ≡ false) → ((a : List ℕ) → length a ≡ 4096 → f.redoes tx p a ≡ a) → matters f t p ≡ false
leaves_free f s tx t p logged why left = at (cases_Bool (matters f t p))
  where
    at : (matters f t p ≡ true) ⊎ (matters f t p ≡ false) → matters f t p ≡ false
    at (inr gone) = gone
    at (inl there) = not_left (f.redoes tx p) (t p) (logged.whole there why) left

untouched_redo : (f : Face) → ReadsLines f → (tx : List Edit) (p : ℕ) → touches_tx p (rest_of p tx) ≡ false → (a : List ℕ) → length a ≡ 4096 → f.redoes tx p a ≡ a
untouched_redo f reads tx p none a size = reads.redoes tx p a ∙ apply_tx-untouched p (rest_of p tx) a size none

-- So does one that has no lines of a page, and a NoRedo of it; and one that frees it; and one without lines of a page that doesn't matter.
pub freed : (f : Face) → ReadsLines f → (s : Pages) (tx : List Edit) (t : Pages) (p : ℕ) → IsLogged f s tx t p → f.closes tx p ≡ true → touches_tx p tx ≡ false → matters f t p ≡ false
freed f reads s tx t p logged closed none = leaves_free f s tx t p logged (inl closed) (untouched_redo f reads tx p (rest_untouched p tx none))

pub frees : (f : Face) → ReadsLines f → (s : Pages) (tx : List Edit) (t : Pages) (p : ℕ) → IsLogged f s tx t p → frees_page p tx ≡ true → matters f t p ≡ false
frees f reads s tx t p logged h = let x = freed_rest p tx h in leaves_free f s tx t p logged (inl (reads.closes tx p ∙ x.0)) (untouched_redo f reads tx p x.1)

pub stays_free : (f : Face) → ReadsLines f → (s : Pages) (tx : List Edit) (t : Pages) (p : ℕ) → IsLogged f s tx t p → matters f s p ≡ false → touches_tx p tx ≡ false → matters f t p ≡ false
stays_free f reads s tx t p logged was none = leaves_free f s tx t p logged (inr was) (untouched_redo f reads tx p (rest_untouched p tx none))

-- What memory shows of a page that matters before it, and of each page that matters after it, is as the entry leaves it.
pub shown_after : (f : Face) → IsFace f → ReadsLines f → (s : Pages) (tx : List Edit) (t : Pages) (p : ℕ) → t p ≡ f.lines tx p (s p) → length (s p) ≡ 4096 → IsLogged f s tx t p
    → (shown : List ℕ) → length shown ≡ 4096 → (matters f s p ≡ true → shown ≡ s p) → matters f t p ≡ true → apply_tx p tx shown ≡ t p
shown_after f laws reads s tx t p follows size logged shown shown_size shown_is there = sym (reads.lines tx p shown) ∙ at (cases_Bool (f.closes tx p)) (cases_Bool (matters f s p))
  where
    t_size : length (t p) ≡ 4096
    t_size = ap (λ (a : List ℕ). length a) follows ∙ laws.size_lines tx p (s p) size

    at : (f.closes tx p ≡ true) ⊎ (f.closes tx p ≡ false) → (matters f s p ≡ true) ⊎ (matters f s p ≡ false) → f.lines tx p shown ≡ t p
    at (inl closed) was = whole_lines f laws tx p (t p) t_size (λ a i a_size l. logged.whole there (inl closed) a i a_size l) shown shown_size
    at (inr stays) (inr none) = whole_lines f laws tx p (t p) t_size (λ a i a_size l. logged.whole there (inr none) a i a_size l) shown shown_size
    at (inr stays) (inl was) = ap (f.lines tx p) (shown_is was) ∙ sym follows
