-- What is read of a ring, as code names it.
use Rattle.std.proofs.Common.{◌≡◌, ◌≤◌, ◌<◌, ◌+◌, ◌-◌, ◌/◌, ◌%◌, ℕ, suc, min, List, [], ◌∷◌, ◌++◌, length, take, get_or, refl, sym, ap, subst, ◌∙◌, ◌⊎◌, inl, inr, arith, eq-eqb}
use Rattle.std.proofs.Math.Nat.{mod-lt}
use Rattle.std.proofs.lemmas.Bool.{cases_eq, cases_lt, ne_eqb, le-leb, lt-leb}
use Rattle.std.proofs.lemmas.List.{take-append-le, take_min, length-append, get_or_append_left, get_or-append_right}
use Rattle.std.proofs.Math.Seq.{take-append-add}
use Rattle.jfs_disk.specs.Image.{Image, page_of}
use Rattle.jfs_logpages.specs.Ring.{slot, head_number, tail_number, eor_of, body_of, bodies, IsNumbered, IsRun, Reads, text_of}
use Rattle.jfs_logpages.proofs.TextRead.{length-body}
use Rattle.jfs_logpages.specs.Marks.{IsRunIn, mark_of, AreMarks}

marked : (ring place q : ℕ) (page : List ℕ) → mark_of ring place page ≡ suc q → IsNumbered q page
marked ring place q page e = by (cases_eq (head_number page) (tail_number page)) (cases_eq (head_number page % ring) place)
  where
    by : (head_number page ≡ tail_number page) ⊎ (head_number page ≡ tail_number page → ⊥) → (head_number page % ring ≡ place) ⊎ (head_number page % ring ≡ place → ⊥) → IsNumbered q page
    by (inl a) (inl b) =
        let mark : mark_of ring place page ≡ suc (head_number page) = rw (eq-eqb (head_number page) (tail_number page) a, eq-eqb (head_number page % ring) place b) refl in
        (omega (arith, e, mark), omega (arith, e, mark, a))
    by (inl a) (inr b) =
        let mark : mark_of ring place page ≡ 0 = rw (eq-eqb (head_number page) (tail_number page) a, ne_eqb (head_number page % ring) place b) refl in
        absurd (omega (arith, e, mark))
    by (inr a) other =
        let mark : mark_of ring place page ≡ 0 = rw (ne_eqb (head_number page) (tail_number page) a) refl in
        absurd (omega (arith, e, mark))

noted : (ring q : ℕ) (page : List ℕ) → IsNumbered q page → mark_of ring (q % ring) page ≡ suc q
noted ring q page is =
    let same : head_number page ≡ tail_number page = omega (arith, is.0, is.1) in
    let place : head_number page % ring ≡ q % ring = ap (λ (n : ℕ). n % ring) is.0 in
    rw (eq-eqb (head_number page) (tail_number page) same, eq-eqb (head_number page % ring) (q % ring) place) (ap suc is.0)

mark-at : (ring : ℕ) (image : Image) (marks : List ℕ) (q : ℕ) → 0 < ring → length marks ≡ ring → AreMarks ring image marks → get_or marks (q % length marks) 0 ≡ mark_of ring (q % ring) (slot ring image q)
mark-at ring image marks q some size are =
    are (q % length marks) (mod-lt q {m = length marks} (omega arith)) ∙ ap (λ (r : ℕ). mark_of ring (q % r) (page_of image (2 + q % r))) size

pub run-in : (ring : ℕ) (image : Image) (marks : List ℕ) (q : ℕ) → 0 < ring → length marks ≡ ring → AreMarks ring image marks → IsRunIn marks (ring / 2) q → IsRun ring image q
run-in ring image marks q some size are run = record {
  long = run.long;
  each = λ k h g. marked ring (k % ring) k (slot ring image k) (sym (mark-at ring image marks k some size are) ∙ run.each k h g);
}

pub run-out : (ring : ℕ) (image : Image) (marks : List ℕ) (q : ℕ) → 0 < ring → length marks ≡ ring → AreMarks ring image marks → IsRun ring image q → IsRunIn marks (ring / 2) q
run-out ring image marks q some size are run = record {
  long = run.long;
  each = λ k h g. mark-at ring image marks k some size are ∙ noted ring k (slot ring image k) (run.each k h g);
}

-- one more page is noted
pub marks-more : (ring : ℕ) (log : Image) (marks : List ℕ) (m place : ℕ) → length marks ≡ place → m ≡ mark_of ring place (page_of log (2 + place)) → AreMarks ring log marks → AreMarks ring log (marks ++ m ∷ [])
marks-more ring log marks m place size e are p h = by (cases_lt p place)
  where
    by : (p < place) ⊎ (place ≤ p) → get_or (marks ++ m ∷ []) p 0 ≡ mark_of ring p (page_of log (2 + p))
    by (inl low) = get_or_append_left marks (m ∷ []) 0 p (omega (arith, size)) ∙ are p (omega (arith, size))
    by (inr high) =
        let same : p ≡ place = omega (arith, h, high, size, length-append marks (m ∷ [])) in
        let first : p - place ≡ 0 = omega arith in
        get_or-append_right marks (m ∷ []) place p 0 size high ∙ ap (λ (i : ℕ). get_or (m ∷ []) i 0) first ∙ e ∙ ap (λ (i : ℕ). mark_of ring i (page_of log (2 + i))) (sym same)

-- one more page is read
pub text-more : (ring : ℕ) (image : Image) (first n : ℕ) (page text : List ℕ) → page ≡ slot ring image (first + n) → length page ≡ 4096 → text ≡ bodies ring image first n
    → bodies ring image first (n + 1) ≡ text ++ body_of page
text-more ring image first n page text e size is =
    let next : n + 1 ≡ suc n = omega arith in
    rw (next, is, e) refl

pub end-here : (ring : ℕ) (image : Image) (first n end : ℕ) (page text : List ℕ) → page ≡ slot ring image (first + n) → length page ≡ 4096 → text ≡ bodies ring image first n
    → 8 < eor_of page → end ≡ length text + min (eor_of page - 8) 4080
    → text_of ring image first (n + 1) ≡ take end (text ++ body_of page)
end-here ring image first n end page text e size is some place =
    let next : n + 1 ≡ suc n = omega arith in
    let long = length-body page size in
    let shown : text_of ring image first (suc n) ≡ bodies ring image first n ++ take (eor_of (slot ring image (first + n)) - 8) (body_of (slot ring image (first + n))) =
    rw (lt-leb (eor_of (slot ring image (first + n))) 8 (subst (λ (p : List ℕ). 8 < eor_of p) e some)) refl in
    ap (λ (m : ℕ). text_of ring image first m) next ∙ shown
    ∙ ap (λ (p : List ℕ). bodies ring image first n ++ take (eor_of p - 8) (body_of p)) (sym e)
    ∙ ap (λ (b : List ℕ). b ++ take (eor_of page - 8) (body_of page)) (sym is)
    ∙ ap (λ (b : List ℕ). text ++ b) (sym (take_min (eor_of page - 8) (body_of page)) ∙ ap (λ (m : ℕ). take (min (eor_of page - 8) m) (body_of page)) long)
    ∙ sym (ap (λ (m : ℕ). take m (text ++ body_of page)) place ∙ take-append-add text (body_of page) (min (eor_of page - 8) 4080))

pub end-before : (ring : ℕ) (image : Image) (first n end : ℕ) (page text : List ℕ) → page ≡ slot ring image (first + n) → end ≤ length text → eor_of page ≤ 8
    → text_of ring image first n ≡ take end text → text_of ring image first (n + 1) ≡ take end (text ++ body_of page)
end-before ring image first n end page text e within none is =
    let next : n + 1 ≡ suc n = omega arith in
    let shown : text_of ring image first (suc n) ≡ text_of ring image first n = rw (le-leb (eor_of (slot ring image (first + n))) 8 (subst (λ (p : List ℕ). eor_of p ≤ 8) e none)) refl in
    ap (λ (m : ℕ). text_of ring image first m) next ∙ shown ∙ is ∙ sym (take-append-le end text (body_of page) within)

-- a ring reads in one way
pub reads-alike : (ring : ℕ) (image : Image) (a b : ℕ) (s t : List ℕ) → Reads ring image a s → Reads ring image b t → (a ≡ b) × (s ≡ t)
reads-alike ring image a b s t x y =
    let last : x.last ≡ y.last = omega (arith, x.greatest y.last y.run, y.greatest x.last x.run) in
    let first : a ≡ b = omega (arith, x.start, y.start, last) in
    (first, x.content ∙ ap (λ (f : ℕ). text_of ring image f (ring / 2)) first ∙ sym y.content)
