-- Images that a disk may hold, by the pages that were read of it.
use Rattle.std.proofs.Common.{◌≡◌, ◌≤◌, ◌<◌, ◌+◌, ◌-◌, ◌%◌, ℕ, zero, suc, min, IsTrue, List, [], ◌∷◌, ◌++◌, length, take, drop, refl, sym, ap, subst, ◌∙◌, ◌⊎◌, inl, inr, arith}
use Rattle.std.proofs.Math.Nat.{mod-lt}
use Rattle.std.proofs.lemmas.Bool.{cases_lt, cases_eq}
use Rattle.std.proofs.lemmas.List.{get_or_past, get_or-drop, length-append}
use Rattle.jfs_disk.specs.Image.{Image, page_of}
use Rattle.jfs_bits.specs.Field.{range_of, put_bytes}
use Rattle.jfs_bits.proofs.Ranges.{length-put_bytes, range_of-put_other}
use Rattle.jfs_bits.proofs.Parts.{part-held, part-kept, length-range_of, field-from_range}
use Rattle.jfs_logfmt.specs.Super.{is_log_super, log_super_of}
use Rattle.jfs_logpages.specs.Fresh.{own_label}
use Rattle.jfs_logpages.specs.ReadLog.{HasSuper, label_of}
use Rattle.jfs_logpages.specs.Ring.{slot, head_number, tail_number, eor_of, body_of, bodies, text_of, IsRun}
use Rattle.jfs_logpages.specs.Marks.{mark_of}
use Rattle.jfs_logpages.specs.Shown.{OfSome, OfText, ring_page, AreSized, AreNumberedAs, AreMarksOf, AreBodiesOf}
use Rattle.jfs_logpages.proofs.Filled.{page_of-log}
use Rattle.jfs_logpages.proofs.Middle.{places-apart}
use Rattle.jfs_logpages.proofs.ReadBack.{text-more, end-here, end-before, marks-more}

-- ---- an image with a page in its place

-- the image with this page; empty ones before it, where it has fewer
abbrev pub with_page : Image → ℕ → List ℕ → Image
with_page [] zero page = page ∷ []
with_page (p ∷ ps) zero page = page ∷ ps
with_page [] (suc n) page = [] ∷ with_page [] n page
with_page (p ∷ ps) (suc n) page = p ∷ with_page ps n page

pub with_page-there : (image : Image) (n : ℕ) (page : List ℕ) → page_of (with_page image n page) n ≡ page
with_page-there [] zero page = refl
with_page-there (p ∷ ps) zero page = refl
with_page-there [] (suc n) page = with_page-there [] n page
with_page-there (p ∷ ps) (suc n) page = with_page-there ps n page

pub with_page-other : (image : Image) (n k : ℕ) (page : List ℕ) → (k ≡ n → ⊥) → page_of (with_page image n page) k ≡ page_of image k
with_page-other [] zero zero page apart = absurd (apart refl)
with_page-other [] zero (suc k) page apart = refl
with_page-other (p ∷ ps) zero zero page apart = absurd (apart refl)
with_page-other (p ∷ ps) zero (suc k) page apart = refl
with_page-other [] (suc n) zero page apart = refl
with_page-other [] (suc n) (suc k) page apart = with_page-other [] n k page (λ e. apart (ap suc e)) ∙ get_or_past [] k [] (omega arith)
with_page-other (p ∷ ps) (suc n) zero page apart = refl
with_page-other (p ∷ ps) (suc n) (suc k) page apart = with_page-other ps n k page (λ e. apart (ap suc e))

-- a page that stands there already changes nothing
pub with_page-same : (image : Image) (n : ℕ) → n < length image → with_page image n (page_of image n) ≡ image
with_page-same [] n lt = absurd (omega (arith, lt))
with_page-same (p ∷ ps) zero lt = refl
with_page-same (p ∷ ps) (suc n) lt = ap (λ (rest : Image). p ∷ rest) (with_page-same ps n (omega (arith, lt)))

-- a page that has bytes is there
page-there : (image : Image) (n : ℕ) → length (page_of image n) ≡ 4096 → n < length image
page-there image n size = by (cases_lt n (length image))
  where
    by : (n < length image) ⊎ (length image ≤ n) → n < length image
    by (inl low) = low
    by (inr high) = absurd (omega (arith, size, ap (λ (p : List ℕ). length p) (get_or_past image n [] high)))

-- the page that was read is the disk's
pub with_page-held : (image held : Image) (n : ℕ) (page : List ℕ) → length page ≡ 4096 → image ≡ held → page ≡ page_of held n → with_page image n page ≡ held
with_page-held image held n page size same is =
    ap (λ (im : Image). with_page im n page) same ∙ ap (λ (p : List ℕ). with_page held n p) is
    ∙ with_page-same held n (page-there held n (ap (λ (p : List ℕ). length p) (sym is) ∙ size))

-- ---- a page with the number of another

renumbered : List ℕ → List ℕ → List ℕ
renumbered old new = put_bytes 0 (range_of old 0 4) (put_bytes 4088 (range_of old 4088 4) new)

record IsRenumbered (old new page : List ℕ) : Type 0 where
  pub size : length page ≡ 4096
  pub head : head_number page ≡ head_number old
  pub tail : tail_number page ≡ tail_number old
  pub eor : eor_of page ≡ eor_of new
  pub body : body_of page ≡ body_of new

renumbered-is : (old new : List ℕ) → length old ≡ 4096 → length new ≡ 4096 → IsRenumbered old new (renumbered old new)
unfolding renumbered
renumbered-is old new old_size new_size = record {
  size = length-put_bytes 0 head mid (omega (arith, head_size, mid_size)) ∙ mid_size;
  head = field-from_range (put_bytes 0 head mid) old 0 4 (part-held 0 4 head mid head_size (omega (arith, mid_size)));
  tail = field-from_range (put_bytes 0 head mid) old 4088 4 (range_of-put_other 4088 4 0 head mid (omega (arith, head_size, mid_size)) (inr (omega (arith, head_size))) ∙ part-held 4088 4 tail new tail_size (omega (arith, new_size)));
  eor = rw (field-from_range (put_bytes 0 head mid) new 6 2 (same 6 2 (omega arith) (omega arith)), field-from_range (put_bytes 0 head mid) new 4094 2 last) refl;
  body = same 8 4080 (omega arith) (omega arith);
}
  where
    head : List ℕ
    head = range_of old 0 4

    tail : List ℕ
    tail = range_of old 4088 4

    mid : List ℕ
    mid = put_bytes 4088 tail new

    head_size : length head ≡ 4
    head_size = length-range_of old 0 4 (omega (arith, old_size))

    tail_size : length tail ≡ 4
    tail_size = length-range_of old 4088 4 (omega (arith, old_size))

    mid_size : length mid ≡ 4096
    mid_size = length-put_bytes 4088 tail new (omega (arith, tail_size, new_size)) ∙ new_size

    same : (at width : ℕ) → 4 ≤ at → at + width ≤ 4088 → range_of (put_bytes 0 head mid) at width ≡ range_of new at width
    same at width low high =
        range_of-put_other at width 0 head mid (omega (arith, head_size, mid_size)) (inr (omega (arith, head_size, low)))
        ∙ range_of-put_other at width 4088 tail new (omega (arith, tail_size, new_size)) (inl high)

    last : range_of (put_bytes 0 head mid) 4094 2 ≡ range_of new 4094 2
    last =
        range_of-put_other 4094 2 0 head mid (omega (arith, head_size, mid_size)) (inr (omega (arith, head_size)))
        ∙ range_of-put_other 4094 2 4088 tail new (omega (arith, tail_size, new_size)) (inr (omega (arith, tail_size)))

renumbered-same : (page : List ℕ) → length page ≡ 4096 → renumbered page page ≡ page
unfolding renumbered
renumbered-same page size =
    ap (λ (p : List ℕ). put_bytes 0 (range_of page 0 4) p) (sym (part-kept 4088 4 page (omega (arith, size)))) ∙ sym (part-kept 0 4 page (omega (arith, size)))

-- ---- pages that were read for their numbers

pub marks-none : (tells : Type 0) (held : Image) (base ring : ℕ) → OfSome tells held (base + 1) (λ _ image. AreMarksOf base ring [] image)
marks-none tells held base ring = λ before is. (before, is, refl, record { sizes = λ p h. absurd (omega (arith, h)); each = λ p h. absurd (omega (arith, h)) })

pub marks-read : (tells : Type 0) (held : Image) (base ring place m : ℕ) (marks page : List ℕ) → length marks ≡ place → length page ≡ 4096 → (tells → page ≡ page_of held (base + 2 + place)) → m ≡ mark_of ring place page
    → OfSome tells held (base + 1) (λ _ image. AreMarksOf base ring marks image) → OfSome tells held (base + 1) (λ _ image. AreMarksOf base ring (marks ++ m ∷ []) image)
marks-read tells held base ring place m marks page count size is mark old = λ before shown.
    let known = old before shown in
    let image : Image = known.0 in
    let new : Image = with_page image (base + 2 + place) page in
    let there : ring_page base new place ≡ page = with_page-there image (base + 2 + place) page in
    let others : (k : ℕ) → (k ≡ base + 2 + place → ⊥) → page_of new k ≡ page_of image k = λ k apart. with_page-other image (base + 2 + place) k page apart in
    let long : length (marks ++ m ∷ []) ≡ place + 1 = length-append marks (m ∷ []) ∙ ap (λ (n : ℕ). n + 1) count in (
      new,
      (λ t. with_page-held image held (base + 2 + place) page size (known.1 t) (is t)),
      others (base + 1) (λ e. omega (arith, e)) ∙ known.2,
      record {
        sizes = λ p h. sized image new there others known.3.sizes p (cases_lt p place) (omega (arith, h, long));
        each = marks-more ring (drop base new) marks m place count (mark ∙ ap (λ (q : List ℕ). mark_of ring place q) (sym there ∙ sym (page_of-log base place new)))
            (λ p h. known.3.each p h ∙ ap (λ (q : List ℕ). mark_of ring p q) (page_of-log base p image ∙ sym (others (base + 2 + p) (λ e. omega (arith, e, h, count))) ∙ sym (page_of-log base p new)));
      },
    )
  where
    sized : (image new : Image) → ring_page base new place ≡ page → ((k : ℕ) → (k ≡ base + 2 + place → ⊥) → page_of new k ≡ page_of image k) → AreSized base (length marks) image → (p : ℕ) → (p < place) ⊎ (place ≤ p) → p < place + 1 → length (ring_page base new p) ≡ 4096
    sized image new there others sizes p (inl low) h = ap (λ (q : List ℕ). length q) (others (base + 2 + p) (λ e. omega (arith, e, low))) ∙ sizes p (omega (arith, low, count))
    sized image new there others sizes p (inr high) h =
        let e : p ≡ place = omega (arith, h, high) in
        ap (λ (k : ℕ). length (ring_page base new k)) e ∙ ap (λ (q : List ℕ). length q) there ∙ size

-- ---- pages that were read once more, for their text

bodies-same : (ring : ℕ) (a b : Image) (first n : ℕ) → ((k : ℕ) → k < n → slot ring b (first + k) ≡ slot ring a (first + k)) → bodies ring b first n ≡ bodies ring a first n
bodies-same ring a b first zero same = refl
bodies-same ring a b first (suc n) same = rw (bodies-same ring a b first n (λ k h. same k (omega (arith, h))), same n (omega arith)) refl

pub text-same : (ring : ℕ) (a b : Image) (first n : ℕ) → ((k : ℕ) → k < n → slot ring b (first + k) ≡ slot ring a (first + k)) → text_of ring b first n ≡ text_of ring a first n
text-same ring a b first zero same = refl
text-same ring a b first (suc n) same =
    rw (bodies-same ring a b first n (λ k h. same k (omega (arith, h))), text-same ring a b first n (λ k h. same k (omega (arith, h))), same n (omega arith)) refl

pub text-none : (tells : Type 0) (held : Image) (base ring first : ℕ) → OfText tells held base ring (AreBodiesOf base ring first 0 0 [])
text-none tells held base ring first = λ before is sizes. (before, is, refl, record { sizes = sizes; numbers = λ p h. (refl, refl); bodies = refl; content = refl })

pub text-read : (tells : Type 0) (held : Image) (base ring first n old_end end : ℕ) (text page items : List ℕ) → n < ring → length page ≡ 4096 → (tells → page ≡ page_of held (base + 2 + (first + n) % ring))
    → items ≡ text ++ body_of page → old_end ≤ length text
    → ((8 < eor_of page) × (end ≡ length text + min (eor_of page - 8) 4080)) ⊎ ((eor_of page ≤ 8) × (end ≡ old_end))
    → OfText tells held base ring (AreBodiesOf base ring first n old_end text) → OfText tells held base ring (AreBodiesOf base ring first (n + 1) end items)
text-read tells held base ring first n old_end end text page items less size read parts within ended old = λ before shown sizes.
    let known = old before shown sizes in
    let image : Image = known.0 in
    let place : ℕ = (first + n) % ring in
    let fits : place < ring = mod-lt (first + n) {m = ring} (omega (arith, less)) in
    let mixed : List ℕ = renumbered (ring_page base image place) page in
    let is : IsRenumbered (ring_page base image place) page mixed = renumbered-is (ring_page base image place) page (known.3.sizes place fits) size in
    let new : Image = with_page image (base + 2 + place) mixed in
    let others : (k : ℕ) → (k ≡ base + 2 + place → ⊥) → page_of new k ≡ page_of image k = λ k apart. with_page-other image (base + 2 + place) k mixed apart in
    let there : ring_page base new place ≡ mixed = with_page-there image (base + 2 + place) mixed in
    let here : slot ring (drop base new) (first + n) ≡ mixed = page_of-log base place new ∙ there in
    let same : (k : ℕ) → k < n → slot ring (drop base new) (first + k) ≡ slot ring (drop base image) (first + k) =
    λ k h. page_of-log base ((first + k) % ring) new
    ∙ others (base + 2 + (first + k) % ring) (λ e. places-apart ring (first + k) (first + n) (omega (arith, h)) (omega (arith, less)) (omega (arith, e)))
    ∙ sym (page_of-log base ((first + k) % ring) image) in
    let bodies_so_far : text ≡ bodies ring (drop base new) first n = known.3.bodies ∙ sym (bodies-same ring (drop base image) (drop base new) first n same) in
    let items_are : items ≡ text ++ body_of mixed = parts ∙ ap (λ (b : List ℕ). text ++ b) (sym is.body) in (
      new,
      (λ t. with_page-held image held (base + 2 + place) mixed is.size (known.1 t)
          (ap (λ (q : List ℕ). renumbered q page) (ap (λ (im : Image). page_of im (base + 2 + place)) (known.1 t) ∙ sym (read t)) ∙ renumbered-same page size ∙ read t)),
      others (base + 1) (λ e. omega (arith, e)) ∙ known.2,
      record {
        sizes = λ p h. sized image new mixed place there is.size others known.3.sizes p h (cases_eq p place);
        numbers = λ p h. numbered before image new mixed place there is.head is.tail others known.3.numbers p h (cases_eq p place);
        bodies = items_are ∙ sym (text-more ring (drop base new) first n mixed text (sym here) is.size bodies_so_far);
        content = ends image new mixed is here same bodies_so_far items_are known.3.content ended;
      },
    )
  where
    sized : (image new : Image) (mixed : List ℕ) (place : ℕ) → ring_page base new place ≡ mixed → length mixed ≡ 4096 → ((k : ℕ) → (k ≡ base + 2 + place → ⊥) → page_of new k ≡ page_of image k) → AreSized base ring image
        → (p : ℕ) → p < ring → (p ≡ place) ⊎ (p ≡ place → ⊥) → length (ring_page base new p) ≡ 4096
    sized image new mixed place there long others sizes p h (inl e) = ap (λ (k : ℕ). length (ring_page base new k)) e ∙ ap (λ (q : List ℕ). length q) there ∙ long
    sized image new mixed place there long others sizes p h (inr apart) = ap (λ (q : List ℕ). length q) (others (base + 2 + p) (λ e. apart (omega (arith, e)))) ∙ sizes p h

    numbered : (before image new : Image) (mixed : List ℕ) (place : ℕ) → ring_page base new place ≡ mixed → head_number mixed ≡ head_number (ring_page base image place) → tail_number mixed ≡ tail_number (ring_page base image place)
        → ((k : ℕ) → (k ≡ base + 2 + place → ⊥) → page_of new k ≡ page_of image k) → AreNumberedAs base ring before image
        → (p : ℕ) → p < ring → (p ≡ place) ⊎ (p ≡ place → ⊥) → (head_number (ring_page base new p) ≡ head_number (ring_page base before p)) × (tail_number (ring_page base new p) ≡ tail_number (ring_page base before p))
    numbered before image new mixed place there head tail others numbers p h (inl e) =
        let here : ring_page base new p ≡ mixed = ap (λ (k : ℕ). ring_page base new k) e ∙ there in
        let back : ring_page base image place ≡ ring_page base image p = ap (λ (k : ℕ). ring_page base image k) (sym e) in (
          ap head_number here ∙ head ∙ ap head_number back ∙ (numbers p h).0,
          ap tail_number here ∙ tail ∙ ap tail_number back ∙ (numbers p h).1,
        )
    numbered before image new mixed place there head tail others numbers p h (inr apart) =
        let here : ring_page base new p ≡ ring_page base image p = others (base + 2 + p) (λ e. apart (omega (arith, e))) in
        (ap head_number here ∙ (numbers p h).0, ap tail_number here ∙ (numbers p h).1)

    ends : (image new : Image) (mixed : List ℕ) → IsRenumbered (ring_page base image ((first + n) % ring)) page mixed → slot ring (drop base new) (first + n) ≡ mixed
        → ((k : ℕ) → k < n → slot ring (drop base new) (first + k) ≡ slot ring (drop base image) (first + k)) → text ≡ bodies ring (drop base new) first n → items ≡ text ++ body_of mixed
        → text_of ring (drop base image) first n ≡ take old_end text
        → ((8 < eor_of page) × (end ≡ length text + min (eor_of page - 8) 4080)) ⊎ ((eor_of page ≤ 8) × (end ≡ old_end)) → text_of ring (drop base new) first (n + 1) ≡ take end items
    ends image new mixed is here same bodies_so_far items_are so_far (inl some) =
        end-here ring (drop base new) first n end mixed text (sym here) is.size bodies_so_far (omega (arith, some.0, is.eor)) (some.1 ∙ ap (λ (e : ℕ). length text + min (e - 8) 4080) (sym is.eor))
        ∙ ap (λ (b : List ℕ). take end b) (sym items_are)
    ends image new mixed is here same bodies_so_far items_are so_far (inr none) =
        end-before ring (drop base new) first n end mixed text (sym here) (omega (arith, within, none.1)) (omega (arith, none.0, is.eor))
        (text-same ring (drop base image) (drop base new) first n same ∙ so_far ∙ ap (λ (m : ℕ). take m text) (sym none.1))
        ∙ ap (λ (b : List ℕ). take end b) (sym items_are)

-- ---- one ring of both

pub run-renumbered : (base ring q : ℕ) (before image : Image) → 0 < ring → AreNumberedAs base ring before image → IsRun ring (drop base before) q → IsRun ring (drop base image) q
run-renumbered base ring q before image some numbers run = record {
  long = run.long;
  each = λ k h g.
      let place : ℕ = k % ring in
      let same = numbers place (mod-lt k {m = ring} some) in
      let is = run.each k h g in
      let there : (im : Image) → slot ring (drop base im) k ≡ ring_page base im place = λ im. page_of-log base place im in
      (ap head_number (there image) ∙ same.0 ∙ sym (ap head_number (there before)) ∙ is.0, ap tail_number (there image) ∙ same.1 ∙ sym (ap tail_number (there before)) ∙ is.1);
}

pub numbered-back : (base ring : ℕ) (before image : Image) → AreNumberedAs base ring before image → AreNumberedAs base ring image before
numbered-back base ring before image numbers = λ p h. (sym (numbers p h).0, sym (numbers p h).1)

-- ---- the superblock's page

pub super-shown : (tells : Type 0) (held : Image) (base : ℕ) (page : List ℕ) → length page ≡ 4096 → (tells → page ≡ page_of held (base + 1)) → (image : Image) × (tells → image ≡ held) × (page ≡ page_of (drop base image) 1)
super-shown tells held base page size is = (
  with_page held (base + 1) page,
  λ t. with_page-held held held (base + 1) page size refl (is t),
  sym (get_or-drop base (with_page held (base + 1) page) 1 [] ∙ with_page-there held (base + 1) page),
)

pub super-kept : (pages base : ℕ) (before image : Image) → page_of image (base + 1) ≡ page_of before (base + 1) → HasSuper pages (drop base before) → label_of (drop base before) ≡ own_label
    → HasSuper pages (drop base image) × (label_of (drop base image) ≡ own_label)
super-kept pages base before image same is own =
    let page : page_of (drop base before) 1 ≡ page_of (drop base image) 1 = get_or-drop base before 1 [] ∙ sym same ∙ sym (get_or-drop base image 1 []) in
    subst (λ (p : List ℕ). (IsTrue (is_log_super p) × ((log_super_of p).size ≡ pages)) × ((log_super_of p).label ≡ own_label)) page (is, own)
