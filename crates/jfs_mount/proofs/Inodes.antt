-- The inode extents, IAG by IAG.
use Rattle.std.proofs.Common.{◌≡◌, ◌<◌, ◌≤◌, inl, inr, refl, sym, ap, ◌∙◌, subst, ℕ, zero, suc, ◌+◌, ◌*◌, ◌/◌, ◌%◌, Bool, true, false, not, ◌&&◌, ◌||◌, ◌==◌, nat_le, if◌then◌else◌, List, [], ◌∷◌, ◌++◌, length, Option, Some, None, map, append_assoc, append-nil, length-append, arith}
use Rattle.std.specs.List.{range_with_len}
use Rattle.std.specs.Option.{unwrap_or}
use Rattle.std.proofs.lemmas.Bool.{eq-eqb, ne_eqb, leb-true, and_parts, cases_lt}
use Rattle.std.proofs.lemmas.List.{get_or_push, get_or_append_left, get_or_past}
use Rattle.std.proofs.lemmas.List.FromFn.{map-range_with_len_more}
use Rattle.jfs_bits.specs.declared.descriptor.Pxd.{Pxd}
use Rattle.jfs_bits.specs.declared.extent.Xad.{Xad}
use Rattle.jfs_bits.specs.declared.rule.Rule.TheVariants as rules
use Rattle.jfs_disk.specs.Image.{Image, page_of}
use Rattle.jfs_reader.specs.objects.specs.Contents.{block_of, bytes_at}
use Rattle.jfs_reader.specs.objects.specs.Image.{iag_page, file_page, file_extents, extent_place, extents_on}
use Rattle.jfs_each.specs.Each.{AllFit}
use Rattle.jfs_mount.specs.Subject.{Subject, blocks, volume}
use Rattle.jfs_mount.specs.Mount.{extent_at, fits_extent, fitting, iags, page_of_file, extents_row}
use Rattle.jfs_mount.specs.Files.{extent_in, fits_in, AddsIag, IsMisfit}
use Rattle.jfs_mount.specs.Steps.{AreRead, broken}
use Rattle.jfs_mount.specs.declared.maps.Maps.{Maps}
use Rattle.jfs_mount.proofs.Passed.{prefix_is}
use Rattle.jfs_mount.proofs.Rows.{holds, breaks, same_bad, place_is}

-- the IAG on page `j` of a file with these extents
abbrev pub page_there : (ℕ → List ℕ) → List Xad → ℕ → List ℕ
page_there page es j = unwrap_or (bytes_at page (block_of es j)) []

-- inode extent `e` of the inode map in such a file
abbrev pub extent_there : (ℕ → List ℕ) → List Xad → ℕ → Pxd
extent_there page es e = extent_in (page_there page es (suc (e / 128))) (e % 128)

abbrev pub places_before : (ℕ → List ℕ) → List Xad → ℕ → List (Option ℕ)
places_before page es n = map (λ e. extent_place (extent_there page es e)) (range_with_len 0 n)

-- the first inode extents fit, and these are their places
pub record AreAdded (blocks : ℕ) (page : ℕ → List ℕ) (es : List Xad) (n : ℕ) (places : List (Option ℕ)) : Type 0 where
  pub fit : (e : ℕ) → e < n → fits_in blocks (extent_there page es e) ≡ true
  pub all : places ≡ places_before page es n

-- ---- places one after the other

pub one_more : (f : ℕ → Option ℕ) (before now : List (Option ℕ)) (k : ℕ) (place : Option ℕ) → now ≡ before ++ map f (range_with_len 0 k) → place ≡ f k → now ++ place ∷ [] ≡ before ++ map f (range_with_len 0 (k + 1))
one_more f before now k place same is =
    rw (same, is) (append_assoc before (map f (range_with_len 0 k)) (f k ∷ []) ∙ ap (λ (xs : List (Option ℕ)). before ++ xs) (sym (map-range_with_len_more f 0 k k (omega arith))))

some_more : (f g : ℕ → Option ℕ) (base n : ℕ) → ((k : ℕ) → k < n → f (base + k) ≡ g k) → map f (range_with_len 0 base) ++ map g (range_with_len 0 n) ≡ map f (range_with_len 0 (base + n))
some_more f g base zero same = append-nil (map f (range_with_len 0 base)) ∙ ap (λ n. map f (range_with_len 0 n)) (let e : base ≡ base + 0 = omega arith in e)
some_more f g base (suc n) same =
    ap (λ m. map f (range_with_len 0 base) ++ map g (range_with_len 0 m)) (let e : suc n ≡ n + 1 = omega arith in e)
    ∙ sym (one_more g (map f (range_with_len 0 base)) (map f (range_with_len 0 base) ++ map g (range_with_len 0 n)) n (g n) refl refl)
    ∙ ap (λ (xs : List (Option ℕ)). xs ++ g n ∷ []) (some_more f g base n (λ k l. same k (omega (arith, l))))
    ∙ ap (λ (x : Option ℕ). map f (range_with_len 0 (base + n)) ++ x ∷ []) (sym (same n (omega arith)))
    ∙ sym (map-range_with_len_more f 0 (base + n) (base + n) (omega arith))
    ∙ ap (λ m. map f (range_with_len 0 m)) (let e : base + n + 1 ≡ base + suc n = omega arith in e)

in_iag : (i k : ℕ) → k < 128 → (128 * i + k) / 128 ≡ i
in_iag i k l = omega (arith, l)

in_place : (i k : ℕ) → k < 128 → (128 * i + k) % 128 ≡ k
in_place i k l = omega (arith, l)

-- the extents of one more IAG
pub iag_added : (blocks : ℕ) (page : ℕ → List ℕ) (es : List Xad) (i : ℕ) (old new : List (Option ℕ)) → AreAdded blocks page es (128 * i) old → AddsIag blocks (page_there page es (suc i)) old new None
    → AreAdded blocks page es (128 * (i + 1)) new
iag_added blocks page es i old new before adds = record {
  fit = λ e l. elim (cases_lt e (128 * i)) [
    | inl h ↦ before.fit e h
    | inr h ↦ ap (λ n. fits_in blocks (extent_in (page_there page es (suc n)) (e % 128))) (let at : e / 128 ≡ i = omega (arith, l, h) in at) ∙ adds.1 (e % 128) (omega arith)
  ];
  all =
      let f : (ℕ → Option ℕ) = λ e. extent_place (extent_there page es e) in
      let g : (ℕ → Option ℕ) = λ k. extent_place (extent_in (page_there page es (suc i)) k) in
      adds.0 ∙ ap (λ (xs : List (Option ℕ)). xs ++ map g (range_with_len 0 128)) before.all
      ∙ some_more f g (128 * i) 128 (λ k l. rw (in_iag i k l, in_place i k l) refl)
      ∙ ap (places_before page es) (let e : 128 * i + 128 ≡ 128 * (i + 1) = omega arith in e);
}

-- what was found on a page of a view with the same blocks and pages
pub iag_stays : (now blocks : ℕ) (after image : Image) (rest es : List Xad) (j i : ℕ) (old new : List (Option ℕ)) (o p : Option ℕ) → now ≡ blocks → after ≡ image → j ≡ suc i → block_of rest j ≡ block_of es j → o ≡ p
    → AddsIag now (page_there (page_of after) rest j) old new o → AddsIag blocks (page_there (page_of image) es (suc i)) old new p
iag_stays now blocks after image rest es j i old new o p same whole at f e h =
    let page_is = ap (λ (o : Option ℕ). unwrap_or (bytes_at (page_of after) o) []) (f ∙ ap (block_of es) at) ∙ ap (λ (i' : Image). page_there (page_of i') es (suc i)) whole in
    subst (λ (n : ℕ). AddsIag n (page_there (page_of image) es (suc i)) old new p) same
    (subst (λ (bytes : List ℕ). AddsIag now bytes old new p) page_is
    (subst (λ (o : Option ℕ). AddsIag now (page_there (page_of after) rest j) old new o) e h))

-- ---- extents that fit

pub one_fit : (blocks : ℕ) (page : List ℕ) (n : ℕ) (p : Pxd) → p ≡ extent_in page n → fits_in blocks p ≡ true → ((k : ℕ) → k < n → fits_in blocks (extent_in page k) ≡ true)
    → (k : ℕ) → k < n + 1 → fits_in blocks (extent_in page k) ≡ true
one_fit blocks page n p is fits before k l = elim (cases_lt k n) [
  | inl h ↦ before k h
  | inr h ↦ ap (λ m. fits_in blocks (extent_in page m)) (let same : k ≡ n = omega (arith, l, h) in same) ∙ ap (fits_in blocks) (sym is) ∙ fits
]

pub one_fits : (blocks : ℕ) (xs : List (Option ℕ)) (x : Option ℕ) (p : Pxd) → AllFit blocks xs → fits_in blocks p ≡ true → x ≡ extent_place p → AllFit blocks (xs ++ x ∷ [])
one_fits blocks xs x p all fits is e first h = elim (cases_lt e (length xs)) [
  | inl l ↦ all e first (sym (get_or_append_left xs (x ∷ []) None e l) ∙ h)
  | inr l ↦ elim (cases_lt (length xs) e) [
    | inl m ↦ absurd (let n = length-append xs (x ∷ []) in let past = get_or_past (xs ++ x ∷ []) e None (omega (arith, m, n)) in cc (past, h))
    | inr m ↦ (let same : length xs ≡ e = omega (arith, l, m) in four (p.len == 0 && p.addr == 0) fits (sym is ∙ sym (get_or_push xs x None e same) ∙ h))
  ]
]
  where
    four : (zero : Bool) → (not (not zero) || (p.len == 4 && nat_le (p.addr + 4) blocks)) ≡ true → (if zero then None else Some p.addr) ≡ Some first → first + 4 ≤ blocks
    four true fits e = absurd (cc e)
    four false fits e = let ends = leb-true (p.addr + 4) blocks (and_parts (p.len == 4) (nat_le (p.addr + 4) blocks) fits).1 in let same : p.addr ≡ first = cc e in omega (arith, ends, same)

module _ (s : Subject) (maps : Maps) (is : AreRead s maps) where
  iag_is : (i : ℕ) → iag_page s.readers s.page i ≡ page_there s.page maps.inodes.extents (suc i)
  unfolding file_page
  iag_is i = ap (λ (es : List Xad). page_there s.page es (suc i)) is.inodes.extents

  fits_is : (e i k : ℕ) → e / 128 ≡ i → e % 128 ≡ k → fits_extent s e ≡ fits_in maps.blocks (extent_in (page_there s.page maps.inodes.extents (suc i)) k)
  fits_is e i k at in_it = rw (sym (iag_is i), sym is.blocks, sym at, sym in_it) refl

  fits_there : (e : ℕ) → fits_extent s e ≡ fits_in maps.blocks (extent_there s.page maps.inodes.extents e)
  fits_there e = fits_is e (e / 128) (e % 128) refl refl

  module _ (places : List (Option ℕ)) (added : AreAdded maps.blocks s.page maps.inodes.extents (128 * maps.inodes.iags) places) where
    pub extents_hold : None ≡ broken (extents_row s)
    unfolding fitting
    extents_hold =
        let same = is.inodes.iags in
        holds (extents_row s) (eq-eqb (fitting s) (128 * iags s) (prefix_is (fits_extent s) (128 * iags s) (128 * iags s) (omega arith) (λ e l. fits_there e ∙ added.fit e (omega (arith, same, l))) (λ l. absurd (omega (arith, l)))))

    pub places_are : places ≡ (volume s).extents
    unfolding file_page extents_on
    places_are = added.all
        ∙ ap (λ (es : List Xad). places_before s.page es (128 * maps.inodes.iags)) (sym is.inodes.extents)
        ∙ ap (λ n. places_before s.page (file_extents s.readers s.page 16) (128 * n)) (sym is.inodes.iags)

  module _ (i first : ℕ) (places : List (Option ℕ)) (within : i < maps.inodes.iags) (added : AreAdded maps.blocks s.page maps.inodes.extents (128 * i) places)
      (bad : IsMisfit maps.blocks (page_there s.page maps.inodes.extents (suc i)) first) where
    before : (e : ℕ) → e < 128 * i + bad.place → fits_extent s e ≡ true
    before e l = elim (cases_lt e (128 * i)) [
      | inl h ↦ fits_there e ∙ added.fit e h
      | inr h ↦ (let k = bad.within in fits_is e i (e % 128) (omega (arith, l, h, k)) refl ∙ bad.before (e % 128) (omega (arith, l, h, k)))
    ]

    fits_no : fits_extent s (128 * i + bad.place) ≡ false
    fits_no = fits_is (128 * i + bad.place) i bad.place (in_iag i bad.place bad.within) (in_place i bad.place bad.within) ∙ bad.breaks

    stops_there : fitting s ≡ 128 * i + bad.place
    unfolding fitting
    stops_there =
        let same = is.inodes.iags in
        let w = within in
        let k = bad.within in
        prefix_is (fits_extent s) (128 * iags s) (128 * i + bad.place) (omega (arith, same, w, k)) before (λ _. fits_no)

    address_is : (extent_at s (128 * i + bad.place)).addr ≡ first
    address_is = rw (in_iag i bad.place bad.within, in_place i bad.place bad.within, iag_is i) (sym bad.address)

    pub extents_break : (page : ℕ) → page ≡ unwrap_or (block_of maps.inodes.extents (suc i)) 0 → Some (record { rule = rules.Extents; page = page; value = first }) ≡ broken (extents_row s)
    extents_break page e =
        let same = is.inodes.iags in
        let w = within in
        let k = bad.within in
        let t = stops_there in
        breaks (extents_row s) _ (ne_eqb (fitting s) (128 * iags s) (λ h. omega (arith, same, w, k, h, t)))
        (same_bad rules.Extents page (page_of_file s 16 (suc (fitting s / 128))) first (extent_at s (fitting s)).addr
        (e ∙ sym (place_is s maps is 16 (suc i) maps.inodes.extents is.inodes.extents) ∙ ap (λ n. page_of_file s 16 (suc n)) (sym (ap (λ n. n / 128) t ∙ in_iag i bad.place bad.within)))
        (sym address_is ∙ ap (λ n. (extent_at s n).addr) (sym t)))
