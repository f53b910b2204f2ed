-- The bytes of a file once its blocks are written: the bytes that were put, and else those that it had.
use Rattle.std.proofs.Common.{◌≡◌, ◌≢◌, ◌≤◌, ◌<◌, ◌⊎◌, inl, inr, refl, sym, ap, ap₂, ◌∙◌, subst, ℕ, suc, ◌+◌, ◌-◌, ◌*◌, ◌/◌, ◌%◌, ◌&&◌, ◌||◌, ◌==◌, Bool, true, false, not, true≢false, if◌then◌else◌, List, [], ◌∷◌, ◌++◌, length, replicate, Option, Some, None, arith, eqb-true, eq-eqb, ne_eqb}
use Rattle.std.specs.Prelude.{nat_le, nat_lt, max, get_or}
use Rattle.std.specs.List.{AllByRecursion as Each}
use Rattle.std.specs.Int.RustNames.{bit_and}
use Rattle.std.proofs.lemmas.Bool.{cases_lt}
use Rattle.std.proofs.lemmas.Bool.Decides.{nat_tests}
use Rattle.std.proofs.lemmas.List.{get_or-replicate, length-replicate}
use Rattle.jfs_bits.specs.declared.extent.Xad.{Xad}
use Rattle.jfs_xtpage.specs.Page.{end_of, rises_from}
use Rattle.jfs_data_steps.specs.xtree.specs.Writing.{AllLong, AllTo, Place, place_in, place_at}
use Rattle.jfs_data_steps.specs.objects.specs.Contents.{block_of, block_in, bytes_at}
use Rattle.jfs_data_steps.specs.objects.specs.Owners.{covers}
use Rattle.jfs_data_steps.specs.meaning.specs.Contents.{byte_of}
use Rattle.jfs_plain.specs.Moves.{byte_after}
use Rattle.jfs_written.specs.RangeLaws.{or_else}
use Rattle.jfs_written.proofs.Each.{long_end}
use Rattle.jfs_data_steps.specs.declared.pages.DataPage.{DataPage}
use Rattle.jfs_data_steps.specs.After.{is_put, page_put, put_data, EachOnce}
use Rattle.jfs_data_steps.specs.File.{bytes_held}
use Rattle.jfs_write_pages.specs.declared.spot.Spot.{Spot}
use Rattle.jfs_write_pages.specs.Spots.{spots_from, spots_between, recorded_spot, holes_in, placed, extents_for}
use Rattle.jfs_write_pages.specs.Pages.{content, old_page, page_for, pages_for, told}
use Rattle.jfs_write_pages.proofs.Places.{same_index, has_place}
use Rattle.jfs_write_pages.proofs.Blocks.{extents_at, placed_from}
use Rattle.jfs_write_pages.proofs.Contents.{byte_for, content_at}
use Rattle.jfs_write_pages.proofs.Rising.{rises_lower, rises_each, rises_append, from_rises, gap_rises, Rises}
use Rattle.jfs_write_pages.proofs.Spotted.{Has, has_front, has_back, each_append, each_map, each_has, was_recorded, recorded_at, IsSpotOf, all_there, range_spots, none_before, none_behind, IsGap, gap_each, gap_there}

-- ---- blocks by places

abbrev recorded_block : Option Place → Option ℕ
recorded_block None = None
recorded_block (Some p) = if p.recorded then Some p.block else None

pub block_is : (es : List Xad) (k : ℕ) → AllLong es → block_of es k ≡ recorded_block (place_at es k)
block_is [] k long = refl
block_is (e ∷ es) k long =
    ap (λ (n : ℕ). if nat_le e.offset k && nat_lt k n then block_in e k else block_of es k) (sym (long_end e.offset e.at.len long.0))
    ∙ by (nat_le e.offset k && nat_lt k (end_of e)) (block_is es k long.1)
  where
    flagged : (t : Bool) → (if t then None else Some (e.at.addr + (k - e.offset))) ≡ (if not t then Some (e.at.addr + (k - e.offset)) else None)
    flagged true = refl
    flagged false = refl

    by : (x : Bool) → block_of es k ≡ recorded_block (place_at es k) → (if x then block_in e k else block_of es k) ≡ recorded_block (if x then Some (place_in e k) else place_at es k)
    by true h = flagged (bit_and e.flag 0x08 == 0x08)
    by false h = h

-- ---- pages that are put, as pairs

abbrev put_pairs : List (ℕ × List ℕ) → ℕ → List ℕ → List ℕ
put_pairs [] b page = page
put_pairs (p ∷ ps) b page = put_pairs ps b (if p.0 == b then p.1 else page)

same_put : (ds : List DataPage) (b : ℕ) (page : List ℕ) → page_put ds b page ≡ put_pairs (told ds) b page
same_put [] b page = refl
same_put (d ∷ ds) b page = same_put ds b (if d.block == b then d.page.0 else page)

heads : (x y : ℕ × List ℕ) (xs ys : List (ℕ × List ℕ)) → x ∷ xs ≡ y ∷ ys → (x ≡ y) × (xs ≡ ys)
heads x y xs ys e = (cc (e), cc (e))

module _ (pages : ℕ → List ℕ) (size offset : ℕ) (bytes : List ℕ) where
  abbrev held_in : Spot → List ℕ
  held_in s = content size offset bytes (4096 * s.index) (old_page pages s)

  none_put : (ss : List Spot) (b : ℕ) (page : List ℕ) → Each (λ s. s.block ≢ b) ss → put_pairs (pages_for pages size offset bytes ss) b page ≡ page
  none_put [] b page h = refl
  none_put (s ∷ ss) b page h = ap (λ (t : Bool). put_pairs (pages_for pages size offset bytes ss) b (if t then held_in s else page)) (ne_eqb s.block b h.0) ∙ none_put ss b page h.1

  stays_put : (ss : List Spot) (s : Spot) → Each (λ x. x.block ≡ s.block → x ≡ s) ss → put_pairs (pages_for pages size offset bytes ss) s.block (held_in s) ≡ held_in s
  stays_put [] s h = refl
  stays_put (x ∷ ss) s h = ap (put_pairs (pages_for pages size offset bytes ss) s.block) (by (x.block == s.block) refl) ∙ stays_put ss s h.1
    where
      by : (t : Bool) → (x.block == s.block) ≡ t → (if t then held_in x else held_in s) ≡ held_in s
      by true e = ap held_in (h.0 (eqb-true x.block s.block e))
      by false e = refl

  has_put : (ss : List Spot) (s : Spot) (page : List ℕ) → Each (λ x. x.block ≡ s.block → x ≡ s) ss → Has s ss → put_pairs (pages_for pages size offset bytes ss) s.block page ≡ held_in s
  has_put [] s page h g = absurd g
  has_put (x ∷ ss) s page h (inl e) =
      ap (λ (t : Bool). put_pairs (pages_for pages size offset bytes ss) s.block (if t then held_in x else page)) (eq-eqb x.block s.block (ap (λ (y : Spot). y.block) e))
      ∙ ap (λ (y : Spot). put_pairs (pages_for pages size offset bytes ss) s.block (held_in y)) e ∙ stays_put ss s h.1
  has_put (x ∷ ss) s page h (inr g) = has_put ss s (if x.block == s.block then held_in x else page) h.1 g

  -- which blocks are put
  pub put_has : (ss : List Spot) (ds : List DataPage) (b : ℕ) → told ds ≡ pages_for pages size offset bytes ss → is_put b ds ≡ true → (s : Spot) × Has s ss × (s.block ≡ b)
  put_has [] [] b e h = absurd (true≢false (sym h))
  put_has [] (d ∷ ds) b e h = absurd (cc (e))
  put_has (s ∷ ss) [] b e h = absurd (cc (e))
  put_has (s ∷ ss) (d ∷ ds) b e h = by (put_has ss ds b (cc (e))) (d.block == b) refl h
    where
      parts : ((d.block, d.page.0) ≡ page_for pages size offset bytes s) × (told ds ≡ pages_for pages size offset bytes ss)
      parts = heads (d.block, d.page.0) (page_for pages size offset bytes s) (told ds) (pages_for pages size offset bytes ss) e

      by : (is_put b ds ≡ true → (y : Spot) × Has y ss × (y.block ≡ b)) → (x : Bool) → (d.block == b) ≡ x → (x || is_put b ds) ≡ true → (y : Spot) × Has y (s ∷ ss) × (y.block ≡ b)
      by more true t h = (s, inl refl, sym (ap (λ (p : ℕ × List ℕ). p.0) parts.0) ∙ eqb-true d.block b t)
      by more false t h = let r = more h in (r.0, inr r.1, r.2)

-- ---- how pages are told

told_parts : (pages : ℕ → List ℕ) (size offset : ℕ) (bytes : List ℕ) (d : DataPage) (ds : List DataPage) (s : Spot) (ss : List Spot) → told (d ∷ ds) ≡ pages_for pages size offset bytes (s ∷ ss)
    → (d.block ≡ s.block) × (told ds ≡ pages_for pages size offset bytes ss)
told_parts pages size offset bytes d ds s ss e = let h = heads (d.block, d.page.0) (page_for pages size offset bytes s) (told ds) (pages_for pages size offset bytes ss) e in (ap (λ (p : ℕ × List ℕ). p.0) h.0, h.1)

-- ---- byte by byte

module _ (blocks : ℕ) (pages : ℕ → List ℕ) (whole : (b : ℕ) → b < blocks → length (pages b) ≡ 4096) (size offset : ℕ) (bytes : List ℕ) (some : 0 < length bytes)
    (es later : List Xad) (low high bound : ℕ) (rises : rises_from low es ≡ true) (long : AllLong es) (rises_later : rises_from high later ≡ true) (long_later : AllLong later) (to_later : AllTo bound later)
    (once : (b : ℕ) → covers b later ≤ 1) (first n : ℕ) (first_is : first ≡ offset / 4096) (last_is : first + n ≡ (offset + length bytes - 1) / 4096 + 1)
    (news : List ℕ) (number : holes_in (spots_from es first n) ≡ length news)
    (each : (j : ℕ) → place_at later j ≡ or_else (place_at (extents_for (placed first (spots_from es first n) news)) j) (place_at es j))
    (ds : List DataPage) (is_told : told ds ≡ pages_for pages size offset bytes (spots_between (size / 4096) first es ++ placed first (spots_from es first n) news))
    (inside : (b : ℕ) → 0 < covers b later → b < blocks) where
  abbrev gap : List Spot
  gap = spots_between (size / 4096) first es

  abbrev all : List Spot
  all = placed first (spots_from es first n) news

  abbrev end : ℕ
  end = offset + length bytes

  -- ---- each block that is touched

  untouched_before : (j : ℕ) → j < first → place_at later j ≡ place_at es j
  untouched_before j l = each j ∙ ap (λ (p : Option Place). or_else p (place_at es j)) (extents_at first all j (placed_from first es n news long) ∙ none_before first all j (placed_from first es n news long) l)

  range_is : Each (IsSpotOf es later first (first + n)) all
  range_is = range_spots es later first n news long each

  untouched_behind : (j : ℕ) → first + n ≤ j → place_at later j ≡ place_at es j
  untouched_behind j l = each j ∙ ap (λ (p : Option Place). or_else p (place_at es j)) (extents_at first all j (placed_from first es n news long)
      ∙ none_behind first all (first + n) j (placed_from first es n news long) (each_map (IsSpotOf es later first (first + n)) (λ s. s.index < first + n) (λ s p. p.to) all range_is) l)

  -- from the old end on, or from the bytes on
  abbrev From : ℕ → Type 0
  From k = (first ≤ k) ⊎ (size / 4096 ≤ k)

  pub record IsTouched (s : Spot) : Type 0 where
    pub after : place_at later s.index ≡ recorded_at s.block
    pub was : s.recorded ≡ was_recorded (place_at es s.index)
    pub same : s.recorded ≡ true → place_at es s.index ≡ recorded_at s.block
    pub from : From s.index
    pub to : s.index < first + n

  pub touched : Each IsTouched (gap ++ all)
  touched = each_append IsTouched gap all
      (each_map (λ s. (low ≤ s.index) × IsGap (size / 4096) first es s) IsTouched (λ s p. let g = p.1 in record {
        after = untouched_before s.index g.high ∙ g.there;
        was = g.recorded ∙ sym (ap was_recorded g.there);
        same = λ t. g.there;
        from = inr g.low;
        to = (let h = g.high in omega (arith, h));
      }) gap (gap_each (size / 4096) first low es rises long))
      (each_map (IsSpotOf es later first (first + n)) IsTouched (λ s p. record { after = p.after; was = p.was; same = p.same; from = inl p.from; to = p.to }) all range_is)

  -- each block that is put is one of the file's afterwards
  pub put_covers : (b : ℕ) → is_put b ds ≡ true → 0 < covers b later
  put_covers b e =
      let s = put_has pages size offset bytes (gap ++ all) ds b is_told e in
      let t = each_has IsTouched s.0 (gap ++ all) touched s.1 in
      subst (λ (x : ℕ). 0 < covers x later) s.2 (has_place high bound later s.0.index (record { block = s.0.block; recorded = true }) rises_later long_later to_later t.after)

  -- two of them in one block are one
  index_is : (s x : Spot) → IsTouched s → IsTouched x → x.block ≡ s.block → x.index ≡ s.index
  index_is s x p q e = same_index high bound later s.index x.index (record { block = s.block; recorded = true }) (record { block = x.block; recorded = true }) rises_later long_later to_later (once s.block) p.after q.after (sym e)

  one_spot : (s x : Spot) → IsTouched s → IsTouched x → x.block ≡ s.block → x ≡ s
  one_spot s x p q e = let i = index_is s x p q e in same_fields x.index s.index x.block s.block x.recorded s.recorded i e (q.was ∙ ap (λ (k : ℕ). was_recorded (place_at es k)) i ∙ sym p.was)
    where
      same_fields : (i j b c : ℕ) (r t : Bool) → i ≡ j → b ≡ c → r ≡ t → ◌≡◌ {A = Spot} (record { index = i; block = b; recorded = r }) (record { index = j; block = c; recorded = t })
      same_fields i j b c r t e f g = rw (e, f, g) refl

  -- none of them is put twice
  once_from : (k : ℕ) (ss : List Spot) (ds : List DataPage) → Rises k ss → Each IsTouched ss → told ds ≡ pages_for pages size offset bytes ss → EachOnce ds
  once_from k ss [] rise t e = tt
  once_from k [] (d ∷ ds) rise t e = absurd (cc (e))
  once_from k (s ∷ ss) (d ∷ ds) rise t e = (by (is_put d.block ds) refl, once_from (suc s.index) ss ds rise.1 t.1 parts.1)
    where
      parts : (d.block ≡ s.block) × (told ds ≡ pages_for pages size offset bytes ss)
      parts = told_parts pages size offset bytes d ds s ss e

      by : (x : Bool) → is_put d.block ds ≡ x → is_put d.block ds ≡ false
      by false h = h
      by true h =
          let x = put_has pages size offset bytes ss ds d.block parts.1 h in
          let i = index_is s x.0 t.0 (each_has IsTouched x.0 ss t.1 x.1) (x.2 ∙ parts.0) in
          let l = each_has (λ y. suc s.index ≤ y.index) x.0 ss (rises_each (suc s.index) ss rise.1) x.1 in
          absurd (omega (arith, i, l))

  pub once_put : EachOnce ds
  once_put = once_from 0 (gap ++ all) ds
      (rises_append 0 first gap all (rises_lower low 0 gap (omega arith) (gap_rises (size / 4096) first low es rises long))
      (each_map (λ s. (low ≤ s.index) × IsGap (size / 4096) first es s) (λ s. s.index < first) (λ s p. p.1.high) gap (gap_each (size / 4096) first low es rises long))
      (omega arith) (from_rises first all (placed_from first es n news long)))
      touched is_told

  pub put_spot : (s : Spot) → Has s (gap ++ all) → put_data ds pages s.block ≡ content size offset bytes (4096 * s.index) (old_page pages s)
  put_spot s has = same_put ds s.block (pages s.block) ∙ ap (λ (ps : List (ℕ × List ℕ)). put_pairs ps s.block (pages s.block)) is_told
      ∙ has_put pages size offset bytes (gap ++ all) s (pages s.block) (each_map IsTouched (λ x. x.block ≡ s.block → x ≡ s) (λ x q e. one_spot s x (each_has IsTouched s (gap ++ all) touched has) q e) (gap ++ all) touched) has

  pub put_other : (b : ℕ) → Each (λ s. s.block ≢ b) (gap ++ all) → put_data ds pages b ≡ pages b
  put_other b h = same_put ds b (pages b) ∙ ap (λ (ps : List (ℕ × List ℕ)). put_pairs ps b (pages b)) is_told ∙ none_put pages size offset bytes (gap ++ all) b (pages b) h

  pub old_whole : Each (λ s. length (old_page pages s) ≡ 4096) (gap ++ all)
  old_whole = each_map IsTouched (λ s. length (old_page pages s) ≡ 4096) (λ s p. by (pages s.block) (whole s.block (inside s.block (has_place high bound later s.index (record { block = s.block; recorded = true }) rises_later long_later to_later p.after))) s.recorded) (gap ++ all) touched
    where
      by : (page : List ℕ) → length page ≡ 4096 → (t : Bool) → length {A = ℕ} (if t then page else replicate 4096 0) ≡ 4096
      by page h true = h
      by page h false = length-replicate {A = ℕ} 4096 0

  -- ---- a byte

  module _ (i : ℕ) where
    abbrev k : ℕ
    k = i / 4096

    abbrev j : ℕ
    j = i % 4096

    abbrev old : ℕ
    old = byte_of (bytes_at pages (block_of es k)) j

    abbrev wanted : ℕ
    wanted = byte_after (bytes_held pages es size) offset bytes i

    abbrev given : ℕ
    given = bytes_held (put_data ds pages) later (max size end) i

    parts : 4096 * k + j ≡ i
    parts = omega arith

    low_j : j < 4096
    low_j = omega arith

    -- behind both ends nothing counts
    ends : (s o n i x y : ℕ) → (if nat_lt i (max s (o + n)) then (if nat_le o i && nat_lt i (o + n) then x else (if nat_lt i s then y else 0)) else 0) ≡ (if nat_le o i && nat_lt i (o + n) then x else (if nat_lt i s then y else 0))
    ends s o n i x y = by (nat_lt i (max s (o + n))) refl
      where
        z : (s o n i x y : ℕ) → nat_lt i (max s (o + n)) ≡ false → 0 ≡ (if nat_le o i && nat_lt i (o + n) then x else (if nat_lt i s then y else 0))
        z s o n i x y h = grind (arith, nat_tests, h)

        by : (t : Bool) → nat_lt i (max s (o + n)) ≡ t → (if t then (if nat_le o i && nat_lt i (o + n) then x else (if nat_lt i s then y else 0)) else 0) ≡ (if nat_le o i && nat_lt i (o + n) then x else (if nat_lt i s then y else 0))
        by true h = refl
        by false h = z s o n i x y h

    in_block : (s : Spot) → IsTouched s → s.index ≡ k → block_of later k ≡ Some s.block
    in_block s p e = block_is later k long_later ∙ ap recorded_block (ap (place_at later) (sym e) ∙ p.after)

    old_byte : (s : Spot) → IsTouched s → s.index ≡ k → get_or (old_page pages s) j 0 ≡ old
    old_byte s p e = by s.recorded refl
      where
        was_block : (t : Bool) → s.recorded ≡ t → was_recorded (place_at es k) ≡ t
        was_block t h = ap (λ (m : ℕ). was_recorded (place_at es m)) (sym e) ∙ sym p.was ∙ h

        no_block : (q : Option Place) → was_recorded q ≡ false → recorded_block q ≡ None
        no_block None h = refl
        no_block (Some q) h = ap (λ (t : Bool). if t then Some q.block else None) h

        by : (t : Bool) → s.recorded ≡ t → get_or (if t then pages s.block else replicate 4096 0) j 0 ≡ old
        by true h = sym (ap (λ (o : Option ℕ). byte_of (bytes_at pages o) j) (block_is es k long ∙ ap recorded_block (ap (place_at es) (sym e) ∙ p.same h)))
        by false h = get_or-replicate 4096 j 0 0 low_j ∙ sym (ap (λ (o : Option ℕ). byte_of (bytes_at pages o) j) (block_is es k long ∙ no_block (place_at es k) (was_block false h)))

    pub in_touched : (s : Spot) → Has s (gap ++ all) → s.index ≡ k → given ≡ wanted
    in_touched s has e =
        let p = each_has IsTouched s (gap ++ all) touched has in
        ap (λ (o : Option ℕ). if nat_lt i (max size end) then byte_of (bytes_at (put_data ds pages) o) j else 0) (in_block s p e)
        ∙ ap (λ (x : ℕ). if nat_lt i (max size end) then x else 0)
        (ap (λ (page : List ℕ). get_or page j 0) (put_spot s has) ∙ content_at size offset bytes (4096 * s.index) (old_page pages s) j (each_has (λ s. length (old_page pages s) ≡ 4096) s (gap ++ all) old_whole has) low_j
        ∙ ap₂ (λ (m x : ℕ). byte_for size offset bytes m x) (ap (λ (m : ℕ). 4096 * m + j) e ∙ parts) (old_byte s p e))
        ∙ ends size offset (length bytes) i (get_or bytes (i - offset) 0) old

    -- none of the bytes is put here
    abbrev Outside : Type 0
    Outside = (nat_le offset i && nat_lt i end) ≡ false

    out_before : k < first → Outside
    out_before l = lemma offset i end first first_is l
      where
        lemma : (o i n f : ℕ) → f ≡ o / 4096 → i / 4096 < f → (nat_le o i && nat_lt i n) ≡ false
        lemma o i n f e l = off o i n (omega (arith, e, l))
          where
            off : (o i n : ℕ) → i < o → (nat_le o i && nat_lt i n) ≡ false
            off o i n l = grind (arith, nat_tests)

    past_end : first + n ≤ k → end ≤ i
    past_end l = omega (arith, last_is, l, some)

    out_behind : first + n ≤ k → Outside
    out_behind l = off offset i end (past_end l)
      where
        off : (o i n : ℕ) → n ≤ i → (nat_le o i && nat_lt i n) ≡ false
        off o i n l = grind (arith, nat_tests)

    either : (t : Bool) → (if t then 0 else 0) ≡ (let m : ℕ = 0 in m)
    either true = refl
    either false = refl

    pub in_hole : Outside → block_of later k ≡ None → block_of es k ≡ None → given ≡ wanted
    in_hole out now was =
        ap (λ (o : Option ℕ). if nat_lt i (max size end) then byte_of (bytes_at (put_data ds pages) o) j else 0) now ∙ either (nat_lt i (max size end))
        ∙ sym (ap (λ (t : Bool). if t then get_or bytes (i - offset) 0 else bytes_held pages es size i) out ∙ ap (λ (o : Option ℕ). if nat_lt i size then byte_of (bytes_at pages o) j else 0) was ∙ either (nat_lt i size))

    pub in_other : Outside → place_at later k ≡ place_at es k → Each (λ s. s.index ≢ k) (gap ++ all) → nat_lt i (max size end) ≡ nat_lt i size → given ≡ wanted
    in_other out same apart test = by (place_at es k) refl
      where
        blocks_are : block_of later k ≡ block_of es k
        blocks_are = block_is later k long_later ∙ ap recorded_block same ∙ sym (block_is es k long)

        none_has : (b : ℕ) → place_at es k ≡ recorded_at b → Each (λ s. s.block ≢ b) (gap ++ all)
        none_has b is = two (gap ++ all) touched apart
          where
            two : (ss : List Spot) → Each IsTouched ss → Each (λ s. s.index ≢ k) ss → Each (λ s. s.block ≢ b) ss
            two [] h g = tt
            two (s ∷ ss) h g = (λ e. g.0 (same_index high bound later k s.index (record { block = b; recorded = true }) (record { block = s.block; recorded = true }) rises_later long_later to_later (once b) (same ∙ is) h.0.after (sym e)), two ss h.1 g.1)

        by : (q : Option Place) → place_at es k ≡ q → given ≡ wanted
        by None is = in_hole out (blocks_are ∙ block_is es k long ∙ ap recorded_block is) (block_is es k long ∙ ap recorded_block is)
        by (Some q) is = told_by q.recorded refl
          where
            told_by : (t : Bool) → q.recorded ≡ t → given ≡ wanted
            told_by false h = in_hole out (blocks_are ∙ block_is es k long ∙ ap recorded_block is ∙ ap (λ (t : Bool). if t then Some q.block else None) h) (block_is es k long ∙ ap recorded_block is ∙ ap (λ (t : Bool). if t then Some q.block else None) h)
            told_by true h =
                let here : block_of es k ≡ Some q.block = block_is es k long ∙ ap recorded_block is ∙ ap (λ (t : Bool). if t then Some q.block else None) h in
                let there : place_at es k ≡ recorded_at q.block = is ∙ ap (λ (t : Bool). Some (record { block = q.block; recorded = t })) h in
                ap₂ (λ (o : Option ℕ) (t : Bool). if t then byte_of (bytes_at (put_data ds pages) o) j else 0) (blocks_are ∙ here) test
                ∙ ap (λ (page : List ℕ). if nat_lt i size then get_or page j 0 else 0) (put_other q.block (none_has q.block there))
                ∙ sym (ap (λ (t : Bool). if t then get_or bytes (i - offset) 0 else bytes_held pages es size i) out ∙ ap (λ (o : Option ℕ). if nat_lt i size then byte_of (bytes_at pages o) j else 0) here)

  pub held : (i : ℕ) → bytes_held (put_data ds pages) later (max size end) i ≡ byte_after (bytes_held pages es size) offset bytes i
  held i = elim (cases_lt (i / 4096) first) [
    | inl l ↦ elim (cases_lt (i / 4096) (size / 4096)) [
      | inl m ↦ in_other i (out_before i l) (untouched_before (i / 4096) l) (apart_low l m) (before_size m)
      | inr m ↦ by_place l m (place_at es (i / 4096)) refl
    ]
    | inr l ↦ elim (cases_lt (i / 4096) (first + n)) [
      | inl m ↦ let t = all_there es first n (i / 4096) news long number l m in in_touched i t.0 (has_back t.0 gap all t.1) t.2
      | inr m ↦ in_other i (out_behind i m) (untouched_behind (i / 4096) m) (each_map IsTouched (λ s. s.index ≢ i / 4096) (λ s p. high_apart s.index (i / 4096) (first + n) p.to m) (gap ++ all) touched) (past_both size end i (past_end i m))
    ]
  ]
    where
      high_apart : (a k h : ℕ) → a < h → h ≤ k → a ≢ k
      high_apart a k h l m = grind arith

      past_both : (s e i : ℕ) → e ≤ i → nat_lt i (max s e) ≡ nat_lt i s
      past_both s e i l = grind (arith, nat_tests)

      both_yes : (s e i : ℕ) → i < s → nat_lt i (max s e) ≡ nat_lt i s
      both_yes s e i l = grind (arith, nat_tests)

      before_size : i / 4096 < size / 4096 → nat_lt i (max size end) ≡ nat_lt i size
      before_size m = both_yes size end i (omega (arith, m))

      from_apart : (a k f z : ℕ) → (f ≤ a) ⊎ (z ≤ a) → k < f → k < z → a ≢ k
      from_apart a k f z (inl x) l m = grind arith
      from_apart a k f z (inr x) l m = grind arith

      apart_low : i / 4096 < first → i / 4096 < size / 4096 → Each (λ s. s.index ≢ i / 4096) (gap ++ all)
      apart_low l m = each_map IsTouched (λ s. s.index ≢ i / 4096) (λ s p. from_apart s.index (i / 4096) first (size / 4096) p.from l m) (gap ++ all) touched

      by_place : i / 4096 < first → size / 4096 ≤ i / 4096 → (q : Option Place) → place_at es (i / 4096) ≡ q → bytes_held (put_data ds pages) later (max size end) i ≡ byte_after (bytes_held pages es size) offset bytes i
      by_place l m None is = in_hole i (out_before i l) (block_is later (i / 4096) long_later ∙ ap recorded_block (untouched_before (i / 4096) l ∙ is)) (block_is es (i / 4096) long ∙ ap recorded_block is)
      by_place l m (Some q) is = told_by q.recorded refl
        where
          told_by : (t : Bool) → q.recorded ≡ t → bytes_held (put_data ds pages) later (max size end) i ≡ byte_after (bytes_held pages es size) offset bytes i
          told_by true h = in_touched i (recorded_spot (i / 4096) q.block)
              (has_front (recorded_spot (i / 4096) q.block) gap all (gap_there (size / 4096) first es (i / 4096) q.block long (is ∙ ap (λ (t : Bool). Some (record { block = q.block; recorded = t })) h) m l)) refl
          told_by false h = in_hole i (out_before i l) (block_is later (i / 4096) long_later ∙ ap recorded_block (untouched_before (i / 4096) l ∙ is) ∙ ap (λ (t : Bool). if t then Some q.block else None) h)
              (block_is es (i / 4096) long ∙ ap recorded_block is ∙ ap (λ (t : Bool). if t then Some q.block else None) h)
