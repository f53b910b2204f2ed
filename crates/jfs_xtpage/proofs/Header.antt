-- What stays, and what changes, where a page is edited.
use Rattle.std.proofs.Common.{◌≡◌, ◌≤◌, ◌<◌, ◌⊎◌, inl, inr, refl, sym, ap, ◌∙◌, subst, ℕ, suc, ◌+◌, ◌-◌, ◌*◌, ◌/◌, ◌%◌, ◌^◌, List, [], ◌∷◌, ◌++◌, length, take, drop, replicate, arith}
use Rattle.std.proofs.Math.Seq.{paste}
use Rattle.std.specs.List.{copy_within}
use Rattle.byteorder.specs.Endian.{little_bytes}
use Rattle.byteorder.specs.Numbers.{length-bytes_low_first}
use Rattle.jfs_bits.specs.declared.extent.Xad.{Xad}
use Rattle.jfs_bits.specs.declared.descriptor.Pxd.{Pxd}
use Rattle.jfs_bits.specs.Field.{field_of, range_of, put_bytes}
use Rattle.jfs_bits.specs.Descriptor.{pxd_of, pxd_bytes}
use Rattle.jfs_bits.specs.Extent.{xad_of, xad_pieces}
use Rattle.jfs_bits.specs.Piece.{puts}
use Rattle.jfs_bits.proofs.Ranges.{length-put_bytes, range_of-put_other, field_of-range}
use Rattle.jfs_bits.proofs.Parts.{length-range_of, range_of-replicate, part-is}
use Rattle.jfs_bits.proofs.Words.{field_of-put_same, field_of-put_other}
use Rattle.jfs_bits.proofs.Descriptors.{length-pxd_bytes}
use Rattle.jfs_xtpage.specs.Page.{bytes_of, count_of, entry_of, entries_from, entries_of, head_of, IsLaidOut}
use Rattle.jfs_xtpage.specs.declared.head.XtForm.{XtForm}
use Rattle.jfs_xtpage.specs.declared.head.XtHead.{XtHead}
use Rattle.jfs_xtpage.specs.declared.head.XtForm.TheVariants.{Root, Full, Small}
use Rattle.jfs_xtpage.proofs.Slots.{xad_by, head_by, head_next, head_flag, entry_kept, xad_beside, length-xad, pasted, range_moved}
use Rattle.jfs_xtpage.proofs.Entries.{same, first, last, inserted, replaced, shifted}

-- all entries stay, where the header's field for their number does
pub all_kept : (new old : List ℕ) → field_of new 18 2 ≡ field_of old 18 2 → ((i : ℕ) → entry_of new i ≡ entry_of old i) → entries_of new ≡ entries_of old
all_kept new old count h = ap (λ n. entries_from new 0 (n - 2)) count ∙ same new old (count_of old) (λ i l. h i)

-- a page whose number of entries is set anew to fewer
pub cut_entries : (bytes : List ℕ) (keep : ℕ) → 32 ≤ length bytes → keep + 2 < 2 ^ 16 → keep ≤ count_of bytes → entries_of (put_bytes 18 (little_bytes 2 (keep + 2)) bytes) ≡ take keep (entries_of bytes)
cut_entries bytes keep size fits fewer =
    let new = put_bytes 18 (little_bytes 2 (keep + 2)) bytes in
    let w = length-bytes_low_first 0 2 (keep + 2) in
    let count : field_of new 18 2 ≡ keep + 2 = field_of-put_same 18 2 (keep + 2) bytes w (omega (arith, size)) (omega (arith, fits)) in
    let is : field_of new 18 2 - 2 ≡ keep = omega (arith, count) in
    ap (entries_from new 0) is
    ∙ same new bytes keep (λ i l. entry_kept 18 (little_bytes 2 (keep + 2)) bytes i (omega (arith, w)) (omega (arith, w, size)))
    ∙ first bytes 0 keep (count_of bytes) fewer

-- one entry more: those from its place on were moved by a slot
pub entries_more : (old moved with new : List ℕ) (i : ℕ) (x : Xad) → IsLaidOut old → field_of old 18 2 < field_of old 20 2 → field_of old 18 2 + 1 < 2 ^ 16 → i ≤ count_of old
    → moved ≡ paste old (32 + 16 * i + 16) (drop (32 + 16 * i) old) (16 * field_of old 18 2 - (32 + 16 * i)) → with ≡ puts (xad_pieces (32 + 16 * i) x) moved → xad_of with (32 + 16 * i) ≡ x
    → new ≡ put_bytes 18 (little_bytes 2 (field_of old 18 2 + 1)) with
    → (head_of new ≡ record (head_of old) { nextindex = field_of old 18 2 + 1 }) × (entries_of new ≡ take i (entries_of old) ++ x ∷ drop i (entries_of old))
entries_more old moved with new i x page room fits place moves puts_x read sets =
    let least = page.least in
    let within = page.within in
    let at = 32 + 16 * i in
    let end = 16 * field_of old 18 2 in
    let w = end - at in
    let is : moved ≡ put_bytes (at + 16) (range_of old at w) old = moves ∙ pasted old at end (at + 16) (omega (arith, place, least)) (omega (arith, room, within)) (omega (arith, room, within, place, least)) in
    let part = length-range_of old at w (omega (arith, place, least, room, within)) in
    let size1 : length moved ≡ length old = ap length is ∙ length-put_bytes (at + 16) (range_of old at w) old (omega (arith, part, room, within, place, least)) in
    let size2 : length with ≡ length old = ap length puts_x ∙ length-xad at x moved (omega (arith, size1, room, within, place, least)) ∙ size1 in
    let v = length-bytes_low_first 0 2 (field_of old 18 2 + 1) in
    let beside = λ (p n : ℕ) (side : (p + n ≤ at) ⊎ (at + 16 ≤ p)). ap (λ (z : List ℕ). range_of z p n) puts_x ∙ xad_beside at p n x moved (omega (arith, size1, room, within, place, least)) side in
    let head : head_of with ≡ head_of old = head_by with old (beside 0 32 (inl (omega arith)) ∙ ap (λ (z : List ℕ). range_of z 0 32) is ∙ range_of-put_other 0 32 (at + 16) (range_of old at w) old (omega (arith, part, room, within, place, least)) (inl (omega arith))) in
    let header : head_of new ≡ record (head_of old) { nextindex = field_of old 18 2 + 1 } = ap head_of sets ∙ head_next with (field_of old 18 2 + 1) (omega (arith, size2, least, room, within)) fits ∙ ap (λ (h : XtHead). let r : XtHead = record h { nextindex = field_of old 18 2 + 1 } in r) head in
    let kept = λ (j : ℕ). ap (λ (z : List ℕ). entry_of z j) sets ∙ entry_kept 18 (little_bytes 2 (field_of old 18 2 + 1)) with j (omega (arith, v)) (omega (arith, v, size2, least, room, within)) in
    let count : field_of new 18 2 ≡ field_of old 18 2 + 1 = ap (λ h. h.nextindex) header in
    let more : field_of new 18 2 - 2 ≡ suc (count_of old) = omega (arith, count, least) in (
      header,
      ap (entries_from new 0) more ∙ inserted new old 0 i (count_of old) i x (omega arith) place
          (λ j a b. kept j ∙ xad_by with old (32 + 16 * j) (32 + 16 * j) (beside (32 + 16 * j) 16 (inl (omega (arith, b))) ∙ ap (λ (z : List ℕ). range_of z (32 + 16 * j) 16) is
          ∙ range_of-put_other (32 + 16 * j) 16 (at + 16) (range_of old at w) old (omega (arith, part, room, within, place, least)) (inl (omega (arith, b)))))
          (kept i ∙ read)
          (λ j a b. kept (suc j) ∙ xad_by with old (32 + 16 * suc j) (32 + 16 * j) (beside (32 + 16 * suc j) 16 (inr (omega (arith, a))) ∙ ap (λ (z : List ℕ). range_of z (32 + 16 * suc j) 16) is
          ∙ range_moved old old at w (at + 16) (16 * j - 16 * i) 16 (32 + 16 * suc j) (omega (arith, place, least, room, within)) (omega (arith, place, least, room, within)) (omega (arith, a, b, least)) (omega (arith, a))
          ∙ ap (λ t. range_of old t 16) (omega (arith, a)))),
    )

-- one entry replaced
pub entries_put : (old new : List ℕ) (i : ℕ) (x : Xad) → IsLaidOut old → i < count_of old → new ≡ puts (xad_pieces (32 + 16 * i) x) old → xad_of new (32 + 16 * i) ≡ x
    → (head_of new ≡ head_of old) × (entries_of new ≡ take i (entries_of old) ++ x ∷ drop (i + 1) (entries_of old))
entries_put old new i x page place is read =
    let most = page.most in
    let within = page.within in
    let at = 32 + 16 * i in
    let beside = λ (p n : ℕ) (side : (p + n ≤ at) ⊎ (at + 16 ≤ p)). ap (λ (z : List ℕ). range_of z p n) is ∙ xad_beside at p n x old (omega (arith, most, within, place)) side in
    let head = head_by new old (beside 0 32 (inl (omega arith))) in
    let next : i + 1 ≡ suc i = omega arith in (
      head,
      ap (λ h. entries_from new 0 (h.nextindex - 2)) head
          ∙ replaced new old 0 i (count_of old) i x (omega arith) place (λ j a b. xad_by new old (32 + 16 * j) (32 + 16 * j) (beside (32 + 16 * j) 16 (inl (omega (arith, b))))) read
          (λ j a b. xad_by new old (32 + 16 * j) (32 + 16 * j) (beside (32 + 16 * j) 16 (inr (omega (arith, a)))))
          ∙ ap (λ k. take i (entries_of old) ++ x ∷ drop k (entries_of old)) (sym next),
    )

-- entries that were moved to a page without any
pub split_to : (from to held new : List ℕ) (keep : ℕ) → IsLaidOut from → keep ≤ count_of from → 32 ≤ length to → 16 * field_of from 18 2 ≤ length to + 16 * keep
    → held ≡ put_bytes 32 (range_of from (32 + 16 * keep) (16 * field_of from 18 2 - (32 + 16 * keep))) to → field_of from 18 2 - keep < 2 ^ 16
    → new ≡ put_bytes 18 (little_bytes 2 (field_of from 18 2 - keep)) held
    → (head_of new ≡ record (head_of to) { nextindex = field_of from 18 2 - keep }) × (entries_of new ≡ drop keep (entries_of from))
split_to from to held new keep page fewer room space is fits sets =
    let least = page.least in
    let most = page.most in
    let within = page.within in
    let at = 32 + 16 * keep in
    let w = 16 * field_of from 18 2 - at in
    let next = field_of from 18 2 - keep in
    let part = length-range_of from at w (omega (arith, fewer, least, most, within)) in
    let size : length held ≡ length to = ap length is ∙ length-put_bytes 32 (range_of from at w) to (omega (arith, part, space, fewer, least)) in
    let v = length-bytes_low_first 0 2 next in
    let head : head_of held ≡ head_of to = head_by held to (ap (λ (z : List ℕ). range_of z 0 32) is ∙ range_of-put_other 0 32 32 (range_of from at w) to (omega (arith, part, space, fewer, least)) (inl (omega arith))) in
    let header : head_of new ≡ record (head_of to) { nextindex = next } = ap head_of sets ∙ head_next held next (omega (arith, size, room)) fits ∙ ap (λ (h : XtHead). let r : XtHead = record h { nextindex = next } in r) head in
    let count : field_of new 18 2 ≡ next = ap (λ h. h.nextindex) header in
    let moved = λ (i j : ℕ) (a : keep ≤ i) (b : i < keep + (count_of from - keep)) (e : j + keep ≡ i + 0).
    ap (λ (z : List ℕ). entry_of z j) sets ∙ entry_kept 18 (little_bytes 2 next) held j (omega (arith, v)) (omega (arith, v, size, room))
    ∙ xad_by held from (32 + 16 * j) (32 + 16 * i) (ap (λ (z : List ℕ). range_of z (32 + 16 * j) 16) is
    ∙ range_moved from to at w 32 (16 * j) 16 (32 + 16 * j) (omega (arith, fewer, least, most, within)) (omega (arith, space, fewer, least)) (omega (arith, b, e, fewer, least)) refl
    ∙ ap (λ t. range_of from t 16) (omega (arith, e))) in (
      header,
      ap (entries_from new 0) (let g : field_of new 18 2 - 2 ≡ count_of from - keep = omega (arith, count, fewer, least) in g)
          ∙ shifted new from 0 keep (count_of from - keep) moved
          ∙ last from 0 keep (count_of from) keep (count_of from - keep) (omega (arith, fewer)) (omega arith),
    )

-- the neighbours are set
pub links : (bytes mid new : List ℕ) (next prev : ℕ) → 32 ≤ length bytes → next < 2 ^ 64 → prev < 2 ^ 64 → mid ≡ put_bytes 0 (little_bytes 8 next) bytes → new ≡ put_bytes 8 (little_bytes 8 prev) mid
    → (head_of new ≡ record (head_of bytes) { next = next; prev = prev }) × (entries_of new ≡ entries_of bytes)
links bytes mid new next prev size fn fp a b =
    let w = length-bytes_low_first 0 8 next in
    let v = length-bytes_low_first 0 8 prev in
    let l : length mid ≡ length bytes = ap length a ∙ length-put_bytes 0 (little_bytes 8 next) bytes (omega (arith, w, size)) in
    let other = λ (at width : ℕ) (behind : 16 ≤ at). ap (λ t. field_of t at width) b ∙ field_of-put_other at width 8 (little_bytes 8 prev) mid (omega (arith, v, size, l)) (inr (omega (arith, v, behind)))
    ∙ ap (λ t. field_of t at width) a ∙ field_of-put_other at width 0 (little_bytes 8 next) bytes (omega (arith, w, size)) (inr (omega (arith, w, behind))) in
    let n : field_of new 0 8 ≡ next = ap (λ t. field_of t 0 8) b ∙ field_of-put_other 0 8 8 (little_bytes 8 prev) mid (omega (arith, v, size, l)) (inl (omega arith))
    ∙ ap (λ t. field_of t 0 8) a ∙ field_of-put_same 0 8 next bytes w (omega (arith, size)) (omega (arith, fn)) in
    let p : field_of new 8 8 ≡ prev = ap (λ t. field_of t 8 8) b ∙ field_of-put_same 8 8 prev mid v (omega (arith, size, l)) (omega (arith, fp)) in (
      rw (n, p, other 16 1 (omega arith), other 18 2 (omega arith), other 20 2 (omega arith), other 24 4 (omega arith), other 28 4 (omega arith)) refl,
      all_kept new bytes (other 18 2 (omega arith)) (λ i. ap (λ t. entry_of t i) b ∙ entry_kept 8 (little_bytes 8 prev) mid i (omega (arith, v)) (omega (arith, v, size, l))
          ∙ ap (λ t. entry_of t i) a ∙ entry_kept 0 (little_bytes 8 next) bytes i (omega (arith, w)) (omega (arith, w, size))),
    )

-- the kind is set
pub kind_set : (bytes new : List ℕ) (flag kind v : ℕ) → 32 ≤ length bytes → flag ≡ field_of bytes 16 1 → v ≡ flag / 8 * 8 + flag % 2 + kind → v < 2 ^ 8 → new ≡ put_bytes 16 (little_bytes 1 v) bytes
    → (head_of new ≡ record (head_of bytes) { flag = field_of bytes 16 1 / 8 * 8 + field_of bytes 16 1 % 2 + kind }) × (entries_of new ≡ entries_of bytes)
kind_set bytes new flag kind v size old is fits sets =
    let w = length-bytes_low_first 0 1 v in
    let value : v ≡ field_of bytes 16 1 / 8 * 8 + field_of bytes 16 1 % 2 + kind = is ∙ ap (λ f. f / 8 * 8 + f % 2 + kind) old in (
      ap head_of sets ∙ head_flag bytes v size fits ∙ ap (λ (f : ℕ). let r : XtHead = record (head_of bytes) { flag = f } in r) value,
      all_kept new bytes (ap (λ t. field_of t 18 2) sets ∙ field_of-put_other 18 2 16 (little_bytes 1 v) bytes (omega (arith, w, size)) (inr (omega (arith, w))))
          (λ i. ap (λ t. entry_of t i) sets ∙ entry_kept 16 (little_bytes 1 v) bytes i (omega (arith, w)) (omega (arith, w, size))),
    )

zero_field : (n at width : ℕ) → at + width ≤ n → field_of (replicate n 0) at width ≡ field_of (replicate width 0) 0 width
zero_field n at width h = field_of-range (replicate n 0) at width ∙ ap (λ (z : List ℕ). field_of z 0 width) (range_of-replicate n at width 0 h)

eight_zeros : field_of (replicate 8 0) 0 8 ≡ 0
unfolding field_of
eight_zeros = refl

-- a page that is made
pub made : (zero one two three four : List ℕ) (n flag slots : ℕ) (at : Pxd) → zero ≡ replicate n 0 → length zero ≡ n → 32 ≤ n → flag < 2 ^ 8 → slots < 2 ^ 16 → one ≡ put_bytes 16 (little_bytes 1 flag) zero
    → two ≡ put_bytes 18 (little_bytes 2 2) one → three ≡ put_bytes 20 (little_bytes 2 slots) two → four ≡ put_bytes 24 (pxd_bytes at) three → pxd_of four 24 ≡ at
    → (head_of four ≡ record { next = 0; prev = 0; flag = flag; nextindex = 2; maxentry = slots; at = at }) × (entries_of four ≡ [])
made zero one two three four n flag slots at zeros size room ff sf a b c d read =
    let wa = length-bytes_low_first 0 1 flag in
    let wb = length-bytes_low_first 0 2 2 in
    let wc = length-bytes_low_first 0 2 slots in
    let wd = length-pxd_bytes at in
    let s1 : length one ≡ n = ap length a ∙ length-put_bytes 16 (little_bytes 1 flag) zero (omega (arith, wa, size, room)) ∙ size in
    let s2 : length two ≡ n = ap length b ∙ length-put_bytes 18 (little_bytes 2 2) one (omega (arith, wb, s1, room)) ∙ s1 in
    let s3 : length three ≡ n = ap length c ∙ length-put_bytes 20 (little_bytes 2 slots) two (omega (arith, wc, s2, room)) ∙ s2 in
    let by4 = λ (p w : ℕ) (h : p + w ≤ 24). ap (λ t. field_of t p w) d ∙ field_of-put_other p w 24 (pxd_bytes at) three (omega (arith, wd, s3, room)) (inl h) in
    let by3 = λ (p w : ℕ) (h : p + w ≤ 20). by4 p w (omega (arith, h)) ∙ ap (λ t. field_of t p w) c ∙ field_of-put_other p w 20 (little_bytes 2 slots) two (omega (arith, wc, s2, room)) (inl h) in
    let by2 = λ (p w : ℕ) (h : p + w ≤ 18). by3 p w (omega (arith, h)) ∙ ap (λ t. field_of t p w) b ∙ field_of-put_other p w 18 (little_bytes 2 2) one (omega (arith, wb, s1, room)) (inl h) in
    let by1 = λ (p : ℕ) (h : p + 8 ≤ 16). by2 p 8 (omega (arith, h)) ∙ ap (λ t. field_of t p 8) a ∙ field_of-put_other p 8 16 (little_bytes 1 flag) zero (omega (arith, wa, size, room)) (inl h)
    ∙ ap (λ t. field_of t p 8) zeros ∙ zero_field n p 8 (omega (arith, h, room)) ∙ eight_zeros in
    let next = by1 0 (omega arith) in
    let prev = by1 8 (omega arith) in
    let kind = by2 16 1 (omega arith) ∙ ap (λ t. field_of t 16 1) a ∙ field_of-put_same 16 1 flag zero wa (omega (arith, size, room)) (omega (arith, ff)) in
    let count = by3 18 2 (omega arith) ∙ ap (λ t. field_of t 18 2) b ∙ field_of-put_same 18 2 2 one wb (omega (arith, s1, room)) (omega arith) in
    let most = by4 20 2 (omega arith) ∙ ap (λ t. field_of t 20 2) c ∙ field_of-put_same 20 2 slots two wc (omega (arith, s2, room)) (omega (arith, sf)) in
    let self = ap (λ (p : Pxd). p) read in (
      rw (next, prev, kind, count, most, self) refl,
      ap (entries_from four 0) (let z : field_of four 18 2 - 2 ≡ 0 = omega (arith, count) in z),
    )

pub least_bytes : (form : XtForm) (n : ℕ) → n ≡ bytes_of form → 32 ≤ n
least_bytes Root n e = omega (arith, e)
least_bytes Full n e = omega (arith, e)
least_bytes Small n e = omega (arith, e)

-- the same, as the code counts
pub more_by_code : (old moved with new : List ℕ) (i k next end : ℕ) (x : Xad) → IsLaidOut old → k ≡ i → next ≡ field_of old 18 2 → end ≡ next → field_of old 18 2 < field_of old 20 2 → next + 1 < 2 ^ 16 → i ≤ count_of old
    → moved ≡ copy_within old (32 + 16 * k) (16 * end) (32 + 16 * k + 16) → with ≡ puts (xad_pieces (32 + 16 * k) x) moved → xad_of with (32 + 16 * k) ≡ x
    → new ≡ put_bytes 18 (little_bytes 2 (next + 1)) with
    → (head_of new ≡ record (head_of old) { nextindex = field_of old 18 2 + 1 }) × (entries_of new ≡ take i (entries_of old) ++ x ∷ drop i (entries_of old))
more_by_code old moved with new i k next end x page ki ne ee room fits place moves puts_x read sets =
    entries_more old moved with new i x page room (omega (arith, ne, fits)) place
    (moves ∙ ap (λ j. paste old (32 + 16 * j + 16) (drop (32 + 16 * j) old) (16 * end - (32 + 16 * j))) ki ∙ ap (λ e. paste old (32 + 16 * i + 16) (drop (32 + 16 * i) old) (16 * e - (32 + 16 * i))) (ee ∙ ne))
    (puts_x ∙ ap (λ j. puts (xad_pieces (32 + 16 * j) x) moved) ki) (subst (λ j. xad_of with (32 + 16 * j) ≡ x) ki read)
    (sets ∙ ap (λ v. put_bytes 18 (little_bytes 2 (v + 1)) with) ne)

pub put_by_code : (old new : List ℕ) (i k : ℕ) (x : Xad) → IsLaidOut old → k ≡ i → i < count_of old → new ≡ puts (xad_pieces (32 + 16 * k) x) old → xad_of new (32 + 16 * k) ≡ x
    → (head_of new ≡ head_of old) × (entries_of new ≡ take i (entries_of old) ++ x ∷ drop (i + 1) (entries_of old))
put_by_code old new i k x page ki place is read = entries_put old new i x page place (is ∙ ap (λ j. puts (xad_pieces (32 + 16 * j) x) old) ki) (subst (λ j. xad_of new (32 + 16 * j) ≡ x) ki read)

pub split_by_code : (from to held new : List ℕ) (keep k end next : ℕ) → IsLaidOut from → k ≡ keep → next ≡ field_of from 18 2 → end ≡ next → keep ≤ count_of from → 32 ≤ length to → 16 * field_of from 18 2 ≤ length to + 16 * keep
    → held ≡ put_bytes 32 (take (16 * end - (32 + 16 * k)) (drop (32 + 16 * k) from)) to → next < 2 ^ 16
    → new ≡ put_bytes 18 (little_bytes 2 (next - keep)) held
    → (head_of new ≡ record (head_of to) { nextindex = field_of from 18 2 - keep }) × (entries_of new ≡ drop keep (entries_of from))
split_by_code from to held new keep k end next page ki ne ee fewer room space is fits sets =
    split_to from to held new keep page fewer room space
    (is ∙ ap (λ j. put_bytes 32 (take (16 * end - (32 + 16 * j)) (drop (32 + 16 * j) from)) to) ki ∙ ap (λ e. put_bytes 32 (take (16 * e - (32 + 16 * keep)) (drop (32 + 16 * keep) from)) to) (ee ∙ ne)
    ∙ ap (λ (z : List ℕ). put_bytes 32 z to) (part-is from (32 + 16 * keep) (16 * field_of from 18 2 - (32 + 16 * keep))))
    (omega (arith, fits, ne)) (sets ∙ ap (λ v. put_bytes 18 (little_bytes 2 (v - keep)) held) ne)
