-- What stands behind the slots stays where a page is edited.
use Rattle.std.proofs.Common.{◌≡◌, ◌≤◌, ◌<◌, inl, inr, sym, ap, ◌∙◌, ℕ, ◌+◌, ◌-◌, ◌*◌, ◌^◌, List, length, drop, arith}
use Rattle.std.proofs.Math.Seq.{paste}
use Rattle.std.specs.List.{copy_within}
use Rattle.byteorder.specs.Endian.{little_bytes}
use Rattle.byteorder.specs.Numbers.{length-bytes_low_first}
use Rattle.jfs_bits.specs.declared.extent.Xad.{Xad}
use Rattle.jfs_bits.specs.Field.{field_of, range_of, put_bytes}
use Rattle.jfs_bits.specs.Extent.{xad_of, xad_pieces}
use Rattle.jfs_bits.specs.Piece.{puts}
use Rattle.jfs_bits.proofs.Ranges.{length-put_bytes, range_of-put_other}
use Rattle.jfs_bits.proofs.Parts.{length-range_of}
use Rattle.jfs_bits.proofs.Words.{field_of-put_other}
use Rattle.jfs_xtpage.specs.Page.{behind_slots, count_of, head_of, IsLaidOut}
use Rattle.jfs_xtpage.proofs.Header.{more_by_code, put_by_code}
use Rattle.jfs_xtpage.proofs.Slots.{head_next, length-xad, pasted, xad_beside}

-- bytes of which none from the slots' end on changed
tail_by : (new old : List ℕ) → length new ≡ length old → field_of new 20 2 ≡ field_of old 20 2 → ((p n : ℕ) → 16 * field_of old 20 2 ≤ p → range_of new p n ≡ range_of old p n) → behind_slots new ≡ behind_slots old
unfolding behind_slots
tail_by new old size slots kept =
    ap (λ k. range_of new (16 * k) (length new - 16 * k)) slots ∙ ap (λ l. range_of new (16 * field_of old 20 2) (l - 16 * field_of old 20 2)) size
    ∙ kept (16 * field_of old 20 2) (length old - 16 * field_of old 20 2) (omega arith)

slots_kept : (at : ℕ) (put old : List ℕ) → at + length put ≤ 20 → 32 ≤ length old → field_of (put_bytes at put old) 20 2 ≡ field_of old 20 2
slots_kept at put old early size = field_of-put_other 20 2 at put old (omega (arith, early, size)) (inr early)

-- bytes of the header before the number of slots are put
head_put : (at : ℕ) (put old : List ℕ) → at + length put ≤ 20 → 2 ≤ field_of old 20 2 → 16 * field_of old 20 2 ≤ length old → behind_slots (put_bytes at put old) ≡ behind_slots old
head_put at put old early some within =
    let size : 32 ≤ length old = omega (arith, some, within) in
    tail_by (put_bytes at put old) old (length-put_bytes at put old (omega (arith, early, size))) (slots_kept at put old early size)
    (λ p n h. range_of-put_other p n at put old (omega (arith, early, size)) (inr (omega (arith, early, some, h))))

pub tail_put : (old : List ℕ) (at width v : ℕ) → at + width ≤ 20 → IsLaidOut old → behind_slots (put_bytes at (little_bytes width v) old) ≡ behind_slots old
tail_put old at width v early page =
    let w = length-bytes_low_first 0 width v in
    let a = page.least in
    let b = page.most in
    head_put at (little_bytes width v) old (omega (arith, w, early)) (omega (arith, a, b)) page.within

pub tail_links : (old mid new : List ℕ) (next prev : ℕ) → mid ≡ put_bytes 0 (little_bytes 8 next) old → new ≡ put_bytes 8 (little_bytes 8 prev) mid → IsLaidOut old → behind_slots new ≡ behind_slots old
tail_links old mid new next prev first second page =
    let w = length-bytes_low_first 0 8 next in
    let v = length-bytes_low_first 0 8 prev in
    let a = page.least in
    let b = page.most in
    let d = page.within in
    let size : 32 ≤ length old = omega (arith, a, b, d) in
    let slots : field_of mid 20 2 ≡ field_of old 20 2 = ap (λ t. field_of t 20 2) first ∙ slots_kept 0 (little_bytes 8 next) old (omega (arith, w)) size in
    let same : length mid ≡ length old = ap length first ∙ length-put_bytes 0 (little_bytes 8 next) old (omega (arith, w, size)) in
    ap behind_slots second ∙ head_put 8 (little_bytes 8 prev) mid (omega (arith, v)) (omega (arith, slots, a, b)) (omega (arith, slots, same, d)) ∙ ap behind_slots first ∙ tail_put old 0 8 next (omega arith) page

-- an entry is put
pub tail_entry : (old new : List ℕ) (i k : ℕ) (x : Xad) → IsLaidOut old → k ≡ i → i < count_of old → new ≡ puts (xad_pieces (32 + 16 * k) x) old → xad_of new (32 + 16 * k) ≡ x → behind_slots new ≡ behind_slots old
tail_entry old new i k x page ki place is read =
    let most = page.most in
    let within = page.within in
    tail_by new old (ap length is ∙ length-xad (32 + 16 * k) x old (omega (arith, ki, place, most, within))) (ap (λ h. h.maxentry) (put_by_code old new i k x page ki place is read).0)
    (λ p n h. ap (λ (z : List ℕ). range_of z p n) is ∙ xad_beside (32 + 16 * k) p n x old (omega (arith, ki, place, most, within)) (inr (omega (arith, ki, place, most, h))))

-- one more
pub tail_more : (old moved with new : List ℕ) (i k next end : ℕ) (x : Xad) → IsLaidOut old → k ≡ i → next ≡ field_of old 18 2 → end ≡ next → field_of old 18 2 < field_of old 20 2 → next + 1 < 2 ^ 16 → i ≤ count_of old
    → moved ≡ copy_within old (32 + 16 * k) (16 * end) (32 + 16 * k + 16) → with ≡ puts (xad_pieces (32 + 16 * k) x) moved → xad_of with (32 + 16 * k) ≡ x
    → new ≡ put_bytes 18 (little_bytes 2 (next + 1)) with → behind_slots new ≡ behind_slots old
tail_more old moved with new i k next end x page ki ne ee room fits place moves puts_x read sets =
    let least = page.least in
    let within = page.within in
    let at = 32 + 16 * k in
    let w = 16 * end - at in
    let is : moved ≡ put_bytes (at + 16) (range_of old at w) old = moves ∙ pasted old at (16 * end) (at + 16) (omega (arith, ki, ne, ee, place, least)) (omega (arith, ne, ee, room, within)) (omega (arith, ki, ne, ee, room, within, place, least)) in
    let part = length-range_of old at w (omega (arith, ki, ne, ee, place, least, room, within)) in
    let size1 : length moved ≡ length old = ap length is ∙ length-put_bytes (at + 16) (range_of old at w) old (omega (arith, part, ki, ne, ee, room, within, place, least)) in
    let size2 : length with ≡ length old = ap length puts_x ∙ length-xad at x moved (omega (arith, size1, ki, room, within, place, least)) ∙ size1 in
    let v = length-bytes_low_first 0 2 (next + 1) in
    tail_by new old (ap length sets ∙ length-put_bytes 18 (little_bytes 2 (next + 1)) with (omega (arith, v, size2, least, room, within)) ∙ size2)
    (ap (λ h. h.maxentry) (more_by_code old moved with new i k next end x page ki ne ee room fits place moves puts_x read sets).0)
    (λ p n h.
    ap (λ (z : List ℕ). range_of z p n) sets ∙ range_of-put_other p n 18 (little_bytes 2 (next + 1)) with (omega (arith, v, size2, least, room, within)) (inr (omega (arith, v, least, room, h)))
    ∙ ap (λ (z : List ℕ). range_of z p n) puts_x ∙ xad_beside at p n x moved (omega (arith, size1, ki, room, within, place, least)) (inr (omega (arith, ki, place, least, room, h)))
    ∙ ap (λ (z : List ℕ). range_of z p n) is ∙ range_of-put_other p n (at + 16) (range_of old at w) old (omega (arith, part, ki, ne, ee, room, within, place, least)) (inr (omega (arith, part, ki, ne, ee, room, place, least, h))))

-- a page that was cut still has its slots within its bytes
pub cut_laid_out : (old : List ℕ) (keep : ℕ) → IsLaidOut old → keep ≤ count_of old → keep + 2 < 2 ^ 16 → IsLaidOut (put_bytes 18 (little_bytes 2 (keep + 2)) old)
cut_laid_out old keep page fewer fits =
    let w = length-bytes_low_first 0 2 (keep + 2) in
    let a = page.least in
    let b = page.most in
    let d = page.within in
    let size : 32 ≤ length old = omega (arith, a, b, d) in
    let new = put_bytes 18 (little_bytes 2 (keep + 2)) old in
    let head = head_next old (keep + 2) size fits in
    let next : field_of new 18 2 ≡ keep + 2 = ap (λ h. h.nextindex) head in
    let slots : field_of new 20 2 ≡ field_of old 20 2 = ap (λ h. h.maxentry) head in
    let same = length-put_bytes 18 (little_bytes 2 (keep + 2)) old (omega (arith, w, size)) in
    record { least = omega (arith, next); most = omega (arith, next, slots, fewer, a, b); within = omega (arith, slots, same, d) }
