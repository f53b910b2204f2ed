-- A page whose entries give way to a list.
use Rattle.std.proofs.Common.{◌≡◌, ◌≤◌, ◌<◌, inl, inr, refl, sym, ap, ◌∙◌, ℕ, zero, suc, ◌+◌, ◌-◌, ◌*◌, ◌^◌, List, [], ◌∷◌, ◌++◌, length, take, slice_index_or, arith}
use Rattle.std.specs.Prelude.{nat_le}
use Rattle.std.proofs.lemmas.Bool.{leb-true}
use Rattle.byteorder.specs.Endian.{little_bytes}
use Rattle.byteorder.specs.Numbers.{length-bytes_low_first}
use Rattle.jfs_bits.specs.declared.extent.Xad.{Xad}
use Rattle.jfs_bits.specs.Field.{field_of, range_of, put_bytes}
use Rattle.jfs_bits.specs.Extent.{xad_of, xad_pieces}
use Rattle.jfs_bits.specs.Piece.{puts}
use Rattle.jfs_bits.proofs.Ranges.{range_of-put_other, range_of-start, range_of-within}
use Rattle.jfs_bits.proofs.Words.{field_of-put_same}
use Rattle.jfs_xtpage.specs.declared.head.XtForm.{XtForm}
use Rattle.jfs_xtpage.specs.declared.head.XtHead.{XtHead}
use Rattle.jfs_xtpage.specs.Page.{bytes_of, behind_slots, head_of, entry_of, entries_of, entries_from, IsLaidOut}
use Rattle.jfs_xtpage.proofs.Entries.{same}
use Rattle.jfs_xtpage.proofs.Tails.{tail_put}
use Rattle.jfs_xtpage.proofs.Slots.{xad_by, head_by, head_next, entry_kept, xad_beside, length-xad}
use Rattle.jfs_xtree.specs.Node.{IsSound, SameKind}
use Rattle.jfs_xtree.proofs.Reading.{and_true, leaf_is, inner_is}
use Rattle.jfs_xtree.proofs.Pages.{leaf_made, inner_made, slots}
use Rattle.jfs_refill.specs.Refilled.{IsList, KeepsHeader, Relisted}

entries_end : (bytes : List ℕ) (p n : ℕ) → entries_from bytes p (suc n) ≡ entries_from bytes p n ++ entry_of bytes (p + n) ∷ []
entries_end bytes p zero = ap (λ i. entry_of bytes i ∷ []) (omega arith)
entries_end bytes p (suc n) = ap (λ xs. entry_of bytes p ∷ xs) (entries_end bytes (suc p) n ∙ ap (λ i. entries_from bytes (suc p) n ++ entry_of bytes i ∷ []) (omega arith))

-- one entry more at the end
pub next_entry : (bytes : List ℕ) (i : ℕ) → entries_from bytes 0 (i + 1) ≡ entries_from bytes 0 i ++ entry_of bytes i ∷ []
next_entry bytes i = ap (entries_from bytes 0) (one i) ∙ entries_end bytes 0 i ∙ ap (λ j. entries_from bytes 0 i ++ entry_of bytes j ∷ []) (none i)
  where
    one : (i : ℕ) → i + 1 ≡ suc i
    one i = omega arith

    none : (i : ℕ) → 0 + i ≡ i
    none i = omega arith

-- an entry that is put in the slot behind those that stand
pub put_next : (old new : List ℕ) (i at : ℕ) (x : Xad) → at ≡ 32 + 16 * i → at + 16 ≤ length old → new ≡ puts (xad_pieces at x) old → xad_of new at ≡ x
    → (entries_from new 0 (i + 1) ≡ entries_from old 0 i ++ x ∷ []) × (range_of new 0 32 ≡ range_of old 0 32)
put_next old new i at x e room is read = (
  next_entry new i
      ∙ ap (λ xs. xs ++ entry_of new i ∷ []) (same new old i (λ j l. xad_by new old (32 + 16 * j) (32 + 16 * j) (ap (λ (z : List ℕ). range_of z (32 + 16 * j) 16) is ∙ xad_beside at (32 + 16 * j) 16 x old room (inl (omega (arith, e, l))))))
      ∙ ap (λ y. entries_from old 0 i ++ y ∷ []) (ap (xad_of new) (sym e) ∙ read),
  ap (λ (z : List ℕ). range_of z 0 32) is ∙ xad_beside at 0 32 x old room (inl (omega (arith, e))),
)

pub take_next : (xs : List Xad) (i : ℕ) (d : Xad) → i < length xs → take (i + 1) xs ≡ take i xs ++ slice_index_or xs i d ∷ []
take_next xs i d l = ap (λ k. take k xs) (one i) ∙ by xs i l
  where
    one : (i : ℕ) → i + 1 ≡ suc i
    one i = omega arith

    by : (xs : List Xad) (i : ℕ) → i < length xs → take (suc i) xs ≡ take i xs ++ slice_index_or xs i d ∷ []
    by [] i l = absurd (omega (arith, l))
    by (x ∷ xs) zero l = refl
    by (x ∷ xs) (suc i) l = ap (λ ys. x ∷ ys) (by xs i (omega (arith, l)))

-- the same in a loop
pub put_step : (start old new : List ℕ) (i at : ℕ) (d : Xad) (list : List Xad) → i < length list → 32 + 16 * length list ≤ length start
    → (entries_from old 0 i ≡ take i list) × (range_of old 0 32 ≡ range_of start 0 32) × (length old ≡ length start) × (at ≡ 32 + 16 * i) × ((p n : ℕ) → 32 + 16 * length list ≤ p → range_of old p n ≡ range_of start p n)
    → new ≡ puts (xad_pieces at (slice_index_or list i d)) old → xad_of new at ≡ slice_index_or list i d
    → (entries_from new 0 (i + 1) ≡ take (i + 1) list) × (range_of new 0 32 ≡ range_of start 0 32) × (length new ≡ length start) × (at + 16 ≡ 32 + 16 * (i + 1)) × ((p n : ℕ) → 32 + 16 * length list ≤ p → range_of new p n ≡ range_of start p n)
put_step start old new i at d list inside room so is read =
    let size = so.2 in
    let place = so.3 in
    let fits : at + 16 ≤ length old = omega (arith, inside, room, size, place) in
    let next = put_next old new i at (slice_index_or list i d) place fits is read in (
      next.0 ∙ ap (λ xs. xs ++ slice_index_or list i d ∷ []) so.0 ∙ sym (take_next list i d inside),
      next.1 ∙ so.1,
      ap length is ∙ length-xad at (slice_index_or list i d) old fits ∙ size,
      omega (arith, place),
      (λ p n h. ap (λ (z : List ℕ). range_of z p n) is ∙ xad_beside at p n (slice_index_or list i d) old fits (inr (omega (arith, inside, place, h))) ∙ so.4 p n h),
    )

-- the number of entries is set
pub count_set : (old mid new : List ℕ) (list : List Xad) (v : ℕ) → v ≡ length list + 2 → 32 ≤ length mid → v < 2 ^ 16 → range_of mid 0 32 ≡ range_of old 0 32 → entries_from mid 0 (length list) ≡ list → new ≡ put_bytes 18 (little_bytes 2 v) mid
    → (entries_of new ≡ list) × (head_of new ≡ record (head_of old) { nextindex = length list + 2 }) × KeepsHeader old new
count_set old mid new list v e size fits header entries is =
    let w = length-bytes_low_first 0 2 v in
    let n = length list in
    let count : field_of new 18 2 ≡ v = ap (λ (z : List ℕ). field_of z 18 2) is ∙ field_of-put_same 18 2 v mid w (omega (arith, size)) (omega (arith, fits)) in (
      ap (entries_from new 0) (let c : field_of new 18 2 - 2 ≡ n = omega (arith, count, e) in c)
          ∙ same new mid n (λ i l. ap (λ (z : List ℕ). entry_of z i) is ∙ entry_kept 18 (little_bytes 2 v) mid i (omega (arith, w)) (omega (arith, w, size)))
          ∙ entries,
      ap head_of is ∙ head_next mid v size fits ∙ ap (λ (k : ℕ). let r : XtHead = record (head_of mid) { nextindex = k } in r) e
          ∙ ap (λ (h : XtHead). let r : XtHead = record h { nextindex = length list + 2 } in r) (head_by mid old header),
      record {
        before = ap (λ (z : List ℕ). range_of z 0 18) is ∙ range_of-put_other 0 18 18 (little_bytes 2 v) mid (omega (arith, w, size)) (inl (omega arith))
            ∙ sym (range_of-start mid 0 32 18 (omega arith)) ∙ ap (λ (z : List ℕ). range_of z 0 18) header ∙ range_of-start old 0 32 18 (omega arith);
        behind = ap (λ (z : List ℕ). range_of z 20 12) is ∙ range_of-put_other 20 12 18 (little_bytes 2 v) mid (omega (arith, w, size)) (inr (omega (arith, w)))
            ∙ sym (range_of-within mid 0 32 20 12 (omega arith)) ∙ ap (λ (z : List ℕ). range_of z 20 12) header ∙ range_of-within old 0 32 20 12 (omega arith);
      },
    )

-- what stands behind the slots stays
pub tail_kept : (old mid new : List ℕ) (n v : ℕ) → IsLaidOut old → n + 2 ≤ field_of old 20 2 → length mid ≡ length old → range_of mid 0 32 ≡ range_of old 0 32 → ((p m : ℕ) → 32 + 16 * n ≤ p → range_of mid p m ≡ range_of old p m)
    → new ≡ put_bytes 18 (little_bytes 2 v) mid → behind_slots new ≡ behind_slots old
unfolding behind_slots
tail_kept old mid new n v page room size header kept is =
    let same = head_by mid old header in
    let slots : field_of mid 20 2 ≡ field_of old 20 2 = ap (λ (h : XtHead). h.maxentry) same in
    let count : field_of mid 18 2 ≡ field_of old 18 2 = ap (λ (h : XtHead). h.nextindex) same in
    let a = page.least in let b = page.most in let d = page.within in
    let laid : IsLaidOut mid = record { least = omega (arith, count, a); most = omega (arith, count, slots, b); within = omega (arith, slots, size, d) } in
    ap behind_slots is ∙ tail_put mid 18 2 v (omega arith) laid
    ∙ ap (λ k. range_of mid (16 * k) (length mid - 16 * k)) slots ∙ ap (λ l. range_of mid (16 * field_of old 20 2) (l - 16 * field_of old 20 2)) size
    ∙ kept (16 * field_of old 20 2) (length old - 16 * field_of old 20 2) (omega (arith, room))

pub same_kind : (old new : List ℕ) (n : ℕ) → head_of new ≡ record (head_of old) { nextindex = n + 2 } → n + 2 ≤ (head_of old).maxentry → SameKind (head_of old) (head_of new)
same_kind old new n is room =
    let c : field_of new 18 2 ≡ n + 2 = ap (λ (h : XtHead). h.nextindex) is in
    let m : field_of new 20 2 ≡ field_of old 20 2 = ap (λ (h : XtHead). h.maxentry) is in
    record { flag = ap (λ (h : XtHead). h.flag) is; max = m; least = omega (arith, c); most = omega (arith, c, m, room) }

-- a page of the same kind with a list
pub relisted : (form : XtForm) (blocks : ℕ) (list : List Xad) (old new : List ℕ) → SameKind (head_of old) (head_of new) → entries_of new ≡ list → IsList blocks list → Relisted form blocks list old new
relisted form blocks list old new kind is l = record {
  leaf = λ es leaf. (let t = leaf_is form blocks old es leaf in leaf_made form blocks old new (entries_of old) list t.0 t.1 kind is l.order l.range);
  inner = λ cs node some. (let t = inner_is form blocks old cs node in inner_made form blocks old new (entries_of old) list t.0 t.1 kind is some l.order l.range);
}

-- the slots of a page that breaks no rule lie within its bytes
pub laid_out : (form : XtForm) (blocks : ℕ) (bytes : List ℕ) → length bytes ≡ bytes_of form → IsSound form blocks (head_of bytes) (entries_of bytes) → IsLaidOut bytes
laid_out form blocks bytes size sound =
    let c = and_true (nat_le 2 (field_of bytes 18 2)) (nat_le (field_of bytes 18 2) (field_of bytes 20 2)) sound.count in
    record { least = leb-true 2 (field_of bytes 18 2) c.0; most = leb-true (field_of bytes 18 2) (field_of bytes 20 2) c.1; within = (let m = (slots form (head_of bytes).maxentry sound.max).2 in omega (arith, m, size)) }
