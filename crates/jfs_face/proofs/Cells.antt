-- What an item reads stands in its cell.
use Rattle.std.proofs.Common.{◌≡◌, ◌<◌, ◌≤◌, ◌+◌, ◌-◌, ◌*◌, ◌/◌, ◌%◌, ◌^◌, ◌&&◌, ℕ, zero, suc, nat_lt, if◌then◌else◌, List, get_or, slice_index, refl, sym, ap, ◌∙◌, subst, arith}
use Rattle.byteorder.specs.Endian.{little_from}
use Rattle.jfs_bits.specs.Field.{field_of, range_of}
use Rattle.jfs_bits.specs.Bits.{is_taken, is_taken_in}
use Rattle.jfs_bits.specs.Descriptor.{pxd_of}
use Rattle.jfs_bits.specs.declared.descriptor.Pxd.{Pxd}
use Rattle.jfs_bits.proofs.Parts.{field-in_part}
use Rattle.jfs_iag.specs.Iag.{no_run}
use Rattle.jfs_recovery.specs.crash_core.specs.Sound.{SameCell}
use Rattle.jfs_recovery.specs.Face.{Item}
use Rattle.jfs_recovery.specs.Face.Item.{BlockBit, ExtentPlace}
use Rattle.jfs_recovery.specs.Face.Value.{InUse, At}
use Rattle.jfs_face.specs.Places.{Places}
use Rattle.jfs_face.specs.Items.{cell, read, places}

same_number : (at width : ℕ) (a b : List ℕ) → ((k : ℕ) → at ≤ k → k < at + width → get_or a k 0 ≡ get_or b k 0) → little_from at width a ≡ little_from at width b
same_number at zero a b same = refl
same_number at (suc width) a b same =
    ap (λ (x : ℕ). x + 256 * little_from (suc at) width a) (same at (omega arith) (omega arith))
    ∙ ap (λ (y : ℕ). slice_index b at + 256 * y) (same_number (suc at) width a b (λ k past near. same k (omega arith) (omega arith)))

field_in_cell : (c at width : ℕ) (a b : List ℕ) → SameCell a b c → 16 * c ≤ at → at + width ≤ 16 * c + 16 → field_of a at width ≡ field_of b at width
unfolding field_of
field_in_cell c at width a b same low high = same_number at width a b (λ k past near.
    let here : 16 * c + (k - 16 * c) ≡ k = omega arith in
    subst (λ (x : ℕ). get_or a x 0 ≡ get_or b x 0) here (same (k - 16 * c) (omega arith)))

bit_in_cell : (n : ℕ) (a b : List ℕ) → n < 8192 → SameCell a b (192 + n / 128) → is_taken (range_of a 3072 1024) n ≡ is_taken (range_of b 3072 1024) n
unfolding is_taken
bit_in_cell n a b small same =
    ap (λ (w : ℕ). is_taken_in w (n % 32))
    (field-in_part a 3072 1024 (4 * (n / 32)) 4 (omega arith)
    ∙ field_in_cell (192 + n / 128) (3072 + 4 * (n / 32)) 4 a b same (omega arith) (omega arith)
    ∙ sym (field-in_part b 3072 1024 (4 * (n / 32)) 4 (omega arith)))

place_in_cell : (e : ℕ) (a b : List ℕ) → e < 128 → SameCell a b (192 + e / 2) → pxd_of a (3072 + 8 * e) ≡ pxd_of b (3072 + 8 * e)
place_in_cell e a b small same =
    let at = 3072 + 8 * e in
    let first : field_of a at 4 ≡ field_of b at 4 = field_in_cell (192 + e / 2) at 4 a b same (omega arith) (omega arith) in
    let second : field_of a (at + 4) 4 ≡ field_of b (at + 4) 4 = field_in_cell (192 + e / 2) (at + 4) 4 a b same (omega arith) (omega arith) in
    ap (λ (x : ℕ). let p : Pxd = record { len = x % 2 ^ 24; addr = x / 2 ^ 24 * 2 ^ 32 + field_of a (at + 4) 4 } in p) first
    ∙ ap (λ (y : ℕ). let p : Pxd = record { len = field_of b at 4 % 2 ^ 24; addr = field_of b at 4 / 2 ^ 24 * 2 ^ 32 + y } in p) second

pub item_in_cell : (pl : Places) (i : Item) (a b : List ℕ) → SameCell a b (cell i) → read pl i a ≡ read pl i b
item_in_cell pl (BlockBit n) a b same = ap (λ t. InUse (nat_lt n pl.blocks && t)) (bit_in_cell (n % 8192) a b (omega arith) same)
item_in_cell pl (ExtentPlace e) a b same = ap (λ (p : Pxd). At (if nat_lt e (places pl) then p else no_run)) (place_in_cell (e % 128) a b (omega arith) same)

pub cell_within : (i : Item) → cell i < 256
cell_within (BlockBit n) = omega arith
cell_within (ExtentPlace e) = omega arith
