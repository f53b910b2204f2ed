-- Fields of a torn page.
use Rattle.std.proofs.Common.{◌≡◌, ◌≤◌, ◌<◌, ◌+◌, ◌-◌, ◌*◌, ℕ, zero, suc, List, length, take, drop, get_or, refl, ap, ◌∙◌, arith}
use Rattle.std.proofs.lemmas.List.{length-take-le, get_or_append_left, get_or-append_right, get_or-take, get_or-drop}
use Rattle.byteorder.specs.Endian.{little_from}
use Rattle.jfs_disk.specs.Crash.{torn}
use Rattle.jfs_bits.specs.Field.{field_of}

pub byte-front : (k j : ℕ) (a b : List ℕ) → j < 512 * k → 512 * k ≤ length a → get_or (torn k a b) j 0 ≡ get_or a j 0
unfolding torn
byte-front k j a b h size =
    get_or_append_left (take (512 * k) a) (drop (512 * k) b) 0 j (omega (arith, length-take-le (512 * k) a size))
    ∙ get_or-take (512 * k) a j 0 h

pub byte-back : (k j : ℕ) (a b : List ℕ) → 512 * k ≤ j → 512 * k ≤ length a → get_or (torn k a b) j 0 ≡ get_or b j 0
unfolding torn
byte-back k j a b h size =
    get_or-append_right (take (512 * k) a) (drop (512 * k) b) (512 * k) j 0 (length-take-le (512 * k) a size) h
    ∙ get_or-drop (512 * k) b (j - 512 * k) 0
    ∙ ap (λ (n : ℕ). get_or b n 0) (omega arith)

little_from-same : (i n : ℕ) (xs ys : List ℕ) → ((j : ℕ) → i ≤ j → j < i + n → get_or xs j 0 ≡ get_or ys j 0) → little_from i n xs ≡ little_from i n ys
little_from-same i zero xs ys same = refl
little_from-same i (suc n) xs ys same =
    let here : get_or xs i 0 ≡ get_or ys i 0 = same i (omega arith) (omega arith) in
    let rest = little_from-same (suc i) n xs ys (λ j l u. same j (omega arith) (omega arith)) in
    rw (here, rest) refl

pub field-same : (at width : ℕ) (xs ys : List ℕ) → ((j : ℕ) → at ≤ j → j < at + width → get_or xs j 0 ≡ get_or ys j 0) → field_of xs at width ≡ field_of ys at width
unfolding field_of
field-same at width xs ys same = little_from-same at width xs ys same

pub field-front : (k at width : ℕ) (a b : List ℕ) → at + width ≤ 512 * k → 512 * k ≤ length a → field_of (torn k a b) at width ≡ field_of a at width
field-front k at width a b h size = field-same at width (torn k a b) a (λ j l u. byte-front k j a b (omega arith) size)

pub field-back : (k at width : ℕ) (a b : List ℕ) → 512 * k ≤ at → 512 * k ≤ length a → field_of (torn k a b) at width ≡ field_of b at width
field-back k at width a b h size = field-same at width (torn k a b) b (λ j l u. byte-back k j a b (omega arith) size)
