-- Lists of numbers that are bytes.
use Rattle.std.proofs.Common.{◌≡◌, ◌<◌, ◌≤◌, ◌+◌, ℕ, zero, suc, List, [], ◌∷◌, ◌++◌, length, take, drop, replicate, arith}
use Rattle.std.specs.Int.{byte_at, bytes_low_first}
use Rattle.std.proofs.lemmas.List.{get_or-drop, length-replicate}
use Rattle.byteorder.specs.Endian.{little_bytes}
use Rattle.jfs_bits.specs.Field.{AreBytes, put_bytes, range_of}
use Rattle.jfs_bits.specs.Piece.{Piece, puts}
use Rattle.jfs_bits.proofs.Parts.{range_of-replicate}
use Rattle.jfs_map_bytes.specs.Parts.{zeros}

pub bytes-none : AreBytes []
bytes-none n = omega arith

pub bytes-append : (xs ys : List ℕ) → AreBytes xs → AreBytes ys → AreBytes (xs ++ ys)
bytes-append [] ys a b n = b n
bytes-append (x ∷ xs) ys a b zero = a zero
bytes-append (x ∷ xs) ys a b (suc n) = bytes-append xs ys (λ k. a (suc k)) b n

bytes-take : (k : ℕ) (xs : List ℕ) → AreBytes xs → AreBytes (take k xs)
bytes-take zero xs a n = omega arith
bytes-take (suc k) [] a n = omega arith
bytes-take (suc k) (x ∷ xs) a zero = a zero
bytes-take (suc k) (x ∷ xs) a (suc n) = bytes-take k xs (λ i. a (suc i)) n

bytes-drop : (k : ℕ) (xs : List ℕ) → AreBytes xs → AreBytes (drop k xs)
bytes-drop k xs a n = rw (get_or-drop k xs n 0) (a (k + n))

pub bytes-put : (at : ℕ) (new page : List ℕ) → AreBytes new → AreBytes page → AreBytes (put_bytes at new page)
unfolding put_bytes
bytes-put at new page a b = bytes-append (take at page) (new ++ drop (at + length new) page) (bytes-take at page b) (bytes-append new (drop (at + length new) page) a (bytes-drop (at + length new) page b))

abbrev pub ArePieceBytes : List Piece → Type 0
ArePieceBytes [] = Unit {0}
ArePieceBytes (p ∷ ps) = AreBytes p.bytes × ArePieceBytes ps

pub bytes-puts : (ps : List Piece) (page : List ℕ) → ArePieceBytes ps → AreBytes page → AreBytes (puts ps page)
unfolding puts
bytes-puts [] page a b = b
bytes-puts (p ∷ ps) page a b = bytes-puts ps (put_bytes p.at p.bytes page) a.1 (bytes-put p.at p.bytes page a.0 b)

byte-below : (i x : ℕ) → byte_at i x < 256
byte-below zero x = omega arith
byte-below (suc i) x = omega arith

low-bytes : (i n x : ℕ) → AreBytes (bytes_low_first i n x)
low-bytes i zero x n = omega arith
low-bytes i (suc n) x zero = byte-below i x
low-bytes i (suc n) x (suc k) = low-bytes (suc i) n x k

pub bytes-little : (n x : ℕ) → AreBytes (little_bytes n x)
bytes-little n x = low-bytes 0 n x

bytes-replicate : (n : ℕ) → AreBytes (replicate n 0)
bytes-replicate zero k = omega arith
bytes-replicate (suc n) zero = omega arith
bytes-replicate (suc n) (suc k) = bytes-replicate n k

pub bytes-zeros : AreBytes zeros
unfolding zeros
bytes-zeros = bytes-replicate 4096

pub length-zeros : length zeros ≡ 4096
unfolding zeros
length-zeros = length-replicate {A = ℕ} 4096 0

pub range-zeros : (at width : ℕ) → at + width ≤ 4096 → range_of zeros at width ≡ replicate width 0
unfolding zeros
range-zeros at width h = range_of-replicate 4096 at width 0 h
