-- Several fields of one page, written one after the other.
use Rattle.std.specs.Prelude.{ℕ, ◌+◌, Bool, true, ◌&&◌, ◌||◌, nat_le, List, [], ◌∷◌}
use Rattle.jfs_bits.specs.Field.{put_bytes}

-- these bytes at this place
pub record Piece : Type 0 where
  pub at : ℕ
  pub bytes : List ℕ

abbrev pub piece : ℕ → List ℕ → Piece
piece at bytes = record { at = at; bytes = bytes }

-- the page with each piece in its place
unfoldable pub puts : List Piece → List ℕ → List ℕ
puts [] page = page
puts (p ∷ ps) page = puts ps (put_bytes p.at p.bytes page)

-- a place and a width
abbrev pub Place : Type 0
Place = ℕ × ℕ

-- no byte in common
abbrev pub is_apart : Place → Place → Bool
is_apart p q = nat_le (p.0 + p.1) q.0 || nat_le (q.0 + q.1) p.0

abbrev pub is_apart_from_all : Place → List Place → Bool
is_apart_from_all p [] = true
is_apart_from_all p (q ∷ qs) = is_apart p q && is_apart_from_all p qs

-- no two of them have a byte in common
abbrev pub are_apart : List Place → Bool
are_apart [] = true
are_apart (p ∷ ps) = is_apart_from_all p ps && are_apart ps

-- each ends within the size
abbrev pub are_within : ℕ → List Place → Bool
are_within size [] = true
are_within size (p ∷ ps) = nat_le (p.0 + p.1) size && are_within size ps
