-- What a part of a page holds, and what the page does.
use Rattle.std.proofs.Common.{◌≡◌, refl, sym, ap, ◌∙◌, ℕ, zero, suc, ◌+◌, ◌-◌, ◌*◌, ◌/◌, ◌%◌, false, List, [], Option, Some, None, arith}
use Rattle.std.specs.Option.{option_map, unwrap_or}
use Rattle.byteorder.specs.Endian.{little_from}
use Rattle.jfs_bits.specs.Field.{field_of, range_of}
use Rattle.jfs_bits.specs.Descriptor.{pxd_of}
use Rattle.jfs_bits.specs.declared.extent.Xad.{Xad}
use Rattle.std.proofs.lemmas.Nat.Bits.{bit_at-zero}
use Rattle.jfs_bits.specs.Bits.{is_taken, is_taken_in}
use Rattle.jfs_bits.proofs.Ranges.{field_of-range}
use Rattle.jfs_bits.proofs.Descriptors.{pxd_of-range}
use Rattle.jfs_meaning.specs.objects.specs.Readers.{Readers}
use Rattle.jfs_meaning.specs.objects.specs.Contents.{block_of, bytes_at}
use Rattle.jfs_meaning.specs.objects.specs.Image.{file_extents, file_page, extent_place}
use Rattle.jfs_reader.specs.Map.{number_in, place_in, bit_in}

-- no byte is there
nothing : (i width : ℕ) → little_from i width [] ≡ 0
nothing i zero = refl
nothing i (suc width) = let rest = nothing (suc i) width in omega (arith, rest)

pub no_field : (at width : ℕ) → field_of [] at width ≡ 0
unfolding field_of
no_field at width = nothing at width

number_of : (at : ℕ) (b : Option (List ℕ)) → number_in (option_map (λ page. range_of page at 4) b) ≡ field_of (unwrap_or b []) at 4
number_of at None = sym (no_field at 4)
number_of at (Some page) = sym (field_of-range page at 4)

place_of : (at : ℕ) (b : Option (List ℕ)) → place_in (option_map (λ page. range_of page at 8) b) ≡ extent_place (pxd_of (unwrap_or b []) at)
place_of at None = let one = no_field at 4 in let two = no_field (at + 4) 4 in rw (one, two) refl
place_of at (Some page) = ap extent_place (sym (pxd_of-range page at))

nothing_marked : (i : ℕ) → is_taken (range_of [] 2560 512) i ≡ false
unfolding is_taken is_taken_in range_of
nothing_marked i = rw (no_field (4 * (i / 32)) 4, bit_at-zero (31 - i % 32)) refl

bit_of : (b : Option (List ℕ)) (i : ℕ) → bit_in (option_map (λ page. range_of page 2560 512) b) i ≡ is_taken (range_of (unwrap_or b []) 2560 512) i
bit_of None i = sym (nothing_marked i)
bit_of (Some page) i = refl

-- page `n` of a file of the aggregate that has these extents
module _ (r : Readers) (page : ℕ → List ℕ) (k : ℕ) (es given : List Xad) (same : file_extents r page k ≡ es) (all : given ≡ es) (j n : ℕ) (at_page : j ≡ n) where
  is_page : unwrap_or (bytes_at page (block_of given j)) [] ≡ file_page r page k n
  unfolding file_page
  is_page = rw (all, sym same, at_page) refl

  pub number_is : (at : ℕ) (part : Option (List ℕ)) → part ≡ option_map (λ p. range_of p at 4) (bytes_at page (block_of given j)) → field_of (file_page r page k n) at 4 ≡ number_in part
  number_is at part e = sym (ap number_in e ∙ number_of at (bytes_at page (block_of given j)) ∙ ap (λ p. field_of p at 4) is_page)

  pub place_is : (at : ℕ) (part : Option (List ℕ)) → part ≡ option_map (λ p. range_of p at 8) (bytes_at page (block_of given j)) → place_in part ≡ extent_place (pxd_of (file_page r page k n) at)
  place_is at part e = ap place_in e ∙ place_of at (bytes_at page (block_of given j)) ∙ ap (λ p. extent_place (pxd_of p at)) is_page

  pub bit_is : (i : ℕ) (part : Option (List ℕ)) → part ≡ option_map (λ p. range_of p 2560 512) (bytes_at page (block_of given j)) → bit_in part i ≡ is_taken (range_of (file_page r page k n) 2560 512) i
  bit_is i part e = ap (λ p. bit_in p i) e ∙ bit_of (bytes_at page (block_of given j)) i ∙ ap (λ p. is_taken (range_of p 2560 512) i) is_page
