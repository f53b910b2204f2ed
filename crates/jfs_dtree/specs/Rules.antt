-- The rules of a page as tests, in the order in which they are looked at. (JFS Layout, dtree.)
use Rattle.std.specs.Prelude.{ℕ, ◌+◌, ◌%◌, Bool, true, ◌&&◌, ◌||◌, ◌==◌, nat_le, List, [], ◌∷◌, ◌++◌, map}
use Rattle.std.specs.List.{list_all, range_with_len}
use Rattle.std.specs.Ordering.{is_lt, nat_cmp}
use Rattle.std.specs.Cmp.Lexicographic.{slice_cmp}
use Rattle.jfs_bits.specs.Broken.{Row, row_of}
use Rattle.jfs_bits.specs.Field.{field_of}
use Rattle.jfs_bits.specs.declared.rule.Rule.{Rule}
use Rattle.jfs_bits.specs.declared.rule.Rule.TheVariants as rules
use Rattle.jfs_dtpage.specs.declared.head.DtForm.{DtForm}
use Rattle.jfs_dtpage.specs.declared.head.DtForm.TheVariants.{Root, Full}
use Rattle.jfs_dtpage.specs.Form.{most_of, flag_of, count_of, free_of, first_free, is_leaf, more_slots}
use Rattle.jfs_dtpage.specs.Slots.{chain_end, behind, times}
use Rattle.jfs_dtpage.specs.Page.{link_of, length_of, table_of, names_of, taken_of, free_chain, usable, dt_rules}

abbrev pub fits_flag : DtForm → ℕ → Bool
fits_flag Root low = low == 3 || low == 5
fits_flag Full low = low == 2 || low == 4

abbrev pub fits_table : DtForm → List ℕ → Bool
fits_table Root bytes = true
fits_table Full bytes = field_of bytes 20 1 == 128 && nat_le 1 (field_of bytes 21 1) && nat_le (field_of bytes 21 1) 124

abbrev pub fits_slots : DtForm → List ℕ → Bool
fits_slots form bytes = fits_table form bytes && nat_le (count_of bytes) (most_of form) && nat_le (free_of bytes) (most_of form)

-- an entry's last slot names no other
abbrev pub ends : List ℕ → ℕ → Bool
ends bytes slot = behind bytes (link_of (is_leaf bytes) bytes slot) (more_slots (is_leaf bytes) (length_of (is_leaf bytes) bytes slot)) == chain_end

abbrev pub fits_chains : DtForm → List ℕ → Bool
fits_chains form bytes = list_all (ends bytes) (table_of form bytes)
    && list_all (λ slot. nat_le (times slot (taken_of form bytes)) (usable form bytes slot)) (taken_of form bytes)

-- each slot of the page, and each that a chain names, is in one chain where entries may have it, else in none
abbrev pub fits_free : DtForm → List ℕ → Bool
fits_free form bytes = behind bytes (first_free bytes) (free_of bytes) == chain_end
    && list_all (λ slot. times slot (taken_of form bytes) + times slot (free_chain bytes) == usable form bytes slot) (range_with_len 0 128 ++ taken_of form bytes ++ free_chain bytes)

-- each name comes before the next one
abbrev pub rises : List (List ℕ) → Bool
rises [] = true
rises (one ∷ []) = true
rises (one ∷ next ∷ more) = is_lt (slice_cmp nat_cmp one next) && rises (next ∷ more)

abbrev pub holds : DtForm → List ℕ → Rule → Bool
holds form bytes rules.Flag = fits_flag form (flag_of bytes % 8)
holds form bytes rules.Slots = fits_slots form bytes
holds form bytes rules.Chain = fits_chains form bytes
holds form bytes rules.Free = fits_free form bytes
holds form bytes rules.Order = rises (names_of form bytes)
holds form bytes rule = true

abbrev pub rows : DtForm → List ℕ → List (Row Rule)
rows form bytes = map (row_of (holds form bytes)) dt_rules
