-- What each step finds is its row's answer, and the first that finds any has the mount's.
use Rattle.std.proofs.Common.{◌≡◌, refl, sym, ap, ◌∙◌, ℕ, suc, true, false, ◌==◌, if◌then◌else◌, List, [], Option, Some, None, is_some}
use Rattle.std.specs.List.{range_with_len, prefix_len}
use Rattle.std.specs.Option.{unwrap_or}
use Rattle.std.proofs.lemmas.Bool.{eq-eqb, ne_eqb}
use Rattle.jfs_bits.specs.declared.extent.Xad.{Xad}
use Rattle.jfs_bits.specs.declared.rule.Rule.{Rule}
use Rattle.jfs_bits.specs.declared.rule.Rule.TheVariants as rules
use Rattle.jfs_bits.specs.Broken.{Row}
use Rattle.jfs_bits.specs.Field.{field_of}
use Rattle.jfs_bmap.specs.MapFile.{pages_of}
use Rattle.jfs_reader.specs.objects.specs.Contents.{block_of, bytes_at}
use Rattle.jfs_reader.specs.objects.specs.Image.{file_extents, file_page}
use Rattle.jfs_mount.specs.Subject.{Subject, blocks}
use Rattle.jfs_mount.specs.Mount.{BadMount, covered, iags, page_of_file, bmap_row, imap_row, mapsize_row}
use Rattle.jfs_mount.specs.Steps.{AreRead, broken}
use Rattle.jfs_mount.specs.declared.maps.Maps.{Maps}

pub holds : (r : Row BadMount) → r.holds ≡ true → None ≡ broken r
holds r h = rw h refl

pub breaks : (r : Row BadMount) (bad : BadMount) → r.holds ≡ false → bad ≡ r.answer → Some bad ≡ broken r
breaks r bad h e = rw h (ap Some e)

-- ---- each row

bad : Rule → ℕ → ℕ → BadMount
bad rule page value = record { rule = rule; page = page; value = value }

pub same_bad : (rule : Rule) (page here value this : ℕ) → page ≡ here → value ≡ this
    → (let b : BadMount = record { rule = rule; page = page; value = value } in b) ≡ record { rule = rule; page = here; value = this }
same_bad rule page here value this e f = rw (e, f) refl

pub counted : (n c : ℕ) (es given : List Xad) → given ≡ es → c ≡ prefix_len (λ j. is_some (block_of given j)) (range_with_len 0 n) → c ≡ prefix_len (λ j. is_some (block_of es j)) (range_with_len 0 n)
counted n c es given e h = h ∙ ap (λ (es : List Xad). prefix_len (λ j. is_some (block_of es j)) (range_with_len 0 n)) e

module _ (s : Subject) (maps : Maps) (is : AreRead s maps) where
  blocks_are : blocks s ≡ maps.blocks
  blocks_are = is.blocks

  iags_are : iags s ≡ maps.inodes.iags
  iags_are = is.inodes.iags

  pub place_is : (k j : ℕ) (es : List Xad) → file_extents s.readers s.page k ≡ es → page_of_file s k j ≡ unwrap_or (block_of es j) 0
  place_is k j es e = ap (λ (es : List Xad). unwrap_or (block_of es j) 0) e

  covered_is : (k n m : ℕ) (es : List Xad) → file_extents s.readers s.page k ≡ es → n ≡ m → covered s k n ≡ prefix_len (λ j. is_some (block_of es j)) (range_with_len 0 m)
  unfolding covered
  covered_is k n m es e f = rw (e, f) refl

  module _ (n c : ℕ) where
    pub bmap_holds : n ≡ pages_of maps.blocks → c ≡ prefix_len (λ j. is_some (block_of maps.block_map j)) (range_with_len 0 n) → c ≡ n → None ≡ broken (bmap_row s)
    bmap_holds at is_count e =
        let pages = ap pages_of blocks_are ∙ sym at in
        holds (bmap_row s) (eq-eqb _ _ (covered_is 2 (pages_of (blocks s)) n maps.block_map is.block_map pages ∙ sym is_count ∙ e ∙ sym pages))

    pub bmap_breaks : n ≡ pages_of maps.blocks → c ≡ prefix_len (λ j. is_some (block_of maps.block_map j)) (range_with_len 0 n) → (c ≡ n → ⊥) → Some (record { rule = rules.Bmap; page = 11; value = c }) ≡ broken (bmap_row s)
    bmap_breaks at is_count e =
        let pages = ap pages_of blocks_are ∙ sym at in
        let counts = covered_is 2 (pages_of (blocks s)) n maps.block_map is.block_map pages ∙ sym is_count in
        breaks (bmap_row s) _ (ne_eqb _ _ (λ h. e (sym counts ∙ h ∙ pages))) (same_bad rules.Bmap 11 11 _ _ refl (sym counts))

    pub imap_holds : n ≡ suc maps.inodes.iags → c ≡ prefix_len (λ j. is_some (block_of maps.inodes.extents j)) (range_with_len 0 n) → c ≡ n → None ≡ broken (imap_row s)
    imap_holds at is_count e =
        let pages = ap suc iags_are ∙ sym at in
        holds (imap_row s) (eq-eqb _ _ (covered_is 16 (suc (iags s)) n maps.inodes.extents is.inodes.extents pages ∙ sym is_count ∙ e ∙ sym pages))

    pub imap_breaks : n ≡ suc maps.inodes.iags → c ≡ prefix_len (λ j. is_some (block_of maps.inodes.extents j)) (range_with_len 0 n) → (c ≡ n → ⊥) → Some (record { rule = rules.Imap; page = 13; value = c }) ≡ broken (imap_row s)
    imap_breaks at is_count e =
        let pages = ap suc iags_are ∙ sym at in
        let counts = covered_is 16 (suc (iags s)) n maps.inodes.extents is.inodes.extents pages ∙ sym is_count in
        breaks (imap_row s) _ (ne_eqb _ _ (λ h. e (sym counts ∙ h ∙ pages))) (same_bad rules.Imap 13 13 _ _ refl (sym counts))

  first_page : file_page s.readers s.page 2 0 ≡ unwrap_or (bytes_at s.page (block_of maps.block_map 0)) []
  unfolding file_page
  first_page = ap (λ (es : List Xad). unwrap_or (bytes_at s.page (block_of es 0)) []) is.block_map

  pub mapsize_is : (page value : ℕ) (o : Option BadMount) → unwrap_or (block_of maps.block_map 0) 0 ≡ page → field_of (unwrap_or (bytes_at s.page (block_of maps.block_map 0)) []) 0 8 ≡ value
      → o ≡ (if value == maps.blocks then None else Some (record { rule = rules.Mapsize; page = page; value = value })) → o ≡ broken (mapsize_row s)
  mapsize_is page value o e f g =
      g ∙ sym (rw (ap (λ p. field_of p 0 8) first_page ∙ f, place_is 2 0 maps.block_map is.block_map ∙ e, blocks_are) refl)
