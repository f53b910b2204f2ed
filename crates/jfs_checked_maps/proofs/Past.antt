-- Maps that agree set the bits of blocks past the volume's end.
use Rattle.std.proofs.Common.{◌≡◌, ◌≤◌, ◌<◌, ◌+◌, ◌*◌, ℕ, suc, true, List, length, take, drop, replicate, ◌++◌, unwrap_or, refl, sym, ap, ◌∙◌, subst, inl, inr, arith}
use Rattle.std.proofs.lemmas.List.{length-append, length-take, length-drop, length-replicate}
use Rattle.jfs_bits.specs.Bits.{is_taken}
use Rattle.jfs_bits.specs.Field.{range_of, put_bytes}
use Rattle.jfs_bits.proofs.Ranges.{range_of-put_other}
use Rattle.jfs_super.specs.Rules.{blocks_of}
use Rattle.jfs_super.specs.declared.fields.Super.{Super}
use Rattle.jfs_findings_new.specs.mount_rules.specs.Subject.{Subject, subject_of}
use Rattle.jfs_findings_new.specs.findings.specs.Maps.{without_pad, IsBlockMapPage}
use Rattle.jfs_agree.specs.Agree.{MapsAgree}
use Rattle.jfs_shown.specs.meaning.specs.Readers.{readers}
use Rattle.jfs_shown.specs.bmap.specs.MapFile.{is_in_use}
use Rattle.jfs_shown.specs.objects.specs.Readers.{Readers}
use Rattle.jfs_shown.specs.objects.specs.Image.{file_page}
use Rattle.jfs_mounted_places.specs.held.specs.image_volumes.proofs.Read.{file_page_is}
use Rattle.jfs_mounted_places.specs.held.specs.survival.specs.face.specs.Mounted.{HasMapPages}
use Rattle.jfs_mounted_places.specs.Mounted.{SetsPast}
use Rattle.jfs_mounted_places.specs.Places.{places_of}
use Rattle.jfs_checked_maps.specs.Past.{PastLaw}

-- unused bytes before the persistent map don't matter to it
map_same : (page : List ℕ) → length page ≡ 4096 → range_of (without_pad 374 1674 page) 3072 1024 ≡ range_of page 3072 1024
map_same page size = range_of-put_other 3072 1024 374 (replicate 1674 0) page (omega (arith, size, length-replicate {A = ℕ} 1674 0)) (inr (omega (arith, length-replicate {A = ℕ} 1674 0)))

-- and they leave its size
size_of : (page : List ℕ) → length (without_pad 374 1674 page) ≡ 4096 → length page ≡ 4096
unfolding put_bytes
size_of page h =
    omega (
      arith,
      h,
      length-append (take 374 page) (replicate 1674 0 ++ drop (374 + length (replicate {A = ℕ} 1674 0)) page),
      length-append (replicate 1674 0) (drop (374 + length (replicate {A = ℕ} 1674 0)) page),
      length-take 374 page,
      length-drop (374 + length (replicate {A = ℕ} 1674 0)) page,
      length-replicate {A = ℕ} 1674 0,
    )

pub past_law : PastLaw
past_law s page has agree k i used beyond small = subst (λ (a : List ℕ). is_taken (range_of a 3072 1024) i ≡ true) (sym stands) on_page
  where
    r : Readers
    r = readers (blocks_of s)

    n : ℕ
    n = suc (suc (suc (suc k)))

    stands : page ((places_of s page).block_map n) ≡ file_page r page 2 n
    stands = file_page_is r page 2 n (has.block_map n used)

    is : IsBlockMapPage (subject_of s page) n
    is = agree.block_map n used

    on_page : is_taken (range_of (file_page r page 2 n) 3072 1024) i ≡ true
    on_page =
        let number = is.dmap.number in
        sym (ap (λ (a : List ℕ). is_taken a i) (map_same (file_page r page 2 n) (size_of (file_page r page 2 n) is.dmap.canonical.size))) ∙ is.dmap.canonical.same i ∙ is.dmap.canonical.past i (omega (arith, number, beyond)) small
