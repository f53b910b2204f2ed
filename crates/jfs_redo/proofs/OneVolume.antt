-- Redo makes one thing of a volume.
use Rattle.std.proofs.Common.{◌≡◌, ◌⊎◌, ◌<◌, ◌≤◌, ◌+◌, ◌-◌, ◌*◌, ◌/◌, ◌%◌, nat_lt, ℕ, zero, suc, Bool, true, if◌then◌else◌, List, length, map, is_some, refl, sym, ap, subst, ◌∙◌, inl, inr, arith}
use Rattle.std.specs.Prelude.{Option, Some, None}
use Rattle.std.specs.List.{range_with_len}
use Rattle.std.proofs.Math.Path.{fun_ext}
use Rattle.std.proofs.lemmas.Bool.{cases_lt, cases_eq}
use Rattle.std.proofs.lemmas.List.{length-map}
use Rattle.std.proofs.lemmas.List.FromFn.{length-range_with_len}
use Rattle.std.proofs.lemmas.Option.{none-some, same_Some}
use Rattle.jfs_bits.specs.Bits.{is_taken}
use Rattle.jfs_bits.specs.Piece.{puts}
use Rattle.jfs_disk.specs.Image.{Image, page_of}
use Rattle.jfs_ranges.specs.declared.edit.Edit.{Edit}
use Rattle.jfs_records.specs.Redo.{redone, all_of}
use Rattle.jfs_super.specs.Super.{pieces}
use Rattle.jfs_super.specs.Rules.{blocks_of}
use Rattle.jfs_super.specs.declared.fields.Super.{Super}
use Rattle.jfs_super.specs.declared.fields.TheConstants.VolumeState.{CLEAN}
use Rattle.jfs_iag.specs.Laws.{AreSame}
use Rattle.jfs_iag.specs.Canonical.{IsIagPage}
use Rattle.jfs_iag.specs.declared.canonical.Links.{Links}
use Rattle.jfs_iag.proofs.Agreed.{iags-same, controls-same}
use Rattle.jfs_imap.specs.Inodes.{Inodes, inodes_of, is_used, extent_at, IsInodePage}
use Rattle.jfs_imap.proofs.Listed.{same-sets}
use Rattle.jfs_bmap.specs.MapFile.{IsMapPage, pages_of}
use Rattle.jfs_bmap.proofs.Agreed.{map-pages-same}
use Rattle.jfs_redo_steps.specs.each.specs.Each.{found_at}
use Rattle.jfs_redo_steps.specs.objects.specs.Image.{extents_on}
use Rattle.jfs_redo_steps.specs.steps.specs.After.{used_after, extents_after}
use Rattle.jfs_redo_steps.specs.Inodes.{AreInodesInUse}
use Rattle.jfs_mount_maps.specs.mount_rules.specs.Subject.{Subject, subject_of, volume}
use Rattle.jfs_mount_maps.specs.mount_rules.specs.Mount.{iags}
use Rattle.jfs_mount_maps.specs.sets.specs.Sets.{extent_from}
use Rattle.jfs_redo.specs.Put.{IsLast, InBytes}
use Rattle.jfs_redo.specs.Redo.{IsMapPlace, IsBlockMapPlace, IsInodeMapPlace, block_map_place, inode_map_place, IsRedone}
use Rattle.jfs_redo.specs.Laws.{RedoneAgree}
use Rattle.jfs_redo.proofs.Places.{extents-number}
use Rattle.jfs_redo.proofs.Lists.{links_same}

-- ---- the last page that has a place

abbrev Found : ℕ → (ℕ → Option ℕ) → ℕ → Type 0
Found n place p = ((k : ℕ) × (k < n) × (place k ≡ Some p) × IsLast n place k p) ⊎ ((k : ℕ) → k < n → place k ≡ Some p → ⊥)

is_there : (o : Option ℕ) (p : ℕ) → (o ≡ Some p) ⊎ (o ≡ Some p → ⊥)
is_there None p = inr (λ e. none-some p e)
is_there (Some q) p = elim (cases_eq q p) [ inl e ↦ inl (ap Some e) | inr other ↦ inr (λ e. other (same_Some q p e)) ]

find : (n : ℕ) (place : ℕ → Option ℕ) (p : ℕ) → Found n place p
find zero place p = inr (λ k low is. absurd (omega (arith, low)))
find (suc n) place p = at (is_there (place n) p) (find n place p)
  where
    before : (k : ℕ) → k < suc n → (k ≡ n → ⊥) → k < n
    before k low other = omega (arith, low, other)

    not_it : (k : ℕ) → (place n ≡ Some p → ⊥) → place k ≡ Some p → k ≡ n → ⊥
    not_it k other is e = other (ap place (sym e) ∙ is)

    at : (place n ≡ Some p) ⊎ (place n ≡ Some p → ⊥) → Found n place p → Found (suc n) place p
    at (inl here) earlier = inl (n, omega arith, here, λ j low is. omega (arith, low))
    at (inr other) (inl (k, low, is, last)) = inl (k, omega (arith, low), is, λ j under there. last j (before j under (not_it j other there)) there)
    at (inr other) (inr none) = inr (λ k low is. none k (before k low (not_it k other is)) is)

-- ---- a redone volume by the pages that it had

record Parts (s : Super) (txs : List (List Edit)) (page : ℕ → List ℕ) (new : Image) : Type 0 where
  pub image : Image
  pub pages : (p : ℕ) → page_of image p ≡ (if nat_lt p (blocks_of s) then redone p (page p) (page p) (all_of txs) else page p)
  pub taken : ℕ → Bool
  pub taken_are : (b : ℕ) → b < blocks_of s → taken b ≡ used_after (all_of txs) (volume (subject_of s page)).used b
  pub taken_past : (b : ℕ) → blocks_of s ≤ b → taken b ≡ true
  pub set : List ℕ
  pub in_use : AreInodesInUse (page_of image) (extents_after (all_of txs) (volume (subject_of s page)).extents) set
  pub mapped : Image
  pub others : (p : ℕ) → (IsMapPlace (subject_of s page) p → ⊥) → page_of mapped p ≡ page_of image p
  pub block_map : (k p : ℕ) → IsBlockMapPlace (subject_of s page) k p → InBytes (IsMapPage (blocks_of s) s.agsize taken) k (page_of mapped p)
  pub inode_map : (k p : ℕ) → IsInodeMapPlace (subject_of s page) k p
      → InBytes (IsInodePage (inodes_of set (map extent_from (extents_after (all_of txs) (volume (subject_of s page)).extents)) (iags (subject_of s page)) s.agsize ((blocks_of s + s.agsize - 1) / s.agsize))) k (page_of mapped p)
  pub rest : (p : ℕ) → (p ≡ 8 → ⊥) → page_of new p ≡ page_of mapped p
  pub fields : page_of new 8 ≡ puts (pieces (record s { state = CLEAN })) (page_of mapped 8)

parts_of : (s : Super) (txs : List (List Edit)) (old new : Image) → IsRedone s txs old new → Parts s txs (page_of old) new
parts_of s txs old new is = record {
  image = is.redone;
  pages = is.pages.pages;
  taken = is.taken;
  taken_are = is.taken_are;
  taken_past = is.taken_past;
  set = is.set;
  in_use = is.in_use;
  mapped = is.mapped;
  others = is.others;
  block_map = is.block_map;
  inode_map = is.inode_map;
  rest = is.rest;
  fields = is.fields;
}

-- ---- it is one thing

module _ (s : Super) (txs : List (List Edit)) (page : ℕ → List ℕ) (a b : Image) (x : Parts s txs page a) (y : Parts s txs page b) where
  abbrev sub : Subject
  sub = subject_of s page

  abbrev extents : List (Option ℕ)
  extents = extents_after (all_of txs) (volume sub).extents

  abbrev inodes_by : List ℕ → Inodes
  inodes_by set = inodes_of set (map extent_from extents) (iags sub) s.agsize ((blocks_of s + s.agsize - 1) / s.agsize)

  redone_same : (p : ℕ) → page_of x.image p ≡ page_of y.image p
  redone_same p = x.pages p ∙ sym (y.pages p)

  taken_same : (c : ℕ) → x.taken c ≡ y.taken c
  taken_same c = elim (cases_lt c (blocks_of s)) [ inl low ↦ x.taken_are c low ∙ sym (y.taken_are c low) | inr high ↦ x.taken_past c high ∙ sym (y.taken_past c high) ]

  places : length extents ≡ 128 * iags sub
  unfolding extents_on
  places = extents-number (all_of txs) (volume sub).extents ∙ length-map (range_with_len 0 (128 * iags sub)) _ ∙ length-range_with_len 0 (128 * iags sub)

  bits_same : (i : ℕ) → i < 4096 * iags sub → is_taken x.set i ≡ is_taken y.set i
  bits_same i within =
      let low : i < 32 * length extents = omega (arith, within, places) in
      x.in_use.bits i low ∙ ap (λ (show : ℕ → List ℕ). is_some (found_at show extents i)) (fun_ext redone_same) ∙ sym (y.in_use.bits i low)

  all_same : AreSame (iags sub) (is_used (inodes_by x.set)) (is_used (inodes_by y.set)) (extent_at (inodes_by x.set)) (extent_at (inodes_by y.set))
  all_same =
      let one = same-sets x.set (map extent_from extents) (iags sub) s.agsize ((blocks_of s + s.agsize - 1) / s.agsize) in
      let other = same-sets y.set (map extent_from extents) (iags sub) s.agsize ((blocks_of s + s.agsize - 1) / s.agsize) in
      record { inodes = λ i within. sym (one.inodes i within) ∙ bits_same i within ∙ other.inodes i within; extents = λ e within. refl }

  inode_page_same : (k : ℕ) (p q : List ℕ) → k ≤ iags sub → InBytes (IsInodePage (inodes_by x.set)) k p → InBytes (IsInodePage (inodes_by y.set)) k q → p ≡ q
  inode_page_same zero p q low one other =
      controls-same (is_used (inodes_by x.set)) (is_used (inodes_by y.set)) (extent_at (inodes_by x.set)) (extent_at (inodes_by y.set)) (iags sub) ((blocks_of s + s.agsize - 1) / s.agsize) p q all_same one.1 other.1
      (one.0.control refl) (other.0.control refl)
  inode_page_same (suc k) p q low one other =
      let numag = (blocks_of s + s.agsize - 1) / s.agsize in
      let used = is_used (inodes_by x.set) in
      let used' = is_used (inodes_by y.set) in
      let extent = extent_at (inodes_by x.set) in
      let m = one.0.iag k (omega arith) in
      let w = other.0.iag k (omega arith) in
      let part : AreSame 1 (λ i. used (4096 * k + i)) (λ i. used' (4096 * k + i)) (λ e. extent (128 * k + e)) (λ e. extent (128 * k + e)) =
      record { inodes = λ i h. all_same.inodes (4096 * k + i) (omega (arith, h, low)); extents = λ e h. refl } in
      let links = links_same used used' extent extent (iags sub) numag k m.0 w.0 (omega (arith, low)) all_same m.1 w.1 in
      let start = k % numag * s.agsize in
      iags-same (λ i. used (4096 * k + i)) (λ i. used' (4096 * k + i)) (λ e. extent (128 * k + e)) (λ e. extent (128 * k + e)) k start m.0 p q part one.1 other.1 m.2
      (subst (λ (l : Links). IsIagPage (λ i. used' (4096 * k + i)) (λ e. extent (128 * k + e)) k start l q) (sym links) w.2)

  mapped_same : (p : ℕ) → page_of x.mapped p ≡ page_of y.mapped p
  mapped_same p = at (find (suc (iags sub)) (inode_map_place sub) p) (find (pages_of (blocks_of s)) (block_map_place sub) p)
    where
      at : Found (suc (iags sub)) (inode_map_place sub) p → Found (pages_of (blocks_of s)) (block_map_place sub) p → page_of x.mapped p ≡ page_of y.mapped p
      at (inl (k, low, is, last)) other =
          let here : IsInodeMapPlace sub k p = record { low = omega (arith, low); is = is; last = last } in
          inode_page_same k (page_of x.mapped p) (page_of y.mapped p) (omega (arith, low)) (x.inode_map k p here) (y.inode_map k p here)
      at (inr none) (inl (k, low, is, last)) =
          let here : IsBlockMapPlace sub k p = record { low = low; is = is; last = last; apart = λ j under there. none j (omega (arith, under)) there } in
          let one = x.block_map k p here in
          let two = y.block_map k p here in
          map-pages-same (blocks_of s) s.agsize k x.taken y.taken (page_of x.mapped p) (page_of y.mapped p) taken_same one.1 two.1 one.0 two.0
      at (inr none) (inr neither) =
          let out : IsMapPlace sub p → ⊥ = λ place. elim place [ inl (k, low, is) ↦ neither k low is | inr (k, low, is) ↦ none k (omega (arith, low)) is ] in
          x.others p out ∙ redone_same p ∙ sym (y.others p out)

  one_volume : (p : ℕ) → page_of a p ≡ page_of b p
  one_volume p = elim (cases_eq p 8) [
    | inl e ↦ ap (page_of a) e ∙ x.fields ∙ ap (puts (pieces (record s { state = CLEAN }))) (mapped_same 8) ∙ sym y.fields ∙ ap (page_of b) (sym e)
    | inr other ↦ x.rest p other ∙ mapped_same p ∙ sym (y.rest p other)
  ]

pub redone_agree : RedoneAgree
redone_agree s txs old like new other same x y =
    one_volume s txs (page_of old) new other (parts_of s txs old new x) (subst (λ (page : ℕ → List ℕ). Parts s txs page other) (sym (fun_ext same)) (parts_of s txs like other y))
