-- Pages that are redone and pages of the maps are what redo may write.
use Rattle.std.proofs.Common.{◌≡◌, ◌⊎◌, ◌<◌, ◌≤◌, ◌+◌, ◌-◌, ◌/◌, nat_lt, ℕ, Bool, true, List, [], length, map, refl, sym, ap, subst, ◌∙◌, inl, inr, arith}
use Rattle.std.specs.Prelude.{Option}
use Rattle.std.proofs.Math.Path.{fun_ext}
use Rattle.std.proofs.lemmas.Bool.{cases_lt, cond-true, cond-false, lt-ltb, le-ltb}
use Rattle.std.proofs.lemmas.List.{get_or_past}
use Rattle.jfs_bits.specs.declared.extent.Xad.{Xad}
use Rattle.jfs_bmap.specs.MapFile.{IsMapPage, is_in_use}
use Rattle.jfs_bmap.specs.Set.{taken_at}
use Rattle.jfs_bmap.proofs.Views.{taken_at-past}
use Rattle.jfs_disk.specs.Image.{Image, page_of, ArePages}
use Rattle.jfs_disk.specs.Crash.{DiskState, last_of, torn}
use Rattle.jfs_disk.proofs.Tearing.{torn-same}
use Rattle.jfs_disk.proofs.Flow.{AllSince-weaker}
use Rattle.jfs_imap.specs.Inodes.{Inodes, inodes_of, IsInodePage}
use Rattle.jfs_ranges.specs.declared.edit.Edit.{Edit}
use Rattle.jfs_records.specs.Redo.{redone, all_of}
use Rattle.jfs_super.specs.Rules.{blocks_of}
use Rattle.jfs_super.specs.declared.fields.Super.{Super}
use Rattle.jfs_redo_steps.specs.objects.specs.Contents.{block_of}
use Rattle.jfs_redo_steps.specs.steps.specs.After.{used_after}
use Rattle.jfs_mount_maps.specs.mount_rules.specs.Subject.{Subject, subject_of, volume}
use Rattle.jfs_mount_maps.specs.sets.specs.Sets.{extent_from}
use Rattle.jfs_redo_steps.specs.Pages.{redone_page, ArePagesRedone, IsOnTheWay, AreOnTheWay}
use Rattle.jfs_redo_steps.specs.Inodes.{AreInodesInUse}
use Rattle.jfs_redo_steps.proofs.Again.{length-redone}
use Rattle.jfs_redo.specs.Put.{InBytes, place_if}
use Rattle.jfs_redo.specs.Mixed.{IsMixedPage, IsMixed, AreMixed}
use Rattle.jfs_redo.specs.Plan.{IsPlan, IsPlanOf}
use Rattle.jfs_redo.specs.Partly.{taken_then, extents_then, inodes_then, Writes, PutsMaps}
use Rattle.jfs_redo.specs.declared.plan.Plan.{Plan}
use Rattle.jfs_redo.proofs.Sectors.{mixed_old, mixed_new, mixed_torn}

-- ---- the pages' phase

module _ (s : Super) (txs : List (List Edit)) (old : Image) (sizes : ArePages (length old) old) (whole : blocks_of s ≤ length old) where
  abbrev Mixed : Image → Type 0
  Mixed left = IsMixed (blocks_of s) (Writes s txs old) old left

  on_the_way : (left : Image) → IsOnTheWay (blocks_of s) (all_of txs) old left → Mixed left
  on_the_way left way = record {
    number = way.number;
    pages = λ p low.
        let size = sizes.sizes p (omega (arith, low, whole)) in
        let at = way.pages p (omega (arith, low, whole)) in
        let new = redone p (page_of old p) (page_of old p) (all_of txs) in
        let long : length (redone_page (blocks_of s) (all_of txs) old p) ≡ 4096 =
        ap (λ (page : List ℕ). length page) (cond-true (nat_lt p (blocks_of s)) new (page_of old p) (lt-ltb p (blocks_of s) low)) ∙ length-redone p (page_of old p) (page_of old p) (all_of txs) refl ∙ size in
        subst (IsMixedPage (Writes s txs old p) (page_of old p)) (sym at.2)
        (mixed_torn (Writes s txs old p) (page_of old p) size at.0 (redone_page (blocks_of s) (all_of txs) old p) (page_of old p) at.1
        (mixed_new (Writes s txs old p) (page_of old p) size (redone_page (blocks_of s) (all_of txs) old p) long (inl refl)) (mixed_old (Writes s txs old p) (page_of old p) size));
    others = λ p high. elim (cases_lt p (length old)) [
      | inl low ↦
          let at = way.pages p low in
          at.2 ∙ ap (λ (front : List ℕ). torn at.0 front (page_of old p)) (cond-false (nat_lt p (blocks_of s)) (redone p (page_of old p) (page_of old p) (all_of txs)) (page_of old p) (le-ltb p (blocks_of s) high)) ∙ torn-same at.0 (page_of old p)
      | inr past ↦ get_or_past left p [] (omega (arith, past, way.number)) ∙ sym (get_or_past old p [] past)
    ];
  }

  pub way_mixed : (t : ℕ) (past : List DiskState) → length (last_of past) ≡ length old → AreOnTheWay (blocks_of s) (all_of txs) old t past → AreMixed (blocks_of s) (Writes s txs old) old t past
  way_mixed t past number way = record {
    number = number;
    all = AllSince-weaker (IsOnTheWay (blocks_of s) (all_of txs) old) Mixed past t t (omega arith) on_the_way way.all;
    now = λ left crash. on_the_way left (way.now left crash);
  }

-- ---- the maps' phase

module _ (s : Super) (txs : List (List Edit)) (plan : Plan) (old mid : Image) (is : IsPlan (blocks_of s) s.agsize plan) (of : IsPlanOf (subject_of s (page_of old)) txs plan)
    (pages : ArePagesRedone (blocks_of s) (all_of txs) old mid) (set : List ℕ) (in_use : AreInodesInUse (page_of mid) plan.places.items set) where
  abbrev sub : Subject
  sub = subject_of s (page_of old)

  taken_same : taken_at plan.blocks.owned ≡ taken_then s txs old
  taken_same = fun_ext (λ b. by b (cases_lt b (blocks_of s)))
    where
      by : (b : ℕ) → (b < blocks_of s) ⊎ (blocks_of s ≤ b) → taken_at plan.blocks.owned b ≡ taken_then s txs old b
      by b (inl low) = of.used b (omega (arith, low, is.number)) ∙ sym (cond-true (nat_lt b (blocks_of s)) (used_after (all_of txs) (volume sub).used b) true (lt-ltb b (blocks_of s) low))
      by b (inr high) = taken_at-past plan.blocks.owned b (omega (arith, high, is.number)) ∙ sym (cond-false (nat_lt b (blocks_of s)) (used_after (all_of txs) (volume sub).used b) true (le-ltb b (blocks_of s) high))

  inodes_same : inodes_of set (map extent_from plan.places.items) plan.maps.inodes.iags s.agsize ((blocks_of s + s.agsize - 1) / s.agsize) ≡ inodes_then s txs old set
  inodes_same = rw (of.places, sym of.read.inodes.iags) refl

  pub maps_written : (p : ℕ) (page : List ℕ) → PutsMaps (blocks_of s) plan (inodes_of set (map extent_from plan.places.items) plan.maps.inodes.iags s.agsize ((blocks_of s + s.agsize - 1) / s.agsize)) p page → Writes s txs old p page
  maps_written p page (inl (k, low, at, page_is)) = inr (inl (
    k,
    low,
    ap (λ (xs : List Xad). place_if (is_in_use (blocks_of s) k) (block_of xs k)) of.read.block_map ∙ at,
    subst (λ (taken : ℕ → Bool). InBytes (IsMapPage (blocks_of s) s.agsize taken) k page) taken_same (subst (λ (n : ℕ). InBytes (IsMapPage (blocks_of s) n (taken_at plan.blocks.owned)) k page) is.groups page_is),
  ))
  maps_written p page (inr (k, low, at, page_is)) = inr (inr (
    k,
    omega (arith, low, of.read.inodes.iags),
    ap (λ (xs : List Xad). block_of xs k) of.read.inodes.extents ∙ at,
    (
      set,
      subst (λ (show : ℕ → List ℕ). AreInodesInUse show (extents_then s txs old) set) (fun_ext pages.pages) (subst (λ (xs : List (Option ℕ)). AreInodesInUse (page_of mid) xs set) of.places in_use),
      subst (λ (m : Inodes). InBytes (IsInodePage m) k page) inodes_same page_is,
    ),
  ))
