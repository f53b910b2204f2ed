-- No place of a map's page stands twice among those that are written.
use Rattle.std.proofs.Common.{◌≡◌, ◌≤◌, ◌+◌, ◌==◌, refl, sym, ap, ◌∙◌, subst, ℕ, suc, Bool, true, false, if◌then◌else◌, List, [], ◌∷◌, ◌++◌, length, slice_get, Some, arith}
use Rattle.std.proofs.lemmas.Bool.{or_from, or_parts, ne_eqb}
use Rattle.std.proofs.lemmas.Option.{slice_get_within}
use Rattle.jfs_kept_volumes.specs.commits_held.specs.volume_calls.specs.halves.specs.Parts.{Parts}
use Rattle.jfs_kept_volumes.specs.commits_held.specs.volume_calls.specs.volume.specs.MapsHome.{MapPage, OfBlocks, OfInodes, block_pages, inode_pages, stale_pages}
use Rattle.jfs_kept_volumes.specs.commits_held.specs.volume_calls.specs.volume.specs.bmap.specs.MapFile.{is_in_use}
use Rattle.jfs_kept_volumes.specs.pages_held.specs.Pages.{MapsStand}
use Rattle.jfs_kept_volumes.specs.pages_held.specs.joined_held.specs.held.specs.canonical_maps.specs.Places.{HaveOwnPlaces}
use Rattle.jfs_kept_volumes.specs.pages_held.specs.joined_held.specs.held.specs.survival.specs.face.specs.Places.{Places}
use Rattle.jfs_points_kept.proofs.Places.{place_of, has_place, Apart, Each}

-- a place that no page has
no_place : (b : ℕ) (ts : List MapPage) → Each (λ (t : MapPage). place_of t ≡ b → ⊥) ts → has_place b ts ≡ false
no_place b [] h = refl
no_place b (t ∷ ts) h = or_from (place_of t == b) (has_place b ts) (ne_eqb (place_of t) b h.0) (no_place b ts h.1)

each_to : (P Q : MapPage → Type 0) → ((t : MapPage) → P t → Q t) → (ts : List MapPage) → Each P ts → Each Q ts
each_to P Q f [] h = tt
each_to P Q f (t ∷ ts) h = (f t h.0, each_to P Q f ts h.1)

each_join : (P : MapPage → Type 0) (xs ys : List MapPage) → Each P xs → Each P ys → Each P (xs ++ ys)
each_join P [] ys a b = b
each_join P (x ∷ xs) ys a b = (a.0, each_join P xs ys a.1 b)

some_is : {a b : ℕ} → Some a ≡ Some b → a ≡ b
some_is e = cc (e)

module _ (pl : Places) (own : HaveOwnPlaces pl) (p : Parts) (size : pl.blocks ≡ length p.map.states) (stand : MapsStand pl p) where
  -- pages of the block map's file from page n on, and of the inode map's
  abbrev InBlocks : ℕ → MapPage → Type 0
  InBlocks n (OfBlocks k place) = (n ≤ k) × (is_in_use pl.blocks k ≡ true) × (pl.block_map k ≡ place)
  InBlocks n (OfInodes k place) = ⊥

  abbrev InInodes : ℕ → MapPage → Type 0
  InInodes n (OfBlocks k place) = ⊥
  InInodes n (OfInodes k place) = (n ≤ k) × (k ≤ pl.iags) × (pl.inode_map k ≡ place)

  lower_block : (n : ℕ) (t : MapPage) → InBlocks (suc n) t → InBlocks n t
  lower_block n (OfBlocks k place) h = (let l = h.0 in omega (arith, l), h.1, h.2)
  lower_block n (OfInodes k place) h = absurd h

  lower_inode : (n : ℕ) (t : MapPage) → InInodes (suc n) t → InInodes n t
  lower_inode n (OfBlocks k place) h = absurd h
  lower_inode n (OfInodes k place) h = (let l = h.0 in omega (arith, l), h.1, h.2)

  abbrev Behind : List ℕ → List ℕ → ℕ → Type 0
  Behind all rest n = (k : ℕ) → slice_get rest k ≡ slice_get all (n + k)

  next : (all : List ℕ) (place : ℕ) (rest : List ℕ) (n : ℕ) → Behind all (place ∷ rest) n → Behind all rest (suc n)
  next all place rest n b k = b (suc k) ∙ ap (λ (i : ℕ). slice_get all i) (let e : n + suc k ≡ suc n + k = omega arith in e)

  from_start : (all : List ℕ) → Behind all all 0
  from_start all k = ap (λ (i : ℕ). slice_get all i) (let e : k ≡ 0 + k = omega arith in e)

  first : (all : List ℕ) (place : ℕ) (rest : List ℕ) (n : ℕ) → Behind all (place ∷ rest) n → slice_get all n ≡ Some place
  first all place rest n b = ap (λ (i : ℕ). slice_get all i) (let e : n ≡ n + 0 = omega arith in e) ∙ sym (b 0)

  in_use : (k : ℕ) → is_in_use (length p.map.states) k ≡ true → is_in_use pl.blocks k ≡ true
  in_use k used = subst (λ (n : ℕ). is_in_use n k ≡ true) (sym size) used

  block_place : (n place : ℕ) (rest : List ℕ) → Behind p.files.blocks.places (place ∷ rest) n → is_in_use (length p.map.states) n ≡ true → pl.block_map n ≡ place
  block_place n place rest b used = some_is (sym (stand.block_map n (in_use n used)) ∙ first p.files.blocks.places place rest n b)

  inode_low : (n place : ℕ) (rest : List ℕ) → Behind p.files.inodes.places (place ∷ rest) n → n ≤ pl.iags
  inode_low n place rest b = let l = slice_get_within p.files.inodes.places n place (first p.files.inodes.places place rest n b) in let s = stand.inode_pages in omega (arith, l, s)

  inode_place : (n place : ℕ) (rest : List ℕ) → Behind p.files.inodes.places (place ∷ rest) n → pl.inode_map n ≡ place
  inode_place n place rest b = some_is (sym (stand.inode_map n (inode_low n place rest b)) ∙ first p.files.inodes.places place rest n b)

  blocks_in : (places : List ℕ) (n : ℕ) → Behind p.files.blocks.places places n → Each (InBlocks n) (block_pages (length p.map.states) n places)
  blocks_in [] n b = tt
  blocks_in (place ∷ places) n b = by (is_in_use (length p.map.states) n) refl (each_to (InBlocks (suc n)) (InBlocks n) (lower_block n) (block_pages (length p.map.states) (suc n) places) (blocks_in places (suc n) (next p.files.blocks.places place places n b)))
    where
      by : (u : Bool) → is_in_use (length p.map.states) n ≡ u → Each (InBlocks n) (block_pages (length p.map.states) (suc n) places) → Each (InBlocks n) ((if u then OfBlocks n place ∷ [] else []) ++ block_pages (length p.map.states) (suc n) places)
      by true e rest = ((omega arith, in_use n e, block_place n place places b e), rest)
      by false e rest = rest

  inodes_in : (places : List ℕ) (n : ℕ) → Behind p.files.inodes.places places n → Each (InInodes n) (inode_pages n places)
  inodes_in [] n b = tt
  inodes_in (place ∷ places) n b = ((omega arith, inode_low n place places b, inode_place n place places b), each_to (InInodes (suc n)) (InInodes n) (lower_inode n) (inode_pages (suc n) places) (inodes_in places (suc n) (next p.files.inodes.places place places n b)))

  -- ---- no place twice

  other_block : (n place : ℕ) → is_in_use pl.blocks n ≡ true → pl.block_map n ≡ place → (t : MapPage) → InBlocks (suc n) t → place_of t ≡ place → ⊥
  other_block n place used is (OfBlocks k other) h e = let same : k ≡ n = own.block_map k n h.1 used (h.2 ∙ e ∙ sym is) in let l = h.0 in omega (arith, same, l)
  other_block n place used is (OfInodes k other) h e = absurd h

  other_inode : (n place : ℕ) → n ≤ pl.iags → pl.inode_map n ≡ place → (t : MapPage) → InInodes (suc n) t → place_of t ≡ place → ⊥
  other_inode n place low is (OfInodes k other) h e = let same : k ≡ n = own.inode_map k n h.1 low (h.2 ∙ e ∙ sym is) in let l = h.0 in omega (arith, same, l)
  other_inode n place low is (OfBlocks k other) h e = absurd h

  other_map : (t : MapPage) → InBlocks 0 t → (u : MapPage) → InInodes 0 u → place_of u ≡ place_of t → ⊥
  other_map (OfBlocks n place) h (OfInodes k other) g e = own.both n k h.1 g.1 (h.2 ∙ sym e ∙ sym g.2)
  other_map (OfBlocks n place) h (OfBlocks k other) g e = absurd g
  other_map (OfInodes n place) h u g e = absurd h

  blocks_apart : (places : List ℕ) (n : ℕ) → Behind p.files.blocks.places places n → Apart (block_pages (length p.map.states) n places)
  blocks_apart [] n b = tt
  blocks_apart (place ∷ places) n b = by (is_in_use (length p.map.states) n) refl (blocks_in places (suc n) (next p.files.blocks.places place places n b)) (blocks_apart places (suc n) (next p.files.blocks.places place places n b))
    where
      by : (u : Bool) → is_in_use (length p.map.states) n ≡ u → Each (InBlocks (suc n)) (block_pages (length p.map.states) (suc n) places) → Apart (block_pages (length p.map.states) (suc n) places)
          → Apart ((if u then OfBlocks n place ∷ [] else []) ++ block_pages (length p.map.states) (suc n) places)
      by false e each rest = rest
      by true e each rest = (
        no_place place (block_pages (length p.map.states) (suc n) places) (each_to (InBlocks (suc n)) (λ (t : MapPage). place_of t ≡ place → ⊥) (other_block n place (in_use n e) (block_place n place places b e)) (block_pages (length p.map.states) (suc n) places) each),
        rest,
      )

  inodes_apart : (places : List ℕ) (n : ℕ) → Behind p.files.inodes.places places n → Apart (inode_pages n places)
  inodes_apart [] n b = tt
  inodes_apart (place ∷ places) n b = (
    no_place place (inode_pages (suc n) places) (each_to (InInodes (suc n)) (λ (t : MapPage). place_of t ≡ place → ⊥) (other_inode n place (inode_low n place places b) (inode_place n place places b)) (inode_pages (suc n) places)
        (inodes_in places (suc n) (next p.files.inodes.places place places n b))),
    inodes_apart places (suc n) (next p.files.inodes.places place places n b),
  )

  has_join : (b : ℕ) (xs ys : List MapPage) → has_place b xs ≡ false → has_place b ys ≡ false → has_place b (xs ++ ys) ≡ false
  has_join b [] ys e f = f
  has_join b (x ∷ xs) ys e f = let parts = or_parts (place_of x == b) (has_place b xs) e in or_from (place_of x == b) (has_place b (xs ++ ys)) parts.0 (has_join b xs ys parts.1 f)

  apart_join : (xs ys : List MapPage) → Apart xs → Apart ys → Each (InBlocks 0) xs → Each (InInodes 0) ys → Apart (xs ++ ys)
  apart_join [] ys a b f g = b
  apart_join (x ∷ xs) ys a b f g = (has_join (place_of x) xs ys a.0 (no_place (place_of x) ys (each_to (InInodes 0) (λ (u : MapPage). place_of u ≡ place_of x → ⊥) (other_map x f.0) ys g)), apart_join xs ys a.1 b f.1 g)

  pub stale_apart : Apart (stale_pages (length p.map.states) p.files)
  stale_apart = apart_join (if p.files.blocks.stale then block_pages (length p.map.states) 0 p.files.blocks.places else []) (if p.files.inodes.stale then inode_pages 0 p.files.inodes.places else [])
      (of_blocks p.files.blocks.stale) (of_inodes p.files.inodes.stale) (in_blocks p.files.blocks.stale) (in_inodes p.files.inodes.stale)
    where
      of_blocks : (b : Bool) → Apart (if b then block_pages (length p.map.states) 0 p.files.blocks.places else [])
      of_blocks true = blocks_apart p.files.blocks.places 0 (from_start p.files.blocks.places)
      of_blocks false = tt

      of_inodes : (b : Bool) → Apart (if b then inode_pages 0 p.files.inodes.places else [])
      of_inodes true = inodes_apart p.files.inodes.places 0 (from_start p.files.inodes.places)
      of_inodes false = tt

      in_blocks : (b : Bool) → Each (InBlocks 0) (if b then block_pages (length p.map.states) 0 p.files.blocks.places else [])
      in_blocks true = blocks_in p.files.blocks.places 0 (from_start p.files.blocks.places)
      in_blocks false = tt

      in_inodes : (b : Bool) → Each (InInodes 0) (if b then inode_pages 0 p.files.inodes.places else [])
      in_inodes true = inodes_in p.files.inodes.places 0 (from_start p.files.inodes.places)
      in_inodes false = tt
