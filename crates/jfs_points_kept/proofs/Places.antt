-- The pages that are written home are pages of the maps that have changed, each once, and all of them.
use Rattle.std.proofs.Common.{◌≡◌, ◌⊎◌, ◌+◌, ◌==◌, ◌||◌, refl, sym, ap, ◌∙◌, subst, ℕ, zero, suc, Bool, true, false, true≢false, if◌then◌else◌, List, [], ◌∷◌, ◌++◌, length, slice_get, Some, inl, inr, arith}
use Rattle.std.proofs.lemmas.Bool.{cases_Bool, or_from, or_parts, or_left, or_right, eq-eqb}
use Rattle.jfs_kept_volumes.specs.commits_held.specs.volume_calls.specs.halves.specs.Parts.{Parts}
use Rattle.jfs_kept_volumes.specs.commits_held.specs.volume_calls.specs.volume.specs.MapsHome.{MapPage, OfBlocks, OfInodes, block_pages, inode_pages, stale_pages, IsPageOf, ArePagesOf, AreFirstOf}
use Rattle.jfs_kept_volumes.specs.commits_held.specs.volume_calls.specs.volume.specs.bmap.specs.MapFile.{is_in_use}
use Rattle.jfs_kept_volumes.specs.commits_held.specs.volume_calls.specs.volume.specs.bmap.specs.States.{Blocks}
use Rattle.jfs_kept_volumes.specs.commits_held.specs.volume_calls.specs.volume.specs.data_steps.specs.After.{is_put, EachOnce}
use Rattle.jfs_kept_volumes.specs.commits_held.specs.volume_calls.specs.volume.specs.data_steps.specs.declared.pages.DataPage.{DataPage}
use Rattle.jfs_kept_volumes.specs.commits_held.specs.volume_calls.specs.volume.specs.map_files.specs.imap.specs.Inodes.{Inodes}
use Rattle.jfs_kept_volumes.specs.pages_held.specs.Homes.{of_blocks, of_inodes, IsStaleBytes}

-- ---- lists of pages of a map

-- the block that is a page's place
abbrev pub place_of : MapPage → ℕ
place_of (OfBlocks n place) = place
place_of (OfInodes n place) = place

-- the place is among those of some pages
abbrev pub has_place : ℕ → List MapPage → Bool
has_place b [] = false
has_place b (t ∷ ts) = place_of t == b || has_place b ts

-- each page's place stands there once
abbrev pub Apart : List MapPage → Type 0
Apart [] = Unit {0}
Apart (t ∷ ts) = (has_place (place_of t) ts ≡ false) × Apart ts

-- a page stands there with its number and its place
abbrev pub Each : (MapPage → Type 0) → List MapPage → Type 0
Each fact [] = Unit {0}
Each fact (t ∷ ts) = fact t × Each fact ts

place_is : (map : Blocks) (inodes : Inodes) (t : MapPage) (d : DataPage) → IsPageOf map inodes t d → d.block ≡ place_of t
place_is map inodes (OfBlocks n place) d h = h.0
place_is map inodes (OfInodes n place) d h = h.0

-- what is written has the places
pub put_places : (map : Blocks) (inodes : Inodes) (ts : List MapPage) (ds : List DataPage) (b : ℕ) → ArePagesOf map inodes ts ds → is_put b ds ≡ has_place b ts
put_places map inodes [] [] b h = refl
put_places map inodes [] (d ∷ ds) b h = absurd h
put_places map inodes (t ∷ ts) [] b h = absurd h
put_places map inodes (t ∷ ts) (d ∷ ds) b h = ap (λ (p : ℕ). p == b || is_put b ds) (place_is map inodes t d h.0) ∙ ap (λ (x : Bool). place_of t == b || x) (put_places map inodes ts ds b h.1)

-- of a front as well
first_places : (map : Blocks) (inodes : Inodes) (ts : List MapPage) (ds : List DataPage) (b : ℕ) → AreFirstOf map inodes ts ds → has_place b ts ≡ false → is_put b ds ≡ false
first_places map inodes ts [] b h none = refl
first_places map inodes [] (d ∷ ds) b h none = absurd h
first_places map inodes (t ∷ ts) (d ∷ ds) b h none =
    let parts = or_parts (place_of t == b) (has_place b ts) none in
    or_from (d.block == b) (is_put b ds) (ap (λ (p : ℕ). p == b) (place_is map inodes t d h.0) ∙ parts.0) (first_places map inodes ts ds b h.1 parts.1)

pub first_once : (map : Blocks) (inodes : Inodes) (ts : List MapPage) (ds : List DataPage) → Apart ts → AreFirstOf map inodes ts ds → EachOnce ds
first_once map inodes ts [] apart h = tt
first_once map inodes [] (d ∷ ds) apart h = absurd h
first_once map inodes (t ∷ ts) (d ∷ ds) apart h =
    (first_places map inodes ts ds d.block h.1 (ap (λ (b : ℕ). has_place b ts) (place_is map inodes t d h.0) ∙ apart.0), first_once map inodes ts ds apart.1 h.1)

-- all of them are a front
pub all_first : (map : Blocks) (inodes : Inodes) (ts : List MapPage) (ds : List DataPage) → ArePagesOf map inodes ts ds → AreFirstOf map inodes ts ds
all_first map inodes [] [] h = tt
all_first map inodes [] (d ∷ ds) h = absurd h
all_first map inodes (t ∷ ts) [] h = absurd h
all_first map inodes (t ∷ ts) (d ∷ ds) h = (h.0, all_first map inodes ts ds h.1)

-- ---- the stale pages of parts

-- a page of a map that has changed, in its place
abbrev pub IsStaleAt : Parts → MapPage → Type 0
IsStaleAt p (OfBlocks n place) = (p.files.blocks.stale ≡ true) × (is_in_use (length p.map.states) n ≡ true) × (slice_get p.files.blocks.places n ≡ Some place)
IsStaleAt p (OfInodes n place) = (p.files.inodes.stale ≡ true) × (slice_get p.files.inodes.places n ≡ Some place)

pub stale_bytes : (p : Parts) (t : MapPage) (d : DataPage) → IsStaleAt p t → IsPageOf p.map p.inodes t d → IsStaleBytes p d
stale_bytes p (OfBlocks n place) d s h = record { is = of_blocks n s.0 s.1 (s.2 ∙ ap Some (sym h.0)) h.1; bytes = h.2; size = h.3 }
stale_bytes p (OfInodes n place) d s h = record { is = of_inodes n s.0 (s.1 ∙ ap Some (sym h.0)) h.1; bytes = h.2; size = h.3 }

-- the places from one on
module _ (p : Parts) where
  -- a list behind so many others
  record Behind (all rest : List ℕ) (n : ℕ) : Type 0 where
    get : (k : ℕ) → slice_get rest k ≡ slice_get all (n + k)

  from_start : (all : List ℕ) → Behind all all 0
  from_start all = record { get = λ k. ap (λ (i : ℕ). slice_get all i) (let e : k ≡ 0 + k = omega arith in e) }

  one_on : (all : List ℕ) (place : ℕ) (rest : List ℕ) (n : ℕ) → Behind all (place ∷ rest) n → Behind all rest (suc n)
  one_on all place rest n b = record { get = λ k. b.get (suc k) ∙ ap (λ (i : ℕ). slice_get all i) (let e : n + suc k ≡ suc n + k = omega arith in e) }

  here : (all : List ℕ) (place : ℕ) (rest : List ℕ) (n : ℕ) → Behind all (place ∷ rest) n → slice_get all n ≡ Some place
  here all place rest n b = ap (λ (i : ℕ). slice_get all i) (let e : n ≡ n + 0 = omega arith in e) ∙ sym (b.get 0)

  block_each : p.files.blocks.stale ≡ true → (places : List ℕ) (n : ℕ) → Behind p.files.blocks.places places n → Each (IsStaleAt p) (block_pages (length p.map.states) n places)
  block_each stale [] n b = tt
  block_each stale (place ∷ places) n b = by (is_in_use (length p.map.states) n) refl (block_each stale places (suc n) (one_on p.files.blocks.places place places n b))
    where
      by : (u : Bool) → is_in_use (length p.map.states) n ≡ u → Each (IsStaleAt p) (block_pages (length p.map.states) (suc n) places) → Each (IsStaleAt p) ((if u then OfBlocks n place ∷ [] else []) ++ block_pages (length p.map.states) (suc n) places)
      by true e rest = ((stale, e, here p.files.blocks.places place places n b), rest)
      by false e rest = rest

  inode_each : p.files.inodes.stale ≡ true → (places : List ℕ) (n : ℕ) → Behind p.files.inodes.places places n → Each (IsStaleAt p) (inode_pages n places)
  inode_each stale [] n b = tt
  inode_each stale (place ∷ places) n b = ((stale, here p.files.inodes.places place places n b), inode_each stale places (suc n) (one_on p.files.inodes.places place places n b))

  each_join : (xs ys : List MapPage) → Each (IsStaleAt p) xs → Each (IsStaleAt p) ys → Each (IsStaleAt p) (xs ++ ys)
  each_join [] ys a b = b
  each_join (x ∷ xs) ys a b = (a.0, each_join xs ys a.1 b)

  pub stale_each : Each (IsStaleAt p) (stale_pages (length p.map.states) p.files)
  stale_each = each_join (if p.files.blocks.stale then block_pages (length p.map.states) 0 p.files.blocks.places else []) (if p.files.inodes.stale then inode_pages 0 p.files.inodes.places else []) (of_map (cases_Bool p.files.blocks.stale)) (of_inode (cases_Bool p.files.inodes.stale))
    where
      of_map : (p.files.blocks.stale ≡ true) ⊎ (p.files.blocks.stale ≡ false) → Each (IsStaleAt p) (if p.files.blocks.stale then block_pages (length p.map.states) 0 p.files.blocks.places else [])
      of_map (inl e) = subst (λ (b : Bool). Each (IsStaleAt p) (if b then block_pages (length p.map.states) 0 p.files.blocks.places else [])) (sym e) (block_each e p.files.blocks.places 0 (from_start p.files.blocks.places))
      of_map (inr e) = subst (λ (b : Bool). Each (IsStaleAt p) (if b then block_pages (length p.map.states) 0 p.files.blocks.places else [])) (sym e) tt

      of_inode : (p.files.inodes.stale ≡ true) ⊎ (p.files.inodes.stale ≡ false) → Each (IsStaleAt p) (if p.files.inodes.stale then inode_pages 0 p.files.inodes.places else [])
      of_inode (inl e) = subst (λ (b : Bool). Each (IsStaleAt p) (if b then inode_pages 0 p.files.inodes.places else [])) (sym e) (inode_each e p.files.inodes.places 0 (from_start p.files.inodes.places))
      of_inode (inr e) = subst (λ (b : Bool). Each (IsStaleAt p) (if b then inode_pages 0 p.files.inodes.places else [])) (sym e) tt

  -- and each such page is among them
  block_found : (places : List ℕ) (n k place : ℕ) → is_in_use (length p.map.states) (n + k) ≡ true → slice_get places k ≡ Some place → has_place place (block_pages (length p.map.states) n places) ≡ true
  block_found [] n k place used e = absurd (cc (e))
  block_found (q ∷ places) n zero place used e = by (is_in_use (length p.map.states) n) (ap (is_in_use (length p.map.states)) (let z : n ≡ n + 0 = omega arith in z) ∙ used)
    where
      same : {a b : ℕ} → Some a ≡ Some b → a ≡ b
      same h = cc (h)

      by : (u : Bool) → u ≡ true → has_place place ((if u then OfBlocks n q ∷ [] else []) ++ block_pages (length p.map.states) (suc n) places) ≡ true
      by true h = or_left (q == place) (has_place place (block_pages (length p.map.states) (suc n) places)) (eq-eqb q place (same e))
      by false h = absurd (true≢false (sym h))
  block_found (q ∷ places) n (suc k) place used e =
      by (is_in_use (length p.map.states) n) (block_found places (suc n) k place (ap (is_in_use (length p.map.states)) (let z : suc n + k ≡ n + suc k = omega arith in z) ∙ used) e)
    where
      by : (u : Bool) → has_place place (block_pages (length p.map.states) (suc n) places) ≡ true → has_place place ((if u then OfBlocks n q ∷ [] else []) ++ block_pages (length p.map.states) (suc n) places) ≡ true
      by true h = or_right (q == place) (has_place place (block_pages (length p.map.states) (suc n) places)) h
      by false h = h

  inode_found : (places : List ℕ) (n k place : ℕ) → slice_get places k ≡ Some place → has_place place (inode_pages n places) ≡ true
  inode_found [] n k place e = absurd (cc (e))
  inode_found (q ∷ places) n zero place e = or_left (q == place) (has_place place (inode_pages (suc n) places)) (eq-eqb q place (same e))
    where
      same : {a b : ℕ} → Some a ≡ Some b → a ≡ b
      same h = cc (h)
  inode_found (q ∷ places) n (suc k) place e = or_right (q == place) (has_place place (inode_pages (suc n) places)) (inode_found places (suc n) k place e)

  has_join : (b : ℕ) (xs ys : List MapPage) → has_place b (xs ++ ys) ≡ (has_place b xs || has_place b ys)
  has_join b [] ys = refl
  has_join b (x ∷ xs) ys = ap (λ (r : Bool). place_of x == b || r) (has_join b xs ys) ∙ assoc (place_of x == b) (has_place b xs) (has_place b ys)
    where
      assoc : (a c d : Bool) → (a || (c || d)) ≡ ((a || c) || d)
      assoc true c d = refl
      assoc false c d = refl

  pub finds_block : (k place : ℕ) → p.files.blocks.stale ≡ true → is_in_use (length p.map.states) k ≡ true → slice_get p.files.blocks.places k ≡ Some place → has_place place (stale_pages (length p.map.states) p.files) ≡ true
  finds_block k place stale used e = has_join place (if p.files.blocks.stale then block_pages (length p.map.states) 0 p.files.blocks.places else []) (if p.files.inodes.stale then inode_pages 0 p.files.inodes.places else [])
      ∙ or_left (has_place place (if p.files.blocks.stale then block_pages (length p.map.states) 0 p.files.blocks.places else [])) (has_place place (if p.files.inodes.stale then inode_pages 0 p.files.inodes.places else []))
      (ap (λ (b : Bool). has_place place (if b then block_pages (length p.map.states) 0 p.files.blocks.places else [])) stale ∙ block_found p.files.blocks.places 0 k place (ap (is_in_use (length p.map.states)) (let z : 0 + k ≡ k = omega arith in z) ∙ used) e)

  pub finds_inode : (k place : ℕ) → p.files.inodes.stale ≡ true → slice_get p.files.inodes.places k ≡ Some place → has_place place (stale_pages (length p.map.states) p.files) ≡ true
  finds_inode k place stale e = has_join place (if p.files.blocks.stale then block_pages (length p.map.states) 0 p.files.blocks.places else []) (if p.files.inodes.stale then inode_pages 0 p.files.inodes.places else [])
      ∙ or_right (has_place place (if p.files.blocks.stale then block_pages (length p.map.states) 0 p.files.blocks.places else [])) (has_place place (if p.files.inodes.stale then inode_pages 0 p.files.inodes.places else []))
      (ap (λ (b : Bool). has_place place (if b then inode_pages 0 p.files.inodes.places else [])) stale ∙ inode_found p.files.inodes.places 0 k place e)
