-- What is wrong with the pages of the block map's file are the volume's findings of the block map.
use Rattle.std.proofs.Common.{◌≡◌, ◌≤◌, ◌<◌, ◌+◌, ◌-◌, ◌*◌, ◌/◌, ◌%◌, ℕ, Bool, true, false, inl, inr, List, length, refl, sym, ap, subst, ◌∙◌, arith}
use Rattle.std.specs.Prelude.{nat_le, nat_lt, ◌==◌, ◌&&◌, if◌then◌else◌}
use Rattle.std.proofs.Math.Path.{fun_ext}
use Rattle.std.proofs.lemmas.Bool.{cases_lt, lt-ltb, lt-leb, le-leb, or_right, or_cases, and_from, and_parts, eqb-true, ltb-true}
use Rattle.std.proofs.lemmas.List.{get_or_past}
use Rattle.jfs_bits.specs.declared.extent.Xad.{Xad}
use Rattle.jfs_bits.specs.Bits.{is_taken}
use Rattle.jfs_bits.specs.Field.{range_of}
use Rattle.jfs_bmap.specs.Set.{taken_at}
use Rattle.jfs_bmap.specs.OwnedBlocks.{OwnedBlocks, owned_of}
use Rattle.jfs_bmap.specs.MapFile.{is_in_use, pages_of}
use Rattle.jfs_bmap.proofs.Views.{length-each_below, taken_at-each_below}
use Rattle.jfs_super.specs.declared.fields.Super.{Super}
use Rattle.jfs_findings.specs.objects.specs.Image.{file_extents, file_page, is_block_used}
use Rattle.jfs_findings.specs.mount_rules.specs.Subject.{Subject, blocks, volume, IsFilePage, subject_of}
use Rattle.jfs_findings.specs.Blocks.{is_owned, IsMisMapped}
use Rattle.jfs_findings.specs.Maps.{IsMapPageAs, has_to_be_taken, IsBadBlockMap}
use Rattle.jfs_findings.specs.Findings.{Says}
use Rattle.jfs_findings.specs.Gains.{Gains}
use Rattle.jfs_findings.specs.declared.finding.Finding.{Finding}
use Rattle.jfs_findings.specs.declared.finding.FindingKind.{FindingKind}
use Rattle.jfs_findings.specs.declared.finding.FindingKind.TheVariants as kinds
use Rattle.jfs_map_check.specs.Found.{KnowsOwners, IsOfBlockMap, IsWrongPage, IsWrongBit, IsWrongBelow, finding}
use Rattle.jfs_map_check.proofs.Gaining.{gains_as}

-- the page of a file that stands on a block
pub page_is : (s : Subject) (k j n : ℕ) → IsFilePage s k j n → file_page s.readers s.page k j ≡ s.page n
unfolding file_page
page_is s k j n e = rw e refl

-- a block's bit, by the page of its dmap
bit_is : (s : Subject) (n b : ℕ) → b < blocks s → IsFilePage s 2 (4 + b / 8192) n → (volume s).used b ≡ is_taken (range_of (s.page n) 3072 1024) (b % 8192)
unfolding is_block_used
bit_is s n b h e = rw (lt-ltb b (blocks s) h, page_is s 2 (4 + b / 8192) n e) refl

set_is : (s : Subject) (b : ℕ) → b < blocks s → has_to_be_taken s b ≡ is_owned s b
set_is s b h = rw (lt-leb (blocks s) b h) refl

-- the pages in use
used_below : (count j : ℕ) → is_in_use count j ≡ true → j < pages_of count
used_below count j used =
    elim (or_cases (j == 0) (nat_le 3 j && nat_lt j (pages_of count)) used) [
      | inl e ↦ (let z = eqb-true j 0 e in omega (arith, z))
      | inr e ↦ ltb-true j (pages_of count) (and_parts (nat_le 3 j) (nat_lt j (pages_of count)) e).1
    ]

dmap_used : (count j : ℕ) → 3 ≤ j → j < pages_of count → is_in_use count j ≡ true
dmap_used count j most below = or_right (j == 0) (nat_le 3 j && nat_lt j (pages_of count)) (and_from (nat_le 3 j) (nat_lt j (pages_of count)) (le-leb 3 j most) (lt-ltb j (pages_of count) below))

module _ (s : Subject) where
  abbrev Wrong : Finding → Type 0
  Wrong = IsWrongBelow (blocks s) s.super.agsize (has_to_be_taken s) s.page (file_extents s.readers s.page 2) (pages_of (blocks s))

  of_page : (j n : ℕ) (f : Finding) → is_in_use (blocks s) j ≡ true → IsFilePage s 2 j n → IsWrongPage (blocks s) s.super.agsize (has_to_be_taken s) j n (s.page n) f → IsOfBlockMap s f
  of_page j n f used stands q =
      subst (IsOfBlockMap s) (sym q.is) (inr refl, ((j, used, stands, λ c. q.differs (subst (IsMapPageAs (blocks s) s.super.agsize (has_to_be_taken s) j) (page_is s 2 j n stands) c)), refl))

  of_bit : (j n : ℕ) (f : Finding) → IsFilePage s 2 j n → IsWrongBit (blocks s) (has_to_be_taken s) j n (s.page n) f → IsOfBlockMap s f
  of_bit j n f stands q =
      let b = 8192 * (j - 4) + q.block in
      let most = q.dmap in
      let small = q.small in
      let place : j ≡ 4 + b / 8192 = omega (arith, most, small) in
      let bit : b % 8192 ≡ q.block = omega (arith, small) in
      let there : IsFilePage s 2 (4 + b / 8192) n = subst (λ (i : ℕ). IsFilePage s 2 i n) place stands in
      let read : (volume s).used b ≡ is_taken (range_of (s.page n) 3072 1024) q.block = bit_is s n b q.within there ∙ ap (is_taken (range_of (s.page n) 3072 1024)) bit in
      subst (IsOfBlockMap s) (sym q.is) (inl refl, (q.within, there, λ e. q.differs (sym read ∙ e ∙ sym (set_is s b q.within))))

  to_finding : (f : Finding) → Wrong f → IsOfBlockMap s f
  to_finding f p = elim p.wrong.wrong [
    | inl q ↦ of_page p.at p.wrong.page f p.wrong.used p.wrong.stands q
    | inr q ↦ of_bit p.at p.wrong.page f p.wrong.stands q
  ]

  from_map : (f : Finding) → f.kind ≡ kinds.Map → IsMisMapped s f.page f.value → Wrong f
  from_map f e h =
      let b = f.value in
      let within = h.0 in
      let whole : 8192 * (4 + b / 8192 - 4) + b % 8192 ≡ b = omega arith in
      record {
        at = 4 + b / 8192;
        below = omega (arith, within);
        wrong = record {
          used = dmap_used (blocks s) (4 + b / 8192) (omega arith) (omega (arith, within));
          page = f.page;
          stands = h.1;
          wrong = inr (record {
            dmap = omega arith;
            block = b % 8192;
            small = omega arith;
            within = rw whole within;
            is = ap (λ (k : FindingKind). finding k f.page b) e ∙ ap (finding kinds.Map f.page) (sym whole);
            differs = λ d. h.2 (bit_is s f.page b within h.1 ∙ d ∙ ap (has_to_be_taken s) whole ∙ set_is s b within);
          });
        };
      }

  from_page : (f : Finding) → f.kind ≡ kinds.Bmap → IsBadBlockMap s f.page → f.value ≡ 0 → Wrong f
  from_page f e h zero = record {
    at = h.0;
    below = used_below (blocks s) h.0 h.1;
    wrong = record {
      used = h.1;
      page = f.page;
      stands = h.2;
      wrong = inl (record {
        is = ap (λ (k : FindingKind). finding k f.page f.value) e ∙ ap (finding kinds.Bmap f.page) zero;
        differs = λ c. h.3 (subst (IsMapPageAs (blocks s) s.super.agsize (has_to_be_taken s) h.0) (sym (page_is s 2 h.0 f.page h.2)) c);
      });
    };
  }

  from_finding : (f : Finding) → IsOfBlockMap s f → Wrong f
  from_finding f p = elim p.0 [
    | inl e ↦ from_map f e (subst (λ (k : FindingKind). Says s k f.page f.value) e p.1)
    | inr e ↦ (let h = subst (λ (k : FindingKind). Says s k f.page f.value) e p.1 in from_page f e h.0 h.1)
  ]

-- the owned blocks of a map of the set
module _ (s : Subject) (size group : ℕ) (set : List ℕ) (es : List Xad) (k : KnowsOwners s size group set es) where
  abbrev blocks_in : List Bool
  blocks_in = (owned_of set size group).owned

  size_in : length blocks_in ≡ size
  size_in = length-each_below size (is_taken set)

  owned_at : (b : ℕ) → taken_at blocks_in b ≡ has_to_be_taken s b
  owned_at b = elim (cases_lt b size) [
    | inl h ↦ taken_at-each_below size (is_taken set) b h ∙ k.owned b (in_volume b h) ∙ sym (set_is s b (in_volume b h))
    | inr h ↦ get_or_past blocks_in b true (omega (arith, size_in, h)) ∙ sym (past b h)
  ]
    where
      in_volume : (b : ℕ) → b < size → b < blocks s
      in_volume b h = let e = k.count in omega (arith, h, e)

      past : (b : ℕ) → size ≤ b → has_to_be_taken s b ≡ true
      past b h = rw (le-leb (blocks s) b (let e = k.count in omega (arith, h, e))) refl

  pub block_map_gains : (xs ys : List Finding) → Gains (IsWrongBelow (length blocks_in) group (taken_at blocks_in) s.page es (pages_of (length blocks_in))) xs ys → Gains (IsOfBlockMap s) xs ys
  block_map_gains xs ys g =
      let number : length blocks_in ≡ blocks s = size_in ∙ sym k.count in
      let taken : taken_at blocks_in ≡ has_to_be_taken s = fun_ext owned_at in
      let one = subst (λ (n : ℕ). Gains (IsWrongBelow n group (taken_at blocks_in) s.page es (pages_of n)) xs ys) number g in
      let two = subst (λ (t : ℕ → Bool). Gains (IsWrongBelow (blocks s) group t s.page es (pages_of (blocks s))) xs ys) taken one in
      let three = subst (λ (n : ℕ). Gains (IsWrongBelow (blocks s) n (has_to_be_taken s) s.page es (pages_of (blocks s))) xs ys) (sym k.groups) two in
      let four = subst (λ (e : List Xad). Gains (IsWrongBelow (blocks s) s.super.agsize (has_to_be_taken s) s.page e (pages_of (blocks s))) xs ys) (sym k.extents) three in
      gains_as (IsWrongBelow (blocks s) s.super.agsize (has_to_be_taken s) s.page (file_extents s.readers s.page 2) (pages_of (blocks s))) (IsOfBlockMap s) xs ys four (to_finding s) (from_finding s)

-- a map that was made of a set has its blocks
pub made_size : (size group : ℕ) (set : List ℕ) (map : OwnedBlocks) → map ≡ owned_of set size group → length map.owned ≡ size
made_size size group set map is = ap (λ (m : OwnedBlocks). length m.owned) is ∙ length-each_below size (is_taken set)

-- the same of such a map
pub of_block_map : (super : Super) (page : ℕ → List ℕ) (size group : ℕ) (set : List ℕ) (es : List Xad) (map : OwnedBlocks) (xs ys : List Finding) → map ≡ owned_of set size group
    → Gains (IsWrongBelow (length map.owned) map.agsize (taken_at map.owned) page es (pages_of (length map.owned))) xs ys
    → KnowsOwners (subject_of super page) size group set es → Gains (IsOfBlockMap (subject_of super page)) xs ys
of_block_map super page size group set es map xs ys is g k =
    block_map_gains (subject_of super page) size group set es k xs ys
    (subst (λ (m : OwnedBlocks). Gains (IsWrongBelow (length m.owned) m.agsize (taken_at m.owned) page es (pages_of (length m.owned))) xs ys) is g)
