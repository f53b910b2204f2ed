-- Extents that are cut at a block of the file: which blocks of the file they have, and which blocks of the volume.
use Rattle.std.proofs.Common.{◌≡◌, ◌≤◌, ◌<◌, refl, sym, ap, ap₂, ◌∙◌, ℕ, ◌+◌, ◌-◌, ◌&&◌, ◌==◌, Bool, true, false, nat_le, nat_lt, if◌then◌else◌, List, [], ◌∷◌, ◌++◌, Option, Some, None, arith}
use Rattle.std.specs.Int.RustNames.{bit_and}
use Rattle.std.proofs.lemmas.Bool.Decides.{nat_tests}
use Rattle.jfs_bits.specs.declared.descriptor.Pxd.{Pxd}
use Rattle.jfs_bits.specs.declared.extent.Xad.{Xad}
use Rattle.jfs_tree.specs.Edit.{count_in}
use Rattle.jfs_tree.specs.Fresh.{run_from, blocks_of}
use Rattle.jfs_xtpage.specs.Page.{end_of}
use Rattle.jfs_xtree.specs.Cutting.{up_to, kept_below, gone_of, gone_past}
use Rattle.jfs_data_steps.specs.objects.specs.Owners.{run_has, covers}
use Rattle.jfs_data_steps.specs.objects.specs.Contents.{block_in, block_of}
use Rattle.jfs_data_steps.specs.objects.proofs.Blocks.{covered}
use Rattle.jfs_data_steps.specs.loss.proofs.Counts.{count_append, count_run}

abbrev has : Xad → ℕ → Bool
has e k = nat_le e.offset k && nat_lt k (e.offset + e.at.len)

module _ (bound : ℕ) where
  abbrev shorter : Xad → Xad
  shorter e = record { flag = e.flag; offset = e.offset; at = record { len = bound - e.offset; addr = e.at.addr } }

  -- below the bound all blocks of the file are where they were
  behind_it : (offset len k : ℕ) → k < bound → nat_le bound offset ≡ true → (nat_le offset k && nat_lt k (offset + len)) ≡ false
  behind_it offset len k l h = grind (arith, nat_tests, h)

  same_test : (offset len k : ℕ) → k < bound → nat_le bound offset ≡ false → nat_le (offset + (if len == 0 then 1 else len)) bound ≡ false
      → (nat_le offset k && nat_lt k (offset + (bound - offset))) ≡ (nat_le offset k && nat_lt k (offset + len))
  same_test offset len k l h g = grind (arith, nat_tests, h, g)

  pub below : (k : ℕ) (es : List Xad) → k < bound → block_of (kept_below bound es) k ≡ block_of es k
  below k [] l = refl
  below k (e ∷ es) l = by (nat_le bound e.offset) refl (nat_le (end_of e) bound) refl (below k es l)
    where
      by : (x : Bool) → nat_le bound e.offset ≡ x → (y : Bool) → nat_le (end_of e) bound ≡ y → block_of (kept_below bound es) k ≡ block_of es k
          → block_of (if x then kept_below bound es else (if y then e else shorter e) ∷ kept_below bound es) k ≡ block_of (e ∷ es) k
      by true h y g rest = rest ∙ sym (ap (λ (t : Bool). if t then block_in e k else block_of es k) (behind_it e.offset e.at.len k l h))
      by false h true g rest = ap (λ (o : Option ℕ). if has e k then block_in e k else o) rest
      by false h false g rest = ap₂ (λ (t : Bool) (o : Option ℕ). if t then block_in e k else o) (same_test e.offset e.at.len k l h g) rest

  -- and from it on there are none
  ends_before : (offset len k : ℕ) → bound ≤ k → nat_le (offset + (if len == 0 then 1 else len)) bound ≡ true → (nat_le offset k && nat_lt k (offset + len)) ≡ false
  ends_before offset len k l h = grind (arith, nat_tests, h)

  stops_before : (offset k : ℕ) → bound ≤ k → nat_le bound offset ≡ false → (nat_le offset k && nat_lt k (offset + (bound - offset))) ≡ false
  stops_before offset k l h = grind (arith, nat_tests, h)

  pub past : (k : ℕ) (es : List Xad) → bound ≤ k → block_of (kept_below bound es) k ≡ None
  past k [] l = refl
  past k (e ∷ es) l = by (nat_le bound e.offset) refl (nat_le (end_of e) bound) refl (past k es l)
    where
      by : (x : Bool) → nat_le bound e.offset ≡ x → (y : Bool) → nat_le (end_of e) bound ≡ y → block_of (kept_below bound es) k ≡ None
          → block_of (if x then kept_below bound es else (if y then e else shorter e) ∷ kept_below bound es) k ≡ None
      by true h y g rest = rest
      by false h true g rest = ap (λ (t : Bool). if t then block_in e k else block_of (kept_below bound es) k) (ends_before e.offset e.at.len k l g) ∙ rest
      by false h false g rest = ap (λ (t : Bool). if t then block_in e k else block_of (kept_below bound es) k) (stops_before e.offset k l h) ∙ rest

  -- ---- what stays and what is freed are together what was there

  parts : (offset len addr b : ℕ) → nat_le bound offset ≡ false → nat_le (offset + (if len == 0 then 1 else len)) bound ≡ false
      → (if nat_le addr b && nat_lt b (addr + (bound - offset)) then 1 else 0)
      + (if nat_le (addr + (bound - offset)) b && nat_lt b (addr + (bound - offset) + (offset + (if len == 0 then 1 else len) - bound)) then 1 else 0)
      ≡ (if nat_le addr b && nat_lt b (addr + len) then 1 else 0)
  parts offset len addr b h g = grind (arith, nat_tests, h, g)

  one_run : (b : ℕ) (p : Pxd) → count_in b (blocks_of (p ∷ [])) ≡ run_has p b
  one_run b p = let a = count_append b (run_from p.addr p.len) [] in let c = count_run b p.addr p.len in omega (arith, a, c)

  runs_append : (b : ℕ) (xs ys : List Pxd) → count_in b (blocks_of (xs ++ ys)) ≡ count_in b (blocks_of xs) + count_in b (blocks_of ys)
  runs_append b [] ys = omega arith
  runs_append b (x ∷ xs) ys = omega (arith, count_append b (run_from x.addr x.len) (blocks_of (xs ++ ys)), count_append b (run_from x.addr x.len) (blocks_of xs), runs_append b xs ys)

  pub balance : (b : ℕ) (es : List Xad) → covers b (kept_below bound es) + count_in b (blocks_of (gone_past bound es)) ≡ covers b es
  balance b [] = refl
  balance b (e ∷ es) = let s = runs_append b (gone_of bound e) (gone_past bound es) in let o = by (nat_le bound e.offset) refl (nat_le (end_of e) bound) refl (balance b es) in omega (arith, s, o)
    where
      by : (x : Bool) → nat_le bound e.offset ≡ x → (y : Bool) → nat_le (end_of e) bound ≡ y → covers b (kept_below bound es) + count_in b (blocks_of (gone_past bound es)) ≡ covers b es
          → covers b (if x then kept_below bound es else (if y then e else shorter e) ∷ kept_below bound es)
          + count_in b (blocks_of (if x then e.at ∷ [] else (if y then [] else record { len = end_of e - bound; addr = e.at.addr + (bound - e.offset) } ∷ []))) + count_in b (blocks_of (gone_past bound es))
          ≡ run_has e.at b + covers b es
      by true h y g rest = let r = one_run b e.at in omega (arith, rest, r)
      by false h true g rest = omega (arith, rest)
      by false h false g rest = let r = one_run b (record { len = end_of e - bound; addr = e.at.addr + (bound - e.offset) }) in let p = parts e.offset e.at.len e.at.addr b h g in omega (arith, rest, r, p)

-- ---- a block that is named once is one block of the file

place_is : (e : Xad) (k j b : ℕ) → has e k ≡ true → has e j ≡ true → block_in e k ≡ Some b → block_in e j ≡ Some b → k ≡ j
place_is e k j b h g x y = by (bit_and e.flag 0x08 == 0x08) x y
  where
    none : None ≡ Some b → ⊥
    none h = cc (h)

    number_is : {m n : ℕ} → Some m ≡ Some n → m ≡ n
    number_is h = cc (h)

    from_offset : (offset len k : ℕ) → (nat_le offset k && nat_lt k (offset + len)) ≡ true → offset ≤ k
    from_offset offset len k h = grind (arith, nat_tests, h)

    by : (t : Bool) → (if t then None else Some (e.at.addr + (k - e.offset))) ≡ Some b → (if t then None else Some (e.at.addr + (j - e.offset))) ≡ Some b → k ≡ j
    by true x y = absurd (none x)
    by false x y = let m = number_is x in let n = number_is y in let p = from_offset e.offset e.at.len k h in let q = from_offset e.offset e.at.len j g in omega (arith, m, n, p, q)

pub one_place : (es : List Xad) (k j b : ℕ) → covers b es ≤ 1 → block_of es k ≡ Some b → block_of es j ≡ Some b → k ≡ j
one_place [] k j b once x y = absurd (cc (x))
one_place (e ∷ es) k j b once x y = by (has e k) refl (has e j) refl x y (one_place es k j b (omega (arith, once)))
  where
    here : (i : ℕ) → has e i ≡ true → block_in e i ≡ Some b → 0 < run_has e.at b
    here i h x = let c = covered (e ∷ []) i b (ap (λ (t : Bool). if t then block_in e i else None) h ∙ x) in omega (arith, c)

    by : (s : Bool) → has e k ≡ s → (t : Bool) → has e j ≡ t → (if s then block_in e k else block_of es k) ≡ Some b → (if t then block_in e j else block_of es j) ≡ Some b
        → (block_of es k ≡ Some b → block_of es j ≡ Some b → k ≡ j) → k ≡ j
    by true h true g x y rest = place_is e k j b h g x y
    by true h false g x y rest = absurd (let m = here k h x in let n = covered es j b y in omega (arith, m, n, once))
    by false h true g x y rest = absurd (let m = here j g y in let n = covered es k b x in omega (arith, m, n, once))
    by false h false g x y rest = rest x y
