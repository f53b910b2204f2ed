-- A block that an object owns lies in one of its runs, and each block of a run is owned.
use Rattle.std.proofs.Common.{◌≡◌, ◌⊎◌, inl, inr, refl, sym, ap, subst, ◌∙◌, ℕ, ◌+◌, ◌<◌, ◌≤◌, zero, suc, Bool, true, false, ◌&&◌, ◌==◌, nat_le, nat_lt, if◌then◌else◌, List, [], ◌∷◌, Some, max, arith}
use Rattle.std.specs.List.{Contains}
use Rattle.std.specs.Int.RustNames.{bit_and}
use Rattle.std.proofs.lemmas.Bool.{cases_lt, leb-true, ltb-true, le-leb, lt-ltb, and_parts, and_from, eqb-true, eq-eqb}
use Rattle.jfs_bits.specs.declared.descriptor.Pxd.{Pxd}
use Rattle.jfs_bits.specs.declared.extent.Dxd.{Dxd}
use Rattle.jfs_bits.specs.declared.extent.Xad.{Xad}
use Rattle.jfs_mount.specs.objects.specs.Readers.{Readers}
use Rattle.jfs_mount.specs.objects.specs.Objects.{Object, listed}
use Rattle.jfs_mount.specs.objects.specs.Owners.{run_has, covers, dxd_has, entries, tree_held, data_held, attributes_held, holds}
use Rattle.jfs_findings.specs.Blocks.{HasRun, of_trees, of_data, of_attributes, IsFirstPast}

pub in_run : (p : Pxd) (b : ℕ) → 0 < run_has p b → (p.addr ≤ b) × (b < p.addr + p.len)
in_run p b = by (nat_le p.addr b && nat_lt b (p.addr + p.len)) refl
  where
    by : (x : Bool) → (nat_le p.addr b && nat_lt b (p.addr + p.len)) ≡ x → 0 < (let n : ℕ = (if x then 1 else 0) in n) → (p.addr ≤ b) × (b < p.addr + p.len)
    by true e h = let t = and_parts (nat_le p.addr b) (nat_lt b (p.addr + p.len)) e in (leb-true p.addr b t.0, ltb-true b (p.addr + p.len) t.1)
    by false e h = absurd (omega (arith, h))

pub run_in : (p : Pxd) (b : ℕ) → p.addr ≤ b → b < p.addr + p.len → 0 < run_has p b
run_in p b l m = subst (λ (x : Bool). 0 < (let n : ℕ = (if x then 1 else 0) in n)) (sym (and_from (nat_le p.addr b) (nat_lt b (p.addr + p.len)) (le-leb p.addr b l) (lt-ltb b (p.addr + p.len) m))) (omega arith)

-- ---- extents

covered : (b : ℕ) (es : List Xad) → 0 < covers b es → (e : Xad) × Contains es e × (0 < run_has e.at b)
covered b [] h = absurd (omega (arith, h))
covered b (e ∷ es) h = elim (cases_lt 0 (run_has e.at b)) [
  | inl l ↦ (e, (0, omega arith, refl), l)
  | inr z ↦ (let f = covered b es (omega (arith, h, z)) in let k = f.1.1 in (f.0, (suc f.1.0, omega (arith, k), f.1.2), f.2))
]

pub covers_run : (b : ℕ) (es : List Xad) (e : Xad) → Contains es e → 0 < run_has e.at b → 0 < covers b es
covers_run b [] e (k, l, is) h = absurd (omega (arith, l))
covers_run b (x ∷ es) e (zero, l, is) h = let m = subst (λ (y : Xad). 0 < run_has y.at b) (sym is) h in omega (arith, m)
covers_run b (x ∷ es) e (suc k, l, is) h = let m = covers_run b es e (k, omega (arith, l), is) h in omega (arith, m)

-- ---- attributes

pub dxd_run : (d : Dxd) (b : ℕ) → 0 < dxd_has d b → (bit_and d.flag 0x20 ≡ 0x20) × (0 < run_has d.at b)
dxd_run d b = by (bit_and d.flag 0x20 == 0x20) refl
  where
    by : (x : Bool) → (bit_and d.flag 0x20 == 0x20) ≡ x → 0 < (if x then run_has d.at b else 0) → (bit_and d.flag 0x20 ≡ 0x20) × (0 < run_has d.at b)
    by true e h = (eqb-true (bit_and d.flag 0x20) 0x20 e, h)
    by false e h = absurd (omega (arith, h))

pub run_dxd : (d : Dxd) (b : ℕ) → bit_and d.flag 0x20 ≡ 0x20 → 0 < run_has d.at b → 0 < dxd_has d b
run_dxd d b e h = subst (λ (x : Bool). 0 < (if x then run_has d.at b else 0)) (sym (eq-eqb (bit_and d.flag 0x20) 0x20 e)) h

-- ---- objects

either : (a b : ℕ) → 0 < a + b → (0 < a) ⊎ (0 < b)
either a b h = elim (cases_lt 0 a) [ inl l ↦ inl l | inr l ↦ inr (omega (arith, h, l)) ]

module _ (r : Readers) (o : Object) (b : ℕ) where
  abbrev Some_run : Type 0
  Some_run = (run : Pxd) × HasRun r o run × (0 < run_has run b)

  in_trees : 0 < tree_held r o b → Some_run
  in_trees h = (record { len = 1; addr = b }, of_trees h refl, run_in (record { len = 1; addr = b }) b (omega arith) (omega arith))

  in_data : 0 < data_held r o b → Some_run
  in_data h = let f = covered b (entries (listed r.extents_order o.extents)) h in (f.0.at, of_data f.0 f.1 refl, f.2)

  in_dxd : (d : Dxd) → (d ≡ o.inode.acl) ⊎ (d ≡ o.inode.ea) → 0 < dxd_has d b → Some_run
  in_dxd d is h = let f = dxd_run d b h in (d.at, of_attributes d is f.0 refl, f.1)

  -- a block that the object owns lies in one of its runs
  pub owned_in_run : 0 < holds r (Some o) b → Some_run
  unfolding holds
  owned_in_run h = elim (either (tree_held r o b + data_held r o b) (attributes_held o b) h) [
    | inl m ↦ elim (either (tree_held r o b) (data_held r o b) m) [ inl t ↦ in_trees t | inr e ↦ in_data e ]
    | inr m ↦ elim (either (dxd_has o.inode.acl b) (dxd_has o.inode.ea b) m) [ inl a ↦ in_dxd o.inode.acl (inl refl) a | inr a ↦ in_dxd o.inode.ea (inr refl) a ]
  ]

  -- and each block of a run is owned
  pub run_is_owned : (run : Pxd) → HasRun r o run → 0 < run_has run b → 0 < holds r (Some o) b
  unfolding holds
  run_is_owned run (of_trees h one) m =
      let t = in_run run b m in
      let low = t.0 in
      let high = t.1 in
      let is : run.addr ≡ b = omega (arith, one, low, high) in
      let held = subst (λ (k : ℕ). 0 < tree_held r o k) is h in
      omega (arith, held)
  run_is_owned run (of_data e among is) m =
      let c = covers_run b (entries (listed r.extents_order o.extents)) e among (subst (λ (p : Pxd). 0 < run_has p b) is m) in
      omega (arith, c)
  run_is_owned run (of_attributes d of bit is) m = by of
    where
      has : 0 < dxd_has d b
      has = run_dxd d b bit (subst (λ (p : Pxd). 0 < run_has p b) is m)

      by : (d ≡ o.inode.acl) ⊎ (d ≡ o.inode.ea) → 0 < tree_held r o b + data_held r o b + attributes_held o b
      by (inl e) = let h = subst (λ (x : Dxd). 0 < dxd_has x b) e has in omega (arith, h)
      by (inr e) = let h = subst (λ (x : Dxd). 0 < dxd_has x b) e has in omega (arith, h)

-- A run with a block behind so many has a first one there.
pub first_past : (blocks : ℕ) (run : Pxd) (b : ℕ) → blocks ≤ b → 0 < run_has run b → IsFirstPast blocks run (max blocks run.addr)
first_past blocks run b past h = let t = in_run run b h in let low = t.0 in let high = t.1 in (refl, omega (arith, past, low, high))

-- and that is a block of the run, behind so many
pub past_first : (blocks : ℕ) (run : Pxd) (b : ℕ) → IsFirstPast blocks run b → (blocks ≤ b) × (0 < run_has run b)
past_first blocks run b (is, high) = (omega (arith, is), run_in run b (omega (arith, is)) high)
