-- The first block of a run of attributes behind the volume's.
use Rattle.std.proofs.Common.{◌≡◌, refl, sym, ap, subst, ◌∙◌, ℕ, ◌+◌, ◌-◌, ◌^◌, ◌<◌, ◌≤◌, Bool, true, false, ◌==◌, nat_lt, if◌then◌else◌, List, min, max, arith}
use Rattle.std.specs.Int.RustNames.{bit_and}
use Rattle.std.proofs.lemmas.Bool.{ltb-true, lt-ltb, eqb-true, eq-eqb}
use Rattle.jfs_bits.specs.declared.extent.Dxd.{Dxd}
use Rattle.jfs_bits.specs.Extent.{FitsDxd}
use Rattle.jfs_owners.specs.findings.specs.Inodes.{attribute_blocks}
use Rattle.jfs_owners.specs.findings.specs.Blocks.{IsFirstPast}
use Rattle.jfs_owners.specs.findings.specs.Gains.{Gains}
use Rattle.jfs_owners.specs.findings.specs.declared.finding.Finding.{Finding}
use Rattle.jfs_owners.specs.findings.specs.declared.finding.FindingKind.TheVariants as kinds
use Rattle.jfs_object_check.specs.Steps.{IsBehind, Only}
use Rattle.jfs_object_check.proofs.Found.{gains_as}

-- a block of the run that a descriptor names
run_named : (d : Dxd) (b : ℕ) → d.at.addr ≤ b → b < d.at.addr + attribute_blocks d → (bit_and d.flag 0x20 ≡ 0x20) × (b < d.at.addr + d.at.len)
run_named d b low = by (bit_and d.flag 0x20 == 0x20) refl
  where
    by : (x : Bool) → (bit_and d.flag 0x20 == 0x20) ≡ x → b < d.at.addr + (if x then d.at.len else 0) → (bit_and d.flag 0x20 ≡ 0x20) × (b < d.at.addr + d.at.len)
    by true e h = (eqb-true (bit_and d.flag 0x20) 0x20 e, h)
    by false e h = absurd (omega (arith, low, h))

named_blocks : (d : Dxd) → bit_and d.flag 0x20 ≡ 0x20 → attribute_blocks d ≡ d.at.len
named_blocks d e = ap (λ (x : Bool). if x then d.at.len else 0) (eq-eqb (bit_and d.flag 0x20) 0x20 e)

fits_blocks : (d : Dxd) → FitsDxd d → d.at.addr + attribute_blocks d ≤ 2 ^ 64 - 1
fits_blocks d fits = by (bit_and d.flag 0x20 == 0x20)
  where
    by : (x : Bool) → d.at.addr + (if x then d.at.len else 0) ≤ 2 ^ 64 - 1
    by true = let a = fits.run in omega (arith, a.len, a.addr)
    by false = let a = fits.run in omega (arith, a.addr)

pub behind_found : (blocks at : ℕ) (d : Dxd) (first end : ℕ) (old new : List Finding) → first ≡ max d.at.addr blocks → end ≡ min (d.at.addr + attribute_blocks d) (2 ^ 64 - 1) → FitsDxd d
    → Gains (Only kinds.Outside at first (nat_lt first end ≡ true)) old new → Gains (IsBehind blocks at d) old new
behind_found blocks at d first end old new is ends fits = gains_as to from
  where
    fit : d.at.addr + attribute_blocks d ≤ 2 ^ 64 - 1
    fit = fits_blocks d fits

    to : (f : Finding) → Only kinds.Outside at first (nat_lt first end ≡ true) f → IsBehind blocks at d f
    to f h =
        let v = h.2 in
        let l = ltb-true first end h.3 in
        let t = run_named d f.value (omega (arith, is, v)) (omega (arith, v, l, ends, fit)) in
        (h.0, h.1, t.0, (omega (arith, is, v), t.1))

    from : (f : Finding) → IsBehind blocks at d f → Only kinds.Outside at first (nat_lt first end ≡ true) f
    from f h =
        let v = h.3.0 in
        let l = h.3.1 in
        let n = named_blocks d h.2 in
        (h.0, h.1, omega (arith, is, v), lt-ltb first end (omega (arith, is, v, l, n, ends, fit)))
