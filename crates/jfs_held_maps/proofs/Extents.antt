-- The descriptor of an inode extent, on the page of its inode allocation group.
use Rattle.std.proofs.Common.{◌≡◌, ◌⊎◌, ◌<◌, ◌≤◌, ◌+◌, ◌*◌, ◌/◌, ◌%◌, ◌&&◌, ◌||◌, ◌==◌, not, nat_lt, nat_le, ℕ, suc, Bool, true, false, if◌then◌else◌, sym, ap, ◌∙◌, inl, inr}
use Rattle.std.proofs.lemmas.Bool.{cases_Bool, cond-true, lt-ltb, eqb-true, le-leb, and_parts}
use Rattle.jfs_bits.specs.Descriptor.{pxd_of}
use Rattle.jfs_bits.specs.declared.descriptor.Pxd.{Pxd}
use Rattle.jfs_iag.specs.Iag.{no_run}
use Rattle.jfs_iag.specs.Canonical.{is_there}
use Rattle.jfs_steps.specs.After.{four_from}
use Rattle.jfs_left_maps.specs.Items.{IsExtent}
use Rattle.jfs_mounted_places.specs.held.specs.survival.specs.face.specs.Items.{places, extent_by, no_extent}
use Rattle.jfs_mounted_places.specs.held.specs.survival.specs.face.specs.Places.{Places}
use Rattle.jfs_mounted_places.specs.held.specs.survival.specs.face.specs.Volume.{items_on}
use Rattle.jfs_mounted_places.specs.held.specs.survival.specs.recovery.specs.Face.{Pages}

-- where it stands
pub extent_read : (pl : Places) (s : Pages) (e : ℕ) → e < places pl → extent_by (items_on pl s) e ≡ pxd_of (s (pl.inode_map (suc (e / 128)))) (3072 + 8 * (e % 128))
extent_read pl s e low =
    let t = lt-ltb e (places pl) low in
    cond-true (nat_lt e (places pl)) (pxd_of (s (if nat_lt e (places pl) then pl.inode_map (suc (e / 128)) else no_extent pl)) (3072 + 8 * (e % 128))) no_run t
    ∙ ap (λ (p : ℕ). pxd_of (s p) (3072 + 8 * (e % 128))) (cond-true (nat_lt e (places pl)) (pl.inode_map (suc (e / 128))) (no_extent pl) t)

-- what a mount asks of one
abbrev pub fits : ℕ → Pxd → Bool
fits blocks p = not (is_there p) || (p.len == 4 && nat_le (p.addr + 4) blocks)

pub extent_fits : (blocks : ℕ) (p : Pxd) → fits blocks p ≡ true → IsExtent p
extent_fits blocks p h = by (cases_Bool (p.len == 0 && p.addr == 0))
  where
    by : ((p.len == 0 && p.addr == 0) ≡ true) ⊎ ((p.len == 0 && p.addr == 0) ≡ false) → IsExtent p
    by (inl none) =
        let zeros = and_parts (p.len == 0) (p.addr == 0) none in
        inl (ap (λ (n : ℕ). let x : Pxd = record { len = n; addr = p.addr } in x) (eqb-true p.len 0 zeros.0) ∙ ap (λ (n : ℕ). let x : Pxd = record { len = 0; addr = n } in x) (eqb-true p.addr 0 zeros.1))
    by (inr some) =
        let both : (p.len == 4 && nat_le (p.addr + 4) blocks) ≡ true = sym (ap (λ (t : Bool). not (not t) || (p.len == 4 && nat_le (p.addr + 4) blocks)) some) ∙ h in
        inr (ap (λ (n : ℕ). let x : Pxd = record { len = n; addr = p.addr } in x) (eqb-true p.len 4 (and_parts (p.len == 4) (nat_le (p.addr + 4) blocks) both).0))

-- one of four blocks within the volume
pub four_fits : (blocks first : ℕ) → first + 4 ≤ blocks → fits blocks (four_from first) ≡ true
four_fits blocks first within = le-leb (first + 4) blocks within
