-- Contents of objects whose pages stay.
use Rattle.std.proofs.Common.{◌≡◌, ◌<◌, refl, ap, subst, ℕ, ◌+◌, ◌-◌, Bool, true, false, ◌&&◌, ◌==◌, nat_lt, nat_le, if◌then◌else◌, List, [], ◌∷◌, Option, Some, None, arith}
use Rattle.std.specs.Int.RustNames.{bit_and}
use Rattle.std.proofs.lemmas.Bool.Decides.{nat_tests}
use Rattle.jfs_bits.specs.declared.extent.Xad.{Xad}
use Rattle.jfs_objects.specs.Readers.{Readers}
use Rattle.jfs_objects.specs.Objects.{Object, listed}
use Rattle.jfs_objects.specs.Owners.{holds, covers, entries, run_has}
use Rattle.jfs_objects.specs.Contents.{block_in, block_of, bytes_at, contents_of}

-- an extent has the block of each of its places
place : (at len offset k : ℕ) → (nat_le offset k && nat_lt k (offset + len)) ≡ true → (nat_le at (at + (k - offset)) && nat_lt (at + (k - offset)) (at + len)) ≡ true
place at len offset k h = grind (arith, nat_tests)

in_run : (e : Xad) (k b : ℕ) → (nat_le e.offset k && nat_lt k (e.offset + e.at.len)) ≡ true → block_in e k ≡ Some b → 0 < run_has e.at b
in_run e k b t h = by_flag (bit_and e.flag 0x08 == 0x08) h
  where
    by_flag : (x : Bool) → (if x then None else Some (e.at.addr + (k - e.offset))) ≡ Some b → 0 < run_has e.at b
    by_flag true h = absurd (cc (h))
    by_flag false h = let s : e.at.addr + (k - e.offset) ≡ b = cc (h) in subst (λ c. 0 < run_has e.at c) s (rw (place e.at.addr e.at.len e.offset k t) (omega arith))

-- the block that holds a place is an extent's
pub covered : (es : List Xad) (k b : ℕ) → block_of es k ≡ Some b → 0 < covers b es
covered [] k b h = absurd (cc (h))
covered (e ∷ es) k b h = by_case (nat_le e.offset k && nat_lt k (e.offset + e.at.len)) refl h (covered es k b)
  where
    by_case : (x : Bool) → (nat_le e.offset k && nat_lt k (e.offset + e.at.len)) ≡ x → (if x then block_in e k else block_of es k) ≡ Some b → (block_of es k ≡ Some b → 0 < covers b es)
        → 0 < run_has e.at b + covers b es
    by_case true t h f = let p = in_run e k b t h in omega (arith, p)
    by_case false t h f = let p = f h in omega (arith, p)

pub same_contents : (r : Readers) (old new : ℕ → List ℕ) (o : Option Object) (k : ℕ) → ((b : ℕ) → 0 < holds r o b → new b ≡ old b) → contents_of r new o k ≡ contents_of r old o k
unfolding holds
same_contents r old new None k h = refl
same_contents r old new (Some o) k h = by_case (block_of (entries (listed r.extents_order o.extents)) k) refl
  where
    by_case : (x : Option ℕ) → block_of (entries (listed r.extents_order o.extents)) k ≡ x → bytes_at new x ≡ bytes_at old x
    by_case None e = refl
    by_case (Some b) e = ap Some (h b (let c = covered (entries (listed r.extents_order o.extents)) k b e in omega (arith, c)))
