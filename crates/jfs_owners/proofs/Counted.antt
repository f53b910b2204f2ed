-- How often blocks were counted.
use Rattle.std.proofs.Common.{◌≡◌, ◌<◌, ◌+◌, ◌-◌, ℕ, Bool, true, false, ◌&&◌, ◌||◌, List, replicate, refl, sym, ap, ◌∙◌, arith, add_assoc}
use Rattle.std.specs.Prelude.{min, nat_le, nat_lt, ◌==◌, ◌≢◌, bit_and, if◌then◌else◌}
use Rattle.std.proofs.lemmas.Bool.{eq-eqb, ne_eqb}
use Rattle.std.proofs.lemmas.Bool.Decides.{nat_tests}
use Rattle.jfs_bits.specs.declared.descriptor.Pxd.{Pxd}
use Rattle.jfs_bits.specs.Bits.{is_taken}
use Rattle.jfs_iag.proofs.Maps.{zeros-clear}
use Rattle.jfs_bits.specs.declared.extent.Dxd.{Dxd}
use Rattle.jfs_tree.specs.Spells.{no_page}
use Rattle.jfs_owners.specs.Counts.{OwnerSets, Counts, Adds, page_has}
use Rattle.jfs_findings.specs.objects.specs.Owners.{run_has, dxd_has}

pub counts_none : (blocks : ℕ) (owned shared : List ℕ) (n : ℕ) → owned ≡ replicate n 0 → shared ≡ replicate n 0 → Counts (record { blocks = blocks; owned = owned; shared = shared }) (λ b. 0)
counts_none blocks owned shared n e f = record {
  owned = λ b h. rw e (zeros-clear n b);
  shared = λ b h. rw f (zeros-clear n b);
}

-- the same counts, otherwise said
pub counts_same : (o : OwnerSets) (f g : ℕ → ℕ) → ((b : ℕ) → f b ≡ g b) → Counts o f → Counts o g
counts_same o f g e c = record {
  owned = λ b h. c.owned b h ∙ ap (nat_lt 0) (e b);
  shared = λ b h. c.shared b h ∙ ap (nat_lt 1) (e b);
}

pub adds_none : (f : ℕ → ℕ) (a b : OwnerSets) → b ≡ a → ((n : ℕ) → f n ≡ 0) → Adds f a b
adds_none f a b e zero = record {
  blocks = rw e refl;
  counts = λ count c. rw e (counts_same a count (λ n. f n + count n) (λ n. (let z = zero n in omega (arith, z))) c);
}

pub adds_same : (f g : ℕ → ℕ) (a b : OwnerSets) → ((n : ℕ) → f n ≡ g n) → Adds f a b → Adds g a b
adds_same f g a b e h = record {
  blocks = h.blocks;
  counts = λ count c. counts_same b (λ n. f n + count n) (λ n. g n + count n) (λ n. ap (λ k. k + count n) (e n)) (h.counts count c);
}

-- one after the other
pub adds_both : (f g all : ℕ → ℕ) (a b c : OwnerSets) → Adds f a b → Adds g b c → ((n : ℕ) → g n + f n ≡ all n) → Adds all a c
adds_both f g all a b c h k e = record {
  blocks = k.blocks ∙ h.blocks;
  counts = λ count t. counts_same c (λ n. g n + (f n + count n)) (λ n. all n + count n) (λ n. sym (add_assoc (g n) (f n) (count n)) ∙ ap (λ m. m + count n) (e n)) (k.counts (λ n. f n + count n) (h.counts count t));
}

pub adds_next : (f g : ℕ → ℕ) (a b c : OwnerSets) → Adds f a b → Adds g b c → Adds (λ n. f n + g n) a c
adds_next f g a b c h k = adds_both f g (λ n. f n + g n) a b c h k (λ n. omega arith)

-- ---- a run

-- a block of the run, as far as there are blocks
in_run : (addr len blocks first end b : ℕ) → first ≡ min addr blocks → end ≡ first + min len (blocks - first) → b < blocks → (nat_le first b && nat_lt b end) ≡ (nat_le addr b && nat_lt b (addr + len))
in_run addr len blocks first end b e f h = grind (arith, nat_tests)

once : (t : Bool) (n : ℕ) → (t || nat_lt 0 n) ≡ nat_lt 0 ((if t then 1 else 0) + n)
once true n = grind (arith, nat_tests)
once false n = grind (arith, nat_tests)

twice : (t : Bool) (n : ℕ) → (t && nat_lt 0 n || nat_lt 1 n) ≡ nat_lt 1 ((if t then 1 else 0) + n)
twice true n = grind (arith, nat_tests)
twice false n = grind (arith, nat_tests)

pub adds_run : (old new : OwnerSets) (run : Pxd) (first end : ℕ) → new.blocks ≡ old.blocks → first ≡ min run.addr old.blocks → end ≡ first + min run.len (old.blocks - first)
    → ((b : ℕ) → is_taken new.owned b ≡ ((nat_le first b && nat_lt b end) || is_taken old.owned b))
    → ((b : ℕ) → is_taken new.shared b ≡ ((nat_le first b && nat_lt b end) && is_taken old.owned b || is_taken old.shared b))
    → Adds (run_has run) old new
adds_run old new run first end same e f owned shared = record {
  blocks = same;
  counts = λ count c. record {
    owned = λ b h.
        (let l : b < old.blocks = rw same at h in
        owned b ∙ rw (in_run run.addr run.len old.blocks first end b e f l, c.owned b l) (once (nat_le run.addr b && nat_lt b (run.addr + run.len)) (count b)));
    shared = λ b h.
        (let l : b < old.blocks = rw same at h in
        shared b ∙ rw (in_run run.addr run.len old.blocks first end b e f l, c.owned b l, c.shared b l) (twice (nat_le run.addr b && nat_lt b (run.addr + run.len)) (count b)));
  };
}

-- ---- a page

pub adds_page : (old new : OwnerSets) (n : ℕ) → n ≢ no_page → Adds (run_has (record { len = 1; addr = n })) old new → Adds (page_has n) old new
adds_page old new n h a = adds_same (run_has (record { len = 1; addr = n })) (page_has n) old new (λ b. one n b h) a
  where
    one : (n b : ℕ) → n ≢ no_page → ◌≡◌ {A = ℕ} (if nat_le n b && nat_lt b (n + 1) then 1 else 0) (if b == no_page then 0 else (if n == b then 1 else 0))
    one n b h = grind (arith, nat_tests)

pub adds_no_page : (o : OwnerSets) (n : ℕ) → n ≡ no_page → Adds (page_has n) o o
adds_no_page o n h = adds_none (page_has n) o o refl (λ b. none n b h)
  where
    none : (n b : ℕ) → n ≡ no_page → ◌≡◌ {A = ℕ} (if b == no_page then 0 else (if n == b then 1 else 0)) 0
    none n b h = grind (arith, nat_tests)

-- ---- attributes

pub adds_dxd : (old new : OwnerSets) (d : Dxd) → bit_and d.flag 0x20 ≡ 0x20 → Adds (run_has d.at) old new → Adds (dxd_has d) old new
adds_dxd old new d h a = adds_same (run_has d.at) (dxd_has d) old new (λ b. rw (eq-eqb (bit_and d.flag 0x20) 0x20 h) refl) a

pub adds_no_dxd : (o : OwnerSets) (d : Dxd) → bit_and d.flag 0x20 ≢ 0x20 → Adds (dxd_has d) o o
adds_no_dxd o d h = adds_none (dxd_has d) o o refl (λ b. rw (ne_eqb (bit_and d.flag 0x20) 0x20 h) refl)
