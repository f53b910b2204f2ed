-- The bytes of a file, block by block.
use Rattle.std.proofs.Common.{◌≡◌, ◌⊎◌, ◌<◌, ◌≤◌, refl, sym, ap, ap₂, ◌∙◌, ℕ, zero, suc, ◌+◌, ◌-◌, ◌*◌, ◌/◌, ◌%◌, List, [], ◌∷◌, ◌++◌, length, take, drop, get_or, replicate, append_assoc, Option, Some, None, inl, inr, arith}
use Rattle.std.specs.Prelude.{min}
use Rattle.std.specs.Option.{option_map}
use Rattle.std.proofs.lemmas.Bool.{cases_lt}
use Rattle.std.proofs.lemmas.List.{get_or-take, get_or-drop, get_or-replicate}
use Rattle.jfs_bits.specs.Field.{range_of}
use Rattle.jfs_bits.specs.declared.extent.Xad.{Xad}
use Rattle.jfs_plain.specs.Step.{bytes_from}
use Rattle.jfs_way.specs.objects.specs.Contents.{block_of, bytes_at}
use Rattle.jfs_way.specs.meaning.specs.Contents.{byte_of}
use Rattle.jfs_readlink.specs.Target.{byte_at}

-- ---- one block

in_block : (pages : ℕ → List ℕ) (extents : List Xad) (j i : ℕ) → i < 4096 → byte_at pages extents (4096 * j + i) ≡ byte_of (bytes_at pages (block_of extents j)) i
in_block pages extents j i l =
    let block : (4096 * j + i) / 4096 ≡ j = omega (arith, l) in
    let place : (4096 * j + i) % 4096 ≡ i = omega (arith, l) in
    ap₂ (λ (k m : ℕ). byte_of (bytes_at pages (block_of extents k)) m) block place

whole_range : (page : List ℕ) (i : ℕ) → i < 4096 → get_or (range_of page 0 4096) i 0 ≡ get_or page i 0
unfolding range_of
whole_range page i l = get_or-take 4096 (drop 0 page) i 0 l ∙ get_or-drop 0 page i 0 ∙ ap (λ (k : ℕ). get_or page k 0) (let e : 0 + i ≡ i = omega arith in e)

pub some_block : (pages : ℕ → List ℕ) (extents : List Xad) (j : ℕ) (part : List ℕ) → Some part ≡ option_map (λ page. range_of page 0 4096) (bytes_at pages (block_of extents j))
    → (i : ℕ) → i < 4096 → get_or part i 0 ≡ byte_at pages extents (4096 * j + i)
some_block pages extents j part is i l = by (bytes_at pages (block_of extents j)) is ∙ sym (in_block pages extents j i l)
  where
    by : (x : Option (List ℕ)) → Some part ≡ option_map (λ page. range_of page 0 4096) x → get_or part i 0 ≡ byte_of x i
    by None e = absurd (cc (e))
    by (Some page) e = let same : part ≡ range_of page 0 4096 = cc (e) in rw same (whole_range page i l)

pub no_block : (pages : ℕ → List ℕ) (extents : List Xad) (j : ℕ) → None ≡ option_map (λ page. range_of page 0 4096) (bytes_at pages (block_of extents j))
    → (i : ℕ) → i < 4096 → get_or (replicate 4096 0) i 0 ≡ byte_at pages extents (4096 * j + i)
no_block pages extents j is i l = get_or-replicate 4096 i 0 0 l ∙ by (bytes_at pages (block_of extents j)) is ∙ sym (in_block pages extents j i l)
  where
    by : (x : Option (List ℕ)) → None ≡ option_map (λ page. range_of page 0 4096) x → 0 ≡ byte_of x i
    by None e = refl
    by (Some page) e = absurd (cc (e))

-- ---- the front of a block

pub front_bytes : (f : ℕ → ℕ) (at n : ℕ) (part : List ℕ) → n ≤ length part → ((i : ℕ) → i < n → get_or part i 0 ≡ f (at + i)) → take n part ≡ bytes_from f at n
unfolding bytes_from
front_bytes f at zero part l h = refl
front_bytes f at (suc n) [] l h = absurd (omega (arith, l))
front_bytes f at (suc n) (x ∷ xs) l h =
    ap₂ (λ (b : ℕ) (bs : List ℕ). b ∷ bs) (h 0 (omega arith) ∙ ap f (let e : at + 0 ≡ at = omega arith in e))
    (front_bytes f (suc at) n xs (omega (arith, l)) (λ i k. h (suc i) (omega (arith, k)) ∙ ap f (let e : at + suc i ≡ suc at + i = omega arith in e)))

-- ---- block by block

bytes_both : (f : ℕ → ℕ) (at n m : ℕ) → bytes_from f at (n + m) ≡ bytes_from f at n ++ bytes_from f (at + n) m
unfolding bytes_from
bytes_both f at zero m = let e : zero + m ≡ m = omega arith in let z : at + zero ≡ at = omega arith in rw (e, z) refl
bytes_both f at (suc n) m = let e : suc n + m ≡ suc (n + m) = omega arith in let z : at + suc n ≡ suc at + n = omega arith in rw (e, z) (ap (λ (bs : List ℕ). f at ∷ bs) (bytes_both f (suc at) n m))

no_bytes : (f : ℕ → ℕ) (at k m : ℕ) → m ≡ 0 → bytes_from f at m ≡ bytes_from f k m
unfolding bytes_from
no_bytes f at k m e = rw e refl

-- a block more
pub more_blocks : (f : ℕ → ℕ) (bs : List ℕ) (j count n : ℕ) → 4096 * j < count → n ≡ min (count - 4096 * j) 4096
    → (bs ++ bytes_from f (4096 * j) n) ++ bytes_from f (4096 * (j + 1)) (count - 4096 * (j + 1)) ≡ bs ++ bytes_from f (4096 * j) (count - 4096 * j)
more_blocks f bs j count n l is = append_assoc bs (bytes_from f (4096 * j) n) (bytes_from f (4096 * (j + 1)) (count - 4096 * (j + 1)))
    ∙ ap (λ (xs : List ℕ). bs ++ xs) (ap (λ (xs : List ℕ). bytes_from f (4096 * j) n ++ xs) (by (cases_lt (count - 4096 * j) 4096)) ∙ sym (bytes_both f (4096 * j) n (count - 4096 * (j + 1))) ∙ ap (bytes_from f (4096 * j)) sum)
  where
    sum : n + (count - 4096 * (j + 1)) ≡ count - 4096 * j
    sum = omega (arith, l, is)

    by : (count - 4096 * j < 4096) ⊎ (4096 ≤ count - 4096 * j) → bytes_from f (4096 * (j + 1)) (count - 4096 * (j + 1)) ≡ bytes_from f (4096 * j + n) (count - 4096 * (j + 1))
    by (inl k) = no_bytes f (4096 * (j + 1)) (4096 * j + n) (count - 4096 * (j + 1)) (omega (arith, k))
    by (inr k) = ap (λ (at : ℕ). bytes_from f at (count - 4096 * (j + 1))) (omega (arith, is, k))
