-- Runs that stand one after the other, from the front on.
use Rattle.std.proofs.Common.{◌≡◌, ◌<◌, ◌≤◌, ◌+◌, ◌-◌, ◌*◌, ℕ, zero, suc, Bool, true, List, [], ◌∷◌, ◌++◌, length, refl, sym, ap, ◌∙◌, append_assoc, arith}
use Rattle.std.specs.Prelude.{◌&&◌}
use Rattle.std.specs.List.{list_all}
use Rattle.jfs_bits.specs.declared.descriptor.Pxd.{Pxd}
use Rattle.jfs_bits.specs.Descriptor.{pxd_of}
use Rattle.jfs_logfmt.specs.Text.{runs_of}

runs_more : (body : List ℕ) (i count : ℕ) → i < count → runs_of body (8 * i) (count - i) ≡ pxd_of body (8 * i) ∷ runs_of body (8 * (i + 1)) (count - (i + 1))
runs_more body i count h =
    let left : count - i ≡ suc (count - (i + 1)) = omega arith in
    let place : 8 * i + 8 ≡ 8 * (i + 1) = omega arith in
    ap (λ (n : ℕ). runs_of body (8 * i) n) left ∙ ap (λ (p : ℕ). pxd_of body (8 * i) ∷ runs_of body p (count - (i + 1))) place

pub runs_start : (body : List ℕ) (count : ℕ) → runs_of body (8 * 0) (count - 0) ≡ runs_of body 0 count
runs_start body count = let e : count - 0 ≡ count = omega arith in rw e refl

pub runs_end : (body : List ℕ) (i count : ℕ) → count ≤ i → runs_of body (8 * i) (count - i) ≡ []
runs_end body i count h = let e : count - i ≡ 0 = omega arith in rw e refl

pub length-runs_of : (body : List ℕ) (at n : ℕ) → length (runs_of body at n) ≡ n
length-runs_of body at zero = refl
length-runs_of body at (suc n) = ap (λ (k : ℕ). suc k) (length-runs_of body (at + 8) n)

pub runs_found : (body : List ℕ) (count : ℕ) (list : List Pxd) → list ≡ runs_of body 0 count → (count ≡ length list) × (runs_of body 0 (length list) ≡ list)
runs_found body count list e =
    let n : count ≡ length list = sym (ap (λ (l : List Pxd). length l) e ∙ length-runs_of body 0 count) in
    (n, ap (λ (k : ℕ). runs_of body 0 k) (sym n) ∙ sym e)

pub inside_more : (inside : Pxd → Bool) (body : List ℕ) (i count : ℕ) (all : Bool) → i < count → true ≡ inside (pxd_of body (8 * i)) → list_all inside (runs_of body (8 * i) (count - i)) ≡ all → list_all inside (runs_of body (8 * (i + 1)) (count - (i + 1))) ≡ all
inside_more inside body i count all h here e =
    sym (ap (λ (l : List Pxd). list_all inside l) (runs_more body i count h) ∙ ap (λ (b : Bool). b && list_all inside (runs_of body (8 * (i + 1)) (count - (i + 1)))) (sym here)) ∙ e

pub runs_added : (known now : List Pxd) (p : Pxd) (body : List ℕ) (i count : ℕ) (all : List Pxd) → i < count → now ≡ known ++ p ∷ [] → p ≡ pxd_of body (8 * i) → known ++ runs_of body (8 * i) (count - i) ≡ all → now ++ runs_of body (8 * (i + 1)) (count - (i + 1)) ≡ all
runs_added known now p body i count all h e here k =
    let rest = runs_of body (8 * (i + 1)) (count - (i + 1)) in
    ap (λ (l : List Pxd). l ++ rest) (e ∙ ap (λ (q : Pxd). known ++ q ∷ []) here)
    ∙ append_assoc known (pxd_of body (8 * i) ∷ []) rest
    ∙ ap (λ (l : List Pxd). known ++ l) (sym (runs_more body i count h))
    ∙ k
