-- Two canonical pages with one number, of sets that agree on the blocks that the page tells of, hold the same bytes.
use Rattle.std.proofs.Common.{◌≡◌, ◌<◌, ◌+◌, ◌*◌, ◌/◌, ℕ, zero, suc, Bool, true, List, refl, sym, ap, subst, ◌∙◌, arith}
use Rattle.std.proofs.Math.Path.{fun_ext}
use Rattle.std.proofs.lemmas.Bool.{eq-eqb}
use Rattle.jfs_bits.specs.Bits.{greatest_run}
use Rattle.jfs_buddy.specs.Laws.{AreBytes}
use Rattle.jfs_buddy.specs.Tree.{rank_of}
use Rattle.jfs_dmap.specs.Dmap.{blocks_of}
use Rattle.jfs_dmap.proofs.Agreed.{pages-same}
use Rattle.jfs_dmapctl.specs.Control.{IsControl}
use Rattle.jfs_dmapctl.proofs.Same.{controls-same}
use Rattle.jfs_bmap.specs.MapFile.{tells_of, IsFirstPage, IsDmapPage}
use Rattle.jfs_bmap.specs.Pages.{leaf_ranks}
use Rattle.jfs_bmap.specs.Laws.{MapPagesAgree, OnlyTheirPagesChange, RootsMakeLevelZero}
use Rattle.jfs_bmap.proofs.FirstPages.{first-pages-same}
use Rattle.jfs_bmap.proofs.OnePage.{leaf_ranks-most}
use Rattle.jfs_bmap.proofs.Views.{control-same}

-- a dmap's blocks are its own
dmap-pages-same : (blocks : ℕ) (taken others : ℕ → Bool) (k : ℕ) (one other : List ℕ) → ((b : ℕ) → tells_of (suc (suc (suc (suc k)))) b ≡ true → taken b ≡ others b) → AreBytes one → AreBytes other → IsDmapPage blocks taken k one → IsDmapPage blocks others k other → one ≡ other
dmap-pages-same blocks taken others k one other same bytes more a b =
    pages-same one other bytes more a.dmap.canonical b.dmap.canonical (a.dmap.number ∙ sym b.dmap.number) (a.dmap.first ∙ sym b.dmap.first)
    (λ i h.
    let near : i < blocks_of one = h in
    let small : i < 8192 = omega (arith, a.dmap.number, near) in
    let within : 8192 * k + i < blocks = omega (arith, a.dmap.number, near) in
    a.set i within small ∙ same (8192 * k + i) (eq-eqb ((8192 * k + i) / 8192) k (omega arith)) ∙ sym (b.set i within small))

pub only-their-pages : OnlyTheirPagesChange
only-their-pages blocks agsize zero taken others one other same bytes more a b =
    first-pages-same blocks agsize taken one other bytes more a (subst (λ (t : ℕ → Bool). IsFirstPage blocks agsize t other) (sym (fun_ext (λ x. same x refl))) b)
only-their-pages blocks agsize (suc zero) taken others one other same bytes more a b = controls-same 2 (λ v. 0) one other bytes more a b
only-their-pages blocks agsize (suc (suc zero)) taken others one other same bytes more a b = controls-same 1 (λ v. 0) one other bytes more a b
only-their-pages blocks agsize (suc (suc (suc zero))) taken others one other same bytes more a b =
    controls-same 0 (leaf_ranks taken) one other bytes more a (subst (λ (t : ℕ → Bool). IsControl 0 (leaf_ranks t) other) (sym (fun_ext (λ x. same x refl))) b)
only-their-pages blocks agsize (suc (suc (suc (suc k)))) taken others one other same bytes more a b = dmap-pages-same blocks taken others k one other same bytes more a b

pub map-pages-same : MapPagesAgree
map-pages-same blocks agsize n taken others one other same bytes more a b = only-their-pages blocks agsize n taken others one other (λ x h. same x) bytes more a b

rank-same : (taken others : ℕ → Bool) (k : ℕ) → greatest_run (λ i. taken (8192 * k + i)) 13 13 ≡ greatest_run (λ i. others (8192 * k + i)) 13 13 → leaf_ranks others k ≡ leaf_ranks taken k
unfolding leaf_ranks
rank-same taken others k h = ap rank_of (sym h)

pub level-zero-same : RootsMakeLevelZero
level-zero-same taken others one other same bytes more a b =
    controls-same 0 (leaf_ranks taken) one other bytes more a (control-same 0 (leaf_ranks others) (leaf_ranks taken) other (λ v h. rank-same taken others v (same v h)) (leaf_ranks-most taken) b)
