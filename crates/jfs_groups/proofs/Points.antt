-- Lists of syncpoints with marks behind them.
use Rattle.std.proofs.Common.{◌≡◌, ℕ, suc, ◌⊎◌, Bool, true, false, if◌then◌else◌, List, [], ◌∷◌, ◌++◌, refl, sym, ap, ◌∙◌, append_assoc, append-nil, inl, inr, arith}
use Rattle.jfs_groups.specs.Points.{halt_mark, is_mark, syncs, IsMarked}

no_syncs : (ps qs : List ℕ) → syncs ps ≡ 0 → syncs qs ≡ 0 → syncs (ps ++ qs) ≡ 0
no_syncs [] qs none more = more
no_syncs (p ∷ ps) qs none more = by (is_mark p) (λ e. no_syncs ps qs e more) none
  where
    by : (b : Bool) → (syncs ps ≡ 0 → syncs (ps ++ qs) ≡ 0) → (if b then syncs ps else suc (syncs ps)) ≡ 0 → (if b then syncs (ps ++ qs) else suc (syncs (ps ++ qs))) ≡ 0
    by true rest e = rest e
    by false rest e = absurd (let k : ⊥ = omega (arith, e) in k)

pub marked_on : (ps qs rs : List ℕ) → IsMarked ps qs → IsMarked qs rs → IsMarked ps rs
marked_on ps qs rs a b = (a.0 ++ b.0, sym (append_assoc ps a.0 b.0) ∙ ap (λ (l : List ℕ). l ++ b.0) a.1 ∙ b.1, no_syncs a.0 b.0 a.2 b.2)

-- what a volume makes of its syncpoints that halts
pub marked_all : (points later : List ℕ) → (later ≡ points) ⊎ (later ≡ points ++ halt_mark ∷ []) → IsMarked points later
marked_all points later (inl same) = ([], append-nil points ∙ sym same, refl)
marked_all points later (inr more) = (halt_mark ∷ [], sym more, refl)
