-- One leaf's own rank changes: the runs that have it are split or joined, all others stay.
use Rattle.std.proofs.Common.{◌≡◌, ◌≢◌, ◌<◌, ◌≤◌, ◌+◌, ◌/◌, ◌^◌, ℕ, suc, true, false, ◌⊎◌, inl, inr, refl, sym, ap, ◌∙◌, arith}
use Rattle.std.specs.Prelude.{◌==◌, if◌then◌else◌}
use Rattle.std.proofs.lemmas.Bool.{cases_eq, cases_lt, cases_Bool, false_from_ne_true, true≢false}
use Rattle.std.proofs.lemmas.Nat.{pow_pos, shr_split, div_below, mod_below}
use Rattle.jfs_buddy.specs.Buddy.{start_of, is_whole, joined, with_own, Level, HalvesPut, HalvesShow}
use Rattle.jfs_buddy.proofs.Ranks.{replaced, kept}
use Rattle.jfs_buddy.proofs.Joins.{shown, shown-first, same-coarser, start_of-start, is_whole-at, is_whole-from, not_whole, not_whole-coarser, is_whole-same, joined-level, joined-own, joined-agree, level-shown}
use Rattle.jfs_buddy.proofs.Halves.{left_of, right_of, half-cases, left-first, right-first, puts-outside, halves-join, halves-split}

-- the own ranks differ at `w` alone
pub with_own-same : (own : ℕ → ℕ) (w rank v : ℕ) → w ≡ v → with_own own w rank v ≡ rank
with_own-same own w rank v e = replaced w v rank (own v) (with_own own w rank v) refl e

pub with_own-other : (own : ℕ → ℕ) (w rank v : ℕ) → w ≢ v → with_own own w rank v ≡ own v
with_own-other own w rank v n = kept w v rank (own v) (with_own own w rank v) refl n

-- a run without `w` is as whole as it was
pub run-stays : (own : ℕ → ℕ) (whole w rank k v : ℕ) → v / 2 ^ k ≢ w / 2 ^ k → is_whole own whole k v ≡ is_whole (with_own own w rank) whole k v
run-stays own whole w rank k v out =
    elim (cases_Bool (is_whole own whole k v)) [
      | inl t ↦ t ∙ sym (is_whole-from (with_own own w rank) whole k v (λ u e. with_own-other own w rank u (apart u e) ∙ is_whole-at own whole k v t u e))
      | inr f ↦ f ∙ sym (false_from_ne_true (is_whole (with_own own w rank) whole k v) (λ t.
          true≢false (sym (is_whole-from own whole k v (λ u e. sym (with_own-other own w rank u (apart u e)) ∙ is_whole-at (with_own own w rank) whole k v t u e)) ∙ f)))
    ]
  where
    apart : (u : ℕ) → u / 2 ^ k ≡ v / 2 ^ k → w ≢ u
    apart u e = λ s. out (sym e ∙ ap (λ (z : ℕ). z / 2 ^ k) (sym s))

-- outside a run beyond which no run of `w` is whole, before or after, nothing changes
pub outside-stays : (own : ℕ → ℕ) (whole w rank k top v : ℕ) → (k < top → is_whole own whole (suc k) w ≡ false) → (k < top → is_whole (with_own own w rank) whole (suc k) w ≡ false) → v / 2 ^ k ≢ w / 2 ^ k → joined own whole top v ≡ joined (with_own own w rank) whole top v
outside-stays own whole w rank k top v before after out =
    joined-agree own (with_own own w rank) whole top v (λ j h. run j h (cases_eq (v / 2 ^ j) (w / 2 ^ j))) (sym (with_own-other own w rank v (λ e. out (ap (λ (z : ℕ). z / 2 ^ k) (sym e)))))
  where
    run : (j : ℕ) → j ≤ top → (v / 2 ^ j ≡ w / 2 ^ j) ⊎ (v / 2 ^ j ≡ w / 2 ^ j → ⊥) → is_whole own whole j v ≡ is_whole (with_own own w rank) whole j v
    run j h (inr n) = run-stays own whole w rank j v n
    run j h (inl e) =
        elim (cases_lt k j) [
          | inr a ↦ absurd (out (same-coarser j k v w a e))
          | inl b ↦
              is_whole-same own whole j v w e ∙ not_whole-coarser own whole (suc k) j w (omega arith) (before (omega arith))
              ∙ sym (is_whole-same (with_own own w rank) whole j v w e ∙ not_whole-coarser (with_own own w rank) whole (suc k) j w (omega arith) (after (omega arith)))
        ]

-- in the course of a change: the run of 2 ^ k leaves that has `w` shows itself as whole, and all else is as `rest` says
pub record Course (leaves whole w k : ℕ) (rest ranks : ℕ → ℕ) : Type 0 where
  pub inside : (v : ℕ) → v / 2 ^ k ≡ w / 2 ^ k → ranks v ≡ shown k v (whole + k)
  pub outside : (v : ℕ) → v < leaves → v / 2 ^ k ≢ w / 2 ^ k → ranks v ≡ rest v

-- the course of a split begins at the level of `w`
pub split-starts : (own ranks : ℕ → ℕ) (leaves whole w rank top k : ℕ) → own w ≡ whole → rank ≢ whole → Level own whole top w k → ((v : ℕ) → v < leaves → ranks v ≡ joined own whole top v) → ((v : ℕ) → v / 2 ^ k ≡ w / 2 ^ k → v < leaves) → Course leaves whole w k (joined (with_own own w rank) whole top) ranks
split-starts own ranks leaves whole w rank top k full other l h within = record {
  inside = λ v e. h v (within v e) ∙ joined-level own whole k top v l.most (is_whole-same own whole k v w e ∙ l.run) (λ b. is_whole-same own whole (suc k) v w (same-coarser k (suc k) v w (omega arith) e) ∙ l.greatest b);
  outside = λ v b out. h v b ∙ outside-stays own whole w rank k top v l.greatest (λ b. not_whole (with_own own w rank) whole (suc k) w w refl (λ e. other (sym (with_own-same own w rank w refl) ∙ e))) out;
}

-- and goes on with the halves
pub split-goes_on : (own old new : ℕ → ℕ) (leaves whole w rank top k : ℕ) → suc k ≤ top → rank ≢ whole → is_whole own whole (suc k) w ≡ true → Course leaves whole w (suc k) (joined (with_own own w rank) whole top) old → HalvesPut k w (whole + k) (whole + k) old new → Course leaves whole w k (joined (with_own own w rank) whole top) new
split-goes_on own old new leaves whole w rank top k most other run c puts = record {
  inside = λ v e. split v (same-coarser k (suc k) v w (omega arith) e);
  outside = λ v b out. elim (cases_eq (v / 2 ^ suc k) (w / 2 ^ suc k)) [
    | inr n ↦ puts-outside k w (whole + k) (whole + k) old new puts v n ∙ c.outside v b n
    | inl e ↦ split v e ∙ sym (joined-level (with_own own w rank) whole k top v (omega arith)
        (sym (run-stays own whole w rank k v out) ∙ is_whole-from own whole k v (λ u h. is_whole-at own whole (suc k) w run u (same-coarser k (suc k) u v (omega arith) h ∙ e)))
        (λ b. not_whole (with_own own w rank) whole (suc k) v w (sym e) (λ h. other (sym (with_own-same own w rank w refl) ∙ h))))
  ];
}
  where
    split : (v : ℕ) → v / 2 ^ suc k ≡ w / 2 ^ suc k → new v ≡ shown k v (whole + k)
    split = halves-split k w whole old new puts c.inside

-- until `w` stands alone
pub split-ends : (own old new : ℕ → ℕ) (leaves whole w rank top : ℕ) → rank ≢ whole → Course leaves whole w 0 (joined (with_own own w rank) whole top) old → ((v : ℕ) → new v ≡ (if w == v then rank else old v)) → (v : ℕ) → v < leaves → new v ≡ joined (with_own own w rank) whole top v
split-ends own old new leaves whole w rank top other c h v b =
    elim (cases_eq w v) [
      | inl e ↦ replaced w v rank (old v) (new v) (h v) e ∙ sym (with_own-same own w rank v e) ∙ sym (joined-own (with_own own w rank) whole top v (λ f. other (sym (with_own-same own w rank v e) ∙ f)))
      | inr n ↦ kept w v rank (old v) (new v) (h v) n ∙ c.outside v b (λ e. n (omega arith))
    ]

-- a leaf that was not wholly free and still isn't
pub plain-change : (own old new : ℕ → ℕ) (leaves whole w rank top : ℕ) → own w ≢ whole → rank ≢ whole → ((v : ℕ) → v < leaves → old v ≡ joined own whole top v) → ((v : ℕ) → new v ≡ (if w == v then rank else old v)) → (v : ℕ) → v < leaves → new v ≡ joined (with_own own w rank) whole top v
plain-change own old new leaves whole w rank top before other h put v b =
    elim (cases_eq w v) [
      | inl e ↦ replaced w v rank (old v) (new v) (put v) e ∙ sym (with_own-same own w rank v e) ∙ sym (joined-own (with_own own w rank) whole top v (λ f. other (sym (with_own-same own w rank v e) ∙ f)))
      | inr n ↦ kept w v rank (old v) (new v) (put v) n ∙ h v b ∙ outside-stays own whole w rank 0 top v
          (λ b. not_whole own whole 1 w w refl before)
          (λ b. not_whole (with_own own w rank) whole 1 w w refl (λ e. other (sym (with_own-same own w rank w refl) ∙ e)))
          (λ e. n (omega arith))
    ]

-- the course of a join begins at `w` alone
pub join-starts : (own old new : ℕ → ℕ) (leaves whole w top : ℕ) → ((v : ℕ) → v < leaves → old v ≡ joined own whole top v) → ((v : ℕ) → new v ≡ (if w == v then whole else old v)) → Course leaves whole w 0 (joined own whole top) new
join-starts own old new leaves whole w top h put = record {
  inside = λ v e. (let same : w ≡ v = omega arith in let one : start_of 0 v ≡ v = omega arith in replaced w v whole (old v) (new v) (put v) same ∙ sym (shown-first 0 v (whole + 0) one ∙ (omega arith)));
  outside = λ v b out. kept w v whole (old v) (new v) (put v) (λ e. out (ap (λ (z : ℕ). z / 2 ^ 0) (sym e))) ∙ h v b;
}

-- a run within the leaves
pub run-within : (k top v w : ℕ) → k ≤ top → w < 2 ^ top → v / 2 ^ k ≡ w / 2 ^ k → v < 2 ^ top
run-within k top v w h b e =
    let none : w / 2 ^ top < 1 = div_below w (2 ^ top) 1 (pow_pos top) (omega arith) in
    let same = same-coarser k top v w h e in
    let zero_ : v / 2 ^ top ≡ 0 = omega arith in
    omega (arith, rw zero_ at (shr_split v top), mod_below v (2 ^ top) (pow_pos top))

-- the half that `w` isn't in is whole where it shows itself so
other_half : (own old : ℕ → ℕ) (leaves whole w top k v : ℕ) → 0 < whole → ((u : ℕ) → own u ≤ whole) → Course leaves whole w k (joined own whole top) old → HalvesShow k w (whole + k) old → ((u : ℕ) → u / 2 ^ suc k ≡ w / 2 ^ suc k → u < leaves) → v / 2 ^ suc k ≡ w / 2 ^ suc k → v / 2 ^ k ≢ w / 2 ^ k → is_whole own whole k v ≡ true
other_half own old leaves whole w top k v some bounded c both within e out =
    let begin = start_of k v in
    let same = (start_of-start k v).0 in
    let there : old begin ≡ whole + k = elim (half-cases k v w e) [ inl a ↦ rw a both.0 | inr b ↦ rw b both.1 ] in
    let is = sym (c.outside begin (within begin (same-coarser k (suc k) begin v (omega arith) same ∙ e)) (λ h. out (sym same ∙ h))) ∙ there in
    sym (is_whole-same own whole k begin v same) ∙ (level-shown own whole top k begin some bounded is).1.run

-- both halves are whole: they become one run
pub join-goes_on : (own old new : ℕ → ℕ) (leaves whole w top k : ℕ) → suc k ≤ top → 0 < whole → ((u : ℕ) → own u ≤ whole) → own w ≢ whole → is_whole (with_own own w whole) whole k w ≡ true → Course leaves whole w k (joined own whole top) old → HalvesShow k w (whole + k) old → ((u : ℕ) → u / 2 ^ suc k ≡ w / 2 ^ suc k → u < leaves) → HalvesPut k w (whole + suc k) 0 old new → Course leaves whole w (suc k) (joined own whole top) new × is_whole (with_own own w whole) whole (suc k) w ≡ true
join-goes_on own old new leaves whole w top k most some bounded before run c both within puts = (
  record {
    inside = halves-join k w whole old new puts (λ v e. shows v e (cases_eq (v / 2 ^ k) (w / 2 ^ k)));
    outside = λ v b out. puts-outside k w (whole + suc k) 0 old new puts v out ∙ c.outside v b (λ e. out (same-coarser k (suc k) v w (omega arith) e));
  },
  is_whole-from (with_own own w whole) whole (suc k) w (λ u e. full u e (cases_eq (u / 2 ^ k) (w / 2 ^ k))),
)
  where
    shows : (v : ℕ) → v / 2 ^ suc k ≡ w / 2 ^ suc k → (v / 2 ^ k ≡ w / 2 ^ k) ⊎ (v / 2 ^ k ≡ w / 2 ^ k → ⊥) → old v ≡ shown k v (whole + k)
    shows v e (inl h) = c.inside v h
    shows v e (inr n) =
        c.outside v (within v e) n
        ∙ joined-level own whole k top v (omega arith) (other_half own old leaves whole w top k v some bounded c both within e n) (λ b. not_whole own whole (suc k) v w (sym e) before)

    full : (u : ℕ) → u / 2 ^ suc k ≡ w / 2 ^ suc k → (u / 2 ^ k ≡ w / 2 ^ k) ⊎ (u / 2 ^ k ≡ w / 2 ^ k → ⊥) → with_own own w whole u ≡ whole
    full u e (inl h) = is_whole-at (with_own own w whole) whole k w run u h
    full u e (inr n) = with_own-other own w whole u (λ s. n (ap (λ (z : ℕ). z / 2 ^ k) (sym s))) ∙ is_whole-at own whole k u (other_half own old leaves whole w top k u some bounded c both within e n) u refl

-- a half of a whole run shows itself so
half-shows : (own old : ℕ → ℕ) (leaves whole w top k h : ℕ) → suc k ≤ top → own w ≢ whole → Course leaves whole w k (joined own whole top) old → is_whole (with_own own w whole) whole (suc k) w ≡ true → start_of k h ≡ h → h / 2 ^ suc k ≡ w / 2 ^ suc k → h < leaves → old h ≡ whole + k
half-shows own old leaves whole w top k h most before c run first e within = side (cases_eq (h / 2 ^ k) (w / 2 ^ k))
  where
    side : (h / 2 ^ k ≡ w / 2 ^ k) ⊎ (h / 2 ^ k ≡ w / 2 ^ k → ⊥) → old h ≡ whole + k
    side (inl s) = c.inside h s ∙ shown-first k h (whole + k) first
    side (inr n) =
        c.outside h within n
        ∙ joined-level own whole k top h (omega arith)
        (is_whole-from own whole k h (λ u s. sym (with_own-other own w whole u (λ t. n (sym s ∙ ap (λ (z : ℕ). z / 2 ^ k) (sym t)))) ∙ is_whole-at (with_own own w whole) whole (suc k) w run u (same-coarser k (suc k) u h (omega arith) s ∙ e)))
        (λ b. not_whole own whole (suc k) h w (sym e) before)
        ∙ shown-first k h (whole + k) first

-- a half does not show itself as whole: the run isn't whole
pub join-stops : (own old : ℕ → ℕ) (leaves whole w top k : ℕ) → suc k ≤ top → own w ≢ whole → Course leaves whole w k (joined own whole top) old → ((u : ℕ) → u / 2 ^ suc k ≡ w / 2 ^ suc k → u < leaves) → (HalvesShow k w (whole + k) old → ⊥) → is_whole (with_own own w whole) whole (suc k) w ≡ false
join-stops own old leaves whole w top k most before c within apart =
    false_from_ne_true (is_whole (with_own own w whole) whole (suc k) w) (λ t. apart (
      half-shows own old leaves whole w top k (left_of k w) most before c t (left-first k w).0 (left-first k w).2 (within (left_of k w) (left-first k w).2),
      half-shows own old leaves whole w top k (right_of k w) most before c t (right-first k w).0 (right-first k w).2 (within (right_of k w) (right-first k w).2),
    ))

-- the course of a join ends where no greater run is whole
pub join-ends : (own ranks : ℕ → ℕ) (leaves whole w top k : ℕ) → k ≤ top → own w ≢ whole → Course leaves whole w k (joined own whole top) ranks → is_whole (with_own own w whole) whole k w ≡ true → (k < top → is_whole (with_own own w whole) whole (suc k) w ≡ false) → (v : ℕ) → v < leaves → ranks v ≡ joined (with_own own w whole) whole top v
join-ends own ranks leaves whole w top k most before c run greatest v b = side (cases_eq (v / 2 ^ k) (w / 2 ^ k))
  where
    side : (v / 2 ^ k ≡ w / 2 ^ k) ⊎ (v / 2 ^ k ≡ w / 2 ^ k → ⊥) → ranks v ≡ joined (with_own own w whole) whole top v
    side (inl e) = c.inside v e ∙ sym (joined-level (with_own own w whole) whole k top v most (is_whole-same (with_own own w whole) whole k v w e ∙ run) (λ b. is_whole-same (with_own own w whole) whole (suc k) v w (same-coarser k (suc k) v w (omega arith) e) ∙ greatest b))
    side (inr n) = c.outside v b n ∙ outside-stays own whole w whole k top v (λ b. not_whole own whole (suc k) w w refl before) greatest n

-- the same own ranks join the same
pub joined-same : (own other : ℕ → ℕ) (whole top v : ℕ) → v < 2 ^ top → ((u : ℕ) → u < 2 ^ top → own u ≡ other u) → joined own whole top v ≡ joined other whole top v
joined-same own other whole top v within h = joined-agree own other whole top v (λ k b. runs k b (cases_Bool (is_whole own whole k v))) (h v within)
  where
    runs : (k : ℕ) → k ≤ top → (is_whole own whole k v ≡ true) ⊎ (is_whole own whole k v ≡ false) → is_whole own whole k v ≡ is_whole other whole k v
    runs k b (inl t) = t ∙ sym (is_whole-from other whole k v (λ u e. sym (h u (run-within k top u v b within e)) ∙ is_whole-at own whole k v t u e))
    runs k b (inr f) = f ∙ sym (false_from_ne_true (is_whole other whole k v) (λ t. true≢false (sym (is_whole-from own whole k v (λ u e. h u (run-within k top u v b within e) ∙ is_whole-at other whole k v t u e)) ∙ f)))

pub alone : (own : ℕ → ℕ) (whole w : ℕ) → is_whole (with_own own w whole) whole 0 w ≡ true
alone own whole w = is_whole-from (with_own own w whole) whole 0 w (λ u e. with_own-same own w whole u (let same : w ≡ u = omega arith in same))

-- a leaf that gets the rank that it has
pub unchanged : (own : ℕ → ℕ) (w rank v : ℕ) → own w ≡ rank → own v ≡ with_own own w rank v
unchanged own w rank v e = elim (cases_eq w v) [
  | inl s ↦ rw (← s) e ∙ sym (with_own-same own w rank v s)
  | inr n ↦ sym (with_own-other own w rank v n)
]
