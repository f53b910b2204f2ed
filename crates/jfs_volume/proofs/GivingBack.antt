-- Reserved runs that are free again, edit by edit.
use Rattle.std.proofs.Common.{◌≡◌, ◌<◌, ◌++◌, ◌∷◌, [], ◌+◌, ℕ, true, false, List, length, drop, get_or, sym, ap, ◌∙◌, subst}
use Rattle.std.proofs.lemmas.Bool.{or_left}
use Rattle.std.proofs.lemmas.List.{drop_more}
use Rattle.jfs_bits.specs.declared.descriptor.Pxd.{Pxd}
use Rattle.jfs_bits.specs.Bits.{is_in_run}
use Rattle.jfs_ranges.specs.declared.edit.Edit.{Edit}
use Rattle.jfs_bmap.specs.States.{Blocks, Free, Reserved, state_of, is_in_list, put_state, AreReserved}
use Rattle.jfs_bmap.proofs.Puts.{put-none, put-append, reserved-rest}
use Rattle.jfs_volume.specs.Runs.{taken_by, taken_in}
use Rattle.jfs_volume.proofs.Taken.{in_list-append}

pub in_one : (run : Pxd) (b : ℕ) → is_in_run run.addr run.len b ≡ true → is_in_list (run ∷ []) b ≡ true
unfolding is_in_list
in_one run b h = or_left (is_in_run run.addr run.len b) false h

-- the first ones are reserved
pub reserved-front : (m : Blocks) (xs ys : List Pxd) → AreReserved m (xs ++ ys) → (b : ℕ) → is_in_list xs b ≡ true → state_of m b ≡ Reserved
reserved-front m xs ys r b h = r.reserved b (in_list-append xs ys b ∙ or_left (is_in_list xs b) (is_in_list ys b) h)

-- the others stay so once these are free
reserved-after : (xs ys : List Pxd) (m : Blocks) → AreReserved m (xs ++ ys) → AreReserved (put_state Free xs m) ys
reserved-after [] ys m r = subst (λ (n : Blocks). AreReserved n ys) (sym (put-none Free m)) r
reserved-after (x ∷ xs) ys m r =
    subst (λ (n : Blocks). AreReserved n ys) (put-append Free (x ∷ []) xs m) (reserved-after xs ys (put_state Free (x ∷ []) m) (reserved-rest Free m x (xs ++ ys) r))

-- ---- a loop over edits

module _ (es : List Edit) (i : ℕ) (x : Edit) (m : Blocks) (h : i < length es) (is : x ≡ get_or es i x) where
  here : taken_in (drop i es) ≡ taken_by x ++ taken_in (drop (i + 1) es)
  here = ap taken_in (drop_more es i x h) ∙ ap (λ (y : Edit). taken_by y ++ taken_in (drop (i + 1) es)) (sym is)

  pub next-there : AreReserved m (taken_in (drop i es)) → (b : ℕ) → is_in_list (taken_by x) b ≡ true → state_of m b ≡ Reserved
  next-there r = reserved-front m (taken_by x) (taken_in (drop (i + 1) es)) (subst (AreReserved m) here r)

  pub rest-there : AreReserved m (taken_in (drop i es)) → AreReserved (put_state Free (taken_by x) m) (taken_in (drop (i + 1) es))
  rest-there r = reserved-after (taken_by x) (taken_in (drop (i + 1) es)) m (subst (AreReserved m) here r)

  pub rest-freed : put_state Free (taken_in (drop (i + 1) es)) (put_state Free (taken_by x) m) ≡ put_state Free (taken_in (drop i es)) m
  rest-freed = put-append Free (taken_by x) (taken_in (drop (i + 1) es)) m ∙ ap (λ (xs : List Pxd). put_state Free xs m) (sym here)
