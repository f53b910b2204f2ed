-- What a transaction that keeps to its own pages says of a page.
use Rattle.std.proofs.Common.{◌≡◌, ◌⊎◌, ℕ, true, false, List, Option, Some, refl, sym, ap, ◌∙◌, subst, inl, inr, arith}
use Rattle.std.proofs.lemmas.Bool.{cases_Bool}
use Rattle.jfs_ranges.specs.declared.edit.Edit.{Edit}
use Rattle.jfs_ranges.specs.Apply.{touches_tx}
use Rattle.jfs_recovery.specs.Lines.{rest_of}
use Rattle.jfs_recovery.specs.records.specs.Redo.{closes_in}
use Rattle.jfs_recovery.specs.objects.specs.Readers.{Readers}
use Rattle.jfs_recovery.specs.objects.specs.Volume.{Volume}
use Rattle.jfs_recovery.specs.kinds.specs.Owner.{Owner, owner_of, is_logged}
use Rattle.jfs_recovery.specs.kinds.specs.Owner.Owner.{Area, Inodes, Tree, Data, Still}
use Rattle.jfs_recovery.specs.kinds.proofs.Single.{has_owners}
use Rattle.jfs_recovery.specs.kinds.proofs.Stay.{is_used}
use Rattle.jfs_recovery.proofs.Lines.{all_rest}
use Rattle.jfs_logged.specs.Logged.{logged_in}
use Rattle.jfs_logged.specs.Own.{IsKeptOrData, IsNode, LogsItsOwn, OwnLaw}
use Rattle.jfs_logged.proofs.Joined.{never, same_kind, is_in_use}
use Rattle.jfs_logged.proofs.Left.{left_law}

module _ (r : Readers) (v w : Volume) (tx : List Edit) (own : LogsItsOwn r v w tx) (p : ℕ) where
  -- what isn't kept safe then, and has no NoRedo, has no line
  no_line : logged_in r w p ≡ false → closes_in p tx ≡ false → touches_tx p tx ≡ false
  no_line out none = ap (touches_tx p) (sym (all_rest p tx none)) ∙ left_law p (rest_of p tx) ((own.logs p).shut out)

  pub kept_or_closed : touches_tx p tx ≡ true → (logged_in r w p ≡ true) ⊎ (closes_in p tx ≡ true)
  kept_or_closed told = by (cases_Bool (logged_in r w p)) (cases_Bool (closes_in p tx))
    where
      by : (logged_in r w p ≡ true) ⊎ (logged_in r w p ≡ false) → (closes_in p tx ≡ true) ⊎ (closes_in p tx ≡ false) → (logged_in r w p ≡ true) ⊎ (closes_in p tx ≡ true)
      by (inl in_log) c = inl in_log
      by (inr out) (inl some) = inr some
      by (inr out) (inr none) = never (touches_tx p tx) told (no_line out none)

  module _ (told : touches_tx p tx ≡ true) (was : v.used p ≡ true) (now : w.used p ≡ true) where
    kept : logged_in r w p ≡ true
    kept = by (kept_or_closed told)
      where
        by : (logged_in r w p ≡ true) ⊎ (closes_in p tx ≡ true) → logged_in r w p ≡ true
        by (inl in_log) = in_log
        by (inr some) = never (w.used p) now (own.closed p some was)

    -- it is no page of a fixed area
    no_area : owner_of r w p ≡ Some Area → ⊥
    no_area e = never (touches_tx p tx) told (own.untold p (let one = (has_owners r w own.after).has_it p Area e in let s = own.areas p in omega (arith, one, s)))

    node : IsNode (owner_of r w p)
    node = by (is_used r w own.after p now)
      where
        out : (o : Owner) → owner_of r w p ≡ Some o → is_logged (Some o) ≡ false → IsNode (owner_of r w p)
        out o e gone = never (logged_in r w p) kept (ap (λ (x : Option Owner). is_logged x) e ∙ gone)

        of_owner : (o : Owner) → owner_of r w p ≡ Some o → IsNode (owner_of r w p)
        of_owner Area e = absurd (no_area e)
        of_owner Inodes e = inl e
        of_owner (Tree n) e = inr (n, e)
        of_owner (Data n) e = out (Data n) e refl
        of_owner (Still n) e = out (Still n) e refl

        by : (o : Owner) × (owner_of r w p ≡ Some o) → IsNode (owner_of r w p)
        by (o, e) = of_owner o e

    pub both_nodes : IsNode (owner_of r v p) × IsNode (owner_of r w p)
    both_nodes = (subst (λ (o : Option Owner). IsNode o) (own.owners p was now) node, node)

  pub told_is : touches_tx p tx ≡ true → IsKeptOrData r w p ⊎ (w.used p ≡ false)
  told_is told = by (cases_Bool (v.used p)) (cases_Bool (w.used p))
    where
      by : (v.used p ≡ true) ⊎ (v.used p ≡ false) → (w.used p ≡ true) ⊎ (w.used p ≡ false) → IsKeptOrData r w p ⊎ (w.used p ≡ false)
      by k (inr free) = inr free
      by (inl was) (inl now) = inl (inl (kept told was now))
      by (inr free) (inl now) = inl (own.comes p free now)

  pub stays_so : IsKeptOrData r v p ⊎ (v.used p ≡ false) → IsKeptOrData r w p ⊎ (w.used p ≡ false)
  stays_so so = by so (cases_Bool (v.used p)) (cases_Bool (w.used p))
    where
      by : IsKeptOrData r v p ⊎ (v.used p ≡ false) → (v.used p ≡ true) ⊎ (v.used p ≡ false) → (w.used p ≡ true) ⊎ (w.used p ≡ false) → IsKeptOrData r w p ⊎ (w.used p ≡ false)
      by x k (inr free) = inr free
      by x (inr free) (inl now) = inl (own.comes p free now)
      by (inl it) (inl was) (inl now) = inl (same_kind r v w own.before own.after p (own.owners p was now) it)
      by (inr free) (inl was) (inl now) = never (v.used p) was free

pub own_law : OwnLaw
own_law = record {
  well = λ r v w tx own. record { owners = own.owners; pages = λ p was now. own.pages p (is_in_use r v own.before p was) (is_in_use r w own.after p now); logs = own.logs };
  lines = λ r v w tx own p told. kept_or_closed r v w tx own p told;
  nodes = λ r v w tx own p told was now. both_nodes r v w tx own p told was now;
  told = λ r v w tx own p told. told_is r v w tx own p told;
  stays = λ r v w tx own p so. stays_so r v w tx own p so;
}
