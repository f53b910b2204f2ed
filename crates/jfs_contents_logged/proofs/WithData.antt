-- A transaction after data: it logs what it logs without, where the data lies in blocks that the log doesn't keep safe.
use Rattle.std.proofs.Common.{◌≡◌, ◌⊎◌, ℕ, true, false, List, Option, sym, ap, ◌∙◌, inl, inr, arith}
use Rattle.jfs_ranges.specs.declared.edit.Edit.{Edit}
use Rattle.jfs_ranges.specs.Apply.{apply_tx}
use Rattle.jfs_truncate.specs.data_steps.specs.objects.specs.Readers.{Readers}
use Rattle.jfs_truncate.specs.data_steps.specs.objects.specs.Volume.{Volume}
use Rattle.jfs_truncate.specs.data_steps.specs.objects.specs.Owners.{Agrees}
use Rattle.jfs_names_logged.specs.calls_logged.specs.logged.specs.recovery.specs.records.specs.Redo.{closes_in}
use Rattle.jfs_names_logged.specs.calls_logged.specs.logged.specs.recovery.specs.kinds.specs.Laws.{HasSameOwners}
use Rattle.jfs_names_logged.specs.calls_logged.specs.logged.specs.recovery.specs.kinds.specs.Owner.{Owner, is_logged}
use Rattle.jfs_names_logged.specs.calls_logged.specs.logged.specs.Logged.{logged_in}
use Rattle.jfs_names_logged.specs.calls_logged.specs.logged.specs.Own.{TellsKept, LogsItsOwn}
use Rattle.jfs_names_logged.specs.calls_logged.specs.logged.proofs.Joined.{same_kind}

-- Volumes with the same owners and blocks in use as before and after a transaction, of which pages that the log keeps safe then are the same.
module _ (r : Readers) (v w x y : Volume) (tx : List Edit) (before : HasSameOwners r v x) (after : HasSameOwners r w y) (used : (b : ℕ) → x.used b ≡ v.used b) (used_then : (b : ℕ) → y.used b ≡ w.used b)
    (agrees : Agrees r x) (agrees_then : Agrees r y) (area : (b : ℕ) → x.area b ≡ v.area b) (area_then : (b : ℕ) → y.area b ≡ w.area b) (pages : (p : ℕ) → x.used p ≡ true → y.used p ≡ true → y.page p ≡ apply_tx p tx (x.page p)) (same : (p : ℕ) → logged_in r w p ≡ true → y.page p ≡ w.page p) (logs : LogsItsOwn r v w tx) where
  was : (p : ℕ) → logged_in r x p ≡ logged_in r v p
  was p = ap (λ (o : Option Owner). is_logged o) (before p)

  now : (p : ℕ) → logged_in r y p ≡ logged_in r w p
  now p = ap (λ (o : Option Owner). is_logged o) (after p)

  why_then : (p : ℕ) → (closes_in p tx ≡ true) ⊎ (logged_in r x p ≡ false) → (closes_in p tx ≡ true) ⊎ (logged_in r v p ≡ false)
  why_then p (inl c) = inl c
  why_then p (inr out) = inr (sym (was p) ∙ out)

  told : (p : ℕ) → TellsKept r v w p ⊎ ((v.used p ≡ false) × (w.used p ≡ false)) → TellsKept r x y p ⊎ ((x.used p ≡ false) × (y.used p ≡ false))
  told p (inl (inl k)) = inl (inl (was p ∙ k))
  told p (inl (inr k)) = inl (inr (now p ∙ k))
  told p (inr (free, gone)) = inr (used p ∙ free, used_then p ∙ gone)

  pub logged_after_data : LogsItsOwn r x y tx
  logged_after_data = record {
    before = agrees;
    after = agrees_then;
    areas = λ b. area_then b ∙ logs.areas b ∙ sym (area b);
    owners = λ b k l. after b ∙ logs.owners b (sym (used b) ∙ k) (sym (used_then b) ∙ l) ∙ sym (before b);
    pages = pages;
    logs = λ p. record {
      whole = λ there why a s. (logs.logs p).whole (sym (now p) ∙ there) (why_then p why) a s ∙ sym (same p (sym (now p) ∙ there));
      shut = λ gone a s. (logs.logs p).shut (sym (now p) ∙ gone) a s;
      noted = λ gone there. (logs.logs p).noted (sym (now p) ∙ gone) (sym (was p) ∙ there);
    };
    untold = λ b some. logs.untold b (let s = area b in omega (arith, s, some));
    closed = λ b some k. used_then b ∙ logs.closed b some (sym (used b) ∙ k);
    told = λ b some. told b (logs.told b some);
    comes = λ b k l. same_kind r w y logs.after agrees_then b (after b) (logs.comes b (sym (used b) ∙ k) (sym (used_then b) ∙ l));
  }
