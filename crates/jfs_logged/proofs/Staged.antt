-- A part of a transaction that tells its stage logs what matters.
use Rattle.std.proofs.Common.{◌≡◌, ◌≢◌, ◌⊎◌, ◌≤◌, ◌+◌, ◌-◌, ◌*◌, ◌&&◌, ◌||◌, nat_lt, ℕ, Bool, true, false, List, [], ◌∷◌, length, drop, Option, refl, ap, ◌∙◌, inl, inr, arith}
use Rattle.std.proofs.lemmas.Bool.{cases_Bool, and_parts, ltb-true}
use Rattle.std.proofs.lemmas.List.{length-take}
use Rattle.jfs_bits.specs.Line.{line_size}
use Rattle.jfs_bits.specs.declared.rule.PageKind.{PageKind}
use Rattle.jfs_ranges.specs.declared.edit.Edit.{Edit}
use Rattle.jfs_ranges.specs.declared.edit.Edit.TheVariants.{Lines, NoRedo, Alloc, Free}
use Rattle.jfs_ranges.specs.Apply.{apply_tx, place_of_line, touches_edit, touches_tx}
use Rattle.jfs_tree.specs.Tell.{IsRuns}
use Rattle.jfs_recovery.specs.crash_core.proofs.Bytes.{apply_tx-untouched}
use Rattle.jfs_recovery.specs.records.specs.Redo.{closes_in}
use Rattle.jfs_recovery.specs.objects.specs.Readers.{Readers}
use Rattle.jfs_recovery.specs.objects.specs.Volume.{Volume}
use Rattle.jfs_recovery.specs.objects.specs.Owners.{Agrees}
use Rattle.jfs_recovery.specs.kinds.specs.Owner.{Owner, is_logged}
use Rattle.jfs_recovery.specs.kinds.specs.Laws.{OwnersStay}
use Rattle.jfs_logged.specs.Logged.{logged_in, LogsPage, IsTold}
use Rattle.jfs_logged.specs.Own.{TellsKept, LogsPart}
use Rattle.jfs_logged.specs.Stages.{TellsStage, StageLaw, RunsLaw}
use Rattle.jfs_logged.proofs.Joined.{never, page_law, unused}
use Rattle.jfs_logged.proofs.Left.{left_law}

module _ (r : Readers) (v w : Volume) (tx : List Edit) (before : Agrees r v) (after : Agrees r w) (stay : OwnersStay r v w) (tells : TellsStage r v w tx) where
  told : (p : ℕ) → closes_in p tx ≡ false → IsTold p (logged_in r v p) (logged_in r w p) tx (w.page p)
  told p none = record {
    open_is = none;
    stays = λ was. stays was (cases_Bool (logged_in r w p));
    kept = λ gone. (tells.others p none gone).0;
    whole = λ was now. whole was now (cases_Bool (v.used p)) (cases_Bool (w.used p));
  }
    where
      stays : logged_in r v p ≡ true → (logged_in r w p ≡ true) ⊎ (logged_in r w p ≡ false) → logged_in r w p ≡ true
      stays was (inl now) = now
      stays was (inr gone) = never (logged_in r v p) was (tells.others p none gone).1

      whole : logged_in r v p ≡ false → logged_in r w p ≡ true → (v.used p ≡ true) ⊎ (v.used p ≡ false) → (w.used p ≡ true) ⊎ (w.used p ≡ false) → (a : List ℕ) → length a ≡ 4096 → apply_tx p tx a ≡ w.page p
      whole was now x (inr free) = never (logged_in r w p) now (unused r w after p free)
      whole was now (inl used) (inl there) = never (logged_in r w p) now (ap (λ (o : Option Owner). is_logged o) (stay p used there) ∙ was)
      whole was now (inr free) (inl there) = tells.whole p free there now

  page_is : (p : ℕ) → (closes_in p tx ≡ true) ⊎ (closes_in p tx ≡ false) → LogsPage p (logged_in r v p) (logged_in r w p) tx (w.page p)
  page_is p (inl some) = let x = tells.freed p some in page_law p (logged_in r v p) (logged_in r w p) tx (w.page p) (inr (record { freed = x.0; gone = unused r w after p x.2 }))
  page_is p (inr none) = page_law p (logged_in r v p) (logged_in r w p) tx (w.page p) (inl (told p none))

  -- a page with lines is kept safe then, or has a NoRedo
  kept : (p : ℕ) → touches_tx p tx ≡ true → (closes_in p tx ≡ true) ⊎ (closes_in p tx ≡ false) → (logged_in r w p ≡ true) ⊎ (logged_in r w p ≡ false) → TellsKept r v w p
  kept p told (inl some) k = inl (tells.freed p some).1
  kept p told (inr none) (inl now) = inr now
  kept p told (inr none) (inr gone) = never (touches_tx p tx) told (left_law p tx (tells.others p none gone).0)

  abbrev is_kept : (p : ℕ) → touches_tx p tx ≡ true → TellsKept r v w p
  is_kept p told = kept p told (cases_Bool (closes_in p tx)) (cases_Bool (logged_in r w p))

  pub staged : LogsPart r v w tx
  staged = record {
    own = record {
      before = before;
      after = after;
      areas = tells.areas;
      owners = stay;
      pages = tells.pages;
      logs = λ p. page_is p (cases_Bool (closes_in p tx));
      untold = λ p area. left_law p tx (tells.untold p area);
      closed = λ p some was. (tells.freed p some).2;
      told = λ p told. inl (is_kept p told);
      comes = tells.comes;
    };
    kept = is_kept;
  }

pub stage_law : StageLaw
stage_law r v w tx before after stay tells = staged r v w tx before after stay tells

-- ---- the runs of one page

false_or : (a b : Bool) → a ≡ false → b ≡ false → (a || b) ≡ false
false_or false b e d = d
false_or true b e d = absurd (cc (e))

-- lines of one page, within it, put no byte into another
apart : (p n : ℕ) (kind : PageKind) (at end : ℕ) (bytes : List ℕ) → p ≢ n → line_size kind * end ≤ 4096 → length bytes ≤ line_size kind * end - line_size kind * at → touches_edit p (Lines n kind at bytes) ≡ false
unfolding place_of_line
apart p n kind at end bytes ne within few = by (cases_Bool (nat_lt place (4096 * p + 4096) && nat_lt (4096 * p - place) (length bytes)))
  where
    place : ℕ
    place = 4096 * n + line_size kind * at

    by : ((nat_lt place (4096 * p + 4096) && nat_lt (4096 * p - place) (length bytes)) ≡ true) ⊎ ((nat_lt place (4096 * p + 4096) && nat_lt (4096 * p - place) (length bytes)) ≡ false)
        → (nat_lt place (4096 * p + 4096) && nat_lt (4096 * p - place) (length bytes)) ≡ false
    by (inr e) = e
    by (inl e) =
        let both = and_parts (nat_lt place (4096 * p + 4096)) (nat_lt (4096 * p - place) (length bytes)) e in
        let low = ltb-true place (4096 * p + 4096) both.0 in
        let high = ltb-true (4096 * p - place) (length bytes) both.1 in
        absurd (ne (omega (arith, low, high, within, few)))

module _ (n : ℕ) (kind : PageKind) (old new : List ℕ) where
  closes_none : (first : ℕ) (tx : List Edit) (p : ℕ) → IsRuns n kind old new first tx → closes_in p tx ≡ false
  closes_none first [] p h = refl
  closes_none first (Lines page own at bytes ∷ tx) p (a, b, c, d, (end, e, f, g, k, l, rest)) = closes_none end tx p rest
  closes_none first (NoRedo page ∷ tx) p h = absurd h
  closes_none first (Alloc run ∷ tx) p h = absurd h
  closes_none first (Free run ∷ tx) p h = absurd h

  untouched : (first : ℕ) (tx : List Edit) (p : ℕ) → p ≢ n → IsRuns n kind old new first tx → touches_tx p tx ≡ false
  untouched first [] p ne h = refl
  untouched first (Lines page own at bytes ∷ tx) p ne (a, b, c, d, (end, e, f, g, k, l, rest)) =
      let size : length bytes ≤ line_size kind * end - line_size kind * at =
      (let s = ap (λ (x : List ℕ). length x) g in let t = length-take {A = ℕ} (line_size kind * end - line_size kind * at) (drop (line_size kind * at) new) in omega (arith, s, t)) in
      false_or (touches_edit p (Lines page own at bytes)) (touches_tx p tx) (rw (a, b) (apart p n kind at end bytes ne f size)) (untouched end tx p ne rest)
  untouched first (NoRedo page ∷ tx) p ne h = absurd h
  untouched first (Alloc run ∷ tx) p ne h = absurd h
  untouched first (Free run ∷ tx) p ne h = absurd h

pub runs_law : RunsLaw
runs_law n kind old new first tx h = record {
  closes_none = λ p. closes_none n kind old new first tx p h;
  quiet = λ p ne. untouched n kind old new first tx p ne h;
  others = λ p ne a s. apply_tx-untouched p tx a s (untouched n kind old new first tx p ne h);
}
