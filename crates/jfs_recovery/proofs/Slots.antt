-- Each step keeps what is known of one block.
use Rattle.std.proofs.Common.{◌≡◌, ◌<◌, ◌≤◌, ◌⊎◌, ◌&&◌, nat_le, not, ℕ, zero, suc, Bool, true, false, if◌then◌else◌, List, [], ◌∷◌, length, Option, Some, None, IsSome, refl, sym, ap, ◌∙◌, subst, inl, inr, arith}
use Rattle.std.proofs.lemmas.Bool.{cases_lt, cases_Bool, cond-true, cond-false, le-leb, leb-true, and_parts, and_from}
use Rattle.std.proofs.lemmas.List.{length_push, get_or_push, length-append, get_or_at}
use Rattle.jfs_disk.specs.Crash.{PageHistory, content_of, torn, page_written, page_failed, resting}
use Rattle.jfs_disk.proofs.Tearing.{length-torn}
use Rattle.jfs_core.specs.declared.block.Span.{Span}
use Rattle.jfs_core.specs.Core.{Block}
use Rattle.jfs_core.specs.Step.{EndsBy, spanned, dirtied, synced}
use Rattle.jfs_core.specs.Sound.{LiesIn, SpansWithin, BeginInOrder, BlockOk}
use Rattle.jfs_core.proofs.Cells.{all_contents, one_content, two_contents}
use Rattle.jfs_core.proofs.Blocks.{BlockOk-raised, BlockOk-grown, BlockOk-dirtied, BlockOk-synced, BlockOk-sent, BlockOk-failed, Extends}
use Rattle.jfs_recovery.specs.Core.{Slot, dropped, data_slot, data_failed_slot, home_slot, home_failed_slot}
use Rattle.jfs_recovery.specs.Sound.{SlotOk}

never : (b : Bool) → b ≡ true → b ≡ false → ⊥
never b e d = let x : true ≡ false = sym e ∙ d in cc

abbrev Meta : (ℕ → Bool) → ℕ → Type 0
Meta m k = m k ≡ true

-- ---- the history grows

pub record Same (m m' : ℕ → Bool) (v w : ℕ → List ℕ) (n : ℕ) : Type 0 where
  pub pages : (k : ℕ) → k ≤ n → w k ≡ v k
  pub matters : (k : ℕ) → k ≤ n → m' k ≡ m k

extends : (m m' : ℕ → Bool) (v w : ℕ → List ℕ) (n : ℕ) → Same m m' v w n → Extends (Meta m) (Meta m') v w n
extends m m' v w n same = record {
  same = same.pages;
  there = λ k l h. same.matters k l ∙ h;
  back = λ k l h. sym (same.matters k l) ∙ h;
}

-- what is kept, where a block that matters is taken out
kept_after : (b : Bool) (old : Option (List ℕ)) (bytes : List ℕ) → (if b then None else old) ≡ Some bytes → (b ≡ false) × (old ≡ Some bytes)
kept_after true old bytes e = absurd (cc)
kept_after false old bytes e = (refl, e)

lies_longer : (k n : ℕ) (span : Option Span) → k ≤ n → LiesIn k span → LiesIn k (Some (spanned n span))
lies_longer k n None h l = absurd l
lies_longer k n (Some span) h l = (l.0, h)

lies_last : (n : ℕ) (span : Option Span) → SpansWithin n span → LiesIn (suc n) (Some (spanned (suc n) span))
lies_last n None h = (omega arith, omega arith)
lies_last n (Some span) h = (omega (arith, h.1), omega arith)

last_spanned : (n : ℕ) (old : Option Span) (span : Span) → Some (spanned n old) ≡ Some span → span.last ≡ n
last_spanned n None span e = let d : spanned n None ≡ span = cc in ap (λ (s : Span). s.last) (sym d)
last_spanned n (Some old) span e = let d : spanned n (Some old) ≡ span = cc in ap (λ (s : Span). s.last) (sym d)

pub SlotOk-touched : (m m' : ℕ → Bool) (cares : ℕ → Type 0) (v w : ℕ → List ℕ) (n told : ℕ) (slot : Slot) → told ≤ n → Same m m' v w n → SlotOk m cares v n told slot →
    SlotOk m' cares w (suc n) told (record slot { block = dirtied (suc n) slot.block; kept = if m' (suc n) then None else slot.kept })
SlotOk-touched m m' cares v w n told slot low same s = record {
  ok = BlockOk-dirtied (Meta m) (Meta m') cares v w n told slot.block low (extends m m' v w n same) s.ok;
  steady = λ k l h. steady k l h (cases_lt k n);
  worth = λ span e h. absurd (omega (arith, last_spanned (suc n) slot.block.dirty span e, h, low));
  written = λ h e. let x = s.written h e in (omega (arith, x.0), same.matters h x.0 ∙ x.1, λ k l g. same.matters k (omega (arith, x.0)) ∙ x.2 k l g);
  kept = λ bytes e. let x = kept_after (m' (suc n)) slot.kept bytes e in (x.0, (s.kept bytes x.1).1);
}
  where
    old : (k : ℕ) → k < n → LiesIn (suc k) slot.block.dirty ⊎ (m (suc k) ≡ m k) → LiesIn (suc k) (Some (spanned (suc n) slot.block.dirty)) ⊎ (m' (suc k) ≡ m' k)
    old k l (inl lies) = inl (lies_longer (suc k) (suc n) slot.block.dirty (omega arith) lies)
    old k l (inr e) = inr (same.matters (suc k) (omega arith) ∙ e ∙ sym (same.matters k (omega arith)))

    steady : (k : ℕ) → told ≤ k → k < suc n → (k < n) ⊎ (n ≤ k) → LiesIn (suc k) (Some (spanned (suc n) slot.block.dirty)) ⊎ (m' (suc k) ≡ m' k)
    steady k l h (inl q) = old k q (s.steady k l q)
    steady k l h (inr q) =
        let e : n ≡ k = omega arith in
        inl (subst (λ (j : ℕ). LiesIn (suc j) (Some (spanned (suc n) slot.block.dirty))) e (lies_last n slot.block.dirty s.ok.dirty_within))

pub SlotOk-untouched : (m m' : ℕ → Bool) (cares : ℕ → Type 0) (v w : ℕ → List ℕ) (n told : ℕ) (slot : Slot) → told ≤ n → Same m m' v w n → w (suc n) ≡ w n → m' (suc n) ≡ m' n →
    SlotOk m cares v n told slot → SlotOk m' cares w (suc n) told (record slot { kept = if m' (suc n) then None else slot.kept })
SlotOk-untouched m m' cares v w n told slot low same page_stays matters_stays s = record {
  ok = BlockOk-grown (Meta m) (Meta m') cares v w n told slot.block low (extends m m' v w n same) (page_stays, λ h. sym matters_stays ∙ h) s.ok;
  steady = λ k l h. steady k l h (cases_lt k n);
  worth = λ span e h.
      let x = s.worth span e h in
      (matters_stays ∙ same.matters n (omega arith) ∙ x.0, same.matters span.last (omega (arith, h, low)) ∙ x.1);
  written = λ h e. let x = s.written h e in (omega (arith, x.0), same.matters h x.0 ∙ x.1, λ k l g. same.matters k (omega (arith, x.0)) ∙ x.2 k l g);
  kept = λ bytes e. let x = kept_after (m' (suc n)) slot.kept bytes e in (x.0, (s.kept bytes x.1).1);
}
  where
    old : (k : ℕ) → k < n → LiesIn (suc k) slot.block.dirty ⊎ (m (suc k) ≡ m k) → LiesIn (suc k) slot.block.dirty ⊎ (m' (suc k) ≡ m' k)
    old k l (inl lies) = inl lies
    old k l (inr e) = inr (same.matters (suc k) (omega arith) ∙ e ∙ sym (same.matters k (omega arith)))

    steady : (k : ℕ) → told ≤ k → k < suc n → (k < n) ⊎ (n ≤ k) → LiesIn (suc k) slot.block.dirty ⊎ (m' (suc k) ≡ m' k)
    steady k l h (inl q) = old k q (s.steady k l q)
    steady k l h (inr q) =
        let e : n ≡ k = omega arith in
        inr (subst (λ (j : ℕ). m' (suc j) ≡ m' j) e matters_stays)

-- ---- more is acknowledged

order_none : (unsynced : Option Span) → BeginInOrder unsynced None
order_none None = tt
order_none (Some span) = tt

BlockOk-dropped : (m : ℕ → Bool) (cares : ℕ → Type 0) (v : ℕ → List ℕ) (n told : ℕ) (block : Block) → m told ≡ false →
    ((k : ℕ) → told ≤ k → LiesIn (suc k) block.dirty → ⊥) → BlockOk (Meta m) cares v n told block → BlockOk (Meta m) cares v n told (record block { dirty = None })
BlockOk-dropped m cares v n told block none past ok = record {
  seen_size = ok.seen_size;
  sizes = ok.sizes;
  readable = ok.readable;
  shown = λ j h trees p. absurd (never (m told) (trees told h (omega arith)) none);
  pending = λ j h trees p q. absurd (never (m told) (trees told h (omega arith)) none);
  later = λ k low high. inr (keep k low (ok.later k low high));
  in_order = order_none block.unsynced;
  dirty_within = tt;
  unsynced_within = ok.unsynced_within;
}
  where
    keep : (k : ℕ) → told ≤ k → LiesIn (suc k) block.dirty ⊎ ((v (suc k) ≡ v k) × (Meta m (suc k) → Meta m k)) → (v (suc k) ≡ v k) × (Meta m (suc k) → Meta m k)
    keep k low (inl lies) = absurd (past k low lies)
    keep k low (inr same) = same

-- from the last entry of its span on, a block matters as after that one
matters_on : (m : ℕ → Bool) (told last n : ℕ) (dirty : Option Span) → told ≤ last → ((k : ℕ) → told ≤ k → k < n → LiesIn (suc k) dirty ⊎ (m (suc k) ≡ m k)) →
    ((k : ℕ) → last ≤ k → LiesIn (suc k) dirty → ⊥) → (k : ℕ) → last ≤ k → k ≤ n → m k ≡ m last
matters_on m told last n dirty low steady past zero l h = let e : last ≡ 0 = omega arith in ap m (sym e)
matters_on m told last n dirty low steady past (suc k) l h = at (cases_lt k last) (λ q. matters_on m told last n dirty low steady past k q (omega arith))
  where
    step : last ≤ k → LiesIn (suc k) dirty ⊎ (m (suc k) ≡ m k) → m (suc k) ≡ m k
    step q (inl lies) = absurd (past k q lies)
    step q (inr e) = e

    at : (k < last) ⊎ (last ≤ k) → (last ≤ k → m k ≡ m last) → m (suc k) ≡ m last
    at (inl q) before = let e : suc k ≡ last = omega arith in ap m e
    at (inr q) before = step q (steady k (omega arith) (omega arith)) ∙ before q

-- whether a span is dropped
not_true : (b : Bool) → not b ≡ true → b ≡ false
not_true true e = absurd (cc)
not_true false e = refl

drop_test : (last told : ℕ) (b : Bool) → (nat_le last told && not b) ≡ true → (last ≤ told) × (b ≡ false)
drop_test last told b e =
    let x = and_parts (nat_le last told) (not b) e in
    (leb-true last told x.0, not_true b x.1)

keep_test : (last told : ℕ) (b : Bool) → (nat_le last told && not b) ≡ false → last ≤ told → b ≡ true
keep_test last told true e l = refl
keep_test last told false e l = absurd (never (nat_le last told && not false) (and_from (nat_le last told) (not false) (le-leb last told l) refl) e)

pub SlotOk-told : (m : ℕ → Bool) (cares : ℕ → Type 0) (v : ℕ → List ℕ) (n told more : ℕ) (pages : PageHistory) (dirty unsynced : Option Span) (data_at : Option ℕ) (kept : Option (List ℕ)) →
    told ≤ more → more ≤ n → SlotOk m cares v n told (record { block = record { pages = pages; dirty = dirty; unsynced = unsynced }; data_at = data_at; kept = kept }) →
    SlotOk m cares v n more (record { block = record { pages = pages; dirty = dropped m more dirty; unsynced = unsynced }; data_at = data_at; kept = kept })
SlotOk-told m cares v n told more pages None unsynced data_at kept low high s = record {
  ok = BlockOk-raised (Meta m) cares v n told more (record { pages = pages; dirty = None; unsynced = unsynced }) low high s.ok;
  steady = λ k l h. s.steady k (omega arith) h;
  worth = λ span e h. absurd (cc);
  written = λ h e. let x = s.written h e in (x.0, x.1, λ k l g. x.2 k (omega arith) g);
  kept = s.kept;
}
SlotOk-told m cares v n told more pages (Some span) unsynced data_at kept low high s = at (cases_Bool test)
  where
    test : Bool
    test = nat_le span.last more && not (m span.last)

    of : Option Span → Slot
    of dirty = record { block = record { pages = pages; dirty = dirty; unsynced = unsynced }; data_at = data_at; kept = kept }

    raised : BlockOk (Meta m) cares v n more (of (Some span)).block
    raised = BlockOk-raised (Meta m) cares v n told more (of (Some span)).block low high s.ok

    past : (last : ℕ) → span.last ≤ last → (k : ℕ) → last ≤ k → LiesIn (suc k) (Some span) → ⊥
    past last h k l lies = omega (arith, lies.1)

    -- a span that stays
    stays : (span.last ≤ more → m span.last ≡ true) → SlotOk m cares v n more (of (Some span))
    stays worth = record {
      ok = raised;
      steady = λ k l h. s.steady k (omega arith) h;
      worth = λ other e h. let d : span ≡ other = cc in let ends : span.last ≤ more = omega (arith, ap (λ (x : Span). x.last) d, h) in (here ends (cases_lt told span.last), subst (λ (x : Span). m x.last ≡ true) d (worth ends));
      written = λ h e. let x = s.written h e in (x.0, x.1, λ k l g. x.2 k (omega arith) g);
      kept = s.kept;
    }
      where
        here : span.last ≤ more → (told < span.last) ⊎ (span.last ≤ told) → m n ≡ true
        here h (inr l) = (s.worth span refl l).0
        here h (inl l) = matters_on m told span.last n (Some span) (omega arith) s.steady (past span.last (omega arith)) n (omega arith) (omega arith) ∙ worth h

    goes : span.last ≤ more → m span.last ≡ false → (told < span.last) ⊎ (span.last ≤ told) → SlotOk m cares v n more (of None)
    goes ends gone where_is = record {
      ok = BlockOk-dropped m cares v n more (of (Some span)).block (none where_is) (past more ends) raised;
      steady = λ k l h. inr (keep k l (s.steady k (omega arith) h));
      worth = λ other e h. absurd (cc);
      written = λ h e. let x = s.written h e in (x.0, x.1, λ k l g. x.2 k (omega arith) g);
      kept = s.kept;
    }
      where
        keep : (k : ℕ) → more ≤ k → LiesIn (suc k) (Some span) ⊎ (m (suc k) ≡ m k) → m (suc k) ≡ m k
        keep k l (inl lies) = absurd (past more ends k l lies)
        keep k l (inr e) = e

        none : (told < span.last) ⊎ (span.last ≤ told) → m more ≡ false
        none (inl l) = matters_on m told span.last n (Some span) (omega arith) s.steady (past span.last (omega arith)) more ends high ∙ gone
        none (inr l) = absurd (never (m span.last) (s.worth span refl l).1 gone)

    at : (test ≡ true) ⊎ (test ≡ false) → SlotOk m cares v n more (of (if test then None else Some span))
    at (inl e) =
        let x = drop_test span.last more (m span.last) e in
        subst (λ (d : Option Span). SlotOk m cares v n more (of d)) (sym (cond-true test None (Some span) e)) (goes x.0 x.1 (cases_lt told span.last))
    at (inr e) = subst (λ (d : Option Span). SlotOk m cares v n more (of d)) (sym (cond-false test None (Some span) e)) (stays (keep_test span.last more (m span.last) e))

-- ---- writes

-- a block that doesn't matter since what is acknowledged may hold anything
BlockOk-rewritten : (m : ℕ → Bool) (cares : ℕ → Type 0) (v : ℕ → List ℕ) (n told : ℕ) (block : Block) (pages : PageHistory) → m told ≡ false →
    length pages.seen ≡ 4096 → ((j : ℕ) → j ≤ length pages.writes → length (content_of pages j) ≡ 4096) →
    ((j : ℕ) × (j ≤ length pages.writes) × (pages.seen ≡ content_of pages j)) → BlockOk (Meta m) cares v n told block → BlockOk (Meta m) cares v n told (record block { pages = pages })
BlockOk-rewritten m cares v n told block pages none seen sizes readable ok = record {
  seen_size = seen;
  sizes = sizes;
  readable = readable;
  shown = λ j h trees p. absurd (never (m told) (trees told h (omega arith)) none);
  pending = λ j h trees p q. absurd (never (m told) (trees told h (omega arith)) none);
  later = ok.later;
  in_order = ok.in_order;
  dirty_within = ok.dirty_within;
  unsynced_within = ok.unsynced_within;
}

abbrev IsSize : List ℕ → Type 0
IsSize a = length a ≡ 4096

pub SlotOk-data : (m : ℕ → Bool) (cares : ℕ → Type 0) (v : ℕ → List ℕ) (n told : ℕ) (bytes : List ℕ) (slot : Slot) → told ≤ n → length bytes ≡ 4096 →
    ((k : ℕ) → told ≤ k → k ≤ n → m k ≡ false) → SlotOk m cares v n told slot → SlotOk m cares v n told (data_slot n bytes slot)
SlotOk-data m cares v n told bytes slot low size none s = record {
  ok = BlockOk-rewritten m cares v n told slot.block (page_written bytes slot.block.pages) (none told (omega arith) low) size
      (all_contents IsSize slot.block.pages bytes (bytes ∷ []) s.ok.sizes (one_content IsSize bytes size))
      (suc (length slot.block.pages.writes), omega (arith, length_push slot.block.pages.writes bytes), sym (get_or_push slot.block.pages.writes bytes [] (length slot.block.pages.writes) refl)) s.ok;
  steady = s.steady;
  worth = s.worth;
  written = λ h e. let d : n ≡ h = cc in (omega arith, ap m (sym d) ∙ none n low (omega arith), λ k l g. none k l (omega (arith, d)));
  kept = λ b e. absurd (cc);
}

pub SlotOk-data_failed : (m : ℕ → Bool) (cares : ℕ → Type 0) (v : ℕ → List ℕ) (n told sectors : ℕ) (bytes : List ℕ) (slot : Slot) → told ≤ n → sectors ≤ 8 → length bytes ≡ 4096 →
    ((k : ℕ) → told ≤ k → k ≤ n → m k ≡ false) → SlotOk m cares v n told slot → SlotOk m cares v n told (data_failed_slot n bytes sectors slot)
SlotOk-data_failed m cares v n told sectors bytes slot low few size none s =
    let pages = slot.block.pages in
    let left = torn sectors bytes pages.seen in
    let left_size : length left ≡ 4096 = length-torn sectors bytes pages.seen few size s.ok.seen_size in
    record {
      ok = BlockOk-rewritten m cares v n told slot.block (page_failed bytes sectors pages) (none told (omega arith) low) left_size
          (all_contents IsSize pages left (left ∷ bytes ∷ []) s.ok.sizes (two_contents IsSize left bytes left_size size))
          (suc (length pages.writes), omega (arith, length-append pages.writes (left ∷ bytes ∷ [])), sym (get_or_at pages.writes left (bytes ∷ []) [] (length pages.writes) refl)) s.ok;
      steady = s.steady;
      worth = s.worth;
      written = λ h e. let d : n ≡ h = cc in (omega arith, ap m (sym d) ∙ none n low (omega arith), λ k l g. none k l (omega (arith, d)));
      kept = λ b e. absurd (cc);
    }

-- a write back, of a page whose entries are all acknowledged
pub SlotOk-home : (m : ℕ → Bool) (cares : ℕ → Type 0) (v : ℕ → List ℕ) (n told : ℕ) (bytes : List ℕ) (pages : PageHistory) (dirty unsynced : Option Span) (data_at : Option ℕ) (kept : Option (List ℕ)) →
    IsSome dirty → EndsBy told dirty → bytes ≡ v told → length bytes ≡ 4096 →
    SlotOk m cares v n told (record { block = record { pages = pages; dirty = dirty; unsynced = unsynced }; data_at = data_at; kept = kept }) →
    SlotOk m cares v n told (home_slot bytes (record { block = record { pages = pages; dirty = dirty; unsynced = unsynced }; data_at = data_at; kept = kept }))
SlotOk-home m cares v n told bytes pages None unsynced data_at kept there ends same size s = absurd (cc)
SlotOk-home m cares v n told bytes pages (Some span) unsynced data_at kept there ends same size s = record {
  ok = BlockOk-sent (Meta m) cares v n told bytes pages (Some span) unsynced there ends same size s.ok;
  steady = λ k l h. inr (keep k l (s.steady k l h));
  worth = λ other e h. absurd (cc);
  written = λ h e. absurd (cc);
  kept = λ b e. absurd (never (m n) (s.worth span refl ends).0 (s.kept b e).0);
}
  where
    keep : (k : ℕ) → told ≤ k → LiesIn (suc k) (Some span) ⊎ (m (suc k) ≡ m k) → m (suc k) ≡ m k
    keep k l (inl lies) = absurd (omega (arith, lies.1, ends))
    keep k l (inr e) = e

pub SlotOk-home_failed : (m : ℕ → Bool) (cares : ℕ → Type 0) (v : ℕ → List ℕ) (n told sectors : ℕ) (bytes : List ℕ) (pages : PageHistory) (dirty unsynced : Option Span) (data_at : Option ℕ) (kept : Option (List ℕ)) →
    IsSome dirty → EndsBy told dirty → sectors ≤ 8 → bytes ≡ v told → length bytes ≡ 4096 →
    SlotOk m cares v n told (record { block = record { pages = pages; dirty = dirty; unsynced = unsynced }; data_at = data_at; kept = kept }) →
    SlotOk m cares v n told (home_failed_slot bytes sectors (record { block = record { pages = pages; dirty = dirty; unsynced = unsynced }; data_at = data_at; kept = kept }))
SlotOk-home_failed m cares v n told sectors bytes pages None unsynced data_at kept there ends few same size s = absurd (cc)
SlotOk-home_failed m cares v n told sectors bytes pages (Some span) unsynced data_at kept there ends few same size s = record {
  ok = BlockOk-failed (Meta m) cares v n told sectors bytes (record { pages = pages; dirty = Some span; unsynced = unsynced }) few same size s.ok;
  steady = s.steady;
  worth = s.worth;
  written = λ h e. absurd (cc);
  kept = λ b e. absurd (never (m n) (s.worth span refl ends).0 (s.kept b e).0);
}

-- ---- a sync

synced_kept : (b : Bool) (old : Option (List ℕ)) (seen bytes : List ℕ) → (if b then old else Some seen) ≡ Some bytes → ((b ≡ true) × (old ≡ Some bytes)) ⊎ ((b ≡ false) × (seen ≡ bytes))
synced_kept true old seen bytes e = inl (refl, e)
synced_kept false old seen bytes e = inr (refl, cc)

pub SlotOk-synced : (m : ℕ → Bool) (cares : ℕ → Type 0) (v : ℕ → List ℕ) (n told : ℕ) (slot : Slot) → SlotOk m cares v n told slot →
    SlotOk m cares v n told (record slot { block = synced slot.block; kept = if m n then slot.kept else Some slot.block.pages.seen })
SlotOk-synced m cares v n told slot s = record {
  ok = BlockOk-synced (Meta m) cares v n told slot.block s.ok;
  steady = s.steady;
  worth = s.worth;
  written = s.written;
  kept = λ bytes e. at bytes (synced_kept (m n) slot.kept slot.block.pages.seen bytes e);
}
  where
    only : (bytes : List ℕ) → slot.block.pages.seen ≡ bytes → (j : ℕ) → j ≤ 0 → content_of (resting slot.block.pages.seen) j ≡ bytes
    only bytes e zero l = e
    only bytes e (suc j) l = absurd (omega arith)

    at : (bytes : List ℕ) → ((m n ≡ true) × (slot.kept ≡ Some bytes)) ⊎ ((m n ≡ false) × (slot.block.pages.seen ≡ bytes)) →
        (m n ≡ false) × ((j : ℕ) → j ≤ 0 → content_of (resting slot.block.pages.seen) j ≡ bytes)
    at bytes (inl x) = absurd (never (m n) x.0 (s.kept bytes x.1).0)
    at bytes (inr x) = (x.0, only bytes x.1)
