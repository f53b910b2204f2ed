-- Parts of a transaction, one after another.
use Rattle.std.proofs.Common.{◌≡◌, ◌⊎◌, ◌||◌, ◌&&◌, not, if◌then◌else◌, ℕ, Bool, true, false, List, [], ◌∷◌, ◌++◌, length, Option, refl, sym, ap, ◌∙◌, inl, inr, arith}
use Rattle.std.proofs.lemmas.Bool.{cases_Bool, or_parts}
use Rattle.jfs_ranges.specs.declared.edit.Edit.{Edit}
use Rattle.jfs_ranges.specs.Apply.{apply_tx, touches_tx, touches_edit}
use Rattle.jfs_ranges.proofs.OnTop.{applied_onto}
use Rattle.jfs_recovery.specs.crash_core.proofs.Bytes.{apply_tx-untouched, length-apply_tx}
use Rattle.jfs_recovery.specs.records.specs.Redo.{closes_in, is_noredo}
use Rattle.jfs_recovery.specs.objects.specs.Readers.{Readers}
use Rattle.jfs_recovery.specs.objects.specs.Volume.{Volume}
use Rattle.jfs_recovery.specs.objects.specs.Owners.{Agrees}
use Rattle.jfs_recovery.specs.kinds.specs.Owner.{Owner, owner_of, is_logged}
use Rattle.jfs_recovery.specs.kinds.specs.Owner.Owner.{Data}
use Rattle.jfs_recovery.specs.kinds.specs.Laws.{TakesNoneFreed}
use Rattle.jfs_recovery.specs.kinds.proofs.Single.{has_owners}
use Rattle.jfs_recovery.specs.kinds.proofs.Stay.{is_free, kept_law}
use Rattle.jfs_recovery.specs.Lines.{rest_of}
use Rattle.jfs_recovery.proofs.Lines.{all_rest}
use Rattle.jfs_halves.specs.Marks.{frees_page}
use Rattle.jfs_logged.specs.Logged.{logged_in, LogsPage, PageLaw}
use Rattle.jfs_logged.specs.Own.{IsKeptOrData, TellsKept, LogsItsOwn, LogsPart, FreesNoneTaken, JoinLaw}

pub never : {A : Type 0} (b : Bool) → b ≡ true → b ≡ false → A
never b e d = absurd (let x : true ≡ false = sym e ∙ d in cc)

pub closes_onto : (p : ℕ) (tx more : List Edit) → closes_in p (tx ++ more) ≡ (closes_in p tx || closes_in p more)
closes_onto p [] more = refl
closes_onto p (e ∷ es) more = ap (λ (b : Bool). is_noredo p e || b) (closes_onto p es more) ∙ assoc (is_noredo p e) (closes_in p es) (closes_in p more)
  where
    assoc : (a b c : Bool) → (a || (b || c)) ≡ ((a || b) || c)
    assoc true b c = refl
    assoc false b c = refl

-- what follows the last NoRedo of the page
pub rest_onto : (p : ℕ) (tx more : List Edit) → rest_of p (tx ++ more) ≡ (if closes_in p more then rest_of p more else rest_of p tx ++ more)
unfolding rest_of
rest_onto p [] more = at (closes_in p more) refl
  where
    at : (b : Bool) → closes_in p more ≡ b → rest_of p more ≡ (if b then rest_of p more else more)
    at true e = refl
    at false e = all_rest p more e
rest_onto p (e ∷ es) more = at (closes_in p more) (closes_in p es) (is_noredo p e) refl (rest_onto p es more) (closes_onto p es more)
  where
    or_true : (b : Bool) → (b || true) ≡ true
    or_true true = refl
    or_true false = refl

    at : (c d n : Bool) → closes_in p more ≡ c → rest_of p (es ++ more) ≡ (if c then rest_of p more else rest_of p es ++ more) → closes_in p (es ++ more) ≡ (d || closes_in p more)
        → (if closes_in p (es ++ more) then rest_of p (es ++ more) else (if n then es ++ more else e ∷ (es ++ more))) ≡ (if c then rest_of p more else (if d then rest_of p es else (if n then es else e ∷ es)) ++ more)
    at true d n c rest closes = let all : closes_in p (es ++ more) ≡ true = closes ∙ ap (λ (b : Bool). d || b) c ∙ or_true d in rw all rest
    at false true n c rest closes = let all : closes_in p (es ++ more) ≡ true = closes in rw all rest
    at false false true c rest closes = let none : closes_in p (es ++ more) ≡ false = closes ∙ c in rw none refl
    at false false false c rest closes = let none : closes_in p (es ++ more) ≡ false = closes ∙ c in rw none refl

module _ (p : ℕ) (was mid now : Bool) (tx more : List Edit) (between after : List ℕ) (first : LogsPage p was mid tx between) (later : LogsPage p mid now more after) (goes : mid ≡ true → now ≡ true → after ≡ apply_tx p more between) where
  -- the later part has no NoRedo of the page
  module _ (none : closes_in p more ≡ false) where
    rest_is : rest_of p (tx ++ more) ≡ rest_of p tx ++ more
    rest_is = rest_onto p tx more ∙ ap (λ (b : Bool). if b then rest_of p more else rest_of p tx ++ more) none

    both : (a : List ℕ) → apply_tx p (rest_of p (tx ++ more)) a ≡ apply_tx p more (apply_tx p (rest_of p tx) a)
    both a = ap (λ (x : List Edit). apply_tx p x a) rest_is ∙ applied_onto p (rest_of p tx) more a

    own_rest : (a : List ℕ) → apply_tx p (rest_of p more) a ≡ apply_tx p more a
    own_rest a = ap (λ (x : List Edit). apply_tx p x a) (all_rest p more none)

    size_of : (a : List ℕ) → length a ≡ 4096 → length (apply_tx p (rest_of p tx) a) ≡ 4096
    size_of a s = length-apply_tx p (rest_of p tx) a ∙ s

  -- it has one
  module _ (some : closes_in p more ≡ true) where
    rest_later : (a : List ℕ) → apply_tx p (rest_of p (tx ++ more)) a ≡ apply_tx p (rest_of p more) a
    rest_later a = ap (λ (x : List Edit). apply_tx p x a) (rest_onto p tx more ∙ ap (λ (b : Bool). if b then rest_of p more else rest_of p tx ++ more) some)

  or_false : (a b : Bool) → (a || b) ≡ true → b ≡ false → a ≡ true
  or_false true b h e = refl
  or_false false b h e = absurd (let x : true ≡ false = sym h ∙ e in cc)

  or_right : (a b : Bool) → b ≡ true → (a || b) ≡ true
  or_right true b e = refl
  or_right false b e = e

  or_left : (a b : Bool) → a ≡ true → (a || b) ≡ true
  or_left true b e = refl
  or_left false b e = absurd (cc (e))

  why_first : (closes_in p (tx ++ more) ≡ true) ⊎ (was ≡ false) → closes_in p more ≡ false → (closes_in p tx ≡ true) ⊎ (was ≡ false)
  why_first (inl c) none = inl (or_false (closes_in p tx) (closes_in p more) (sym (closes_onto p tx more) ∙ c) none)
  why_first (inr w) none = inr w

  pub page_joined : LogsPage p was now (tx ++ more) after
  page_joined = record {
    whole = λ there why a s. whole there why a s (cases_Bool (closes_in p more)) (cases_Bool mid);
    shut = λ gone a s. shut gone a s (cases_Bool (closes_in p more)) (cases_Bool mid);
    noted = λ gone there. closes_onto p tx more ∙ noted gone there (cases_Bool mid);
  }
    where
      whole : now ≡ true → (closes_in p (tx ++ more) ≡ true) ⊎ (was ≡ false) → (a : List ℕ) → length a ≡ 4096 → (closes_in p more ≡ true) ⊎ (closes_in p more ≡ false) → (mid ≡ true) ⊎ (mid ≡ false)
          → apply_tx p (rest_of p (tx ++ more)) a ≡ after
      whole there why a s (inl some) m = rest_later some a ∙ later.whole there (inl some) a s
      whole there why a s (inr none) (inr out) = both none a ∙ sym (own_rest none (apply_tx p (rest_of p tx) a)) ∙ later.whole there (inr out) (apply_tx p (rest_of p tx) a) (size_of none a s)
      whole there why a s (inr none) (inl inside) = both none a ∙ ap (apply_tx p more) (first.whole inside (why_first why none) a s) ∙ sym (goes inside there)

      shut : now ≡ false → (a : List ℕ) → length a ≡ 4096 → (closes_in p more ≡ true) ⊎ (closes_in p more ≡ false) → (mid ≡ true) ⊎ (mid ≡ false) → apply_tx p (rest_of p (tx ++ more)) a ≡ a
      shut gone a s (inl some) m = rest_later some a ∙ later.shut gone a s
      shut gone a s (inr none) (inl inside) = never (closes_in p more) (later.noted gone inside) none
      shut gone a s (inr none) (inr out) = both none a ∙ ap (apply_tx p more) (first.shut out a s) ∙ sym (own_rest none a) ∙ later.shut gone a s

      noted : now ≡ false → was ≡ true → (mid ≡ true) ⊎ (mid ≡ false) → (closes_in p tx || closes_in p more) ≡ true
      noted gone there (inl inside) = or_right (closes_in p tx) (closes_in p more) (later.noted gone inside)
      noted gone there (inr out) = or_left (closes_in p tx) (closes_in p more) (first.noted out there)

pub touches_onto : (p : ℕ) (tx more : List Edit) → touches_tx p tx ≡ false → touches_tx p more ≡ false → touches_tx p (tx ++ more) ≡ false
touches_onto p [] more h k = k
touches_onto p (e ∷ es) more h k = at (touches_edit p e) h (λ x. touches_onto p es more x k)
  where
    at : (b : Bool) → (b || touches_tx p es) ≡ false → (touches_tx p es ≡ false → touches_tx p (es ++ more) ≡ false) → (b || touches_tx p (es ++ more)) ≡ false
    at true h rest = absurd (cc (h))
    at false h rest = rest h

-- what has no owner isn't kept safe
pub unused : (r : Readers) (v : Volume) → Agrees r v → (p : ℕ) → v.used p ≡ false → logged_in r v p ≡ false
unused r v agrees p free = ap (λ (o : Option Owner). is_logged o) (is_free r v agrees p free)

pub is_in_use : (r : Readers) (v : Volume) → Agrees r v → (p : ℕ) → logged_in r v p ≡ true → v.used p ≡ true
is_in_use r v agrees p logged = by (cases_Bool (v.used p))
  where
    by : (v.used p ≡ true) ⊎ (v.used p ≡ false) → v.used p ≡ true
    by (inl used) = used
    by (inr free) = never (logged_in r v p) logged (unused r v agrees p free)

-- a block with the same owner is kept safe or data as before
pub same_kind : (r : Readers) (v w : Volume) → Agrees r v → Agrees r w → (p : ℕ) → owner_of r w p ≡ owner_of r v p → IsKeptOrData r v p → IsKeptOrData r w p
same_kind r v w before after p same (inl logged) = inl (ap (λ (o : Option Owner). is_logged o) same ∙ logged)
same_kind r v w before after p same (inr (n, some)) = inr (n, (let one = (has_owners r w after).has_it p (Data n) (same ∙ (has_owners r v before).alone p (Data n) some) in omega (arith, one)))

module _ (r : Readers) (v w u : Volume) (tx more : List Edit) (one : LogsPart r v w tx) (two : LogsPart r w u more) (fresh : TakesNoneFreed v w u) where
  -- a page that is kept safe before or at the end, or that the first part takes and the later one frees
  abbrev KeptOrPassing : ℕ → Type 0
  KeptOrPassing p = TellsKept r v u p ⊎ ((v.used p ≡ false) × (w.used p ≡ true) × (u.used p ≡ false))

  abbrev first : LogsItsOwn r v w tx
  first = one.own

  abbrev later : LogsItsOwn r w u more
  later = two.own

  closes_one : (p : ℕ) → closes_in p (tx ++ more) ≡ true → (closes_in p tx ≡ true) ⊎ (closes_in p more ≡ true)
  closes_one p h = by (closes_in p tx) refl (sym (closes_onto p tx more) ∙ h)
    where
      by : (b : Bool) → closes_in p tx ≡ b → (b || closes_in p more) ≡ true → (closes_in p tx ≡ true) ⊎ (closes_in p more ≡ true)
      by true e k = inl e
      by false e k = inr k

  -- a block that the first part frees, or that the later one does
  closed : (p : ℕ) → v.used p ≡ true → (closes_in p tx ≡ true) ⊎ (closes_in p more ≡ true) → (w.used p ≡ true) ⊎ (w.used p ≡ false) → (u.used p ≡ true) ⊎ (u.used p ≡ false) → u.used p ≡ false
  closed p was some mid (inr gone) = gone
  closed p was some (inr out) (inl now) = never (w.used p) (fresh p was now) out
  closed p was (inl some) (inl there) (inl now) = never (w.used p) there (first.closed p some was)
  closed p was (inr some) (inl there) (inl now) = later.closed p some there

  comes : (p : ℕ) → v.used p ≡ false → u.used p ≡ true → (w.used p ≡ true) ⊎ (w.used p ≡ false) → IsKeptOrData r u p
  comes p free now (inl there) = same_kind r w u later.before later.after p (later.owners p there now) (first.comes p free there)
  comes p free now (inr out) = later.comes p out now

  -- a page that either has lines of
  touches_one : (p : ℕ) → touches_tx p (tx ++ more) ≡ true → (touches_tx p tx ≡ true) ⊎ (touches_tx p more ≡ true)
  touches_one p h = by (cases_Bool (touches_tx p tx)) (cases_Bool (touches_tx p more))
    where
      by : (touches_tx p tx ≡ true) ⊎ (touches_tx p tx ≡ false) → (touches_tx p more ≡ true) ⊎ (touches_tx p more ≡ false) → (touches_tx p tx ≡ true) ⊎ (touches_tx p more ≡ true)
      by (inl e) k = inl e
      by (inr e) (inl k) = inr k
      by (inr e) (inr k) = never (touches_tx p (tx ++ more)) h (touches_onto p tx more e k)

  -- one that is kept safe between them
  between : (p : ℕ) → logged_in r w p ≡ true → (v.used p ≡ true) ⊎ (v.used p ≡ false) → (u.used p ≡ true) ⊎ (u.used p ≡ false) → KeptOrPassing p
  between p mid (inl was) k = inl (inl (ap (λ (o : Option Owner). is_logged o) (sym (first.owners p was (is_in_use r w first.after p mid))) ∙ mid))
  between p mid (inr free) (inl now) = inl (inr (ap (λ (o : Option Owner). is_logged o) (later.owners p (is_in_use r w first.after p mid) now) ∙ mid))
  between p mid (inr free) (inr gone) = inr (free, is_in_use r w first.after p mid, gone)

  lines : (p : ℕ) → (touches_tx p tx ≡ true) ⊎ (touches_tx p more ≡ true) → KeptOrPassing p
  lines p (inl told) = by (one.kept p told)
    where
      by : TellsKept r v w p → KeptOrPassing p
      by (inl was) = inl (inl was)
      by (inr mid) = between p mid (cases_Bool (v.used p)) (cases_Bool (u.used p))
  lines p (inr told) = by (two.kept p told)
    where
      by : TellsKept r w u p → KeptOrPassing p
      by (inl mid) = between p mid (cases_Bool (v.used p)) (cases_Bool (u.used p))
      by (inr now) = inl (inr now)

  told : (p : ℕ) → KeptOrPassing p → TellsKept r v u p ⊎ ((v.used p ≡ false) × (u.used p ≡ false))
  told p (inl it) = inl it
  told p (inr (free, mid, gone)) = inr (free, gone)

  pub joined : LogsItsOwn r v u (tx ++ more)
  joined = record {
    before = first.before;
    after = later.after;
    areas = λ p. later.areas p ∙ first.areas p;
    owners = kept_law.chained r v w u first.owners later.owners fresh;
    pages = λ p was now. (let there = fresh p was now in later.pages p there now ∙ ap (apply_tx p more) (first.pages p was there) ∙ sym (applied_onto p tx more (v.page p)));
    logs = λ p. page_joined p (logged_in r v p) (logged_in r w p) (logged_in r u p) tx more (w.page p) (u.page p) (first.logs p) (later.logs p)
        (λ there now. later.pages p (is_in_use r w first.after p there) (is_in_use r u later.after p now));
    untold = λ p area. touches_onto p tx more (first.untold p area) (later.untold p (let s = first.areas p in omega (arith, s, area)));
    closed = λ p some was. closed p was (closes_one p some) (cases_Bool (w.used p)) (cases_Bool (u.used p));
    told = λ p lined. told p (lines p (touches_one p lined));
    comes = λ p free now. comes p free now (cases_Bool (w.used p));
  }

  module _ (stays : FreesNoneTaken v w u) where
    kept : (p : ℕ) → KeptOrPassing p → TellsKept r v u p
    kept p (inl it) = it
    kept p (inr (free, mid, gone)) = never (u.used p) (stays p free mid) gone

    pub joined_part : LogsPart r v u (tx ++ more)
    joined_part = record { own = joined; kept = λ p lined. kept p (lines p (touches_one p lined)) }

pub join_law : JoinLaw
join_law = record {
  parts = λ r v w u tx more one two fresh stays. joined_part r v w u tx more one two fresh stays;
  all = λ r v w u tx more one two fresh. joined r v w u tx more one two fresh;
}

-- ---- one page

pub rest_untouched : (p : ℕ) (tx : List Edit) → touches_tx p tx ≡ false → touches_tx p (rest_of p tx) ≡ false
unfolding rest_of
rest_untouched p [] h = refl
rest_untouched p (e ∷ es) h = let parts = or_parts (touches_edit p e) (touches_tx p es) h in at (closes_in p es) (is_noredo p e) parts.1 (rest_untouched p es parts.1)
  where
    at : (b c : Bool) → touches_tx p es ≡ false → touches_tx p (rest_of p es) ≡ false → touches_tx p (if b then rest_of p es else (if c then es else e ∷ es)) ≡ false
    at true c here rest = rest
    at false true here rest = here
    at false false here rest = h

-- no line follows the last NoRedo of a page that is freed
pub freed_rest : (p : ℕ) (tx : List Edit) → frees_page p tx ≡ true → (closes_in p tx ≡ true) × (touches_tx p (rest_of p tx) ≡ false)
unfolding rest_of
freed_rest p [] h = absurd (cc (h))
freed_rest p (e ∷ es) h = at (λ more. freed_rest p es more) (is_noredo p e) (touches_tx p es) refl refl h
  where
    or_true : (b : Bool) → (b || true) ≡ true
    or_true true = refl
    or_true false = refl

    later : (closes_in p es ≡ true) × (touches_tx p (rest_of p es) ≡ false) → (n : Bool) → ((n || closes_in p es) ≡ true) × (touches_tx p (if closes_in p es then rest_of p es else (if n then es else e ∷ es)) ≡ false)
    later x n = rw x.0 (or_true n, x.1)

    at : (frees_page p es ≡ true → (closes_in p es ≡ true) × (touches_tx p (rest_of p es) ≡ false)) → (n t : Bool) → is_noredo p e ≡ n → touches_tx p es ≡ t → ((n && not t) || frees_page p es) ≡ true
        → ((n || closes_in p es) ≡ true) × (touches_tx p (if closes_in p es then rest_of p es else (if n then es else e ∷ es)) ≡ false)
    at more true false d q g = (refl, here (closes_in p es))
      where
        here : (b : Bool) → touches_tx p (if b then rest_of p es else es) ≡ false
        here true = rest_untouched p es q
        here false = q
    at more true true d q g = later (more g) true
    at more false t d q g = later (more g) false

pub page_law : PageLaw
page_law p was now tx page (inl told) = record {
  whole = λ there why a s. all a ∙ told.whole (out why) there a s;
  shut = λ gone a s. all a ∙ told.kept gone a s;
  noted = λ gone there. never now (told.stays there) gone;
}
  where
    all : (a : List ℕ) → apply_tx p (rest_of p tx) a ≡ apply_tx p tx a
    all a = ap (λ (x : List Edit). apply_tx p x a) (all_rest p tx told.open_is)

    out : (closes_in p tx ≡ true) ⊎ (was ≡ false) → was ≡ false
    out (inl c) = never (closes_in p tx) c told.open_is
    out (inr w) = w
page_law p was now tx page (inr freed) = record {
  whole = λ there. never now there freed.gone;
  shut = λ gone a s. apply_tx-untouched p (rest_of p tx) a s (freed_rest p tx freed.freed).1;
  noted = λ gone there. (freed_rest p tx freed.freed).0;
}
