-- Parts that change an object's tree and its inode, or by which an object goes, log what matters.
use Rattle.std.proofs.Common.{◌≡◌, ◌≢◌, ◌⊎◌, ◌<◌, ◌&&◌, ◌||◌, not, ℕ, Bool, true, false, List, [], ◌∷◌, ◌++◌, length, is_some, Option, Some, None, refl, sym, ap, ◌∙◌, inl, inr, arith}
use Rattle.std.proofs.lemmas.Bool.{cases_Bool}
use Rattle.jfs_ranges.specs.declared.edit.Edit.{Edit}
use Rattle.jfs_ranges.specs.Apply.{apply_tx, touches_tx}
use Rattle.jfs_ranges.proofs.OnTop.{applied_onto}
use Rattle.jfs_tree.specs.Edit.{count_in}
use Rattle.jfs_recovery.specs.crash_core.proofs.Bytes.{length-apply_tx}
use Rattle.jfs_recovery.specs.records.specs.Redo.{closes_in, is_noredo}
use Rattle.jfs_recovery.specs.objects.specs.Readers.{Readers}
use Rattle.jfs_recovery.specs.objects.specs.Volume.{Volume, home}
use Rattle.jfs_recovery.specs.objects.specs.Objects.{Object, objects, spelled}
use Rattle.jfs_recovery.specs.objects.specs.Owners.{Agrees, IsSound, holds, bit}
use Rattle.jfs_recovery.specs.objects.specs.Laws.{ChangesOne}
use Rattle.jfs_recovery.specs.objects.proofs.Set.{object_is_set}
use Rattle.jfs_recovery.specs.objects.proofs.Drop.{object_goes}
use Rattle.jfs_recovery.specs.objects.proofs.Sums.{put_here, zero_or_more}
use Rattle.jfs_recovery.specs.kinds.specs.Owner.{Owner, owner_of, is_logged, has_page, has_data, has_still}
use Rattle.jfs_recovery.specs.kinds.specs.Owner.Owner.{Area, Inodes, Tree, Data, Still}
use Rattle.jfs_recovery.specs.kinds.specs.Laws.{IsOwnerIn, OwnersStay}
use Rattle.jfs_recovery.specs.kinds.proofs.Edits.{edit_law}
use Rattle.jfs_recovery.specs.kinds.proofs.Logged.{logged_law}
use Rattle.jfs_recovery.specs.kinds.proofs.Parts.{parts}
use Rattle.jfs_recovery.specs.kinds.proofs.Single.{has_owners}
use Rattle.jfs_halves.specs.Marks.{frees_page}
use Rattle.jfs_logged.specs.Logged.{logged_in, LeavesPage}
use Rattle.jfs_logged.specs.Own.{IsKeptOrData, LogsPart}
use Rattle.jfs_logged.specs.Written.{WritesTree, DropsTree, TreesLaw}
use Rattle.jfs_logged.proofs.Joined.{never, closes_onto, freed_rest, touches_onto, unused}
use Rattle.jfs_logged.proofs.Pages.{leaves_onto}
use Rattle.jfs_logged.proofs.Staged.{staged}

-- ---- edits

-- a page that was freed, and has no line behind that
pub freed_onto : (p : ℕ) (tx more : List Edit) → frees_page p tx ≡ true → touches_tx p more ≡ false → frees_page p (tx ++ more) ≡ true
freed_onto p [] more h k = absurd (cc (h))
freed_onto p (e ∷ es) more h k = at (is_noredo p e) (touches_tx p es) (touches_tx p (es ++ more)) (λ x. touches_onto p es more x k) h (λ x. freed_onto p es more x k)
  where
    or_true : (b : Bool) → (b || true) ≡ true
    or_true true = refl
    or_true false = refl

    at : (n t u : Bool) → (t ≡ false → u ≡ false) → ((n && not t) || frees_page p es) ≡ true → (frees_page p es ≡ true → frees_page p (es ++ more) ≡ true) → ((n && not u) || frees_page p (es ++ more)) ≡ true
    at true false u still h rest = ap (λ (b : Bool). not b || frees_page p (es ++ more)) (still refl)
    at true true u still h rest = ap (λ (b : Bool). not u || b) (rest h) ∙ or_true (not u)
    at false t u still h rest = rest h

closed_first : (p : ℕ) (tx more : List Edit) → closes_in p more ≡ false → closes_in p (tx ++ more) ≡ true → closes_in p tx ≡ true
closed_first p tx more none some = by (closes_in p tx) (sym (closes_onto p tx more) ∙ some)
  where
    by : (b : Bool) → (b || closes_in p more) ≡ true → b ≡ true
    by true h = refl
    by false h = never (closes_in p more) h none

open_first : (p : ℕ) (tx more : List Edit) → closes_in p (tx ++ more) ≡ false → closes_in p tx ≡ false
open_first p tx more none = by (closes_in p tx) (sym (closes_onto p tx more) ∙ none)
  where
    by : (b : Bool) → (b || closes_in p more) ≡ false → b ≡ false
    by true h = absurd (cc (h))
    by false h = refl

-- ---- owners

some_is : {A : Type 0} {x y : A} → Some x ≡ Some y → x ≡ y
some_is h = cc (h)

module _ (r : Readers) (v : Volume) (agrees : Agrees r v) where
  -- a tree page
  page_logged : (n q : ℕ) → 0 < has_page r (objects r v n) q → logged_in r v q ≡ true
  page_logged n q l = ap (λ (o : Option Owner). is_logged o) ((has_owners r v agrees).alone q (Tree n) l)

  -- what an object has otherwise
  pub not_page : (n q : ℕ) → 0 < holds r (objects r v n) q → has_page r (objects r v n) q ≡ 0 → logged_in r v q ≡ false
  not_page n q held none = elim (zero_or_more (has_data r (objects r v n) q)) [
    | inr d ↦ ap (λ (o : Option Owner). is_logged o) ((has_owners r v agrees).alone q (Data n) d)
    | inl z ↦ ap (λ (o : Option Owner). is_logged o) ((has_owners r v agrees).alone q (Still n) (let p = parts r (objects r v n) q in omega (arith, p, held, none, z)))
  ]

  no_page : (n q : ℕ) → logged_in r v q ≡ false → has_page r (objects r v n) q ≡ 0
  no_page n q out = elim (zero_or_more (has_page r (objects r v n) q)) [
    | inl z ↦ z
    | inr l ↦ never (logged_in r v q) (page_logged n q l) out
  ]

  -- a page of a fixed area is in use, and no tree's
  area_owner : (q : ℕ) → 0 < v.area q → owner_of r v q ≡ Some Area
  area_owner q area = (has_owners r v agrees).alone q Area area

  pub area_used : (q : ℕ) → 0 < v.area q → v.used q ≡ true
  area_used q area = (has_owners r v agrees).used q ∙ ap is_some (area_owner q area)

  area_apart : (n q : ℕ) → 0 < v.area q → has_page r (objects r v n) q ≡ 0
  area_apart n q area = elim (zero_or_more (has_page r (objects r v n) q)) [
    | inl z ↦ z
    | inr l ↦ absurd (different (sym (area_owner q area) ∙ (has_owners r v agrees).alone q (Tree n) l))
  ]
    where
      different : Some Area ≡ Some (Tree n) → ⊥
      different h = cc (h)

-- an inode's page
module _ (r : Readers) (w : Volume) (sound : IsSound r w) (n page : ℕ) (at : home w.extents n ≡ Some page) where
  page_owner : owner_of r w page ≡ Some Inodes
  page_owner = (logged_law.reads r w sound).inodes n page at

  apart_from : (q : ℕ) → logged_in r w q ≡ false → q ≢ page
  apart_from q out e = never (logged_in r w page) (ap (λ (o : Option Owner). is_logged o) page_owner) (ap (logged_in r w) (sym e) ∙ out)

  no_area : (q : ℕ) → 0 < w.area q → q ≢ page
  no_area q area e = different (sym (area_owner r w sound.agrees q area) ∙ ap (owner_of r w) e ∙ page_owner)
    where
      different : Some Area ≡ Some Inodes → ⊥
      different h = cc (h)

-- ---- an object is set

module _ (r : Readers) (v w : Volume) (n : ℕ) (tree inode : List Edit) (sound : IsSound r v) (x : WritesTree r v w n tree inode) where
  abbrev now : Object
  now = spelled r x.mid x.set

  c : ChangesOne r v w n (Some now)
  c = (object_is_set r v w n x.set x.mid x.taken x.freed sound x.sets).0

  after : Agrees r w
  after = c.sound.agrees

  stay : OwnersStay r v w
  stay = edit_law.sets r v w n x.set x.mid x.taken x.freed sound x.sets x.kinds

  now_is : objects r w n ≡ Some now
  now_is = c.objects_are n ∙ put_here n (Some now) (objects r v)

  at_now : home w.extents n ≡ Some x.page
  at_now = ap (λ (e : List (Option ℕ)). home e n) x.sets.extents ∙ x.at

  pages_are : (q : ℕ) → has_page r (objects r w n) q ≡ has_page r (Some now) q
  pages_are q = ap (λ (o : Option Object). has_page r o q) now_is

  freed : (q : ℕ) → closes_in q (tree ++ inode) ≡ true → (frees_page q (tree ++ inode) ≡ true) × (logged_in r v q ≡ true) × (w.used q ≡ false)
  freed q some = elim (zero_or_more (count_in q x.gone)) [
    | inl z ↦ never (closes_in q tree) (closed_first q tree inode (x.runs.closes_none q) some) (x.tells.open_are q z)
    | inr l ↦ (let out = unused r w after q (x.gone_are q l).0 in (freed_onto q tree inode (x.tells.freed_are q l) (x.runs.quiet q (apart_from r w c.sound n x.page at_now q out)), page_logged r v sound.agrees n q (x.gone_are q l).1, (x.gone_are q l).0))
  ]

  -- what isn't used any more and wasn't a tree page wasn't logged
  was_other : (q : ℕ) → v.used q ≡ true → w.used q ≡ false → has_page r (objects r v n) q ≡ 0 → logged_in r v q ≡ false
  was_other q used free none = not_page r v sound.agrees n q (held (zero_or_more (count_in q x.taken))) none
    where
      held : (count_in q x.taken ≡ 0) ⊎ (0 < count_in q x.taken) → 0 < holds r (objects r v n) q
      held (inr l) = never (v.used q) used (x.sets.takes.fresh q l)
      held (inl z) = let b = x.sets.blocks q in let u = x.sets.takes.used q in let a = ap bit used in let f = ap bit free in omega (arith, b, u, a, f, z)

  others : (q : ℕ) → closes_in q (tree ++ inode) ≡ false → logged_in r w q ≡ false → LeavesPage q (tree ++ inode) × (logged_in r v q ≡ false)
  others q shut out = (leaves_onto q tree inode (x.tells.others q (x.others q none not_gone)) (x.runs.others q (apart_from r w c.sound n x.page at_now q out)), before (cases_Bool (v.used q)) (cases_Bool (w.used q)))
    where
      none : has_page r (Some now) q ≡ 0
      none = sym (pages_are q) ∙ no_page r w after n q out

      not_gone : count_in q x.gone ≡ 0
      not_gone = elim (zero_or_more (count_in q x.gone)) [
        | inl z ↦ z
        | inr l ↦ never (closes_in q tree) (freed_rest q tree (x.tells.freed_are q l)).0 (open_first q tree inode shut)
      ]

      before : (v.used q ≡ true) ⊎ (v.used q ≡ false) → (w.used q ≡ true) ⊎ (w.used q ≡ false) → logged_in r v q ≡ false
      before (inr free) k = unused r v sound.agrees q free
      before (inl used) (inl still) = ap (λ (o : Option Owner). is_logged o) (sym (stay q used still)) ∙ out
      before (inl used) (inr free) = elim (zero_or_more (has_page r (objects r v n) q)) [
        | inl z ↦ was_other q used free z
        | inr l ↦ (let g = x.go q free l in absurd (omega (arith, g, not_gone)))
      ]

  whole : (q : ℕ) → v.used q ≡ false → w.used q ≡ true → logged_in r w q ≡ true → (a : List ℕ) → length a ≡ 4096 → apply_tx q (tree ++ inode) a ≡ w.page q
  whole q free used in_log a s = by (edit_law.takes r v w n x.set x.mid x.taken x.freed sound x.sets q free used)
    where
      not_logged : (o : Owner) → is_logged (Some o) ≡ false → owner_of r w q ≡ Some o → apply_tx q (tree ++ inode) a ≡ w.page q
      not_logged o out e = never (logged_in r w q) in_log (ap (λ (y : Option Owner). is_logged y) e ∙ out)

      same_page : x.sets.puts.page ≡ x.page
      same_page = some_is (sym x.sets.puts.at ∙ x.at)

      of_tree : owner_of r w q ≡ Some (Tree n) → apply_tx q (tree ++ inode) a ≡ w.page q
      of_tree e =
          let one = (has_owners r w after).has_it q (Tree n) e in
          let same = pages_are q in
          let t = x.come q free (omega (arith, one, same)) in
          let told : apply_tx q tree a ≡ x.new q = x.tells.whole q t.1 t.0 a s in
          let size : length (x.new q) ≡ 4096 = ap (λ (y : List ℕ). length y) (sym told) ∙ length-apply_tx q tree a ∙ s in
          applied_onto q tree inode a ∙ ap (apply_tx q inode) told ∙ x.runs.others q ne (x.new q) size ∙ x.new_is q t.1
          ∙ sym (x.sets.puts.others q (λ k. ne (k ∙ same_page)))
        where
          no : Some (Tree n) ≡ Some Inodes → ⊥
          no h = cc (h)

          ne : q ≢ x.page
          ne k = no (sym e ∙ ap (owner_of r w) k ∙ page_owner r w c.sound n x.page at_now)

      by : IsOwnerIn n (owner_of r w q) → apply_tx q (tree ++ inode) a ≡ w.page q
      by (inl e) = of_tree e
      by (inr (inl e)) = not_logged (Data n) refl e
      by (inr (inr e)) = not_logged (Still n) refl e

  area_same : (q : ℕ) → w.area q ≡ v.area q
  area_same q = ap (λ (f : ℕ → ℕ). f q) x.sets.area

  untold : (q : ℕ) → 0 < v.area q → LeavesPage q (tree ++ inode)
  untold q area = leaves_onto q tree inode (x.tells.others q (x.others q none not_gone)) (x.runs.others q (no_area r w c.sound n x.page at_now q there))
    where
      there : 0 < w.area q
      there = let s = area_same q in omega (arith, s, area)

      none : has_page r (Some now) q ≡ 0
      none = sym (pages_are q) ∙ area_apart r w after n q there

      not_gone : count_in q x.gone ≡ 0
      not_gone = elim (zero_or_more (count_in q x.gone)) [
        | inl z ↦ z
        | inr l ↦ never (w.used q) (area_used r w after q there) (x.gone_are q l).0
      ]

  comes : (q : ℕ) → v.used q ≡ false → w.used q ≡ true → IsKeptOrData r w q
  comes q free used = by (edit_law.takes r v w n x.set x.mid x.taken x.freed sound x.sets q free used)
    where
      by : IsOwnerIn n (owner_of r w q) → IsKeptOrData r w q
      by (inl e) = inl (ap (λ (y : Option Owner). is_logged y) e)
      by (inr (inl e)) = inr (n, (let one = (has_owners r w after).has_it q (Data n) e in omega (arith, one)))
      by (inr (inr e)) = absurd (let one = (has_owners r w after).has_it q (Still n) e in let same = ap (λ (o : Option Object). has_still r o q) now_is in let none = x.none_still q free in omega (arith, one, same, none))

  pub tree_logged : LogsPart r v w (tree ++ inode)
  tree_logged = staged r v w (tree ++ inode) sound.agrees after stay (record { areas = area_same; pages = x.pages; freed = freed; others = others; whole = whole; untold = untold; comes = comes })

-- ---- an object goes

module _ (r : Readers) (v w : Volume) (n : ℕ) (frees inode : List Edit) (sound : IsSound r v) (x : DropsTree r v w n frees inode) where
  left : ChangesOne r v w n None
  left = object_goes r v w n x.left x.freed sound x.drops

  home_now : home w.extents n ≡ Some x.page
  home_now = ap (λ (e : List (Option ℕ)). home e n) x.drops.extents ∙ x.at

  owners : OwnersStay r v w
  owners = edit_law.drops r v w n x.left x.freed sound x.drops

  unlogged : (q : ℕ) → w.used q ≡ false → logged_in r w q ≡ false
  unlogged q free = unused r w left.sound.agrees q free

  -- what it had isn't used
  not_used : (q : ℕ) → 0 < holds r (objects r v n) q → w.used q ≡ false
  not_used q held = by (w.used q) (v.used q) (let a = x.drops.all q in let u = x.drops.used q in omega (arith, a, u, held))
    where
      by : (s t : Bool) → bit s < bit t → s ≡ false
      by false t h = refl
      by true true h = absurd (omega (arith, h))
      by true false h = absurd (omega (arith, h))

  had_page : (q : ℕ) → 0 < has_page r (objects r v n) q → 0 < holds r (objects r v n) q
  had_page q l = let p = parts r (objects r v n) q in omega (arith, p, l)

  gone : (q : ℕ) → closes_in q (frees ++ inode) ≡ true → (frees_page q (frees ++ inode) ≡ true) × (logged_in r v q ≡ true) × (w.used q ≡ false)
  gone q some = elim (zero_or_more (has_page r (objects r v n) q)) [
    | inl z ↦ never (closes_in q frees) (closed_first q frees inode (x.runs.closes_none q) some) (x.stay q z)
    | inr l ↦ (let out = unlogged q (not_used q (had_page q l)) in (freed_onto q frees inode (x.go q l) (x.runs.quiet q (apart_from r w left.sound n x.page home_now q out)), page_logged r v sound.agrees n q l, not_used q (had_page q l)))
  ]

  rest : (q : ℕ) → closes_in q (frees ++ inode) ≡ false → logged_in r w q ≡ false → LeavesPage q (frees ++ inode) × (logged_in r v q ≡ false)
  rest q shut out = (leaves_onto q frees inode (x.leaves q) (x.runs.others q (apart_from r w left.sound n x.page home_now q out)), before (cases_Bool (v.used q)) (cases_Bool (w.used q)))
    where
      none : has_page r (objects r v n) q ≡ 0
      none = elim (zero_or_more (has_page r (objects r v n) q)) [
        | inl z ↦ z
        | inr l ↦ never (closes_in q frees) (freed_rest q frees (x.go q l)).0 (open_first q frees inode shut)
      ]

      before : (v.used q ≡ true) ⊎ (v.used q ≡ false) → (w.used q ≡ true) ⊎ (w.used q ≡ false) → logged_in r v q ≡ false
      before (inr free) k = unused r v sound.agrees q free
      before (inl used) (inl still) = ap (λ (o : Option Owner). is_logged o) (sym (owners q used still)) ∙ out
      before (inl used) (inr free) = not_page r v sound.agrees n q (let a = x.drops.all q in let u = x.drops.used q in let b = ap bit used in let f = ap bit free in omega (arith, a, u, b, f)) none

  none_come : (q : ℕ) → v.used q ≡ false → w.used q ≡ true → ⊥
  none_come q free used = let u = x.drops.used q in let b = ap bit free in let f = ap bit used in omega (arith, u, b, f)

  area_stays : (q : ℕ) → w.area q ≡ v.area q
  area_stays q = ap (λ (f : ℕ → ℕ). f q) x.drops.area

  pub drop_logged : LogsPart r v w (frees ++ inode)
  drop_logged = staged r v w (frees ++ inode) sound.agrees left.sound.agrees owners (record {
    areas = area_stays;
    pages = x.pages;
    freed = gone;
    others = rest;
    whole = λ q free used. absurd (none_come q free used);
    untold = λ q area. leaves_onto q frees inode (x.leaves q) (x.runs.others q (no_area r w left.sound n x.page home_now q (let s = area_stays q in omega (arith, s, area))));
    comes = λ q free used. absurd (none_come q free used);
  })

pub trees_law : TreesLaw
trees_law = record {
  writes = λ r v w n tree inode sound x. tree_logged r v w n tree inode sound x;
  drops = λ r v w n frees inode sound x. drop_logged r v w n frees inode sound x;
}
