-- The inodes in use, looked at one after the other.
use Rattle.std.proofs.Common.{◌≡◌, ◌<◌, ◌≤◌, ◌⊎◌, inl, inr, refl, sym, ap, ◌∙◌, subst, ℕ, suc, ◌+◌, ◌*◌, ◌/◌, ◌%◌, Bool, true, false, ◌&&◌, ◌||◌, nat_lt, if◌then◌else◌, List, length, is_some, Option, Some, None, arith}
use Rattle.std.proofs.lemmas.Bool.{cases_lt}
use Rattle.std.proofs.lemmas.List.{get_or_past}
use Rattle.std.proofs.lemmas.Bool.Decides.{nat_tests}
use Rattle.jfs_bits.specs.Bits.{is_taken, is_in_run}
use Rattle.jfs_disk.specs.Image.{Image, page_of}
use Rattle.jfs_super.specs.Rules.{blocks_of}
use Rattle.jfs_super.specs.declared.fields.Super.{Super}
use Rattle.jfs_link_check.specs.objects.specs.Volume.{home, page_in, slot_of}
use Rattle.jfs_link_check.specs.objects.specs.Objects.{Object, object_in, objects, is_live, spelled}
use Rattle.jfs_findings.specs.mount_rules.specs.Subject.{Subject, subject_of, volume, object, blocks, IsObject}
use Rattle.jfs_findings.specs.Gains.{Gains}
use Rattle.jfs_findings.specs.declared.finding.Finding.{Finding}
use Rattle.jfs_link_check.specs.object_check.specs.Object.{IsOf}
use Rattle.jfs_link_check.specs.object_check.specs.Laws.{IsOfSome}
use Rattle.jfs_link_check.specs.object_check.proofs.Found.{gains_as}
use Rattle.jfs_link_check.specs.owners.specs.Counts.{Counts}
use Rattle.jfs_link_check.specs.owners.specs.Held.{owned_below}
use Rattle.jfs_link_check.specs.owners.proofs.Joined.{counts_next, counts_skip}
use Rattle.jfs_each.specs.Each.{Found, live_in, found_at, Step, Visits}
use Rattle.jfs_each.proofs.Visiting.{visits_keep}
use Rattle.jfs_link_check.specs.object_check.specs.Thin.{IsThinOf, IsThinOfSome}
use Rattle.jfs_check.specs.Look.{Sees, IsOfFound}
use Rattle.jfs_check.specs.declared.look.Look.{Look}

module _ (super : Super) (image : Image) where
  abbrev sub : Subject
  sub = subject_of super (page_of image)

  abbrev found : ℕ → Option Found
  found = found_at (page_of image) (volume sub).extents

  -- ---- what is found at a number

  some_found : (n : ℕ) (p : Option ℕ) (f : Found) → live_in (page_of image) n p ≡ Some f → (p ≡ Some f.page) × (object_in sub.readers (page_of image) n p ≡ Some (spelled sub.readers (page_of image) f.inode))
  some_found n None f e = absurd (cc e)
  some_found n (Some p) f e = by (is_live n (slot_of (page_of image p) (n % 8))) e
    where
      got : {x y : Found} → Some x ≡ Some y → x ≡ y
      got h = cc h

      by : (b : Bool) → ◌≡◌ {A = Option Found} (if b then Some (record { page = p; inode = slot_of (page_of image p) (n % 8) }) else None) (Some f)
          → (Some p ≡ Some f.page) × ((if b then Some (spelled sub.readers (page_of image) (slot_of (page_of image p) (n % 8))) else None) ≡ Some (spelled sub.readers (page_of image) f.inode))
      by true h = (ap (λ (x : Found). Some x.page) (got h), ap (λ (x : Found). Some (spelled sub.readers (page_of image) x.inode)) (got h))
      by false h = absurd (cc h)

  none_found : (n : ℕ) (p : Option ℕ) → live_in (page_of image) n p ≡ None → object_in sub.readers (page_of image) n p ≡ None
  none_found n None e = refl
  none_found n (Some p) e = by (is_live n (slot_of (page_of image p) (n % 8))) e
    where
      by : (b : Bool) → ◌≡◌ {A = Option Found} (if b then Some (record { page = p; inode = slot_of (page_of image p) (n % 8) }) else None) None → (if b then Some (spelled sub.readers (page_of image) (slot_of (page_of image p) (n % 8))) else None) ≡ None
      by true h = absurd (cc h)
      by false h = refl

  pub object_found : (n : ℕ) (f : Found) → found n ≡ Some f → IsObject sub n f.page (spelled sub.readers (page_of image) f.inode)
  unfolding objects
  object_found n f e = let g = some_found n (home (volume sub).extents n) f e in record { is = g.1; stands = g.0 }

  pub object_none : (n : ℕ) → found n ≡ None → object sub n ≡ None
  unfolding objects
  object_none n e = none_found n (home (volume sub).extents n) e

  -- ---- what is so of the first inodes

  -- a finding of one object
  abbrev pub IsOfIt : ℕ → ℕ → Object → Finding → Type 0
  IsOfIt n at o g = IsOf sub.readers (blocks sub) sub.page n at o g ⊎ IsThinOf sub.readers sub.page n at o g

  -- a finding of an inode in use below a number
  abbrev pub IsOfFirst : ℕ → Finding → Type 0
  IsOfFirst count g = (n : ℕ) × (n < count) × ((at : ℕ) × (o : Object) × IsObject sub n at o × IsOfIt n at o g)

  pub record LookedBelow (bytes : ℕ) (old : List Finding) (count : ℕ) (w : Look) : Type 0 where
    pub owners : Counts w.census.owners (owned_below sub.readers (volume sub) count)
    pub size : length w.used.items ≡ bytes
    pub used : (i : ℕ) → i < 8 * bytes → is_taken w.used.items i ≡ (nat_lt i count && is_some (object sub i))
    pub findings : Gains (IsOfFirst count) old w.findings.items

  module _ (size : ℕ) (words : size % 4 ≡ 0) (old : List Finding) where
    -- an inode that isn't in use
    skip : (n : ℕ) (w : Look) → object sub n ≡ None → LookedBelow size old n w → LookedBelow size old (suc n) w
    skip n w none h = record {
      owners = subst (λ (k : ℕ). Counts w.census.owners (owned_below sub.readers (volume sub) k)) (let e : n + 1 ≡ suc n = omega arith in e) (counts_skip sub.readers (volume sub) n w.census.owners none h.owners);
      size = h.size;
      used = λ i l. h.used i l ∙ same i (is_some (object sub i)) (λ e. ap (λ k. is_some (object sub k)) e ∙ ap is_some none);
      findings = record {
        kept = h.findings.kept;
        all = λ g q. h.findings.all g (q.0, below q.0 q.1 (λ e. some_none q.2.1 (sym q.2.2.is ∙ ap (object sub) e ∙ none)), q.2);
        only = λ g c. elim (h.findings.only g c) [ inl a ↦ inl a | inr q ↦ inr (q.0, (let l = q.1 in omega (arith, l)), q.2) ];
      };
    }
      where
        same : (i : ℕ) (b : Bool) → (i ≡ n → b ≡ false) → (nat_lt i n && b) ≡ (nat_lt i (suc n) && b)
        same i b h = grind (arith, nat_tests)

        some_none : (o : Object) → Some o ≡ None → ⊥
        some_none o e = cc e

        below : (k : ℕ) → k < suc n → (k ≡ n → ⊥) → k < n
        below k l other = elim (cases_lt k n) [ inl a ↦ a | inr a ↦ absurd (other (omega (arith, l, a))) ]

    -- one more
    next : (n : ℕ) (w u : Look) (f : Found) → n < 8 * size → found n ≡ Some f → Sees (blocks_of super) image w n f u → LookedBelow size old n w → LookedBelow size old (suc n) u
    next n w u f within e s h =
        let is = object_found n f e in
        record {
          owners = subst (λ (k : ℕ). Counts u.census.owners (owned_below sub.readers (volume sub) k)) (let e : n + 1 ≡ suc n = omega arith in e) (counts_next sub.readers (volume sub) n (Some (spelled sub.readers (page_of image) f.inode)) w.census.owners u.census.owners is.is s.trees.owners h.owners);
          size = s.size ∙ h.size;
          used = λ i l.
              s.used i (ap (λ k. k % 4) h.size ∙ words) (let m = h.size in omega (arith, m, within))
              ∙ ap (λ b. is_in_run n 1 i || b) (h.used i l)
              ∙ one i (is_some (object sub i)) (λ e. ap (λ k. is_some (object sub k)) e ∙ ap is_some is.is);
          findings = record {
            kept = λ g c. s.findings.kept g (h.findings.kept g c);
            all = λ g q. elim (cases_lt q.0 n) [
              | inl l ↦ s.findings.kept g (h.findings.all g (q.0, l, q.2))
              | inr l ↦ s.findings.all g (here q.0 q.2.0 q.2.1 g (let m = q.1 in omega (arith, l, m)) is q.2.2 q.2.3)
            ];
            only = λ g c. elim (s.findings.only g c) [
              | inl a ↦ elim (h.findings.only g a) [ inl b ↦ inl b | inr q ↦ inr (q.0, (let l = q.1 in omega (arith, l)), q.2) ]
              | inr a ↦ inr (n, omega arith, (f.page, spelled sub.readers (page_of image) f.inode, is, a))
            ];
          };
        }
      where
        one : (i : ℕ) (b : Bool) → (i ≡ n → b ≡ true) → (is_in_run n 1 i || (nat_lt i n && b)) ≡ (nat_lt i (suc n) && b)
        one i b h = grind (arith, nat_tests)

        got : {X : Type 0} {x y : X} → Some x ≡ Some y → x ≡ y
        got h = cc h

        here : (k at : ℕ) (o : Object) (g : Finding) → k ≡ n → IsObject sub n f.page (spelled sub.readers (page_of image) f.inode) → IsObject sub k at o → IsOfIt k at o g → IsOfFound (blocks_of super) (page_of image) n f g
        here k at o g same is other q =
            let x : o ≡ spelled sub.readers (page_of image) f.inode = got (sym other.is ∙ ap (object sub) same ∙ is.is) in
            let y : at ≡ f.page = got (sym other.stands ∙ ap (home (volume sub).extents) same ∙ is.stands) in
            subst (λ (m : ℕ). IsOfIt m f.page (spelled sub.readers (page_of image) f.inode) g) same
            (subst (λ (p : ℕ). IsOfIt k p (spelled sub.readers (page_of image) f.inode) g) y
            (subst (λ (z : Object). IsOfIt k at z g) x q))

    step : (n : ℕ) (w u : Look) (o : Option Found) → n < 8 * size → found n ≡ o → LookedBelow size old n w → Step (Sees (blocks_of super) image) n o w u → LookedBelow size old (suc n) u
    step n w u None within e h s = skip n u (object_none n e) (subst (LookedBelow size old n) (sym s) h)
    step n w u (Some f) within e h s = next n w u f within e s h

    pub walked : (old_look new : Look) (count : ℕ) → count ≤ 8 * size → LookedBelow size old 0 old_look → Visits (Sees (blocks_of super) image) found 0 count old_look new → LookedBelow size old count new
    walked old_look new count most start v =
        visits_keep (Sees (blocks_of super) image) found (LookedBelow size old) old_look start count (λ n w u l h s. step n w u (found n) (omega (arith, l, most)) refl h s) new v

  -- ---- all of them

  past_none : (extents : List (Option ℕ)) (n : ℕ) → 32 * length extents ≤ n → home extents n ≡ None
  past_none extents n l = ap (λ o. page_in o n) (get_or_past extents (n / 32) None (omega (arith, l)))

  -- an inode in use has a lower number than there are places for
  pub in_room : (n at : ℕ) (o : Object) → IsObject sub n at o → n < 32 * length (volume sub).extents
  in_room n at o is = elim (cases_lt n (32 * length (volume sub).extents)) [
    | inl l ↦ l
    | inr l ↦ absurd (not_some at (sym (past_none (volume sub).extents n l) ∙ is.stands))
  ]
    where
      not_some : (at : ℕ) → None ≡ Some at → ⊥
      not_some at e = cc e

  pub all_first : (count : ℕ) (old new : List Finding) → count ≡ 32 * length (volume sub).extents → Gains (IsOfFirst count) old new → Gains (λ f. IsOfSome sub f ⊎ IsThinOfSome sub f) old new
  all_first count old new e g = gains_as to from g
    where
      to : (f : Finding) → IsOfFirst count f → IsOfSome sub f ⊎ IsThinOfSome sub f
      to f q = elim q.2.3 [ inl h ↦ inl (q.0, q.2.0, q.2.1, q.2.2, h) | inr h ↦ inr (q.0, q.2.0, q.2.1, q.2.2, h) ]

      from : (f : Finding) → IsOfSome sub f ⊎ IsThinOfSome sub f → IsOfFirst count f
      from f (inl q) = (q.0, (let l = in_room q.0 q.1 q.2 q.3 in omega (arith, l, e)), (q.1, q.2, q.3, inl q.4))
      from f (inr q) = (q.0, (let l = in_room q.0 q.1 q.2 q.3 in omega (arith, l, e)), (q.1, q.2, q.3, inr q.4))
