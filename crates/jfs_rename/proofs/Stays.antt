-- On a consistent volume a rename that nothing bars is refused for faults and want of memory alone.
use Rattle.std.proofs.Common.{◌≡◌, ◌≢◌, ◌<◌, refl, sym, ap, ◌∙◌, subst, inl, inr, ℕ, Bool, true, false, true≢false, ◌==◌, ne_eqb, eq-eqb, ◌&&◌, if◌then◌else◌, List, [], length, map, Option, Some, None, Result, Ok, Err, arith}
use Rattle.std.specs.Option.{option_map}
use Rattle.jfs_bits.specs.declared.descriptor.Moment.{Moment}
use Rattle.jfs_inode.specs.declared.fields.Dinode.{Dinode}
use Rattle.jfs_imap.specs.Inodes.{Inodes}
use Rattle.jfs_bmap.specs.States.{Blocks}
use Rattle.jfs_name.specs.declared.name.NameEntry.{NameEntry}
use Rattle.jfs_name.specs.Directory.{named, with_name, with_inode, is_same}
use Rattle.jfs_ranges.specs.declared.edit.Edit.{Edit}
use Rattle.jfs_ranges.specs.declared.view.ViewError.{ViewError}
use Rattle.jfs_ranges.specs.declared.view.ViewError.TheVariants.{Read, Memory}
use Rattle.jfs_ranges.specs.Laid.{put_tx}
use Rattle.jfs_dtree.specs.Spells.{spells_names}
use Rattle.jfs_dtree.specs.Removing.{MissesName}
use Rattle.jfs_dtree.specs.declared.error.DtError.{DtError}
use Rattle.jfs_dtree.specs.declared.error.DtError.TheVariants as dt
use Rattle.jfs_plain.specs.Tree.{Tree, place_at, at_place, named_in}
use Rattle.jfs_plain.specs.Moves.{changed, dropped, stamped, falls}
use Rattle.jfs_plain.specs.Step.{entry_as}
use Rattle.jfs_plain.specs.declared.node.Node.{Node}
use Rattle.jfs_plain.specs.declared.refusal.Refusal.{Refusal}
use Rattle.jfs_link.specs.objects.specs.Readers.{Readers}
use Rattle.jfs_link.specs.objects.specs.Volume.{Volume}
use Rattle.jfs_link.specs.objects.specs.Objects.{Object, IsWhole, objects, spelled, has_names, listed}
use Rattle.jfs_link.specs.objects.specs.Owners.{IsSound}
use Rattle.jfs_link.specs.meaning.specs.Readers.{readers, root_of}
use Rattle.jfs_link.specs.meaning.specs.Node.{node_in, node_from, node_with, target_in}
use Rattle.jfs_link.specs.meaning.specs.Tree.{node_on, tree_on}
use Rattle.jfs_link.specs.way.specs.Answer.{is_open, names_refusal}
use Rattle.jfs_link.specs.way.specs.declared.object.Held.{Held}
use Rattle.jfs_link.specs.lead_steps.proofs.Chain.{at_changed, off_changed}
use Rattle.jfs_link.specs.lead_steps.proofs.Turned.{turns, names_listed}
use Rattle.jfs_rename_steps.specs.Entries.{LossRefused}
use Rattle.jfs_rename_steps.proofs.Stage.{Stage, pages_are}
use Rattle.jfs_rename_steps.proofs.Trees.{unnamed_as}
use Rattle.jfs_rename.proofs.KeptNames.{other_name, named_with, named_led}

views : (dir page : ℕ) (e : ViewError) → is_open (names_refusal dir page (dt.View e)) ≡ true
views dir page (Read fault) = refl
views dir page Memory = refl

-- ---- a directory's names in the tree

module _ (blocks : ℕ) (w : Volume) (sound : IsSound (readers blocks) w) (p : ℕ) (d : Dinode) (here : objects (readers blocks) w p ≡ Some (spelled (readers blocks) w.page d)) (dir : has_names d ≡ true) where
  abbrev r : Readers
  r = readers blocks

  abbrev o : Object
  o = spelled r w.page d

  abbrev whole : IsWhole r o
  whole = sound.whole p o here

  pub names_spelled : spells_names blocks w.page (root_of d) ≡ Ok whole.names
  names_spelled = sym (names_listed blocks w.page d dir) ∙ whole.names_are

  pub named_there : (name : List ℕ) → named_in (node_on r w p) name ≡ named name whole.names
  named_there name = ap (λ (x : Option Node). named_in x name) (ap (node_in r w.page) here
      ∙ ap (λ a. node_from o.inode (target_in r w.page o) a (listed r.extents_order o.extents)) whole.names_are
      ∙ ap (λ b. node_from o.inode (target_in r w.page o) (Ok whole.names) b) whole.extents_are)

-- ---- a name that stands isn't missed

module _ (blocks : ℕ) (v : Volume) (whole : (b : ℕ) → b < blocks → length (v.page b) ≡ 4096) (tx : List Edit) (w : Volume) (u : Tree) (s : Stage blocks v [] tx w u)
    (source : Held) (here : objects (readers blocks) w source.number ≡ Some (spelled (readers blocks) w.page source.inode)) (dir : has_names source.inode ≡ true) (name : List ℕ) (m : ℕ)
    (there : named_in (u.nodes source.number) name ≡ Some m) where
  names : (es : List NameEntry) × (spells_names blocks w.page (root_of source.inode) ≡ Ok es) × (named name es ≡ Some m)
  names = (
    _,
    names_spelled blocks w s.has.sound source.number source.inode here dir,
    sym (named_there blocks w s.has.sound source.number source.inode here dir name) ∙ ap (λ (t : Tree). named_in (t.nodes source.number) name) s.has.tree ∙ there,
  )

  pub loss_open : (why : Refusal) → LossRefused blocks v.page source name tx why → is_open why ≡ true
  loss_open why (inl h) = h
  loss_open why (inr (e, is, misses, tells)) = by e is (subst (λ (pages : ℕ → List ℕ). MissesName blocks pages name (root_of source.inode) e) (pages_are blocks v whole [] tx w u s) misses)
    where
      no : None ≡ Some m → ⊥
      no h = cc (h)

      by : (e : DtError) → why ≡ names_refusal source.number source.page e → MissesName blocks w.page name (root_of source.inode) e → is_open why ≡ true
      by (dt.View e) is h = ap is_open is ∙ views source.number source.page e
      by (dt.Bad page rule) is h = absurd (h.1 names.0 names.1)
      by dt.Exists is h = absurd h
      by dt.Missing is h = absurd (no (sym (h names.0 names.1) ∙ names.2))
      by dt.TooDeep is h = absurd h

-- ---- the old name stands while the others change

entry_in : Tree → ℕ → List ℕ → Option ℕ
entry_in t n name = named_in (t.nodes n) name

module _ (t : Tree) (p m q : ℕ) (old new : List ℕ) (named_m : at_place t (place_at p old) ≡ Some m) where
  pub past_object : (f : Node → Node) (k : ℕ) (u : Tree) → p ≢ k → named_in (u.nodes p) old ≡ Some m → named_in ((changed k f u).nodes p) old ≡ Some m
  past_object f k u far h = ap (λ (x : Option Node). named_in x old) (off_changed k p f u far) ∙ h

  -- the target's names change
  through_target : (f : Node → Node) → ((o : Node) → t.nodes q ≡ Some o → p ≡ q → named old (f o).names ≡ named old o.names) → (x : Bool) → (q == p) ≡ x → (p ≢ q → x ≡ false) → named_in ((changed q f t).nodes p) old ≡ Some m
  through_target f same true e far = by (t.nodes q) refl
    where
      is : p ≡ q
      is = sym (Rattle.std.proofs.Common.eqb-true q p e)

      there : named_in (t.nodes q) old ≡ Some m
      there = ap (λ (n : ℕ). named_in (t.nodes n) old) (sym is) ∙ named_m

      by : (x : Option Node) → t.nodes q ≡ x → named_in ((changed q f t).nodes p) old ≡ Some m
      by None n = absurd (no (ap (λ (x : Option Node). named_in x old) (sym n) ∙ there))
        where
          no : None ≡ Some m → ⊥
          no h = cc (h)
      by (Some o) n = ap (λ (x : Option Node). named_in x old) (at_changed q p f t is ∙ ap (option_map f) n) ∙ same o n is ∙ ap (λ (x : Option Node). named_in x old) (sym n) ∙ there
  through_target f same false e far = ap (λ (x : Bool). named_in (if x then option_map f (t.nodes q) else t.nodes p) old) e ∙ named_m

  pub past_gain : (links : ℕ → ℕ) (now : Moment) → at_place t (place_at q new) ≡ None → named_in ((changed q (turns (with_name (entry_as new m)) links now) t).nodes p) old ≡ Some m
  past_gain links now free = through_target (turns (with_name (entry_as new m)) links now) (λ o n is. named_with old (entry_as new m) o.names (other_name o.names new old (far o n is))) (q == p) refl (λ h. ne_eqb q p (λ e. h (sym e)))
    where
      far : (o : Node) → t.nodes q ≡ Some o → p ≡ q → named new o.names ≢ named old o.names
      far o n is h = no (sym (sym (ap (λ (x : Option Node). named_in x new) n) ∙ free) ∙ h ∙ sym (ap (λ (x : Option Node). named_in x old) n) ∙ ap (λ (k : ℕ). named_in (t.nodes k) old) (sym is) ∙ named_m)
        where
          no : None ≡ Some m → ⊥
          no h = cc (h)

  pub past_lead : (links : ℕ → ℕ) (now : Moment) (k : ℕ) → at_place t (place_at q new) ≡ Some k → k ≢ m → named_in ((changed q (turns (with_inode new m) links now) t).nodes p) old ≡ Some m
  past_lead links now k at other = through_target (turns (with_inode new m) links now) (λ o n is. named_led old new m o.names (other_name o.names new old (far o n is))) (q == p) refl (λ h. ne_eqb q p (λ e. h (sym e)))
    where
      far : (o : Node) → t.nodes q ≡ Some o → p ≡ q → named new o.names ≢ named old o.names
      far o n is h = other (one (sym (sym (ap (λ (x : Option Node). named_in x new) n) ∙ at) ∙ h ∙ sym (ap (λ (x : Option Node). named_in x old) n) ∙ ap (λ (k : ℕ). named_in (t.nodes k) old) (sym is) ∙ named_m))
        where
          one : Some k ≡ Some m → k ≡ m
          one h = cc (h)

  pub past_other : (x : Bool) (k : ℕ) (now : Moment) (u : Tree) → p ≢ k → named_in (u.nodes p) old ≡ Some m → named_in ((unnamed_as x k now u).nodes p) old ≡ Some m
  past_other true k now u far h = ap (λ (x : Bool). named_in (if x then None else u.nodes p) old) (ne_eqb k p (λ e. far (sym e))) ∙ h
  past_other false k now u far h = past_object (λ o. stamped now (falls o)) k u far h
