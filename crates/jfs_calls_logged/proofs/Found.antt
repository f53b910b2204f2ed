-- What a path leads to on a consistent volume.
use Rattle.std.proofs.Common.{◌≡◌, ◌⊎◌, ◌<◌, refl, inl, inr, sym, ap, ◌∙◌, subst, ℕ, ◌%◌, nat_lt, Bool, true, false, List, [], ◌∷◌, Option, Some, None, Result, Ok, Err, is_some, if◌then◌else◌}
use Rattle.std.proofs.lemmas.Bool.{ltb-true}
use Rattle.jfs_bits.specs.Broken.{first_broken}
use Rattle.jfs_inode.specs.Rules.{rows}
use Rattle.jfs_inode.specs.declared.read.BadInode.{BadInode}
use Rattle.jfs_inode.specs.declared.fields.Dinode.{Dinode}
use Rattle.jfs_imap.specs.Inodes.{Inodes, home_of}
use Rattle.jfs_tree.specs.Spells.{no_page}
use Rattle.jfs_chmod.specs.steps.specs.bmap.specs.States.{Blocks}
use Rattle.jfs_chmod.specs.steps.specs.objects.specs.Volume.{Volume, home, slot_of}
use Rattle.jfs_chmod.specs.steps.specs.objects.specs.Objects.{spelled, has_names}
use Rattle.jfs_chmod.specs.steps.specs.meaning.specs.Readers.{readers, root_of}
use Rattle.jfs_chmod.specs.steps.specs.meaning.specs.Consistent.{IsConsistent, MayBeNamed}
use Rattle.jfs_chmod.specs.steps.specs.way.specs.Volume.{volume_of}
use Rattle.jfs_chmod.specs.steps.specs.way.specs.Walk.{IsThere, tree_in}
use Rattle.jfs_chmod.specs.steps.specs.way.specs.Way.{held_on, if_whole, if_within, inode_on, inode_at, inode_named, if_unbroken, name_from, path_from, path_of}
use Rattle.jfs_chmod.specs.steps.specs.way.specs.declared.object.Held.{Held}
use Rattle.jfs_chmod.specs.steps.specs.way.proofs.Places.{home_is}
use Rattle.jfs_chmod.specs.steps.specs.way.proofs.Nodes.{there, in_directory}
use Rattle.jfs_calls_logged.specs.Found.{IsFound, IsNamed, FoundLaw}
use Rattle.jfs_bits.specs.declared.rule.Rule.{Rule}
use Rattle.jfs_chmod.specs.steps.specs.way.specs.dtree.specs.Spells.{spells_names, broken_for, found_for}
use Rattle.jfs_chmod.specs.steps.specs.way.specs.dtree.proofs.Replaced.{way_named}
use Rattle.jfs_chmod.specs.steps.specs.way.specs.plain.specs.Tree.{Tree, root, and_then}
use Rattle.jfs_chmod.specs.steps.specs.way.specs.plain.specs.declared.refusal.Refusal.{Refusal}
use Rattle.jfs_chmod.specs.steps.specs.way.specs.plain.specs.declared.refusal.Refusal.TheVariants.{NotDir}

-- ---- an inode

-- it has the number, and stands at its place
record IsAt (blocks : ℕ) (pages : ℕ → List ℕ) (inodes : Inodes) (n : ℕ) (at : Held) : Type 0 where
  number : at.number ≡ n
  home_at : home_of inodes n ≡ Some at.page
  within : at.page < blocks
  shown : at.inode ≡ slot_of (pages at.page) (n % 8)

of_rule : (o at : Held) (bad : Option BadInode) → if_whole o bad ≡ Ok at → o ≡ at
of_rule o at None h = cc (h)
of_rule o at (Some bad) h = absurd (cc (h))

module _ (blocks : ℕ) (pages : ℕ → List ℕ) (inodes : Inodes) (above n : ℕ) (at : Held) where
  of_home : (h : Option ℕ) → home_of inodes n ≡ h → inode_on pages above n (if_within blocks h) ≡ Ok at → IsAt blocks pages inodes n at
  of_home None e g = absurd (cc (g))
  of_home (Some p) e g = by (nat_lt p blocks) refl g
    where
      by : (x : Bool) → nat_lt p blocks ≡ x → inode_on pages above n (if x then Some p else None) ≡ Ok at → IsAt blocks pages inodes n at
      by false l h = absurd (cc (h))
      by true l h = let o = of_rule (held_on pages n p) at (first_broken (rows (slot_of (pages p) (n % 8)) n)) h in record {
        number = sym (ap (λ (x : Held). x.number) o);
        home_at = e ∙ ap (λ (x : Held). Some x.page) o;
        within = subst (λ (x : Held). x.page < blocks) o (ltb-true p blocks l);
        shown = subst (λ (x : Held). x.inode ≡ slot_of (pages x.page) (n % 8)) o refl;
      }

  is_at : inode_at blocks pages inodes above n ≡ Ok at → IsAt blocks pages inodes n at
  is_at h = of_home (home_of inodes n) refl h

-- ---- on a consistent volume

unbroken : (page : ℕ) (bad : Option (ℕ × Rule)) (given : Result Held Refusal) (at : Held) → if_unbroken page bad given ≡ Ok at → given ≡ Ok at
unbroken page None given at h = h
unbroken page (Some bad) given at h = absurd (cc (h))

module _ (blocks : ℕ) (pages : ℕ → List ℕ) (area : ℕ → ℕ) (map : Blocks) (inodes : Inodes) (c : IsConsistent (readers blocks) (volume_of pages area map inodes)) where
  abbrev v : Volume
  v = volume_of pages area map inodes

  abbrev t : Tree
  t = tree_in blocks pages area map inodes

  found : (n : ℕ) (at : Held) → IsAt blocks pages inodes n at → IsThere t n → (n ≡ root) ⊎ MayBeNamed t n → IsFound blocks pages area map inodes at
  found n at a some reached =
      let here = subst (IsThere t) (sym a.number) some in
      let stood : home v.extents at.number ≡ Some at.page = home_is inodes at.number ∙ ap (home_of inodes) a.number ∙ a.home_at in
      let shown : at.inode ≡ slot_of (pages at.page) (at.number % 8) = a.shown ∙ ap (λ (k : ℕ). slot_of (pages at.page) (k % 8)) (sym a.number) in
      record {
        home_is = stood;
        within = a.within;
        shown = shown;
        there = here;
        was = there blocks v c at.number at.page stood here ∙ ap (λ (d : Dinode). Some (spelled (readers blocks) pages d)) (sym shown);
        reached = subst (λ (k : ℕ). (k ≡ root) ⊎ MayBeNamed t k) (sym a.number) reached;
      }

  -- what a name leads to
  module _ (at : Held) (f : IsFound blocks pages area map inodes at) (name : List ℕ) (next : Held) where
    of_name : has_names at.inode ≡ true → (m : Option ℕ) → found_for blocks pages (root_of at.inode) name ≡ m → inode_named blocks pages inodes at.page m ≡ Ok next → IsFound blocks pages area map inodes next × IsNamed blocks pages area map inodes at next name
    of_name dir None e g = absurd (cc (g))
    of_name dir (Some m) e g =
        let d = in_directory blocks v c at.number at.page f.home_is f.there (ap has_names (sym f.shown) ∙ dir) in
        let spelled_at = ap (λ (x : Dinode). spells_names blocks pages (root_of x)) f.shown ∙ d.1 in
        let names_it = sym (way_named blocks pages (root_of at.inode) name d.0 spelled_at) ∙ e in
        let may = d.3 name m names_it in
        let a = is_at blocks pages inodes at.page m next g in
        (found m next a may.1 (inr may), record { is_dir = dir; names = d.0; spelled_names = spelled_at; names_it = names_it ∙ ap (λ (k : ℕ). Some k) (sym a.number); may = subst (MayBeNamed t) (sym a.number) may })

    pub next_found : name_from blocks pages inodes at name ≡ Ok next → IsFound blocks pages area map inodes next × IsNamed blocks pages area map inodes at next name
    next_found h = by (has_names at.inode) refl h
      where
        by : (x : Bool) → has_names at.inode ≡ x
            → (if x then if_unbroken at.page (broken_for blocks pages (root_of at.inode) name) (inode_named blocks pages inodes at.page (found_for blocks pages (root_of at.inode) name)) else Err NotDir) ≡ Ok next
            → IsFound blocks pages area map inodes next × IsNamed blocks pages area map inodes at next name
        by false e g = absurd (cc (g))
        by true e g = of_name e (found_for blocks pages (root_of at.inode) name) refl
            (unbroken at.page (broken_for blocks pages (root_of at.inode) name) (inode_named blocks pages inodes at.page (found_for blocks pages (root_of at.inode) name)) next g)

  abbrev Is : Held → Result Held Refusal → Type 0
  Is x r = r ≡ Ok x

  ok_is : (x y : Held) → Is y (Ok x) → x ≡ y
  ok_is x y h = cc (h)

  step : (names : List (List ℕ)) (end : Held) (first : Result Held Refusal) → ((next : Held) → first ≡ Ok next → IsFound blocks pages area map inodes next)
      → ((next : Held) → IsFound blocks pages area map inodes next → path_from blocks pages inodes next names ≡ Ok end → IsFound blocks pages area map inodes end)
      → and_then first (λ next. path_from blocks pages inodes next names) ≡ Ok end → IsFound blocks pages area map inodes end
  step names end (Ok next) here rest h = rest next (here next refl) h
  step names end (Err why) here rest h = absurd (cc (h))

  along : (names : List (List ℕ)) (end at : Held) → IsFound blocks pages area map inodes at → path_from blocks pages inodes at names ≡ Ok end → IsFound blocks pages area map inodes end
  along [] end at f h = subst (IsFound blocks pages area map inodes) (ok_is at end h) f
  along (name ∷ names) end at f h = step names end (name_from blocks pages inodes at name) (λ next e. (next_found at f name next e).0) (along names end) h

  pub path_found : (path : List (List ℕ)) (end : Held) → path_of blocks pages inodes path ≡ Ok end → IsFound blocks pages area map inodes end
  path_found path end h = step path end (inode_at blocks pages inodes no_page root) (λ at e. found root at (is_at blocks pages inodes no_page root at e) (ap is_some c.tree.top.1.there) (inl refl)) (along path end) h

pub found_law : FoundLaw
found_law = record {
  paths = λ blocks pages area map inodes path at c h. path_found blocks pages area map inodes c path at h;
  names = λ blocks pages area map inodes dir at name c f h. (next_found blocks pages area map inodes c dir f name at h).1;
}
