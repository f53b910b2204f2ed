-- A directory whose names become others: from what a call on its tree says to the object that is set, and to the node after.
use Rattle.std.proofs.Common.{◌≡◌, ◌≤◌, ◌<◌, refl, sym, ap, ◌∙◌, inl, inr, ℕ, ◌+◌, Bool, true, false, ◌==◌, if◌then◌else◌, List, [], length, Option, Some, None, Ok, arith, eqb-true}
use Rattle.std.proofs.lemmas.Bool.{cases_lt}
use Rattle.std.specs.Option.{option_map}
use Rattle.std.specs.Int.RustNames.{bit_and}
use Rattle.jfs_bits.specs.Field.{put_bytes}
use Rattle.jfs_bits.specs.declared.descriptor.Moment.{Moment}
use Rattle.jfs_bits.proofs.Parts.{part-held}
use Rattle.jfs_inode.specs.declared.fields.Dinode.{Dinode}
use Rattle.jfs_name.specs.declared.name.NameEntry.{NameEntry}
use Rattle.jfs_tree.specs.Edit.{count_in}
use Rattle.jfs_tree.specs.Spells.{spells, footprint, no_page}
use Rattle.jfs_meaning.specs.dtree.specs.Parent.{parent_of}
use Rattle.jfs_meaning.specs.dtree.specs.Spells.{spells_names, owned_pages}
use Rattle.jfs_bits.specs.Broken.{first_broken}
use Rattle.jfs_inode.specs.Rules.{rows}
use Rattle.jfs_meaning.specs.plain.specs.Tree.{Tree}
use Rattle.jfs_meaning.specs.plain.specs.Moves.{changed, written}
use Rattle.jfs_meaning.specs.plain.specs.declared.node.Node.{Node}
use Rattle.jfs_meaning.specs.objects.specs.Readers.{Readers}
use Rattle.jfs_meaning.specs.objects.specs.Volume.{Volume}
use Rattle.jfs_meaning.specs.objects.specs.Objects.{Object, objects, spelled, is_live, has_names, has_extents, listed}
use Rattle.jfs_meaning.specs.objects.specs.Objects as objects
use Rattle.jfs_meaning.specs.objects.specs.Owners.{holds, bit, attributes_held, IsSound}
use Rattle.jfs_meaning.specs.objects.specs.Changes.{put, PutsInode, SetsObject}
use Rattle.jfs_meaning.specs.objects.proofs.Framed.{same_spelled}
use Rattle.jfs_meaning.specs.objects.proofs.Owned.{owned_once}
use Rattle.jfs_meaning.specs.objects.proofs.Sums.{zero_or_more}
use Rattle.jfs_meaning.specs.Contents.{byte_in}
use Rattle.jfs_meaning.specs.Readers.{readers, root_of}
use Rattle.jfs_meaning.specs.Node.{node_with, node_from, node_of, node_in, target_in}
use Rattle.jfs_lead_steps.specs.Reached.{HasTree}
use Rattle.jfs_lead_steps.proofs.Chain.{set_has}
use Rattle.jfs_lead_steps.proofs.InPlace.{counted_rules}

either : (x : Bool) (k : ℕ) → (if x then k else k) ≡ k
either true k = refl
either false k = refl

pub no_extents_of : (d : Dinode) → has_names d ≡ true → has_extents d ≡ false
no_extents_of d h = let e = eqb-true (bit_and d.mode 0xf000) 0x4000 h in rw e refl

module _ (blocks : ℕ) where
  abbrev r : Readers
  r = readers blocks

  -- what a directory has: the pages of its tree, and attributes
  pub names_listed : (page : ℕ → List ℕ) (d : Dinode) → has_names d ≡ true → listed r.names_order (spelled r page d).names ≡ spells_names blocks page (root_of d)
  unfolding spells spelled
  names_listed page d e = rw e refl

  pub extents_listed : (page : ℕ → List ℕ) (d : Dinode) → has_extents d ≡ false → listed r.extents_order (spelled r page d).extents ≡ Ok []
  unfolding spelled
  extents_listed page d e = rw e refl

  pub dir_holds : (page : ℕ → List ℕ) (d : Dinode) (es : List NameEntry) (b : ℕ) → has_names d ≡ true → has_extents d ≡ false → spells_names blocks page (root_of d) ≡ Ok es
      → holds r (Some (spelled r page d)) b ≡ owned_pages blocks page (root_of d) b + attributes_held (spelled r page d) b
  unfolding holds spelled spells footprint
  dir_holds page d es b e f h = rw (e, f, h) (let z = either (b == no_page) 0 in omega (arith, z))

  -- a directory holds no bytes
  pub dir_bytes : (page : ℕ → List ℕ) (d : Dinode) (i : ℕ) → has_names d ≡ true → byte_in r page (Some (spelled r page d)) i ≡ 0
  unfolding spelled
  dir_bytes page d i h = let t = eqb-true (bit_and d.mode 0xf000) 0x4000 h in rw t refl

  -- Its tree spells other names, on pages of the file system part.
  module _ (v : Volume) (sound : IsSound r v) (within : (b : ℕ) → v.used b ≡ true → b < blocks) (n : ℕ) (d set : Dinode) (was : objects r v n ≡ Some (spelled r v.page d)) (dir : has_names d ≡ true)
      (es later_es : List NameEntry) (spelled_es : spells_names blocks v.page (root_of d) ≡ Ok es) (later mid : ℕ → List ℕ) (inside : (b : ℕ) → b < blocks → mid b ≡ later b) (outside : (b : ℕ) → blocks ≤ b → mid b ≡ v.page b)
      (taken freed : List ℕ) (turned : spells_names blocks later (root_of set) ≡ Ok later_es)
      (owned : (b : ℕ) → owned_pages blocks later (root_of set) b + count_in b freed ≡ owned_pages blocks v.page (root_of d) b + count_in b taken)
      (below : (b : ℕ) → 0 < count_in b taken → b < blocks) (dir_set : has_names set ≡ true) (same_acl : set.acl ≡ d.acl) (same_ea : set.ea ≡ d.ea) where
    plain : has_extents d ≡ false
    plain = no_extents_of d dir

    plain_set : has_extents set ≡ false
    plain_set = no_extents_of set dir_set

    owned_is : (b : ℕ) → holds r (objects.objects r v n) b ≡ owned_pages blocks v.page (root_of d) b + attributes_held (spelled r v.page d) b
    owned_is b = ap (λ o. holds r o b) was ∙ dir_holds v.page d es b dir plain spelled_es

    pub owned_below : (b : ℕ) → 0 < owned_pages blocks v.page (root_of d) b → b < blocks
    owned_below b l = within b ((owned_once r v sound.agrees).in_use n b (let e = owned_is b in omega (arith, e, l)))

    later_below : (b : ℕ) → 0 < owned_pages blocks later (root_of set) b → b < blocks
    later_below b l = elim (zero_or_more (owned_pages blocks v.page (root_of d) b)) [
      | inr o ↦ owned_below b o
      | inl z ↦ below b (let e = owned b in omega (arith, e, l, z))
    ]

    -- what is spelled on the pages of the file system part
    footprint_is : (page : ℕ → List ℕ) (b : ℕ) → objects.footprint (spelled r page set) b ≡ owned_pages blocks page (root_of set) b
    unfolding objects.footprint footprint spelled
    footprint_is page b = rw (dir_set, plain_set) (let z = either (b == no_page) 0 in omega (arith, z))

    same : spelled r mid set ≡ spelled r later set
    same = same_spelled r later mid set (λ b f. inside b (later_below b (let e = footprint_is later b in omega (arith, e, f))))

    pub names_now : listed r.names_order (spelled r mid set).names ≡ Ok later_es
    names_now = ap (λ (o : Object). listed r.names_order o.names) same ∙ names_listed later set dir_set ∙ turned

    pub spelled_now : spells_names blocks mid (root_of set) ≡ Ok later_es
    spelled_now = sym (names_listed mid set dir_set) ∙ names_now

    pub owned_now : (b : ℕ) → owned_pages blocks mid (root_of set) b ≡ owned_pages blocks later (root_of set) b
    owned_now b = sym (footprint_is mid b) ∙ ap (λ (o : Object). objects.footprint o b) same ∙ footprint_is later b

    attributes : (b : ℕ) → attributes_held (spelled r mid set) b ≡ attributes_held (spelled r v.page d) b
    unfolding spelled
    attributes b = rw (same_acl, same_ea) refl

    pub bytes_now : (i : ℕ) → byte_in r mid (Some (spelled r mid set)) i ≡ byte_in r v.page (objects.objects r v n) i
    bytes_now i = dir_bytes mid set i dir_set ∙ sym (ap (λ (o : Option Object). byte_in r v.page o i) was ∙ dir_bytes v.page d i dir)

    -- Pages were taken and freed for it, and no others changed.
    module _ (w : Volume) (keeps : (b : ℕ) → b < blocks → owned_pages blocks v.page (root_of d) b ≡ 0 → count_in b taken ≡ 0 → later b ≡ v.page b)
        (fresh : (b : ℕ) → 0 < count_in b taken → v.used b ≡ false) (live : is_live n set ≡ true) (puts : PutsInode mid w.page v.extents n set)
        (used : (b : ℕ) → bit (w.used b) + count_in b freed ≡ bit (v.used b) + count_in b taken) (extents : w.extents ≡ v.extents) (area : w.area ≡ v.area)
        (in_use : (k : ℕ) → w.in_use k ≡ put n true v.in_use k) where
      pub sets_names : SetsObject r v w n set mid taken freed
      sets_names = record {
        live = live;
        whole = record { names = later_es; extents = []; names_are = names_now; extents_are = extents_listed mid set plain_set };
        blocks = λ b. (let x = dir_holds mid set later_es b dir_set plain_set spelled_now in let y = owned_is b in let z = owned b in let o = owned_now b in let a = attributes b in
            omega (arith, x, y, z, o, a));
        keeps = λ b h t. elim (cases_lt b blocks) [
          | inl l ↦ inside b l ∙ keeps b l (let y = owned_is b in omega (arith, y, h)) t
          | inr l ↦ outside b l
        ];
        puts = puts;
        takes = record { fresh = fresh; used = used };
        extents = extents;
        area = area;
        in_use = in_use;
      }

-- ---- the node

-- the directory's names and its link count changed, now
abbrev pub turns : (List NameEntry → List NameEntry) → (ℕ → ℕ) → Moment → Node → Node
turns change links now o = record (written now (record o { names = change o.names })) { links = links o.links }

module _ (blocks : ℕ) (pages mid : ℕ → List ℕ) (d : Dinode) (root : List ℕ) (now : Moment) (links : ℕ → ℕ) (own : ℕ) (change : List NameEntry → List NameEntry) (es : List NameEntry) (dir : has_names d ≡ true)
    (parent : parent_of root ≡ parent_of (root_of d)) (width : length root ≡ 288) (size : length d.rest ≡ 384) where
  abbrev q : Readers
  q = readers blocks

  abbrev rooted : Dinode
  rooted = record d { rest = put_bytes 96 root d.rest; nblocks = own; nlink = links d.nlink; mtime = now; ctime = now }

  type : bit_and d.mode 0xf000 ≡ 0x4000
  type = eqb-true (bit_and d.mode 0xf000) 0x4000 dir

  pub root_now : root_of rooted ≡ root
  root_now = part-held 96 288 root d.rest width (omega (arith, size))

  same_parent : parent_of (root_of rooted) ≡ parent_of (root_of d)
  same_parent = ap parent_of root_now ∙ parent

  node_on_pages : (page : ℕ → List ℕ) (e : Dinode) (names : List NameEntry) → listed q.names_order (spelled q page e).names ≡ Ok names → listed q.extents_order (spelled q page e).extents ≡ Ok []
      → node_of q page (spelled q page e) ≡ Some (node_with (spelled q page e).inode (target_in q page (spelled q page e)) names)
  node_on_pages page e names a b = ap (λ x. node_from (spelled q page e).inode (target_in q page (spelled q page e)) x (listed q.extents_order (spelled q page e).extents)) a
      ∙ ap (λ y. node_from (spelled q page e).inode (target_in q page (spelled q page e)) (Ok names) y) b

  turned_node : node_with (spelled q mid rooted).inode (target_in q mid (spelled q mid rooted)) (change es) ≡ turns change links now (node_with (spelled q pages d).inode (target_in q pages (spelled q pages d)) es)
  unfolding spelled
  turned_node = rw (same_parent, type) refl

  pub node_turned : listed q.names_order (spelled q pages d).names ≡ Ok es → listed q.names_order (spelled q mid rooted).names ≡ Ok (change es) → node_of q mid (spelled q mid rooted) ≡ option_map (turns change links now) (node_of q pages (spelled q pages d))
  node_turned was is = node_on_pages mid rooted (change es) is (extents_listed blocks mid rooted (no_extents_of rooted dir)) ∙ ap (λ (o : Node). Some o) turned_node
      ∙ sym (ap (option_map (turns change links now)) (node_on_pages pages d es was (extents_listed blocks pages d (no_extents_of d dir))))

-- ---- the step

-- Directory n's tree spells other names, and its inode has another link count: so has its node.
module _ (blocks : ℕ) (v w : Volume) (t : Tree) (has : HasTree (readers blocks) v t) (within : (b : ℕ) → v.used b ≡ true → b < blocks) (n : ℕ) (d : Dinode)
    (was : objects.objects (readers blocks) v n ≡ Some (spelled (readers blocks) v.page d)) (dir : has_names d ≡ true) (size : length d.rest ≡ 384)
    (root : List ℕ) (width : length root ≡ 288) (parent : parent_of root ≡ parent_of (root_of d)) (now : Moment) (links : ℕ → ℕ) (own : ℕ) (change : List NameEntry → List NameEntry)
    (es : List NameEntry) (spelled_es : spells_names blocks v.page (root_of d) ≡ Ok es) (later mid : ℕ → List ℕ) (inside : (b : ℕ) → b < blocks → mid b ≡ later b) (outside : (b : ℕ) → blocks ≤ b → mid b ≡ v.page b)
    (taken freed : List ℕ) (turned : spells_names blocks later root ≡ Ok (change es))
    (owned : (b : ℕ) → owned_pages blocks later root b + count_in b freed ≡ owned_pages blocks v.page (root_of d) b + count_in b taken)
    (keeps : (b : ℕ) → b < blocks → owned_pages blocks v.page (root_of d) b ≡ 0 → count_in b taken ≡ 0 → later b ≡ v.page b)
    (below : (b : ℕ) → 0 < count_in b taken → b < blocks) (fresh : (b : ℕ) → 0 < count_in b taken → v.used b ≡ false)
    (live : is_live n (record d { nlink = links d.nlink }) ≡ true) (few : links d.nlink ≤ 65535)
    (puts : PutsInode mid w.page v.extents n (record d { rest = put_bytes 96 root d.rest; nblocks = own; nlink = links d.nlink; mtime = now; ctime = now }))
    (used : (b : ℕ) → bit (w.used b) + count_in b freed ≡ bit (v.used b) + count_in b taken) (extents : w.extents ≡ v.extents) (area : w.area ≡ v.area)
    (in_use : (k : ℕ) → w.in_use k ≡ put n true v.in_use k) where
  abbrev z : Readers
  z = readers blocks

  abbrev set : Dinode
  set = record d { rest = put_bytes 96 root d.rest; nblocks = own; nlink = links d.nlink; mtime = now; ctime = now }

  root_is : root_of set ≡ root
  root_is = root_now blocks v.page mid d root now links own change es dir parent width size

  turned_set : spells_names blocks later (root_of set) ≡ Ok (change es)
  turned_set = ap (spells_names blocks later) root_is ∙ turned

  owned_set : (b : ℕ) → owned_pages blocks later (root_of set) b + count_in b freed ≡ owned_pages blocks v.page (root_of d) b + count_in b taken
  owned_set b = ap (λ (x : List ℕ). owned_pages blocks later x b + count_in b freed) root_is ∙ owned b

  pub names_set : SetsObject z v w n set mid taken freed
  names_set = sets_names blocks v has.sound within n d set was dir es (change es) spelled_es later mid inside outside taken freed turned_set owned_set below dir refl refl w keeps fresh live puts used extents area in_use

  same_rules : first_broken (rows (spelled z v.page d).inode n) ≡ None → first_broken (rows (record d { rest = put_bytes 96 root d.rest; nblocks = own; mtime = now }) n) ≡ None
  unfolding spelled rows
  same_rules h = h

  rules_set : first_broken (rows set n) ≡ None
  rules_set = counted_rules blocks v.page (record d { rest = put_bytes 96 root d.rest; nblocks = own; mtime = now }) (links d.nlink) now n few (same_rules (has.inodes n (spelled z v.page d) was))

  pub names_have : HasTree z w (changed n (turns change links now) t)
  names_have = set_has z v w t has n set mid taken freed names_set (turns change links now)
      (node_turned blocks v.page mid d root now links own change es dir parent width size (names_listed blocks v.page d dir ∙ spelled_es)
      (names_now blocks v has.sound within n d set was dir es (change es) spelled_es later mid inside outside taken freed turned_set owned_set below dir refl refl)
      ∙ ap (option_map (turns change links now)) (sym (ap (node_in z v.page) was)))
      (bytes_now blocks v has.sound within n d set was dir es (change es) spelled_es later mid inside outside taken freed turned_set owned_set below dir refl refl) rules_set
