-- A directory gains a name: from what its tree's call says to the object that is set, and its node.
use Rattle.std.proofs.Common.{◌≡◌, ◌<◌, refl, sym, ap, ◌∙◌, subst, inl, inr, ℕ, ◌+◌, Bool, true, false, true≢false, ◌==◌, if◌then◌else◌, List, [], ◌∷◌, length, Option, Some, Ok, Err, arith, eqb-true}
use Rattle.std.proofs.lemmas.Bool.{cases_lt}
use Rattle.std.specs.Option.{option_map}
use Rattle.std.specs.Int.RustNames.{bit_and}
use Rattle.jfs_bits.proofs.Parts.{part-held}
use Rattle.jfs_bits.specs.declared.descriptor.Pxd.{Pxd}
use Rattle.jfs_inode.specs.declared.fields.Dinode.{Dinode}
use Rattle.jfs_name.specs.declared.name.NameEntry.{NameEntry}
use Rattle.jfs_name.specs.Directory.{with_name}
use Rattle.jfs_ranges.specs.declared.edit.Edit.{Edit}
use Rattle.jfs_ranges.specs.Laid.{put_tx}
use Rattle.jfs_bits.specs.declared.rule.PageKind.TheVariants as kinds
use Rattle.jfs_way.specs.page_tree.specs.Changes.{TellsTaken}
use Rattle.jfs_way.specs.page_tree.specs.Edit.{count_in}
use Rattle.jfs_way.specs.page_tree.specs.Form.{AllBelow}
use Rattle.jfs_way.specs.page_tree.specs.Fresh.{after_tx, blocks_of}
use Rattle.jfs_way.specs.page_tree.specs.Spells.{spells, footprint, no_page}
use Rattle.jfs_way.specs.dtree.specs.Parent.{parent_of}
use Rattle.jfs_way.specs.dtree.specs.Spells.{spells_names, owned_pages, broken_for}
use Rattle.jfs_way.specs.dtree.specs.declared.error.DtError.{DtError}
use Rattle.jfs_way.specs.dtree.specs.Adding.{AddsName, HasOneMoreName, RefusesName, AddTellsWay, ClashesFor}
use Rattle.jfs_way.specs.plain.specs.Moves.{gains}
use Rattle.jfs_way.specs.plain.specs.declared.node.Node.{Node}
use Rattle.jfs_way.specs.plain.specs.declared.refusal.Refusal.{Refusal}
use Rattle.jfs_way.specs.Answer.{names_refusal}
use Rattle.jfs_way.specs.objects.specs.Readers.{Readers}
use Rattle.jfs_way.specs.objects.specs.Volume.{Volume}
use Rattle.jfs_way.specs.objects.specs.Objects.{Object, objects, spelled, is_live, has_names, has_extents, listed}
use Rattle.jfs_way.specs.objects.specs.Objects as objects
use Rattle.jfs_way.specs.objects.specs.Owners.{holds, attributes_held}
use Rattle.jfs_way.specs.objects.specs.Changes.{SetsObject, Takes}
use Rattle.jfs_way.specs.objects.proofs.Framed.{same_spelled}
use Rattle.jfs_way.specs.objects.proofs.Owned.{owned_once}
use Rattle.jfs_way.specs.objects.proofs.Sums.{zero_or_more}
use Rattle.jfs_way.specs.meaning.specs.Contents.{byte_in}
use Rattle.jfs_way.specs.meaning.specs.Node.{node_with, node_from, node_of, node_in, target_in}
use Rattle.jfs_way.specs.meaning.specs.Readers.{readers, root_of}
use Rattle.jfs_way.specs.meaning.proofs.Books.{count_append}
use Rattle.jfs_way.specs.declared.object.Held.{Held}
use Rattle.jfs_steps.specs.declared.gain.Gain.{Gain}
use Rattle.jfs_steps.specs.Gains.{GainsName, GainRefused, CanGain, IsGained, GainLaw, with_root, entry_of, after_set, linked}
use Rattle.jfs_steps.specs.After.{allocs_in}
use Rattle.jfs_steps.specs.Put.{AddsInode, TellsLines}
use Rattle.jfs_steps.specs.Laws.{TakesAndFrees}
use Rattle.jfs_steps.proofs.Puts.{put_within, put_past}
use Rattle.jfs_steps.proofs.Sets.{allocs_are, lines_on_top, taken_move, step_takes}

either : (x : Bool) (k : ℕ) → (if x then k else k) ≡ k
either true k = refl
either false k = refl

all_below : (bound : ℕ) (ns : List ℕ) (b : ℕ) → AllBelow bound ns → 0 < count_in b ns → b < bound
all_below bound [] b h l = absurd (omega (arith, l))
all_below bound (n ∷ ns) b h l = by (n == b) refl (all_below bound ns b h.1) l
  where
    by : (x : Bool) → (n == b) ≡ x → (0 < count_in b ns → b < bound) → 0 < (if x then 1 else 0) + count_in b ns → b < bound
    by true e f l = subst (λ (k : ℕ). k < bound) (eqb-true n b e) h.0
    by false e f l = f (omega (arith, l))

pub no_extents_of : (d : Dinode) → has_names d ≡ true → has_extents d ≡ false
no_extents_of d h = let e = eqb-true (bit_and d.mode 0xf000) 0x4000 h in rw e refl

module _ (blocks : ℕ) where
  abbrev r : Readers
  r = readers blocks

  -- what a directory has: the pages of its tree, and attributes
  pub names_listed : (page : ℕ → List ℕ) (d : Dinode) → has_names d ≡ true → listed r.names_order (spelled r page d).names ≡ spells_names blocks page (root_of d)
  unfolding spells spelled
  names_listed page d e = rw e refl

  pub extents_listed : (page : ℕ → List ℕ) (d : Dinode) → has_extents d ≡ false → listed r.extents_order (spelled r page d).extents ≡ Ok []
  unfolding spelled
  extents_listed page d e = rw e refl

  pub dir_holds : (page : ℕ → List ℕ) (d : Dinode) (es : List NameEntry) (b : ℕ) → has_names d ≡ true → has_extents d ≡ false → spells_names blocks page (root_of d) ≡ Ok es
      → holds r (Some (spelled r page d)) b ≡ owned_pages blocks page (root_of d) b + attributes_held (spelled r page d) b
  unfolding holds spelled spells footprint
  dir_holds page d es b e f h = rw (e, f, h) (let z = either (b == no_page) 0 in omega (arith, z))

  -- a directory's pages are those of its footprint
  footprint_is : (page : ℕ → List ℕ) (d : Dinode) (b : ℕ) → has_names d ≡ true → has_extents d ≡ false → objects.footprint (spelled r page d) b ≡ owned_pages blocks page (root_of d) b
  unfolding objects.footprint footprint spelled
  footprint_is page d b e f = rw (e, f) (let z = either (b == no_page) 0 in omega (arith, z))

  -- it holds no bytes
  pub dir_bytes : (page : ℕ → List ℕ) (d : Dinode) (i : ℕ) → has_names d ≡ true → byte_in r page (Some (spelled r page d)) i ≡ 0
  unfolding spelled
  dir_bytes page d i h = let t = eqb-true (bit_and d.mode 0xf000) 0x4000 h in rw t refl

  pub dir_node : (page : ℕ → List ℕ) (d : Dinode) (names : List NameEntry) → has_names d ≡ true → spells_names blocks page (root_of d) ≡ Ok names
      → node_of r page (spelled r page d) ≡ Some (node_with (spelled r page d).inode (target_in r page (spelled r page d)) names)
  dir_node page d names e h = ap (λ x. node_from (spelled r page d).inode (target_in r page (spelled r page d)) x (listed r.extents_order (spelled r page d).extents)) (names_listed page d e ∙ h)
      ∙ ap (λ y. node_from (spelled r page d).inode (target_in r page (spelled r page d)) (Ok names) y) (extents_listed page d (no_extents_of d e))

module _ (blocks : ℕ) (v : Volume) (dir : Held) (es : List NameEntry) (name : List ℕ) (gain : Gain) (free left : List Pxd) (tx : List Edit) (can : CanGain blocks v dir es free)
    (g : GainsName blocks v.page dir name gain free left tx) (live : is_live dir.number (with_root dir.inode g.root gain (length g.edits.0)) ≡ true) where
  abbrev n : ℕ
  n = dir.number

  abbrev d : Dinode
  d = dir.inode

  abbrev set : Dinode
  set = with_root d g.root gain (length g.edits.0)

  abbrev taken : List ℕ
  taken = g.edits.0

  abbrev later : ℕ → List ℕ
  later = after_tx v.page g.mid

  abbrev mid : ℕ → List ℕ
  mid = put_tx blocks g.mid v.page

  abbrev w : Volume
  w = after_set blocks tx n v

  plain : has_extents d ≡ false
  plain = no_extents_of d can.is_dir

  root_is : root_of set ≡ g.root
  root_is = part-held 96 288 g.root d.rest g.width (let s = g.size in omega (arith, s))

  free_is : (b : ℕ) → count_in b (blocks_of free) ≡ count_in b taken + count_in b (blocks_of left)
  free_is b = ap (count_in b) g.edits.1 ∙ count_append b taken (blocks_of left)

  owned_is : (b : ℕ) → holds (readers blocks) (objects (readers blocks) v n) b ≡ owned_pages blocks v.page (root_of d) b + attributes_held (spelled (readers blocks) v.page d) b
  owned_is b = ap (λ o. holds (readers blocks) o b) can.was ∙ dir_holds blocks v.page d es b can.is_dir plain can.names

  in_use : (b : ℕ) → 0 < owned_pages blocks v.page (root_of d) b → v.used b ≡ true
  in_use b l = (owned_once (readers blocks) v can.sound.agrees).in_use n b (let e = owned_is b in omega (arith, e, l))

  spare : (b : ℕ) → 0 < count_in b (blocks_of free) → owned_pages blocks v.page (root_of d) b ≡ 0
  spare b l = elim (zero_or_more (owned_pages blocks v.page (root_of d) b)) [
    | inl z ↦ z
    | inr o ↦ absurd (true≢false (sym (in_use b o) ∙ can.fresh b l))
  ]

  adds : HasOneMoreName blocks (entry_of name gain) es v.page later (root_of d) (root_of set) (blocks_of free) (blocks_of left)
  adds = subst (λ (root : List ℕ). HasOneMoreName blocks (entry_of name gain) es v.page later (root_of d) root (blocks_of free) (blocks_of left)) (sym root_is)
      (g.adds v.page (λ b l. (can.whole b l, refl)) es can.names (record { once = can.once; apart = spare }))

  later_below : (b : ℕ) → 0 < owned_pages blocks later (root_of set) b → b < blocks
  later_below b l = elim (zero_or_more (owned_pages blocks v.page (root_of d) b)) [
    | inr o ↦ can.used_within b (in_use b o)
    | inl z ↦ all_below blocks (blocks_of free) b can.free_within (let e = adds.owned b in omega (arith, e, l, z))
  ]

  -- what is spelled on the pages of the file system part
  same : spelled (readers blocks) mid set ≡ spelled (readers blocks) later set
  same = same_spelled (readers blocks) later mid set (λ b f. put_within blocks g.mid v.page b (later_below b (let e = footprint_is blocks later set b can.is_dir plain in omega (arith, e, f))))

  spelled_now : spells_names blocks mid (root_of set) ≡ Ok (with_name (entry_of name gain) es)
  spelled_now = sym (names_listed blocks mid set can.is_dir) ∙ ap (λ (o : Object). listed (readers blocks).names_order o.names) same ∙ names_listed blocks later set can.is_dir ∙ adds.spelled

  owned_now : (b : ℕ) → owned_pages blocks mid (root_of set) b ≡ owned_pages blocks later (root_of set) b
  owned_now b = sym (footprint_is blocks mid set b can.is_dir plain) ∙ ap (λ (o : Object). objects.footprint o b) same ∙ footprint_is blocks later set b can.is_dir plain

  attributes : (b : ℕ) → attributes_held (spelled (readers blocks) mid set) b ≡ attributes_held (spelled (readers blocks) v.page d) b
  unfolding spelled
  attributes b = refl

  moves : TakesAndFrees tx taken []
  moves = lines_on_top blocks v.page dir.page g.mid tx taken [] (taken_move blocks _ v.page (blocks_of free) (blocks_of left) g.mid (λ first bytes. refl) g.edits) g.lines

  takes : Takes v w taken []
  takes = step_takes tx v w taken [] moves (record {
    fresh = λ b l. can.fresh b (let t = moves.taken_are b in let f = free_is b in omega (arith, t, f, l));
    owned = λ b l. absurd (let f = moves.freed_are b in omega (arith, f, l));
    once = λ b. (let t = moves.taken_are b in let f = free_is b in let z = moves.freed_are b in let o = can.once b in omega (arith, t, f, z, o));
  }) refl

  sets : SetsObject (readers blocks) v w n set mid taken []
  sets = record {
    live = live;
    whole = record { names = with_name (entry_of name gain) es; extents = []; names_are = names_listed blocks mid set can.is_dir ∙ spelled_now; extents_are = extents_listed blocks mid set plain };
    blocks = λ b. (let x = dir_holds blocks mid set (with_name (entry_of name gain) es) b can.is_dir plain spelled_now in let y = owned_is b in let z = adds.owned b in let o = owned_now b in let f = free_is b in let a = attributes b in
        omega (arith, x, y, z, o, f, a));
    keeps = λ b h t. elim (cases_lt b blocks) [
      | inl l ↦ put_within blocks g.mid v.page b l ∙ adds.keeps b l (let y = owned_is b in omega (arith, y, h)) (let f = free_is b in omega (arith, f, t))
      | inr l ↦ put_past blocks g.mid v.page b l
    ];
    puts = g.puts v.extents can.at;
    takes = takes;
    extents = refl;
    area = refl;
    in_use = λ k. refl;
  }

  type : bit_and d.mode 0xf000 ≡ 0x4000
  type = eqb-true (bit_and d.mode 0xf000) 0x4000 can.is_dir

  same_parent : parent_of (root_of set) ≡ parent_of (root_of d)
  same_parent = ap parent_of root_is ∙ g.parent

  gained_node : node_with (spelled (readers blocks) mid set).inode (target_in (readers blocks) mid (spelled (readers blocks) mid set)) (with_name (entry_of name gain) es)
      ≡ linked gain.links (gains (entry_of name gain) gain.now (node_with (spelled (readers blocks) v.page d).inode (target_in (readers blocks) v.page (spelled (readers blocks) v.page d)) es))
  unfolding spelled
  gained_node = rw (same_parent, type) refl

  pub gained : IsGained blocks v w n set mid taken name gain
  gained = record {
    sets = sets;
    node = dir_node blocks mid set (with_name (entry_of name gain) es) can.is_dir spelled_now ∙ ap (λ (o : Node). Some o) gained_node
        ∙ sym (ap (option_map (λ o. linked gain.links (gains (entry_of name gain) gain.now o))) (ap (node_in (readers blocks) v.page) can.was ∙ dir_node blocks v.page d es can.is_dir can.names));
    bytes = λ i. dir_bytes blocks mid set i can.is_dir ∙ sym (ap (λ (o : Option Object). byte_in (readers blocks) v.page o i) can.was ∙ dir_bytes blocks v.page d i can.is_dir);
  }

pub gain_law : GainLaw
gain_law blocks v dir es name gain free left tx can g live = gained blocks v dir es name gain free left tx can g live

-- the clauses of the calls together
pub gains_told : (blocks : ℕ) (pages : ℕ → List ℕ) (dir : Held) (name : List ℕ) (gain : Gain) (free left : List Pxd) (root : List ℕ) (mid tx : List Edit) → length root ≡ 288 → length dir.inode.rest ≡ 384
    → parent_of root ≡ parent_of (root_of dir.inode) → AddsName blocks pages (entry_of name gain) (root_of dir.inode) root (blocks_of free) (blocks_of left) [] mid
    → TellsTaken blocks kinds.Dtree pages (blocks_of free) (blocks_of left) [] mid → AddsInode blocks pages dir.page dir.number (with_root dir.inode root gain (allocs_in mid)) mid tx → TellsLines blocks pages dir.page mid tx
    → GainsName blocks pages dir name gain free left tx
gains_told blocks pages dir name gain free left root mid tx width size parent adds edits puts lines = record {
  root = root;
  mid = mid;
  width = width;
  size = size;
  parent = parent;
  adds = adds;
  edits = edits;
  puts = subst (λ (more : ℕ). AddsInode blocks pages dir.page dir.number (with_root dir.inode root gain more) mid tx)
      (allocs_are blocks kinds.Dtree pages (blocks_of free) (blocks_of left) mid (λ first bytes. refl) edits) puts;
  lines = lines;
}

-- why its tree refuses the name
pub refused_told : (blocks : ℕ) (pages : ℕ → List ℕ) (dir : Held) (name : List ℕ) (gain : Gain) (free : List Pxd) (root : List ℕ) (why : Refusal) (e : DtError) → root ≡ root_of dir.inode → why ≡ names_refusal dir.number dir.page e
    → RefusesName blocks pages (entry_of name gain) root (blocks_of free) e → AddTellsWay (broken_for blocks pages root name) (ClashesFor blocks pages (entry_of name gain) root) (Err e) → GainRefused blocks pages dir name gain free why
refused_told blocks pages dir name gain free root why e is value refuses way = inr (
  e,
  value,
  subst (λ (bytes : List ℕ). RefusesName blocks pages (entry_of name gain) bytes (blocks_of free) e) is refuses,
  subst (λ (bytes : List ℕ). AddTellsWay (broken_for blocks pages bytes name) (ClashesFor blocks pages (entry_of name gain) bytes) (Err e)) is way,
)
