-- A regular file's tree names other extents: from what a call on its tree does to the file that is set.
use Rattle.std.proofs.Common.{◌≡◌, ◌≤◌, ◌<◌, refl, sym, ap, ◌∙◌, inl, inr, ℕ, ◌+◌, Bool, true, false, ◌==◌, if◌then◌else◌, List, [], length, Some, Ok, arith, eqb-true}
use Rattle.std.proofs.lemmas.Bool.{cases_lt}
use Rattle.std.specs.Int.RustNames.{bit_and}
use Rattle.jfs_bits.specs.declared.descriptor.Moment.{Moment}
use Rattle.jfs_bits.specs.declared.extent.Xad.{Xad}
use Rattle.jfs_bits.proofs.Parts.{part-held, length-range_of}
use Rattle.jfs_inode.specs.declared.fields.Dinode.{Dinode}
use Rattle.jfs_ranges.specs.declared.edit.Edit.{Edit}
use Rattle.jfs_ranges.specs.Laid.{put_tx}
use Rattle.jfs_loss.specs.page_tree.specs.Edit.{count_in}
use Rattle.jfs_loss.specs.page_tree.specs.Fresh.{after_tx}
use Rattle.jfs_loss.specs.page_tree.specs.Spells.{footprint, no_page}
use Rattle.jfs_loss.specs.page_tree.specs.Walk.{Node}
use Rattle.jfs_xtpage.specs.declared.head.XtForm.TheVariants as extents
use Rattle.jfs_loss.specs.xtree.specs.Node.{xt_scale, xt_node}
use Rattle.jfs_loss.specs.xtree.specs.Spells.{page_nodes, spells_extents, owned_pages}
use Rattle.jfs_loss.specs.objects.specs.Readers.{Readers}
use Rattle.jfs_loss.specs.objects.specs.Volume.{Volume}
use Rattle.jfs_loss.specs.objects.specs.Objects.{spelled, is_live, has_names, has_extents, listed}
use Rattle.jfs_loss.specs.objects.specs.Objects as objects
use Rattle.jfs_loss.specs.objects.specs.Owners.{holds, attributes_held, covers, is_data, entries}
use Rattle.jfs_loss.specs.objects.specs.Changes.{PutsInode, SetsObject}
use Rattle.jfs_loss.specs.objects.proofs.Framed.{same_spelled}
use Rattle.jfs_loss.specs.objects.proofs.Owned.{owned_once}
use Rattle.jfs_loss.specs.objects.proofs.Sums.{zero_or_more}
use Rattle.jfs_loss.specs.meaning.specs.Contents.{is_regular}
use Rattle.jfs_loss.specs.meaning.specs.Readers.{readers, root_of}
use Rattle.jfs_loss.specs.meaning.specs.Consistent.{IsConsistent}
use Rattle.jfs_loss.proofs.Holds.{root_is, extents_listed, file_holds}
use Rattle.jfs_loss.specs.steps.specs.Gains.{after_set}
use Rattle.jfs_loss.specs.steps.specs.Laws.{TakesAndFrees, IsFair}
use Rattle.jfs_loss.specs.steps.proofs.Puts.{put_within, put_past}
use Rattle.jfs_loss.specs.steps.proofs.Sets.{step_takes}
use Rattle.jfs_data_steps.specs.declared.pages.DataPage.{DataPage}
use Rattle.jfs_data_steps.specs.After.{is_put, AreWholePages, LeavesPage}
use Rattle.jfs_data_steps.specs.File.{resized}
use Rattle.jfs_data_steps.specs.Laws.{MayPut, SetsFile}
use Rattle.jfs_data_steps.proofs.Files.{file_names}

either : (x : Bool) (k : ℕ) → (if x then k else k) ≡ k
either true k = refl
either false k = refl

pub file_type : (d : Dinode) → is_regular d ≡ true → bit_and d.mode 0xf000 ≡ 0x8000
file_type d h = eqb-true (bit_and d.mode 0xf000) 0x8000 h

pub no_names : (d : Dinode) → is_regular d ≡ true → has_names d ≡ false
no_names d h = let e = file_type d h in rw e refl

pub some_extents : (d : Dinode) → is_regular d ≡ true → has_extents d ≡ true
some_extents d h = let e = file_type d h in rw e refl

module _ (blocks : ℕ) (v : Volume) (con : IsConsistent (readers blocks) v) (within : (b : ℕ) → v.used b ≡ true → b < blocks) (whole : (b : ℕ) → b < blocks → length (v.page b) ≡ 4096)
    (n : ℕ) (d : Dinode) (was : objects.objects (readers blocks) v n ≡ Some (spelled (readers blocks) v.page d)) (live : is_live n d ≡ true) (regular : is_regular d ≡ true) (rest : length d.rest ≡ 384)
    (es : List Xad) (spelled_es : spells_extents blocks v.page (root_of d) ≡ Ok es) where
  abbrev r : Readers
  r = readers blocks

  wide : length (root_of d) ≡ 288
  wide = length-range_of d.rest 96 288 (omega (arith, rest))

  -- what the file has
  pub had : (b : ℕ) → holds r (objects.objects r v n) b ≡ owned_pages blocks v.page (root_of d) b + covers b es + attributes_held (spelled r v.page d) b
  had b = ap (λ o. holds r o b) was ∙ file_holds blocks v.page d wide es b (some_extents d regular) (no_names d regular) spelled_es

  pub had_below : (b : ℕ) → 0 < owned_pages blocks v.page (root_of d) b + covers b es → b < blocks
  had_below b l = within b ((owned_once r v con.sound.agrees).in_use n b (let h = had b in omega (arith, h, l)))

  pub had_once : (b : ℕ) → owned_pages blocks v.page (root_of d) b + covers b es ≤ 1
  had_once b = let h = had b in let o = (owned_once r v con.sound.agrees).once n b in omega (arith, h, o)

  -- its data is what its extents name
  pub data_was : (b : ℕ) → is_data r (objects.objects r v n) b ≡ covers b es
  unfolding is_data
  data_was b = ap (λ o. is_data r o b) was ∙ ap (λ l. covers b (entries l)) (extents_listed blocks v.page d wide (some_extents d regular) ∙ spelled_es)

  -- The tree's edits, and then all of them.
  module _ (root : List ℕ) (width : length root ≡ 288) (size own : ℕ) (now : Moment) (later_es : List Xad) (edits tx : List Edit) (taken freed : List ℕ)
      (turned : spells_extents blocks (after_tx v.page edits) root ≡ Ok later_es)
      (owned : (b : ℕ) → owned_pages blocks (after_tx v.page edits) root b + covers b later_es + count_in b freed ≡ owned_pages blocks v.page (root_of d) b + covers b es + count_in b taken)
      (keeps : (b : ℕ) → b < blocks → owned_pages blocks v.page (root_of d) b ≡ 0 → count_in b taken ≡ 0 → after_tx v.page edits b ≡ v.page b)
      (below : (b : ℕ) → 0 < count_in b taken → b < blocks) where
    abbrev pub set : Dinode
    set = resized d root size own now

    abbrev later : ℕ → List ℕ
    later = after_tx v.page edits

    abbrev pub mid : ℕ → List ℕ
    mid = put_tx blocks edits v.page

    root_now : root_of set ≡ root
    root_now = part-held 96 288 root d.rest width (omega (arith, rest))

    wide_now : length (root_of set) ≡ 288
    wide_now = ap length root_now ∙ width

    later_below : (b : ℕ) → 0 < owned_pages blocks later root b → b < blocks
    later_below b l = elim (zero_or_more (count_in b taken)) [
      | inr t ↦ below b t
      | inl z ↦ had_below b (let e = owned b in omega (arith, e, l, z))
    ]

    footprint_root : (page : ℕ → List ℕ) (b : ℕ) → objects.footprint (spelled r page set) b ≡ footprint xt_scale (page_nodes blocks page) (xt_node extents.Root blocks (root_of set)) b
    unfolding objects.footprint footprint spelled
    footprint_root page b = rw (no_names set regular, some_extents set regular) (let z = either (b == no_page) 0 in omega (arith, z))

    footprint_is : (page : ℕ → List ℕ) (b : ℕ) → objects.footprint (spelled r page set) b ≡ owned_pages blocks page root b
    footprint_is page b = footprint_root page b ∙ ap (λ (node : Node ℕ Xad). footprint xt_scale (page_nodes blocks page) node b) (sym (root_is blocks page set wide_now)) ∙ ap (λ (bytes : List ℕ). owned_pages blocks page bytes b) root_now

    -- what is spelled on the pages of the file system part
    same : spelled r mid set ≡ spelled r later set
    same = same_spelled r later mid set (λ b f. put_within blocks edits v.page b (later_below b (let e = footprint_is later b in omega (arith, e, f))))

    pub extents_now : listed r.extents_order (spelled r mid set).extents ≡ Ok later_es
    extents_now = ap (λ o. listed r.extents_order o.extents) same ∙ extents_listed blocks later set wide_now (some_extents set regular) ∙ ap (spells_extents blocks later) root_now ∙ turned

    spelled_now : spells_extents blocks mid (root_of set) ≡ Ok later_es
    spelled_now = sym (extents_listed blocks mid set wide_now (some_extents set regular)) ∙ extents_now

    owned_now : (b : ℕ) → owned_pages blocks mid (root_of set) b ≡ owned_pages blocks later root b
    owned_now b = ap (λ (bytes : List ℕ). owned_pages blocks mid bytes b) root_now ∙ sym (footprint_is mid b) ∙ ap (λ o. objects.footprint o b) same ∙ footprint_is later b

    attributes : (b : ℕ) → attributes_held (spelled r mid set) b ≡ attributes_held (spelled r v.page d) b
    unfolding spelled
    attributes b = refl

    pub data_now : (b : ℕ) → is_data r (Some (spelled r mid set)) b ≡ covers b later_es
    unfolding is_data
    data_now b = ap (λ l. covers b (entries l)) extents_now

    same_live : is_live n set ≡ true
    same_live = live

    module _ (moves : TakesAndFrees tx taken freed) (fair : IsFair tx v.used) (puts : PutsInode mid (put_tx blocks tx v.page) v.extents n set) where
      pub extents_set : SetsObject r v (after_set blocks tx n v) n set mid taken freed
      extents_set = record {
        live = same_live;
        whole = record { names = []; extents = later_es; names_are = file_names r mid set (file_type d regular); extents_are = extents_now };
        blocks = λ b. (let x = file_holds blocks mid set wide_now later_es b (some_extents set regular) (no_names set regular) spelled_now in let y = had b in let z = owned b in let o = owned_now b in let a = attributes b in
            omega (arith, x, y, z, o, a));
        keeps = λ b h t. elim (cases_lt b blocks) [
          | inl l ↦ put_within blocks edits v.page b l ∙ keeps b l (let y = had b in omega (arith, y, h)) t
          | inr l ↦ put_past blocks edits v.page b l
        ];
        puts = puts;
        takes = step_takes tx v (after_set blocks tx n v) taken freed moves fair refl;
        extents = refl;
        area = refl;
        in_use = λ k. refl;
      }

      -- data in its place, or in blocks that were free
      pub file_sets : (ds : List DataPage) → AreWholePages ds → MayPut r v n ds → ((b : ℕ) → is_put b ds ≡ true → 0 < covers b later_es) → ((b : ℕ) → 0 < covers b later_es → LeavesPage b tx)
          → SetsFile blocks v n d root size own now later_es mid taken freed ds tx
      file_sets ds pages before after untold = record {
        was = was;
        regular = regular;
        extents = extents_now;
        sets = record {
          sets = extents_set;
          extents_stay = moves.extents_stay v.extents;
          pages = whole;
          whole = pages;
          before = before;
          after = λ b e. (let l = after b e in let i = data_now b in omega (arith, l, i));
          untold = λ b l. untold b (let i = data_now b in omega (arith, l, i));
        };
      }
