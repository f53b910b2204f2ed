-- What files, long links and others have.
use Rattle.std.proofs.Common.{◌≡◌, ◌<◌, refl, sym, ap, ◌∙◌, ℕ, ◌+◌, ◌-◌, ◌&&◌, Bool, true, false, true≢false, ◌==◌, nat_le, if◌then◌else◌, List, [], ◌∷◌, ◌++◌, length, Some, Ok, arith}
use Rattle.std.proofs.lemmas.Bool.Decides.{nat_tests}
use Rattle.std.specs.Int.RustNames.{bit_and}
use Rattle.jfs_bits.specs.declared.descriptor.Pxd.{Pxd}
use Rattle.jfs_bits.specs.declared.extent.Dxd.{Dxd}
use Rattle.jfs_bits.specs.declared.extent.Xad.{Xad}
use Rattle.jfs_inode.specs.declared.fields.Dinode.{Dinode}
use Rattle.jfs_lead_steps.specs.page_tree.specs.Edit.{count_in}
use Rattle.jfs_lead_steps.specs.page_tree.specs.Fresh.{run_from, blocks_of}
use Rattle.jfs_lead_steps.specs.page_tree.specs.Walk.{Node}
use Rattle.jfs_lead_steps.specs.page_tree.specs.Spells.{spells, footprint, no_page}
use Rattle.jfs_xtpage.specs.declared.head.XtForm.TheVariants as extents
use Rattle.jfs_lead_steps.specs.xtree.specs.Node.{xt_scale, xt_node}
use Rattle.jfs_lead_steps.specs.xtree.specs.Spells.{page_nodes, root_form, root_node, spells_extents, owned_pages}
use Rattle.jfs_lead_steps.specs.xtree.specs.Cutting.{up_to, kept_below, gone_of, gone_past}
use Rattle.jfs_xtpage.specs.Page.{end_of}
use Rattle.jfs_lead_steps.specs.objects.specs.Readers.{Readers}
use Rattle.jfs_lead_steps.specs.objects.specs.Objects.{spelled, has_names, has_extents, listed}
use Rattle.jfs_lead_steps.specs.objects.specs.Owners.{holds, attributes_held, covers, dxd_has, run_has}
use Rattle.jfs_lead_steps.specs.meaning.specs.Readers.{readers, root_of}
use Rattle.jfs_lead_steps.proofs.Turned.{no_extents_of}
use Rattle.jfs_loss.specs.Frees.{run_of, attribute_runs}
use Rattle.jfs_loss.proofs.Counts.{count_append, count_run}

either : (x : Bool) (k : ℕ) → (if x then k else k) ≡ k
either true k = refl
either false k = refl

pub no_names_of : (d : Dinode) → has_extents d ≡ true → has_names d ≡ false
no_names_of d h = by (has_names d) refl
  where
    by : (x : Bool) → has_names d ≡ x → has_names d ≡ false
    by true e = absurd (true≢false (sym h ∙ no_extents_of d e))
    by false e = e

module _ (blocks : ℕ) where
  abbrev r : Readers
  r = readers blocks

  -- ---- files and long links

  module _ (page : ℕ → List ℕ) (d : Dinode) (size : length (root_of d) ≡ 288) where
    pub root_is : root_node blocks (root_of d) ≡ xt_node extents.Root blocks (root_of d)
    root_is = ap (λ (k : ℕ). xt_node (root_form k) blocks (root_of d)) size

    listed_root : has_extents d ≡ true → listed r.extents_order (spelled r page d).extents ≡ spells xt_scale (page_nodes blocks page) (xt_node extents.Root blocks (root_of d))
    unfolding spells spelled
    listed_root e = rw e refl

    pub extents_listed : has_extents d ≡ true → listed r.extents_order (spelled r page d).extents ≡ spells_extents blocks page (root_of d)
    extents_listed e = listed_root e ∙ ap (spells xt_scale (page_nodes blocks page)) (sym root_is)

    holds_root : (es : List Xad) (b : ℕ) → has_extents d ≡ true → has_names d ≡ false → spells xt_scale (page_nodes blocks page) (xt_node extents.Root blocks (root_of d)) ≡ Ok es
        → holds r (Some (spelled r page d)) b ≡ footprint xt_scale (page_nodes blocks page) (xt_node extents.Root blocks (root_of d)) b + covers b es + attributes_held (spelled r page d) b
    unfolding holds spelled spells footprint
    holds_root es b e f h = rw (e, f, h) (let z = either (b == no_page) 0 in omega (arith, z))

    pub file_holds : (es : List Xad) (b : ℕ) → has_extents d ≡ true → has_names d ≡ false → spells_extents blocks page (root_of d) ≡ Ok es
        → holds r (Some (spelled r page d)) b ≡ owned_pages blocks page (root_of d) b + covers b es + attributes_held (spelled r page d) b
    file_holds es b e f h = holds_root es b e f (ap (spells xt_scale (page_nodes blocks page)) (sym root_is) ∙ h)
        ∙ ap (λ (node : Node ℕ Xad). footprint xt_scale (page_nodes blocks page) node b + covers b es + attributes_held (spelled r page d) b) (sym root_is)

  -- ---- others

  pub other_holds : (page : ℕ → List ℕ) (d : Dinode) (b : ℕ) → has_names d ≡ false → has_extents d ≡ false → holds r (Some (spelled r page d)) b ≡ attributes_held (spelled r page d) b
  unfolding holds spelled
  other_holds page d b e f = rw (e, f) (let z = either (b == no_page) 0 in omega (arith, z))

  pub attributes_are : (page : ℕ → List ℕ) (d : Dinode) (b : ℕ) → attributes_held (spelled r page d) b ≡ dxd_has d.acl b + dxd_has d.ea b
  unfolding spelled
  attributes_are page d b = refl

  -- ---- runs

  run_counted : (x : Dxd) → ((b : ℕ) → 0 < dxd_has x b → b < blocks) → (b : ℕ) → count_in b (blocks_of (run_of blocks x)) ≡ dxd_has x b
  run_counted x h b = by (bit_and x.flag 0x20 == 0x20) (nat_le 1 x.at.len && nat_le (x.at.addr + x.at.len) blocks) refl h
    where
      one : count_in b (run_from x.at.addr x.at.len ++ []) ≡ run_has x.at b
      one = let a = count_append b (run_from x.at.addr x.at.len) [] in let c = count_run b x.at.addr x.at.len in omega (arith, a, c)

      none : (addr len blocks b : ℕ) → (nat_le 1 len && nat_le (addr + len) blocks) ≡ false → ((c : ℕ) → 0 < run_has (record { len = len; addr = addr }) c → c < blocks) → run_has (record { len = len; addr = addr }) b ≡ 0
      none addr len blocks b e h = let l = h (addr + len - 1) in grind (arith, nat_tests, e, l)

      by : (f c : Bool) → (nat_le 1 x.at.len && nat_le (x.at.addr + x.at.len) blocks) ≡ c → ((b : ℕ) → 0 < (if f then run_has x.at b else 0) → b < blocks)
          → count_in b (blocks_of (if f && c then x.at ∷ [] else [])) ≡ (if f then run_has x.at b else 0)
      by true true e h = one
      by true false e h = sym (none x.at.addr x.at.len blocks b e h)
      by false c e h = refl

  runs_append : (xs ys : List Pxd) (b : ℕ) → count_in b (blocks_of (xs ++ ys)) ≡ count_in b (blocks_of xs) + count_in b (blocks_of ys)
  runs_append [] ys b = omega arith
  runs_append (x ∷ xs) ys b = omega (arith, count_append b (run_from x.addr x.len) (blocks_of (xs ++ ys)), count_append b (run_from x.addr x.len) (blocks_of xs), runs_append xs ys b)

  -- attributes within the file system part
  pub attributes_counted : (d : Dinode) → ((b : ℕ) → 0 < dxd_has d.acl b + dxd_has d.ea b → b < blocks) → (b : ℕ) → count_in b (blocks_of (attribute_runs blocks d)) ≡ dxd_has d.acl b + dxd_has d.ea b
  attributes_counted d h b =
      let a = run_counted d.acl (λ c l. h c (omega (arith, l))) b in let e = run_counted d.ea (λ c l. h c (omega (arith, l))) b in
      let s = runs_append (run_of blocks d.acl) (run_of blocks d.ea) b in omega (arith, a, e, s)

  -- a list that is cut at its first block
  from_zero : (k : ℕ) → nat_le 0 k ≡ true
  from_zero k = grind (arith, nat_tests)

  pub nothing_kept : (es : List Xad) → kept_below 0 es ≡ []
  nothing_kept [] = refl
  nothing_kept (e ∷ es) = ap (λ (x : Bool). if x then kept_below 0 es else up_to 0 e ∷ kept_below 0 es) (from_zero e.offset) ∙ nothing_kept es

  gone_whole : (e : Xad) → gone_of 0 e ≡ e.at ∷ []
  gone_whole e = ap (λ (x : Bool). if x then e.at ∷ [] else (if nat_le (end_of e) 0 then [] else record { len = end_of e - 0; addr = e.at.addr + (0 - e.offset) } ∷ [])) (from_zero e.offset)

  pub all_gone : (b : ℕ) (es : List Xad) → count_in b (blocks_of (gone_past 0 es)) ≡ covers b es
  all_gone b [] = refl
  all_gone b (e ∷ es) = ap (λ (xs : List Pxd). count_in b (blocks_of (xs ++ gone_past 0 es))) (gone_whole e)
      ∙ (let a = count_append b (run_from e.at.addr e.at.len) (blocks_of (gone_past 0 es)) in let c = count_run b e.at.addr e.at.len in let i = all_gone b es in omega (arith, a, c, i))
