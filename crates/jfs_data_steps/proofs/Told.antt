-- Pages that edits leave, whatever they hold.
use Rattle.std.proofs.Common.{◌≡◌, ◌≢◌, ◌⊎◌, ◌<◌, ◌≤◌, refl, sym, ap, ◌∙◌, subst, inl, inr, ℕ, zero, suc, ◌+◌, ◌-◌, ◌*◌, Bool, true, false, List, [], ◌∷◌, ◌++◌, length, take, drop, arith}
use Rattle.jfs_bits.specs.Line.{line_size}
use Rattle.jfs_bits.specs.declared.descriptor.Pxd.{Pxd}
use Rattle.jfs_bits.specs.declared.rule.PageKind.{PageKind}
use Rattle.jfs_bits.specs.declared.rule.PageKind.TheVariants as kinds
use Rattle.jfs_ranges.specs.declared.edit.Edit.{Edit}
use Rattle.jfs_ranges.specs.declared.edit.Edit.TheVariants.{Lines, NoRedo, Alloc, Free}
use Rattle.jfs_ranges.specs.Apply.{apply_tx, apply_edit, place_of_line}
use Rattle.jfs_ranges.specs.Laid.{put_tx, applied_length}
use Rattle.jfs_ranges.proofs.Overlaid.{overlaid-none}
use Rattle.jfs_loss.specs.page_tree.specs.Changes.{PagesEdits, TellsChanges}
use Rattle.jfs_loss.specs.page_tree.specs.Form.{AllBelow}
use Rattle.jfs_loss.specs.page_tree.specs.Fresh.{LeadsTo, allocs_of}
use Rattle.jfs_loss.specs.page_tree.specs.Removes.{page_no_redos, page_marks, page_frees}
use Rattle.jfs_loss.specs.page_tree.specs.Tell.{IsRuns, PageEdits, lines_from, is_in}
use Rattle.jfs_loss.specs.xtree.specs.Cutting.{run_frees}
use Rattle.jfs_loss.specs.objects.proofs.Sums.{eq_or_not}
use Rattle.jfs_loss.specs.steps.specs.Put.{TellsLines}
use Rattle.jfs_loss.proofs.Counts.{applied_append, applied_runs}
use Rattle.jfs_data_steps.specs.After.{LeavesPage}

-- ---- edits after edits

pub leaves_none : (b : ℕ) → LeavesPage b []
leaves_none b page size = refl

pub leaves_onto : (b : ℕ) (tx more : List Edit) → LeavesPage b tx → LeavesPage b more → LeavesPage b (tx ++ more)
leaves_onto b tx more one two page size = applied_append b tx more page ∙ ap (apply_tx b more) (one page size) ∙ two page size

-- what takes and frees blocks changes no byte
pub allocs_leave : (b : ℕ) (ns : List ℕ) → LeavesPage b (allocs_of ns)
allocs_leave b [] page size = refl
allocs_leave b (n ∷ ns) page size = allocs_leave b ns page size

no_redos_leave : (b : ℕ) (ns : List ℕ) → LeavesPage b (page_no_redos ns)
no_redos_leave b [] page size = refl
no_redos_leave b (n ∷ ns) page size = no_redos_leave b ns page size

marks_leave : (b : ℕ) (ns : List ℕ) → LeavesPage b (page_marks ns)
marks_leave b [] page size = refl
marks_leave b (n ∷ ns) page size = marks_leave b ns page size

pub frees_leave : (b : ℕ) (ns : List ℕ) (runs : List Pxd) → LeavesPage b (page_frees ns ++ run_frees runs)
frees_leave b ns runs = leaves_onto b (page_frees ns) (run_frees runs) (leaves_onto b (page_no_redos ns) (page_marks ns) (no_redos_leave b ns) (marks_leave b ns)) (λ page size. applied_runs b runs page)

-- ---- lines of one page

take_short : (n : ℕ) (xs : List ℕ) → length (take n xs) ≤ n
take_short zero xs = omega arith
take_short (suc n) [] = omega arith
take_short (suc n) (x ∷ xs) = omega (arith, take_short n xs)

-- bytes that lie in page n, from a place in it on
bytes_leave : (n b at : ℕ) (bytes page : List ℕ) (kind : PageKind) (first : ℕ) → b ≢ n → at ≡ line_size kind * first → length bytes ≤ 4096 - at → length page ≡ 4096 → apply_edit b (Lines n kind first bytes) page ≡ page
unfolding place_of_line
bytes_leave n b at bytes page kind first apart is few size = overlaid-none (4096 * n + line_size kind * first) bytes (4096 * b) page (side n b at (line_size kind * first) (length page) (length bytes) apart is few size)
  where
    less_or_more : (a b : ℕ) → a ≢ b → (a < b) ⊎ (b < a)
    less_or_more a b ne = grind (arith, ne)

    side : (n b at x size len : ℕ) → b ≢ n → at ≡ x → len ≤ 4096 - at → size ≡ 4096 → (4096 * b + size ≤ 4096 * n + x) ⊎ (len ≤ 4096 * b - (4096 * n + x))
    side n b at x size len apart is few whole = elim (less_or_more b n apart) [
      | inl l ↦ inl (omega (arith, l, whole))
      | inr l ↦ inr (omega (arith, l, is, few))
    ]

line_leaves : (n b : ℕ) (kind : PageKind) (first end : ℕ) (new page : List ℕ) → b ≢ n → line_size kind * end ≤ 4096 → length page ≡ 4096 → apply_edit b (Lines n kind first (lines_from (line_size kind) first end new)) page ≡ page
line_leaves n b kind first end new page apart within size = bytes_leave n b (line_size kind * first) (lines_from (line_size kind) first end new) page kind first apart refl
    (let t = take_short (line_size kind * end - line_size kind * first) (drop (line_size kind * first) new) in omega (arith, t, within)) size

pub runs_leave_others : (n b : ℕ) (kind : PageKind) (old new : List ℕ) (first : ℕ) (edits : List Edit) → b ≢ n → IsRuns n kind old new first edits → LeavesPage b edits
runs_leave_others n b kind old new first [] apart h content size = refl
runs_leave_others n b kind old new first (Lines page own at bytes ∷ edits) apart h content size =
    ap (apply_tx b edits) (one page own bytes h.0 h.1 h.4.3) ∙ runs_leave_others n b kind old new h.4.0 edits apart h.4.6 content size
  where
    one : (page : ℕ) (own : PageKind) (bytes : List ℕ) → page ≡ n → own ≡ kind → bytes ≡ lines_from (line_size kind) at h.4.0 new → apply_edit b (Lines page own at bytes) content ≡ content
    one page own bytes p k s = rw (p, k, s) (line_leaves n b kind at h.4.0 new content apart h.4.2 size)
runs_leave_others n b kind old new first (NoRedo page ∷ edits) apart h content size = absurd h
runs_leave_others n b kind old new first (Alloc run ∷ edits) apart h content size = absurd h
runs_leave_others n b kind old new first (Free run ∷ edits) apart h content size = absurd h

-- a page in which nothing changes has no runs
no_runs : (n : ℕ) (kind : PageKind) (page : List ℕ) (first : ℕ) (edits : List Edit) → IsRuns n kind page page first edits → edits ≡ []
no_runs n kind page first [] h = refl
no_runs n kind page first (Lines m own at bytes ∷ edits) h = absurd (h.4.4 at (omega arith) h.4.1 refl)
no_runs n kind page first (NoRedo m ∷ edits) h = absurd h
no_runs n kind page first (Alloc run ∷ edits) h = absurd h
no_runs n kind page first (Free run ∷ edits) h = absurd h

runs_leave_same : (n : ℕ) (kind : PageKind) (old new : List ℕ) (edits : List Edit) → new ≡ old → IsRuns n kind old new 0 edits → LeavesPage n edits
runs_leave_same n kind old new edits same h = subst (LeavesPage n) (sym (no_runs n kind old 0 edits (subst (λ (page : List ℕ). IsRuns n kind old page 0 edits) same h))) (leaves_none n)

-- ---- pages of a tree

page_leaves : (taken : List ℕ) (b n : ℕ) (kind : PageKind) (old new : ℕ → List ℕ) (edits : List Edit) → is_in b taken ≡ false → new b ≡ old b → length (new n) ≡ 4096 → PageEdits (is_in n taken) n kind (old n) (new n) edits → LeavesPage b edits
page_leaves taken b n kind old new edits untaken same whole h = elim (eq_or_not b n) [
  | inl e ↦ runs_leave_same b kind (old b) (new b) edits same (subst (λ (x : Bool). PageEdits x b kind (old b) (new b) edits) untaken (subst (λ (m : ℕ). PageEdits (is_in m taken) m kind (old m) (new m) edits) (sym e) h))
  | inr apart ↦ by apart (is_in n taken) h
]
  where
    by : b ≢ n → (x : Bool) → PageEdits x n kind (old n) (new n) edits → LeavesPage b edits
    by apart true h page size = ap (λ (tx : List Edit). apply_tx b tx page) h ∙ bytes_leave n b 0 (new n) page kind 0 apart (nothing (line_size kind)) (omega (arith, whole)) size
      where
        nothing : (k : ℕ) → 0 ≡ k * 0
        nothing k = omega arith
    by apart false h page size = runs_leave_others n b kind (old n) (new n) 0 edits apart h page size

pages_leave : (blocks : ℕ) (taken : List ℕ) (b : ℕ) (kind : PageKind) (old new : ℕ → List ℕ) (ns : List ℕ) (edits : List Edit) → is_in b taken ≡ false → new b ≡ old b → ((n : ℕ) → n < blocks → length (new n) ≡ 4096) → AllBelow blocks ns
    → PagesEdits kind taken old new ns edits → LeavesPage b edits
pages_leave blocks taken b kind old new [] edits untaken same whole within h = subst (LeavesPage b) (sym h) (leaves_none b)
pages_leave blocks taken b kind old new (n ∷ ns) edits untaken same whole within h = subst (LeavesPage b) (sym h.2)
    (leaves_onto b h.0 h.1 (page_leaves taken b n kind old new h.0 untaken same (whole n within.0) h.3) (pages_leave blocks taken b kind old new ns h.1 untaken same whole within.1 h.4))

-- A call on a tree leaves each page that it neither takes nor changes, where its edits lead from whole pages.
pub changes_leave : (blocks : ℕ) (kind : PageKind) (taken : List ℕ) (pages base : ℕ → List ℕ) (last tx later : List Edit) → (tells : TellsChanges blocks kind taken pages last tx later) → LeadsTo blocks base tx pages
    → (b : ℕ) → b < blocks → is_in b taken ≡ false → apply_tx b later (base b) ≡ pages b → LeavesPage b last → LeavesPage b tx → LeavesPage b later
changes_leave blocks kind taken pages base last tx later tells leads b low untaken same last_leaves tx_leaves = subst (LeavesPage b) (sym tells.told)
    (leaves_onto b tx (tells.lines ++ last) tx_leaves (leaves_onto b tells.lines last
    (pages_leave blocks taken b kind pages tells.after tells.changed tells.lines untaken (sym ((tells.leads base leads b low).1) ∙ same)
    (λ n l. (let t = tells.leads base leads n l in ap length (sym t.1) ∙ applied_length n later (base n) ∙ t.0)) tells.within tells.edits) last_leaves))

-- And lines of an inode's page leave all others.
pub lines_leave_others : (blocks : ℕ) (pages : ℕ → List ℕ) (page b : ℕ) (tx later : List Edit) → b ≢ page → LeavesPage b tx → TellsLines blocks pages page tx later → LeavesPage b later
lines_leave_others blocks pages page b tx later apart leaves tells = subst (LeavesPage b) (sym tells.1)
    (leaves_onto b tx tells.0 leaves (runs_leave_others page b kinds.Inode (put_tx blocks tx pages page) (put_tx blocks later pages page) 0 tells.0 apart tells.2))
