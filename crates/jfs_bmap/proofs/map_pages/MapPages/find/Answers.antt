use Rattle.std.proofs.Common.{◌+◌, ◌*◌, ◌≤◌, ℕ, List, arith}
use Rattle.std.specs.Prelude.{Option, Some, None}
use Rattle.jfs_disk.specs.declared.page.Page.{Page}
use Rattle.jfs_dmap.specs.Dmap.{taken_in}
use Rattle.jfs_buddy.specs.Buddy.{IsLowestRun}
use Rattle.jfs_dmapctl.specs.Control.{whole_of, IsControl}
use Rattle.jfs_bmap.specs.Pages.{taken_on, leaf_ranks, AreMapPages}
use Rattle.jfs_bmap.proofs.Lowest.{none-found, whole-found, found-known, on-set, on-within, run-within, page-canonical, page-none, page-some}
use Rattle.jfs_bmap.proofs.map_pages.MapPages.find.Goals as goal

-- what the control page's search says of the leaves over these dmaps
abbrev Searched : List ℕ → ℕ → Option ℕ → Type 0
Searched control l2 o = (level : ℕ) (own : ℕ → ℕ) → IsControl level own control → l2 ≤ whole_of level + 10 → IsLowestRun 5 own (whole_of level + 1) (l2 + 1) o

searched : (blocks free : ℕ) (dmaps : List Page) (control : List ℕ) (l2 : ℕ) (o : Option ℕ) → AreMapPages blocks free dmaps control → l2 ≤ 23 → Searched control l2 o → IsLowestRun 5 (leaf_ranks (taken_on blocks dmaps)) 14 (l2 + 1) o
searched blocks free dmaps control l2 o pages h found = found 0 (leaf_ranks (taken_on blocks dmaps)) pages.ranks h

pub returns-in_err-leaf : goal.returns-in_err-leaf
returns-in_err-leaf c =
    let s = c.self.inside in
    rw c.from_residual.ensures (on-set s.blocks s.dmaps.items c.args.self.now c.args.l2 None c.self.view_is
    (none-found (taken_on s.blocks s.dmaps.items) c.args.l2 (on-within s.blocks s.dmaps.items c.self.invariant.most)
    (searched s.blocks s.free s.dmaps.items s.control.0 c.args.l2 None c.self.invariant c.requires c.in_err-leaf.ensures.found)))

pub returns-then-l2-gt13 : goal.returns-then-l2-gt13
returns-then-l2-gt13 c =
    let s = c.self.inside in
    on-set s.blocks s.dmaps.items c.args.self.now c.args.l2 (Some (8192 * c.in_ok-leaf.leaf)) c.self.view_is
    (whole-found (taken_on s.blocks s.dmaps.items) c.args.l2 c.in_ok-leaf.leaf c.if-l2-gt13.true (searched s.blocks s.free s.dmaps.items s.control.0 c.args.l2 (Some c.in_ok-leaf.leaf) c.self.invariant c.requires c.in_ok-leaf.ensures.found))

pub index-requires : goal.index-requires
index-requires c =
    let s = c.self.inside in
    omega (arith, c.self.invariant.pages.number, found-known s.blocks s.dmaps.items c.args.l2 c.in_ok-leaf.leaf c.if-l2-gt13.false (searched s.blocks s.free s.dmaps.items s.control.0 c.args.l2 (Some c.in_ok-leaf.leaf) c.self.invariant c.requires c.in_ok-leaf.ensures.found))

pub dmap_find-requires : goal.dmap_find-requires
dmap_find-requires c =
    let s = c.self.inside in
    page-canonical s.blocks s.dmaps.items c.args.l2 c.in_ok-leaf.leaf c.index.result.now c.self.invariant.pages c.if-l2-gt13.false (searched s.blocks s.free s.dmaps.items s.control.0 c.args.l2 (Some c.in_ok-leaf.leaf) c.self.invariant c.requires c.in_ok-leaf.ensures.found) c.index.ensures

pub returns-in_err-first : goal.returns-in_err-first
returns-in_err-first c =
    let s = c.self.inside in
    absurd (page-none s.blocks s.dmaps.items c.args.l2 c.in_ok-leaf.leaf c.index.result.now c.self.invariant.pages c.if-l2-gt13.false (searched s.blocks s.free s.dmaps.items s.control.0 c.args.l2 (Some c.in_ok-leaf.leaf) c.self.invariant c.requires c.in_ok-leaf.ensures.found) c.index.ensures c.in_err-first.ensures)

pub overflow_mul-result-2 : goal.overflow_mul-result-2
overflow_mul-result-2 c =
    let s = c.self.inside in
    omega (arith, (searched s.blocks s.free s.dmaps.items s.control.0 c.args.l2 (Some c.in_ok-leaf.leaf) c.self.invariant c.requires c.in_ok-leaf.ensures.found).0)

pub overflow_add-result : goal.overflow_add-result
overflow_add-result c =
    let s = c.self.inside in
    omega (arith, (searched s.blocks s.free s.dmaps.items s.control.0 c.args.l2 (Some c.in_ok-leaf.leaf) c.self.invariant c.requires c.in_ok-leaf.ensures.found).0, run-within (taken_in c.index.result.now.0) c.args.l2 c.in_ok-first.first c.if-l2-gt13.false c.in_ok-first.ensures)

pub returns : goal.returns
returns c =
    let s = c.self.inside in
    on-set s.blocks s.dmaps.items c.args.self.now c.args.l2 (Some (8192 * c.in_ok-leaf.leaf + c.in_ok-first.first)) c.self.view_is
    (page-some s.blocks s.dmaps.items c.args.l2 c.in_ok-leaf.leaf c.index.result.now c.self.invariant.pages c.if-l2-gt13.false (searched s.blocks s.free s.dmaps.items s.control.0 c.args.l2 (Some c.in_ok-leaf.leaf) c.self.invariant c.requires c.in_ok-leaf.ensures.found) c.index.ensures c.in_ok-first.first c.in_ok-first.ensures)
