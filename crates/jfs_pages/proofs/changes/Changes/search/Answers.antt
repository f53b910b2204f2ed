use Rattle.std.proofs.Common.{rules}
use Rattle.std.proofs.lemmas.List.Sorted.{answers_always}
use Rattle.jfs_pages.specs.declared.dirty.Dirty.{Dirty}
use Rattle.jfs_pages.proofs.Place.{searched}
use Rattle.jfs_pages.proofs.changes.Changes.search.Goals as goal

-- the closure gives a page's number, and the slice is the dirty pages
pub returns : goal.returns
returns c =
    let facts = c.binary_search_by_key.ensures in
    let by_page = facts.position (λ (d : Dirty). d.page) (answers_always _ _ _ (λ f a r g called. search rules)) in
    rw (← c.deref.ensures.value) (searched _ (rw c.deref.ensures.value c.args.self.now.rising) c.args.page _ facts.bound by_page)
