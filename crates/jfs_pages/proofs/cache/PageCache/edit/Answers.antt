use Rattle.std.proofs.Common.{ℕ, ◌∙◌, arith}
use Rattle.std.proofs.lemmas.Bool.{or_parts}
use Rattle.jfs_ranges.specs.Apply.{apply_tx}
use Rattle.jfs_pages.proofs.Changed.{page_after-tx, shown-tx, shown-untouched, was_there, dirty-entry, stays_clean}
use Rattle.jfs_pages.proofs.cache.PageCache.edit.Goals as goal

pub edit_all-requires-clause-numbers : goal.edit_all-requires-clause-numbers
edit_all-requires-clause-numbers g c n touched =
    let old = c.args.self.now in
    omega (arith, old.few, old.within n (old.kept.held_there n (c.requires.held n touched)))

pub invariant_of-self : goal.invariant_of-self
invariant_of-self g c =
    let old = c.args.self.now in
    let tx = c.args.tx.now in
    let pages = λ (q : ℕ). c.mark_all.ensures.pages q ∙ c.edit_all.ensures.pages q ∙ page_after-tx q tx _ in
    let dirty = λ (q : ℕ). dirty-entry q c.args.entry tx c.args.maps.now _ _ _ (c.edit_all.ensures.dirty q) (c.mark_all.ensures.dirty q) in
    record {
      few = old.few;
      place = old.place;
      within = λ n some. old.within n (was_there (apply_tx n tx) _ _ (pages n) some);
      clean = λ t n none.
          let was = stays_clean _ n c.args.entry _ _ (dirty n) none in
          shown-untouched n tx _ _ _ (old.kept.sizes n) (pages n) (or_parts _ _ was.0).0 ∙ old.clean t n was.1;
    }

pub returns-clause-kept : goal.returns-clause-kept
returns-clause-kept g c q = c.mark_all.ensures.pages q ∙ c.edit_all.ensures.pages q ∙ page_after-tx q c.args.tx.now _

pub returns-clause-pages : goal.returns-clause-pages
returns-clause-pages g c t q within =
    let old = c.args.self.now in
    let pages = c.mark_all.ensures.pages q ∙ c.edit_all.ensures.pages q ∙ page_after-tx q c.args.tx.now _ in
    shown-tx q c.args.tx.now _ _ _ ((g.met.D.Disk.has_pages old.disk t).sizes q (omega (arith, old.place))) pages (λ touched. old.kept.held_there q (c.requires.held q touched))

pub returns-clause-dirty : goal.returns-clause-dirty
returns-clause-dirty g c q = dirty-entry q c.args.entry c.args.tx.now c.args.maps.now _ _ _ (c.edit_all.ensures.dirty q) (c.mark_all.ensures.dirty q)
