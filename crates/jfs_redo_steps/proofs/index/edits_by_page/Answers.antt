use Rattle.std.proofs.Common.{rules, ◌∙◌, [], drop, ap, refl, arith}
use Rattle.std.proofs.lemmas.List.{drop_all}
use Rattle.std.proofs.lemmas.List.Sorted.{IsNonDecreasingBy-from_sort_by_key, answers_always}
use Rattle.jfs_ranges.specs.declared.edit.Edit.TheVariants.{NoRedo}
use Rattle.jfs_records.specs.Redo.{all_of}
use Rattle.jfs_redo_steps.proofs.ByPage.{sorted_entries, rising_from, all_added}
use Rattle.jfs_redo_steps.proofs.index.edits_by_page.Goals as goal

pub returns : goal.returns
returns c =
    let txs = c.args.transactions.now in
    let before = c.loop-tx.index.items in
    let after = c.sort_by_key.new.self.items in record {
      own = λ p low. sorted_entries before after (c.sort_by_key.ensures.stable (λ x. x.page) (answers_always _ _ _ (λ f a r g h. search rules))) p (record { page = p; edit = record { ref_ptr = (0, 0); now = NoRedo 0 } }) refl
          ∙ all_added c.args.count (all_of txs) (all_of (drop c.loop-tx.tx-index txs)) [] before (ap all_of (drop_all c.loop-tx.tx-index txs c.loop-tx-test.false)) c.loop-tx.invariant p low;
      rising = rising_from 0 after (λ d some. omega arith) (IsNonDecreasingBy-from_sort_by_key (λ x. x.page) _ c.in_ok-sort_by_key.ensures.sorted (λ a r q k. search rules));
    }
