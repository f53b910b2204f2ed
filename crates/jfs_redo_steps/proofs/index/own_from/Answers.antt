use Rattle.std.proofs.Common.{◌≡◌, ◌+◌, ℕ, List, ◌∙◌, ap, sym, subst, length, take, drop, arith}
use Rattle.std.proofs.lemmas.List.{drop-drop}
use Rattle.jfs_redo_steps.specs.declared.index.PageEdit.{PageEdit}
use Rattle.jfs_redo_steps.specs.ByPage.{edits_in, edits_at, RiseFrom}
use Rattle.jfs_redo_steps.proofs.ByPage.{firsts, first_own, rest_rises, rest_others}
use Rattle.jfs_redo_steps.proofs.index.own_from.Goals as goal

-- what lies behind the entries of a page
behind_is : (index rest own : List PageEdit) (at page n : ℕ) → rest ≡ drop at index → n ≡ firsts page rest → length own ≡ n → drop (at + length own) index ≡ drop (firsts page (drop at index)) (drop at index)
behind_is index rest own at page n is count len =
    ap (λ (k : ℕ). drop (at + k) index) (len ∙ count ∙ ap (firsts page) is) ∙ sym (drop-drop (firsts page (drop at index)) at index)

pub returns-clause-within : goal.returns-clause-within
returns-clause-within c = omega (arith, c.split_at-2.ensures.front_len, c.count_own.ensures.within, c.split_at.ensures.back_len, c.requires.there)

pub returns-clause-own : goal.returns-clause-own
returns-clause-own c =
    let index = c.args.index.now in
    let rest : c.split_at.result.1.now ≡ drop c.args.at index = c.split_at.ensures.back in
    ap edits_in (c.split_at-2.ensures.front ∙ ap (λ (n : ℕ). take n c.split_at.result.1.now) c.count_own.ensures.count)
    ∙ first_own c.args.page c.split_at.result.1.now (subst (RiseFrom c.args.page) (sym rest) c.requires.rising) ∙ ap (edits_at c.args.page) rest

pub returns-clause-rising : goal.returns-clause-rising
returns-clause-rising c =
    subst (RiseFrom (c.args.page + 1)) (sym (behind_is c.args.index.now c.split_at.result.1.now c.split_at-2.result.0.now c.args.at c.args.page c.count_own.result c.split_at.ensures.back c.count_own.ensures.count c.split_at-2.ensures.front_len))
    (rest_rises c.args.page (drop c.args.at c.args.index.now) c.requires.rising)

pub returns-clause-behind : goal.returns-clause-behind
returns-clause-behind c p low =
    ap (edits_at p) (behind_is c.args.index.now c.split_at.result.1.now c.split_at-2.result.0.now c.args.at c.args.page c.count_own.result c.split_at.ensures.back c.count_own.ensures.count c.split_at-2.ensures.front_len)
    ∙ rest_others c.args.page p (drop c.args.at c.args.index.now) low
